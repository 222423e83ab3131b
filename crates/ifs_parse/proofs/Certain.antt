-- Tokens stop with the fault that is certain at once.
use Rattle.std.proofs.Common.{◌≡◌, ℕ, zero, suc, Bool, true, false, cond, List, [], ◌∷◌, length}
use Rattle.std.proofs.Common.{Option, Some, None, Result, Ok, Err, refl, sym, ap, ◌∙◌, option_map}
use Rattle.std.specs.Option.{option_map_or}
use denote.Enum.Bare.{false_same}
use Rattle.ifs_base.specs.Results.{◌>>=◌}
use Rattle.ifs_lex.specs.declared.token.Token.{Token}
use Rattle.ifs_lex.specs.declared.token.TokenPlace.{TokenPlace}
use Rattle.ifs_lex.specs.Numbered.{place_of}
use Rattle.ifs_parse.specs.contracts.mark.Mark.{the_type}
use Rattle.ifs_parse.specs.declared.mark.Mark.{Mark}
use Rattle.ifs_parse.specs.declared.mark.Mark.TheVariants as mark
use Rattle.ifs_parse.specs.declared.fault.ParseFault.{ParseFault}
use Rattle.ifs_parse.specs.declared.fault.ParseFault.TheVariants.{Unexpected}
use Rattle.ifs_parse.specs.declared.tree.Name.{Name}
use Rattle.ifs_parse.specs.declared.tree.Test.{Test}
use Rattle.ifs_parse.specs.declared.tree.Wish.{Wish}
use Rattle.ifs_parse.specs.declared.tree.Part.{Part}
use Rattle.ifs_parse.specs.declared.tree.Part.TheVariants.{Init, Do}
use Rattle.ifs_parse.specs.declared.tree.Item.{Item}
use Rattle.ifs_parse.specs.declared.tree.Item.TheVariants.{InitState, Always}
use Rattle.ifs_parse.specs.declared.block.Statement.{Statement}
use Rattle.ifs_parse.specs.Files.{File, file}
use Rattle.ifs_parse.specs.Marks.{mark_of, is}
use Rattle.ifs_parse.specs.inner.Combined.{Progress, progress, after_token, Parse, ◌▸◌, pure, either, begins}
use Rattle.ifs_parse.specs.inner.Combined.{no_more, unexpected, expected, accepted, many_from}
use Rattle.ifs_parse.specs.Rules.{with_last}
use Rattle.ifs_parse.specs.inner.Reading.{string, run, set_state, deep, statement_over, conditional_over, condition}
use Rattle.ifs_parse.specs.inner.Reading.{block}
use Rattle.ifs_parse.specs.inner.Reading.{statement, part, state_item, item, items, read_within}
use Rattle.ifs_parse.specs.AtOnce.{may_come_first, certain_of_tokens}

-- `either` goes on without a mark that is not next.
passed : {X : Type 0} (m : Mark) (yes_then : TokenPlace → Parse X) (else_then : Parse X) (s : Progress) → accepted m s.left ≡ None → either m yes_then else_then s ≡ else_then s
passed m yes_then else_then s e = ap (λ o. option_map_or (λ place. yes_then place (after_token s)) o (else_then s)) e

-- The next token has none of the marks with which a file can begin.
record NoneFirst (ts : List Token) : Type 0 where
  pub init_state : accepted mark.InitState ts ≡ None
  pub state_word : accepted mark.State ts ≡ None
  pub init : accepted mark.Init ts ≡ None
  pub conditional : accepted mark.If ts ≡ None
  pub run : accepted mark.Run ts ≡ None
  pub set_state : accepted mark.SetState ts ≡ None
  pub end : accepted mark.End ts ≡ None

not_first : (t : Token) (rest : List Token) (m : Mark) → may_come_first (mark_of t.what) ≡ false → may_come_first m ≡ true → accepted m (t ∷ rest) ≡ None
unfolding is
not_first t rest m h k =
    ap (λ b. cond b (Some (place_of t)) None) (false_same the_type tt (mark_of t.what) m (λ e. let clash = sym h ∙ ap may_come_first e ∙ k in absurd (cc)))

none_first : (t : Token) (rest : List Token) → may_come_first (mark_of t.what) ≡ false → NoneFirst (t ∷ rest)
none_first t rest h = record {
  init_state = not_first t rest mark.InitState h refl;
  state_word = not_first t rest mark.State h refl;
  init = not_first t rest mark.Init h refl;
  conditional = not_first t rest mark.If h refl;
  run = not_first t rest mark.Run h refl;
  set_state = not_first t rest mark.SetState h refl;
  end = not_first t rest mark.End h refl;
}

-- The same of `begins`.
passed_optional : {X : Type 0} (m : Mark) (yes_then : TokenPlace → Parse X) (else_then : Parse (Option X)) (s : Progress) → accepted m s.left ≡ None → begins m yes_then else_then s ≡ else_then s
passed_optional m yes_then else_then s e = passed m (λ place. yes_then place ▸ λ x. pure (Some x)) else_then s e

-- No statement, no part and no item comes.
no_statement_over : (conditional : TokenPlace → Parse (Statement Test Name Wish)) (s : Progress) → NoneFirst s.left → statement_over conditional s ≡ Ok (None, s)
no_statement_over conditional s h =
    passed_optional mark.If conditional (begins mark.Run (λ _. run) (begins mark.SetState set_state no_more)) s h.conditional ∙
    (passed_optional mark.Run (λ _. run) (begins mark.SetState set_state no_more) s h.run ∙ passed_optional mark.SetState set_state no_more s h.set_state)

module _ (fits : ℕ → Bool) where
  no_statement : (room : ℕ) (s : Progress) → NoneFirst s.left → statement fits room s ≡ Ok (None, s)
  no_statement zero s h = no_statement_over deep s h
  no_statement (suc room) s h = no_statement_over (λ _. conditional_over (condition fits room) (block (statement fits room))) s h

  no_part : (room : ℕ) (s : Progress) → NoneFirst s.left → part (statement fits room) s ≡ Ok (None, s)
  no_part room s h =
      passed_optional mark.Init (λ place. block (statement fits room) ▸ λ inner. pure (Init place inner)) (statement fits room ▸ λ t. pure (option_map Do t)) s h.init ∙
      ap (λ (r : Result (Option (Statement Test Name Wish) × Progress) ParseFault). r >>= λ r. Ok (option_map Do r.0, r.1)) (no_statement room s h)

  no_item : (room : ℕ) (s : Progress) → NoneFirst s.left → item (part (statement fits room)) s ≡ Ok (None, s)
  no_item room s h =
      passed_optional mark.InitState (λ place. string ▸ λ name. pure (InitState place name))
      (begins mark.State (λ _. state_item (part (statement fits room))) (part (statement fits room) ▸ λ p. pure (option_map Always p))) s h.init_state ∙
      (passed_optional mark.State (λ _. state_item (part (statement fits room))) (part (statement fits room) ▸ λ p. pure (option_map Always p)) s h.state_word ∙
      ap (λ (r : Result (Option Part × Progress) ParseFault). r >>= λ r. Ok (option_map Always r.0, r.1)) (no_part room s h))

  many_none : (room n : ℕ) (s : Progress) → NoneFirst s.left → many_from (item (part (statement fits room))) with_last n [] s ≡ Ok ([], s)
  many_none room zero s h = refl
  many_none room (suc n) s h =
      ap (λ (r : Result (Option Item × Progress) ParseFault). r >>= λ r. option_map_or (λ x. many_from (item (part (statement fits room))) with_last n (with_last [] x) r.1) r.0 (Ok ([], r.1))) (no_item room s h)

  none_read : (room : ℕ) (s : Progress) → NoneFirst s.left → items (item (part (statement fits room))) s ≡ unexpected s
  none_read room s h =
      ap (λ (r : Result (List Item × Progress) ParseFault). r >>= λ r. expected mark.End r.1 >>= λ q. Ok (r.0, q.1)) (many_none room (length s.left) s h) ∙
      ap (λ (r : Result (TokenPlace × Progress) ParseFault). r >>= λ q. Ok ([], q.1)) (passed mark.End pure unexpected s h.end)

  unexpected_first : (room : ℕ) (t : Token) (rest : List Token) → may_come_first (mark_of t.what) ≡ false → read_within fits room (t ∷ rest) ≡ Err (Unexpected (place_of t))
  unfolding read_within
  unexpected_first room t rest h =
      ap (λ (r : Result (List Item × Progress) ParseFault). r >>= λ r. Ok (file r.0 r.1.notes)) (none_read room (progress (t ∷ rest) []) (none_first t rest h))

  -- A fault, or else a file.
  abbrev told : Option ParseFault → Result File ParseFault
  told None = Ok (file [] [])
  told (Some fault) = Err fault

  by_first : (b : Bool) (room : ℕ) (t : Token) (rest : List Token) (fault : ParseFault) → may_come_first (mark_of t.what) ≡ b → cond b None (Some (Unexpected (place_of t))) ≡ Some fault
      → read_within fits room (t ∷ rest) ≡ Err fault
  by_first true room t rest fault e h = absurd (cc)
  by_first false room t rest fault e h = unexpected_first room t rest e ∙ ap told h

  pub certain_told : (room : ℕ) (tokens : List Token) (fault : ParseFault) → certain_of_tokens tokens ≡ Some fault → read_within fits room tokens ≡ Err fault
  certain_told room [] fault h = absurd (cc)
  certain_told room (t ∷ rest) fault h = by_first (may_come_first (mark_of t.what)) room t rest fault refl h
