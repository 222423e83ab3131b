-- What tokens say as a whole.
use Rattle.std.proofs.Common.{◌≡◌, ℕ, refl, sym, ap, subst, ◌∙◌, Bool, true, false}
use Rattle.std.proofs.Common.{Ok, Err, List, [], ◌∷◌, ◌++◌, append_assoc, append-nil}
use Rattle.std.specs.Prelude.{Result}
use Rattle.ifs_base.specs.Results.{◌>>=◌}
use Rattle.ifs_lex.specs.declared.token.Token.{Token}
use Rattle.ifs_lex.specs.declared.token.What.{What}
use Rattle.ifs_lex.specs.declared.token.What.TheVariants as what
use Rattle.ifs_lex.specs.Expansion.{EndsOnce, Endless, is_end}
use Rattle.ifs_lex.specs.Numbered.{place_of}
use Rattle.ifs_parse.specs.declared.fault.ParseFault.{ParseFault}
use Rattle.ifs_parse.specs.declared.mark.Mark.TheVariants as mark
use Rattle.ifs_parse.specs.declared.tree.Item.{Item}
use Rattle.ifs_parse.specs.Files.{File, file}
use Rattle.ifs_parse.specs.Marks.{mark_of, is}
use Rattle.ifs_parse.specs.inner.Combined.{Progress, progress, Parse}
use Rattle.ifs_parse.specs.inner.Reading as reading
use Rattle.ifs_parse.specs.inner.Reading.{read_within}
use Rattle.ifs_parse.specs.Grammar as grammar
use Rattle.ifs_parse.specs.Grammar.{SaysWithin}
use Rattle.ifs_parse.proofs.Exact.{went, inside}
use Rattle.ifs_parse.proofs.Read.{of_words, taken, known, exact_items}

differs : {b : Bool} → b ≡ false → b ≡ true → ⊥
differs h k = absurd (cc)

not_nil : (before : List Token) (e : Token) (left : List Token) → before ++ e ∷ left ≡ [] → ⊥
not_nil [] e left h = absurd (cc)
not_nil (x ∷ before) e left h = absurd (cc)

-- A token with the mark of the end is the end.
pub end_is_end : (w : What) → is (mark_of w) mark.End ≡ true → is_end w ≡ true
unfolding is
end_is_end (what.Word word) h = absurd (differs (of_words (λ k. is k mark.End ≡ false) refl refl refl refl refl refl refl refl refl refl refl refl word) h)
end_is_end what.End h = refl
end_is_end _ h = absurd (cc)

-- Nothing comes after the end.
pub end_is_last : (before : List Token) (e : Token) (left : List Token) (front : List Token) (last : Token) → before ++ e ∷ left ≡ front ++ last ∷ []
    → is_end e.what ≡ true → Endless front → left ≡ []
end_is_last [] e left [] last same ends none = cc
end_is_last [] e left (f ∷ front) last same ends none =
    let first : e ≡ f = cc in absurd (differs (subst (λ (t : Token). is_end t.what ≡ false) (sym first) none.0) ends)
end_is_last (x ∷ before) e left [] last same ends none = absurd (not_nil before e left cc)
end_is_last (x ∷ before) e left (f ∷ front) last same ends none = end_is_last before e left front last (cc) ends none.1

module _ (fits : ℕ → Bool) (room : ℕ) where
  abbrev read_all : Parse (List Item)
  read_all = reading.items (reading.item (reading.part (reading.statement fits room)))

  -- The parser reads what tokens say.
  pub says_read : (tokens : List Token) (f : File) → SaysWithin fits room tokens f → read_within fits room tokens ≡ Ok f
  unfolding SaysWithin read_within
  says_read tokens f h =
      let e : read_all (progress tokens []) ≡ Ok (f.items, progress [] f.notes) =
      ap (λ (l : List Token). read_all (progress l [])) (sym (append-nil tokens)) ∙ (exact_items (reading.statement fits room) (grammar.IsStatement fits room) (known fits room)).again tokens f.items f.notes [] [] h tt in
      ap (λ (r : Result (List Item × Progress) ParseFault). r >>= λ r. Ok (file r.0 r.1.notes)) e

  -- Tokens that end once say what the parser reads.
  pub read_says : (tokens : List Token) (f : File) → EndsOnce tokens → read_within fits room tokens ≡ Ok f → SaysWithin fits room tokens f
  unfolding SaysWithin read_within
  read_says tokens f ends e =
      let w = went (read_all (progress tokens [])) (λ r. Ok (file r.0 r.1.notes)) f e in
      let g = (exact_items (reading.statement fits room) (grammar.IsStatement fits room) (known fits room)).reads (progress tokens []) w.on.0 w.on.1 tt w.was in
      let h = g.said in
      let last : tokens ≡ h.front ++ h.second.first.token ∷ w.on.1.left =
      g.taken ∙ ap (λ (l : List Token). l ++ w.on.1.left) (h.tokens_are ∙ ap (λ (l : List Token). h.front ++ l) (h.second.tokens_are ∙ rw (h.second.first.only, h.second.second.none)))
      ∙ append_assoc h.front (h.second.first.token ∷ []) w.on.1.left in
      let none : w.on.1.left ≡ [] = end_is_last h.front h.second.first.token w.on.1.left ends.front ends.last (sym last ∙ ends.whole)
      (end_is_end h.second.first.token.what (taken (is (mark_of h.second.first.token.what) mark.End) (place_of h.second.first.token) h.second.x h.second.first.stands)) ends.once in
      let whole : g.tokens ≡ tokens = sym (g.taken ∙ ap (λ (l : List Token). g.tokens ++ l) none ∙ append-nil g.tokens) in
      let same : file w.on.0 w.on.1.notes ≡ f = ap (inside f) w.then_is in
      subst (λ (k : File). grammar.AreItems (grammar.IsItem (grammar.IsPart (grammar.IsStatement fits room))) tokens k.items k.notes) same
      (subst (λ (ns : List ℕ). grammar.AreItems (grammar.IsItem (grammar.IsPart (grammar.IsStatement fits room))) tokens w.on.0 ns) (sym g.noted)
      (subst (λ (l : List Token). grammar.AreItems (grammar.IsItem (grammar.IsPart (grammar.IsStatement fits room))) l w.on.0 g.notes) whole h))

  -- Tokens say at most one file.
  pub one_file : (tokens : List Token) (f g : File) → SaysWithin fits room tokens f → SaysWithin fits room tokens g → f ≡ g
  one_file tokens f g h k = ap (inside f) (sym (says_read tokens f h) ∙ says_read tokens g k)

  -- Tokens that say a file have no fault.
  pub says_no_fault : (tokens : List Token) (f : File) (fault : ParseFault) → SaysWithin fits room tokens f → read_within fits room tokens ≡ Err fault → ⊥
  says_no_fault tokens f fault h e = let k = sym (says_read tokens f h) ∙ e in absurd (cc)
