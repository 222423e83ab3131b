-- The fault of a tree names a token of its text.
use Rattle.std.proofs.Common.{◌≡◌, ◌∙◌, inl, inr, refl, sym, ap, subst, ℕ, suc, ◌+◌, arith, Bool, true, false, cond, Some, None}
use Rattle.std.proofs.Common.{List, [], ◌∷◌, ◌++◌, length, length-append, append_assoc}
use Rattle.std.specs.Prelude.{Option, option_map}
use Rattle.std.specs.List.{AllByRecursion, slice_get}
use Rattle.ifs_lex.specs.declared.token.Token.{Token}
use Rattle.ifs_lex.specs.declared.token.TokenPlace.{TokenPlace}
use Rattle.ifs_lex.specs.Numbered as numbered
use Rattle.ifs_lex.specs.Numbered.{AreNumbered, HaveNumbers}
use Rattle.ifs_parse.specs.Files.{File}
use Rattle.ifs_parse.specs.Grammar.{Says}
use Rattle.ifs_parse.specs.Marks.{mark_of, is as is_mark}
use Rattle.ifs_parse.specs.Words.{marked, name_of, text_of}
use Rattle.ifs_parse.specs.declared.mark.Mark.{Mark}
use Rattle.ifs_parse.specs.declared.tree.Name.{Name}
use Rattle.ifs_parse.specs.declared.tree.Item.{Item}
use Rattle.ifs_policy.specs.declared.fault.ResolveFault.{ResolveFault}
use Rattle.ifs_policy.specs.declared.fault.ResolveFault.TheVariants.{NoState, StateTwice, SecondInit}
use Rattle.ifs_policy.specs.declared.fault.ResolveFault.TheVariants.{SetStateInInit, TestInInit, TableFull}
use Rattle.ifs_policy.specs.declared.fault.ResolveFault.TheVariants.{BadText, UnknownState, Memory}
use Rattle.ifs_policy.specs.declared.mention.Mention.TheVariants.{Interface, External, Command, Defined}
use Rattle.ifs_policy.specs.declared.mention.Mention.TheVariants.{Target, Init, InitState, SetState}
use Rattle.ifs_policy.specs.declared.names.Names.{Names}
use Rattle.ifs_policy.specs.Mentions.{Mentioned, mentions_of}
use Rattle.ifs_policy.specs.Tables.{after, no_names, tables_of}
use Rattle.ifs_policy.specs.Faults.{FirstBroken, FirstUnknown, IsPlaceOf, IsTreeRefused, NamesToken, no_state, broken, unknown}
use Rattle.ifs_policy.proofs.OneRefusal.{broken_here, fault_place, place_of, string_place}
use Rattle.ifs_policy.proofs.Said.{OfMention, OfMentions, said_mentions}

-- A token is the one with its number.
abbrev IsIn : List Token → Token → Type 0
IsIn tokens t = slice_get tokens t.number ≡ Some t

get_behind : (front : List Token) (t : Token) (rest : List Token) → slice_get (front ++ t ∷ rest) (length front) ≡ Some t
get_behind [] t rest = refl
get_behind (x ∷ front) t rest = get_behind front t rest

all_in : (front rest : List Token) → HaveNumbers (length front) rest → AllByRecursion (IsIn (front ++ rest)) rest
all_in front [] h = tt
all_in front (t ∷ rest) h =
    let whole : (front ++ t ∷ []) ++ rest ≡ front ++ t ∷ rest = append_assoc front (t ∷ []) rest in
    let size : suc (length front) ≡ length (front ++ t ∷ []) = let l = length-append front (t ∷ []) in omega (arith, l) in (
      ap (slice_get (front ++ t ∷ rest)) h.0 ∙ get_behind front t rest,
      subst (λ (l : List Token). AllByRecursion (IsIn l) rest) whole (all_in (front ++ t ∷ []) rest (subst (λ (n : ℕ). HaveNumbers n rest) size h.1)),
    )

named_by : (place : TokenPlace) (text : Option (List ℕ)) (name : Name) → option_map (λ text. record { text = text; place = place }) text ≡ Some name → place ≡ name.place
named_by place (Some text) name e = let same : record { text = text; place = place } ≡ name = cc in ap (λ (n : Name). n.place) same
named_by place None name e = absurd (cc)

marked_by : (b : Bool) (place other : TokenPlace) → cond b (Some place) None ≡ Some other → place ≡ other
marked_by true place other e = cc
marked_by false place other e = absurd (cc)

module _ (tokens : List Token) where
  named : (t : Token) (name : Name) → IsIn tokens t → name_of t ≡ Some name → IsPlaceOf tokens name.place
  named t name is e = subst (IsPlaceOf tokens) (named_by (numbered.place_of t) (text_of t.what) name e) (t, is, refl)

  placed : (m : Mark) (t : Token) (place : TokenPlace) → IsIn tokens t → marked m t ≡ Some place → IsPlaceOf tokens place
  placed m t place is e = subst (IsPlaceOf tokens) (marked_by (is_mark (mark_of t.what) m) (numbered.place_of t) place e) (t, is, refl)

  abbrev AtTokens : List Mentioned → Type 0
  AtTokens = OfMentions (λ name. IsPlaceOf tokens name.place) (IsPlaceOf tokens)

  at_mention : (mention : Mentioned) → OfMention (λ name. IsPlaceOf tokens name.place) (IsPlaceOf tokens) mention → IsPlaceOf tokens (place_of mention)
  at_mention (Interface name) h = h
  at_mention (External half command period) h = h.0
  at_mention (Command text) h = h
  at_mention (Defined name) h = h
  at_mention (Target name) h = h
  at_mention (Init owner place) h = h
  at_mention (InitState place) h = h
  at_mention (SetState half place) h = h

  names_token : (fault : ResolveFault) → IsPlaceOf tokens (fault_place fault) → NamesToken tokens fault
  names_token Memory h = tt
  names_token (NoState line) h = tt
  names_token (StateTwice place) h = h
  names_token (UnknownState place) h = h
  names_token (SecondInit place) h = h
  names_token (SetStateInInit place) h = h
  names_token (TestInInit place) h = h
  names_token (TableFull place) h = h
  names_token (BadText place) h = h

  at_broken : (names : Names) (mentions : List Mentioned) (fault : ResolveFault) → AtTokens mentions → FirstBroken names mentions fault → NamesToken tokens fault
  at_broken names [] fault each h = absurd h
  at_broken names (mention ∷ rest) fault each (inl first) =
      names_token fault (subst (IsPlaceOf tokens) (sym (broken_here names mention fault first.broken)) (at_mention mention each.0))
  at_broken names (mention ∷ rest) fault each (inr later) = at_broken (after names mention) rest fault each.1 later.1

  at_unknown : (states : List (List ℕ)) (mentions : List Mentioned) (place : TokenPlace) → AtTokens mentions → FirstUnknown states mentions place → IsPlaceOf tokens place
  at_unknown states [] place each h = absurd h
  at_unknown states (mention ∷ rest) place each (inl first) =
      subst (IsPlaceOf tokens) (sym (string_place (λ text. Unit {0}) place mention first.0)) (at_mention mention each.0)
  at_unknown states (mention ∷ rest) place each (inr later) = at_unknown states rest place each.1 later.1

  refused_by : (items : List Item) (fault : ResolveFault) → AtTokens (mentions_of items) → IsTreeRefused items fault → NamesToken tokens fault
  refused_by items _ each (no_state h) = tt
  refused_by items _ each (broken fault some h) = at_broken no_names (mentions_of items) fault each h
  refused_by items _ each (unknown place some sound h) = at_unknown (tables_of (mentions_of items)).states (mentions_of items) place each h

-- The fault of a tree that numbered tokens say names one of them.
pub refused_at : (tokens : List Token) (file : File) (fault : ResolveFault) → AreNumbered tokens → Says tokens file → IsTreeRefused file.items fault → NamesToken tokens fault
refused_at tokens file fault numbers said refused =
    refused_by tokens file.items fault
    (said_mentions (IsIn tokens) (λ name. IsPlaceOf tokens name.place) (IsPlaceOf tokens) (named tokens) (placed tokens) tokens file (all_in [] tokens numbers) said) refused
