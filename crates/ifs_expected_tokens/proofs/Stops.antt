-- The stop of tokens, by the fault with which they stop.
use Rattle.std.proofs.Common.{◌≡◌, ◌∙◌, inl, inr, sym, ap, subst, ℕ, suc, ◌+◌, ◌<◌, arith, Option, Some, None, List, [], ◌∷◌, ◌++◌, length, length-append, take}
use Rattle.std.specs.Option.{IfSome}
use Rattle.std.proofs.Math.Seq.{take-append_seam}
use Rattle.ifs_base.specs.declared.span.Span.{Span}
use Rattle.ifs_lex.specs.declared.token.Token.{Token}
use Rattle.ifs_lex.specs.declared.token.TokenPlace.{TokenPlace}
use Rattle.ifs_lex.specs.Expansion.{Endless, EndsOnce}
use Rattle.ifs_lex.specs.Numbered.{place_of, AreNumbered, HaveNumbers}
use Rattle.ifs_parse.specs.declared.fault.ParseFault.{ParseFault}
use Rattle.ifs_parse.specs.Grammar.{IsAt, fault_place, StopsAt}
use Rattle.ifs_expected_tokens.specs.declared.kind.Kind.{Kind}
use Rattle.ifs_expected_tokens.specs.Expected.{AreExpected, IsFront, StopsBy}
use Rattle.ifs_expected_tokens.specs.declared.stopping.Stop.{Stop}
use Rattle.ifs_expected_tokens.proofs.Fronts.{Split, split, stops_there}

numbered_front : (n : ℕ) (a b : List Token) → HaveNumbers n (a ++ b) → HaveNumbers n a
numbered_front n [] b h = tt
numbered_front n (t ∷ a) b h = (h.0, numbered_front (suc n) a b h.1)

endless_front : (a b : List Token) → Endless (a ++ b) → Endless a
endless_front [] b h = tt
endless_front (t ∷ a) b h = (h.0, endless_front a b h.1)

endless_by : (a front : List Token) (t e : Token) → Endless front → Split a front t e → Endless a
endless_by a front t e h (inl same) = subst Endless (sym same.0) h
endless_by a front t e h (inr longer) = endless_front a (t ∷ longer.0) (subst Endless longer.1 h)

module _ (tokens : List Token) (fault : ParseFault) (place : TokenPlace) (is : fault_place fault ≡ Some place) (numbered : AreNumbered tokens) (h : StopsAt tokens fault) where
  number_is : place.number ≡ length h.front
  number_is = ap (λ (p : TokenPlace). p.number) (sym (stops_there tokens fault place h is)) ∙ h.number numbered

  -- The place is one of the tokens.
  pub is_within : place.number < length tokens
  is_within =
      let size : length tokens ≡ length h.front + length (h.token ∷ h.rest) = ap length h.whole ∙ length-append h.front (h.token ∷ h.rest) in
      omega (arith, number_is, size)

  -- The tokens before the place are those that can go on.
  pub front_is : take place.number tokens ≡ h.front
  front_is = ap (λ (p : ℕ × List Token). take p.0 p.1) (λ i. (number_is i, h.whole i)) ∙ take-append_seam h.front (h.token ∷ h.rest)

  pub is_front : EndsOnce tokens → IsFront (take place.number tokens)
  is_front ends =
      let numbers : AreNumbered h.front = numbered_front 0 h.front (h.token ∷ h.rest) (subst AreNumbered h.whole numbered) in
      let endless : Endless h.front = endless_by h.front ends.front h.token ends.last ends.once (split h.front ends.front h.token ends.last h.rest (sym h.whole ∙ ends.whole)) in
      subst IsFront (sym front_is) (numbers, endless)

  pub stops_by : (front : List Token) (index : ℕ) (span : Span) (kinds : List Kind) → front ≡ take place.number tokens → index ≡ place.number → span ≡ place.span
      → AreExpected front kinds → StopsBy tokens index span kinds
  stops_by front index span kinds same at spans expected = record {
    front = h.front;
    token = h.token;
    rest = h.rest;
    whole = h.whole;
    can = (h.tail, h.file, h.can);
    stop = record {
      number = sym (at ∙ number_is);
      at = ap (λ (p : TokenPlace). p.span) (stops_there tokens fault place h is) ∙ sym spans;
      cannot = h.cannot;
      expected = subst (λ (l : List Token). AreExpected l kinds) (same ∙ front_is) expected;
    };
  }

  pub some_stop : (front : List Token) (found : Option Stop) → front ≡ take place.number tokens → IfSome found (λ stop. (stop.index ≡ place.number) × (stop.span ≡ place.span))
      → IfSome found (λ stop. AreExpected front stop.kinds.items) → IfSome found (λ stop. StopsBy tokens stop.index stop.span stop.kinds.items)
  some_stop front None same at expected = tt
  some_stop front (Some stop) same at expected = stops_by front stop.index stop.span stop.kinds.items same at.0 at.1 expected

nowhere_by : (fault : ParseFault) (place : TokenPlace) → IsAt fault place → fault_place fault ≡ None → ⊥
nowhere_by fault place (inl e) none = let same : Some place ≡ None = sym (ap fault_place e) ∙ none in absurd (cc)
nowhere_by fault place (inr (inl e)) none = let same : Some place ≡ None = sym (ap fault_place e) ∙ none in absurd (cc)
nowhere_by fault place (inr (inr e)) none = let same : Some place ≡ None = sym (ap fault_place e) ∙ none in absurd (cc)

-- Tokens that stop do so at a place.
pub not_nowhere : (tokens : List Token) (fault : ParseFault) → StopsAt tokens fault → fault_place fault ≡ None → ⊥
not_nowhere tokens fault h none = nowhere_by fault (place_of h.token) h.place none
