-- Repetitions of a rule without their front, or with one before them.
use Rattle.std.proofs.Common.{◌≡◌, ℕ, ◌+◌, ◌≤◌, arith, refl, sym, ap, subst, ◌∙◌, Option, Some, None}
use Rattle.std.proofs.Common.{List, [], ◌∷◌, ◌++◌, append_assoc, length, length-append, inl, inr}
use Rattle.ifs_lex.specs.declared.token.Token.{Token}
use Rattle.ifs_parse.specs.inner.Combined.{Progress, progress, Parse}
use Rattle.ifs_parse.specs.Rules.{Rule, Optional, Many, Enough, More, with_last}
use Rattle.ifs_parse.proofs.Exact.{Exact, Until, Any, inside}
use Rattle.ifs_expected_tokens.proofs.Fronts.{Split, split}

module _ {X : Type 0} (P : Rule X) where
  abbrev pub Values : List X → List Token → List X → List ℕ → Type 0
  Values = Many P with_last

  -- A repetition that begins with other values.
  pub restart : {a b : List X} {p : List Token} {ns : List ℕ} → Values a p b ns → (c : List X) → (d : List X) × Values c p d ns
  restart Enough c = (c, Enough)
  restart (More {x = x} h rest) c = let r = restart rest (with_last c x) in (r.0, More h r.1)

  -- Two repetitions, one after the other.
  pub joined : {a b d : List X} {p q : List Token} {n m : List ℕ} → Values a p b n → Values b q d m → Values a (p ++ q) d (n ++ m)
  joined Enough k = k
  joined {a = a} {d = d} {q = q} {m = m} (More {x = x} {front = front} {back = back} {before = before} {after = after} h rest) k =
      subst (λ (l : List ℕ). Values a ((front ++ back) ++ q) d l) (sym (append_assoc before after m))
      (subst (λ (l : List Token). Values a l d (before ++ (after ++ m))) (sym (append_assoc front back q)) (More h (joined rest k)))

  -- Each repetition has at least the values that it begins with.
  pub grows : {a b : List X} {p : List Token} {ns : List ℕ} → Values a p b ns → length a ≤ length b
  grows Enough = omega arith
  grows {a = a} (More {x = x} h rest) = let g = grows rest in omega (arith, g, length-append a (x ∷ []))

  -- What is left of a repetition behind a front of it.
  pub record Cut (r z : List Token) : Type 0 where
    pub from : List X
    pub made : List X
    pub rest : List Token
    pub notes : List ℕ
    pub said : Values from rest made notes
    pub whole : r ≡ rest ++ z

  module _ (read : Parse (Option X)) (none : List Token → Type 0) (exact : Exact read (Optional P) (Until none Any)) where
    -- Two values at the start of the same tokens leave the same tokens.
    same_rest : (x y : X) (p q r s : List Token) (n m : List ℕ) → P p x n → P q y m → p ++ r ≡ q ++ s → r ≡ s
    same_rest x y p q r s n m h k e =
        let a = exact.again p (Some x) n r [] h tt in
        let b = exact.again q (Some y) m s [] k tt in
        let c = sym a ∙ ap (λ (l : List Token). read (progress l [])) e ∙ b in
        ap (λ (v : Option X × Progress). v.1.left) (ap (inside (Some x, progress r n)) c)

    -- No value begins what cannot be next in a repetition.
    never_next : (x : X) (p r z : List Token) (n : List ℕ) → P p x n → none z → z ≡ p ++ r → ⊥
    never_next x p r z n h stop e =
        let a = exact.again p (Some x) n r [] h tt in
        let b = exact.again [] None [] z [] (refl, refl) stop in
        let c = sym b ∙ ap (λ (l : List Token). read (progress l [])) e ∙ a in
        let differ : None ≡ Some x = ap (λ (v : Option X × Progress). v.0) (ap (inside (None, progress z [])) c) in
        absurd (cc)

    -- A repetition up to what cannot be next begins with each other one.
    pub cut : {a b c d : List X} {done f : List Token} {n m : List ℕ} (z r : List Token) → Values a done b n → Values c f d m → f ++ z ≡ done ++ r → none z → Cut r z
    cut {c = c} {d = d} {f = f} {m = m} z r Enough k e stop = record { from = c; made = d; rest = f; notes = m; said = k; whole = sym e }
    cut z r (More {x = x} {front = front} {back = back} {before = before} h rest) Enough e stop =
        absurd (never_next x front (back ++ r) z before h stop (e ∙ append_assoc front back r))
    cut z r (More {x = x} {front = front} {back = back} {before = before} h rest) (More {x = y} {front = g} {back = k} {before = m} j more) e stop =
        let same : front ++ (back ++ r) ≡ g ++ (k ++ z) = sym (append_assoc front back r) ∙ sym e ∙ append_assoc g k z in
        cut z r rest more (sym (same_rest x y front g (back ++ r) (k ++ z) before m h j same)) stop

by_split : (a b : List Token) (x y : Token) → Split a b x y → length a ≡ length b → a ≡ b
by_split a b x y (inl same) size = same.0
by_split a b x y (inr longer) size =
    let more : length b ≡ length a + length (x ∷ longer.0) = ap length longer.1 ∙ length-append a (x ∷ longer.0) in absurd (omega (arith, more, size))

-- Lists that are the same with one more token were the same.
pub same_front : (a b : List Token) (x y : Token) → a ++ x ∷ [] ≡ b ++ y ∷ [] → a ≡ b
same_front a b x y e =
    let size : length a + 1 ≡ length b + 1 = sym (length-append a (x ∷ [])) ∙ ap length e ∙ length-append b (y ∷ []) in
    by_split a b x y (split a b x y [] e) (omega (arith, size))
