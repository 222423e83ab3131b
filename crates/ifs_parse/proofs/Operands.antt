-- Operands that the parser puts together while it reads them say what the whole list of them says.
use Rattle.std.proofs.Common.{◌≡◌, inl, inr, ℕ, ◌≤◌, refl, sym, ap, subst, ◌∙◌, Bool, true, false, ◌&&◌, ◌||◌, List}
use Rattle.std.proofs.Common.{[], ◌∷◌, ◌++◌, length, map, append_assoc, arith}
use Rattle.std.specs.List.{Any, list_any}
use Rattle.std.proofs.lemmas.List.{map-append}
use Rattle.std.proofs.lemmas.List.Folds.{list_any-append, Any-from_list_any, list_any-from_Any}
use Rattle.ifs_lex.specs.declared.token.Token.{Token}
use Rattle.ifs_parse.specs.declared.mark.Mark.TheVariants as mark
use Rattle.ifs_parse.specs.declared.tree.Test.{Test}
use Rattle.ifs_parse.specs.declared.parser.Operand.{Operand}
use Rattle.ifs_parse.specs.Trees as tree
use Rattle.ifs_parse.specs.Views.{all_of, any_of}
use Rattle.ifs_parse.specs.inner.Reading.{Others, others, operand, with_operand}
use Rattle.ifs_parse.specs.Rules.{Rule, GivesValue, TheMark, ◌⨟◌, ◌or◌, Noted, Many, Enough, More, with_last}
use Rattle.ifs_parse.specs.Grammar as grammar
use Rattle.ifs_parse.specs.Grammar.{Operands, operands, whole, is_chain, conjunction}
use Rattle.ifs_parse.proofs.RuleLaws.{in_turn, rejoined, moved, Made, made_of, gives_made, same_within, marked_within, noted_within}

-- The rules over what the parser keeps of operands: the condition so far, and whether one of them is a chain.
abbrev pub IsChain : Rule (tree.Condition Test) → tree.Condition Test → Rule Operand
IsChain one first = one ⨟ λ second. Many (TheMark mark.And ⨟ λ _. one) with_last [] ⨟ λ rest. GivesValue (operand (all_of (tree.And first second) rest) true)

abbrev pub IsAll : Rule (tree.Condition Test) → Rule Operand
IsAll one = one ⨟ λ first. (TheMark mark.And ⨟ λ _. IsChain one first) or GivesValue (operand first false)

abbrev pub AreAlternatives : Rule Operand → Operand → Rule (tree.Condition Test × Bool)
AreAlternatives all first =
    all ⨟ λ second. Many (TheMark mark.Or ⨟ λ _. all) with_operand (others [] (first.is_chain || second.is_chain)) ⨟ λ more.
    GivesValue (any_of (tree.Or first.condition second.condition) more.rest, more.is_mixed)

abbrev pub IsAny : Rule Operand → Rule (tree.Condition Test)
IsAny all = all ⨟ λ first. (TheMark mark.Or ⨟ λ place. Noted place.span.line (AreAlternatives all first)) or GivesValue first.condition

-- What the parser keeps of the operands of `&&`.
abbrev pub kept : Operands (tree.Condition Test) → Operand
kept o = operand (conjunction o) (is_chain o)

-- A repetition that has some values goes on from those values.
begun : {X : Type 0} {P : Rule X} (c a : List X) {b : List X} {p : List Token} {ns : List ℕ} → Many P with_last a p b ns → Many P with_last (c ++ a) p (c ++ b) ns
begun c a Enough = Enough
begun {P = P} c a (More {b = b} {x = x} {front = front} {back = back} {before = before} {after = after} h rest) =
    More h (subst (λ l. Many P with_last l back (c ++ b) after) (sym (append_assoc c a (x ∷ []))) (begun c (with_last a x) rest))

-- What comes after the values that a repetition has.
record GoesOn {X : Type 0} (P : Rule X) (c a b : List X) (p : List Token) (ns : List ℕ) : Type 0 where
  pub more : List X
  pub is_whole : b ≡ c ++ more
  pub said : Many P with_last a p more ns

goes_on : {X : Type 0} {P : Rule X} (c a d : List X) {b : List X} {p : List Token} {ns : List ℕ} → d ≡ c ++ a → Many P with_last d p b ns → GoesOn P c a b p ns
goes_on c a d e Enough = record { more = a; is_whole = e; said = Enough }
goes_on {P = P} c a d e (More {x = x} {front = front} {back = back} {before = before} {after = after} h rest) =
    let g = goes_on c (with_last a x) (with_last d x) (ap (λ l. l ++ x ∷ []) e ∙ append_assoc c a (x ∷ [])) rest in
    record { more = g.more; is_whole = g.is_whole; said = More h g.said }

module _ (one : Rule (tree.Condition Test)) where
  abbrev AndOne : Rule (tree.Condition Test)
  AndOne = TheMark mark.And ⨟ λ _. one

  abbrev Conjoined : tree.Condition Test → Rule Operand
  Conjoined first = (TheMark mark.And ⨟ λ _. IsChain one first) or GivesValue (operand first false)

  kept_chain : (first : tree.Condition Test) {c : List (tree.Condition Test)} {p : List Token} {ns : List ℕ} → Many AndOne with_last [] p c ns → Conjoined first p (kept (operands first c)) ns
  kept_chain first Enough = inr (record { none = refl; is_value = refl; unnoted = refl })
  kept_chain first (More {b = c} {x = second} {front = front} {back = back} {before = before} {after = after} h rest) =
      let g = goes_on (second ∷ []) [] (second ∷ []) refl rest in
      let same : kept (operands first c) ≡ operand (all_of (tree.And first second) g.more) true = ap (λ l. kept (operands first l)) g.is_whole in
      let tail : IsChain one first (h.back ++ back) (kept (operands first c)) (h.after ++ after) = in_turn _ _ _ _ second (kept (operands first c)) h.second (gives_made g.more g.said same) in
      inl (moved (TheMark mark.And ⨟ λ _. IsChain one first)
      (sym (ap (λ (l : List Token). l ++ back) h.tokens_are ∙ append_assoc h.front h.back back))
      (sym (ap (λ (l : List ℕ). l ++ after) h.notes_are ∙ append_assoc h.before h.after after))
      (in_turn _ _ _ _ h.x (kept (operands first c)) h.first tail))

  -- The parser keeps the operands of `&&`.
  pub kept_all : (p : List Token) (o : Operands (tree.Condition Test)) (ns : List ℕ) → grammar.IsAll one p o ns → IsAll one p (kept o) ns
  kept_all p o ns h =
      let m = made_of h.second in
      rejoined h h.x (kept o) h.first (subst (λ (k : Operands (tree.Condition Test)). Conjoined h.x h.back (kept k) h.after) (sym m.made) (kept_chain h.x m.said))

  chain_kept : (first : tree.Condition Test) (p : List Token) (k : Operand) (ns : List ℕ) → Conjoined first p k ns → Made (Many AndOne with_last []) (λ c. kept (operands first c)) p k ns
  chain_kept first p k ns (inr h) = record { x = []; said = moved (λ l c n. Many AndOne with_last [] l c n) (sym h.none) (sym h.unnoted) Enough; made = h.is_value }
  chain_kept first p k ns (inl h) =
      let g = h.second in
      let m = made_of g.second in
      record {
        x = g.x ∷ m.x;
        said = moved (λ l c n. Many AndOne with_last [] l c n)
            (sym (h.tokens_are ∙ ap (λ (l : List Token). h.front ++ l) g.tokens_are ∙ sym (append_assoc h.front g.front g.back)))
            (sym (h.notes_are ∙ ap (λ (l : List ℕ). h.before ++ l) g.notes_are ∙ sym (append_assoc h.before g.before g.after)))
            (More (in_turn _ _ _ _ h.x g.x h.first g.first) (begun (g.x ∷ []) [] m.said));
        made = m.made;
      }

  -- What the parser keeps comes from operands.
  pub all_kept : (p : List Token) (k : Operand) (ns : List ℕ) → IsAll one p k ns → Made (grammar.IsAll one) kept p k ns
  all_kept p k ns h =
      let m = chain_kept h.x h.back k h.after h.second in
      record {
        x = operands h.x m.x;
        said = rejoined h h.x (operands h.x m.x) h.first (gives_made m.x m.said refl);
        made = m.made;
      }

or_none : (b : Bool) → b ≡ (b || false)
or_none true = refl
or_none false = refl

or_or : (a b c : Bool) → ((a || b) || c) ≡ (a || (b || c))
or_or true b c = refl
or_or false b c = refl

-- What the parser keeps of the operands of `||` after the first two.
abbrev gathered : Bool → List (Operands (tree.Condition Test)) → Others
gathered b xs = others (map conjunction xs) (b || list_any is_chain xs)

gathers : (b : Bool) (xs : List (Operands (tree.Condition Test))) (x : Operands (tree.Condition Test)) → with_operand (gathered b xs) (kept x) ≡ gathered b (with_last xs x)
gathers b xs x =
    let any : ((b || list_any is_chain xs) || is_chain x) ≡ (b || list_any is_chain (with_last xs x)) =
    or_or b (list_any is_chain xs) (is_chain x) ∙ ap (λ t. b || t) (ap (λ t. list_any is_chain xs || t) (or_none (is_chain x)) ∙ sym (list_any-append is_chain xs (x ∷ []))) in
    λ i. others (sym (map-append conjunction xs (x ∷ [])) i) (any i)

module _ (all : Rule (Operands (tree.Condition Test))) (All : Rule Operand)
    (to : (p : List Token) (o : Operands (tree.Condition Test)) (ns : List ℕ) → all p o ns → All p (kept o) ns)
    (back : (p : List Token) (k : Operand) (ns : List ℕ) → All p k ns → Made all kept p k ns) where
  abbrev OrAll : Rule Operand
  OrAll = TheMark mark.Or ⨟ λ _. All

  abbrev OrWhole : Rule (Operands (tree.Condition Test))
  OrWhole = TheMark mark.Or ⨟ λ _. all

  or_kept : (p : List Token) (o : Operands (tree.Condition Test)) (ns : List ℕ) → OrWhole p o ns → OrAll p (kept o) ns
  or_kept p o ns h = rejoined h h.x (kept o) h.first (to h.back o h.after h.second)

  kept_or : (p : List Token) (k : Operand) (ns : List ℕ) → OrAll p k ns → Made OrWhole kept p k ns
  kept_or p k ns h =
      let m = back h.back k h.after h.second in
      record { x = m.x; said = rejoined h h.x m.x h.first m.said; made = m.made }

  many_kept : (b : Bool) (xs : List (Operands (tree.Condition Test))) (o : Others) {ys : List (Operands (tree.Condition Test))} {p : List Token} {ns : List ℕ} → o ≡ gathered b xs
      → Many OrWhole with_last xs p ys ns → Many OrAll with_operand o p (gathered b ys) ns
  many_kept b xs o e Enough = subst (λ (g : Others). Many OrAll with_operand o [] g []) e Enough
  many_kept b xs o e (More {x = x} {front = front} {before = before} h rest) =
      More (or_kept front x before h) (many_kept b (with_last xs x) (with_operand o (kept x)) (ap (λ (g : Others). with_operand g (kept x)) e ∙ gathers b xs x) rest)

  kept_many : (b : Bool) (xs : List (Operands (tree.Condition Test))) {o last : Others} {p : List Token} {ns : List ℕ} → o ≡ gathered b xs
      → Many OrAll with_operand o p last ns → Made (Many OrWhole with_last xs) (gathered b) p last ns
  kept_many b xs e Enough = record { x = xs; said = Enough; made = e }
  kept_many b xs {last = last} e (More {x = k} {front = front} {back = rest} {before = before} {after = after} h more) =
      let m = kept_or front k before h in
      let same = ap (λ (g : Others). with_operand g k) e ∙ ap (with_operand (gathered b xs)) m.made ∙ gathers b xs m.x in
      let g = kept_many b (with_last xs m.x) same more in
      record { x = g.x; said = More m.said g.said; made = g.made }

  -- The whole list says what the parser keeps of it.
  same_said : (first second : Operands (tree.Condition Test)) (ys : List (Operands (tree.Condition Test)))
      → (any_of (tree.Or (conjunction first) (conjunction second)) (map conjunction ys), (is_chain first || is_chain second) || list_any is_chain ys) ≡ grammar.said_by (operands first (second ∷ ys))
  same_said first second ys = ap (λ t. (any_of (tree.Or (conjunction first) (conjunction second)) (map conjunction ys), t)) (or_or (is_chain first) (is_chain second) (list_any is_chain ys))

  abbrev Whole : Operands (tree.Condition Test) → Rule (tree.Condition Test × Bool)
  Whole first = grammar.Joined mark.Or all ⨟ λ more. GivesValue (grammar.said_by (operands first (whole more)))

  alternatives_kept : (first : Operands (tree.Condition Test)) (p : List Token) (r : tree.Condition Test × Bool) (ns : List ℕ) → Whole first p r ns → AreAlternatives All (kept first) p r ns
  alternatives_kept first p r ns h =
      let m = made_of h in
      let j = m.said in
      let g = made_of j.second in
      let b : Bool = is_chain first || is_chain j.x in
      rejoined j (kept j.x) r (to j.front j.x j.before j.first)
      (gives_made (gathered b g.x) (many_kept b [] (others [] b) (ap (others []) (or_none b)) g.said)
      (m.made ∙ ap (λ (o : Operands (Operands (tree.Condition Test))). grammar.said_by o) (ap (λ (o : Operands (Operands (tree.Condition Test))). operands first (whole o)) g.made) ∙ sym (same_said first j.x g.x)))

  kept_alternatives : (first : Operands (tree.Condition Test)) (p : List Token) (r : tree.Condition Test × Bool) (ns : List ℕ) → AreAlternatives All (kept first) p r ns → Whole first p r ns
  kept_alternatives first p r ns h =
      let s = back h.front h.x h.before h.first in
      let m = made_of h.second in
      let b : Bool = is_chain first || is_chain s.x in
      let begins : others [] (is_chain first || h.x.is_chain) ≡ gathered b [] = ap (λ (k : Operand). others [] (is_chain first || k.is_chain)) s.made ∙ ap (others []) (or_none b) in
      let g = kept_many b [] begins m.said in
      let value : r ≡ grammar.said_by (operands first (s.x ∷ g.x)) =
      m.made ∙ (λ i. (any_of (tree.Or (conjunction first) (s.made i).condition) (g.made i).rest, (g.made i).is_mixed)) ∙ same_said first s.x g.x in
      gives_made (operands s.x g.x) (rejoined h s.x (operands s.x g.x) s.said (gives_made g.x g.said refl)) value

  abbrev Disjoined : Operands (tree.Condition Test) → Rule (tree.Condition Test)
  Disjoined first = (TheMark mark.Or ⨟ λ place. Noted place.span.line (Whole first)) or GivesValue (conjunction first)

  abbrev KeptDisjoined : Operand → Rule (tree.Condition Test)
  KeptDisjoined first = (TheMark mark.Or ⨟ λ place. Noted place.span.line (AreAlternatives All first)) or GivesValue first.condition

  rest_kept : (first : Operands (tree.Condition Test)) (p : List Token) (c : tree.Condition Test) (ns : List ℕ) → Disjoined first p c ns → KeptDisjoined (kept first) p c ns
  rest_kept first =
      marked_within mark.Or _ _ _ _ (λ place. noted_within place.span.line (Whole first) (AreAlternatives All (kept first)) (alternatives_kept first)) (same_within (GivesValue (conjunction first)))

  kept_rest : (first : Operands (tree.Condition Test)) (p : List Token) (c : tree.Condition Test) (ns : List ℕ) → KeptDisjoined (kept first) p c ns → Disjoined first p c ns
  kept_rest first =
      marked_within mark.Or _ _ _ _ (λ place. noted_within place.span.line (AreAlternatives All (kept first)) (Whole first) (kept_alternatives first)) (same_within (GivesValue (conjunction first)))

  any_to : (p : List Token) (c : tree.Condition Test) (ns : List ℕ) → grammar.IsAny all p c ns → IsAny All p c ns
  any_to p c ns h = rejoined h (kept h.x) c (to h.front h.x h.before h.first) (rest_kept h.x h.back c h.after h.second)

  any_back : (p : List Token) (c : tree.Condition Test) (ns : List ℕ) → IsAny All p c ns → grammar.IsAny all p c ns
  any_back p c ns h =
      let s = back h.front h.x h.before h.first in
      rejoined h s.x c s.said (kept_rest s.x h.back c h.after (subst (λ (k : Operand). KeptDisjoined k h.back c h.after) s.made h.second))

-- A condition by the whole lists of its operands is one by what the parser keeps of them.
pub condition_kept : (one : Rule (tree.Condition Test)) (p : List Token) (c : tree.Condition Test) (ns : List ℕ) → grammar.IsAny (grammar.IsAll one) p c ns → IsAny (IsAll one) p c ns
condition_kept one = any_to (grammar.IsAll one) (IsAll one) (kept_all one) (all_kept one)

pub kept_condition : (one : Rule (tree.Condition Test)) (p : List Token) (c : tree.Condition Test) (ns : List ℕ) → IsAny (IsAll one) p c ns → grammar.IsAny (grammar.IsAll one) p c ns
kept_condition one = any_back (grammar.IsAll one) (IsAll one) (kept_all one) (all_kept one)

both : (a b : Bool) → (a && b) ≡ true → (a ≡ true) × (b ≡ true)
both true b e = (refl, e)
both false b e = absurd (cc)

-- A list with two or more.
two : {X : Type 0} (xs : List X) → grammar.two_or_more xs ≡ true → 2 ≤ length xs
two [] h = absurd (cc)
two (x ∷ []) h = absurd (cc)
two (x ∷ y ∷ rest) h = omega arith

is_two : {X : Type 0} (xs : List X) → 2 ≤ length xs → grammar.two_or_more xs ≡ true
is_two [] h = absurd (omega (arith, h))
is_two (x ∷ []) h = absurd (omega (arith, h))
is_two (x ∷ y ∷ rest) h = refl

-- The rule for notes, by the numbers of operands.
pub noted_two : {X : Type 0} (o : Operands (Operands X)) → grammar.is_noted o ≡ true → (2 ≤ length (whole o)) × Any (λ all. 2 ≤ length (whole all)) (whole o)
noted_two o h =
    let b = both (is_chain o) (list_any is_chain (whole o)) h in
    let a = Any-from_list_any is_chain (whole o) b.1 in
    (two (whole o) b.0, (a.0, a.1, a.2, a.3, two (whole a.1) a.4))

pub two_noted : {X : Type 0} (o : Operands (Operands X)) → 2 ≤ length (whole o) → Any (λ all. 2 ≤ length (whole all)) (whole o) → grammar.is_noted o ≡ true
two_noted o h a =
    let chain = list_any-from_Any is_chain (whole o) (a.0, a.1, a.2, a.3, is_two (whole a.1) a.4) in
    rw (is_two (whole o) h, chain)
