-- Chains of operands whose leaves are replaced.
use Rattle.std.proofs.Common.{◌≡◌, ℕ, zero, suc, ◌<◌, ◌≤◌, max, List, [], ◌∷◌, map, length, get_or, refl, sym, ap, subst, ◌∙◌, arith}
use Rattle.std.specs.List.{AllByRecursion}
use Rattle.ifs_parse.specs.Trees as tree
use Rattle.ifs_parse.specs.Views.{all_of, any_of}
use Rattle.ifs_policy.specs.Leaves.{replaced, HasLeaves, IsReplaced, AreReplaced}

module _ {L M : Type 0} (f : L → M) (P : M → Type 0) where
  pub with_all : (first : tree.Condition L) (rest : List (tree.Condition L)) → replaced f (all_of first rest) ≡ all_of (replaced f first) (map (replaced f) rest)
  with_all first [] = refl
  with_all first (next ∷ rest) = with_all (tree.And first next) rest

  pub with_any : (first : tree.Condition L) (rest : List (tree.Condition L)) → replaced f (any_of first rest) ≡ any_of (replaced f first) (map (replaced f) rest)
  with_any first [] = refl
  with_any first (next ∷ rest) = with_any (tree.Or first next) rest

  all_fit : (first : tree.Condition M) (rest : List (tree.Condition M)) → HasLeaves P first → AllByRecursion (HasLeaves P) rest → HasLeaves P (all_of first rest)
  all_fit first [] h k = h
  all_fit first (next ∷ rest) h k = all_fit (tree.And first next) rest (h, k.0) k.1

  any_fit : (first : tree.Condition M) (rest : List (tree.Condition M)) → HasLeaves P first → AllByRecursion (HasLeaves P) rest → HasLeaves P (any_of first rest)
  any_fit first [] h k = h
  any_fit first (next ∷ rest) h k = any_fit (tree.Or first next) rest (h, k.0) k.1

  -- A chain of replaced operands is replaced.
  module _ (a b : tree.Condition L) (c : List (tree.Condition L)) (d e : tree.Condition M) (g : List (tree.Condition M))
      (one : IsReplaced f P a d) (two : IsReplaced f P b e) (more : AreReplaced f P c g) where
    all_of_replaced : (whole : tree.Condition L) → whole ≡ all_of (tree.And a b) c → IsReplaced f P whole (all_of (tree.And d e) g)
    all_of_replaced whole is = record {
      is = ap (λ (xs : List (tree.Condition M)). all_of (tree.And d e) xs) more.are
          ∙ ap (λ (x : tree.Condition M). all_of x (map (replaced f) c)) (λ i. tree.And (one.is i) (two.is i))
          ∙ sym (with_all (tree.And a b) c) ∙ ap (replaced f) (sym is);
      fit = all_fit (tree.And d e) g (one.fit, two.fit) more.fit;
    }

    pub all_replaced : (whole : tree.Condition L) (result : tree.Condition M) → whole ≡ all_of (tree.And a b) c → result ≡ all_of (tree.And d e) g → IsReplaced f P whole result
    all_replaced whole result is made = subst (IsReplaced f P whole) (sym made) (all_of_replaced whole is)

    any_of_replaced : (whole : tree.Condition L) → whole ≡ any_of (tree.Or a b) c → IsReplaced f P whole (any_of (tree.Or d e) g)
    any_of_replaced whole is = record {
      is = ap (λ (xs : List (tree.Condition M)). any_of (tree.Or d e) xs) more.are
          ∙ ap (λ (x : tree.Condition M). any_of x (map (replaced f) c)) (λ i. tree.Or (one.is i) (two.is i))
          ∙ sym (with_any (tree.Or a b) c) ∙ ap (replaced f) (sym is);
      fit = any_fit (tree.Or d e) g (one.fit, two.fit) more.fit;
    }

    pub any_replaced : (whole : tree.Condition L) (result : tree.Condition M) → whole ≡ any_of (tree.Or a b) c → result ≡ any_of (tree.Or d e) g → IsReplaced f P whole result
    any_replaced whole result is made = subst (IsReplaced f P whole) (sym made) (any_of_replaced whole is)

  -- The same of equal conditions.
  pub same_replaced : (a b : tree.Condition L) (d e : tree.Condition M) → IsReplaced f P a d → a ≡ b → e ≡ d → IsReplaced f P b e
  same_replaced a b d e h same made = subst (λ (p : tree.Condition L × tree.Condition M). IsReplaced f P p.0 p.1) (λ i. (same i, sym made i)) h

-- The size of the greatest operand.
abbrev pub greatest : {L : Type 0} → List (tree.Condition L) → ℕ
greatest [] = 0
greatest (operand ∷ rest) = max (tree.condition_size operand) (greatest rest)

pub below_greatest : {L : Type 0} (operands : List (tree.Condition L)) (i : ℕ) (d : tree.Condition L) → i < length operands → tree.condition_size (get_or operands i d) ≤ greatest operands
below_greatest [] i d h = absurd (omega arith)
below_greatest (operand ∷ rest) zero d h = omega arith
below_greatest (operand ∷ rest) (suc i) d h = let later = below_greatest rest i d (omega arith) in omega arith

pub greatest_below : {L : Type 0} (size : ℕ) (operands : List (tree.Condition L)) → 0 < size → AllByRecursion (λ c. tree.condition_size c < size) operands → greatest operands < size
greatest_below size [] some h = some
greatest_below size (operand ∷ rest) some h = let later = greatest_below size rest some h.1 in omega (arith, h.0)
