-- What is so if a test is true.
use Rattle.std.proofs.Common.{◌≡◌, Bool, true, ◌&&◌, sym, ◌∙◌}
use Rattle.std.specs.Bool.{OnTrue}
use Rattle.std.proofs.lemmas.Bool.{OnTrue_at, OnTrue_from, and_parts}

pub on_both : (P Q : Type 0) (a b r : Bool) → r ≡ (a && b) → OnTrue a P → OnTrue b Q → OnTrue r (P × Q)
on_both P Q a b r is p q = OnTrue_from r (P × Q) (λ e. let parts = and_parts a b (sym is ∙ e) in (OnTrue_at parts.0 p, OnTrue_at parts.1 q))

pub on_three : (P Q R : Type 0) (a b c s r : Bool) → s ≡ (b && c) → r ≡ (a && s) → OnTrue a P → OnTrue b Q → OnTrue c R → OnTrue r (P × Q × R)
on_three P Q R a b c s r is_s is_r p q o =
    OnTrue_from r (P × Q × R) (λ e. let parts = and_parts a s (sym is_r ∙ e) in let rest = and_parts b c (sym is_s ∙ parts.1) in (OnTrue_at parts.0 p, OnTrue_at rest.0 q, OnTrue_at rest.1 o))

-- A test that is equal to another one.
pub on_equal : (a b : Bool) → a ≡ b → OnTrue a (b ≡ true)
on_equal a b is = OnTrue_from a (b ≡ true) (λ e. sym is ∙ e)

pub on_more : (P Q : Type 0) (a : Bool) → (P → Q) → OnTrue a P → OnTrue a Q
on_more P Q a f p = OnTrue_from a Q (λ e. f (OnTrue_at e p))
