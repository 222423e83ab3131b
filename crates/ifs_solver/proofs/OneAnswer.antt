-- A place has one answer, if it is decided.
use Rattle.std.proofs.Common.{◌≡◌, ◌≢◌, ℕ, zero, suc, true, false, not, List, [], ◌∷◌, Some, refl, sym, ◌∙◌, subst}
use Rattle.std.specs.Prelude.{slice_get, All, Any}
use Rattle.std.specs.List.{AllZip}
use Rattle.std.proofs.lemmas.Bool.{true≢false}
use Rattle.std.proofs.lemmas.Option.{none-some, same_Some}
use Rattle.ifs_policy.specs.Meaning.{Condition, truth}
use Rattle.ifs_solver.specs.declared.answers.Answer.{Answer}
use Rattle.ifs_solver.specs.declared.answers.Answer.TheVariants as answer
use Rattle.ifs_solver.specs.declared.fact_sets.Scope.{Scope}
use Rattle.ifs_solver.specs.Asking.{IsSomewhere, IsNowhere}
use Rattle.ifs_solver.specs.Places.{Here, Test, Command, Wish, where_is, unless, IsAnswerOf, OneAnswer, NoneIsMissed}
use Rattle.ifs_solver.proofs.Adding.{somewhere_there, neither}

not_both : (scope : Scope) (here : Here) → IsSomewhere scope here → IsNowhere scope here → ⊥
not_both scope here h k = true≢false (sym h.2 ∙ k h.0 h.1)

not_either : (scope : Scope) (here : Here) (condition : Condition) → IsSomewhere scope here × IsNowhere scope (where_is true here condition) → IsSomewhere scope here × IsNowhere scope (where_is false here condition) → ⊥
not_either scope here condition h k =
    let facts = h.0.0 in
    true≢false (sym h.0.2 ∙ neither (here facts) (truth facts condition) (h.1 facts h.0.1) (k.1 facts h.0.1))

used_here : (scope : Scope) (here later : Here) (others : List Here) → Any (λ other. IsSomewhere scope (unless (unless here later) other)) others → IsNowhere scope here → ⊥
used_here scope here later others h k =
    not_both scope here (somewhere_there scope here (λ facts. not (later facts)) (somewhere_there scope (unless here later) (λ facts. not (h.1 facts)) h.4)) k

used_last : (scope : Scope) (here later : Here) (others : List Here) → Any (λ other. IsSomewhere scope (unless (unless here later) other)) others → All (λ other. IsNowhere scope (unless (unless here later) other)) others → ⊥
used_last scope here later others h k = not_both scope (unless (unless here later) h.1) h.4 (subst (λ other. IsNowhere scope (unless (unless here later) other)) h.3 (k h.0 h.1 h.2))

one_test : (scope : Scope) (here : Here) (condition : Condition) (a b : Answer) → IsAnswerOf scope (Test here condition) a → IsAnswerOf scope (Test here condition) b → a ≢ answer.Undecided → b ≢ answer.Undecided → a ≡ b
one_test scope here condition a answer.Unreached h k decided_a decided_b = absurd k
one_test scope here condition a answer.Overruled h k decided_a decided_b = absurd k
one_test scope here condition a answer.Undecided h k decided_a decided_b = absurd (decided_b refl)
one_test scope here condition answer.Unreached b h k decided_a decided_b = absurd h
one_test scope here condition answer.Overruled b h k decided_a decided_b = absurd h
one_test scope here condition answer.Undecided b h k decided_a decided_b = absurd (decided_a refl)
one_test scope here condition answer.Skipped answer.Skipped h k decided_a decided_b = refl
one_test scope here condition answer.Skipped answer.Never h k decided_a decided_b = absurd (not_both scope here k.0 h)
one_test scope here condition answer.Skipped answer.Always h k decided_a decided_b = absurd (not_both scope here k.0 h)
one_test scope here condition answer.Skipped answer.Used h k decided_a decided_b = absurd (not_both scope here (somewhere_there scope here (λ facts. truth facts condition) k.0) h)
one_test scope here condition answer.Never answer.Skipped h k decided_a decided_b = absurd (not_both scope here h.0 k)
one_test scope here condition answer.Never answer.Never h k decided_a decided_b = refl
one_test scope here condition answer.Never answer.Always h k decided_a decided_b = absurd (not_either scope here condition h k)
one_test scope here condition answer.Never answer.Used h k decided_a decided_b = absurd (not_both scope (where_is true here condition) k.0 h.1)
one_test scope here condition answer.Always answer.Skipped h k decided_a decided_b = absurd (not_both scope here h.0 k)
one_test scope here condition answer.Always answer.Never h k decided_a decided_b = absurd (not_either scope here condition k h)
one_test scope here condition answer.Always answer.Always h k decided_a decided_b = refl
one_test scope here condition answer.Always answer.Used h k decided_a decided_b = absurd (not_both scope (where_is false here condition) k.1 h.1)
one_test scope here condition answer.Used answer.Skipped h k decided_a decided_b = absurd (not_both scope here (somewhere_there scope here (λ facts. truth facts condition) h.0) k)
one_test scope here condition answer.Used answer.Never h k decided_a decided_b = absurd (not_both scope (where_is true here condition) h.0 k.1)
one_test scope here condition answer.Used answer.Always h k decided_a decided_b = absurd (not_both scope (where_is false here condition) h.1 k.1)
one_test scope here condition answer.Used answer.Used h k decided_a decided_b = refl

one_command : (scope : Scope) (here : Here) (a b : Answer) → IsAnswerOf scope (Command here) a → IsAnswerOf scope (Command here) b → a ≢ answer.Undecided → b ≢ answer.Undecided → a ≡ b
one_command scope here a answer.Skipped h k decided_a decided_b = absurd k
one_command scope here a answer.Never h k decided_a decided_b = absurd k
one_command scope here a answer.Always h k decided_a decided_b = absurd k
one_command scope here a answer.Overruled h k decided_a decided_b = absurd k
one_command scope here a answer.Undecided h k decided_a decided_b = absurd (decided_b refl)
one_command scope here answer.Skipped b h k decided_a decided_b = absurd h
one_command scope here answer.Never b h k decided_a decided_b = absurd h
one_command scope here answer.Always b h k decided_a decided_b = absurd h
one_command scope here answer.Overruled b h k decided_a decided_b = absurd h
one_command scope here answer.Undecided b h k decided_a decided_b = absurd (decided_a refl)
one_command scope here answer.Unreached answer.Unreached h k decided_a decided_b = refl
one_command scope here answer.Unreached answer.Used h k decided_a decided_b = absurd (not_both scope here k h)
one_command scope here answer.Used answer.Unreached h k decided_a decided_b = absurd (not_both scope here h k)
one_command scope here answer.Used answer.Used h k decided_a decided_b = refl

one_wish : (scope : Scope) (here later : Here) (others : List Here) (a b : Answer) → IsAnswerOf scope (Wish here later others) a → IsAnswerOf scope (Wish here later others) b → a ≢ answer.Undecided → b ≢ answer.Undecided → a ≡ b
one_wish scope here later others a answer.Skipped h k decided_a decided_b = absurd k
one_wish scope here later others a answer.Never h k decided_a decided_b = absurd k
one_wish scope here later others a answer.Always h k decided_a decided_b = absurd k
one_wish scope here later others a answer.Undecided h k decided_a decided_b = absurd (decided_b refl)
one_wish scope here later others answer.Skipped b h k decided_a decided_b = absurd h
one_wish scope here later others answer.Never b h k decided_a decided_b = absurd h
one_wish scope here later others answer.Always b h k decided_a decided_b = absurd h
one_wish scope here later others answer.Undecided b h k decided_a decided_b = absurd (decided_a refl)
one_wish scope here later others answer.Unreached answer.Unreached h k decided_a decided_b = refl
one_wish scope here later others answer.Unreached answer.Overruled h k decided_a decided_b = absurd (not_both scope here k.0 h)
one_wish scope here later others answer.Unreached answer.Used h k decided_a decided_b = absurd (used_here scope here later others k h)
one_wish scope here later others answer.Overruled answer.Unreached h k decided_a decided_b = absurd (not_both scope here h.0 k)
one_wish scope here later others answer.Overruled answer.Overruled h k decided_a decided_b = refl
one_wish scope here later others answer.Overruled answer.Used h k decided_a decided_b = absurd (used_last scope here later others k h.1)
one_wish scope here later others answer.Used answer.Unreached h k decided_a decided_b = absurd (used_here scope here later others h k)
one_wish scope here later others answer.Used answer.Overruled h k decided_a decided_b = absurd (used_last scope here later others h k.1)
one_wish scope here later others answer.Used answer.Used h k decided_a decided_b = refl

pub one_answer : OneAnswer
one_answer scope (Test here condition) a b h k decided_a decided_b = one_test scope here condition a b h k decided_a decided_b
one_answer scope (Command here) a b h k decided_a decided_b = one_command scope here a b h k decided_a decided_b
one_answer scope (Wish here later others) a b h k decided_a decided_b = one_wish scope here later others a b h k decided_a decided_b

zip_at : {A B : Type 0} (R : A → B → Type 0) (xs : List A) (ys : List B) (k : ℕ) (x : A) (y : B) → AllZip R xs ys → slice_get xs k ≡ Some x → slice_get ys k ≡ Some y → R x y
zip_at R [] ys k x y h at_x at_y = absurd (none-some x at_x)
zip_at R (a ∷ xs) [] k x y h at_x at_y = absurd (none-some y at_y)
zip_at R (a ∷ xs) (b ∷ ys) zero x y h at_x at_y = subst (λ z. R z y) (same_Some a x at_x) (subst (R a) (same_Some b y at_y) h.0)
zip_at R (a ∷ xs) (b ∷ ys) (suc k) x y h at_x at_y = zip_at R xs ys k x y h.1 at_x at_y

pub none_is_missed : NoneIsMissed
none_is_missed scope places answers are k place found finding at_place at_answer decided is said =
    one_answer scope place found finding (zip_at (IsAnswerOf scope) places answers k place found are at_place at_answer) is decided said
