-- Whether a wish is the last one.
use Rattle.std.proofs.Common.{◌≡◌, ℕ, ◌+◌, ◌<◌, Bool, true, false, not, ◌&&◌, ◌||◌, List, [], ◌∷◌, ◌++◌, length, take, get_or, refl, sym, ap, ◌∙◌, subst}
use Rattle.std.specs.Prelude.{is_some}
use Rattle.std.specs.List.{list_all}
use Rattle.std.specs.Borrow.{Bor}
use Rattle.std.proofs.lemmas.List.{take_more, map-append}
use Rattle.std.proofs.lemmas.List.Elements.{All-push, All-nil}
use Rattle.std.proofs.lemmas.List.Quantifiers.{Any-push}
use Rattle.std.proofs.lemmas.Bool.{true≢false}
use Rattle.ifs_base.specs.declared.ids.CommandId.{CommandId}
use Rattle.ifs_base.specs.declared.ids.StateId.{StateId}
use Rattle.ifs_parse.specs.Views.{block_of}
use Rattle.ifs_parse.specs.declared.block.Statement.{Statement}
use Rattle.ifs_policy.specs.Meaning.{Block, reached}
use Rattle.ifs_policy.specs.declared.policy.Handlers.{Handlers}
use Rattle.ifs_policy.specs.declared.policy.Single.{Single}
use Rattle.ifs_solver.specs.declared.constraints.Constraint.{Constraint}
use Rattle.ifs_solver.specs.declared.constraints.Constraint.TheVariants.{NoWish, Silent}
use Rattle.ifs_solver.specs.declared.fact_sets.Scope.{Scope}
use Rattle.ifs_solver.specs.declared.searching.Budget.{Budget}
use Rattle.ifs_solver.specs.declared.searching.Extent.{Extent}
use Rattle.ifs_solver.specs.declared.searching.Extent.TheVariants.{Somewhere, Nowhere, Undecided}
use Rattle.ifs_solver.specs.declared.walking.Walk.{Walk}
use Rattle.ifs_solver.specs.Asking.{meets, meets_all, IsSomewhere, IsNowhere, IsExtentOf, either, is_somewhere}
use Rattle.ifs_solver.specs.Places.{Here, Wish, or_wish, unless, never_here, nothing_after, where_wishing, bodies_after_always, IsAnswerOf}
use Rattle.ifs_solver.specs.inner.Answering.{wish_answer}
use Rattle.ifs_solver.specs.inner.Paying.{IsPaid}
use Rattle.ifs_solver.specs.inner.Walking.{IsHere, IsLater, IsBack, HasAsked, Walked, IsLastBefore, IsLastOf, GoesOn, others_of}
use Rattle.ifs_solver.proofs.Paying.{spent_by_both, wish_paid}
use Rattle.ifs_solver.proofs.Adding.{one_more_met, extent_agrees, adds_one, back_again, IsPaidFor}

-- One more body.
goes_on_by : (scope : Scope) (here other : Here) (others : List Here) (extent one : Extent) → is_somewhere extent ≡ false → IsExtentOf scope (unless here other) one
    → IsLastBefore scope here others extent → IsLastBefore scope here (others ++ other ∷ []) (either extent one)
goes_on_by scope here other others Somewhere one isnt h k = absurd (true≢false isnt)
goes_on_by scope here other others Nowhere Somewhere isnt one h = Any-push (λ x. IsSomewhere scope (unless here x)) others other one
goes_on_by scope here other others Undecided Somewhere isnt one h = Any-push (λ x. IsSomewhere scope (unless here x)) others other one
goes_on_by scope here other others Nowhere Nowhere isnt one h = All-push (λ x. IsNowhere scope (unless here x)) others other h one
goes_on_by scope here other others Undecided Nowhere isnt one h = tt
goes_on_by scope here other others Nowhere Undecided isnt one h = tt
goes_on_by scope here other others Undecided Undecided isnt one h = tt

pub goes_on : (scope : Scope) (constraints : List Constraint) (body : Bor Block) (extent one : Extent) → is_somewhere extent ≡ false → IsExtentOf scope (meets_all (constraints ++ Silent body ∷ [])) one
    → GoesOn scope constraints (where_wishing body.now) extent (either extent one)
goes_on scope constraints body extent one isnt h here others is so_far =
    goes_on_by scope here (where_wishing body.now) others extent one isnt
    (extent_agrees scope (unless here (where_wishing body.now)) (meets_all (constraints ++ Silent body ∷ []))
    (λ facts. ap (λ x. x && not (where_wishing body.now facts)) (is facts) ∙ sym (one_more_met constraints (Silent body) facts)) one h) so_far

bodies_more : (states : List Handlers) (i : ℕ) (part : Handlers) → i < length states → part ≡ get_or states i part → bodies_after_always (take (i + 1) states) ≡ bodies_after_always (take i states) ++ where_wishing part.body ∷ []
bodies_more states i part lt at =
    ap bodies_after_always (take_more states i part lt ∙ ap (λ x. take i states ++ x ∷ []) (sym at)) ∙ map-append (λ x. where_wishing x.body) (take i states) (part ∷ [])

pub last_more : (scope : Scope) (before now : List Constraint) (states : List Handlers) (i : ℕ) (part : Handlers) (extent next : Extent) → i < length states → part ≡ get_or states i part → now ≡ before
    → IsLastOf scope before (bodies_after_always (take i states)) extent → GoesOn scope now (where_wishing part.body) extent next → IsLastOf scope before (bodies_after_always (take (i + 1) states)) next
last_more scope before now states i part extent next lt at same h more here is =
    subst (λ others. IsLastBefore scope here others next) (sym (bodies_more states i part lt at))
    (more here (bodies_after_always (take i states)) (subst (IsHere here) (sym same) is) (h here is))

-- Nothing follows.
and_not_false : (b : Bool) → (b && not false) ≡ b
and_not_false true = refl
and_not_false false = refl

alone_before : (scope : Scope) (here : Here) (extent : Extent) → IsExtentOf scope (unless here never_here) extent → IsLastBefore scope here nothing_after extent
alone_before scope here Somewhere h = Any-push (λ x. IsSomewhere scope (unless here x)) [] never_here h
alone_before scope here Nowhere h = All-push (λ x. IsNowhere scope (unless here x)) [] never_here (All-nil (λ x. IsNowhere scope (unless here x))) h
alone_before scope here Undecided h = tt

pub last_alone : (scope : Scope) (constraints : List Constraint) (extent : Extent) → IsExtentOf scope (meets_all constraints) extent → IsLastOf scope constraints nothing_after extent
last_alone scope constraints extent h here is =
    alone_before scope here extent (extent_agrees scope (unless here never_here) (meets_all constraints) (λ facts. and_not_false (here facts) ∙ is facts) extent h)

-- The answer for a wish.
wish_answered : (scope : Scope) (here later : Here) (others : List Here) (reached_at last : Extent) → IsExtentOf scope here reached_at → IsLastBefore scope (unless here later) others last
    → IsAnswerOf scope (Wish here later others) (wish_answer reached_at last)
wish_answered scope here later others Nowhere last h k = h
wish_answered scope here later others Somewhere Nowhere h k = (h, k)
wish_answered scope here later others Somewhere Somewhere h k = k
wish_answered scope here later others Somewhere Undecided h k = tt
wish_answered scope here later others Undecided Nowhere h k = tt
wish_answered scope here later others Undecided Somewhere h k = k
wish_answered scope here later others Undecided Undecided h k = tt

all_append : {X : Type 0} (p : X → Bool) (xs ys : List X) → list_all p (xs ++ ys) ≡ (list_all p xs && list_all p ys)
all_append p [] ys = refl
all_append p (x ∷ xs) ys = ap (λ z. p x && z) (all_append p xs ys) ∙ and_assoc (p x) (list_all p xs) (list_all p ys)
  where
    and_assoc : (a b c : Bool) → (a && (b && c)) ≡ ((a && b) && c)
    and_assoc true b c = refl
    and_assoc false b c = refl

-- The constraints for a wish to be the last one of its body.
last_is_here : (context last : List Constraint) (rest : Bor (List (Statement Single CommandId StateId))) (here later : Here) → IsHere here context → IsLater later last
    → IsHere (unless here (or_wish later (block_of rest.now))) ((context ++ last) ++ NoWish rest ∷ [])
last_is_here context last rest here later is_here is_later facts =
    let wishes = is_some (reached facts (block_of rest.now)).wish in
    regroup (here facts) wishes (later facts)
    ∙ ap (λ x. (x && not (later facts)) && not wishes) (is_here facts) ∙ ap (λ x. (meets_all context facts && x) && not wishes) (is_later facts)
    ∙ ap (λ x. x && not wishes) (sym (all_append (meets facts) context last)) ∙ sym (one_more_met (context ++ last) (NoWish rest) facts)
  where
    regroup : (h w l : Bool) → (h && not (w || l)) ≡ ((h && not l) && not w)
    regroup true true true = refl
    regroup true true false = refl
    regroup true false true = refl
    regroup true false false = refl
    regroup false w l = refl

pub wished : (old mid end : Walk) (rest : Bor (List (Statement Single CommandId StateId))) (reached_at last : Extent) → IsExtentOf old.scope (meets_all old.context.items) reached_at
    → IsLastOf old.scope ((old.context.items ++ old.last.items) ++ NoWish rest ∷ []) (others_of old.others) last → HasAsked old mid → IsBack mid end
    → end.answers.items ≡ mid.answers.items ++ wish_answer reached_at last ∷ [] → (between : Budget) → IsPaid old.budget between reached_at → IsPaid between mid.budget last → end.budget ≡ mid.budget → Walked (λ here later. Wish here (or_wish later (block_of rest.now)) (others_of old.others) ∷ []) old end
wished old mid end rest reached_at last h k asked back more between paid paid_too budget =
    adds_one (λ here later. Wish here (or_wish later (block_of rest.now)) (others_of old.others)) old end (wish_answer reached_at last) (back_again old mid end asked.back back)
    (more ∙ ap (λ xs. xs ++ wish_answer reached_at last ∷ []) asked.answers)
    (subst (IsPaidFor (wish_answer reached_at last) old.budget) (sym budget) (record {
      spent = spent_by_both old.budget between mid.budget paid.spent paid_too.spent;
      undecided = wish_paid old.budget between mid.budget reached_at last paid paid_too;
    }))
    (λ here later is_here is_later.
    wish_answered old.scope here (or_wish later (block_of rest.now)) (others_of old.others) reached_at last (extent_agrees old.scope here (meets_all old.context.items) is_here reached_at h)
    (k (unless here (or_wish later (block_of rest.now))) (last_is_here old.context.items old.last.items rest here later is_here is_later)))
