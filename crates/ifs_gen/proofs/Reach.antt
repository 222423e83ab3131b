-- The weights of the routines of a policy's image, and the amounts of its events.
use Rattle.std.proofs.Common.{◌≡◌, ℕ, zero, suc, ◌+◌, ◌*◌, ◌-◌, ◌≤◌, ⊎_elim, List, [], ◌∷◌, ◌++◌, length}
use Rattle.std.proofs.Common.{Some, refl, ap, ◌∙◌, arith}
use Rattle.std.specs.Prelude.{slice_get, All}
use Rattle.std.specs.List.{AllByRecursion}
use Rattle.std.proofs.lemmas.Bool.{cases_lt}
use Rattle.std.proofs.lemmas.List.Elements.{All-head, All-tail, All-cons, All-nil}
use Rattle.ifs_base.specs.declared.op.Op.{Op}
use Rattle.ifs_base.specs.declared.op.Op.TheVariants.{Ret}
use Rattle.ifs_image.specs.declared.parts.Budgets.{Budgets}
use Rattle.ifs_image.specs.declared.parts.StateSpec.{StateSpec}
use Rattle.ifs_image.specs.declared.parts.ImageParts.{ImageParts}
use Rattle.ifs_image.specs.Code.{code_in, code_of}
use Rattle.ifs_verify.specs.Bounds.{FitsEvents}
use Rattle.ifs_gen.specs.Trees.{Part, Policy}
use Rattle.ifs_gen.specs.PlainCode.{Coder, body_code, init_code}
use Rattle.ifs_gen.specs.PlainSizes.{test_count, parts_of, greatest, number_in, event_total}
use Rattle.ifs_gen.specs.PolicyImage.{routines_of, shared_of, image_with}
use Rattle.ifs_gen.specs.Sharing.{shared_coder}
use Rattle.ifs_gen.proofs.Among.{each_at}
use Rattle.ifs_gen.proofs.Rows.{entry_at}
use Rattle.ifs_gen.proofs.GoodRoutines.{amount}
use Rattle.ifs_gen.proofs.Images.{init_at, body_at, state_at, part_at, at_most_greatest, has_shared, behind}

module _ (policy : Policy) (budgets : Budgets) (weight : Op → ℕ) (init body : Part → ℕ) where
  abbrev image : ImageParts
  image = image_with budgets policy

  abbrev coder : Coder
  coder = shared_coder (shared_of policy)

  abbrev count : ℕ
  count = test_count policy

  abbrev first : ℕ
  first = length (shared_of policy)

  -- The weights of inits and bodies.
  pub record Weighs : Type 0 where
    pub init_is : (part : Part) → amount weight (init_code coder part.init) zero ≡ init part
    pub body_is : (part : Part) → amount weight (body_code coder count part.body) zero ≡ body part

  -- Neither exceeds a number.
  pub record Below (b : ℕ) (part : Part) : Type 0 where
    pub init_below : init part ≤ b
    pub body_below : body part ≤ b

  module _ (weighs : Weighs) where
    -- Inits and bodies are within a number.
    handlers_within : (parts : List Part) (b : ℕ) → All (Below b) parts → (i : ℕ) → amount weight (code_in (slice_get (routines_of coder count parts) i)) zero ≤ b
    handlers_within [] b below i = omega arith
    handlers_within (x ∷ parts) b below zero = let e = weighs.init_is x in let h = (All-head (Below b) x parts below).init_below in omega (arith, e, h)
    handlers_within (x ∷ parts) b below (suc zero) = let e = weighs.body_is x in let h = (All-head (Below b) x parts below).body_below in omega (arith, e, h)
    handlers_within (x ∷ parts) b below (suc (suc i)) = handlers_within parts b (All-tail (Below b) x parts below) i

    -- Each routine of the image is within a number.
    pub routines_within : (b : ℕ) → All (Below b) (parts_of policy) → AllByRecursion (λ code. amount weight (code ++ Ret ∷ []) zero ≤ b) (shared_of policy) → (routine : ℕ)
        → amount weight (code_of image routine) zero ≤ b
    routines_within b below shared routine =
        ⊎_elim
        (λ lower.
        let there = entry_at (shared_of policy) routine lower in
        let at = ap (λ o. amount weight (code_in o) zero) (has_shared policy budgets routine there.0 there.1) in
        let low = each_at (λ code. amount weight (code ++ Ret ∷ []) zero ≤ b) (shared_of policy) routine there.0 shared there.1 in
        omega (arith, at, low))
        (λ higher.
        let i = routine - first in
        let same : routine ≡ first + i = omega (arith, higher) in
        let at = ap (λ n. amount weight (code_of image n) zero) same ∙ ap (λ o. amount weight (code_in o) zero) (behind policy budgets (routines_of coder count (parts_of policy)) i) in
        let low = handlers_within (parts_of policy) b below i in
        omega (arith, at, low))
        (cases_lt routine first)

    states_below : (b : ℕ) (states : List Part) → greatest init states ≤ b → greatest body states ≤ b → All (Below b) states
    states_below b [] inits bodies = All-nil (Below b)
    states_below b (x ∷ states) inits bodies =
        All-cons (Below b) x states (record { init_below = omega (arith, inits); body_below = omega (arith, bodies) })
        (states_below b states (omega (arith, inits)) (omega (arith, bodies)))

    -- Those of each part are within the amount of an event.
    pub parts_below : All (Below (event_total init body policy)) (parts_of policy)
    parts_below =
        let b = event_total init body policy in
        All-cons (Below b) policy.always policy.states (record { init_below = omega arith; body_below = omega arith })
        (states_below b policy.states (omega arith) (omega arith))

    -- The weights of the init and the body of part k.
    pub init_amount : (k : ℕ) (part : Part) → slice_get (parts_of policy) k ≡ Some part → amount weight (code_of image (first + 2 * k)) zero ≡ init part
    init_amount k part e =
        ap (λ o. amount weight (code_in o) zero) (behind policy budgets (routines_of coder count (parts_of policy)) (2 * k) ∙ init_at coder count (parts_of policy) k part e) ∙ weighs.init_is part

    pub body_amount : (k : ℕ) (part : Part) → slice_get (parts_of policy) k ≡ Some part → amount weight (code_of image (first + (2 * k + 1))) zero ≡ body part
    body_amount k part e =
        ap (λ o. amount weight (code_in o) zero) (behind policy budgets (routines_of coder count (parts_of policy)) (2 * k + 1) ∙ body_at coder count (parts_of policy) k part e) ∙ weighs.body_is part

    -- The amount of an event.
    pub fits_events : FitsEvents image (λ routine. amount weight (code_of image routine) zero) (event_total init body policy)
    fits_events = record {
      evaluation = λ j k current next at_j at_k.
          let one = state_at first count 1 policy.tables.states policy.states j current at_j in
          let two = state_at first count 1 policy.tables.states policy.states k next at_k in
          let always = body_amount 0 policy.always refl in
          let own = ap (λ (s : StateSpec). amount weight (code_of image s.handlers.body.0) zero) one.is ∙ body_amount (1 + j) one.part (part_at policy j one.part one.at) in
          let entry = ap (λ (s : StateSpec). amount weight (code_of image s.handlers.init.0) zero) two.is ∙ init_amount (1 + k) two.part (part_at policy k two.part two.at) in
          let most_body = at_most_greatest body policy.states j one.part one.at in
          let most_init = at_most_greatest init policy.states k two.part two.at in
          omega (arith, always, own, entry, most_body, most_init);
      opening = λ opened at.
          let one = state_at first count 1 policy.tables.states policy.states policy.initial.0 opened at in
          let always = init_amount 0 policy.always refl in
          let own = ap (λ (s : StateSpec). amount weight (code_of image s.handlers.init.0) zero) one.is ∙ init_amount (1 + policy.initial.0) one.part (part_at policy policy.initial.0 one.part one.at) in
          let number = ap (number_in init) one.at in
          omega (arith, always, own, number);
    }
