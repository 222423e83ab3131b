-- The parts of a policy's image, from the written values.
use Rattle.std.proofs.Common.{◌≡◌, ◌∙◌, ℕ, ◌+◌, ◌*◌, List, length, ap}
use Rattle.ifs_base.specs.declared.op.Op.{Op}
use Rattle.ifs_image.specs.declared.parts.Budgets.{Budgets}
use Rattle.ifs_image.specs.declared.parts.Handlers.{Handlers}
use Rattle.ifs_image.specs.declared.parts.StateSpec.{StateSpec}
use Rattle.ifs_policy.specs.declared.tables.Tables.{Tables}
use Rattle.ifs_gen.specs.declared.amounts.Bounds.{Bounds}
use Rattle.ifs_gen.specs.Trees.{Part, Policy}
use Rattle.ifs_gen.specs.PlainSizes.{test_count, mask_of_part}
use Rattle.ifs_gen.specs.PolicyImage.{shared_of, states_from, least_budgets, image_of}
use Rattle.ifs_gen.specs.Sharing.{frames_for}
use Rattle.ifs_gen.specs.inner.Amounts.{plain_bounds}
use Rattle.ifs_gen.proofs.EventCosts.{event_limit}

module _ (policy : Policy) (shared : List (List Op)) (shared_is : shared ≡ shared_of policy) where
  -- The budgets are the least ones.
  pub budgets_are : (bounds : Bounds) (cost : ℕ) (made : Budgets) → bounds ≡ plain_bounds policy → cost ≡ event_limit policy shared
      → made ≡ (let x : Budgets = record { stack = bounds.stack; frames = frames_for shared; cost = cost; commands = bounds.commands } in x) → made ≡ least_budgets policy
  budgets_are bounds cost made bounds_is cost_is made_is =
      let all = cost_is ∙ ap (event_limit policy) shared_is in
      made_is ∙ (λ i. record { stack = (bounds_is i).stack; frames = frames_for (shared_is i); cost = all i; commands = (bounds_is i).commands })

  -- The routines of the always part come first after those of shared conditions.
  pub always_are : (len count mask : ℕ) (always : Part) (made : Handlers) → len ≡ length shared → count ≡ test_count policy → always ≡ policy.always → mask ≡ mask_of_part count always
      → made ≡ (let x : Handlers = record { init = record { 0 = len + 2 * 0 }; body = record { 0 = len + (2 * 0 + 1) }; mask = mask } in x)
      → made ≡ (image_of policy).always
  always_are len count mask always made len_is count_is always_is mask_is made_is =
      let first = len_is ∙ ap length shared_is in
      let set = mask_is ∙ (λ i. mask_of_part (count_is i) (always_is i)) in
      made_is ∙ (λ i. record { init = record { 0 = first i + 2 * 0 }; body = record { 0 = first i + (2 * 0 + 1) }; mask = set i })

  -- Those of the states follow.
  pub states_are : (count : ℕ) (tables : Tables) (states : List Part) (made : List StateSpec) → count ≡ test_count policy → tables ≡ policy.tables → states ≡ policy.states
      → made ≡ states_from (length shared) count 1 tables.states states → made ≡ (image_of policy).states
  states_are count tables states made count_is tables_is states_is made_is =
      made_is ∙ (λ i. states_from (length (shared_is i)) (count_is i) 1 (tables_is i).states (states_is i))
