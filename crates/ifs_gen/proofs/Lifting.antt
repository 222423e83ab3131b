-- A core that is opened on a policy's image runs as the policy does.
use Rattle.std.proofs.Common.{◌≡◌, ℕ, ◌+◌, ◌*◌, List, [], length, map, Option}
use Rattle.std.proofs.Common.{Some, None, refl, sym, ap, ◌∙◌, subst, arith, option_map}
use Rattle.std.specs.Prelude.{slice_get}
use Rattle.std.proofs.lemmas.List.Elements.{recursion_from_All}
use Rattle.std.proofs.lemmas.Option.{none-some, same_Some}
use Rattle.std.proofs.lemmas.Simd.{map-map}
use Rattle.ifs_base.specs.Facts.{Facts}
use Rattle.ifs_base.specs.Spelling.{IsReadBack}
use Rattle.ifs_base.specs.Effects.{Effects, followed}
use Rattle.ifs_image.specs.declared.parts.StateSpec.{StateSpec}
use Rattle.ifs_image.specs.declared.parts.TestSpec.{TestSpec}
use Rattle.ifs_image.specs.declared.parts.ImageParts.{ImageParts}
use Rattle.ifs_image.specs.Code.{code_in, results_in}
use Rattle.ifs_verify.specs.Bounds.{commands_of}
use Rattle.ifs_machine.specs.Run.{RunsTo, AreFactsOf, HasRoom}
use Rattle.ifs_core.specs.declared.step.Step.{Step}
use Rattle.ifs_core.specs.Event.{Handler, AlwaysInit, AlwaysBody, Init, Body, Behaviour, Event, opening}
use Rattle.ifs_core.specs.Machine.{routine_of, IsBehaviour}
use Rattle.ifs_core.specs.Gateway.{Known, IsKnownOf, opened}
use Rattle.ifs_core.specs.Headline.{AcceptedIsKept}
use Rattle.ifs_core.specs.HeadlineParts.{RunAlike}
use Rattle.ifs_core.specs.Steps.{CoreState, replies, after_steps}
use Rattle.ifs_gen.specs.Trees.{Part, External, Policy}
use Rattle.ifs_policy.specs.Meaning.{body_yield, init_yield}
use Rattle.ifs_gen.specs.PlainCode.{Coder, body_code}
use Rattle.ifs_gen.specs.PlainSizes.{test_count, parts_of, part_height, room_of, CodeFits}
use Rattle.ifs_gen.specs.PolicyImage.{shared_of, least_budgets, image_of}
use Rattle.ifs_gen.specs.Sharing.{shared_coder}
use Rattle.ifs_policy.specs.Fits.{PolicyFits}
use Rattle.ifs_policy.specs.Fits.{HandlersFit}
use Rattle.ifs_gen.specs.Runs.{image_sizes, Computes, init_cost, body_cost}
use Rattle.ifs_gen.specs.Events.{yield_in, yield_of, mask_of_state, behaviour_of, policy_opened}
use Rattle.ifs_gen.specs.Events.{reply_without_cost, state_without_costs, RunsAsPolicy, ImageMeansPolicy}
use Rattle.ifs_gen.proofs.Among.{each_at}
use Rattle.ifs_gen.proofs.Called.{shared_truth_runs}
use Rattle.ifs_gen.proofs.Handlers.{handlers_do}
use Rattle.ifs_gen.proofs.GoodRoutines.{amount, with_callee, least_amount}
use Rattle.ifs_gen.proofs.Images.{state_at, part_at, at_most_greatest, has_shared}
use Rattle.ifs_gen.proofs.Goods.{height_same}
use Rattle.ifs_gen.proofs.Limits.{plain_is_accepted}
use Rattle.ifs_gen.proofs.Accepting.{callees_of, tests_long, parts_fit, good, init_there, body_there, commands}
use Rattle.ifs_gen.proofs.CostsAside.{replies_free, states_free}

-- The state whose routine an option has.
mapped : (o : Option StateSpec) (f : StateSpec → ℕ) (routine : ℕ) → option_map f o ≡ Some routine → (s : StateSpec) × (o ≡ Some s) × (routine ≡ f s)
mapped None f routine e = absurd (none-some routine e)
mapped (Some s) f routine e = (s, refl, sym (same_Some (f s) routine e))

-- The cost of a state's part; 0 if there is no such state.
abbrev cost_in : (Part → ℕ) → Option Part → ℕ
cost_in cost None = 0
cost_in cost (Some part) = cost part

module _ (back : IsReadBack) (policy : Policy) (is : PolicyFits policy) (code : CodeFits policy) where
  abbrev image : ImageParts
  image = image_of policy

  abbrev count : ℕ
  count = test_count policy

  abbrev shared : ℕ
  shared = length (shared_of policy)

  abbrev coder : Coder
  coder = shared_coder (shared_of policy)

  -- The cost of a handler on the machine.
  abbrev cost_of_handler : Handler → Facts → ℕ
  cost_of_handler AlwaysInit facts = init_cost coder facts policy.always.init
  cost_of_handler AlwaysBody facts = body_cost coder (length image.tests) facts policy.always.body
  cost_of_handler (Init k) facts = cost_in (λ part. init_cost coder facts part.init) (slice_get policy.states k)
  cost_of_handler (Body k) facts = cost_in (λ part. body_cost coder (length image.tests) facts part.body) (slice_get policy.states k)

  -- The policy's behaviour with the costs of the machine.
  abbrev at_cost : Behaviour
  at_cost = record (behaviour_of policy) { cost = cost_of_handler }

  module _ (facts : Facts) (given : AreFactsOf image facts) (before : Effects) (k : ℕ) (part : Part) (e : slice_get (parts_of policy) k ≡ Some part) where
    computes : Computes image facts coder
    computes = shared_truth_runs back image facts (shared_of policy) given (has_shared policy (least_budgets policy))

    part_fits : HandlersFit (image_sizes image) part
    part_fits = each_at (HandlersFit (image_sizes image)) (parts_of policy) k part (recursion_from_All (HandlersFit (image_sizes image)) (parts_of policy) (parts_fit back policy is (least_budgets policy))) e

    init_does : HasRoom image (shared + 2 * k) (length before.commands)
        → RunsTo image facts (shared + 2 * k) before (init_cost coder facts part.init) (followed before (init_yield facts part.init))
    init_does room =
        let at = init_there back policy is (least_budgets policy) k part e in
        let high = at_most_greatest part_height (parts_of policy) k part e in
        let same = height_same (shared_of policy) part.init in
        let least = least_amount image (callees_of policy) (good back policy is (least_budgets policy)) commands_of room.0 room.1 (shared + 2 * k) in
        let runs = ap (λ o. amount (with_callee commands_of image) (code_in o) 0) at ∙ (commands back policy is (least_budgets policy)).init_is part in
        let more = room.2 in
        (handlers_do image facts coder given computes).init (shared + 2 * k) part.init before (record {
          listed = ap code_in at;
          results = ap results_in at;
          frames = omega arith;
          stack = omega (arith, high, same);
          commands = omega (arith, least, runs, more);
          fits = part_fits.init;
        })

    body_does : HasRoom image (shared + (2 * k + 1)) (length before.commands)
        → RunsTo image facts (shared + (2 * k + 1)) before (body_cost coder (length image.tests) facts part.body) (followed before (body_yield facts part.body))
    body_does room =
        let at = body_there back policy is (least_budgets policy) k part e in
        let high = at_most_greatest part_height (parts_of policy) k part e in
        let same = height_same (shared_of policy) part.body in
        let least = least_amount image (callees_of policy) (good back policy is (least_budgets policy)) commands_of room.0 room.1 (shared + (2 * k + 1)) in
        let runs = ap (λ o. amount (with_callee commands_of image) (code_in o) 0) at ∙ (commands back policy is (least_budgets policy)).body_is part in
        let more = room.2 in
        (handlers_do image facts coder given computes).body (shared + (2 * k + 1)) part.body before (record {
          listed = ap code_in at ∙ ap (λ n. body_code coder n part.body) (sym (tests_long back policy is (least_budgets policy)));
          results = ap results_in at;
          frames = omega arith;
          stack = omega (arith, high, same);
          commands = omega (arith, least, runs, more);
          fits = part_fits.body;
        })

  handler_does : (handler : Handler) (routine : ℕ) (facts : Facts) (before : Effects) → routine_of image handler ≡ Some routine → AreFactsOf image facts
      → HasRoom image routine (length before.commands) → RunsTo image facts routine before (cost_of_handler handler facts) (followed before (yield_of policy handler facts))
  handler_does AlwaysInit routine facts before e given room =
      let same : shared + 2 * 0 ≡ routine = same_Some (shared + 2 * 0) routine e in
      subst (λ r. RunsTo image facts r before (cost_of_handler AlwaysInit facts) (followed before (yield_of policy AlwaysInit facts))) same
      (init_does facts given before 0 policy.always refl (subst (λ r. HasRoom image r (length before.commands)) (sym same) room))
  handler_does AlwaysBody routine facts before e given room =
      let same : shared + (2 * 0 + 1) ≡ routine = same_Some (shared + (2 * 0 + 1)) routine e in
      subst (λ r. RunsTo image facts r before (cost_of_handler AlwaysBody facts) (followed before (yield_of policy AlwaysBody facts))) same
      (body_does facts given before 0 policy.always refl (subst (λ r. HasRoom image r (length before.commands)) (sym same) room))
  handler_does (Init k) routine facts before e given room =
      let m = mapped (slice_get image.states k) (λ s. s.handlers.init.0) routine e in
      let s = state_at shared count 1 policy.tables.states policy.states k m.0 m.1 in
      let same : routine ≡ shared + 2 * (1 + k) = m.2 ∙ ap (λ (x : StateSpec). x.handlers.init.0) s.is in
      let runs = init_does facts given before (1 + k) s.part (part_at policy k s.part s.at) (subst (λ r. HasRoom image r (length before.commands)) same room) in
      subst (λ o. RunsTo image facts routine before (cost_in (λ part. init_cost coder facts part.init) o) (followed before (yield_in (λ part. init_yield facts part.init) o))) (sym s.at)
      (subst (λ r. RunsTo image facts r before (init_cost coder facts s.part.init) (followed before (init_yield facts s.part.init))) (sym same) runs)
  handler_does (Body k) routine facts before e given room =
      let m = mapped (slice_get image.states k) (λ s. s.handlers.body.0) routine e in
      let s = state_at shared count 1 policy.tables.states policy.states k m.0 m.1 in
      let same : routine ≡ shared + (2 * (1 + k) + 1) = m.2 ∙ ap (λ (x : StateSpec). x.handlers.body.0) s.is in
      let runs = body_does facts given before (1 + k) s.part (part_at policy k s.part s.at) (subst (λ r. HasRoom image r (length before.commands)) same room) in
      subst (λ o. RunsTo image facts routine before (cost_in (λ part. body_cost coder (length image.tests) facts part.body) o) (followed before (yield_in (λ part. body_yield facts part.body) o))) (sym s.at)
      (subst (λ r. RunsTo image facts r before (body_cost coder (length image.tests) facts s.part.body) (followed before (body_yield facts s.part.body))) (sym same) runs)

  is_behaviour : IsBehaviour image at_cost
  is_behaviour = record {
    always = refl;
    active = λ k spec at.
        let s = state_at shared count 1 policy.tables.states policy.states k spec at in
        ap (mask_of_state count) s.at ∙ sym (ap (λ (x : StateSpec). x.handlers.mask) s.is);
    runs = handler_does;
  }

  -- The opening needs only the periods of the tests.
  same_opening : (known : Known) → state_without_costs (opened at_cost image known) ≡ policy_opened policy known
  same_opening known =
      let begun : List ℕ → Event = λ periods. opening (behaviour_of policy) known.links periods known.first_run policy.initial in
      let made : List ℕ → CoreState = λ periods. record { position = (begun periods).position; queue = (begun periods).commands; trace = [] } in
      ap made (map-map (λ (test : TestSpec). test.period) (λ (test : External). record { period = test.period; text = test.command }) policy.tables.tests)

  module _ (kept : AcceptedIsKept) (b : Behaviour) (is_b : IsBehaviour image b) (known : Known) (links : IsKnownOf image known) (steps : List Step) where
    alike : RunAlike image known b at_cost steps
    alike = let a = plain_is_accepted back policy is code in (kept image a.0 a.1).one b at_cost is_b is_behaviour known links steps

    same_start : opened b image known ≡ opened at_cost image known
    same_start = let begun : Event → CoreState = λ e. record { position = e.position; queue = e.commands; trace = [] } in ap begun alike.opening

    runs_as_policy : RunsAsPolicy policy known b steps
    runs_as_policy = record {
      opening = ap state_without_costs same_start ∙ same_opening known;
      replies =
          ap (map reply_without_cost) alike.replies ∙ sym (replies_free at_cost (room_of policy) steps (opened at_cost image known))
          ∙ ap (replies (behaviour_of policy) (room_of policy) steps) (same_opening known);
      state =
          ap state_without_costs alike.state ∙ sym (states_free at_cost (room_of policy) steps (opened at_cost image known))
          ∙ ap (after_steps (behaviour_of policy) (room_of policy) steps) (same_opening known);
    }

pub image_means_policy : IsReadBack → AcceptedIsKept → ImageMeansPolicy
image_means_policy back kept policy is code b is_b known links steps = runs_as_policy back policy is code kept b is_b known links steps
