-- The verifier accepts the image of a policy.
use Rattle.std.proofs.Common.{◌≡◌, ℕ, suc, ◌+◌, ◌-◌, ◌*◌, ◌^◌, ◌<◌, ◌≤◌, ⊎_elim, List, [], ◌∷◌, ◌++◌, length, map}
use Rattle.std.proofs.Common.{Option, Some, None, refl, sym, ap, ◌∙◌, subst, arith, length-append}
use Rattle.std.specs.Prelude.{slice_get, All}
use Rattle.std.specs.List.{AllByRecursion}
use Rattle.std.proofs.lemmas.Bool.{cases_lt}
use Rattle.std.proofs.lemmas.List.{length-map}
use Rattle.std.proofs.lemmas.List.Elements.{All-cons, All-weaker}
use Rattle.std.proofs.lemmas.Option.{slice_get_within}
use Rattle.ifs_base.specs.Spelling.{IsReadBack}
use Rattle.ifs_base.specs.declared.ids.RoutineId.{RoutineId}
use Rattle.ifs_base.specs.declared.op.Op.{Op}
use Rattle.ifs_base.specs.declared.op.Op.TheVariants.{Ret, Call}
use Rattle.ifs_image.specs.declared.parts.Budgets.{Budgets}
use Rattle.ifs_image.specs.declared.parts.StateSpec.{StateSpec}
use Rattle.ifs_image.specs.declared.parts.ImageParts.{ImageParts}
use Rattle.ifs_image.specs.Code.{code_in, code_of, op_at, params_in, params_of, results_in}
use Rattle.ifs_verify.specs.Rules.{AreRoutines, IsMask, IndexesFit, BothStandAlone, HandlersStandAlone}
use Rattle.ifs_verify.specs.Bounds.{cost_of, commands_of, FitsHandlers}
use Rattle.ifs_verify.specs.Accepted.{IsAccepted}
use Rattle.ifs_gen.specs.Trees.{Part, Policy}
use Rattle.ifs_policy.specs.Meaning.{mentioned}
use Rattle.ifs_gen.specs.PlainCode.{Coder, body_code, init_code, block_runs}
use Rattle.ifs_gen.specs.PlainCode.{body_limit, init_limit}
use Rattle.ifs_gen.specs.PlainSizes.{test_count, parts_of, mask_of_part, greatest, room_of, part_height}
use Rattle.ifs_gen.specs.PlainSizes.{PartCodeFits, CodeFits}
use Rattle.ifs_gen.specs.PolicyImage.{shared_of, handlers_of, routine_of_code, shared_routine, routines_of}
use Rattle.ifs_gen.specs.PolicyImage.{image_with, least_budgets, image_of}
use Rattle.ifs_gen.specs.Sharing.{conditions_in, frames_for, shared_coder}
use Rattle.ifs_policy.specs.Fits.{PolicyFits}
use Rattle.ifs_policy.specs.Fits as fits
use Rattle.ifs_policy.specs.Fits.{Sizes, HandlersFit}
use Rattle.ifs_gen.specs.Runs.{image_sizes}
use Rattle.ifs_gen.proofs.Rows.{entry_at}
use Rattle.ifs_gen.proofs.Called.{frames_some, frames_few, frames_two}
use Rattle.ifs_gen.proofs.Fine.{Callees}
use Rattle.ifs_gen.proofs.Among.{each_at, each_both, each_weaker, each_shared}
use Rattle.ifs_gen.proofs.EventCosts.{limit_low}
use Rattle.ifs_gen.proofs.StackHeights.{tall, IsConditionCode, all_conditions, IsShort, all_short, IsLow, all_tall}
use Rattle.ifs_gen.proofs.CalledTypes.{MayBeCalled}
use Rattle.ifs_gen.proofs.GoodRoutines.{EachGood, AreCallees, kinds_in, heights_in, amount, with_callee, operands, jumps}
use Rattle.ifs_gen.proofs.GoodRoutines.{ends, calls, reached, typings, are_heights, depth, depth_low, are_depths, are_amounts}
use Rattle.ifs_gen.proofs.Weights.{init_costs, body_costs, init_runs, body_runs, shared_costs, shared_runs}
use Rattle.ifs_gen.proofs.Images.{routines_long, states_long, state_at, part_at, greatest_below, mask_below, init_at, body_at}
use Rattle.ifs_gen.proofs.Images.{has_shared, behind}
use Rattle.ifs_gen.proofs.Goods.{good_append, heights_left, heights_right, each_shared_good, shared_height, shared_low}
use Rattle.ifs_gen.proofs.Goods.{shared_quiet, each_good, heights_within}
use Rattle.ifs_gen.proofs.Reach.{Weighs, Below, routines_within, parts_below, fits_events}

-- The stack height of a shared code.
abbrev tall_in : Option (List Op) → ℕ
tall_in None = 0
tall_in (Some code) = tall code

-- The routines that the handlers of a policy may call.
abbrev pub callees_of : Policy → Callees
callees_of policy = record { count = length (shared_of policy); height = λ k. tall_in (slice_get (shared_of policy) k) }

module _ (back : IsReadBack) (policy : Policy) (is : PolicyFits policy) (budgets : Budgets) where
  abbrev pub image : ImageParts
  image = image_with budgets policy

  abbrev pub count : ℕ
  count = test_count policy

  abbrev pub table : List (List Op)
  table = shared_of policy

  abbrev pub shared : ℕ
  shared = length (shared_of policy)

  abbrev pub coder : Coder
  coder = shared_coder (shared_of policy)

  pub tests_long : length image.tests ≡ count
  tests_long = length-map policy.tables.tests _

  states_are : length image.states ≡ length policy.tables.states
  states_are = states_long shared count 1 policy.tables.states policy.states is.count

  pub routines_are : length image.routines ≡ shared + 2 * suc (length policy.states)
  routines_are =
      let sum = length-append (map shared_routine table) (routines_of coder count (parts_of policy)) in
      let first = length-map table shared_routine in
      let rest = routines_long coder count (parts_of policy) in
      omega (arith, sum, first, rest)

  same_sizes : fits.sizes_of policy.tables ≡ image_sizes image
  same_sizes =
      let made : ℕ → ℕ → Sizes = λ tests states. record { interfaces = length policy.tables.interfaces; tests = tests; commands = length policy.tables.commands; states = states } in
      ap (λ n. made n (length policy.tables.states)) (sym tests_long) ∙ ap (λ n. made (length image.tests) n) (sym states_are)

  pub parts_fit : All (HandlersFit (image_sizes image)) (parts_of policy)
  parts_fit = subst (λ sizes. All (HandlersFit sizes) (parts_of policy)) same_sizes (All-cons (HandlersFit (fits.sizes_of policy.tables)) policy.always policy.states is.always is.states)

  pub conditions : AllByRecursion (IsConditionCode (image_sizes image)) table
  conditions = each_shared (IsConditionCode (image_sizes image)) (conditions_in (parts_of policy)) (all_conditions (image_sizes image) (parts_of policy) parts_fit)

  pub may : MayBeCalled (callees_of policy) table
  may = record { count = omega arith; heights = λ k code e. ap tall_in e }

  abbrev pub shared_good : EachGood image (callees_of policy) (map shared_routine table)
  shared_good = each_shared_good image (callees_of policy) table conditions

  abbrev pub parts_good : EachGood image (callees_of policy) (routines_of coder count (parts_of policy))
  parts_good = each_good image (callees_of policy) table (has_shared policy budgets) back may count tests_long (parts_of policy) parts_fit

  abbrev pub good : EachGood image (callees_of policy) image.routines
  good = good_append image (callees_of policy) (map shared_routine table) (routines_of coder count (parts_of policy)) shared_good parts_good

  -- Shared routines have no parameters and no calls, and have the stated heights.
  first_high : (routine : ℕ) → routine < shared → heights_in image (callees_of policy) image.routines good routine ≡ tall_in (slice_get table routine)
  first_high routine lt =
      let there = entry_at table routine lt in
      let first = length-map table shared_routine in
      heights_left image (callees_of policy) (map shared_routine table) (routines_of coder count (parts_of policy)) shared_good parts_good routine (omega (arith, first, lt))
      ∙ shared_height image (callees_of policy) table conditions routine there.0 there.1 ∙ sym (ap tall_in there.1)

  first_quiet : (routine place : ℕ) (callee : RoutineId) → routine < shared → op_at image routine place ≡ Some (Call callee) → ⊥
  first_quiet routine place callee lt h =
      let there = entry_at table routine lt in
      let own = each_at (IsConditionCode (image_sizes image)) table routine there.0 conditions there.1 in
      let at = ap (λ o. slice_get (code_in o) place) (has_shared policy budgets routine there.0 there.1) in
      shared_quiet own.condition place callee (ap (λ code. slice_get (code ++ Ret ∷ []) place) own.is ∙ (sym at ∙ h))

  first_bare : (routine : ℕ) → routine < shared → params_of image routine ≡ []
  first_bare routine lt = let there = entry_at table routine lt in ap params_in (has_shared policy budgets routine there.0 there.1)

  pub first : AreCallees image (callees_of policy) good
  first = record { bare = first_bare; quiet = first_quiet; high = first_high }

  pub init_there : (k : ℕ) (part : Part) → slice_get (parts_of policy) k ≡ Some part → slice_get image.routines (shared + 2 * k) ≡ Some (routine_of_code (init_code coder part.init))
  init_there k part e = behind policy budgets (routines_of coder count (parts_of policy)) (2 * k) ∙ init_at coder count (parts_of policy) k part e

  pub body_there : (k : ℕ) (part : Part) → slice_get (parts_of policy) k ≡ Some part → slice_get image.routines (shared + (2 * k + 1)) ≡ Some (routine_of_code (body_code coder count part.body))
  body_there k part e = behind policy budgets (routines_of coder count (parts_of policy)) (2 * k + 1) ∙ body_at coder count (parts_of policy) k part e

  routine_there : (k : ℕ) → k < suc (length policy.states) → AreRoutines image (handlers_of shared count k policy.always)
  routine_there k lt = (omega (arith, lt, routines_are), omega (arith, lt, routines_are))

  mask_there : (part : Part) → IsMask image (mask_of_part count part)
  mask_there part = subst (λ n. mask_of_part count part < 2 ^ n) (sym tests_long) (mask_below count (mentioned part.body))

  state_there : (k : ℕ) (spec : StateSpec) → slice_get image.states k ≡ Some spec → AreRoutines image spec.handlers × IsMask image spec.handlers.mask
  state_there k spec at =
      let s = state_at shared count 1 policy.tables.states policy.states k spec at in
      let within = slice_get_within policy.states k s.part s.at in
      subst (λ (x : StateSpec). AreRoutines image x.handlers × IsMask image x.handlers.mask) (sym s.is)
      ((omega (arith, within, routines_are), omega (arith, within, routines_are)), mask_there s.part)

  pub indexes : IndexesFit image
  indexes = record {
    initial = let h = is.initial in omega (arith, h, states_are);
    always = routine_there 0 (omega arith);
    always_mask = mask_there policy.always;
    states = λ k spec at. (state_there k spec at).0;
    masks = λ k spec at. (state_there k spec at).1;
    operands = operands image (callees_of policy) good;
  }

  -- The handlers of a part have no parameters and no results.
  part_leaves : (k : ℕ) (part : Part) → slice_get (parts_of policy) k ≡ Some part → BothStandAlone image (handlers_of shared count k part)
  part_leaves k part e =
      let init = init_there k part e in
      let body = body_there k part e in
      ((ap params_in init, ap results_in init), (ap params_in body, ap results_in body))

  pub standing_alone : HandlersStandAlone image
  standing_alone = record {
    always = part_leaves 0 policy.always refl;
    states = λ k spec at.
        let s = state_at shared count 1 policy.tables.states policy.states k spec at in
        subst (λ (x : StateSpec). BothStandAlone image x.handlers) (sym s.is) (part_leaves (1 + k) s.part (part_at policy k s.part s.at));
  }

  -- The greatest costs of inits and bodies.
  abbrev pub init_most : Part → ℕ
  init_most part = init_limit coder part.init

  abbrev pub body_most : Part → ℕ
  body_most part = body_limit coder count part.body

  pub costs : Weighs policy budgets (with_callee cost_of image) init_most body_most
  costs = record {
    init_is = λ part. init_costs image table (has_shared policy budgets) back part.init;
    body_is = λ part. body_costs image table (has_shared policy budgets) back count part.body;
  }

  pub commands : Weighs policy budgets (with_callee commands_of image) (λ part. block_runs part.init) (λ part. block_runs part.body)
  commands = record {
    init_is = λ part. init_runs image table (has_shared policy budgets) back part.init;
    body_is = λ part. body_runs image table (has_shared policy budgets) back count part.body;
  }

module _ (back : IsReadBack) (policy : Policy) (is : PolicyFits policy) (code : CodeFits policy) where
  abbrev stated : Budgets
  stated = least_budgets policy

  abbrev whole : ImageParts
  whole = image_of policy

  abbrev counted : ℕ
  counted = test_count policy

  abbrev called : Callees
  called = callees_of policy

  abbrev all_good : EachGood whole called whole.routines
  all_good = good back policy is stated

  all_first : AreCallees whole called all_good
  all_first = first back policy is stated

  -- A bound of all routines is one of handlers.
  handlers_below : (reach : ℕ → ℕ) (b : ℕ) → ((routine : ℕ) → reach routine ≤ b) → FitsHandlers whole reach b
  handlers_below reach b h = record {
    always_init = h whole.always.init.0;
    always_body = h whole.always.body.0;
    init = λ k state at. h state.handlers.init.0;
    body = λ k state at. h state.handlers.body.0;
  }

  abbrev heights : ℕ → ℕ
  heights routine = heights_in whole called whole.routines all_good routine

  heights_low : (routine : ℕ) → heights routine ≤ greatest part_height (parts_of policy)
  heights_low routine =
      let routines = routines_of (shared_coder (shared_of policy)) counted (parts_of policy) in
      let long = length-map (shared_of policy) shared_routine in
      let goods = shared_good back policy is stated in
      let more = parts_good back policy is stated in
      let n = greatest part_height (parts_of policy) in
      ⊎_elim
      (λ lower.
      let e = heights_left whole called (map shared_routine (shared_of policy)) routines goods more routine lower in
      let low = each_shared (IsLow n) (conditions_in (parts_of policy)) (all_tall n (parts_of policy) (omega arith)) in
      let h = shared_low whole called n (shared_of policy) (conditions back policy is stated) low routine in
      omega (arith, e, h))
      (λ higher.
      let i = routine - length (map shared_routine (shared_of policy)) in
      let same : routine ≡ length (map shared_routine (shared_of policy)) + i = omega (arith, higher) in
      let e = ap heights same ∙ heights_right whole called (map shared_routine (shared_of policy)) routines goods more i in
      let h = heights_within whole called (shared_of policy) (has_shared policy stated) back (may back policy is stated) counted (tests_long back policy is stated) (parts_of policy) (parts_fit back policy is stated) i in
      omega (arith, e, h))
      (cases_lt routine (length (map shared_routine (shared_of policy))))

  greatest_low : greatest part_height (parts_of policy) ≤ 32
  greatest_low = greatest_below part_height (parts_of policy) 32 code.height

  frames_some_here : 1 ≤ frames_for (shared_of policy)
  frames_some_here = frames_some (shared_of policy)

  frames_more : 0 < length (shared_of policy) → 2 ≤ frames_for (shared_of policy)
  frames_more some = let there = entry_at (shared_of policy) 0 some in frames_two (shared_of policy) 0 there.0 there.1

  cheap : All (Below policy stated (with_callee cost_of whole) (init_most back policy is stated) (body_most back policy is stated) 100000) (parts_of policy)
  cheap =
      All-weaker (PartCodeFits counted) (Below policy stated (with_callee cost_of whole) (init_most back policy is stated) (body_most back policy is stated) 100000)
      (λ part fit.
      let init = fit.init in
      let body = fit.body in
      let init_low = limit_low (shared_of policy) part.init in
      let body_low = limit_low (shared_of policy) part.body in
      record { init_below = omega (arith, init, init_low); body_below = omega (arith, body, body_low) }) (parts_of policy) code.each

  -- The cost of a shared routine is its number of instructions, and it queues nothing.
  shared_cheap : AllByRecursion (λ code. amount (with_callee cost_of whole) (code ++ Ret ∷ []) 0 ≤ 100000) (shared_of policy)
  shared_cheap =
      each_weaker (λ code. IsConditionCode (image_sizes whole) code × IsShort 1023 code) (λ code. amount (with_callee cost_of whole) (code ++ Ret ∷ []) 0 ≤ 100000)
      (λ code h.
      let own = h.0 in
      let short = h.1 in
      let cost = shared_costs whole own.condition in
      let same = ap (λ c. amount (with_callee cost_of whole) (c ++ Ret ∷ []) 0) own.is in
      let long = ap length own.is in
      omega (arith, short, cost, same, long))
      (shared_of policy)
      (each_both (IsConditionCode (image_sizes whole)) (IsShort 1023) (shared_of policy) (conditions back policy is stated) (each_shared (IsShort 1023) (conditions_in (parts_of policy)) (all_short counted (parts_of policy) code.each)))

  shared_queues_nothing : AllByRecursion (λ code. amount (with_callee commands_of whole) (code ++ Ret ∷ []) 0 ≤ room_of policy) (shared_of policy)
  shared_queues_nothing =
      each_weaker (IsConditionCode (image_sizes whole)) (λ code. amount (with_callee commands_of whole) (code ++ Ret ∷ []) 0 ≤ room_of policy)
      (λ code own.
      let none = shared_runs whole own.condition in
      let same = ap (λ c. amount (with_callee commands_of whole) (c ++ Ret ∷ []) 0) own.is in
      omega (arith, none, same))
      (shared_of policy) (conditions back policy is stated)

  pub accepted : IsAccepted whole
  accepted = record {
    indexes = indexes back policy is stated;
    handlers = standing_alone back policy is stated;
    jumps = jumps whole called all_good;
    ends = ends whole called all_good;
    calls = calls whole called all_good all_first;
    reached = reached whole called all_good;
    typed = (kinds_in whole called whole.routines all_good, typings whole called all_good);
    stack = (
      kinds_in whole called whole.routines all_good,
      heights,
      typings whole called all_good,
      are_heights whole called all_good all_first,
      λ routine there. let h = heights_low routine in let g = greatest_low in omega (arith, h, g),
      handlers_below heights whole.budgets.stack heights_low,
    );
    frames = (
      depth whole called all_good all_first (frames_for (shared_of policy)),
      are_depths whole called all_good all_first (frames_for (shared_of policy)) frames_some_here frames_more,
      λ routine there.
          let h = depth_low whole called all_good all_first (frames_for (shared_of policy)) routine frames_some_here in
          let g = frames_few (shared_of policy) in
          omega (arith, h, g),
      handlers_below (depth whole called all_good all_first (frames_for (shared_of policy))) whole.budgets.frames (λ routine. depth_low whole called all_good all_first (frames_for (shared_of policy)) routine frames_some_here),
    );
    cost = (
      λ routine place. amount (with_callee cost_of whole) (code_of whole routine) place,
      are_amounts whole called all_good all_first cost_of,
      λ routine there.
          routines_within policy stated (with_callee cost_of whole) (init_most back policy is stated) (body_most back policy is stated) (costs back policy is stated) 100000 cheap shared_cheap routine,
      fits_events policy stated (with_callee cost_of whole) (init_most back policy is stated) (body_most back policy is stated) (costs back policy is stated),
    );
    commands = (
      λ routine place. amount (with_callee commands_of whole) (code_of whole routine) place,
      are_amounts whole called all_good all_first commands_of,
      λ routine there.
          let h = routines_within policy stated (with_callee commands_of whole) (λ part. block_runs part.init) (λ part. block_runs part.body) (commands back policy is stated) (room_of policy)
          (parts_below policy stated (with_callee commands_of whole) (λ part. block_runs part.init) (λ part. block_runs part.body) (commands back policy is stated)) shared_queues_nothing routine in
          let g = code.room in omega (arith, h, g),
      fits_events policy stated (with_callee commands_of whole) (λ part. block_runs part.init) (λ part. block_runs part.body) (commands back policy is stated),
    );
  }
