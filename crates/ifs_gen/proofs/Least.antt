-- No budgets below the least ones are enough.
use Rattle.std.proofs.Common.{◌≡◌, ℕ, zero, suc, ◌+◌, ◌*◌, ◌<◌, ◌≤◌, ⊎_elim, List}
use Rattle.std.proofs.Common.{[], ◌∷◌, ◌++◌, length, map, Option, Some, refl, sym, ap, ◌∙◌, subst, arith, option_map}
use Rattle.std.specs.Prelude.{slice_get, if◌then◌else◌}
use Rattle.std.specs.List.{AllByRecursion}
use Rattle.std.proofs.lemmas.Bool.{cases_lt}
use Rattle.std.proofs.lemmas.List.{length-map}
use Rattle.ifs_base.specs.Spelling.{IsReadBack}
use Rattle.ifs_base.specs.declared.op.Op.{Op}
use Rattle.ifs_base.specs.declared.op.Op.TheVariants.{Ret, JumpFalse}
use Rattle.ifs_image.specs.declared.parts.Handlers.{Handlers}
use Rattle.ifs_image.specs.Code.{code_in, code_of}
use Rattle.ifs_verify.specs.Rules.{AreRoutines}
use Rattle.ifs_image.specs.declared.parts.Budgets.{Budgets}
use Rattle.ifs_image.specs.declared.parts.ImageParts.{ImageParts}
use Rattle.ifs_verify.specs.Laws.{HasOneTyping}
use Rattle.ifs_verify.specs.Bounds.{AreAmounts, cost_of, commands_of, FitsEvents}
use Rattle.ifs_verify.specs.Accepted.{IsAccepted}
use Rattle.ifs_gen.specs.Trees.{Block, Done, RunThen, SetStateThen, IfThen, Part, Policy}
use Rattle.ifs_gen.specs.PlainCode.{Coder, condition_code, block_code, code_size, held_code, holding, body_start}
use Rattle.ifs_gen.specs.PlainCode.{body_end, block_runs}
use Rattle.ifs_gen.specs.PlainSizes.{test_count, parts_of, greatest, number_in, event_total, part_height}
use Rattle.ifs_gen.specs.PolicyImage.{shared_of, routines_of, shared_routine, image_with}
use Rattle.ifs_gen.specs.Sharing.{conditions_of, conditions_in, place_in, in_place, frames_for, shared_coder}
use Rattle.ifs_policy.specs.Fits.{PolicyFits}
use Rattle.ifs_gen.specs.Runs.{HasAt}
use Rattle.ifs_gen.specs.Acceptance.{BudgetsAreLeast}
use Rattle.ifs_gen.proofs.CodeKeys.{code_decides}
use Rattle.ifs_gen.proofs.Among.{each_shared}
use Rattle.ifs_policy.proofs.Lists.{each_both}
use Rattle.ifs_gen.proofs.Called.{coder_sized}
use Rattle.ifs_gen.proofs.Simulation.{block_sized}
use Rattle.ifs_gen.proofs.Handlers.{held_sized}
use Rattle.ifs_gen.proofs.GoodRoutines.{with_callee, heights_in, least_amount, least_height}
use Rattle.ifs_gen.proofs.Rows.{entry_at, has_left, has_right, has_all}
use Rattle.ifs_gen.proofs.Images.{spec_at, part_at, has_shared}
use Rattle.ifs_gen.proofs.Goods.{heights_right, init_height, body_height}
use Rattle.ifs_gen.proofs.Reach.{Weighs, init_amount, body_amount}
use Rattle.ifs_gen.proofs.Accepting.{callees_of, tests_long, parts_fit, may, good, shared_good, parts_good, first, indexes}
use Rattle.ifs_gen.proofs.Accepting.{init_there, body_there, init_most, body_most, costs, commands}

-- The greatest number is that of an entry.
record IsReached {T : Type 0} (number : T → ℕ) (xs : List T) : Type 0 where
  k : ℕ
  x : T
  at : slice_get xs k ≡ Some x
  is : greatest number xs ≤ number x

greatest_is : {T : Type 0} (number : T → ℕ) (x : T) (xs : List T) → IsReached number (x ∷ xs)
greatest_is number x [] = record { k = zero; x = x; at = refl; is = omega arith }
greatest_is number x (y ∷ xs) =
    let rest = greatest_is number y xs in
    let is = rest.is in
    ⊎_elim
    (λ less. record { k = suc rest.k; x = rest.x; at = rest.at; is = omega (arith, less, is) })
    (λ more. record { k = zero; x = x; at = refl; is = omega (arith, more, is) })
    (cases_lt (number x) (number rest.x))

greatest_of : {T : Type 0} (number : T → ℕ) (xs : List T) → 1 ≤ length xs → IsReached number xs
greatest_of number [] some = absurd (omega (arith, some))
greatest_of number (x ∷ xs) some = greatest_is number x xs

module _ (back : IsReadBack) (policy : Policy) (is : PolicyFits policy) (budgets : Budgets) (accepted : IsAccepted (image_with budgets policy)) where
  abbrev image : ImageParts
  image = image_with budgets policy

  abbrev count : ℕ
  count = test_count policy

  abbrev table : List (List Op)
  table = shared_of policy

  abbrev shared : ℕ
  shared = length (shared_of policy)

  abbrev coder : Coder
  coder = shared_coder (shared_of policy)

  some_state : 1 ≤ length policy.states
  some_state = let h = is.initial in let e = is.count in omega (arith, h, e)

  -- The amount of one event is within a budget, if the amount of each handler is.
  events_least : (init body : Part → ℕ) (reach : ℕ → ℕ) (stated : ℕ) → FitsEvents image reach stated
      → ((k : ℕ) (part : Part) → slice_get (parts_of policy) k ≡ Some part → (init part ≤ reach (shared + 2 * k)) × (body part ≤ reach (shared + (2 * k + 1))))
      → event_total init body policy ≤ stated
  events_least init body reach stated fits each =
      let always = each 0 policy.always refl in
      let most_body = greatest_of body policy.states some_state in
      let most_init = greatest_of init policy.states some_state in
      let own = (each (1 + most_body.k) most_body.x (part_at policy most_body.k most_body.x most_body.at)).1 in
      let next = (each (1 + most_init.k) most_init.x (part_at policy most_init.k most_init.x most_init.at)).0 in
      let spec_j = spec_at shared count 1 policy.tables.states policy.states most_body.k most_body.x is.count most_body.at in
      let spec_k = spec_at shared count 1 policy.tables.states policy.states most_init.k most_init.x is.count most_init.at in
      let turn = fits.evaluation most_body.k most_init.k spec_j.spec spec_k.spec spec_j.at spec_k.at in
      let reach_j = ap (λ (h : Handlers). reach h.body.0) spec_j.handlers in
      let reach_k = ap (λ (h : Handlers). reach h.init.0) spec_k.handlers in
      let some = is.initial in
      let same = is.count in
      let opened = entry_at policy.states policy.initial.0 (omega (arith, some, same)) in
      let spec = spec_at shared count 1 policy.tables.states policy.states policy.initial.0 opened.0 is.count opened.1 in
      let start = fits.opening spec.spec spec.at in
      let reach_first = ap (λ (h : Handlers). reach h.init.0) spec.handlers in
      let entry = (each (1 + policy.initial.0) opened.0 (part_at policy policy.initial.0 opened.0 opened.1)).0 in
      let number = ap (number_in init) opened.1 in
      let always_init = always.0 in
      let always_body = always.1 in
      let body_is = most_body.is in
      let init_is = most_init.is in
      omega (arith, turn, start, own, next, entry, reach_j, reach_k, reach_first, number, always_init, always_body, body_is, init_is)

  amounts_least : (weight : Op → ℕ) (init body : Part → ℕ) → Weighs policy budgets (with_callee weight image) init body
      → (bound : ℕ → ℕ → ℕ) → AreAmounts weight image bound → (stated : ℕ) → FitsEvents image (λ routine. bound routine 0) stated → event_total init body policy ≤ stated
  amounts_least weight init body weighs bound are stated fits =
      events_least init body (λ routine. bound routine 0) stated fits (λ k part e.
      let one = init_amount policy budgets (with_callee weight image) init body weighs k part e in
      let two = body_amount policy budgets (with_callee weight image) init body weighs k part e in
      let low = least_amount image (callees_of policy) (good back policy is budgets) weight bound are (shared + 2 * k) in
      let high = least_amount image (callees_of policy) (good back policy is budgets) weight bound are (shared + (2 * k + 1)) in
      (omega (arith, one, low), omega (arith, two, high)))

  abbrev heights : ℕ → ℕ
  heights routine = heights_in image (callees_of policy) image.routines (good back policy is budgets) routine

  handler_height : (i : ℕ) → heights (shared + i) ≡ heights_in image (callees_of policy) (routines_of coder count (parts_of policy)) (parts_good back policy is budgets) i
  handler_height i =
      ap (λ n. heights (n + i)) (sym (length-map table shared_routine))
      ∙ heights_right image (callees_of policy) (map shared_routine table) (routines_of coder count (parts_of policy)) (shared_good back policy is budgets) (parts_good back policy is budgets) i

  module _ (one : HasOneTyping) where
    -- The height of each part is within the stated stack.
    part_low : (k : ℕ) (part : Part) → slice_get (parts_of policy) k ≡ Some part → (tops : ℕ) → heights (shared + 2 * k) ≤ tops → heights (shared + (2 * k + 1)) ≤ tops → part_height part ≤ tops
    part_low k part e tops low high =
        let fit = parts_fit back policy is budgets in
        let long = tests_long back policy is budgets in
        let may_be = may back policy is budgets in
        let init = handler_height (2 * k) ∙ init_height image (callees_of policy) table (has_shared policy budgets) back may_be count long (parts_of policy) fit k part e in
        let body = handler_height (2 * k + 1) ∙ body_height image (callees_of policy) table (has_shared policy budgets) back may_be count long (parts_of policy) fit k part e in
        omega (arith, init, body, low, high)

    stack_least : greatest part_height (parts_of policy) ≤ budgets.stack
    stack_least =
        let fit = accepted.stack in
        let tops = fit.1 in
        let stated = fit.5 in
        let there = indexes back policy is budgets in
        let low : (routine : ℕ) → routine < length image.routines → heights routine ≤ tops routine =
        least_height image (callees_of policy) (good back policy is budgets) one fit.0 tops fit.2 fit.3 (first back policy is budgets) in
        let always_init = low (shared + 2 * 0) there.always.0 in
        let always_body = low (shared + (2 * 0 + 1)) there.always.1 in
        let stated_init = stated.always_init in
        let stated_body = stated.always_body in
        let states : (k : ℕ) (part : Part) → slice_get policy.states k ≡ Some part → part_height part ≤ budgets.stack = λ k part e.
        let spec = spec_at shared count 1 policy.tables.states policy.states k part is.count e in
        let routines = subst (λ (h : Handlers). AreRoutines image h) spec.handlers (there.states k spec.spec spec.at) in
        let init_low = low (shared + 2 * (1 + k)) routines.0 in
        let body_low = low (shared + (2 * (1 + k) + 1)) routines.1 in
        let init_stated = stated.init k spec.spec spec.at in
        let body_stated = stated.body k spec.spec spec.at in
        let init_is = ap (λ (h : Handlers). tops h.init.0) spec.handlers in
        let body_is = ap (λ (h : Handlers). tops h.body.0) spec.handlers in
        part_low (1 + k) part (part_at policy k part e) budgets.stack (omega (arith, init_low, init_stated, init_is)) (omega (arith, body_low, body_stated, body_is)) in
        let always = part_low 0 policy.always refl budgets.stack (omega (arith, always_init, stated_init)) (omega (arith, always_body, stated_body)) in
        let most = greatest_of part_height policy.states some_state in
        let own = states most.k most.x most.at in
        let most_is = most.is in
        omega (arith, always, own, most_is)

  abbrev depths : ℕ → ℕ
  depths = accepted.frames.0

  -- If a code has number 0, two frames are stated.
  abbrev HasTwo : List Op → Type 0
  HasTwo code = place_in table code ≡ Some 0 → 2 ≤ budgets.frames

  -- A block that calls the first shared condition needs two frames.
  block_frames : (routine : ℕ) → depths routine ≤ budgets.frames → (place : ℕ) (block : Block) → HasAt (code_of image routine) place (block_code coder place block) → AllByRecursion HasTwo (conditions_of block)
  block_frames routine low place Done has = tt
  block_frames routine low place (RunThen n rest) has =
      let same : place + 1 + 1 ≡ place + 2 = omega arith in
      block_frames routine low (place + 2) rest (subst (λ p. HasAt (code_of image routine) p (block_code coder (place + 2) rest)) same has.1.1)
  block_frames routine low place (SetStateThen n rest) has =
      let same : place + 1 + 1 ≡ place + 2 = omega arith in
      block_frames routine low (place + 2) rest (subst (λ p. HasAt (code_of image routine) p (block_code coder (place + 2) rest)) same has.1.1)
  block_frames routine low place (IfThen c inner rest) has =
      let code = code_of image routine in
      let at = place + coder.size c in
      let from = at + 1 in
      let past = from + code_size coder inner in
      let codes = block_code coder from inner ++ block_code coder past rest in
      let here = has_left code place (coder.code c) (JumpFalse past ∷ codes) has in
      let jump = has_right code place (coder.code c) (JumpFalse past ∷ codes) at (ap (λ n. place + n) (coder_sized table c)) has in
      let inside = has_left code from (block_code coder from inner) (block_code coder past rest) jump.1 in
      let onward = has_right code from (block_code coder from inner) (block_code coder past rest) past (ap (λ n. from + n) (block_sized coder (coder_sized table) from inner)) jump.1 in (
        λ e.
            let call = (subst (λ o. HasAt code place (in_place (condition_code c) o)) e here).0 in
            let below = accepted.frames.1.calls routine place (record { 0 = 0 }) call in
            let own = accepted.frames.1.own 0 in
            omega (arith, below, own, low),
        each_both HasTwo (conditions_of inner) (conditions_of rest) (block_frames routine low from inner inside) (block_frames routine low past rest onward),
      )

  init_frames : (k : ℕ) (part : Part) → slice_get (parts_of policy) k ≡ Some part → depths (shared + 2 * k) ≤ budgets.frames → AllByRecursion HasTwo (conditions_of part.init)
  init_frames k part e low =
      let there = ap code_in (init_there back policy is budgets k part e) in
      let code = block_code coder 0 part.init in
      let has = subst (λ c. HasAt c 0 (code ++ Ret ∷ [])) (sym there) (has_all [] (code ++ Ret ∷ [])) in
      block_frames (shared + 2 * k) low 0 part.init (has_left (code_of image (shared + 2 * k)) 0 code (Ret ∷ []) has)

  body_frames : (k : ℕ) (part : Part) → slice_get (parts_of policy) k ≡ Some part → depths (shared + (2 * k + 1)) ≤ budgets.frames → AllByRecursion HasTwo (conditions_of part.body)
  body_frames k part e low =
      let there = ap code_in (body_there back policy is budgets k part e) in
      let start = body_start count part.body in
      let held = held_code (body_end coder count part.body) (holding count part.body) in
      let code = block_code coder start part.body in
      let all = code_of image (shared + (2 * k + 1)) in
      let has = subst (λ c. HasAt c 0 (held ++ (code ++ Ret ∷ []))) (sym there) (has_all [] (held ++ (code ++ Ret ∷ []))) in
      let long = held_sized (body_end coder count part.body) (holding count part.body) in
      let behind_held = has_right all 0 held (code ++ Ret ∷ []) start (omega (arith, long)) has in
      block_frames (shared + (2 * k + 1)) low start part.body (has_left all start code (Ret ∷ []) behind_held)

  -- The depths of part k are within the stated frames.
  part_depths : (k : ℕ) (part : Part) → slice_get (parts_of policy) k ≡ Some part → (depths (shared + 2 * k) ≤ budgets.frames) × (depths (shared + (2 * k + 1)) ≤ budgets.frames)
  part_depths zero part e = (accepted.frames.3.always_init, accepted.frames.3.always_body)
  part_depths (suc k) part e =
      let spec = spec_at shared count 1 policy.tables.states policy.states k part is.count e in
      let init_stated = accepted.frames.3.init k spec.spec spec.at in
      let body_stated = accepted.frames.3.body k spec.spec spec.at in
      let init_is = ap (λ (h : Handlers). depths h.init.0) spec.handlers in
      let body_is = ap (λ (h : Handlers). depths h.body.0) spec.handlers in
      let init_at = ap (λ n. depths (shared + 2 * n)) (one_more k) in
      let body_at = ap (λ n. depths (shared + (2 * n + 1))) (one_more k) in
      (omega (arith, init_stated, init_is, init_at), omega (arith, body_stated, body_is, body_at))
    where
      one_more : (k : ℕ) → suc k ≡ 1 + k
      one_more k = omega arith

  parts_frames : (k : ℕ) (parts : List Part) → ((j : ℕ) (part : Part) → slice_get parts j ≡ Some part → slice_get (parts_of policy) (k + j) ≡ Some part) → AllByRecursion HasTwo (conditions_in parts)
  parts_frames k [] at = tt
  parts_frames k (x ∷ parts) at =
      let here : k + 0 ≡ k = omega arith in
      let e = sym (ap (slice_get (parts_of policy)) here) ∙ at 0 x refl in
      let low = part_depths k x e in
      let rest = parts_frames (k + 1) parts (λ j part h. let same : k + 1 + j ≡ k + suc j = omega arith in ap (slice_get (parts_of policy)) same ∙ at (suc j) part h) in
      each_both HasTwo (conditions_of x.init) (conditions_of x.body ++ conditions_in parts) (init_frames k x e low.0)
      (each_both HasTwo (conditions_of x.body) (conditions_in parts) (body_frames k x e low.1) rest)

  abbrev first_place : Option ℕ
  first_place = Some zero

  frames_by : (codes : List (List Op)) → AllByRecursion (λ code. place_in codes code ≡ Some 0 → 2 ≤ budgets.frames) codes → 1 ≤ budgets.frames → frames_for codes ≤ budgets.frames
  frames_by [] all some = some
  frames_by (code ∷ codes) all some = all.0 (ap (λ b. if b then first_place else option_map suc (place_in codes code)) ((code_decides back code code).1 refl))

  frames_least : frames_for (shared_of policy) ≤ budgets.frames
  frames_least =
      let own = accepted.frames.1.own image.always.init.0 in
      let stated = accepted.frames.3.always_init in
      let all = parts_frames 0 (parts_of policy) (λ j part h. let same : 0 + j ≡ j = omega arith in ap (slice_get (parts_of policy)) same ∙ h) in
      frames_by table (each_shared HasTwo (conditions_in (parts_of policy)) all) (omega (arith, own, stated))

pub budgets_are_least : IsReadBack → HasOneTyping → BudgetsAreLeast
budgets_are_least back one policy is budgets accepted = record {
  stack = stack_least back policy is budgets accepted one;
  frames = frames_least back policy is budgets accepted;
  cost =
      let fit = accepted.cost in
      amounts_least back policy is budgets accepted cost_of (init_most back policy is budgets) (body_most back policy is budgets) (costs back policy is budgets) fit.0 fit.1 budgets.cost fit.3;
  commands =
      let fit = accepted.commands in
      amounts_least back policy is budgets accepted commands_of (λ part. block_runs part.init) (λ part. block_runs part.body) (commands back policy is budgets) fit.0 fit.1 budgets.commands fit.3;
}
