-- Handlers of a policy on the machine: a body that is held back jumps to its end; otherwise it has the effects that it reaches.
use Rattle.std.proofs.Common.{◌≡◌, ℕ, suc, ◌+◌, ◌*◌, ◌<◌, ◌≤◌, Bool, true, false, not, cond, List, []}
use Rattle.std.proofs.Common.{◌∷◌, ◌++◌, length, Option, Some, None, refl, sym, ap, ◌∙◌, subst, arith}
use Rattle.std.specs.Prelude.{◌||◌, is_some, slice_get, if◌then◌else◌}
use Rattle.std.specs.List.{list_any}
use Rattle.ifs_base.specs.Facts.{Facts}
use Rattle.ifs_base.specs.Effects.{Effects, nothing_yet, followed}
use Rattle.ifs_base.specs.declared.ids.TestId.{TestId}
use Rattle.ifs_base.specs.declared.op.Op.TheVariants.{Ret, Known}
use Rattle.ifs_image.specs.declared.parts.ImageParts.{ImageParts}
use Rattle.ifs_image.specs.Code.{code_of, op_at, results_of}
use Rattle.ifs_machine.specs.declared.value.Value.TheVariants.{Truth}
use Rattle.ifs_machine.specs.Table.{Ended, FramesFull, StackFull, WrongResults, unless, have_kinds, returns, row_of}
use Rattle.ifs_machine.specs.Run.{next, after_rows, begin, RunsTo, AreFactsOf}
use Rattle.ifs_gen.specs.Trees.{Block}
use Rattle.ifs_policy.specs.Meaning.{has_a_value, mentioned, is_open, is_held, reached, body_yield, init_yield}
use Rattle.ifs_gen.specs.PlainCode.{Coder, held_code, holding, body_start, body_end}
use Rattle.ifs_gen.specs.PlainCode.{body_code, init_code, block_code, code_size}
use Rattle.ifs_gen.specs.Runs.{image_sizes, HasAt, Point, point, at_point, RowsLead, Computes}
use Rattle.ifs_gen.specs.Runs.{block_cost, held_cost, body_cost, init_cost, IsHandlerOf, HandlersDo}
use Rattle.ifs_gen.proofs.Rows.{entry_at, unless_fits, has_all, has_left, has_right, followed_nothing}
use Rattle.ifs_gen.proofs.Rows.{no_rows, then_leads, as_told, at_place, one_row, jump_row}
use Rattle.ifs_gen.proofs.Simulation.{block_sized, block_leads}
use Rattle.ifs_gen.proofs.Mentions.{EachBelow, each_below, alike_below}
use Rattle.ifs_gen.proofs.Mentions.{block_tests_below, HasRoomFor, room_any, body_room}

known_value : (v : Option Bool) → is_some v ≡ has_a_value (Some v)
known_value None = refl
known_value (Some b) = refl

pub held_sized : (end : ℕ) (tests : List TestId) → length (held_code end tests) ≡ 2 * length tests
held_sized end [] = refl
held_sized end (test ∷ tests) = let h = held_sized end tests in omega (arith, h)

module _ (image : ImageParts) (facts : Facts) (coder : Coder) (given : AreFactsOf image facts) (computes : Computes image facts coder) where
  module _ (routine : ℕ) where
    abbrev leads : Point → ℕ → Point → Type 0
    leads from rows to = RowsLead image facts routine [] from rows to

    known_row : (place : ℕ) (effects : Effects) (n : TestId) → op_at image routine place ≡ Some (Known n) → n.0 < length image.tests → 1 ≤ image.budgets.stack
        → leads (point place [] effects) 1 (point (place + 1) (Truth (has_a_value (slice_get facts.tests n.0)) ∷ []) effects)
    known_row place effects n here fits room =
        let there = entry_at facts.tests n.0 (omega (arith, given.tests, fits)) in
        one_row image facts routine [] _ _ (Known n) here
        (rw there.1 (unless_fits 1 image.budgets.stack StackFull _ room ∙ ap (λ b. at_point routine [] (point (place + 1) (Truth b ∷ []) effects)) (known_value there.0)))

    -- A test without a value leads to the end, and one with a value to the next test.
    held_choice : (b any : Bool) (place end past cost : ℕ) (effects : Effects) → leads (point place [] effects) 2 (point (cond b (place + 1 + 1) end) [] effects)
        → leads (point (place + 2) [] effects) cost (point (if any then end else past) [] effects)
        → leads (point place [] effects) (2 + (if not b then 0 else cost)) (point (if not b || any then end else past) [] effects)
    held_choice true any place end past cost effects here onward =
        then_leads image facts routine [] _ _ _ _ _ (at_place image facts routine [] _ _ _ _ (place + 2) [] effects here refl (omega arith)) onward
    held_choice false any place end past cost effects here onward = here

    held_leads : (tests : List TestId) (place end : ℕ) (effects : Effects) → EachBelow (length image.tests) tests → HasRoomFor image.budgets.stack tests
        → HasAt (code_of image routine) place (held_code end tests)
        → leads (point place [] effects) (held_cost facts tests) (point (if list_any (is_open facts) tests then end else place + 2 * length tests) [] effects)
    held_leads [] place end effects below room has =
        at_place image facts routine [] _ _ _ _ _ [] effects (no_rows image facts routine [] (point place [] effects)) refl (omega arith)
    held_leads (test ∷ tests) place end effects below room has =
        let b = has_a_value (slice_get facts.tests test.0) in
        let known = known_row place effects test has.0 below.0 room in
        let jump = jump_row image facts routine [] (place + 1) [] effects b end has.1.0 in
        let same : place + 1 + 1 ≡ place + 2 = omega arith in
        let there = subst (λ p. HasAt (code_of image routine) p (held_code end tests)) same has.1.1 in
        let onward = held_leads tests (place + 2) end effects below.1 (room_any image.budgets.stack tests room) there in
        let far : place + 2 + 2 * length tests ≡ place + 2 * suc (length tests) = omega arith in
        held_choice b (list_any (is_open facts) tests) place end (place + 2 * suc (length tests)) (held_cost facts tests) effects
        (then_leads image facts routine [] _ _ _ 1 1 known jump)
        (subst (λ p. leads (point (place + 2) [] effects) (held_cost facts tests) (point (if list_any (is_open facts) tests then end else p) [] effects)) far onward)

    -- A frame without values ends at its `ret`.
    ends : (place cost : ℕ) (before effects : Effects) → results_of image routine ≡ [] → 1 ≤ image.budgets.frames → op_at image routine place ≡ Some Ret
        → leads (point 0 [] before) cost (point place [] effects) → RunsTo image facts routine before (cost + 1) effects
    ends place cost before effects results frame here runs =
        let start : begin image routine before ≡ at_point routine [] (point 0 [] before) = unless_fits 1 image.budgets.frames FramesFull _ frame in
        let more : cost + 1 ≡ suc cost = omega arith in
        let returned : unless (have_kinds [] (results_of image routine)) WrongResults (returns [] [] effects) ≡ Ended effects = rw results refl in
        ap (λ n. after_rows image facts n (begin image routine before)) more
        ∙ ap (λ o. next image facts (after_rows image facts cost o)) start
        ∙ ap (next image facts) runs.runs
        ∙ ap (row_of image facts (record { frame = record { routine = routine; place = place; values = [] }; callers = []; effects = effects })) here
        ∙ returned

    init_runs : (block : Block) (before : Effects) → IsHandlerOf image coder routine (init_code coder block) block (length before.commands)
        → RunsTo image facts routine before (init_cost coder facts block) (followed before (init_yield facts block))
    init_runs block before h =
        let code = code_of image routine in
        let has = subst (λ c. HasAt c 0 (init_code coder block)) (sym h.listed) (has_all [] (init_code coder block)) in
        let size = block_sized coder computes.sized 0 block in
        let ret = has_right code 0 (block_code coder 0 block) (Ret ∷ []) (0 + code_size coder block) (omega (arith, size)) has in
        let stack = h.stack in
        let frames = h.frames in
        let framed = computes.framed in
        let runs = block_leads image facts coder computes routine [] block 0 [] before h.fits (has_left code 0 (block_code coder 0 block) (Ret ∷ []) has) (omega (arith, stack)) (omega (arith, frames)) h.commands in
        ends (0 + code_size coder block) (block_cost coder facts block) before (followed before (reached facts block)) h.results (omega (arith, framed, frames)) ret.0 runs

    -- A body that is held back is at its end; otherwise its block leads there.
    body_choice : (held : Bool) (start end first cost : ℕ) (before more : Effects) → leads (point 0 [] before) first (point (if held then end else start) [] before)
        → leads (point start [] before) cost (point end [] (followed before more))
        → leads (point 0 [] before) (first + (if held then 0 else cost)) (point end [] (followed before (if held then nothing_yet else more)))
    body_choice true start end first cost before more held runs =
        as_told image facts routine [] _ _ _ _ _ held (omega arith) (ap (λ e. point end [] e) (sym (followed_nothing before)))
    body_choice false start end first cost before more held runs = then_leads image facts routine [] _ _ _ _ _ held runs

    body_runs : (block : Block) (before : Effects) → IsHandlerOf image coder routine (body_code coder (length image.tests) block) block (length before.commands)
        → RunsTo image facts routine before (body_cost coder (length image.tests) facts block) (followed before (body_yield facts block))
    body_runs block before h =
        let count = length image.tests in
        let code = code_of image routine in
        let tests = holding count block in
        let start = body_start count block in
        let end = body_end coder count block in
        let statements = block_code coder start block in
        let has = subst (λ c. HasAt c 0 (body_code coder count block)) (sym h.listed) (has_all [] (body_code coder count block)) in
        let test = held_leads tests 0 end before (each_below count (mentioned block)) (body_room coder computes.high image.budgets.stack count block h.stack)
        (has_left code 0 (held_code end tests) (statements ++ Ret ∷ []) has) in
        let long = held_sized end tests in
        let there = has_right code 0 (held_code end tests) (statements ++ Ret ∷ []) start (omega (arith, long)) has in
        let size = block_sized coder computes.sized start block in
        let ret = has_right code start statements (Ret ∷ []) end (omega (arith, size)) there in
        let stack = h.stack in
        let frames = h.frames in
        let framed = computes.framed in
        let runs = block_leads image facts coder computes routine [] block start [] before h.fits (has_left code start statements (Ret ∷ []) there) (omega (arith, stack)) (omega (arith, frames)) h.commands in
        let begins : 0 + start ≡ start = omega arith in
        let alike = alike_below (is_open facts) count (mentioned block) (block_tests_below (image_sizes image) block h.fits) in
        let first = subst (λ b. leads (point 0 [] before) (held_cost facts tests) (point (if b then end else start) [] before)) alike
        (subst (λ p. leads (point 0 [] before) (held_cost facts tests) (point (if list_any (is_open facts) tests then end else p) [] before)) begins test) in
        ends end (held_cost facts tests + (if is_held facts block then 0 else block_cost coder facts block)) before (followed before (body_yield facts block)) h.results (omega (arith, framed, frames)) ret.0
        (body_choice (is_held facts block) start end (held_cost facts tests) (block_cost coder facts block) before (reached facts block) first runs)

pub handlers_do : HandlersDo
handlers_do image facts coder given computes = record {
  body = λ routine block before h. body_runs image facts coder given computes routine block before h;
  init = λ routine block before h. init_runs image facts coder given computes routine block before h;
}
