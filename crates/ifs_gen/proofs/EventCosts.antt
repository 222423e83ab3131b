-- The cost of events by the written code is that of the policy's blocks.
use Rattle.std.proofs.Common.{◌≡◌, ◌∙◌, ℕ, zero, suc, ◌+◌, ◌*◌, ◌≤◌, ◌<◌, max, Bool, true, false, List, []}
use Rattle.std.proofs.Common.{◌∷◌, ◌++◌, length, Option, Some, None, refl, sym, ap, subst, arith, option_map, take, drop, get_or, map, append_assoc, length-drop, ◌-◌}
use Rattle.std.specs.Prelude.{sum_by, slice_get, All, if◌then◌else◌}
use Rattle.std.specs.Cmp.Lexicographic.{as_long}
use Rattle.std.proofs.lemmas.List.{take_all}
use Rattle.std.proofs.lemmas.List.Elements.{All-head, All-tail, All-weaker}
use Rattle.std.proofs.lemmas.List.Sums.{sum_by-cons, sum_by-append}
use Rattle.std.proofs.lemmas.Option.{none-some, same_Some}
use Rattle.ifs_base.specs.declared.ids.TestId.{TestId}
use Rattle.ifs_base.specs.declared.op.Op.{Op}
use Rattle.ifs_base.specs.declared.op.Op.TheVariants.{Ret, Call, Known, JumpFalse, Negate, Both, Either, PushCommand, PushState, Queue, Want}
use Rattle.ifs_image.specs.declared.parts.Routine.{Routine}
use Rattle.ifs_parse.specs.Trees.{condition_size}
use Rattle.ifs_gen.specs.Trees.{LinkIs, TestIs, Condition, Leaf, NotSo, And, Or, Block, Done, RunThen, SetStateThen, IfThen, Part, Policy}
use Rattle.ifs_gen.specs.PlainCode.{Coder, plain_coder, condition_code, block_code, code_size, block_limit, held_code, holding}
use Rattle.ifs_gen.specs.PlainCode.{body_start, body_end, body_code, init_code, body_limit, init_limit}
use Rattle.ifs_gen.specs.PlainSizes.{test_count, parts_of, greatest, number_in, event_total, PartCodeFits, CodeFits}
use Rattle.ifs_gen.specs.PolicyImage.{routine_of_code, shared_routine, routines_of}
use Rattle.ifs_gen.specs.Sharing.{same_op, same_code, place_in, in_place, cost_in_place, shared_coder}
use Rattle.ifs_gen.specs.inner.Costs.{call_cost, op_cost, routine_cost, most_of_inits, most_of_bodies, event_cost_in}
use Rattle.ifs_gen.specs.inner.Measures.{capped}
use Rattle.ifs_gen.proofs.Simulation.{condition_sized}
use Rattle.ifs_policy.specs.Fits.{PolicyFits}
use Rattle.ifs_gen.proofs.Copying.{at_index}
use Rattle.ifs_gen.proofs.Images.{routines_long, greatest_below, number_low}
use Rattle.ifs_gen.proofs.Shrinks.{size_some}

module _ (table : List (List Op)) where
  abbrev coder : Coder
  coder = shared_coder table

  abbrev cost : List Op → ℕ
  cost code = sum_by (op_cost table) code

  -- Two codes in sequence, and one more instruction.
  cost_append : (xs ys : List Op) → cost (xs ++ ys) ≡ cost xs + cost ys
  cost_append xs ys = sum_by-append (op_cost table) xs ys

  cost_cons : (op : Op) (ops : List Op) → cost (op ∷ ops) ≡ op_cost table op + cost ops
  cost_cons op ops = sum_by-cons (op_cost table) op ops

  both_cost : (a b : Condition) (op : Op) → cost (op ∷ []) ≡ 1 → cost (condition_code a) ≡ condition_size a → cost (condition_code b) ≡ condition_size b
      → cost (condition_code a ++ (condition_code b ++ op ∷ [])) ≡ condition_size a + condition_size b + 1
  both_cost a b op last h k =
      let e = cost_append (condition_code a) (condition_code b ++ op ∷ []) in
      let f = cost_append (condition_code b) (op ∷ []) in
      omega (arith, e, f, last, h, k)

  -- A condition in plain code executes each of its instructions once.
  plain_costs : (c : Condition) → cost (condition_code c) ≡ condition_size c
  plain_costs (Leaf (LinkIs n s)) = refl
  plain_costs (Leaf (TestIs n)) = refl
  plain_costs (NotSo c) = let e = cost_append (condition_code c) (Negate ∷ []) in let h = plain_costs c in let last : cost (Negate ∷ []) ≡ 1 = refl in omega (arith, e, h, last)
  plain_costs (And a b) = both_cost a b Both refl (plain_costs a) (plain_costs b)
  plain_costs (Or a b) = both_cost a b Either refl (plain_costs a) (plain_costs b)

  -- A condition in plain code or called.
  test_costs : (c : Condition) (o : Option ℕ) → ((k : ℕ) → o ≡ Some k → call_cost (slice_get table k) ≡ 2 + length (condition_code c))
      → cost (in_place (condition_code c) o) ≡ cost_in_place (condition_size c) o
  test_costs c None placed = plain_costs c
  test_costs c (Some k) placed =
      let here = placed k refl in
      let e = cost_cons (Call (record { 0 = k })) [] in
      let nothing : cost [] ≡ 0 = refl in
      let sized = condition_sized c in
      omega (arith, here, e, nothing, sized)

-- The entry at the number of a code has the length of the code.
placed_if : (b : Bool) (entry : List Op) (table : List (List Op)) (code : List Op) (o : Option ℕ) (k : ℕ) → same_code code entry ≡ b
    → ((j : ℕ) → o ≡ Some j → call_cost (slice_get table j) ≡ 2 + length code) → (if b then Some zero else option_map suc o) ≡ Some k → call_cost (slice_get (entry ∷ table) k) ≡ 2 + length code
placed_if true entry table code o k same rest e =
    ap (λ n. call_cost (slice_get (entry ∷ table) n)) (sym (same_Some zero k e)) ∙ ap (λ n. 2 + n) (sym (as_long same_op code entry same))
placed_if false entry table code None k same rest e = absurd (none-some k e)
placed_if false entry table code (Some j) k same rest e = ap (λ n. call_cost (slice_get (entry ∷ table) n)) (sym (same_Some (suc j) k e)) ∙ rest j refl

placed_long : (table : List (List Op)) (code : List Op) (k : ℕ) → place_in table code ≡ Some k → call_cost (slice_get table k) ≡ 2 + length code
placed_long [] code k e = absurd (none-some k e)
placed_long (entry ∷ table) code k e = placed_if (same_code code entry) entry table code (place_in table code) k refl (placed_long table code) e

module _ (table : List (List Op)) where
  called_costs : (c : Condition) → cost table ((shared_coder table).code c) ≡ (shared_coder table).cost c
  called_costs c = test_costs table c (place_in table (condition_code c)) (placed_long table (condition_code c))

  two_costs : (first second : Op) (code : List Op) (n : ℕ) → op_cost table first ≡ 1 → op_cost table second ≡ 1 → cost table code ≡ n → cost table (first ∷ second ∷ code) ≡ 2 + n
  two_costs first second code n p q h =
      let e = cost_cons table first (second ∷ code) in
      let f = cost_cons table second code in
      omega (arith, e, f, p, q, h)

  -- Blocks, inits and bodies.
  block_costs : (place : ℕ) (block : Block) → cost table (block_code (shared_coder table) place block) ≡ block_limit (shared_coder table) block
  block_costs place Done = refl
  block_costs place (RunThen n rest) = two_costs (PushCommand n) Queue (block_code (shared_coder table) (place + 2) rest) _ refl refl (block_costs (place + 2) rest)
  block_costs place (SetStateThen n rest) = two_costs (PushState n) Want (block_code (shared_coder table) (place + 2) rest) _ refl refl (block_costs (place + 2) rest)
  block_costs place (IfThen c inner rest) =
      let from = place + (shared_coder table).size c + 1 in
      let past = from + code_size (shared_coder table) inner in
      let codes = block_code (shared_coder table) from inner in
      let last = block_code (shared_coder table) past rest in
      let e = cost_append table ((shared_coder table).code c) (JumpFalse past ∷ (codes ++ last)) in
      let f = cost_cons table (JumpFalse past) (codes ++ last) in
      let g = cost_append table codes last in
      let here = called_costs c in
      let h = block_costs from inner in
      let k = block_costs past rest in
      omega (arith, e, f, g, here, h, k)

  held_costs : (end : ℕ) (tests : List TestId) → cost table (held_code end tests) ≡ 2 * length tests
  held_costs end [] = refl
  held_costs end (test ∷ tests) =
      let h = two_costs (Known test) (JumpFalse end) (held_code end tests) _ refl refl (held_costs end tests) in omega (arith, h)

  ret_costs : cost table (Ret ∷ []) ≡ 1
  ret_costs = refl

  init_costs : (init : Block) → cost table (init_code (shared_coder table) init) ≡ init_limit (shared_coder table) init
  init_costs init =
      let e = cost_append table (block_code (shared_coder table) 0 init) (Ret ∷ []) in
      let h = block_costs 0 init in
      let last = ret_costs in
      omega (arith, e, h, last)

  body_costs : (count : ℕ) (body : Block) → cost table (body_code (shared_coder table) count body) ≡ body_limit (shared_coder table) count body
  body_costs count body =
      let held = held_code (body_end (shared_coder table) count body) (holding count body) in
      let code = block_code (shared_coder table) (body_start count body) body in
      let e = cost_append table held (code ++ Ret ∷ []) in
      let f = cost_append table code (Ret ∷ []) in
      let g = held_costs (body_end (shared_coder table) count body) (holding count body) in
      let h = block_costs (body_start count body) body in
      let last = ret_costs in
      omega (arith, e, f, g, h, last)

  -- Code with calls executes at most three times as many instructions as plain code has.
  test_low : (c : Condition) (o : Option ℕ) → cost_in_place (condition_size c) o ≤ 3 * condition_size c
  test_low c None = omega arith
  test_low c (Some k) = let some = size_some c in omega (arith, some)

  pub limit_low : (block : Block) → block_limit (shared_coder table) block ≤ 3 * code_size plain_coder block
  limit_low Done = omega arith
  limit_low (RunThen n rest) = let h = limit_low rest in omega (arith, h)
  limit_low (SetStateThen n rest) = let h = limit_low rest in omega (arith, h)
  limit_low (IfThen c inner rest) =
      let here = test_low c (place_in table (condition_code c)) in
      let h = limit_low inner in
      let k = limit_low rest in
      omega (arith, here, h, k)

  module _ (count : ℕ) where
    abbrev init_of : Part → ℕ
    init_of part = init_limit (shared_coder table) part.init

    abbrev body_of : Part → ℕ
    body_of part = body_limit (shared_coder table) count part.body

    abbrev code_of : List Part → List Routine
    code_of parts = routines_of (shared_coder table) count parts

    init_low : (part : Part) → PartCodeFits count part → init_of part ≤ 3072
    init_low part fits = let low = limit_low part.init in let short = fits.init in omega (arith, low, short)

    body_low : (part : Part) → PartCodeFits count part → body_of part ≤ 3072
    body_low part fits = let low = limit_low part.body in let short = fits.body in omega (arith, low, short)

    -- The cost of a routine is that of its block.
    init_is : (part : Part) → PartCodeFits count part → routine_cost table (routine_of_code (init_code (shared_coder table) part.init)) ≡ init_of part
    init_is part fits = let e = init_costs part.init in let low = init_low part fits in omega (arith, e, low)

    body_is : (part : Part) → PartCodeFits count part → routine_cost table (routine_of_code (body_code (shared_coder table) count part.body)) ≡ body_of part
    body_is part fits = let e = body_costs count part.body in let low = body_low part fits in omega (arith, e, low)

    -- The greatest costs.
    inits_are : (parts : List Part) → All (PartCodeFits count) parts → most_of_inits table (code_of parts) ≡ greatest init_of parts
    inits_are [] fits = refl
    inits_are (x ∷ parts) fits =
        let e = init_is x (All-head (PartCodeFits count) x parts fits) in
        let h = inits_are parts (All-tail (PartCodeFits count) x parts fits) in
        omega (arith, e, h)

    bodies_are : (parts : List Part) → All (PartCodeFits count) parts → most_of_bodies table (code_of parts) ≡ greatest body_of parts
    bodies_are [] fits = refl
    bodies_are (x ∷ parts) fits =
        let e = body_is x (All-head (PartCodeFits count) x parts fits) in
        let h = bodies_are parts (All-tail (PartCodeFits count) x parts fits) in
        omega (arith, e, h)

    inits_low : (parts : List Part) → All (PartCodeFits count) parts → greatest init_of parts ≤ 3072
    inits_low parts fits = greatest_below init_of parts 3072 (All-weaker (PartCodeFits count) (λ part. init_of part ≤ 3072) init_low parts fits)

    bodies_low : (parts : List Part) → All (PartCodeFits count) parts → greatest body_of parts ≤ 3072
    bodies_low parts fits = greatest_below body_of parts 3072 (All-weaker (PartCodeFits count) (λ part. body_of part ≤ 3072) body_low parts fits)

    -- The cost of one init.
    first_is : (parts : List Part) (i : ℕ) → All (PartCodeFits count) parts → number_in (routine_cost table) (slice_get (code_of parts) (2 * i)) ≡ number_in init_of (slice_get parts i)
    first_is [] i fits = refl
    first_is (x ∷ parts) zero fits = init_is x (All-head (PartCodeFits count) x parts fits)
    first_is (x ∷ parts) (suc i) fits =
        let next : 2 * suc i ≡ suc (suc (2 * i)) = omega arith in
        ap (λ k. number_in (routine_cost table) (slice_get (code_of (x ∷ parts)) k)) next ∙ first_is parts i (All-tail (PartCodeFits count) x parts fits)

-- The greatest cost of one event of a policy.
abbrev pub event_limit : Policy → List (List Op) → ℕ
event_limit policy table = event_total (init_of table (test_count policy)) (body_of table (test_count policy)) policy

-- It is the one that the written routines have, and it is low.
module _ (policy : Policy) (table : List (List Op)) (fits : All (PartCodeFits (test_count policy)) (parts_of policy)) where
  abbrev tests : ℕ
  tests = test_count policy

  always : PartCodeFits tests policy.always
  always = All-head (PartCodeFits tests) policy.always policy.states fits

  states : All (PartCodeFits tests) policy.states
  states = All-tail (PartCodeFits tests) policy.always policy.states fits

  pub event_is : event_cost_in table (code_of table tests (parts_of policy)) policy.initial.0 ≡ event_limit policy table
  event_is =
      let a = init_is table tests policy.always always in
      let b = body_is table tests policy.always always in
      let c = inits_are table tests policy.states states in
      let d = bodies_are table tests policy.states states in
      let e = first_is table tests policy.states policy.initial.0 states in
      omega (arith, a, b, c, d, e)

  pub event_low : event_limit policy table ≤ 9216
  event_low =
      let a = init_low table tests policy.always always in
      let b = body_low table tests policy.always always in
      let c = inits_low table tests policy.states states in
      let d = bodies_low table tests policy.states states in
      let e = number_low (init_of table tests) policy.states policy.initial.0 in
      omega (arith, a, b, c, d, e)

-- The cost of an event, by the routines that are read for it.
pub event_read : (table : List (List Op)) (handlers : List Routine) (initial : ℕ) (init body first : Routine) → 2 + 2 * initial < length handlers
    → init ≡ get_or handlers 0 init → body ≡ get_or handlers 1 body → first ≡ get_or (drop 2 handlers) (2 * initial) first
    → event_cost_in table handlers initial ≡ max (routine_cost table body + most_of_bodies table (drop 2 handlers) + most_of_inits table (drop 2 handlers)) (routine_cost table init + routine_cost table first)
event_read table [] initial init body first less a b c = absurd (omega (arith, less))
event_read table (x ∷ []) initial init body first less a b c = absurd (omega (arith, less))
event_read table (x ∷ y ∷ states) initial init body first less a b c =
    let p = ap (routine_cost table) a in
    let q = ap (routine_cost table) b in
    let r = ap (number_in (routine_cost table)) (at_index states (2 * initial) first first (omega (arith, less)) c) in
    omega (arith, p, q, r)

-- All routines of a policy, in order.
pub written : (shared : List (List Op)) (count : ℕ) (always : Part) (states : List Part) (start one two three : List Routine) → start ≡ [] → one ≡ start ++ map shared_routine shared
    → two ≡ one ++ routines_of (shared_coder shared) count (always ∷ []) → three ≡ two ++ routines_of (shared_coder shared) count states
    → three ≡ map shared_routine shared ++ routines_of (shared_coder shared) count (always ∷ states)
written shared count always states start one two three start_is one_is two_is three_is =
    let coder = shared_coder shared in
    three_is ∙ ap (λ l. l ++ routines_of coder count states) (two_is ∙ ap (λ l. l ++ routines_of coder count (always ∷ [])) (one_is ∙ ap (λ l. l ++ map shared_routine shared) start_is))
    ∙ append_assoc (map shared_routine shared) (routines_of coder count (always ∷ [])) (routines_of coder count states)

-- The list after the routines of shared conditions.
pub behind : {T U : Type 0} (f : T → U) (xs : List T) (ys : List U) → drop (length xs) (map f xs ++ ys) ≡ ys
behind f [] ys = refl
behind f (x ∷ xs) ys = behind f xs ys

-- A slice from a place to the end.
pub from_place : {T : Type 0} (k : ℕ) (xs : List T) → take (length xs - k) (drop k xs) ≡ drop k xs
from_place k xs = let long = length-drop k xs in take_all (length xs - k) (drop k xs) (omega (arith, long))

-- The routines that are written for a policy.
module _ (policy : Policy) (shared : List (List Op)) (count m : ℕ) (always : Part) (states : List Part) (all : List Routine) (count_is : count ≡ test_count policy) (m_is : m ≡ length shared)
    (always_is : always ≡ policy.always) (states_is : states ≡ policy.states) (all_is : all ≡ map shared_routine shared ++ routines_of (shared_coder shared) count (always ∷ states)) where
  pub routines_are : all ≡ map shared_routine shared ++ routines_of (shared_coder shared) (test_count policy) (parts_of policy)
  routines_are = all_is ∙ (λ i. map shared_routine shared ++ routines_of (shared_coder shared) (count_is i) (always_is i ∷ states_is i))

  pub handlers_are : take (length all - m) (drop m all) ≡ routines_of (shared_coder shared) (test_count policy) (parts_of policy)
  handlers_are =
      from_place m all ∙ ap (λ k. drop k all) m_is ∙ ap (drop (length shared)) routines_are
      ∙ behind shared_routine shared (routines_of (shared_coder shared) (test_count policy) (parts_of policy))

  pub initial_within : PolicyFits policy → 2 + 2 * policy.initial.0 < length (take (length all - m) (drop m all))
  initial_within fits =
      let e = ap length handlers_are in
      let long = routines_long (shared_coder shared) (test_count policy) (parts_of policy) in
      let less = fits.initial in
      let same = fits.count in
      omega (arith, e, long, less, same)

  pub cost_is : (cost : ℕ) → CodeFits policy → cost ≡ capped (event_cost_in shared (take (length all - m) (drop m all)) policy.initial.0) → cost ≡ event_limit policy shared
  cost_is cost code is =
      let e = ap (λ hs. event_cost_in shared hs policy.initial.0) handlers_are ∙ event_is policy shared code.each in
      let low = event_low policy shared code.each in
      omega (arith, is, e, low)

-- The always part keeps the limits.
pub always_fits : (policy : Policy) (count : ℕ) (always : Part) → CodeFits policy → count ≡ test_count policy → always ≡ policy.always → PartCodeFits count always
always_fits policy count always code count_is always_is =
    subst (λ n. PartCodeFits n always) (sym count_is)
    (subst (PartCodeFits (test_count policy)) (sym always_is) (All-head (PartCodeFits (test_count policy)) policy.always policy.states code.each))
