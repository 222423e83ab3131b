-- The sizes of plain code: the instructions, the height and the commands of the parts of a policy, its room, and the limits.
use Rattle.std.specs.Prelude.{ℕ, ◌+◌, ◌^◌, ◌≤◌, max, List, [], ◌∷◌, length, sum_by, Option, Some, None}
use Rattle.std.specs.Prelude.{slice_get, All}
use Rattle.ifs_base.specs.declared.ids.TestId.{TestId}
use Rattle.ifs_gen.specs.Trees.{Part, Policy}
use Rattle.ifs_gen.specs.PlainCode.{plain_coder, holding, body_size, init_size, block_height, block_runs}

-- The number of external tests of a policy.
abbrev pub test_count : Policy → ℕ
test_count policy = length policy.tables.tests

-- The parts of a policy: the always part, then those of its states in order.
abbrev pub parts_of : Policy → List Part
parts_of policy = policy.always ∷ policy.states

-- The set of these tests, as a mask. The bit of weight 2 ^ t is test t.
abbrev pub mask_of : List TestId → ℕ
mask_of [] = 0
mask_of (test ∷ tests) = 2 ^ test.0 + mask_of tests

-- The set of the tests that a part's body mentions, in a policy with `count` tests.
abbrev pub mask_of_part : ℕ → Part → ℕ
mask_of_part count part = mask_of (holding count part.body)

-- The greatest number of the entries of a list.
abbrev pub greatest : {T : Type 0} → (T → ℕ) → List T → ℕ
greatest number [] = 0
greatest number (x ∷ xs) = max (number x) (greatest number xs)

-- The number of an entry; 0 if there is none.
abbrev pub number_in : {T : Type 0} → (T → ℕ) → Option T → ℕ
number_in number None = 0
number_in number (Some x) = number x

-- The greatest amount of one event, given the amounts of each init and body. An evaluation runs the always body, a state's body and a state's init; the opening runs the always init and that of the initial state.
abbrev pub event_total : (Part → ℕ) → (Part → ℕ) → Policy → ℕ
event_total init body policy =
    max (body policy.always + greatest body policy.states + greatest init policy.states)
    (init policy.always + number_in init (slice_get policy.states policy.initial.0))

-- The room of a policy: the greatest number of commands of one event.
abbrev pub room_of : Policy → ℕ
room_of policy = event_total (λ part. block_runs part.init) (λ part. block_runs part.body) policy

-- The number of instructions of a part's init.
abbrev pub init_length : Part → ℕ
init_length part = init_size plain_coder part.init

-- The number of instructions of a part's body.
abbrev pub body_length : ℕ → Part → ℕ
body_length count part = body_size plain_coder count part.body

-- The greatest number of values of a part on the stack.
abbrev pub part_height : Part → ℕ
part_height part = max (block_height plain_coder part.init) (block_height plain_coder part.body)

-- The greatest number of instructions of one routine.
abbrev pub most_of_routine : ℕ
most_of_routine = 1024

-- The greatest number of instructions of all routines.
abbrev pub most_of_all : ℕ
most_of_all = 8192

-- The greatest number of values on the stack.
abbrev pub most_of_stack : ℕ
most_of_stack = 32

-- The greatest number of commands of one event.
abbrev pub most_of_event : ℕ
most_of_event = 64

-- The plain code of a part keeps the limits of one routine.
pub record PartCodeFits (count : ℕ) (part : Part) : Type 0 where
  pub init : init_length part ≤ most_of_routine
  pub body : body_length count part ≤ most_of_routine

-- The plain code of a policy keeps the limits: instructions of each routine and of all, values on the stack, and the room.
pub record CodeFits (policy : Policy) : Type 0 where
  pub each : All (PartCodeFits (test_count policy)) (parts_of policy)
  pub together : sum_by (λ part. init_length part + body_length (test_count policy) part) (parts_of policy) ≤ most_of_all
  pub height : All (λ part. part_height part ≤ most_of_stack) (parts_of policy)
  pub room : room_of policy ≤ most_of_event
