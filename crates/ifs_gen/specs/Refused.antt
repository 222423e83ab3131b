-- The first limit that the plain code of a policy exceeds.
use Rattle.std.specs.Prelude.{ℕ, ◌≡◌, ◌<◌, ◌≤◌, ◌⊎◌, List, [], ◌∷◌, sum, Some, slice_get, All}
use Rattle.ifs_gen.specs.declared.fault.GenFault.{GenFault}
use Rattle.ifs_gen.specs.declared.fault.GenFault.TheVariants.{RoutineTooLong, CodeTooLong}
use Rattle.ifs_gen.specs.declared.fault.GenFault.TheVariants.{StackTooHigh, TooManyCommands, Memory}
use Rattle.ifs_gen.specs.Trees.{Part, Policy}
use Rattle.ifs_gen.specs.PlainCode.{plain_coder, block_height}
use Rattle.ifs_gen.specs.PlainSizes.{test_count, parts_of, init_length, body_length, room_of}
use Rattle.ifs_gen.specs.PlainSizes.{most_of_routine, most_of_all, most_of_stack, most_of_event, CodeFits}

-- The numbers of instructions of the routines of parts, in order, in a policy with `count` tests.
abbrev pub lengths_of : ℕ → List Part → List ℕ
lengths_of count [] = []
lengths_of count (part ∷ parts) = init_length part ∷ body_length count part ∷ lengths_of count parts

-- The greatest numbers of values of the routines of parts on the stack, in order.
abbrev pub heights_of : List Part → List ℕ
heights_of [] = []
heights_of (part ∷ parts) = block_height plain_coder part.init ∷ block_height plain_coder part.body ∷ heights_of parts

-- The numbers of instructions of the routines of a policy.
abbrev pub lengths : Policy → List ℕ
lengths policy = lengths_of (test_count policy) (parts_of policy)

-- The greatest numbers of values of the routines of a policy on the stack.
abbrev pub heights : Policy → List ℕ
heights policy = heights_of (parts_of policy)

-- No number exceeds a limit.
abbrev pub AreWithin : ℕ → List ℕ → Type 0
AreWithin limit numbers = All (λ n. n ≤ limit) numbers

-- The first number that exceeds a limit is at an index.
pub record IsFirstOver (limit : ℕ) (numbers : List ℕ) (index : ℕ) : Type 0 where
  pub number : ℕ
  pub at : slice_get numbers index ≡ Some number
  pub over : limit < number
  pub before : (i n : ℕ) → i < index → slice_get numbers i ≡ Some n → n ≤ limit

-- These lengths, heights and room exceed this limit, and none that is checked before it. A failed allocation is no limit.
abbrev pub IsPassed : List ℕ → List ℕ → ℕ → GenFault → Type 0
IsPassed lengths heights room (RoutineTooLong routine) = IsFirstOver most_of_routine lengths routine.0
IsPassed lengths heights room CodeTooLong = AreWithin most_of_routine lengths × (most_of_all < sum lengths)
IsPassed lengths heights room (StackTooHigh routine) = AreWithin most_of_routine lengths × (sum lengths ≤ most_of_all) × IsFirstOver most_of_stack heights routine.0
IsPassed lengths heights room TooManyCommands = AreWithin most_of_routine lengths × (sum lengths ≤ most_of_all) × AreWithin most_of_stack heights × (most_of_event < room)
IsPassed lengths heights room Memory = ⊥

-- The plain code of a policy exceeds this limit first.
abbrev pub PassesFirst : Policy → GenFault → Type 0
PassesFirst policy fault = IsPassed (lengths policy) (heights policy) (room_of policy) fault

-- The code of each policy keeps the limits, or exceeds one first.
abbrev pub FitsOrIsRefused : Type 0
FitsOrIsRefused = (policy : Policy) → CodeFits policy ⊎ ((fault : GenFault) × PassesFirst policy fault)

-- Code that exceeds a limit first does not keep the limits.
abbrev pub RefusedDoNotFit : Type 0
RefusedDoNotFit = (policy : Policy) (fault : GenFault) → PassesFirst policy fault → ¬ CodeFits policy

-- At most one limit, of one routine, is exceeded first.
abbrev pub OneLimitIsFirst : Type 0
OneLimitIsFirst = (policy : Policy) (fault other : GenFault) → PassesFirst policy fault → PassesFirst policy other → fault ≡ other
