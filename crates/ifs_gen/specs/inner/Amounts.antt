-- The amounts of the routines of a policy, measured part by part.
use Rattle.std.specs.Prelude.{ℕ, ◌+◌, ◌≤◌, max, List, [], ◌∷◌, sum, slice_get}
use Rattle.ifs_gen.specs.declared.measure.BlockMeasure.{BlockMeasure}
use Rattle.ifs_gen.specs.declared.amounts.PartMeasure.{PartMeasure}
use Rattle.ifs_gen.specs.declared.amounts.Bounds.{Bounds}
use Rattle.ifs_gen.specs.declared.amounts.Amount.{Amount}
use Rattle.ifs_gen.specs.declared.amounts.Amount.TheVariants.{Size, Height, Runs}
use Rattle.ifs_gen.specs.Trees.{Part, Policy}
use Rattle.ifs_gen.specs.PlainCode.{plain_coder, block_height, block_runs}
use Rattle.ifs_gen.specs.PlainSizes.{greatest, number_in, init_length, body_length, part_height, parts_of, room_of}
use Rattle.ifs_gen.specs.PlainSizes.{most_of_routine, most_of_all, most_of_stack, most_of_event}
use Rattle.ifs_gen.specs.Refused.{AreWithin}
use Rattle.ifs_gen.specs.inner.Measures.{capped}

-- One amount of a routine.
abbrev pub amount_in : Amount → BlockMeasure → ℕ
amount_in Size m = m.size
amount_in Height m = m.height
amount_in Runs m = m.runs

-- The measures of the routines of a part, in a policy with `count` tests.
abbrev pub measured : ℕ → Part → PartMeasure
measured count part = record {
  init = record { size = capped (init_length part); height = capped (block_height plain_coder part.init); runs = capped (block_runs part.init) };
  body = record { size = capped (body_length count part); height = capped (block_height plain_coder part.body); runs = capped (block_runs part.body) };
}

-- One amount of all routines, that of each init before that of its body.
abbrev pub numbers_of : Amount → List PartMeasure → List ℕ
numbers_of amount [] = []
numbers_of amount (m ∷ ms) = amount_in amount m.init ∷ amount_in amount m.body ∷ numbers_of amount ms

-- The greatest amount of an init.
abbrev pub most_of_inits : Amount → List PartMeasure → ℕ
most_of_inits amount ms = greatest (λ (m : PartMeasure). amount_in amount m.init) ms

-- The greatest amount of a body.
abbrev pub most_of_bodies : Amount → List PartMeasure → ℕ
most_of_bodies amount ms = greatest (λ (m : PartMeasure). amount_in amount m.body) ms

-- The greatest amount of one event, given the measures of the always part and of the states.
abbrev pub event_of : Amount → PartMeasure → List PartMeasure → ℕ → ℕ
event_of amount always states initial =
    max (amount_in amount always.body + most_of_bodies amount states + most_of_inits amount states)
    (amount_in amount always.init + number_in (λ (m : PartMeasure). amount_in amount m.init) (slice_get states initial))

-- The greatest amount of one event, given the measures of all parts, the always part first.
abbrev pub event_in : Amount → List PartMeasure → ℕ → ℕ
event_in amount [] initial = 0
event_in amount (always ∷ states) initial = event_of amount always states initial

-- The budgets that follow from measures.
abbrev pub bounds_in : List PartMeasure → ℕ → Bounds
bounds_in ms initial = record { stack = max (most_of_inits Height ms) (most_of_bodies Height ms); commands = event_in Runs ms initial }

-- The budgets that follow from the plain code of a policy.
abbrev pub plain_bounds : Policy → Bounds
plain_bounds policy = record { stack = greatest part_height (parts_of policy); commands = room_of policy }

-- Measures that keep all limits.
pub record AreFine (ms : List PartMeasure) (initial : ℕ) : Type 0 where
  pub each : AreWithin most_of_routine (numbers_of Size ms)
  pub together : sum (numbers_of Size ms) ≤ most_of_all
  pub heights : AreWithin most_of_stack (numbers_of Height ms)
  pub room : event_in Runs ms initial ≤ most_of_event
