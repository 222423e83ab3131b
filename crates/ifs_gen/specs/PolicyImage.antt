-- The image of a policy. Shared conditions are routines that its handlers call, and its budgets are the least ones.
use Rattle.std.specs.Prelude.{ℕ, ◌+◌, ◌*◌, List, [], ◌∷◌, ◌++◌, length, map}
use Rattle.ifs_base.specs.declared.op.Kind.{Kind}
use Rattle.ifs_base.specs.declared.op.Kind.TheVariants.{Truth}
use Rattle.ifs_base.specs.declared.op.Op.{Op}
use Rattle.ifs_base.specs.declared.op.Op.TheVariants.{Ret}
use Rattle.ifs_image.specs.declared.parts.Budgets.{Budgets}
use Rattle.ifs_image.specs.declared.parts.Handlers.{Handlers}
use Rattle.ifs_image.specs.declared.parts.StateSpec.{StateSpec}
use Rattle.ifs_image.specs.declared.parts.Routine.{Routine}
use Rattle.ifs_image.specs.declared.parts.ImageParts.{ImageParts}
use Rattle.ifs_image.specs.declared.parts.TestSpec.{TestSpec}
use Rattle.ifs_gen.specs.Trees.{Part, External, Policy}
use Rattle.ifs_gen.specs.PlainCode.{Coder, body_code, init_code, body_limit, init_limit}
use Rattle.ifs_gen.specs.PlainSizes.{test_count, parts_of, mask_of_part, greatest, part_height, event_total, room_of}
use Rattle.ifs_gen.specs.Sharing.{conditions_in, shared_among, shared_coder, frames_for}

-- The codes of a policy's shared conditions, by number.
abbrev pub shared_of : Policy → List (List Op)
shared_of policy = shared_among (conditions_in (parts_of policy))

-- A routine without parameters, with these results.
abbrev pub routine_leaving : List Kind → List Op → Routine
routine_leaving results code = record { params = record { items = [] }; results = record { items = results }; code = code }

-- A routine without parameters and results.
abbrev pub routine_of_code : List Op → Routine
routine_of_code code = routine_leaving [] code

-- A test in an image.
abbrev pub test_spec : External → TestSpec
test_spec test = record { period = test.period; text = test.command }

-- The handlers of part k, behind `shared` routines of shared conditions.
abbrev pub handlers_of : ℕ → ℕ → ℕ → Part → Handlers
handlers_of shared count k part = record { init = record { 0 = shared + 2 * k }; body = record { 0 = shared + (2 * k + 1) }; mask = mask_of_part count part }

-- The states with these names and parts, in order. The first part has number k.
abbrev pub states_from : ℕ → ℕ → ℕ → List (List ℕ) → List Part → List StateSpec
states_from shared count k (name ∷ names) (part ∷ parts) = record { name = name; handlers = handlers_of shared count k part } ∷ states_from shared count (k + 1) names parts
states_from shared count k _ _ = []

-- The routine of a shared condition, whose result is the truth of the condition.
abbrev pub shared_routine : List Op → Routine
shared_routine code = routine_leaving (Truth ∷ []) (code ++ Ret ∷ [])

-- The routines of parts, the init of each before its body.
abbrev pub routines_of : Coder → ℕ → List Part → List Routine
routines_of coder count [] = []
routines_of coder count (part ∷ parts) = routine_of_code (init_code coder part.init) ∷ routine_of_code (body_code coder count part.body) ∷ routines_of coder count parts

-- The image of a policy in version 1, with these budgets. The routines of shared conditions come before those of parts.
abbrev pub image_with : Budgets → Policy → ImageParts
image_with budgets policy = record {
  version = 1;
  budgets = budgets;
  initial = policy.initial;
  always = handlers_of (length (shared_of policy)) (test_count policy) 0 policy.always;
  interfaces = policy.tables.interfaces;
  tests = map test_spec policy.tables.tests;
  commands = policy.tables.commands;
  states = states_from (length (shared_of policy)) (test_count policy) 1 policy.tables.states policy.states;
  routines = map shared_routine (shared_of policy) ++ routines_of (shared_coder (shared_of policy)) (test_count policy) (parts_of policy);
}

-- The least budgets: the greatest height, a second frame if there is a routine to call, and the greatest cost and number of commands of one event.
abbrev pub least_budgets : Policy → Budgets
least_budgets policy = record {
  stack = greatest part_height (parts_of policy);
  frames = frames_for (shared_of policy);
  cost = event_total (λ part. init_limit (shared_coder (shared_of policy)) part.init) (λ part. body_limit (shared_coder (shared_of policy)) (test_count policy) part.body) policy;
  commands = room_of policy;
}

-- The image of a policy.
abbrev pub image_of : Policy → ImageParts
image_of policy = image_with (least_budgets policy) policy
