-- The heights of the routines of a policy, said of the instructions of their plain code.
use Rattle.std.specs.Prelude.{ℕ, ◌≡◌, ◌+◌, ◌-◌, max, List, [], ◌∷◌, map}
use Rattle.ifs_base.specs.declared.op.Op.{Op}
use Rattle.ifs_base.specs.declared.op.Op.TheVariants.{Ret, Yes, No, Link, Test, Known, Negate, Both}
use Rattle.ifs_base.specs.declared.op.Op.TheVariants.{Either, PushCommand, PushState, Queue, Want}
use Rattle.ifs_base.specs.declared.op.Op.TheVariants.{Jump, JumpFalse, JumpTrue, Call, Pop, Dup}
use Rattle.ifs_image.specs.declared.parts.Routine.{Routine}
use Rattle.ifs_gen.specs.Trees.{Policy}
use Rattle.ifs_gen.specs.PlainCode.{plain_coder}
use Rattle.ifs_gen.specs.PlainSizes.{test_count, parts_of}
use Rattle.ifs_gen.specs.PolicyImage.{routines_of}
use Rattle.ifs_gen.specs.Refused.{heights}

-- The number of values on the stack after an instruction, given the number before it. Plain code has no `call`.
abbrev pub values_after : Op → ℕ → ℕ
values_after Ret now = now
values_after Yes now = now + 1
values_after No now = now + 1
values_after (Link interface state) now = now + 1
values_after (Test test) now = now + 1
values_after (Known test) now = now + 1
values_after Negate now = now
values_after Both now = now - 1
values_after Either now = now - 1
values_after (PushCommand command) now = now + 1
values_after (PushState state) now = now + 1
values_after Queue now = now - 1
values_after Want now = now - 1
values_after (Jump place) now = now
values_after (JumpFalse place) now = now - 1
values_after (JumpTrue place) now = now - 1
values_after (Call routine) now = now
values_after Pop now = now - 1
values_after Dup now = now + 1

-- The greatest number of values while code is executed, given the number before it. A jump skips only code that leaves the number as it is.
abbrev pub most_values : List Op → ℕ → ℕ
most_values [] now = now
most_values (op ∷ ops) now = max now (most_values ops (values_after op now))

-- The heights of a policy are the greatest numbers of values of the plain code of its inits and bodies, in order.
abbrev pub HeightsAreGreatest : Type 0
HeightsAreGreatest = (policy : Policy) → map (λ (routine : Routine). most_values routine.code 0) (routines_of plain_coder (test_count policy) (parts_of policy)) ≡ heights policy
