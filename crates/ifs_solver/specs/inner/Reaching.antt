-- What statements and bodies reach, one after the other.
use Rattle.std.specs.Prelude.{◌≡◌, Option, Some, None}
use Rattle.ifs_base.specs.Effects.{Effects, nothing_yet, followed}
use Rattle.ifs_base.specs.declared.ids.CommandId.{CommandId}
use Rattle.ifs_base.specs.declared.ids.StateId.{StateId}
use Rattle.ifs_parse.specs.Trees.{Done}
use Rattle.ifs_parse.specs.Views.{statement_then}
use Rattle.ifs_parse.specs.declared.block.Statement.{Statement}
use Rattle.ifs_policy.specs.Meaning.{Block, body_yield}
use Rattle.ifs_policy.specs.declared.policy.Single.{Single}
use Rattle.ifs_solver.specs.declared.domains.Branch.{Branch}
use Rattle.ifs_solver.specs.FactSets.{FactSet}
use Rattle.ifs_solver.specs.Reaching.{evaluation_yield, effects_of, Yields, IsReached}
use Rattle.ifs_solver.specs.declared.reaching.Yielded.{Yielded}

-- What is known of a statement is so, or something was open before it and is so now.
abbrev pub IsReachedAfter : FactSet → Option Branch → Statement Single CommandId StateId → Effects → Effects → Option Branch → Type 0
IsReachedAfter set None statement before after pending = IsReached set (statement_then statement Done) before after pending
IsReachedAfter set (Some branch) statement before after pending = pending ≡ Some branch

-- What is known of two bodies, one after the other, is so.
abbrev pub AreBodiesReached : FactSet → Block → Block → Effects → Effects → Option Branch → Type 0
AreBodiesReached set always own before after pending = Yields set (λ facts. followed (body_yield facts always) (body_yield facts own)) before after pending

-- What is known of an evaluation in a state is so.
abbrev pub IsEvaluationReached : FactSet → StateId → Block → Block → Yielded → Type 0
IsEvaluationReached set state always own it = Yields set (evaluation_yield state always own) nothing_yet (effects_of it.reached) it.pending
