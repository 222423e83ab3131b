-- What handlers reach under all facts within a set.
use Rattle.std.specs.Prelude.{◌≡◌, Option, Some, None}
use Rattle.ifs_base.specs.Facts.{Facts}
use Rattle.ifs_base.specs.Effects.{Effects, nothing_yet, followed}
use Rattle.ifs_base.specs.declared.ids.StateId.{StateId}
use Rattle.ifs_core.specs.Event.{change_of}
use Rattle.ifs_policy.specs.Meaning.{Block, reached, init_yield, body_yield}
use Rattle.ifs_solver.specs.declared.domains.Branch.{Branch}
use Rattle.ifs_solver.specs.FactSets.{FactSet, Within, HasDomain}
use Rattle.ifs_solver.specs.declared.reaching.Reached.{Reached}
use Rattle.ifs_solver.specs.declared.reaching.Yielded.{Yielded}
use Rattle.ifs_solver.specs.declared.reaching.Handler.{Handler}
use Rattle.ifs_solver.specs.declared.reaching.Handler.TheVariants.{Init, Body, Evaluation}

-- Effects in a state. A wish for the state itself is none.
abbrev pub settled : StateId → Effects → Effects
settled state effects = record { commands = effects.commands; wish = change_of state effects.wish }

-- What an evaluation in a state does: the commands of the body outside any state and of the state's own, and the other state that their last wish leads to.
abbrev pub evaluation_yield : StateId → Block → Block → Facts → Effects
evaluation_yield state always own facts = settled state (followed (body_yield facts always) (body_yield facts own))

-- The effects of a value of the code.
abbrev pub effects_of : Reached → Effects
effects_of reached = record { commands = reached.commands.items; wish = reached.wish }

-- Under all facts within a set, what is yielded leads from the first effects to the other ones; or it depends on a fact that has a place in the set.
abbrev pub Yields : FactSet → (Facts → Effects) → Effects → Effects → Option Branch → Type 0
Yields set yield before after None = (facts : Facts) → Within set facts → followed before (yield facts) ≡ after
Yields set yield before after (Some branch) = HasDomain branch set

-- It is so of what a block reaches.
abbrev pub IsReached : FactSet → Block → Effects → Effects → Option Branch → Type 0
IsReached set block before after pending = Yields set (λ facts. reached facts block) before after pending

-- It is so of what a body yields.
abbrev pub IsBodyReached : FactSet → Block → Effects → Effects → Option Branch → Type 0
IsBodyReached set body before after pending = Yields set (λ facts. body_yield facts body) before after pending

-- What a handler yields, or an evaluation.
abbrev pub yield_by : Handler → Facts → Effects
yield_by (Init block) facts = init_yield facts block.now
yield_by (Body block) facts = body_yield facts block.now
yield_by (Evaluation bodies) facts = evaluation_yield bodies.state bodies.always.now bodies.own.now facts

-- What is known of the yield of a handler within a set is so.
abbrev pub IsYielded : FactSet → Handler → Yielded → Type 0
IsYielded set handler it = Yields set (yield_by handler) nothing_yet (effects_of it.reached) it.pending

-- What is known of a block within a set is so.
abbrev pub AreReached : FactSet → Block → Yielded → Type 0
AreReached set block it = IsReached set block nothing_yet (effects_of it.reached) it.pending

-- The block of a handler.
abbrev pub block_in : Handler → Block
block_in (Init block) = block.now
block_in (Body block) = block.now
block_in (Evaluation bodies) = bodies.own.now
