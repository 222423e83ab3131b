-- Facts at an opening, at which no test has a value.
use Rattle.std.specs.Prelude.{◌≡◌, true, false, [], replicate}
use Rattle.ifs_base.specs.declared.ids.CommandId.{CommandId}
use Rattle.ifs_core.specs.Gateway.{Known}
use Rattle.ifs_gen.specs.Events.{policy_opened}
use Rattle.ifs_gen.specs.Trees.{Policy}
use Rattle.ifs_solver.specs.declared.domains.Domain.{Domain}
use Rattle.ifs_solver.specs.declared.fact_sets.Scope.{Scope}
use Rattle.ifs_solver.specs.FactSets.{FactSet, any_domain, fact_set_with}
use Rattle.ifs_solver.specs.Situations.{IsKnownFor, situation_after}
use Rattle.ifs_solver.specs.Asking.{Guard, is_met}
use Rattle.ifs_claims.specs.Claims.{queues}

-- The domain of no value.
abbrev pub no_value : Domain
no_value = record { unknown = true; down = false; up = false }

-- The facts in which no test has a value.
abbrev pub opening_fact_set : Scope → FactSet
opening_fact_set scope = fact_set_with (replicate scope.links any_domain) (replicate scope.tests no_value)

-- It is false at every opening that queues a command.
abbrev pub AreQuietOpenings : Policy → CommandId → Guard → Type 0
AreQuietOpenings policy command guard =
    (known : Known) → IsKnownFor policy known → queues command (policy_opened policy known).queue ≡ true → is_met (situation_after policy known []).facts guard ≡ false
