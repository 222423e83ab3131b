-- Steps that keep to a world.
use Rattle.std.proofs.Common.{ℕ, ◌+◌, ◌<◌, ◌≤◌, List, [], ◌∷◌, ◌++◌, length, get_or, take, sym, subst}
use Rattle.std.proofs.lemmas.List.{take_more, take_all}
use Rattle.ifs_claims.specs.Changes.{World, KeepsTo, AllKeepTo}
use Rattle.ifs_core.specs.declared.step.Step.{Step}

keep_more : (world : World) (steps : List Step) (step : Step) → AllKeepTo world steps → KeepsTo world step → AllKeepTo world (steps ++ step ∷ [])
keep_more world [] step h k = (k, tt)
keep_more world (first ∷ steps) step h k = (h.0, keep_more world steps step h.1 k)

pub keep_next : (world : World) (steps : List Step) (i : ℕ) (d : Step) → i < length steps → AllKeepTo world (take i steps) → KeepsTo world (get_or steps i d) → AllKeepTo world (take (i + 1) steps)
keep_next world steps i d lt h k = subst (AllKeepTo world) (sym (take_more steps i d lt)) (keep_more world (take i steps) (get_or steps i d) h k)

pub keep_all : (world : World) (steps : List Step) (i : ℕ) → length steps ≤ i → AllKeepTo world (take i steps) → AllKeepTo world steps
keep_all world steps i all h = subst (AllKeepTo world) (take_all i steps all) h
