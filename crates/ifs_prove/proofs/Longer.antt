-- Steps that change the state more often than a number change it more often than a smaller one.
use Rattle.std.proofs.Common.{ℕ, ◌≤◌, List, Option, arith}
use Rattle.ifs_claim_parse.specs.declared.claim.Claim.TheVariants.{RestsWithin}
use Rattle.ifs_core.specs.Gateway.{Known}
use Rattle.ifs_core.specs.declared.step.Step.{Step}
use Rattle.ifs_gen.specs.Trees.{Policy}
use Rattle.ifs_prove.specs.Breaking.{IsBrokenBy}
use Rattle.ifs_prove.specs.Verdicts.{IsBroken}
use Rattle.ifs_prove.specs.declared.trial.Ending.{Ending}
use Rattle.ifs_prove.specs.declared.trial.Ending.TheVariants.{There, By, Opening, Within}

by_fewer : (policy : Policy) (known : Known) (begun : List Step) (ending : Ending) (most few : ℕ) → few ≤ most → IsBrokenBy policy known begun ending (RestsWithin most) → IsBrokenBy policy known begun ending (RestsWithin few)
by_fewer policy known begun There most few le h = absurd h
by_fewer policy known begun (By step) most few le h = absurd h
by_fewer policy known begun Opening most few le h = absurd h
by_fewer policy known begun (Within steps results) most few le h = let more = h.more in record { agrees = h.agrees; keeps = h.keeps; more = omega (arith, more, le) }

pub broken_by_fewer : {Words : Type 0} (policy : Policy) (named : Option Words) (most few : ℕ) → few ≤ most → IsBroken policy named (RestsWithin most) → IsBroken policy named (RestsWithin few)
broken_by_fewer policy named most few le h =
    record { known = h.known; fits = h.fits; opening = h.opening; begun = h.begun; ending = h.ending; broken = by_fewer policy h.known h.begun h.ending most few le h.broken }
