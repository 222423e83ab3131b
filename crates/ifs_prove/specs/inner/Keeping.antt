-- What is kept from one claim to the next.
use Rattle.std.specs.Prelude.{Option, Some, None}
use Rattle.ifs_claim_parse.specs.declared.claim.Claim.TheVariants.{RestsWithin}
use Rattle.ifs_claims.specs.Changes.{AreKnown}
use Rattle.ifs_gen.specs.Trees.{Policy}
use Rattle.ifs_prove.specs.Verdicts.{IsBroken}
use Rattle.ifs_prove.specs.declared.proving.Kept.{Kept}
use Rattle.ifs_prove.specs.declared.proving.Longest.{Longest}

-- Steps in a world change the state more often than their number.
abbrev pub IsLongest : Policy → Option Longest → Type 0
IsLongest policy None = Unit {0}
IsLongest policy (Some longest) = IsBroken policy longest.named (RestsWithin longest.most)

-- What is known of changes is so, and so are the longest steps.
pub record IsKept (policy : Policy) (kept : Kept) : Type 0 where
  pub changes : AreKnown policy kept.changes
  pub longest : IsLongest policy kept.longest
