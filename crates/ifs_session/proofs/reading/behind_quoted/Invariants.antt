use Rattle.std.proofs.Common.{◌≡◌, ◌≤◌, ◌++◌, ◌∷◌, ℕ, List, length}
use Rattle.std.specs.List.{flat_map}
use Rattle.ifs_base.specs.Words.{quoted, quoted_byte}
use Rattle.ifs_session.proofs.reading.behind_quoted.Given as goal

abbrev pub invariant-loop-rest : goal.invariant-loop-rest
invariant-loop-rest l = record {
  within : length l.left ≤ length l.text;
  goes_on : (inside rest : List ℕ) → l.text ≡ quoted inside ++ rest → (more : List ℕ) × (l.left ≡ flat_map quoted_byte more ++ (34 ∷ rest));
}

abbrev pub decreases-loop-rest : goal.decreases-loop-rest
decreases-loop-rest l = length l.left
