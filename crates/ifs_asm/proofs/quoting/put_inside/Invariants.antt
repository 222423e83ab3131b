use Rattle.std.proofs.Common.{◌≡◌, ◌++◌, length, string_bytes}
use Rattle.std.specs.List.{flat_map}
use denote.Shadow.{shadow}
use denote.Text.{Utf8}
use Rattle.ifs_base.specs.Words.{quoted_byte}
use Rattle.ifs_asm.proofs.quoting.put_inside.Given as goal

abbrev pub invariant-loop-parts : goal.invariant-loop-parts
invariant-loop-parts l =
    shadow (Utf8 l.left) × (string_bytes l.out ++ flat_map quoted_byte l.left ≡ string_bytes l.fn.out ++ flat_map quoted_byte l.text)

abbrev pub decreases-loop-parts : goal.decreases-loop-parts
decreases-loop-parts l = length l.left
