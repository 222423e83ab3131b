-- The definitions so far.
use Rattle.std.proofs.Common.{length}
use denote.Text.{Utf8}
use denote.Shadow.{shadow}
use Rattle.ifs_lex.specs.Expansion.{defined_by}
use Rattle.ifs_ffi.proofs.Parts.{AreRead, IsOnTheWay}
use Rattle.ifs_ffi.proofs.definitions.definitions_in.Given as goal

abbrev pub invariant-words : goal.invariant-words
invariant-words l = shadow (Utf8 l.left) × AreRead l.text l.left (defined_by l.made.items) × IsOnTheWay l.text l.left

abbrev pub decreases-words : goal.decreases-words
decreases-words l = length l.left
