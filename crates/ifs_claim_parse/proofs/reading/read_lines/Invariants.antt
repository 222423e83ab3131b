-- The lines so far.
use Rattle.std.proofs.Common.{length}
use denote.Shadow.{shadow}
use denote.Text.{Utf8}
use Rattle.ifs_lex.specs.Expansion.{defined_by}
use Rattle.ifs_claim_parse.specs.inner.Lines.{AreRead}
use Rattle.ifs_claim_parse.proofs.reading.read_lines.Given as goal

abbrev pub invariant-lines : goal.invariant-lines
invariant-lines l = shadow (Utf8 l.left) × AreRead l.context.macros.now (defined_by l.context.definitions.now) l.context.tables.now l.lines l.number l.at l.left l.stated.items

abbrev pub decreases-lines : goal.decreases-lines
decreases-lines l = length l.left
