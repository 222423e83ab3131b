-- The lines so far are those of the notes so far.
use Rattle.std.proofs.Common.{◌≡◌, take, string_bytes}
use Rattle.ifs_file_commands.specs.Lines.{note_lines}
use Rattle.ifs_file_commands.proofs.lines.of_notes.Given as goal

abbrev pub invariant-loop-line : goal.invariant-loop-line
invariant-loop-line l = string_bytes l.lines ≡ note_lines (take l.line-index l.notes)
