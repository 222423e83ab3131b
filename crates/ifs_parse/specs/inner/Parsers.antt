-- The state of the code's parser.
use Rattle.ifs_parse.specs.declared.parser.Parser.{Parser}
use Rattle.ifs_parse.specs.declared.conditions.Others.{Others}
use Rattle.ifs_parse.specs.inner.Combined.{Progress, progress}
use Rattle.ifs_parse.specs.inner.Reading as reading

-- The tokens that are left, and the lines of the notes so far.
abbrev pub progress_of : Parser → Progress
progress_of p = progress p.left.now p.notes.items

-- The operands after the first two, and whether any operand is a chain.
abbrev pub others_of : Others → reading.Others
others_of o = reading.others o.rest.items o.is_mixed
