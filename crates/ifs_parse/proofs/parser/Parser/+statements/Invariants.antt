use Rattle.std.proofs.Common.{◌≡◌, [], ◌+◌, ◌-◌, ◌*◌}
use Rattle.ifs_parse.specs.inner.Combined.{many, many_from}
use Rattle.ifs_parse.specs.inner.Parsers.{progress_of}
use Rattle.ifs_parse.specs.inner.Reading as reading
use Rattle.ifs_parse.specs.Words as words
use Rattle.ifs_parse.specs.Rules as rules
use Rattle.ifs_parse.proofs.parser.Parser.+statements.Given as goal

abbrev pub decreases-statement : goal.decreases-statement
decreases-statement l = 4 * l.room

abbrev pub decreases-statements : goal.decreases-statements
decreases-statements l = 4 * l.room + 1

abbrev pub decreases-block : goal.decreases-block
decreases-block l = 4 * l.room + 2

abbrev pub decreases-conditional : goal.decreases-conditional
decreases-conditional l = 4 * l.room + 3

abbrev pub invariant-statements-loop-turn : goal.invariant-statements-loop-turn
invariant-statements-loop-turn l =
    let part = reading.statement words.fits_period l.room in
    many_from part rules.with_last (l._turn-end - l._turn) l.all.items (progress_of l.self) ≡ many part rules.with_last [] (progress_of l.fn.self)
