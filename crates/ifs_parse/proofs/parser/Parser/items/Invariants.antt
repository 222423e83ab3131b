use Rattle.std.proofs.Common.{◌≡◌, [], ◌-◌}
use Rattle.ifs_parse.specs.inner.Combined.{many, many_from}
use Rattle.ifs_parse.specs.inner.Parsers.{progress_of}
use Rattle.ifs_parse.specs.inner.Reading as reading
use Rattle.ifs_parse.specs.Words as words
use Rattle.ifs_parse.specs.Rules as rules
use Rattle.ifs_parse.proofs.parser.Parser.items.Given as goal

abbrev pub invariant-loop-turn : goal.invariant-loop-turn
invariant-loop-turn l =
    let part = reading.item (reading.part (reading.statement words.fits_period l.room)) in
    many_from part rules.with_last (l._turn-end - l._turn) l.all.items (progress_of l.self) ≡ many part rules.with_last [] (progress_of l.fn.self)
