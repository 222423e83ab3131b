use Rattle.std.proofs.Common.{◌≡◌, [], ◌+◌, ◌-◌, ◌*◌}
use Rattle.ifs_parse.specs.inner.Combined.{many, many_from}
use Rattle.ifs_parse.specs.inner.Parsers.{progress_of, others_of}
use Rattle.ifs_parse.specs.inner.Reading as reading
use Rattle.ifs_parse.specs.Words as words
use Rattle.ifs_parse.specs.Rules as rules
use Rattle.ifs_parse.specs.declared.mark.Mark.TheVariants as mark
use Rattle.ifs_parse.proofs.parser.Parser.+conditions.Given as goal

abbrev pub decreases-one : goal.decreases-one
decreases-one l = 8 * l.room

abbrev pub decreases-ones : goal.decreases-ones
decreases-ones l = 8 * l.room + 2

abbrev pub decreases-next_one : goal.decreases-next_one
decreases-next_one l = 8 * l.room + 1

abbrev pub decreases-all : goal.decreases-all
decreases-all l = 8 * l.room + 3

abbrev pub decreases-alls : goal.decreases-alls
decreases-alls l = 8 * l.room + 5

abbrev pub decreases-next_all : goal.decreases-next_all
decreases-next_all l = 8 * l.room + 4

abbrev pub decreases-alternatives : goal.decreases-alternatives
decreases-alternatives l = 8 * l.room + 6

abbrev pub decreases-condition : goal.decreases-condition
decreases-condition l = 8 * l.room + 7

abbrev pub invariant-ones-loop-turn : goal.invariant-ones-loop-turn
invariant-ones-loop-turn l =
    let part = reading.next_operand mark.And (reading.one words.fits_period l.room) in
    many_from part rules.with_last (l._turn-end - l._turn) l.rest.items (progress_of l.self) ≡ many part rules.with_last [] (progress_of l.fn.self)

abbrev pub invariant-alls-loop-turn : goal.invariant-alls-loop-turn
invariant-alls-loop-turn l =
    let part = reading.next_operand mark.Or (reading.all (reading.one words.fits_period l.room)) in
    many_from part reading.with_operand (l._turn-end - l._turn) (others_of l.others) (progress_of l.self)
    ≡ many part reading.with_operand (others_of l.fn.before) (progress_of l.fn.self)
