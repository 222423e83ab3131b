-- The state with this number has the parts at its place.
use Rattle.std.proofs.Common.{get_or, refl}
use Rattle.std.proofs.lemmas.Option.{slice_get-get_or}
use Rattle.ifs_compare.proofs.Sames.{numbered}
use Rattle.ifs_compare.proofs.parts.judge_numbered.Goals as goal

pub returns-clause-answer : goal.returns-clause-answer
returns-clause-answer c =
    let old = c.args.sides.old.states.now in
    let new = c.args.sides.new.states.now in
    let one = c.index-sides-index.result in
    let other = c.index-sides-index-2.result in
    let i = c.args.index in
    numbered c.args.scope c.args.sides (record { 0 = i }) i (get_or old i one) (get_or new i other) c.in_ok-answer.answer refl (slice_get-get_or old i one c.requires.old) (slice_get-get_or new i other c.requires.new)
    c.in_ok-answer.ensures.answer
