-- One move after the other.
use Rattle.std.proofs.Common.{◌-◌, length, sym, ap, ◌∙◌, subst, arith}
use Rattle.std.specs.List.{remove}
use Rattle.ifs_play.specs.Shortening.{IsShortened, whole, without}
use Rattle.ifs_play.proofs.shortening.shortened.Goals as goal

pub loop-place-init : goal.loop-place-init
loop-place-init g c = record { within = omega (arith, c.len-place.ensures); shows = c.requires; shorter = whole c.args.shown.moves.items }

pub loop-place-preserved-in-Some : goal.loop-place-preserved-in-Some
loop-place-preserved-in-Some g c =
    let kept = c.loop-place.kept.moves.items in
    let place = c.loop-place.place - 1 in
    let all = c.as_slice.ensures.value in
    record {
      within = omega (arith, c.loop-place.invariant.within, c.loop-place-test.true, c.in_ok-fewer.ensures.fewer, ap length all);
      shows = subst (λ moves. g.R.Replay.shows c.args.goal.now moves c.in-Some.found) c.as_slice-in-loop-place.ensures.value (rw c.in-Some.is at c.in_ok-found.ensures);
      shorter =
          subst (IsShortened c.args.shown.moves.items) (sym (c.in_ok-fewer.ensures.moves ∙ ap (λ moves. remove moves place) all))
          (without c.args.shown.moves.items kept place c.loop-place.invariant.shorter);
    }
