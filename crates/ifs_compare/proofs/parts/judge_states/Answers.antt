-- One state after the other.
use Rattle.std.proofs.Common.{◌+◌, ◌<◌, ◌∷◌, [], ◌++◌, ◌&&◌, true, length, sym, ap, ◌∙◌, subst, arith}
use Rattle.ifs_compare.specs.inner.Comparing.{is_undecided, is_alike}
use Rattle.ifs_compare.proofs.States.{AreFirstJudged, member_at, none_judged, one_more_judged, states_alike, states_apart}
use Rattle.ifs_compare.proofs.parts.judge_states.Goals as goal

pub loop-index-init : goal.loop-index-init
loop-index-init c =
    let earlier = is_undecided c.args.always.now in
    let effort = c.args.effort.now in
    subst (λ xs. AreFirstJudged c.args.scope c.args.sides earlier effort effort true xs 0) (sym c.new-answers.ensures.items) (none_judged c.args.scope c.args.sides earlier effort)

pub loop-index-preserved : goal.loop-index-preserved
loop-index-preserved c =
    let scope = c.args.scope in
    let sides = c.args.sides in
    let earlier = is_undecided c.args.always.now in
    let before = c.args.effort.now in
    let next = c.judge_numbered.new.effort in
    let i = c.loop-index.index in
    let answers = c.loop-index.answers.items in
    let answer = c.in_ok-answer.answer in
    let in_old : i < length sides.old.states.now = omega (arith, c.loop-index-test.true, c.min-count.ensures) in
    let in_new : i < length sides.new.states.now = omega (arith, c.loop-index-test.true, c.min-count.ensures) in
    let one = member_at sides.old.states.now i in_old in
    let other = member_at sides.new.states.now i in_new in
    subst (λ xs. AreFirstJudged scope sides earlier before next c.both-alike.result xs (i + 1)) (sym c.in_ok-push.ensures.items)
    (subst (λ b. AreFirstJudged scope sides earlier before next b (answers ++ answer ∷ []) (i + 1)) (sym (c.both-alike.ensures ∙ ap (λ b. c.loop-index.alike && b) c.is_alike.ensures))
    (one_more_judged scope sides earlier before c.loop-index.effort next c.loop-index.alike answers i answer one.0 other.0 one.1 other.1 c.loop-index.invariant c.in_ok-answer.ensures.answer c.in_ok-answer.ensures.spent))

pub returns : goal.returns
returns c =
    let scope = c.args.scope in
    let sides = c.args.sides in
    let so_far = c.loop-index.invariant in
    record {
      judged = record {
        alike =
            states_alike scope sides c.loop-index.alike c.same_length.result c.both-alike-2.result c.loop-index.index c.both-alike-2.ensures c.same_length.ensures.same
            (λ same. omega (arith, same, c.loop-index-test.false, c.min-count.ensures)) so_far.alike;
        apart = states_apart scope sides c.loop-index.alike c.same_length.result c.both-alike-2.result c.loop-index.answers.items c.both-alike-2.ensures c.same_length.ensures.apart so_far.apart;
        answers = so_far.answers;
        count = omega (arith, so_far.count, c.loop-index.auto.index-end, c.min-count.ensures, c.requires.numbers);
        spent = so_far.spent;
      };
    }
