-- One more answer.
use Rattle.ifs_solver.proofs.Tours.{asked_more, pays_more, says_of, says_more}
use Rattle.ifs_solver.proofs.touring.Tour.answers.Goals as goal

pub loop-state-preserved : goal.loop-state-preserved
loop-state-preserved c =
    let before = c.loop-state.invariant in
    record {
      asked = asked_more c.args.self.now c.loop-state.self c.answer.new.self before.asked c.in_ok-answer.ensures.asked;
      says =
          says_more c.args.self.now c.loop-state.state c.loop-state.answers.items c.push.new.self.items c.in_ok-answer.answer before.says
          (says_of _ c.args.self.now c.loop-state.self c.in_ok-answer.answer before.asked c.in_ok-answer.ensures.says) c.in_ok-push.ensures.items;
      pays =
          pays_more c.args.self.now c.loop-state.self c.answer.new.self c.loop-state.state c.loop-state.answers.items c.push.new.self.items c.in_ok-answer.answer before.asked c.in_ok-answer.ensures.asked before.pays
          c.in_ok-answer.ensures.paid c.in_ok-push.ensures.items;
    }
