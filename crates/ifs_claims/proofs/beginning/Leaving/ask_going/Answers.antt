-- The initial state, and another one.
use Rattle.std.proofs.Common.{sym, ap, ◌∙◌, arith}
use Rattle.ifs_claims.proofs.Starts.{state_never, state_first, state_quiet, state_said}
use Rattle.ifs_claims.proofs.beginning.Leaving.ask_going.Goals as goal

pub returns-then-is_never : goal.returns-then-is_never
returns-then-is_never c = state_never c.args.self.reachable.now c.args.self.most c.args.self.state c.if-is_never.ensures

pub returns-in-Nowhere : goal.returns-in-Nowhere
returns-in-Nowhere c = state_quiet c.args.self.reachable.now c.args.self.most c.args.self.state c.in_ok-far.far c.count-count.ensures.fits c.in-Nowhere.is c.in_ok-far.ensures

pub returns-then-self-initial : goal.returns-then-self-initial
returns-then-self-initial c = state_first c.args.self.reachable.now c.args.self.most c.args.self.state c.in_ok-far.far c.count-count.ensures.fits c.in_ok-far.ensures

pub returns : goal.returns
returns c =
    state_said c.args.self.reachable.now c.args.self.most c.count-count.result c.args.self.state c.in_ok-entries.entries c.in_ok-rest.rest c.either.result c.count-count.ensures.fits
    (let count = c.count-count.ensures.count in let same = c.count-count.ensures.fits.count in omega (arith, count, same)) (λ e. c.if-self-initial.false (e ∙ ap (λ x. x.0) (sym c.initial-initial.ensures))) c.in_ok-entries.ensures
    c.in_ok-rest.ensures c.either.ensures
