-- Without tests, and where no body leads.
use Rattle.std.proofs.Common.{sym, ap, ◌∙◌}
use Rattle.ifs_claims.proofs.Starts.{never_held_bare, held_unless_led}
use Rattle.ifs_claims.proofs.beginning.Leaving.may_be_held.Goals as goal

pub returns-then-is_untested : goal.returns-then-is_untested
returns-then-is_untested c = never_held_bare c.args.self.reachable.now c.args.self.state c.always.result.now.body (ap (λ x. x.body) c.always.ensures) (sym c.is_untested.ensures ∙ c.if-is_untested.true)

pub returns : goal.returns
returns c =
    held_unless_led c.active_are_mentioned.ensures c.args.self.reachable.now c.args.self.state c.count-count.result c.in_ok-held.held c.count-count.ensures.fits c.count-count.ensures.count
    (λ e. c.if-self-initial.false (e ∙ ap (λ x. x.0) (sym c.initial-initial.ensures))) c.in_ok-held.ensures
