-- One more finding, on a comment.
use Rattle.ifs_lint.proofs.Adding.{on_comment, one_more_finding}
use Rattle.ifs_lint.proofs.linting.put_if_wrong.Goals as goal

pub returns-in_ok-push : goal.returns-in_ok-push
returns-in_ok-push c =
    let policy = c.args.policy.now in
    let kind = rw c.in-Some.is at c.in_ok-report.ensures.kind in
    let severity = rw c.in-Some.is at c.in_ok-report.ensures.severity in
    one_more_finding policy c.args.findings.now.items c.push.new.self.items c.plain.result c.in_ok-push.ensures.items
    (on_comment policy c.plain.result c.in-Some.report c.plain.ensures.report c.plain.ensures.states kind severity) c.requires
