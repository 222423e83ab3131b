use Rattle.std.proofs.lemmas.Result.{IfOk-weaker}
use Rattle.ifs_image_reports.proofs.Lines.{lies_on}
use Rattle.ifs_image_reports.proofs.assembly.on_line.Goals as goal

pub returns-clause-place : goal.returns-clause-place
returns-clause-place c =
    let part = c.cut-part in
    let lies = lies_on c.args.text.now c.args.number c.line_in-line.result.start c.line_in-line.result.end part.result.start part.result.end
    c.line_in-line.ensures part.ensures.begins part.ensures.forward part.ensures.ends in
    IfOk-weaker c.report.result _ _ (λ report is. (part.result.start, part.result.end, is, lies)) c.report.ensures.place
