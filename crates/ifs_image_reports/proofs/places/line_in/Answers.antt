use Rattle.std.proofs.Common.{ap, ◌+◌}
use Rattle.ifs_image_reports.proofs.Lines.{is_line}
use Rattle.ifs_image_reports.proofs.places.line_in.Goals as goal

pub returns : goal.returns
returns c =
    let found = c.start_of-start.ensures in
    is_line c.args.text.now c.split_at.result.1.now c.args.number c.start_of-start.result _ found.inside found.begins found.after_last
    c.split_at.ensures.back (ap (λ n. c.start_of-start.result + n) c.length_of_line.ensures.value)
