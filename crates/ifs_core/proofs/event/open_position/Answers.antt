use Rattle.std.proofs.Common.{◌∙◌}
use Rattle.ifs_core.proofs.Opening.{length-no_values, length-periods_in}
use Rattle.ifs_core.proofs.event.open_position.Goals as goal

pub returns-clause-position : goal.returns-clause-position
returns-clause-position c =
    let e = c.image-image.ensures.value in
    let image = c.args.verified.now in
    record {
      facts = record {
        links = c.requires;
        tests = rw (c.no_values.ensures, e) (length-no_values image);
      };
      current = rw (c.initial-current.ensures, e) c.image-image.ensures.accepted.indexes.initial;
      tests = c.enter.ensures.same_number ∙ c.new-schedule.ensures.same_number ∙ rw (c.periods_of.ensures, e) (length-periods_in image);
    }
