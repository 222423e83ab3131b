use Rattle.std.proofs.Common.{subst, sym, ap, ◌∙◌}
use Rattle.ifs_image.specs.declared.parts.ImageParts.{ImageParts}
use Rattle.ifs_image.specs.Spelling.{Spells}
use Rattle.ifs_verify.specs.Accepted.{IsAccepted}
use Rattle.ifs_core.specs.Machine.{IsBehaviour}
use Rattle.ifs_core.specs.Gateway.{opened}
use Rattle.ifs_core.specs.Carrying.{known_by}
use Rattle.ifs_host.proofs.reloading.open_in_place.Goals as goal

pub returns-in-Ok-carry-clause-taken_over : goal.returns-in-Ok-carry-clause-taken_over
returns-in-Ok-carry-clause-taken_over c =
    let same = c.open_with.ensures.image in
    let carried = c.in-Ok-carry.carried in
    record {
      spelled = subst (Spells c.args.image.now) (sym same) c.in-Ok.ensures.spelled;
      accepted = subst IsAccepted (sym same) c.in-Ok.ensures.accepted;
      queue = c.in-Ok-carry.ensures.queue;
      carried = carried;
      handed_on = c.in-Ok-carry.ensures.carried;
      state = λ b is.
          c.open_with.ensures.state b (subst (λ (i : ImageParts). IsBehaviour i b) same is)
          ∙ ap (λ (i : ImageParts). opened b i (known_by carried i)) (sym same);
    }
