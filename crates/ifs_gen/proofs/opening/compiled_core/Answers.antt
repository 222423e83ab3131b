use Rattle.std.proofs.Common.{ap, sym, ◌∙◌}
use Rattle.std.proofs.lemmas.List.{length-map}
use Rattle.ifs_base.specs.declared.op.LinkState.TheVariants.{Unknown}
use Rattle.ifs_image.specs.declared.parts.ImageParts.{ImageParts}
use Rattle.ifs_core.specs.Gateway.{nothing_known, opened}
use Rattle.ifs_gen.proofs.CoreOfText as core_of_text
use Rattle.ifs_gen.proofs.opening.compiled_core.Goals as goal
use Rattle.ifs_lex.specs.Expansion.{defined_by}

pub returns-in-Ok-open-clause-runs : goal.returns-in-Ok-open-clause-runs
returns-in-Ok-open-clause-runs c =
    let defs = defined_by c.args.defs.now in
    core_of_text.runs_text c.args.text.now defs c.in-Ok.bytes.items c.in-Ok.ensures.compiled c.in-Ok-verify.verified (rw c.as_slice.ensures.value at c.in-Ok-verify.ensures.spelled)
    c.in-Ok-open.core (nothing_known c.in-Ok-open.core.image) c.in-Ok-open.ensures.image c.image.ensures.kept (length-map c.in-Ok-open.core.image.interfaces (λ _. Unknown))
    (λ b is. c.in-Ok-open.ensures.state b is ∙ ap (λ (i : ImageParts). opened b c.in-Ok-verify.verified (nothing_known i)) (sym c.in-Ok-open.ensures.image))
