use Rattle.std.proofs.Common.{◌≢◌, sym, refl, ap, subst, ◌∙◌, inr}
use Rattle.ifs_image.specs.declared.parts.ImageParts.{ImageParts}
use Rattle.ifs_image.specs.Limits.{Fits}
use Rattle.ifs_asm.specs.declared.fault.LineFault.TheVariants as faults
use Rattle.ifs_asm.specs.Refused.{IsAssemblyRefused}
use Rattle.ifs_asm.specs.Spellings.{TextSpells, spoken}
use Rattle.ifs_asm.specs.inner.Reading.{fault_at}
use Rattle.ifs_asm.proofs.Cutting.{no_bytes}
use Rattle.ifs_asm.proofs.BuildFits.{parts_fit, parts_unfit}
use Rattle.ifs_asm.proofs.ImageLaws.{read_found, read_unfit}
use Rattle.ifs_asm.proofs.Told.{Stopped, reads_on, stops_at, stops_spell_none, all_read, ends_early, told_at}
use Rattle.ifs_asm.proofs.reading.assemble.Goals as goal

pub loop-left-preserved : goal.loop-left-preserved
loop-left-preserved c = reads_on c.args.text.now c.loop-left.left.now c.split_line.result.0.now c.split_line.result.1.now c.loop-left.building _ c.loop-left.line _ c.loop-left.invariant c.split_line.ensures.cut c.split_line.ensures.shorter c.in_default.ensures.taken refl

pub returns-in-Err : goal.returns-in-Err
returns-in-Err c =
    let stopped : c.in-Err.fault ≢ faults.Memory → Stopped c.args.text.now c.loop-left.line c.loop-left.building c.split_line.result.0.now = λ known.
    stops_at c.args.text.now c.loop-left.left.now c.split_line.result.0.now c.split_line.result.1.now c.loop-left.building c.loop-left.line c.loop-left.invariant c.split_line.ensures.cut (c.in-Err.ensures.taken known) in
    record {
      spelled = tt;
      refused = λ other image spells.
          stops_spell_none c.args.text.now c.loop-left.line c.loop-left.building c.split_line.result.0.now image
          (stopped (λ e. other (c.at.ensures ∙ ap (λ fault. fault_at fault c.loop-left.line) e)))
          spells;
      told = λ other.
          subst (IsAssemblyRefused c.args.text.now) (sym c.at.ensures)
          (told_at c.args.text.now c.in-Err.fault c.loop-left.line c.loop-left.building c.split_line.result.0.now stopped c.in-Err.ensures.blamed (λ e. other (c.at.ensures ∙ e)));
    }

pub new-requires : goal.new-requires
new-requires c =
    let empty = no_bytes c.is_empty.result c.loop-left.left.now c.is_empty.ensures c.loop-left-test.false in
    let all = all_read c.args.text.now c.loop-left.left.now c.loop-left.building c.loop-left.line c.loop-left.invariant empty in
    parts_fit c.loop-left.building (spoken c.args.text.now) c.in_ok-parts.parts c.is_empty-2.result all c.in_ok-parts.ensures c.is_empty-2.ensures c.if-is_empty.false

pub returns-then-is_empty : goal.returns-then-is_empty
returns-then-is_empty c =
    let empty = no_bytes c.is_empty.result c.loop-left.left.now c.is_empty.ensures c.loop-left-test.false in
    let all = all_read c.args.text.now c.loop-left.left.now c.loop-left.building c.loop-left.line c.loop-left.invariant empty in
    let unfit = parts_unfit c.loop-left.building c.in_ok-parts.parts c.is_empty-2.result c.in_ok-parts.ensures c.is_empty-2.ensures c.if-is_empty.true in
    let none : (image : ImageParts) → TextSpells c.args.text.now image → ⊥ = λ image spells. read_unfit c.args.text.now c.loop-left.building image all unfit spells in
    record {
      spelled = tt;
      refused = λ _. none;
      told = λ _. inr (ends_early c.args.text.now c.loop-left.left.now c.loop-left.building c.loop-left.line c.loop-left.invariant empty none);
    }

pub returns-else-is_empty-clause-spelled : goal.returns-else-is_empty-clause-spelled
returns-else-is_empty-clause-spelled c =
    let empty = no_bytes c.is_empty.result c.loop-left.left.now c.is_empty.ensures c.loop-left-test.false in
    let all = all_read c.args.text.now c.loop-left.left.now c.loop-left.building c.loop-left.line c.loop-left.invariant empty in
    let fits = parts_fit c.loop-left.building (spoken c.args.text.now) c.in_ok-parts.parts c.is_empty-2.result all c.in_ok-parts.ensures c.is_empty-2.ensures c.if-is_empty.false in
    subst (TextSpells c.args.text.now) (sym (c.new.ensures ∙ c.in_ok-parts.ensures)) (read_found c.args.text.now c.loop-left.building all (subst Fits c.in_ok-parts.ensures fits))
