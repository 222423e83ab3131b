use Rattle.std.proofs.Common.{◌≡◌, ◌≢◌, map, Option, Some, None, subst, sym, ap, ◌∙◌, MatchResult}
use Rattle.std.specs.Prelude.{option_and_then, IfErr}
use Rattle.std.proofs.lemmas.Option.{none-some}
use Rattle.ifs_asm.specs.declared.forms.Formed.{Formed}
use Rattle.ifs_asm.specs.declared.fault.LineFault.TheVariants as faults
use Rattle.ifs_asm.specs.inner.Forms.{formed}
use Rattle.ifs_asm.specs.declared.line.Line.{Line}
use Rattle.ifs_asm.specs.inner.Building.{Built, one_line_more}
use Rattle.ifs_asm.specs.inner.Reading.{Blames}
use Rattle.ifs_asm.proofs.Steps.{read_form, one_line}
use Rattle.ifs_asm.proofs.reading.take_line.Goals as goal

pub returns-in_default-clause-taken : goal.returns-in_default-clause-taken
returns-in_default-clause-taken c = λ _.
    one_line c.args.building.now c.args.line.now (map (λ word. word.now) c.as_slice.result.now) c.in_ok-form.field-0 (sym c.is_silent.ensures ∙ c.if-is_silent.false) (ap (map (λ word. word.now)) c.as_slice.ensures.value ∙ c.words_of-words.ensures) c.in_ok-form.ensures
    ∙ ap (λ (form : Option Formed). option_and_then (one_line_more c.args.building.now) (formed form)) c.in_default.is

pub returns-clause-taken : goal.returns-clause-taken
returns-clause-taken c =
    let e = one_line c.args.building.now c.args.line.now (map (λ word. word.now) c.as_slice.result.now) (Some c.in-Some.form) (sym c.is_silent.ensures ∙ c.if-is_silent.false) (ap (map (λ word. word.now)) c.as_slice.ensures.value ∙ c.words_of-words.ensures) (ap formed (sym c.in-Some.is) ∙ c.in_ok-form.ensures) in
    subst (λ (o : Option Built). MatchResult c.take.result (λ _. o ≡ Some c.take.new.self) (λ fault. fault ≢ faults.Memory → o ≡ None)) (sym e) c.take.ensures.taken

pub returns-in_default-clause-blamed : goal.returns-in_default-clause-blamed
returns-in_default-clause-blamed c = λ line e.
    let read = read_form c.args.line.now (map (λ word. word.now) c.as_slice.result.now) c.in_ok-form.field-0 (ap (map (λ word. word.now)) c.as_slice.ensures.value ∙ c.words_of-words.ensures) c.in_ok-form.ensures in
    absurd (none-some line (sym (read ∙ ap formed c.in_default.is) ∙ e))

pub returns-clause-blamed : goal.returns-clause-blamed
returns-clause-blamed c =
    let read = read_form c.args.line.now (map (λ word. word.now) c.as_slice.result.now) (Some c.in-Some.form) (ap (map (λ word. word.now)) c.as_slice.ensures.value ∙ c.words_of-words.ensures) (ap formed (sym c.in-Some.is) ∙ c.in_ok-form.ensures) in
    subst (λ (o : Option Line). IfErr c.take.result (λ fault. Blames c.args.building.now o fault)) (sym read) c.take.ensures.blamed
