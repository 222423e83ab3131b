-- The results of the steps are those of the text.
use Rattle.std.proofs.Common.{sym, subst, ap, ◌∙◌, Err}
use Rattle.ifs_policy.specs.Texts.{of_text}
use Rattle.ifs_policy.proofs.Unresolved.{same_error, not_error}
use Rattle.ifs_gen.specs.Compiled.{IsCompileRefusal, of_policy}
use Rattle.ifs_gen.proofs.Texts as texts
use Rattle.ifs_gen.proofs.compiling.compile_with_notes.Goals as goal
use Rattle.ifs_lex.specs.Expansion.{defined_by}

pub returns-in-Err-clause-refused : goal.returns-in-Err-clause-refused
returns-in-Err-clause-refused c =
    let defs = defined_by c.args.defs.now in
    subst (IsCompileRefusal c.args.text.now defs) (sym c.from.ensures) (texts.refused_policy c.args.text.now defs c.in-Err.fault c.in-Err.ensures.refused)

pub returns-in-Err-clause-none : goal.returns-in-Err-clause-none
returns-in-Err-clause-none c =
    let defs = defined_by c.args.defs.now in
    texts.none_compiled c.means_the_policy.ensures c.args.text.now defs c.from.result
    (subst (IsCompileRefusal c.args.text.now defs) (sym c.from.ensures) (texts.refused_policy c.args.text.now defs c.in-Err.fault c.in-Err.ensures.refused))

pub returns-in-Ok-bytes_of-clause-compiled : goal.returns-in-Ok-bytes_of-clause-compiled
returns-in-Ok-bytes_of-clause-compiled c =
    let defs = defined_by c.args.defs.now in
    texts.is_compiled c.args.text.now defs c.means_the_policy.ensures c.in-Ok.it.policy c.in-Ok.ensures.policy c.in-Ok-bytes_of.bytes.items c.in-Ok-bytes_of.ensures.written

pub returns-in-Err-bytes_of-clause-refused : goal.returns-in-Err-bytes_of-clause-refused
returns-in-Err-bytes_of-clause-refused c =
    let defs = defined_by c.args.defs.now in
    texts.code_refusal c.in-Ok.it.policy c.args.text.now defs c.in-Ok.ensures.policy c.in-Err-bytes_of.fault c.in-Err-bytes_of.ensures.refused

pub returns-in-Err-bytes_of-clause-none : goal.returns-in-Err-bytes_of-clause-none
returns-in-Err-bytes_of-clause-none c =
    let defs = defined_by c.args.defs.now in
    texts.none_compiled c.means_the_policy.ensures c.args.text.now defs c.in-Err-bytes_of.fault
    (texts.code_refusal c.in-Ok.it.policy c.args.text.now defs c.in-Ok.ensures.policy c.in-Err-bytes_of.fault c.in-Err-bytes_of.ensures.refused)

pub returns-in-Err-clause-at_once : goal.returns-in-Err-clause-at_once
returns-in-Err-clause-at_once c = λ fault h. ap (λ f. Err f) (c.from.ensures ∙ same_error of_policy c.in-Err.fault (of_text fault) (c.in-Err.ensures.at_once fault h))

pub returns-in-Ok-bytes_of-clause-at_once : goal.returns-in-Ok-bytes_of-clause-at_once
returns-in-Ok-bytes_of-clause-at_once c = λ fault h. not_error c.in-Ok.it (of_text fault) (c.in-Ok.ensures.at_once fault h)

pub returns-in-Err-bytes_of-clause-at_once : goal.returns-in-Err-bytes_of-clause-at_once
returns-in-Err-bytes_of-clause-at_once c = λ fault h. not_error c.in-Ok.it (of_text fault) (c.in-Ok.ensures.at_once fault h)
