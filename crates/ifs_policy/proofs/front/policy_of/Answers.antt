-- A text is rejected by one of the steps.
use Rattle.std.proofs.Common.{List, sym, subst, ap, ◌∙◌, Err}
use Rattle.ifs_lex.specs.declared.token.Token.{Token}
use Rattle.ifs_parse.specs.Grammar.{Says, StopsAt}
use Rattle.ifs_policy.specs.Texts.{of_text}
use Rattle.ifs_policy.proofs.Unresolved as texts
use Rattle.ifs_policy.proofs.front.policy_of.Goals as goal
use Rattle.ifs_lex.specs.Expansion.{defined_by}

pub returns-in-Err-clause-refused : goal.returns-in-Err-clause-refused
returns-in-Err-clause-refused c =
    let defs = defined_by c.args.defs.now in
    subst (texts.Refuses c.args.text.now defs) (sym c.from.ensures) (texts.refused_text c.args.text.now defs c.in-Err.fault c.in-Err.ensures.first_fault)

pub returns-in-Err-parse-clause-refused : goal.returns-in-Err-parse-clause-refused
returns-in-Err-parse-clause-refused c =
    let defs = defined_by c.args.defs.now in
    subst (texts.Refuses c.args.text.now defs) (sym c.from-in-Err-parse.ensures)
    (texts.refused_tokens c.args.text.now defs c.one_list.ensures c.in-Ok.tokens.items c.in-Ok.ensures.found c.in-Err-parse.fault
    (λ other. subst (λ (ts : List Token). StopsAt ts c.in-Err-parse.fault) c.as_slice.ensures.value (c.in-Err-parse.ensures.stops other))
    (λ other file said. c.in-Err-parse.ensures.only file (subst (λ (ts : List Token). Says ts file) (sym c.as_slice.ensures.value) said) (λ e. other (cc))))

pub returns-clause-refused : goal.returns-clause-refused
returns-clause-refused c =
    let defs = defined_by c.args.defs.now in
    subst (texts.Refuses c.args.text.now defs) (sym c.from-in-Err-resolve.ensures)
    (texts.refused_names c.args.text.now defs c.one_list.ensures c.in-Ok.tokens.items c.in-Ok.ensures.found c.one_tree.ensures c.in-Ok-parse.tree
    (subst (λ (ts : List Token). Says ts c.in-Ok-parse.tree) c.as_slice.ensures.value c.in-Ok-parse.ensures.found) c.in-Err-resolve.fault c.in-Err-resolve.ensures.refused
    c.in-Err-resolve.ensures.none)

pub returns-in-Err-clause-at_once : goal.returns-in-Err-clause-at_once
returns-in-Err-clause-at_once c = λ fault h. ap (λ f. Err f) (c.from.ensures ∙ texts.same_error of_text c.in-Err.fault fault (c.in-Err.ensures.at_once fault h))

pub returns-in-Err-parse-clause-at_once : goal.returns-in-Err-parse-clause-at_once
returns-in-Err-parse-clause-at_once c = λ fault h. texts.not_error c.in-Ok.tokens fault (c.in-Ok.ensures.at_once fault h)

pub returns-in-Ok-resolve-clause-at_once : goal.returns-in-Ok-resolve-clause-at_once
returns-in-Ok-resolve-clause-at_once c = λ fault h. texts.not_error c.in-Ok.tokens fault (c.in-Ok.ensures.at_once fault h)

pub returns-clause-at_once : goal.returns-clause-at_once
returns-clause-at_once c = λ fault h. texts.not_error c.in-Ok.tokens fault (c.in-Ok.ensures.at_once fault h)
