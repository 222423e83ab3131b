-- By the lexemes that follow.
use Rattle.std.proofs.Common.{◌∙◌}
use Rattle.ifs_claim_parse.proofs.Defining.{no_rest, no_values, defined_here, not_defined}
use Rattle.ifs_claim_parse.proofs.macros.definition_end.Goals as goal

pub returns-in_err-equals : goal.returns-in_err-equals
returns-in_err-equals c = c.from_residual.ensures ∙ no_rest c.args.name.now c.args.rest.now c.in_err-equals.ensures.cases

pub returns-in_err-value : goal.returns-in_err-value
returns-in_err-value c = c.from_residual-in_err-value.ensures ∙ no_values c.args.name.now c.in_ok-equals.equals.now c.args.rest.now c.in_ok-equals.values.now c.in_ok-equals.ensures.cases.0 c.in_err-value.ensures.cases

pub returns-then-is_definition : goal.returns-then-is_definition
returns-then-is_definition c =
    defined_here c.args.name.now c.in_ok-equals.equals.now c.in_ok-value.value.now c.args.rest.now c.in_ok-equals.values.now c.in_ok-value.field-0-1.now
    c.in_ok-equals.ensures.cases.0 c.in_ok-value.ensures.cases.0 c.is_definition.result c.is_definition.ensures c.if-is_definition.true

pub returns : goal.returns
returns c =
    not_defined c.args.name.now c.in_ok-equals.equals.now c.in_ok-value.value.now c.args.rest.now c.in_ok-equals.values.now c.in_ok-value.field-0-1.now
    c.in_ok-equals.ensures.cases.0 c.in_ok-value.ensures.cases.0 c.is_definition.result c.is_definition.ensures c.if-is_definition.false
