use Rattle.std.proofs.Common.{◌≡◌, true, false, None, Some, ◌∙◌, sym, ap}
use Rattle.ifs_lex.specs.Characters.{is_macro_name}
use Rattle.ifs_command_line.proofs.Names.{parted}
use Rattle.ifs_command_line.proofs.definitions.definition_of.Goals as goal

pub returns-in_err-name-clause-only : goal.returns-in_err-name-clause-only
returns-in_err-name-clause-only c name value defines =
    absurd (parted c.args.word.now None c.in_err-name.ensures.cases name value defines)

pub returns-then-is_macro_name-clause-only : goal.returns-then-is_macro_name-clause-only
returns-then-is_macro_name-clause-only c name value defines =
    parted c.args.word.now (Some (c.in_ok-name.name, c.in_ok-name.value)) c.in_ok-name.ensures.cases name value defines

pub returns-else-is_macro_name-clause-only : goal.returns-else-is_macro_name-clause-only
returns-else-is_macro_name-clause-only c name value defines =
    let same = (parted c.args.word.now (Some (c.in_ok-name.name, c.in_ok-name.value)) c.in_ok-name.ensures.cases name value defines).0 in
    let both : true ≡ false = sym defines.named ∙ ap is_macro_name (sym same) ∙ sym c.is_macro_name.ensures ∙ c.if-is_macro_name.false in
    absurd (cc)
