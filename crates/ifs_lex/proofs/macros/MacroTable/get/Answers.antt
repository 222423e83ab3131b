use Rattle.std.proofs.Common.{◌∙◌}
use Rattle.ifs_lex.proofs.Tables.{value_found}
use Rattle.ifs_lex.proofs.macros.MacroTable.get.Goals as goal

pub returns-clause-value : goal.returns-clause-value
returns-clause-value c =
    value_found _ _ _ (c.args.self.now.values c.args.name.now) (c.copied.ensures ∙ c.get.ensures.value)
