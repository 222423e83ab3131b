use Rattle.ifs_lex.proofs.Tables.{found, value_keeps, macros_keep}
use Rattle.ifs_lex.proofs.macros.MacroTable.leaf.Goals as goal

pub invariant_of-self : goal.invariant_of-self
invariant_of-self c = record {
  values = λ name entry e. value_keeps _ _ _ c.leaf.ensures.keeps (c.args.self.now.values name entry e);
  empty = value_keeps _ _ _ c.leaf.ensures.keeps c.args.self.now.empty;
}

pub returns-in_err-rope-clause-same : goal.returns-in_err-rope-clause-same
returns-in_err-rope-clause-same c =
    macros_keep _ _ (found c.args.self.now.table) _ c.leaf.ensures.keeps c.args.self.now.values

pub returns-clause-same : goal.returns-clause-same
returns-clause-same c =
    macros_keep _ _ (found c.args.self.now.table) _ c.leaf.ensures.keeps c.args.self.now.values
