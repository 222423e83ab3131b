-- One more line, and the last one.
use Rattle.std.proofs.Common.{Some, None, lit<, refl, rules}
use Rattle.std.proofs.lemmas.Str.Pattern.{split_parts}
use Rattle.ifs_lex.specs.Expansion.{defined_by}
use Rattle.ifs_claim_parse.proofs.Lines.{all_lines, one_line}
use Rattle.ifs_claim_parse.proofs.reading.read_lines.Goals as goal

pub lines-preserved : goal.lines-preserved
lines-preserved c =
    let parts = split_parts 10 c.lines.left.now (Some (c.in-Some.line, c.in-Some.rest)) c.in-Some.ensures.cases (lit< tt) in (
      search rules,
      one_line c.args.context.macros.now (defined_by c.args.context.definitions.now) c.args.context.tables.now c.args.lines.now c.lines.number c.lines.at c.lines.left.now
          c.in-Some.line.now c.in-Some.rest.now c.lines.stated.items c.add_line.new.stated.items _ _ c.lines.invariant.1 parts.0 parts.1 c.in-Ok.ensures refl refl,
    )

pub returns-in-Ok-add_line : goal.returns-in-Ok-add_line
returns-in-Ok-add_line c =
    all_lines c.args.context.macros.now (defined_by c.args.context.definitions.now) c.args.context.tables.now c.args.lines.now c.lines.number c.lines.at c.lines.left.now
    c.lines.stated.items c.add_line-2.new.stated.items c.requires c.lines.invariant.1 (split_parts 10 c.lines.left.now None c.in_default.ensures.cases (lit< tt)) c.in-Ok-add_line.ensures
