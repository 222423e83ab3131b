-- The tokens of a line without `=`.
use Rattle.std.proofs.Common.{◌∙◌, sym, subst}
use Rattle.std.specs.Option.{option_to_list}
use Rattle.ifs_claim_parse.specs.Files.{AreStated, place_of}
use Rattle.ifs_claim_parse.proofs.reading.read_line.Goals as goal

pub returns-clause-states : goal.returns-clause-states
returns-clause-states c = record {
  plain = sym c.in_ok-defines_macros.ensures ∙ c.if-branch.false;
  tokens = c.in_ok-tokens.tokens.items;
  end = c.in_ok-tokens.ensures.0;
  has = c.in_ok-tokens.ensures.1;
  stated = subst (λ l. AreStated c.args.context.tables.now (place_of c.args.context.macros.now c.args.number c.args.at c.args.line.now) l (option_to_list c.in_ok-found.found))
      c.as_slice.ensures.value c.in_ok-found.ensures.stated;
}
