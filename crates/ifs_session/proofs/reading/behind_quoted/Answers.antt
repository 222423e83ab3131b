use Rattle.std.proofs.Common.{◌≡◌, ◌∷◌, ◌++◌, Some, ap, ◌∙◌, arith}
use Rattle.std.specs.List.{flat_map}
use Rattle.ifs_base.specs.Words.{quoted_byte}
use Rattle.ifs_session.proofs.ReadBack.{inside_goes_on, inside_ends}
use Rattle.ifs_session.proofs.reading.behind_quoted.Goals as goal

pub loop-rest-preserved : goal.loop-rest-preserved
loop-rest-preserved c = record {
  within = omega (arith, c.loop-rest.invariant.within, c.in-Some.ensures.shorter);
  goes_on = λ inside rest e.
      let text = c.loop-rest.invariant.goes_on inside rest e in
      inside_goes_on text.0 rest c.loop-rest.left.now c.in-Some.rest.now text.1 c.in-Some.ensures.value;
}

pub returns-clause-behind : goal.returns-clause-behind
returns-clause-behind c = λ inside rest e.
    let text = c.loop-rest.invariant.goes_on inside rest e in
    c.behind_quote.ensures.behind rest (inside_ends text.0 rest c.loop-rest.left.now text.1 c.in_default.ensures.value)
