use Rattle.std.proofs.Common.{◌∙◌, sym, ap, subst, Err}
use Rattle.ifs_parse.specs.Grammar.{Says}
use Rattle.ifs_parse.specs.Words.{fits_period}
use Rattle.ifs_parse.proofs.Exact.{inside}
use Rattle.ifs_parse.proofs.First.{stops_at}
use Rattle.ifs_parse.proofs.Whole.{says_read, read_says, says_no_fault}
use Rattle.ifs_parse.proofs.parsing.parse.Goals as goal

pub new-requires : goal.new-requires
new-requires c = ∣ (c.args.tokens.now, read_says fits_period 32 _ _ c.requires c.in-Ok.ensures.wanted) ∣₁

pub returns-in-Ok-clause-found : goal.returns-in-Ok-clause-found
returns-in-Ok-clause-found c = subst (Says c.args.tokens.now) (sym c.new.ensures) (read_says fits_period 32 _ _ c.requires c.in-Ok.ensures.wanted)

pub returns-in-Ok-clause-only : goal.returns-in-Ok-clause-only
returns-in-Ok-clause-only c = λ file h other. c.new.ensures ∙ ap (inside file) (sym c.in-Ok.ensures.wanted ∙ says_read fits_period 32 _ file h)

pub returns-in-Err-clause-only : goal.returns-in-Err-clause-only
returns-in-Err-clause-only c = λ file h other. says_no_fault fits_period 32 _ file c.in-Err.fault h (c.in-Err.ensures.wanted (λ e. other (ap (λ f. Err f) e)))

pub returns-in-Err-clause-stops : goal.returns-in-Err-clause-stops
returns-in-Err-clause-stops c = λ other. stops_at _ c.in-Err.fault c.requires (c.in-Err.ensures.wanted other)
