use Rattle.std.proofs.Common.{◌∙◌, subst}
use Rattle.ifs_lex.specs.declared.token.What.TheVariants as what
use Rattle.ifs_expected_tokens.specs.inner.Shorter.{placed}
use Rattle.ifs_expected_tokens.proofs.Parted.{ends_once, no_stop}
use Rattle.ifs_expected_tokens.proofs.Shorter.{CanSay, said_items}
use Rattle.ifs_expected_tokens.proofs.shortening.say_items.Goals as goal

pub number_of_stop-requires : goal.number_of_stop-requires
number_of_stop-requires c = ends_once _ c.args.tokens.now.items c.requires (c.as_slice.ensures.value ∙ c.in_ok-put.ensures)

pub returns-clause-items : goal.returns-clause-items
returns-clause-items c = λ yes.
    said_items c.args.tokens.now.items (placed what.End) (subst CanSay (c.as_slice.ensures.value ∙ c.in_ok-put.ensures) (c.in_ok-stop.ensures.said (no_stop c.in_ok-stop.stop c.is_none.result c.is_none.ensures yes)))
