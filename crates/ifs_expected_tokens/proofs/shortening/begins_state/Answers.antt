use Rattle.std.proofs.Common.{◌∙◌, ◌∷◌, ◌++◌, [], List, ap, subst}
use Rattle.ifs_lex.specs.declared.token.Token.{Token}
use Rattle.ifs_lex.specs.declared.token.What.TheVariants as what
use Rattle.ifs_parse.specs.Grammar.{Says}
use Rattle.ifs_expected_tokens.specs.inner.Shorter.{placed}
use Rattle.ifs_expected_tokens.proofs.Parted.{closed_once}
use Rattle.ifs_expected_tokens.proofs.Shorter as shorter
use Rattle.ifs_expected_tokens.proofs.shortening.begins_state.Goals as goal

pub say_one_state-requires : goal.say_one_state-requires
say_one_state-requires c = closed_once _ _ c.args.tokens.now.items c.requires c.in_ok-put.ensures (c.as_slice.ensures.value ∙ c.in_ok-put-2.ensures)

pub returns-clause-begins : goal.returns-clause-begins
returns-clause-begins c = λ yes.
    let it = c.in_ok-found.ensures yes in
    let all = c.as_slice.ensures.value ∙ c.in_ok-put-2.ensures ∙ ap (λ (l : List Token). l ++ placed what.End ∷ []) c.in_ok-put.ensures in
    shorter.begins_state c.args.tokens.now.items (placed what.BraceClose) (placed what.End) it.0 it.1.name it.1.parts (subst (λ (l : List Token). Says l it.0) all it.2) it.1.only
