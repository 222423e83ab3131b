-- All conditions occur, and the shared ones are chosen.
use Rattle.std.proofs.Common.{◌≡◌, ◌∙◌, sym, subst, ap, fold}
use Rattle.std.specs.Result.{IfOk}
use Rattle.ifs_gen.specs.Sharing.{same_code, conditions_in}
use Rattle.ifs_gen.specs.PlainSizes.{parts_of}
use Rattle.ifs_gen.specs.declared.sharing.Met.{Met}
use Rattle.ifs_gen.specs.inner.Meetings.{meet, met_nothing, chosen, AreApart}
use Rattle.ifs_gen.proofs.Firsts.{chosen_is, once_apart}
use Rattle.ifs_gen.proofs.Walking.{walked, few_chosen}
use Rattle.ifs_gen.proofs.sharing.shared_of.Goals as goal

pub chosen_of-requires : goal.chosen_of-requires
chosen_of-requires c =
    let policy = c.args.policy.now in
    let start : Met = record { once = c.new.result; again = c.new-2.result } in
    let empty : start ≡ met_nothing = λ i. record { once = c.new.ensures i; again = c.new-2.ensures i } in
    let all : c.meet_parts.new.met ≡ fold meet met_nothing (conditions_in (parts_of policy)) =
    walked policy c.always.result.now c.states.result.now start c.meet_part.new.met c.meet_parts.new.met empty c.always.ensures c.states.ensures.value c.in_ok-meet_part.ensures c.in_ok-meet_parts.ensures in
    subst (λ (met : Met). AreApart same_code met.once) (sym all) (once_apart (conditions_in (parts_of policy)))

pub returns-clause-shared : goal.returns-clause-shared
returns-clause-shared c =
    let policy = c.args.policy.now in
    let start : Met = record { once = c.new.result; again = c.new-2.result } in
    let empty : start ≡ met_nothing = λ i. record { once = c.new.ensures i; again = c.new-2.ensures i } in
    let all : c.meet_parts.new.met ≡ fold meet met_nothing (conditions_in (parts_of policy)) =
    walked policy c.always.result.now c.states.result.now start c.meet_part.new.met c.meet_parts.new.met empty c.always.ensures c.states.ensures.value c.in_ok-meet_part.ensures c.in_ok-meet_parts.ensures in
    subst (λ table. IfOk c.chosen_of.result (λ shared. shared ≡ table)) (ap chosen all ∙ chosen_is (conditions_in (parts_of policy))) c.chosen_of.ensures

pub returns-clause-few : goal.returns-clause-few
returns-clause-few c = few_chosen c.chosen_of.result c.meet_parts.new.met c.chosen_of.ensures
