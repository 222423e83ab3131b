-- Both parts and the initial states.
use Rattle.std.proofs.Common.{◌≡◌, sym, ap, ◌∙◌, ◌⊎◌, true, ◌&&◌, ◌||◌}
use Rattle.std.proofs.lemmas.Bool.{OnTrue_from, OnFalse_from}
use Rattle.ifs_compare.specs.inner.Comparing.{AreSidesAlike, SidesDiffer, is_part_open, is_undecided, is_open}
use Rattle.std.specs.List.{list_any}
use Rattle.ifs_compare.proofs.Sames.{sides_alike}
use Rattle.ifs_compare.proofs.Spending.{spent_on_sides}
use Rattle.ifs_compare.proofs.States.{sides_apart}
use Rattle.ifs_compare.proofs.parts.judge_sides.Goals as goal

pub returns-clause-alike : goal.returns-clause-alike
returns-clause-alike c =
    let old = c.args.sides.old in
    let new = c.args.sides.new in
    OnTrue_from c.both-alike.result (AreSidesAlike c.args.scope old.initial new.initial old.always.now new.always.now old.states.now new.states.now) (λ yes.
    sides_alike c.args.scope old.initial new.initial old.always.now new.always.now old.states.now new.states.now c.in_ok-always.always c.same_initial-initial.result c.in_ok-states.states.alike c.same_initial-initial.ensures.same
    c.in_ok-always.ensures.answer c.in_ok-states.ensures.judged.alike
    (sym (c.both-alike.ensures ∙ ap (λ b. c.same_initial-initial.result && b) (c.both.ensures ∙ ap (λ a. a && c.in_ok-states.states.alike) c.is_part_alike.ensures)) ∙ yes))

pub returns-clause-apart : goal.returns-clause-apart
returns-clause-apart c =
    let always = c.in_ok-always.always in
    let states = c.in_ok-states.states in
    let left = ((is_part_open always || list_any is_open states.answers.items) ≡ true) ⊎ SidesDiffer c.args.scope c.args.sides in
    OnFalse_from c.both-alike.result left (sides_apart c.args.scope c.args.sides always states.answers.items c.same_initial-initial.result states.alike c.both-alike.result
    (c.both-alike.ensures ∙ ap (λ b. c.same_initial-initial.result && b) (c.both.ensures ∙ ap (λ a. a && states.alike) c.is_part_alike.ensures)) c.same_initial-initial.ensures.apart c.in_ok-always.ensures.answer
    c.in_ok-states.ensures.judged.apart)

pub returns-clause-spent : goal.returns-clause-spent
returns-clause-spent c =
    let always = c.in_ok-always.always in
    spent_on_sides c.args.effort.now c.judge_always.new.effort c.judge_states.new.effort (is_undecided always.init) (is_undecided always.body) (list_any is_open c.in_ok-states.states.answers.items) c.in_ok-always.ensures.spent
    c.in_ok-states.ensures.judged.spent
