-- The always part, and then the states.
use Rattle.std.proofs.Common.{ap, sym, ◌∙◌, ◌++◌, append_assoc}
use Rattle.std.specs.List.{flat_map}
use Rattle.ifs_lint.specs.inner.Marking.{part_kinds}
use Rattle.ifs_lint.proofs.Marking.{policy_are}
use Rattle.ifs_lint.proofs.reasons.Walk.policy.Goals as goal

pub returns : goal.returns
returns c =
    let start = c.args.passed.now.items in
    let policy = c.args.policy.now in
    c.in_ok-parts.ensures ∙ ap (λ parts. c.part.new.passed.items ++ flat_map part_kinds parts) c.states.ensures.value ∙ ap (λ xs. xs ++ flat_map part_kinds policy.states) (c.in_ok-part.ensures ∙ ap (λ part. start ++ part_kinds part) c.always.ensures)
    ∙ append_assoc start (part_kinds policy.always) (flat_map part_kinds policy.states) ∙ ap (λ xs. start ++ xs) (sym (policy_are policy))
