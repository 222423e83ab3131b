-- The properties of the measures are those of the policy.
use Rattle.std.proofs.Common.{◌≡◌, map, rules, ap}
use Rattle.ifs_gen.specs.PlainSizes.{test_count, parts_of}
use Rattle.ifs_gen.specs.inner.Amounts.{measured}
use Rattle.ifs_gen.proofs.Copying.{bounds_of}
use Rattle.ifs_gen.proofs.generating.bounds_of.Goals as goal

pub returns-clause-bounds : goal.returns-clause-bounds
returns-clause-bounds c =
    let policy = c.args.policy.now in
    let same : c.as_slice.result.now ≡ map (measured (test_count policy)) (parts_of policy) = search rules in
    (bounds_of policy c.bounds_in.result c.as_slice.result.now c.initial.result.0 same (ap (λ s. s.0) c.initial.ensures) c.bounds_in.ensures.fine c.bounds_in.ensures.bounds c.bounds_in.ensures.passed).bounds

pub returns-clause-fits : goal.returns-clause-fits
returns-clause-fits c =
    let policy = c.args.policy.now in
    let same : c.as_slice.result.now ≡ map (measured (test_count policy)) (parts_of policy) = search rules in
    (bounds_of policy c.bounds_in.result c.as_slice.result.now c.initial.result.0 same (ap (λ s. s.0) c.initial.ensures) c.bounds_in.ensures.fine c.bounds_in.ensures.bounds c.bounds_in.ensures.passed).fits

pub returns-clause-refused : goal.returns-clause-refused
returns-clause-refused c =
    let policy = c.args.policy.now in
    let same : c.as_slice.result.now ≡ map (measured (test_count policy)) (parts_of policy) = search rules in
    (bounds_of policy c.bounds_in.result c.as_slice.result.now c.initial.result.0 same (ap (λ s. s.0) c.initial.ensures) c.bounds_in.ensures.fine c.bounds_in.ensures.bounds c.bounds_in.ensures.passed).refused
