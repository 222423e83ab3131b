-- What is said of the names, the blocks and the room.
use Rattle.std.proofs.Common.{subst, refl}
use Rattle.std.specs.Bool.{OnTrue}
use Rattle.ifs_compare.specs.declared.answers.Compared.{Compared}
use Rattle.ifs_compare.specs.Alike.{is_same}
use Rattle.ifs_compare.specs.inner.Comparing.{IsSameButRoom}
use Rattle.ifs_compare.specs.inner.Telling.{AreNamedTold}
use Rattle.ifs_compare.proofs.Named.{named_same, policies_told, policies_left}
use Rattle.ifs_compare.proofs.comparing.compare_within.Goals as goal

pub returns-clause-same : goal.returns-clause-same
returns-clause-same c =
    let old = c.args.old.now in
    let new = c.args.new.now in
    let alike = c.in_ok-alike.alike in
    let found : Compared = record { differences = c.compare_rooms.new.differences; undecided = c.compare_named.new.found.undecided } in
    named_same old new alike c.in_ok-same_room.same_room c.both-same.result c.compare_named.new.found.differences.items found c.in_ok-compared.compared
    (subst (λ p. OnTrue alike (IsSameButRoom p new)) c.policy-before.ensures (subst (λ p. OnTrue alike (IsSameButRoom c.policy-before.result.now p)) c.policy-after.ensures c.in_ok-alike.ensures.alike))
    c.in_ok-same_room.ensures c.both-same.ensures c.in_ok-compared.ensures

pub returns-clause-told : goal.returns-clause-told
returns-clause-told c =
    let old = c.args.old.now in
    let new = c.args.new.now in
    let before = c.args.effort.now in
    let after = c.compare_named.new.effort in
    let alike = c.in_ok-alike.alike in
    let start = c.new-found.result in
    let mid = c.compare_named.new.found in
    let found : Compared = record { differences = c.compare_rooms.new.differences; undecided = mid.undecided } in
    policies_told old new before after alike c.in_ok-same_room.same_room start mid found c.in_ok-compared.compared
    (subst (λ p. AreNamedTold p new before after alike start mid) c.policy-before.ensures (subst (λ p. AreNamedTold c.policy-before.result.now p before after alike start mid) c.policy-after.ensures c.in_ok-alike.ensures.told))
    c.in_ok-same_room.ensures c.new-found.ensures.differences c.in_ok-compared.ensures.differences

pub returns-clause-undecided : goal.returns-clause-undecided
returns-clause-undecided c = λ names.
    let old = c.args.old.now in
    let new = c.args.new.now in
    let before = c.args.effort.now in
    let after = c.compare_named.new.effort in
    let alike = c.in_ok-alike.alike in
    let start = c.new-found.result in
    let mid = c.compare_named.new.found in
    let found : Compared = record { differences = c.compare_rooms.new.differences; undecided = mid.undecided } in
    policies_left old new before after alike c.in_ok-same_room.same_room start mid found c.in_ok-compared.compared
    (subst (λ p. AreNamedTold p new before after alike start mid) c.policy-before.ensures (subst (λ p. AreNamedTold c.policy-before.result.now p before after alike start mid) c.policy-after.ensures c.in_ok-alike.ensures.told))
    c.in_ok-same_room.ensures c.both-same.result names c.new-found.ensures.undecided refl c.both-same.ensures c.in_ok-compared.ensures
