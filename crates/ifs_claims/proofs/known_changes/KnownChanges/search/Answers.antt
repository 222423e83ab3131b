-- Until no number is left, or a question is not decided.
use Rattle.std.proofs.Common.{inl}
use Rattle.ifs_claims.proofs.Known.{all_known}
use Rattle.ifs_claims.proofs.known_changes.KnownChanges.search.Goals as goal

pub returns : goal.returns
returns c =
    record {
      known = c.loop-number.invariant.known;
      all = inl (all_known c.loop-number.self c.loop-number.invariant.end c.in_default-between.ensures.none);
      halved = c.loop-number.invariant.halved;
    }
