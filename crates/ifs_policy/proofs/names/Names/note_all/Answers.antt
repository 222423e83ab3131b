-- The current mention is decided, and the remaining ones decide for all.
use Rattle.std.proofs.Common.{◌≢◌, map, sym, subst}
use Rattle.std.proofs.lemmas.Result.{err_from_is_err_and}
use Rattle.ifs_policy.specs.declared.fault.ResolveFault.TheVariants.{Memory}
use Rattle.ifs_policy.specs.Faults.{FirstBroken}
use Rattle.ifs_policy.specs.inner.Seen.{seen}
use Rattle.ifs_policy.proofs.Decided.{decides_more, decides_here}
use Rattle.ifs_policy.proofs.names.Names.note_all.Goals as goal

pub returns-in_err-note : goal.returns-in_err-note
returns-in_err-note c =
    let all = map seen c.args.mentions.now in
    let p = err_from_is_err_and c.from_residual.result c.from_residual.ensures.1 in
    rw p.1 (λ other.
    subst (FirstBroken c.args.self.now all) (sym p.2)
    (decides_here c.loop-mention.self c.args.self.now c.args.mentions.now c.loop-mention.mention-index c.mention-item.result all c.in_err-note.field-0.0
    c.loop-mention-test.true c.mention-item.is (c.in_err-note.ensures (subst (λ fault. fault ≢ Memory) p.2 other)) c.loop-mention.invariant))

pub loop-mention-preserved : goal.loop-mention-preserved
loop-mention-preserved c =
    rw c.in_ok-note.ensures.1 (decides_more c.loop-mention.self c.args.self.now c.args.mentions.now c.loop-mention.mention-index c.mention-item.result (map seen c.args.mentions.now)
    c.loop-mention-test.true c.mention-item.is c.in_ok-note.ensures.0 c.loop-mention.invariant)
