use Rattle.std.proofs.Common.{ℕ, ◌≡◌, ◌<◌, ◌∙◌, length, Some, refl, sym, ap, subst}
use Rattle.std.proofs.lemmas.Bool.{OnFalse_from}
use Rattle.ifs_image.specs.Code.{target_of}
use Rattle.ifs_verify.specs.declared.fault.At.TheVariants.{Code}
use Rattle.ifs_verify.specs.declared.rules.OpRule.{OpRule}
use Rattle.ifs_verify.specs.Refused.{Fails}
use Rattle.ifs_verify.specs.inner.Passes.{fault_of}
use Rattle.ifs_verify.proofs.Instructions.{jump_elsewhere}
use Rattle.ifs_verify.proofs.rules.keeps.Goals as goal

pub returns-in-Target-clause-broken : goal.returns-in-Target-clause-broken
returns-in-Target-clause-broken c =
    OnFalse_from c.leads_on.result (Fails (fault_of c.args.rule (Code (record { 0 = c.args.routine }) c.args.place)) c.args.image.now)
    (λ broken. subst (λ (rule : OpRule). Fails (fault_of rule (Code (record { 0 = c.args.routine }) c.args.place)) c.args.image.now) (sym c.in-Target.is)
    (jump_elsewhere c.args.image.now c.args.routine c.args.place c.args.op (target_of c.args.op) c.requires.op refl (λ kept.
    let held = c.leads_on.ensures.1
    (subst (λ (n : ℕ). (target : ℕ) → target_of c.args.op ≡ Some target → (c.args.place < target) × (target < n)) (sym (c.len.ensures ∙ ap length c.code.ensures)) kept) in cc)))
