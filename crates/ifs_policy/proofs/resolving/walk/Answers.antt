-- The tables and the places are those of the items.
use Rattle.std.proofs.Common.{◌≡◌, ◌≢◌, List, map, ap, sym, subst, ◌∙◌}
use Rattle.std.proofs.lemmas.Result.{err_from_is_err_and}
use Rattle.ifs_policy.specs.declared.fault.ResolveFault.TheVariants.{Memory}
use Rattle.ifs_policy.specs.declared.names.Names.{Names}
use Rattle.ifs_policy.specs.Mentions.{Mentioned, mentions_of}
use Rattle.ifs_policy.specs.Tables.{names_after, no_names}
use Rattle.ifs_policy.specs.Faults.{AreSound}
use Rattle.ifs_policy.specs.inner.Entries.{IsFirst}
use Rattle.ifs_policy.specs.inner.Seen.{seen}
use Rattle.ifs_policy.proofs.Fitting.{filled_sized}
use Rattle.ifs_policy.proofs.resolving.walk.Goals as goal

pub returns-in_err-fill-clause-refused : goal.returns-in_err-fill-clause-refused
returns-in_err-fill-clause-refused c =
    let fault = c.in_err-fill.field-0.0 in
    let told = ap (map seen) c.as_slice.ensures.value ∙ c.in_ok-mentions.ensures in
    let p = err_from_is_err_and c.from_residual-in_err-fill.result c.from_residual-in_err-fill.ensures.1 in
    rw p.1 (λ other.
    let first = c.in_err-fill.ensures (subst (λ f. f ≢ Memory) p.2 other) in
    let from_none = subst (λ (n : Names). IsFirst n (map seen c.as_slice.result.now) fault) c.requires first in
    subst (IsFirst no_names (mentions_of c.args.items.now)) (sym p.2) (subst (λ (m : List Mentioned). IsFirst no_names m fault) told from_none))

pub place_items-requires : goal.place_items-requires
place_items-requires c =
    let told = map seen c.as_slice.result.now in
    let filled = subst (λ (n : Names). AreSound n told × (c.fill.new.self ≡ names_after n told)) c.requires (c.in_ok-fill.ensures.0, c.in_ok-fill.ensures.2) in
    filled_sized c.fill.new.self told filled.0 filled.1
