-- One more entry, which differs from all before it, and all entries.
use Rattle.std.proofs.Common.{◌≡◌, ◌≤◌, Some, rules, subst}
use Rattle.std.specs.Prelude.{slice_get}
use Rattle.ifs_gen.proofs.Walking.{chosen_more, chosen_new, chosen_all}
use Rattle.ifs_gen.proofs.sharing.chosen_of.Goals as goal

pub put_chosen-requires : goal.put_chosen-requires
put_chosen-requires c =
    let at : slice_get c.args.met.now.once c.loop-index.index ≡ Some c.in-Some.code.now = search rules in
    chosen_new c.args.met.now.once c.args.met.now.again c.loop-index.shared c.loop-index.index c.in-Some.code.now c.requires at c.loop-index.invariant

pub loop-index-preserved : goal.loop-index-preserved
loop-index-preserved c =
    let at : slice_get c.args.met.now.once c.loop-index.index ≡ Some c.in-Some.code.now = search rules in
    chosen_more c.args.met.now.once c.args.met.now.again c.loop-index.shared c.put_chosen.new.shared c.loop-index.index c.in-Some.code.now at c.loop-index.invariant c.in_ok-put_chosen-in-Some.ensures

pub returns : goal.returns
returns c =
    chosen_all c.args.met.now.once c.args.met.now.again c.loop-index.shared c.loop-index.index
    (subst (λ n. n ≤ c.loop-index.index) c.len-index-end.ensures c.loop-index-test.false) c.loop-index.invariant
