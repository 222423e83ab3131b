-- Heights that are large enough, for one instruction and for more and more places.
use Rattle.std.proofs.Common.{ℕ, ◌≡◌, ◌<◌, ◌≤◌, ◌+◌, List, length, Option, Some, arith, below_more, ap, sym, ◌∙◌, subst}
use Rattle.std.proofs.lemmas.Option.{same_Some}
use Rattle.ifs_base.specs.declared.op.Kind.{Kind}
use Rattle.ifs_base.specs.declared.op.Op.{Op}
use Rattle.ifs_image.specs.declared.parts.ImageParts.{ImageParts}
use Rattle.ifs_image.specs.Code.{op_at, code_of, effect}
use Rattle.ifs_verify.specs.inner.Passes.{PlainRulesHold, HoldsHeight, IsTypedUpTo, IsHighEnough}
use Rattle.ifs_verify.specs.inner.Passes.{HoldsAt, NeedsHeight, AllHold, Stands, Yields, kinds_at}
use Rattle.ifs_verify.proofs.Ways.{Leads-later}
use Rattle.ifs_verify.proofs.Flow.{led_kinds}

holds_of_lengths : (image : ImageParts) (heights : ℕ → ℕ) (op : Op) (before after : List Kind) (low high height : ℕ) → effect image op before ≡ Some after
    → low ≡ length before → high ≡ length after → IsHighEnough image heights op low high height → HoldsHeight image heights op before height
holds_of_lengths image heights op before after low high height left low_is high_is enough = record {
  before = omega (arith, low_is, enough.holds_before);
  after = λ other is. omega (arith, ap (λ (k : List Kind). length k) (same_Some after other (sym left ∙ is)), high_is, enough.holds_after);
  call = λ callee is. omega (arith, low_is, enough.call callee is);
}

-- The height that an instruction needs by its lengths is the one that its place needs.
pub needs_height : (image : ImageParts) (routine : ℕ) (heights : ℕ → ℕ) (place : ℕ) (op : Op) (before after : List Kind) (brought : List (Option (List Kind)))
    (low high height : ℕ) → PlainRulesHold image → place < length (code_of image routine) → op_at image routine place ≡ Some op → Stands image routine place before brought
    → Yields image routine op before after → low ≡ length before → high ≡ length after → IsHighEnough image heights op low high height
    → ((bound : ℕ) → IsHighEnough image heights op low high bound → height ≤ bound) → NeedsHeight image routine heights place height
needs_height image routine heights place op before after brought low high height plain within here stands yields low_is high_is enough least = record {
  holds = λ other kinds is way.
      let there = led_kinds image routine place (length (code_of image routine)) place stands.lists kinds plain stands.typed (omega arith) way in
      let same : before ≡ kinds = same_Some before kinds (sym (stands.at_place within) ∙ there) in
      subst (λ (o : Op). HoldsHeight image heights o kinds height) (same_Some op other (sym here ∙ is))
      (subst (λ (k : List Kind). HoldsHeight image heights op k height) same
      (holds_of_lengths image heights op before after low high height yields.effect_is low_is high_is enough));
  least = λ bound holds.
      let way = Leads-later image routine place (length (code_of image routine)) place before (omega arith) (stands.typed.leads place before (stands.at_place within)) in
      let held = holds op before here way in
      least bound
      (record {
        holds_before = omega (arith, low_is, held.before);
        holds_after = omega (arith, high_is, held.after after yields.effect_is);
        call = λ callee e. omega (arith, low_is, held.call callee e);
      });
}

HoldsAt-higher : (image : ImageParts) (routine : ℕ) (heights : ℕ → ℕ) (place low high : ℕ) → low ≤ high → HoldsAt image routine heights place low
    → HoldsAt image routine heights place high
HoldsAt-higher image routine heights place low high le holds op kinds is way =
    let held = holds op kinds is way in
    record {
      before = omega (arith, held.before);
      after = λ next e. omega (arith, held.after next e);
      call = λ callee e. omega (arith, held.call callee e);
    }

-- A height stays large enough at one more place.
pub all_hold_more : (image : ImageParts) (routine : ℕ) (heights : ℕ → ℕ) (done so_far here next : ℕ) → AllHold image routine heights done so_far
    → HoldsAt image routine heights done here → so_far ≤ next → here ≤ next → AllHold image routine heights (done + 1) next
all_hold_more image routine heights done so_far here next all holds a b =
    below_more (λ (n : ℕ). HoldsAt image routine heights n next) done (λ place below. HoldsAt-higher image routine heights place so_far next a (all place below))
    (HoldsAt-higher image routine heights done here next b holds)

-- A passed place has what its instruction leaves.
pub passed_at : (image : ImageParts) (routine : ℕ) (lists : List (Option (List Kind))) (done place : ℕ) (op : Op) (before : List Kind) → IsTypedUpTo image routine lists done
    → place < done → op_at image routine place ≡ Some op → kinds_at lists place ≡ Some before
    → (after : List Kind) × (effect image op before ≡ Some after) × (length after ≤ 32)
passed_at image routine lists done place op before typed below is there =
    let p = typed.passed place op below is in
    let same : p.leaves.before ≡ before = same_Some p.leaves.before before (sym p.leaves.here ∙ there) in
    (p.after, subst (λ (k : List Kind). effect image op k ≡ Some p.after) same p.leaves.effect_is, p.leaves.within)
