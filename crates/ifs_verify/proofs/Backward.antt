-- The backward pass: one more place is counted.
use Rattle.std.proofs.Common.{ℕ, ◌≡◌, ◌<◌, ◌≤◌, ◌+◌, ◌-◌, ◌*◌, List, length, get_or, Some}
use Rattle.std.proofs.Common.{slice_index, arith, refl, ap, sym, ◌∙◌, subst, inl, inr}
use Rattle.std.proofs.Math.ListN.{set, length-set}
use Rattle.std.proofs.lemmas.Bool.{cases_eq}
use Rattle.std.proofs.lemmas.List.{get_or-set_same, get_or-set_other}
use Rattle.std.proofs.lemmas.Option.{slice_get_within, same_Some}
use Rattle.ifs_base.specs.declared.ids.RoutineId.{RoutineId}
use Rattle.ifs_base.specs.declared.op.Op.{Op}
use Rattle.ifs_base.specs.declared.op.Op.TheVariants.{Call}
use Rattle.ifs_image.specs.declared.parts.ImageParts.{ImageParts}
use Rattle.ifs_image.specs.Code.{op_at, code_of, IsSuccessor}
use Rattle.ifs_verify.specs.Rules.{IsRoutine}
use Rattle.ifs_verify.specs.Bounds.{AreAmounts, callee_amount}
use Rattle.ifs_verify.specs.inner.Passes.{PlainRulesHold, HoldsAmount, IsCountedFrom}
use Rattle.ifs_verify.proofs.Flow.{successor_within}

-- An amount stays large enough if those of the successors are the same.
pub HoldsAmount-same : (weight : Op → ℕ) (lower by_place new : ℕ → ℕ) (op : Op) (place amount other : ℕ) → amount ≡ other
    → ((to : ℕ) → IsSuccessor op place to → by_place to ≡ new to) → HoldsAmount weight lower by_place op place amount → HoldsAmount weight lower new op place other
HoldsAmount-same weight lower by_place new op place amount other e same holds = record {
  own = omega (arith, e, holds.own);
  onward = λ to is. omega (arith, e, same to is, holds.onward to is);
}

pub callee_amount-le : (lower : ℕ → ℕ) (all : ℕ → ℕ → ℕ) (op : Op) → ((callee : RoutineId) → op ≡ Call callee → lower callee.0 ≤ all callee.0 0)
    → callee_amount (λ routine place. lower routine) op ≤ callee_amount all op
callee_amount-le lower all (Call callee) le = le callee refl
callee_amount-le lower all op le = omega arith

-- Any amounts are large enough at each place.
all_hold : (weight : Op → ℕ) (image : ImageParts) (lower : ℕ → ℕ) (routine : ℕ) (amounts : List ℕ) (place : ℕ) (op : Op) (all : ℕ → ℕ → ℕ)
    → PlainRulesHold image → IsRoutine image routine → op_at image routine place ≡ Some op → IsCountedFrom weight image lower routine amounts (place + 1)
    → AreAmounts weight image all → ((k : ℕ) → k < routine → lower k ≤ all k 0) → HoldsAmount weight lower (slice_index amounts) op place (all routine place)
all_hold weight image lower routine amounts place op all plain is_routine here counted are below =
    let callee : callee_amount (λ r k. lower r) op ≤ callee_amount all op =
    callee_amount-le lower all op (λ callee e. below callee.0 (plain.calls routine place callee (here ∙ ap (λ (o : Op). Some o) e))) in
    record {
      own = omega (arith, callee, are.own routine place op here);
      onward = λ to is.
          let within = successor_within image routine place to op plain.ends plain.jumps is_routine here is in
          let later : slice_index amounts to ≤ all routine to = counted.least all are below to within.1 (omega (arith, within.0)) in
          omega (arith, callee, later, are.onward routine place to op here is);
    }

pub counted_more : (weight : Op → ℕ) (image : ImageParts) (lower : ℕ → ℕ) (routine : ℕ) (amounts : List ℕ) (place : ℕ) (op : Op) (amount : ℕ)
    → PlainRulesHold image → IsRoutine image routine → op_at image routine place ≡ Some op → IsCountedFrom weight image lower routine amounts (place + 1)
    → HoldsAmount weight lower (slice_index amounts) op place amount
    → ((bound : ℕ) → HoldsAmount weight lower (slice_index amounts) op place bound → amount ≤ bound)
    → ((bound : ℕ) → ((to : ℕ) → IsSuccessor op place to → slice_index amounts to ≤ bound) → amount ≤ 100001 + bound)
    → IsCountedFrom weight image lower routine (set amounts place amount) place
counted_more weight image lower routine amounts place op amount plain is_routine here counted holds least more =
    let within : place < length (code_of image routine) = slice_get_within (code_of image routine) place op here in
    let inside : place < length amounts = omega (arith, counted.room.long routine) in
    let same : get_or (set amounts place amount) place 0 ≡ amount = get_or-set_same amounts place amount 0 inside in
    let at_place : (k : ℕ) → k ≡ place → get_or (set amounts place amount) k 0 ≡ amount =
    λ k e. subst (λ (n : ℕ). get_or (set amounts place amount) n 0 ≡ amount) (sym e) same in
    let most : amount ≤ 100001 + (100001 * length (code_of image routine) - 100001 * (place + 1)) =
    more (100001 * length (code_of image routine) - 100001 * (place + 1)) (λ to is.
    let later = successor_within image routine place to op plain.ends plain.jumps is_routine here is in
    omega (arith, counted.low to later.1 (omega (arith, later.0)))) in
    record {
      room = record {
        long = λ other. omega (arith, length-set amounts place amount, counted.room.long other);
        small = λ k.
            elim (cases_eq k place) [
              | inl e ↦ omega (arith, at_place k e, most, plain.sized.code routine)
              | inr ne ↦ omega (arith, get_or-set_other amounts place k amount 0 ne, counted.room.small k)
            ];
      };
      low = λ k inside_k le.
          elim (cases_eq k place) [
            | inl e ↦ omega (arith, at_place k e, most)
            | inr ne ↦ omega (arith, get_or-set_other amounts place k amount 0 ne, counted.low k inside_k (omega arith))
          ];
      holds = λ k other le is.
          elim (cases_eq k place) [
            | inl e ↦
                let o : op ≡ other = same_Some op other (sym here ∙ subst (λ (n : ℕ). op_at image routine n ≡ Some other) e is) in
                let h : HoldsAmount weight lower (slice_index (set amounts place amount)) op place (get_or (set amounts place amount) k 0) =
                HoldsAmount-same weight lower (slice_index amounts) (slice_index (set amounts place amount)) op place amount (get_or (set amounts place amount) k 0)
                (sym (at_place k e))
                (λ to s. let after = (successor_within image routine place to op plain.ends plain.jumps is_routine here s).0 in
                sym (get_or-set_other amounts place to amount 0 (omega (arith, after)))) holds in
                subst (λ (n : ℕ). HoldsAmount weight lower (slice_index (set amounts place amount)) other n (get_or (set amounts place amount) k 0)) (sym e)
                (subst (λ (x : Op). HoldsAmount weight lower (slice_index (set amounts place amount)) x place (get_or (set amounts place amount) k 0)) o h)
            | inr ne ↦
                HoldsAmount-same weight lower (slice_index amounts) (slice_index (set amounts place amount)) other k (slice_index amounts k)
                (get_or (set amounts place amount) k 0) (sym (get_or-set_other amounts place k amount 0 ne))
                (λ to s. let after = (successor_within image routine k to other plain.ends plain.jumps is_routine is s).0 in
                sym (get_or-set_other amounts place to amount 0 (omega (arith, after))))
                (counted.holds k other (omega arith) is)
          ];
      least = λ all are below k inside_k le.
          elim (cases_eq k place) [
            | inl e ↦
                let most : amount ≤ all routine place = least (all routine place) (all_hold weight image lower routine amounts place op all plain is_routine here counted are below) in
                let there : all routine place ≡ all routine k = ap (λ (n : ℕ). all routine n) (sym e) in
                omega (arith, at_place k e, most, there)
            | inr ne ↦ omega (arith, get_or-set_other amounts place k amount 0 ne, counted.least all are below k inside_k (omega arith))
          ];
    }
