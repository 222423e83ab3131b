-- Consequences of an instruction at a place.
use Rattle.std.proofs.Common.{ℕ, ◌≡◌, ◌≢◌, ◌<◌, length, Option, Some, None, ap}
use Rattle.std.proofs.Common.{◌∙◌, ◌+◌, ◌-◌, List, inl, inr, arith, subst, sym}
use Rattle.std.specs.List.{slice_get}
use Rattle.std.proofs.lemmas.Bool.{cases_lt}
use Rattle.std.proofs.lemmas.Option.{slice_get_past, slice_get_within, same_Some}
use Rattle.ifs_base.specs.declared.op.Op.{Op}
use Rattle.ifs_base.specs.declared.op.Op.TheVariants.{Ret}
use Rattle.ifs_image.specs.declared.parts.Handlers.{Handlers}
use Rattle.ifs_image.specs.declared.parts.StateSpec.{StateSpec}
use Rattle.ifs_image.specs.declared.parts.Routine.{Routine}
use Rattle.ifs_image.specs.declared.parts.ImageParts.{ImageParts}
use Rattle.ifs_image.specs.Code.{op_at, code_of, code_in, target_of}
use Rattle.ifs_verify.specs.declared.rules.OpRule.TheVariants.{Target}
use Rattle.ifs_verify.specs.Rules.{IsRoutine, RoutinesEnd}
use Rattle.ifs_verify.specs.Refused.{JumpsElsewhere}
use Rattle.ifs_verify.specs.inner.Passes.{Keeps}

found_in : (routine : Option Routine) (place : ℕ) (op : Op) → slice_get (code_in routine) place ≡ Some op → routine ≢ None
found_in None place op h e = cc
found_in (Some routine) place op h e = cc

-- An instruction is in a routine of the image.
pub op_at-routine : (image : ImageParts) (routine place : ℕ) (op : Op) → op_at image routine place ≡ Some op → IsRoutine image routine
op_at-routine image routine place op h =
    elim (cases_lt routine (length image.routines)) [
      | inl below ↦ below
      | inr past ↦ absurd (found_in (slice_get image.routines routine) place op h (slice_get_past image.routines routine past))
    ]

-- An instruction that does not lead on is a jump.
pub jump_elsewhere : (image : ImageParts) (routine place : ℕ) (op : Op) (target : Option ℕ) → op_at image routine place ≡ Some op → target_of op ≡ target
    → ¬ Keeps Target image routine place op → JumpsElsewhere image routine place
jump_elsewhere image routine place op None h none broken = absurd (broken (λ target e. let never : None ≡ Some target = sym none ∙ e in cc))
jump_elsewhere image routine place op (Some target) h some broken =
    (op, target, h, some, λ leads. broken (λ other e. subst (λ (n : ℕ). (place < n) × (n < length (code_of image routine))) (same_Some target other (sym some ∙ e)) leads))

-- A fact of the handlers of lower states and of the next one.
pub states_more : (states : List StateSpec) (P : Handlers → Type 0) (i : ℕ) (handlers : Handlers)
    → ((k : ℕ) (state : StateSpec) → k < i → slice_get states k ≡ Some state → P state.handlers)
    → ((found : StateSpec) × (slice_get states i ≡ Some found) × (found.handlers ≡ handlers)) → P handlers
    → (k : ℕ) (state : StateSpec) → k < i + 1 → slice_get states k ≡ Some state → P state.handlers
states_more states P i handlers earlier found here k state below is =
    elim (cases_lt k i) [
      | inl before ↦ earlier k state before is
      | inr past ↦
          let same : k ≡ i = omega arith in
          let at_i : slice_get states i ≡ Some state = subst (λ (n : ℕ). slice_get states n ≡ Some state) same is in
          let e : handlers ≡ state.handlers = sym found.2 ∙ ap (λ (s : StateSpec). s.handlers) (same_Some found.0 state (sym found.1 ∙ at_i)) in
          subst P e here
    ]

-- A routine that ends with `ret` has an instruction.
pub some_code : (image : ImageParts) (routine : ℕ) → RoutinesEnd image → IsRoutine image routine → 0 < length (code_of image routine)
some_code image routine ends is_routine =
    let last : length (code_of image routine) - 1 < length (code_of image routine) =
    slice_get_within (code_of image routine) (length (code_of image routine) - 1) Ret (ends routine is_routine) in
    omega arith
