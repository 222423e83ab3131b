-- The worked heights of a routine with parameters and of its caller.
use Rattle.std.proofs.Common.{ℕ, zero, suc, ◌≡◌, ◌+◌, ◌-◌, ◌≤◌, List, [], ◌∷◌, length, Some, arith, ap, refl, subst}
use Rattle.std.specs.Prelude.{slice_get}
use Rattle.std.proofs.lemmas.Option.{none-some, same_Some}
use Rattle.ifs_base.specs.declared.ids.RoutineId.{RoutineId}
use Rattle.ifs_base.specs.declared.op.Kind.{Kind}
use Rattle.ifs_base.specs.declared.op.Op.{Op}
use Rattle.ifs_base.specs.declared.op.Op.TheVariants.{Ret, Yes, Both, Call, Pop, Dup}
use Rattle.ifs_image.specs.declared.parts.ImageParts.{ImageParts}
use Rattle.ifs_image.specs.Code.{op_at, params_of, effect}
use Rattle.ifs_verify.specs.Worked.{truths, callee, caller, with_call, kinds_of_both, CallsAreWorked}

-- A fact of each instruction from a place on.
abbrev AllFrom : (ℕ → Op → Type 0) → ℕ → List Op → Type 0
AllFrom P n [] = Unit {0}
AllFrom P n (op ∷ ops) = P n op × AllFrom P (n + 1) ops

each_op : (P : ℕ → Op → Type 0) (ops : List Op) (n : ℕ) → AllFrom P n ops → (place : ℕ) (op : Op) → slice_get ops place ≡ Some op → P (n + place) op
each_op P [] n all place op e = absurd (none-some op e)
each_op P (x ∷ xs) n all zero op e =
    let same : n ≡ n + 0 = omega arith in
    subst (λ (k : ℕ). P k op) same (subst (P n) (same_Some x op e) all.0)
each_op P (x ∷ xs) n all (suc place) op e =
    let same : n + 1 + place ≡ n + suc place = omega arith in
    subst (λ (k : ℕ). P k op) same (each_op P xs (n + 1) all.1 place op e)

from_start : (P : ℕ → Op → Type 0) (ops : List Op) → AllFrom P 0 ops → (place : ℕ) (op : Op) → slice_get ops place ≡ Some op → P place op
from_start P ops all place op e =
    let same : 0 + place ≡ place = omega arith in
    subst (λ (k : ℕ). P k op) same (each_op P ops 0 all place op e)

called_number : Op → ℕ
called_number (Call id) = id.0
called_number op = 0

-- What heights ask of an instruction of a routine.
record Stays (image : ImageParts) (heights : ℕ → ℕ) (routine place : ℕ) (op : Op) : Type 0 where
  before : length (kinds_of_both routine place) ≤ heights routine
  after : (next : List Kind) → effect image op (kinds_of_both routine place) ≡ Some next → length next ≤ heights routine
  calls : (id : RoutineId) → op ≡ Call id → length (kinds_of_both routine place) - length (params_of image id.0) + heights id.0 ≤ heights routine

-- What is known to come next has as many kinds.
known_next : (n h : ℕ) (next : List Kind) → n ≤ h → length (truths n) ≡ n → Some (truths n) ≡ Some next → length next ≤ h
known_next n h next le long e = omega (arith, le, long, ap length (same_Some (truths n) next e))

callee_stays : (image : ImageParts) (heights : ℕ → ℕ) → heights 0 ≡ 4 → AllFrom (Stays (with_call image) heights 0) 0 callee.code
callee_stays image heights is =
    let at_0 : Stays (with_call image) heights 0 0 Dup = record { before = omega (arith, is); after = λ next e. known_next 3 (heights 0) next (omega (arith, is)) refl e; calls = λ id e. absurd cc } in
    let at_1 : Stays (with_call image) heights 0 1 Dup = record { before = omega (arith, is); after = λ next e. known_next 4 (heights 0) next (omega (arith, is)) refl e; calls = λ id e. absurd cc } in
    let at_2 : Stays (with_call image) heights 0 2 Pop = record { before = omega (arith, is); after = λ next e. known_next 3 (heights 0) next (omega (arith, is)) refl e; calls = λ id e. absurd cc } in
    let at_3 : Stays (with_call image) heights 0 3 Pop = record { before = omega (arith, is); after = λ next e. known_next 2 (heights 0) next (omega (arith, is)) refl e; calls = λ id e. absurd cc } in
    let at_4 : Stays (with_call image) heights 0 4 Both = record { before = omega (arith, is); after = λ next e. known_next 1 (heights 0) next (omega (arith, is)) refl e; calls = λ id e. absurd cc } in
    let at_5 : Stays (with_call image) heights 0 5 Ret = record { before = omega (arith, is); after = λ next e. known_next 1 (heights 0) next (omega (arith, is)) refl e; calls = λ id e. absurd cc } in
    (at_0, (at_1, (at_2, (at_3, (at_4, (at_5, tt))))))

-- At its call the caller has one truth below the two that the callee takes.
call_stays : (image : ImageParts) (heights : ℕ → ℕ) → heights 0 ≡ 4 → heights 1 ≡ 5 → (id : RoutineId) → Call (record { 0 = 0 }) ≡ Call id → 3 - length (params_of (with_call image) id.0) + heights id.0 ≤ heights 1
unfolding called_number
call_stays image heights first second id e =
    let same : ◌≡◌ {A = ℕ} 0 id.0 = ap called_number e in
    subst (λ (k : ℕ). 3 - length (params_of (with_call image) k) + heights k ≤ heights 1) same (omega (arith, first, second))

caller_stays : (image : ImageParts) (heights : ℕ → ℕ) → heights 0 ≡ 4 → heights 1 ≡ 5 → AllFrom (Stays (with_call image) heights 1) 0 caller.code
caller_stays image heights first is =
    let at_0 : Stays (with_call image) heights 1 0 Yes = record { before = omega (arith, is); after = λ next e. known_next 1 (heights 1) next (omega (arith, is)) refl e; calls = λ id e. absurd cc } in
    let at_1 : Stays (with_call image) heights 1 1 Yes = record { before = omega (arith, is); after = λ next e. known_next 2 (heights 1) next (omega (arith, is)) refl e; calls = λ id e. absurd cc } in
    let at_2 : Stays (with_call image) heights 1 2 Yes = record { before = omega (arith, is); after = λ next e. known_next 3 (heights 1) next (omega (arith, is)) refl e; calls = λ id e. absurd cc } in
    let at_3 : Stays (with_call image) heights 1 3 (Call (record { 0 = 0 })) = record { before = omega (arith, is); after = λ next e. known_next 2 (heights 1) next (omega (arith, is)) refl e; calls = call_stays image heights first is } in
    let at_4 : Stays (with_call image) heights 1 4 Pop = record { before = omega (arith, is); after = λ next e. known_next 1 (heights 1) next (omega (arith, is)) refl e; calls = λ id e. absurd cc } in
    let at_5 : Stays (with_call image) heights 1 5 Pop = record { before = omega (arith, is); after = λ next e. known_next 0 (heights 1) next (omega (arith, is)) refl e; calls = λ id e. absurd cc } in
    let at_6 : Stays (with_call image) heights 1 6 Ret = record { before = omega (arith, is); after = λ next e. known_next 0 (heights 1) next (omega (arith, is)) refl e; calls = λ id e. absurd cc } in
    (at_0, (at_1, (at_2, (at_3, (at_4, (at_5, (at_6, tt)))))))

stays : (image : ImageParts) (heights : ℕ → ℕ) → heights 0 ≡ 4 → heights 1 ≡ 5 → (routine place : ℕ) (op : Op) → op_at (with_call image) routine place ≡ Some op → Stays (with_call image) heights routine place op
stays image heights first second zero place op e = from_start (Stays (with_call image) heights 0) callee.code (callee_stays image heights first) place op e
stays image heights first second (suc zero) place op e = from_start (Stays (with_call image) heights 1) caller.code (caller_stays image heights first second) place op e
stays image heights first second (suc (suc routine)) place op e = absurd (none-some op e)

pub calls_are_worked : CallsAreWorked
calls_are_worked = record {
  fit = λ image heights first second. record {
    before = λ routine place op e. (stays image heights first second routine place op e).before;
    after = λ routine place op next e f. (stays image heights first second routine place op e).after next f;
    calls = λ routine place id e. (stays image heights first second routine place (Call id) e).calls id refl;
  };
  least = λ image heights fits.
      let four : 4 ≤ heights 0 = fits.after 0 1 Dup (truths 4) refl refl in
      let call : 3 - 2 + heights 0 ≤ heights 1 = fits.calls 1 3 (record { 0 = 0 }) refl in
      (four, omega (arith, four, call));
}
