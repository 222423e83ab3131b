-- Decoding four bytes is the inverse of spelling an instruction.
use Rattle.std.proofs.Common.{◌≡◌, ℕ, ◌+◌, ◌*◌, ◌/◌, ◌%◌, ◌^◌, ◌<◌, Bool, true, false, cond, List}
use Rattle.std.proofs.Common.{[], ◌∷◌, length, get_or, Option, Some, None, refl, sym, subst, arith}
use Rattle.std.specs.Prelude.{◌&&◌, ◌==◌}
use Rattle.std.proofs.lemmas.Bool.{eqb-true, and_parts}
use Rattle.ifs_base.specs.declared.op.LinkState.TheVariants.{Unknown, Down, Up}
use Rattle.ifs_base.specs.declared.op.Op.{Op}
use Rattle.ifs_base.specs.declared.op.Op.TheVariants.{Ret, Yes, No, Link, Test, Known, Negate, Both}
use Rattle.ifs_base.specs.declared.op.Op.TheVariants.{Either, PushCommand, PushState, Queue, Want}
use Rattle.ifs_base.specs.declared.op.Op.TheVariants.{Jump, JumpFalse, JumpTrue, Call, Pop, Dup}
use Rattle.ifs_base.specs.Spelling.{spelling, op_of, op_with, plain, indexed, on_link, four_bytes, HasSpelling}

two_bytes : (n : ℕ) → 256 * (n / 256) + n % 256 ≡ n
two_bytes n = omega arith

pub op_of-spelling : (op : Op) → HasSpelling op → op_of (spelling op) ≡ Some op
op_of-spelling (Link n Unknown) fits = rw (two_bytes n.0) refl
op_of-spelling (Link n Down) fits = rw (two_bytes n.0) refl
op_of-spelling (Link n Up) fits = rw (two_bytes n.0) refl
op_of-spelling (Test n) fits = rw (two_bytes n.0) refl
op_of-spelling (Known n) fits = rw (two_bytes n.0) refl
op_of-spelling (PushCommand n) fits = rw (two_bytes n.0) refl
op_of-spelling (PushState n) fits = rw (two_bytes n.0) refl
op_of-spelling (Jump n) fits = rw (two_bytes n) refl
op_of-spelling (JumpFalse n) fits = rw (two_bytes n) refl
op_of-spelling (JumpTrue n) fits = rw (two_bytes n) refl
op_of-spelling (Call n) fits = rw (two_bytes n.0) refl
op_of-spelling op fits = refl

-- An instruction of four bytes is spelled by them.
pub record IsSpelled (code state n : ℕ) (op : Op) : Type 0 where
  pub bytes : spelling op ≡ four_bytes code state n
  pub fits : HasSpelling op

-- A choice by a test, in two cases.
chosen : (b : Bool) (x y : Option Op) (op : Op) (P : Type 0) → cond b x y ≡ Some op → (b ≡ true → x ≡ Some op → P) → (b ≡ false → y ≡ Some op → P) → P
chosen true x y op P e first second = first refl e
chosen false x y op P e first second = second refl e

abbrev found : Op → Option Op
found op = Some op

found_is : (o op : Op) → found o ≡ found op → o ≡ op
found_is o op e = cc

IsSpelled-plain : (code state n c : ℕ) (o op : Op) → code ≡ c → spelling o ≡ four_bytes c 0 0 → HasSpelling o → plain state n o ≡ Some op → IsSpelled code state n op
IsSpelled-plain code state n c o op at bytes fits e =
    chosen ((state == 0) && (n == 0)) (Some o) None op (IsSpelled code state n op) e
    (λ t f.
    let s = and_parts (state == 0) (n == 0) t in
    let no_state : state ≡ 0 = eqb-true state 0 s.0 in
    let no_operand : n ≡ 0 = eqb-true n 0 s.1 in
    let same = found_is o op f in
    record { bytes = rw (← same, at, no_state, no_operand) bytes; fits = subst HasSpelling same fits })
    (λ _ f. absurd cc)

IsSpelled-indexed : (code state n c : ℕ) (o op : Op) → code ≡ c → spelling o ≡ four_bytes c 0 n → HasSpelling o → indexed state o ≡ Some op → IsSpelled code state n op
IsSpelled-indexed code state n c o op at bytes fits e =
    chosen (state == 0) (Some o) None op (IsSpelled code state n op) e
    (λ t f.
    let no_state : state ≡ 0 = eqb-true state 0 t in
    let same = found_is o op f in
    record { bytes = rw (← same, at, no_state) bytes; fits = subst HasSpelling same fits })
    (λ _ f. absurd cc)

link_with : (b0 b1 b2 : Bool) (code state n : ℕ) (op : Op) → code ≡ 3 → (state == 0) ≡ b0 → (state == 1) ≡ b1 → (state == 2) ≡ b2 → n < 2 ^ 16
    → on_link n (cond b0 (Some Unknown) (cond b1 (Some Down) (cond b2 (Some Up) None))) ≡ Some op → IsSpelled code state n op
link_with true b1 b2 code state n op at e0 e1 e2 fits e =
    let is : state ≡ 0 = eqb-true state 0 e0 in
    let same = found_is (Link (record { 0 = n }) Unknown) op e in
    record { bytes = rw (← same, at, is) refl; fits = subst HasSpelling same fits }
link_with false true b2 code state n op at e0 e1 e2 fits e =
    let is : state ≡ 1 = eqb-true state 1 e1 in
    let same = found_is (Link (record { 0 = n }) Down) op e in
    record { bytes = rw (← same, at, is) refl; fits = subst HasSpelling same fits }
link_with false false true code state n op at e0 e1 e2 fits e =
    let is : state ≡ 2 = eqb-true state 2 e2 in
    let same = found_is (Link (record { 0 = n }) Up) op e in
    record { bytes = rw (← same, at, is) refl; fits = subst HasSpelling same fits }
link_with false false false code state n op at e0 e1 e2 fits e = absurd cc

pub op_with-spelled : (code state n : ℕ) (op : Op) → n < 2 ^ 16 → op_with code state n ≡ Some op → IsSpelled code state n op
op_with-spelled code state n op fits e0 =
    chosen (code == 0) _ _ op (IsSpelled code state n op) e0 (λ t f. IsSpelled-plain code state n 0 Ret op (eqb-true code 0 t) refl tt f) (λ _ e1.
    chosen (code == 1) _ _ op (IsSpelled code state n op) e1 (λ t f. IsSpelled-plain code state n 1 Yes op (eqb-true code 1 t) refl tt f) (λ _ e2.
    chosen (code == 2) _ _ op (IsSpelled code state n op) e2 (λ t f. IsSpelled-plain code state n 2 No op (eqb-true code 2 t) refl tt f) (λ _ e3.
    chosen (code == 3) _ _ op (IsSpelled code state n op) e3 (λ t f. link_with (state == 0) (state == 1) (state == 2) code state n op (eqb-true code 3 t) refl refl refl fits f) (λ _ e4.
    chosen (code == 4) _ _ op (IsSpelled code state n op) e4 (λ t f. IsSpelled-indexed code state n 4 (Test (record { 0 = n })) op (eqb-true code 4 t) refl fits f) (λ _ e5.
    chosen (code == 5) _ _ op (IsSpelled code state n op) e5 (λ t f. IsSpelled-indexed code state n 5 (Known (record { 0 = n })) op (eqb-true code 5 t) refl fits f) (λ _ e6.
    chosen (code == 6) _ _ op (IsSpelled code state n op) e6 (λ t f. IsSpelled-plain code state n 6 Negate op (eqb-true code 6 t) refl tt f) (λ _ e7.
    chosen (code == 7) _ _ op (IsSpelled code state n op) e7 (λ t f. IsSpelled-plain code state n 7 Both op (eqb-true code 7 t) refl tt f) (λ _ e8.
    chosen (code == 8) _ _ op (IsSpelled code state n op) e8 (λ t f. IsSpelled-plain code state n 8 Either op (eqb-true code 8 t) refl tt f) (λ _ e9.
    chosen (code == 9) _ _ op (IsSpelled code state n op) e9 (λ t f. IsSpelled-indexed code state n 9 (PushCommand (record { 0 = n })) op (eqb-true code 9 t) refl fits f) (λ _ e10.
    chosen (code == 10) _ _ op (IsSpelled code state n op) e10 (λ t f. IsSpelled-indexed code state n 10 (PushState (record { 0 = n })) op (eqb-true code 10 t) refl fits f) (λ _ e11.
    chosen (code == 11) _ _ op (IsSpelled code state n op) e11 (λ t f. IsSpelled-plain code state n 11 Queue op (eqb-true code 11 t) refl tt f) (λ _ e12.
    chosen (code == 12) _ _ op (IsSpelled code state n op) e12 (λ t f. IsSpelled-plain code state n 12 Want op (eqb-true code 12 t) refl tt f) (λ _ e13.
    chosen (code == 13) _ _ op (IsSpelled code state n op) e13 (λ t f. IsSpelled-indexed code state n 13 (Jump n) op (eqb-true code 13 t) refl fits f) (λ _ e14.
    chosen (code == 14) _ _ op (IsSpelled code state n op) e14 (λ t f. IsSpelled-indexed code state n 14 (JumpFalse n) op (eqb-true code 14 t) refl fits f) (λ _ e15.
    chosen (code == 15) _ _ op (IsSpelled code state n op) e15 (λ t f. IsSpelled-indexed code state n 15 (JumpTrue n) op (eqb-true code 15 t) refl fits f) (λ _ e16.
    chosen (code == 16) _ _ op (IsSpelled code state n op) e16 (λ t f. IsSpelled-indexed code state n 16 (Call (record { 0 = n })) op (eqb-true code 16 t) refl fits f) (λ _ e17.
    chosen (code == 17) _ _ op (IsSpelled code state n op) e17 (λ t f. IsSpelled-plain code state n 17 Pop op (eqb-true code 17 t) refl tt f) (λ _ e18.
    chosen (code == 18) _ _ op (IsSpelled code state n op) e18 (λ t f. IsSpelled-plain code state n 18 Dup op (eqb-true code 18 t) refl tt f) (λ _ e19.
    absurd cc)))))))))))))))))))

-- The four bytes of an instruction.
pub op_of-spelled : (bytes : List ℕ) (op : Op) → length bytes ≡ 4 → ((i : ℕ) → get_or bytes i 0 < 256) → op_of bytes ≡ Some op → (bytes ≡ spelling op) × HasSpelling op
op_of-spelled (code ∷ state ∷ high ∷ low ∷ []) op len fits e =
    let s = op_with-spelled code state (256 * high + low) op (omega (arith, fits 2, fits 3)) e in
    let top : (256 * high + low) / 256 ≡ high = omega (arith, fits 3) in
    let bottom : (256 * high + low) % 256 ≡ low = omega (arith, fits 3) in
    (sym (rw (top, bottom) at s.bytes), s.fits)
op_of-spelled _ op len fits e = absurd cc
