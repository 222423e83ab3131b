-- A loop that reads the entries of a table.
use Rattle.std.proofs.Common.{◌≡◌, ◌≢◌, ℕ, suc, ◌+◌, ◌-◌, ◌≤◌, ◌<◌, List, []}
use Rattle.std.proofs.Common.{◌∷◌, ◌++◌, Ok, Err, refl, sym, ◌∙◌, length, arith}
use Rattle.std.proofs.lemmas.List.Sums.{sum_by-append}
use Rattle.ifs_image.specs.declared.parts.Routine.{Routine}
use Rattle.ifs_image.specs.Limits.{instructions}
use Rattle.ifs_image.specs.declared.fault.ImageFault.{ImageFault}
use Rattle.ifs_image.specs.declared.fault.ImageFault.TheVariants.{Memory}
use Rattle.ifs_image.specs.Reading.{Cursor, Read, items_at, room_after}

pub goes_on : {X : Type 0} (entry : List X → Cursor → Read X) (count i : ℕ) (before after_push : List X) (p after : Cursor) (x : X) (total : Read (List X)) → i < count → entry before p ≡ Ok (x, after) → after_push ≡ before ++ x ∷ []
    → items_at entry (count - i) before p ≡ total → items_at entry (count - (i + 1)) after_push after ≡ total
unfolding items_at
goes_on entry count i before after_push p after x total lt read pushed so_far =
    let k : count - i ≡ suc (count - (i + 1)) = omega arith in
    let one : items_at entry (count - i) before p ≡ items_at entry (count - (i + 1)) (before ++ x ∷ []) after = rw (k, read) refl in
    rw pushed (sym one ∙ so_far)

pub stops : {X : Type 0} (entry : List X → Cursor → Read X) (count i : ℕ) (before : List X) (p : Cursor) (total : Read (List X)) (fault : ImageFault) → i < count → (fault ≢ Memory → entry before p ≡ Err fault)
    → items_at entry (count - i) before p ≡ total → fault ≢ Memory → total ≡ Err fault
unfolding items_at
stops entry count i before p total fault lt read so_far other =
    let k : count - i ≡ suc (count - (i + 1)) = omega arith in
    let e = read other in
    let one : items_at entry (count - i) before p ≡ Err fault = rw (k, e) refl in
    sym so_far ∙ one

pub is_done : {X : Type 0} (entry : List X → Cursor → Read X) (count i : ℕ) (before all : List X) (p : Cursor) (total : Read (List X)) → count ≤ i → all ≡ before
    → items_at entry (count - i) before p ≡ total → total ≡ Ok (all, p)
unfolding items_at
is_done entry count i before all p total le same so_far =
    let k : count - i ≡ 0 = omega arith in
    let one : items_at entry (count - i) before p ≡ Ok (before, p) = rw k refl in
    rw same (sym so_far ∙ one)

-- ---- the room for routines

pub instructions-push : (before : List Routine) (r : Routine) → instructions (before ++ r ∷ []) ≡ instructions before + length r.code
instructions-push before r = omega (arith, sum_by-append (λ (x : Routine). length x.code) before (r ∷ []))

pub room_less : (version : ℕ) (before : List Routine) (r : Routine) (all : List Routine) (room n : ℕ) → room ≡ room_after version before → n ≡ length r.code → all ≡ before ++ r ∷ [] → room - n ≡ room_after version all
room_less version before r all room n e len pushed = rw (pushed, instructions-push) (omega arith)
