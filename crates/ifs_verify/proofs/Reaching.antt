-- Marks of the successors of instructions.
use Rattle.std.proofs.Common.{ℕ, ◌≡◌, ◌<◌, ◌+◌, ◌↔◌, Bool, List, length}
use Rattle.std.proofs.Common.{Some, arith, ap, sym, ◌∙◌, subst, inl, inr, ◌⊎◌}
use Rattle.std.proofs.lemmas.Bool.{cases_eq, cases_lt}
use Rattle.std.proofs.lemmas.Option.{slice_get_past, same_Some}
use Rattle.ifs_base.specs.declared.op.Op.{Op}
use Rattle.ifs_image.specs.declared.parts.ImageParts.{ImageParts}
use Rattle.ifs_image.specs.Code.{op_at, code_of, code_in, IsSuccessor}
use Rattle.ifs_verify.specs.Rules.{IsRoutine}
use Rattle.ifs_verify.specs.inner.Passes.{IsMarked, FollowsBelow}

-- A routine with an instruction is one of the image.
pub code_of-routine : (image : ImageParts) (routine : ℕ) → 0 < length (code_of image routine) → IsRoutine image routine
code_of-routine image routine some =
    elim (cases_lt routine (length image.routines)) [
      | inl below ↦ below
      | inr past ↦
          let none : length (code_of image routine) ≡ 0 = ap (λ found. length (code_in found)) (slice_get_past image.routines routine past) in
          absurd (omega arith)
    ]

-- The successors of one more instruction are marked.
abbrev pub Marks : List Bool → List Bool → Op → ℕ → Type 0
Marks old new op place = (k : ℕ) → IsMarked new k ↔ (IsMarked old k ⊎ (IsSuccessor op place k × (k < length old)))

pub follows_more : (image : ImageParts) (routine place : ℕ) (op : Op) (before after : List Bool) → op_at image routine place ≡ Some op
    → Marks before after op place
    → ((k : ℕ) → IsMarked before k → FollowsBelow image routine place k)
    → (k : ℕ) → IsMarked after k → FollowsBelow image routine (place + 1) k
follows_more image routine place op before after here marks follows k marked =
    elim ((marks k).0 marked) [
      | inl earlier ↦ let f = follows k earlier in (f.0, f.1, omega (arith, f.2), f.3, f.4)
      | inr next ↦ (place, op, omega arith, here, next.0)
    ]

pub marked_more : (image : ImageParts) (routine place : ℕ) (op : Op) (before after : List Bool) → op_at image routine place ≡ Some op
    → Marks before after op place
    → ((k : ℕ) → k < length before → FollowsBelow image routine place k → IsMarked before k)
    → (k : ℕ) → k < length before → FollowsBelow image routine (place + 1) k → IsMarked after k
marked_more image routine place op before after here marks marked k within follows =
    elim (cases_eq follows.0 place) [
      | inl e ↦
          let at_place : op_at image routine place ≡ Some follows.1 = subst (λ (n : ℕ). op_at image routine n ≡ Some follows.1) e follows.3 in
          let o : follows.1 ≡ op = same_Some follows.1 op (sym at_place ∙ here) in
          let successor : IsSuccessor op place k =
          subst (λ (n : ℕ). IsSuccessor op n k) e (subst (λ (x : Op). IsSuccessor x follows.0 k) o follows.4) in
          (marks k).1 (inr (successor, within))
      | inr other ↦
          let earlier : FollowsBelow image routine place k = (follows.0, follows.1, omega (arith, follows.2), follows.3, follows.4) in
          (marks k).1 (inl (marked k within earlier))
    ]
