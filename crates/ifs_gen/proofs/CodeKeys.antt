-- Codes as keys: if instructions are read back from their spellings, the same codes are equal. The hash of a code takes its number of
-- instructions, then each instruction.
use Rattle.std.proofs.Common.{◌≡◌, ◌∙◌, ◌≤◌, ℕ, true, List, length, fold, take, sym, ap}
use lib.Pointwise.{pointwise_decides, bytes_decides}
use Rattle.std.specs.List.{flat_map}
use Rattle.std.specs.Hash.{usize, slice}
use Rattle.std.proofs.lemmas.Option.{same_Some}
use Rattle.ifs_base.specs.declared.op.Op.{Op}
use Rattle.ifs_base.specs.Spelling.{spelling, op_of, IsReadBack}
use Rattle.ifs_gen.specs.Sharing.{same_op, same_code}
use Rattle.ifs_gen.specs.inner.Keys.{fed_op}
use Rattle.std.proofs.lemmas.List.{take_all}

-- The comparison of instructions decides equality.
pub op_decides : IsReadBack → (a b : Op) → (same_op a b ≡ true → a ≡ b) × (a ≡ b → same_op a b ≡ true)
op_decides back a b = (
  λ same. same_Some a b (sym (back a) ∙ ap op_of ((bytes_decides (spelling a) (spelling b)).0 same) ∙ back b),
  λ e. (bytes_decides (spelling a) (spelling b)).1 (ap spelling e),
)

-- The comparison of codes decides equality.
pub code_decides : IsReadBack → (a b : List Op) → (same_code a b ≡ true → a ≡ b) × (a ≡ b → same_code a b ≡ true)
code_decides back = pointwise_decides (op_decides back)

-- The hash takes the number and then each instruction.
pub all_fed : {S : Type 0} (write : S → List ℕ → S) (start counted now : S) (code one two : List Op) (i : ℕ) → one ≡ code → two ≡ code → counted ≡ fold write start (usize (length one)) → length two ≤ i
    → now ≡ fold write counted (flat_map fed_op (take i two)) → now ≡ fold write start (slice fed_op code)
all_fed write start counted now code one two i one_is two_is counted_is past now_is =
    now_is ∙ ap (λ ops. fold write counted (flat_map fed_op ops)) (take_all i two past ∙ two_is)
    ∙ ap (λ s. fold write s (flat_map fed_op code)) (counted_is ∙ ap (λ ops. fold write start (usize (length ops))) one_is)
