use Rattle.std.proofs.Common.{ℕ, ◌≡◌, None, length}
use Rattle.ifs_verify.specs.inner.Passes.{kinds_at}
use Rattle.ifs_verify.proofs.typing.no_lists.Given as goal

abbrev pub invariant-loop-place : goal.invariant-loop-place
invariant-loop-place l = record {
  long : length l.brought.items ≡ l._place;
  none : (place : ℕ) → kinds_at l.brought.items place ≡ None;
}
