-- A buffer over a reader of std.
use Rattle.std.proofs.Common.{◌≡◌, ℕ, ◌+◌, ◌-◌, ◌<◌, ◌≤◌, List, [], ◌++◌, length, take, drop, slice_range, Option, Some}
use Rattle.std.proofs.Common.{None, sym, subst, arith, length-take, ap, ◌∙◌, append_assoc}
use Rattle.std.proofs.lemmas.List.{take-append-drop, drop-take, drop-drop}
use Rattle.std.specs.Io.KnownBytes.{prepend_known, Consumes, IsAtEnd}

none_taken : (bytes : List ℕ) (count : ℕ) → slice_range bytes 0 count ≡ [] → count ≤ length bytes → count ≡ 0
none_taken bytes count none within =
    let e : length (take (count - 0) bytes) ≡ 0 = ap length none in
    omega (arith, length-take {A = ℕ} (count - 0) bytes)

-- A read of no bytes into a buffer with room was at the end of input.
pub filled_at_end : (bytes : List ℕ) (count : ℕ) (known : Option (List ℕ)) → slice_range bytes 0 count ≡ [] → count ≤ length bytes → 0 < length bytes → (count ≡ 0 → 0 < length bytes → IsAtEnd known)
    → IsAtEnd (prepend_known (slice_range bytes 0 count) known)
filled_at_end bytes count None none within room end = tt
filled_at_end bytes count (Some rest) none within room end =
    let nothing : rest ≡ [] = end (none_taken bytes count none within) room in
    let all : slice_range bytes 0 count ++ rest ≡ [] ++ [] = cc in
    all

-- Bytes are removed from the front of the buffer.
front_taken : (bytes : List ℕ) (start end count : ℕ) → count ≤ length (slice_range bytes start end) → slice_range bytes (start + count) end ≡ drop count (slice_range bytes start end)
front_taken bytes start end count within =
    let fits : count ≤ end - start = omega (arith, within, length-take {A = ℕ} (end - start) (drop start bytes)) in
    let rest : end - start ≡ count + (end - (start + count)) = omega arith in
    sym (ap (λ n. drop count (take n (drop start bytes))) rest
    ∙ drop-take count (end - (start + count)) (drop start bytes)
    ∙ ap (take (end - (start + count))) (drop-drop count start bytes))

left_taken : (bytes : List ℕ) (count : ℕ) (known : Option (List ℕ)) → Consumes (prepend_known bytes known) (prepend_known (drop count bytes) known) (take count bytes)
left_taken bytes count None = tt
left_taken bytes count (Some rest) = ap (λ b. b ++ rest) (sym (take-append-drop count bytes)) ∙ append_assoc (take count bytes) (drop count bytes) rest

pub skipped : (bytes : List ℕ) (start end count : ℕ) (known : Option (List ℕ)) → count ≤ length (slice_range bytes start end)
    → (Some (slice_range bytes (start + count) end) ≡ Some (drop count (slice_range bytes start end)))
    × Consumes (prepend_known (slice_range bytes start end) known) (prepend_known (slice_range bytes (start + count) end) known) (take count (slice_range bytes start end))
skipped bytes start end count known within =
    let e = front_taken bytes start end count within in
    (ap Some e, subst (λ b. Consumes (prepend_known (slice_range bytes start end) known) (prepend_known b known) (take count (slice_range bytes start end))) (sym e) (left_taken (slice_range bytes start end) count known))
