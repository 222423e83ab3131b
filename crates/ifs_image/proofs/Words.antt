-- A loop that reads words of four bytes.
use Rattle.std.proofs.Common.{◌≡◌, ℕ, zero, suc, ◌+◌, ◌*◌, ◌/◌, ◌≤◌, List, [], ◌∷◌, ◌++◌, length, take, drop, ltb}
use Rattle.std.proofs.Common.{Option, Ok, Some, refl, sym, ap, subst, ◌∙◌, arith, All}
use Rattle.std.specs.Prelude.{unwrap_or}
use Rattle.std.specs.Simd.{first_chunks}
use Rattle.std.proofs.lemmas.Bool.{ltb-false}
use Rattle.std.proofs.lemmas.List.{drop-drop, length-drop, map-append}
use Rattle.std.proofs.lemmas.List.Elements.{All-push}
use Rattle.ifs_base.specs.declared.op.Op.{Op}
use Rattle.ifs_base.specs.declared.op.Op.TheVariants.{Ret}
use Rattle.ifs_base.specs.Spelling.{op_of}
use Rattle.ifs_base.specs.Results.{◌>>=◌}
use Rattle.ifs_image.specs.declared.fault.ImageFault.TheVariants.{Truncated, NoInstruction}
use Rattle.ifs_image.specs.Reading.{Cursor, cursor, bytes_at, instruction_at}
use Rattle.ifs_image.specs.Lent.{op_in, ops_in, IsInstruction}
use Rattle.ifs_image.proofs.FieldLaws.{bind_ok, guard_ok, ok_is}
use Rattle.ifs_image.proofs.KindLaws.{ok_or_ok}
use Rattle.std.specs.Option.{ok_or}

first_chunks-push : (k : ℕ) (xs : List ℕ) → first_chunks 4 (suc k) xs ≡ first_chunks 4 k xs ++ take 4 (drop (4 * k) xs) ∷ []
first_chunks-push zero xs = refl
first_chunks-push (suc k) xs =
    let next : drop (4 * k) (drop 4 xs) ≡ drop (4 * suc k) xs = drop-drop (4 * k) 4 xs ∙ ap (λ (n : ℕ). drop n xs) (omega arith) in
    ap (λ (rest : List (List ℕ)). take 4 xs ∷ rest) (first_chunks-push k (drop 4 xs) ∙ ap (λ (bytes : List ℕ). first_chunks 4 k (drop 4 xs) ++ take 4 bytes ∷ []) next)

first_chunks_more : (k : ℕ) (xs : List ℕ) → first_chunks 4 (k + 1) xs ≡ first_chunks 4 k xs ++ take 4 (drop (4 * k) xs) ∷ []
first_chunks_more k xs =
    let next : k + 1 ≡ suc k = omega arith in
    ap (λ (n : ℕ). first_chunks 4 n xs) next ∙ first_chunks-push k xs

pub take-first_chunks : (j k : ℕ) (xs : List ℕ) → j ≤ k → take j (first_chunks 4 k xs) ≡ first_chunks 4 j xs
take-first_chunks zero k xs le = refl
take-first_chunks (suc j) zero xs le = absurd (omega arith)
take-first_chunks (suc j) (suc k) xs le = ap (λ (rest : List (List ℕ)). take 4 xs ∷ rest) (take-first_chunks j k (drop 4 xs) (omega arith))

bytes_are : (n : ℕ) (p : Cursor) (y : List ℕ × Cursor) → bytes_at n p ≡ Ok y → (n ≤ length p.left) × ((take n p.left, cursor (p.at + n) (drop n p.left)) ≡ y)
unfolding bytes_at
bytes_are n p y e =
    let g = guard_ok (ltb (length p.left) n) (Truncated p.at) (take n p.left, cursor (p.at + n) (drop n p.left)) y e in
    (ltb-false _ _ g.0, g.1)

-- An instruction was read from the next four bytes.
record OneWord (p : Cursor) (op : Op) (after : Cursor) : Type 0 where
  room : 4 ≤ length p.left
  word : op_of (take 4 p.left) ≡ Some op
  rest : after.left ≡ drop 4 p.left

one_word : (p : Cursor) (op : Op) (after : Cursor) → instruction_at p ≡ Ok (op, after) → OneWord p op after
unfolding instruction_at
one_word p op after e =
    let b = bind_ok (bytes_at 4 p) (λ bytes. ok_or (op_of bytes.0) (NoInstruction p.at) >>= λ op. Ok (op, bytes.1)) (op, after) e in
    let o = bind_ok (ok_or (op_of b.0.0) (NoInstruction p.at)) (λ op. Ok (op, b.0.1)) (op, after) b.2 in
    let t = bytes_are 4 p b.0 b.1 in
    let same : (o.0, b.0.1) ≡ (op, after) = ok_is (o.0, b.0.1) (op, after) o.2 in
    record {
      room = t.0;
      word = ap (λ (z : List ℕ × Cursor). op_of z.0) t.1 ∙ ok_or_ok (op_of b.0.0) (NoInstruction p.at) o.0 o.1 ∙ ap (λ (z : Op × Cursor). Some z.0) same;
      rest = ap (λ (z : Op × Cursor). z.1.left) (sym same) ∙ ap (λ (z : List ℕ × Cursor). z.1.left) (sym t.1);
    }

-- `k` instructions were read from these bytes.
pub record WordsRead (k : ℕ) (bytes : List ℕ) (p : Cursor) : Type 0 where
  pub inside : 4 * k ≤ length bytes
  pub left : p.left ≡ drop (4 * k) bytes
  pub good : All IsInstruction (first_chunks 4 k bytes)

pub none_read : (p : Cursor) → WordsRead 0 p.left p
none_read p = record { inside = omega arith; left = refl; good = λ k d lt. absurd (omega (arith, lt)) }

-- One more instruction was read.
pub record OneMore (k : ℕ) (bytes : List ℕ) (op : Op) (after : Cursor) : Type 0 where
  pub read : WordsRead (k + 1) bytes after
  pub ops : ops_in (first_chunks 4 (k + 1) bytes) ≡ ops_in (first_chunks 4 k bytes) ++ op ∷ []

pub one_more : (k : ℕ) (bytes : List ℕ) (p after : Cursor) (op : Op) → WordsRead k bytes p → instruction_at p ≡ Ok (op, after) → OneMore k bytes op after
one_more k bytes p after op so_far e =
    let w = one_word p op after e in
    let before = first_chunks 4 k bytes in
    let next = take 4 (drop (4 * k) bytes) in
    let spelled : op_of next ≡ Some op = ap (λ (l : List ℕ). op_of (take 4 l)) (sym so_far.left) ∙ w.word in
    let is : op_in next ≡ op = ap (λ (o : Option Op). unwrap_or o Ret) spelled in
    let push : first_chunks 4 (k + 1) bytes ≡ before ++ next ∷ [] = first_chunks_more k bytes in
    let same_length : length p.left ≡ length (drop (4 * k) bytes) = ap length so_far.left in
    record {
      read = record {
        inside = omega (arith, w.room, same_length, length-drop (4 * k) bytes, so_far.inside);
        left = w.rest ∙ ap (drop 4) so_far.left ∙ drop-drop 4 (4 * k) bytes ∙ ap (λ (n : ℕ). drop n bytes) (omega arith);
        good = subst (λ (words : List (List ℕ)). All IsInstruction words) (sym push) (All-push IsInstruction before next so_far.good (spelled ∙ ap (λ (o : Op). Some o) (sym is)));
      };
      ops = ap ops_in push ∙ map-append op_in before (next ∷ []) ∙ ap (λ (o : Op). ops_in before ++ o ∷ []) is;
    }

-- The words that were read are the first ones.
pub words_are : (k : ℕ) (bytes : List ℕ) (p : Cursor) (words : List (List ℕ)) → WordsRead k bytes p → words ≡ first_chunks 4 (length bytes / 4) bytes → take k words ≡ first_chunks 4 k bytes
words_are k bytes p words read at = ap (take k) at ∙ take-first_chunks k (length bytes / 4) bytes (omega (arith, read.inside))

pub length-words : (k : ℕ) (bytes : List ℕ) → length (first_chunks 4 k bytes) ≡ k
length-words zero bytes = refl
length-words (suc k) bytes = ap (λ (n : ℕ). suc n) (length-words k (drop 4 bytes))
