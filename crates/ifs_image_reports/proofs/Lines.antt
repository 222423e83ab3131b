-- Newlines before the places of a text, and lines.
use Rattle.std.proofs.Common.{ℕ, zero, suc, ◌+◌, ◌-◌, ◌≤◌, ◌<◌, ◌==◌, Bool, true, false, not, cond, List, [], ◌∷◌, ◌++◌, ◌≡◌}
use Rattle.std.proofs.Common.{length, take, drop, refl, sym, ap, subst, ◌∙◌, arith}
use Rattle.std.specs.List.{count_by, prefix_len}
use Rattle.std.proofs.lemmas.List.{length-drop, take_all}
use Rattle.std.proofs.lemmas.List.Sums.{prefix_len-le-length, sum_by-append, sum_by-cons, sum_by-take-le}
use Rattle.std.proofs.Math.Seq.{take-add}
use Rattle.ifs_image_reports.specs.Places.{HasLine, LiesOn, last_line, line_at}
use Rattle.ifs_image_reports.specs.inner.Lines.{IsLine}

-- How much a byte adds to the number of newlines.
abbrev weight : ℕ → ℕ
weight byte = cond (byte == 10) 1 0

-- The number of newlines.
abbrev newlines : List ℕ → ℕ
newlines bytes = count_by (λ byte. byte == 10) bytes

-- The number of bytes before the first newline.
abbrev line_len : List ℕ → ℕ
line_len bytes = prefix_len (λ byte. not (byte == 10)) bytes

-- The bytes before the first newline have none.
none_before : (bytes : List ℕ) (n : ℕ) → n ≤ line_len bytes → newlines (take n bytes) ≡ 0
none_before bytes zero le = refl
none_before [] (suc n) le = refl
none_before (byte ∷ bytes) (suc n) le = sum_by-cons weight byte (take n bytes) ∙ by (byte == 10) le (none_before bytes n)
  where
    by : (b : Bool) → suc n ≤ cond (not b) (1 + line_len bytes) 0 → (n ≤ line_len bytes → newlines (take n bytes) ≡ 0) → cond b 1 0 + newlines (take n bytes) ≡ 0
    by true le rest = absurd (omega arith)
    by false le rest = let none : newlines (take n bytes) ≡ 0 = rest (omega arith) in omega arith

-- No place of a text comes after its last line.
pub not_after_last : (text : List ℕ) (place : ℕ) → line_at text place ≤ last_line text
not_after_last text place =
    let all : newlines (take (length text) text) ≡ newlines text = ap newlines (take_all (length text) text (omega arith)) in
    omega (arith, sum_by-take-le weight text place)

-- A place that follows another one without a newline between them is on the same line.
same_line : (text : List ℕ) (start n : ℕ) → n ≤ line_len (drop start text) → line_at text (start + n) ≡ line_at text start
same_line text start n le =
    let joined : newlines (take (start + n) text) ≡ newlines (take start text) + newlines (take n (drop start text))
    = ap newlines (take-add start n text) ∙ sum_by-append weight (take start text) (take n (drop start text)) in
    let none : newlines (take n (drop start text)) ≡ 0 = none_before (drop start text) n le in
    omega arith

-- The bytes from the beginning of a line to the next newline are that line.
pub is_line : (text rest : List ℕ) (line start end : ℕ) → start ≤ length text → (HasLine text line → line_at text start ≡ line)
    → (last_line text < line → start ≡ length text) → rest ≡ drop start text → end ≡ start + line_len rest → IsLine text line start end
is_line text rest line start end within begins after rest_is end_is =
    let short : line_len (drop start text) ≤ length (drop start text) = prefix_len-le-length (λ byte. not (byte == 10)) (drop start text) in
    let left : length (drop start text) ≡ length text - start = length-drop start text in
    let ends : end ≡ start + line_len (drop start text) = end_is ∙ ap (λ bytes. start + line_len bytes) rest_is in
    record {
      forward = omega arith;
      inside = omega arith;
      each = λ has place ge le.
          let at : start + (place - start) ≡ place = omega arith in
          subst (λ p. line_at text p ≡ line) at (same_line text start (place - start) (omega arith) ∙ begins has);
      after_last = after;
    }

-- A part of a line lies on it.
pub lies_on : (text : List ℕ) (line start end from to : ℕ) → IsLine text line start end → start ≤ from → from ≤ to → to ≤ end → LiesOn text line from to
lies_on text line start end from to l begins forward ends = record {
  forward = forward;
  inside = omega arith;
  begins = λ has. l.each has from begins (omega arith);
  ends = λ has. l.each has to (omega arith) ends;
  after_last = λ past. let last : start ≡ length text = l.after_last past in omega arith;
}
