-- What a search for a byte finds, and the bytes before it.
use Rattle.std.proofs.Common.{◌≡◌, ℕ, suc, ◌+◌, ◌-◌, ◌<◌, Bool, true, false, List}
use Rattle.std.proofs.Common.{[], ◌∷◌, ◌++◌, length, length-drop, take, drop, Option}
use Rattle.std.proofs.Common.{Some, None, refl, sym, ap, subst, ◌∙◌, arith, append_assoc}
use Rattle.std.specs.Prelude.{◌==◌, not, nat_lt}
use Rattle.std.specs.Option.{option_map, unwrap_or}
use Rattle.std.specs.List.{prefix_len, position}
use Rattle.std.proofs.lemmas.Bool.{not_from_true, not_from_false, false_from_ne_true}
use Rattle.std.proofs.lemmas.Bool.Decides.{nat_tests}
use Rattle.std.proofs.lemmas.List.{take_rest}
use Rattle.std.proofs.lemmas.List.Sums.{prefix_len_is, prefix_len-le-length}
use Rattle.memchr.specs.Find.{IsFirstByte}
use Rattle.ifs_asm.specs.Spellings.{is_plain}
use Rattle.ifs_asm.specs.inner.Words.{Within, Inside, mode_after, word_len, goes_on, onto, text_from}
use Rattle.ifs_asm.proofs.Bytes.{by_prefix}
use Rattle.ifs_asm.proofs.Quotes.{read_plain}

-- ---- searches

abbrev pub others : (ℕ → Bool) → ℕ → Bool
others test x = not (test x)

nowhere_len : (test : ℕ → Bool) (bs : List ℕ) → IsFirstByte test bs None → prefix_len (others test) bs ≡ length bs
nowhere_len test bs h =
    prefix_len_is (others test) bs (length bs) 0 (omega arith) (λ k lt. not_from_false _ (false_from_ne_true _ (h k (omega arith) lt))) (λ lt. absurd (omega (arith, lt)))

found_len : (test : ℕ → Bool) (bs : List ℕ) (k : ℕ) → IsFirstByte test bs (Some k) → (k < length bs) × (prefix_len (others test) bs ≡ k)
found_len test bs k h =
    let first = h.0 in
    (first.high, prefix_len_is (others test) bs k 0 (omega (arith, first.high)) (λ i lt. not_from_false _ (false_from_ne_true _ (first.before i (omega arith) lt))) (λ lt. not_from_true _ h.1))

-- A search finds the first place.
pub found_place : (test : ℕ → Bool) (bs : List ℕ) (r : Option ℕ) → IsFirstByte test bs r → r ≡ position test bs
found_place test bs None h =
    let n = nowhere_len test bs h in
    let not_below : nat_lt (prefix_len (others test) bs) (length bs) ≡ false = grind (arith, nat_tests) in
    rw not_below refl
found_place test bs (Some k) h =
    let f = found_len test bs k h in
    let below : nat_lt (prefix_len (others test) bs) (length bs) ≡ true = grind (arith, nat_tests) in
    rw below (ap Some (sym f.1))

-- The number of bytes before it.
pub found_before : (test : ℕ → Bool) (bs : List ℕ) (r : Option ℕ) → IsFirstByte test bs r → unwrap_or r (length bs) ≡ prefix_len (others test) bs
found_before test bs None h = sym (nowhere_len test bs h)
found_before test bs (Some k) h = sym (found_len test bs k h).1

-- ---- runs of bytes in quotes

goes_parts : (b : ℕ) → goes_on b ≡ true → ((b == 34) ≡ false) × ((b == 92) ≡ false)
goes_parts b e = (grind (arith, nat_tests), grind (arith, nat_tests))

-- Inside quotes a word goes on after a run as it did before it.
skips : (bs : List ℕ) → word_len Inside bs ≡ prefix_len goes_on bs + word_len Inside (drop (prefix_len goes_on bs) bs)
skips bs = by_prefix goes_on (λ n xs. word_len Inside xs ≡ n + word_len Inside (drop n xs)) (omega arith) (λ b xs e. omega arith)
    (λ b n xs e ih.
    let p = goes_parts b e in
    let one_more : 1 + word_len Inside xs ≡ suc n + word_len Inside (drop n xs) = omega (arith, ih) in
    let whole : 1 + word_len (mode_after Inside b) xs ≡ suc n + word_len Inside (drop n xs) = rw (p.0, p.1) one_more in
    whole) bs

-- ---- texts

abbrev before : List ℕ → Option (List ℕ) → Option (List ℕ)
before front o = option_map (λ text. front ++ text) o

before_none : (o : Option (List ℕ)) → o ≡ before [] o
before_none None = refl
before_none (Some text) = refl

before_onto : (b : ℕ) (front : List ℕ) (o : Option (List ℕ)) → onto b (before front o) ≡ before (b ∷ front) o
before_onto b front None = refl
before_onto b front (Some text) = refl

before_both : (first second : List ℕ) (o : Option (List ℕ)) → before (first ++ second) o ≡ before first (before second o)
before_both first second None = refl
before_both first second (Some text) = ap Some (append_assoc first second text)

run_text : (bs : List ℕ) → text_from bs Within ≡ before (take (prefix_len is_plain bs) bs) (text_from (drop (prefix_len is_plain bs) bs) Within)
run_text bs = by_prefix is_plain (λ n xs. text_from xs Within ≡ before (take n xs) (text_from (drop n xs) Within)) refl (λ b xs e. before_none (text_from (b ∷ xs) Within))
    (λ b n xs e ih. read_plain b xs e ∙ ap (onto b) ih ∙ before_onto b (take n xs) (text_from (drop n xs) Within)) bs

-- A run of plain bytes is taken unchanged.
pub takes : (bs front front' rest run : List ℕ) (n : ℕ) → n ≡ prefix_len is_plain bs → run ≡ take n bs → rest ≡ drop n bs → front' ≡ front ++ run
    → option_map (λ text. front' ++ text) (text_from rest Within) ≡ option_map (λ text. front ++ text) (text_from bs Within)
takes bs front front' rest run n len is others pushed =
    let split : text_from bs Within ≡ before (take n bs) (text_from (drop n bs) Within) =
    subst (λ (m : ℕ). text_from bs Within ≡ before (take m bs) (text_from (drop m bs) Within)) (sym len) (run_text bs) in
    ap (λ (f : List ℕ). before f (text_from rest Within)) pushed ∙ before_both front run (text_from rest Within)
    ∙ ap (λ (r : List ℕ). before front (before r (text_from rest Within))) is ∙ ap (λ (r : List ℕ). before front (before (take n bs) (text_from r Within))) others
    ∙ ap (before front) (sym split)

-- After a run inside quotes, the bytes of the word that are left are fewer by that run.
pub skipped : (bytes rest : List ℕ) (n : ℕ) → n ≡ prefix_len goes_on bytes → rest ≡ take (length bytes - n) (drop n bytes)
    → length bytes + word_len Inside rest ≡ length rest + word_len Inside bytes
skipped bytes rest n len back =
    let le = prefix_len-le-length goes_on bytes in
    let is : rest ≡ drop (prefix_len goes_on bytes) bytes = back ∙ take_rest bytes n ∙ ap (λ (m : ℕ). drop m bytes) len in
    let left = length-drop (prefix_len goes_on bytes) bytes in
    rw is (omega (arith, le, left, skips bytes))

-- ---- what follows a run

behind_run : (test : ℕ → Bool) (bs : List ℕ) → prefix_len test (drop (prefix_len test bs) bs) ≡ 0
behind_run test bs = by_prefix test (λ n xs. prefix_len test (drop n xs) ≡ 0) refl (λ b xs e. rw e refl) (λ b n xs e ih. ih) bs

-- A run does not go on after its end.
pub run_ends : (test : ℕ → Bool) (bytes rest : List ℕ) (n : ℕ) → n ≡ prefix_len test bytes → rest ≡ drop n bytes → prefix_len test rest ≡ 0
run_ends test bytes rest n len back = ap (prefix_len test) (back ∙ ap (λ (m : ℕ). drop m bytes) len) ∙ behind_run test bytes
