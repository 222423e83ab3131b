-- A line is split into the words that it has.
use Rattle.std.proofs.Common.{◌≡◌, ℕ, zero, suc, ◌+◌, ◌-◌, ◌<◌, Bool, true, false, cond, List, [], ◌∷◌}
use Rattle.std.proofs.Common.{◌++◌, length, map, take, drop, refl, sym, ap, subst, ◌∙◌, arith, append_assoc}
use Rattle.std.specs.Prelude.{◌==◌, ◌&&◌, not}
use Rattle.std.specs.List.{prefix_len, AllByRecursion, AllZip}
use Rattle.std.proofs.lemmas.Bool.{and_parts, both_ways, ne_eqb, not-true}
use Rattle.std.proofs.lemmas.List.{append-nil, map-append, take_at, drop_at, take-append-drop}
use Rattle.ifs_asm.specs.Texts.{Word}
use Rattle.ifs_asm.specs.Spellings.{is_space_or_tab, IsSpelling, EndsWord, HaveWords}
use Rattle.ifs_asm.specs.inner.Words.{Mode, Bare, Inside, Escaped, mode_after, ends_at, word_len}
use Rattle.ifs_asm.specs.inner.Words.{after_blanks, word_of, after_word, first_then, words_up_to}
use Rattle.ifs_asm.proofs.Bytes.{by_prefix}

-- Bytes spell a word.
abbrev pub Spelled : List ℕ → Word → Type 0
Spelled bytes word = IsSpelling word bytes

-- ---- bytes that are one word, whatever blank follows

abbrev pub is_bare : Mode → Bool
is_bare Bare = true
is_bare Inside = false
is_bare Escaped = false

abbrev pub runs : Mode → List ℕ → Bool
runs mode [] = is_bare mode
runs mode (b ∷ bs) = not (ends_at mode b) && runs (mode_after mode b) bs

ends_here : (mode : Mode) (rest : List ℕ) → is_bare mode ≡ true → EndsWord rest → word_len mode rest ≡ 0
ends_here Bare [] e ends = refl
ends_here Bare (b ∷ bs) e ends = rw ends refl
ends_here Inside rest e ends = absurd cc
ends_here Escaped rest e ends = absurd cc

pub word_len_is : (mode : Mode) (w rest : List ℕ) → runs mode w ≡ true → EndsWord rest → word_len mode (w ++ rest) ≡ length w
word_len_is mode [] rest r ends = ends_here mode rest r ends
word_len_is mode (b ∷ bs) rest r ends =
    let parts = and_parts (not (ends_at mode b)) (runs (mode_after mode b) bs) r in
    let on : ends_at mode b ≡ false = not-true (ends_at mode b) parts.0 in
    let more = word_len_is (mode_after mode b) bs rest parts.1 ends in
    rw on (omega (arith, more))

-- After a word comes nothing or a blank.
ends_case : (mode : Mode) (b : ℕ) (bs : List ℕ) (t : Bool) → ends_at mode b ≡ t → EndsWord (drop (word_len (mode_after mode b) bs) bs) → EndsWord (drop (cond t 0 (1 + word_len (mode_after mode b) bs)) (b ∷ bs))
ends_case Bare b bs true e ih = e
ends_case Inside b bs true e ih = absurd cc
ends_case Escaped b bs true e ih = absurd cc
ends_case mode b bs false e ih =
    let k : 1 + word_len (mode_after mode b) bs ≡ suc (word_len (mode_after mode b) bs) = omega arith in
    subst (λ (n : ℕ). EndsWord (drop n (b ∷ bs))) (sym k) ih

pub ends_behind : (mode : Mode) (bytes : List ℕ) → EndsWord (drop (word_len mode bytes) bytes)
ends_behind mode [] = tt
ends_behind mode (b ∷ bs) = ends_case mode b bs (ends_at mode b) refl (ends_behind (mode_after mode b) bs)

-- ---- blanks

abbrev pub AreBlank : List ℕ → Type 0
AreBlank bytes = AllByRecursion (λ byte. is_space_or_tab byte ≡ true) bytes

after_blank : (b : ℕ) (bs : List ℕ) → is_space_or_tab b ≡ true → after_blanks (b ∷ bs) ≡ after_blanks bs
after_blank b bs e =
    let k : 1 + prefix_len is_space_or_tab bs ≡ suc (prefix_len is_space_or_tab bs) = omega arith in
    rw e (rw k refl)

-- Bytes that do not begin with a blank.
abbrev pub IsTight : List ℕ → Type 0
IsTight [] = Unit {0}
IsTight (b ∷ bs) = is_space_or_tab b ≡ false

tight : (bytes : List ℕ) → IsTight bytes → after_blanks bytes ≡ bytes
tight [] e = refl
tight (b ∷ bs) e = rw e refl

pub after_gap : (gap rest : List ℕ) → AreBlank gap → IsTight rest → after_blanks (gap ++ rest) ≡ rest
after_gap [] rest blank e = tight rest e
after_gap (b ∷ gap) rest blank e = after_blank b (gap ++ rest) blank.0 ∙ after_gap gap rest blank.1 e

gap_is : (bytes : List ℕ) → AreBlank (take (prefix_len is_space_or_tab bytes) bytes)
gap_is bytes = by_prefix is_space_or_tab (λ n bs. AreBlank (take n bs)) tt (λ b bs e. tt) (λ b n bs e ih. (e, ih)) bytes

-- ---- what is cut has these words

found_in : (n : ℕ) → ((words : List Word) (bytes : List ℕ) → length words < n → AllZip Spelled (words_up_to n bytes) words → HaveWords words bytes)
    → (words : List Word) (bytes gap rest : List ℕ) → length words < suc n → AreBlank gap → bytes ≡ gap ++ rest → AllZip Spelled (first_then (words_up_to n) rest) words → HaveWords words bytes
found_in n ih [] bytes gap [] lt blank whole z = subst AreBlank (sym (whole ∙ append-nil gap)) blank
found_in n ih [] bytes gap (b ∷ bs) lt blank whole z = absurd z
found_in n ih (w ∷ ws) bytes gap [] lt blank whole z = absurd z
found_in n ih (w ∷ ws) bytes gap (b ∷ bs) lt blank whole z = record {
  gap = gap;
  first = word_of (b ∷ bs);
  rest = after_word (b ∷ bs);
  blank = blank;
  spelling = z.0;
  ends = ends_behind Bare (b ∷ bs);
  others = ih ws (after_word (b ∷ bs)) (omega (arith, lt)) z.1;
  whole = whole ∙ ap (λ (t : List ℕ). gap ++ t) (sym (take-append-drop (word_len Bare (b ∷ bs)) (b ∷ bs)));
}

pub cut_found : (n : ℕ) (words : List Word) (bytes : List ℕ) → length words < n → AllZip Spelled (words_up_to n bytes) words → HaveWords words bytes
cut_found zero words bytes lt z = absurd (omega arith)
cut_found (suc n) words bytes lt z =
    found_in n (cut_found n) words bytes (take (prefix_len is_space_or_tab bytes) bytes) (after_blanks bytes) lt (gap_is bytes) (sym (take-append-drop (prefix_len is_space_or_tab bytes) bytes)) z

-- ---- what has these words is cut so

-- Bytes are one word, which is not empty.
pub record IsOneWord (bytes : List ℕ) : Type 0 where
  pub runs_on : runs Bare bytes ≡ true
  pub some : 0 < length bytes

starts_tight : (first rest : List ℕ) → IsOneWord first → IsTight (first ++ rest)
starts_tight [] rest o = absurd (omega (arith, o.some))
starts_tight (b ∷ bs) rest o = not-true (is_space_or_tab b) (and_parts (not (is_space_or_tab b)) (runs (mode_after Bare b) bs) o.runs_on).0

first_is : (others : List ℕ → List (List ℕ)) (first rest : List ℕ) → IsOneWord first → EndsWord rest → first_then others (first ++ rest) ≡ first ∷ others rest
first_is others [] rest o ends = absurd (omega (arith, o.some))
first_is others (b ∷ bs) rest o ends =
    let len : word_len Bare ((b ∷ bs) ++ rest) ≡ length (b ∷ bs) = word_len_is Bare (b ∷ bs) rest o.runs_on ends in
    let front : word_of ((b ∷ bs) ++ rest) ≡ b ∷ bs = take_at (b ∷ bs) rest (word_len Bare ((b ∷ bs) ++ rest)) (sym len) in
    let back : after_word ((b ∷ bs) ++ rest) ≡ rest = drop_at (b ∷ bs) rest (word_len Bare ((b ∷ bs) ++ rest)) (sym len) in
    ap (λ (x : List ℕ). x ∷ others (after_word ((b ∷ bs) ++ rest))) front ∙ ap (λ (x : List ℕ). (b ∷ bs) ∷ others x) back

-- Each spelling of a word is one word of a line.
abbrev pub IsSingle : Word → Type 0
IsSingle w = (bytes : List ℕ) → IsSpelling w bytes → IsOneWord bytes

pub cut_again : (n : ℕ) (words : List Word) (bytes : List ℕ) → AllByRecursion IsSingle words → length words < n → HaveWords words bytes → AllZip Spelled (words_up_to n bytes) words
cut_again zero words bytes one lt h = absurd (omega arith)
cut_again (suc n) [] bytes one lt h =
    let e : after_blanks bytes ≡ [] = ap after_blanks (sym (append-nil bytes)) ∙ after_gap bytes [] h tt in
    rw e tt
cut_again (suc n) (w ∷ ws) bytes one lt h =
    let o = one.0 h.first h.spelling in
    let e : after_blanks bytes ≡ h.first ++ h.rest = ap after_blanks h.whole ∙ after_gap h.gap (h.first ++ h.rest) h.blank (starts_tight h.first h.rest o) in
    let cut : words_up_to (suc n) bytes ≡ h.first ∷ words_up_to n h.rest = ap (first_then (words_up_to n)) e ∙ first_is (words_up_to n) h.first h.rest o h.ends in
    subst (λ (found : List (List ℕ)). AllZip Spelled found (w ∷ ws)) (sym cut) (h.spelling, cut_again n ws h.rest one.1 (omega (arith, lt)) h.others)

first_cut : (others : List ℕ → List (List ℕ)) (rest : List ℕ) → (rest ≡ [] → ⊥) → first_then others rest ≡ word_of rest ∷ others (after_word rest)
first_cut others [] some = absurd (some refl)
first_cut others (b ∷ bs) some = refl

-- One more word is split off.
pub one_more_word : {X : Type 0} (view : X → List ℕ) (n : ℕ) (items items' : List X) (x : X) (left rest others : List ℕ) (total : List (List ℕ)) → n < 9 → rest ≡ after_blanks left → (rest ≡ [] → ⊥) → view x ≡ word_of rest → others ≡ after_word rest
    → items' ≡ items ++ x ∷ [] → map view items ++ words_up_to (9 - n) left ≡ total → map view items' ++ words_up_to (9 - (n + 1)) others ≡ total
one_more_word {X = X} view n items items' x left rest others total lt at some word back pushed so_far =
    let k : 9 - n ≡ suc (9 - (n + 1)) = omega arith in
    let cut : words_up_to (9 - n) left ≡ view x ∷ words_up_to (9 - (n + 1)) others = rw k (ap (first_then (words_up_to (9 - (n + 1)))) (sym at) ∙ first_cut (words_up_to (9 - (n + 1))) rest some ∙ ap (λ (w : List ℕ). w ∷ words_up_to (9 - (n + 1)) (after_word rest)) (sym word) ∙ ap (λ (t : List ℕ). view x ∷ words_up_to (9 - (n + 1)) t) (sym back)) in
    ap (λ (xs : List X). map view xs ++ words_up_to (9 - (n + 1)) others) pushed ∙ ap (λ (ws : List (List ℕ)). ws ++ words_up_to (9 - (n + 1)) others) (map-append view items (x ∷ []))
    ∙ append_assoc (map view items) (view x ∷ []) (words_up_to (9 - (n + 1)) others) ∙ ap (λ (ws : List (List ℕ)). map view items ++ ws) (sym cut) ∙ so_far

pub some_bytes : (r : Bool) (bytes : List ℕ) → r ≡ (length bytes == 0) → r ≡ false → bytes ≡ [] → ⊥
some_bytes r bytes is none e = both_ways r none (is ∙ ap (λ (b : List ℕ). length b == 0) e)

pub no_bytes : (r : Bool) (bytes : List ℕ) → r ≡ (length bytes == 0) → r ≡ true → bytes ≡ []
no_bytes r [] is e = refl
no_bytes r (b ∷ bs) is e =
    let some : (length (b ∷ bs) == 0) ≡ false = ne_eqb (length (b ∷ bs)) 0 (λ h. omega (arith, h)) in
    absurd (both_ways r (is ∙ some) e)
