-- Searches for a byte find what the functions on bytes say.
use Rattle.std.proofs.Common.{Option, Some, None, option_map, cond, ◌≡◌, ℕ, zero, suc, [], ◌∷◌, ◌+◌, ◌-◌, ◌<◌, ◌≤◌, Bool, true, false, List, length, drop}
use Rattle.std.proofs.Common.{get_or, get_or-drop, length-drop, refl, sym, ◌∙◌, ap, subst, arith, ◌⊎◌, inl, inr}
use Rattle.std.proofs.lemmas.Bool.{cases_lt, eq-eqb, eqb-true}
use Rattle.std.proofs.lemmas.Bool.Decides.{nat_tests}
use Rattle.memchr.specs.Find.{Nowhere, NoneBefore, Passes, is_byte, is_byte2}
use Rattle.ifs_lex.specs.Lexemes.{inside_len, is_dropped}
use Rattle.ifs_lex.specs.inner.Pieces.{kept_len}
use Rattle.ifs_lex.specs.Spelling.{after_backslash}
use Rattle.ifs_lex.proofs.Spelt.{closes, closed, true_false}

-- Each such byte before a place is after a backslash.
abbrev pub Passed : ℕ → List ℕ → ℕ → Type 0
Passed quote bytes place = (k : ℕ) → k < place → get_or bytes k 0 ≡ quote → after_backslash false bytes k ≡ true

-- A search finds the first such byte of what is left.
abbrev Finds : ℕ → List ℕ → ℕ → Type 0
Finds quote left ahead = NoneBefore (Passes (is_byte quote) left) 0 (length left) ahead × Passes (is_byte quote) left ahead

-- No such byte is between two places.
abbrev Absent : ℕ → List ℕ → ℕ → ℕ → Type 0
Absent quote bytes from ahead = Nowhere (Passes (is_byte quote) (drop from bytes)) 0 ahead

passed_case : (q : ℕ) (bs : List ℕ) (from ahead k : ℕ) → Passed q bs from → Absent q bs from ahead → k < from + ahead → get_or bs k 0 ≡ q → (k < from) ⊎ (from ≤ k) → after_backslash false bs k ≡ true
passed_case q bs from ahead k p none l same (inl m) = p k m same
passed_case q bs from ahead k p none l same (inr m) =
    let e : from + (k - from) ≡ k = omega arith in
    let here = get_or-drop from bs (k - from) 0 ∙ ap (λ i. get_or bs i 0) e ∙ same in
    absurd (none (k - from) (omega arith) (omega arith) (eq-eqb _ q here))

pub passed : (q : ℕ) (bs : List ℕ) (from ahead : ℕ) → Passed q bs from → Absent q bs from ahead → Passed q bs (from + ahead)
passed q bs from ahead p none k l same = passed_case q bs from ahead k p none l same (cases_lt k from)

pub found : (q : ℕ) (bs left : List ℕ) (from ahead : ℕ) → left ≡ drop from bs → from ≤ length bs → Passed q bs from → Finds q left ahead → after_backslash false bs (from + ahead) ≡ false → inside_len q false bs ≡ Some (from + ahead)
found q bs left from ahead same w p h free =
    let f = subst (λ (xs : List ℕ). Finds q xs ahead) same h in
    let len = length-drop from bs in
    closed q false bs (from + ahead) (record {
      within = omega (arith, f.0.high);
      closes = sym (get_or-drop from bs ahead 0) ∙ eqb-true _ q f.1;
      free = free;
      first = passed q bs from ahead p f.0.before;
    })

passed_next : (q : ℕ) (bs : List ℕ) (place k : ℕ) → Passed q bs place → after_backslash false bs place ≡ true → get_or bs k 0 ≡ q → (k < place) ⊎ (place ≤ k) → k < place + 1 → after_backslash false bs k ≡ true
passed_next q bs place k p here same (inl m) l = p k m same
passed_next q bs place k p here same (inr m) l =
    let e : place ≡ k = omega arith in
    subst (λ (i : ℕ). after_backslash false bs i ≡ true) e here

-- The search goes on after a byte that is after a backslash.
pub passed_found : (q : ℕ) (bs left : List ℕ) (from ahead : ℕ) → left ≡ drop from bs → from ≤ length bs → Passed q bs from → Finds q left ahead → after_backslash false bs (from + ahead) ≡ true → (from + ahead + 1 ≤ length bs) × Passed q bs (from + ahead + 1)
passed_found q bs left from ahead same w p h here =
    let f = subst (λ (xs : List ℕ). Finds q xs ahead) same h in
    let len = length-drop from bs in
    (omega (arith, f.0.high), λ k l same. passed_next q bs (from + ahead) k (passed q bs from ahead p f.0.before) here same (cases_lt k (from + ahead)) l)

none_case : (q : ℕ) (bs : List ℕ) → Passed q bs (length bs) → (o : Option ℕ) → inside_len q false bs ≡ o → o ≡ None
none_case q bs p None e = refl
none_case q bs p (Some k) e =
    let c = closes q false bs k e in absurd (true_false _ _ (p k c.within c.closes) c.free refl)

-- No byte closes if the search finds no more.
pub not_found : (q : ℕ) (bs left : List ℕ) (from : ℕ) → left ≡ drop from bs → from ≤ length bs → Passed q bs from → Nowhere (Passes (is_byte q) left) 0 (length left) → inside_len q false bs ≡ None
not_found q bs left from same w p h =
    let none = subst (λ (xs : List ℕ). Nowhere (Passes (is_byte q) xs) 0 (length xs)) same h in
    let len = length-drop from bs in
    let e : from + length (drop from bs) ≡ length bs = omega arith in
    none_case q bs (subst (Passed q bs) e (passed q bs from (length (drop from bs)) p none)) _ refl

-- Each byte before a place is part of the value.
abbrev pub KeptTo : ℕ → List ℕ → ℕ → Type 0
KeptTo quote bytes place = (k : ℕ) → k < place → is_dropped quote (get_or bytes k 0) (drop (k + 1) bytes) ≡ false

later_kept : (q b : ℕ) (rest : List ℕ) (n : ℕ) → KeptTo q (b ∷ rest) (suc n) → KeptTo q rest n
later_kept q b rest n h k l =
    let e : suc k + 1 ≡ suc (k + 1) = omega arith in
    subst (λ (i : ℕ). is_dropped q (get_or rest k 0) (drop i (b ∷ rest)) ≡ false) e (h (suc k) (omega arith))

kept_later : (q b : ℕ) (rest : List ℕ) (o n : Option ℕ) → is_dropped q b rest ≡ false → kept_len q rest ≡ o → option_map (λ i. 1 + i) o ≡ n → kept_len q (b ∷ rest) ≡ n
kept_later q b rest o n h e f =
    ap (λ t. cond t (Some 0) (option_map (λ i. 1 + i) (kept_len q rest))) h ∙ ap (option_map (λ i. 1 + i)) e ∙ f

pub dropped_at : (q : ℕ) (bs : List ℕ) (n : ℕ) → n < length bs → KeptTo q bs n → is_dropped q (get_or bs n 0) (drop (n + 1) bs) ≡ true → kept_len q bs ≡ Some n
dropped_at q [] n l h d = absurd (omega arith)
dropped_at q (b ∷ rest) zero l h d =
    ap (λ t. cond t (Some 0) (option_map (λ i. 1 + i) (kept_len q rest))) d
dropped_at q (b ∷ rest) (suc k) l h d =
    let e : suc k + 1 ≡ suc (k + 1) = omega arith in
    let here = subst (λ (i : ℕ). is_dropped q (get_or rest k 0) (drop i (b ∷ rest)) ≡ true) e d in
    let one : 1 + k ≡ suc k = omega arith in
    kept_later q b rest (Some k) (Some (suc k)) (h 0 (omega arith)) (dropped_at q rest k (omega arith) (later_kept q b rest k h) here) (ap (λ i. Some i) one)

pub all_kept : (q : ℕ) (bs : List ℕ) → KeptTo q bs (length bs) → kept_len q bs ≡ None
all_kept q [] h = refl
all_kept q (b ∷ rest) h =
    kept_later q b rest None None (h 0 (omega arith)) (all_kept q rest (later_kept q b rest (length rest) h)) refl

-- A byte that is neither a newline nor a backslash is part of the value.
other_kept : (q b : ℕ) (rest : List ℕ) → (is_byte2 10 92 b ≡ true → ⊥) → is_dropped q b rest ≡ false
unfolding is_dropped
other_kept q b rest h = grind (arith, nat_tests)

kept_case : (q : ℕ) (bs : List ℕ) (from ahead k : ℕ) → KeptTo q bs from → Nowhere (Passes (is_byte2 10 92) (drop from bs)) 0 ahead → k < from + ahead → (k < from) ⊎ (from ≤ k) → is_dropped q (get_or bs k 0) (drop (k + 1) bs) ≡ false
kept_case q bs from ahead k h none l (inl m) = h k m
kept_case q bs from ahead k h none l (inr m) =
    let e : from + (k - from) ≡ k = omega arith in
    let here = get_or-drop from bs (k - from) 0 ∙ ap (λ i. get_or bs i 0) e in
    other_kept q (get_or bs k 0) _ (λ is. none (k - from) (omega arith) (omega arith) (ap (is_byte2 10 92) here ∙ is))

pub kept_to : (q : ℕ) (bs left : List ℕ) (from ahead : ℕ) → left ≡ drop from bs → KeptTo q bs from → Nowhere (Passes (is_byte2 10 92) left) 0 ahead → KeptTo q bs (from + ahead)
kept_to q bs left from ahead same h none k l =
    let here = subst (λ (xs : List ℕ). Nowhere (Passes (is_byte2 10 92) xs) 0 ahead) same none in
    kept_case q bs from ahead k h here l (cases_lt k from)

kept_next : (q : ℕ) (bs : List ℕ) (place k : ℕ) → KeptTo q bs place → is_dropped q (get_or bs place 0) (drop (place + 1) bs) ≡ false → k < place + 1 → (k < place) ⊎ (place ≤ k) → is_dropped q (get_or bs k 0) (drop (k + 1) bs) ≡ false
kept_next q bs place k h here l (inl m) = h k m
kept_next q bs place k h here l (inr m) =
    let e : place ≡ k = omega arith in
    subst (λ (i : ℕ). is_dropped q (get_or bs i 0) (drop (i + 1) bs) ≡ false) e here

pub kept_found : (q : ℕ) (bs : List ℕ) (place : ℕ) → KeptTo q bs place → is_dropped q (get_or bs place 0) (drop (place + 1) bs) ≡ false → KeptTo q bs (place + 1)
kept_found q bs place h here k l = kept_next q bs place k h here l (cases_lt k place)

pub place_within : (bs left : List ℕ) (from ahead : ℕ) → left ≡ drop from bs → from ≤ length bs → ahead < length left → from + ahead < length bs
place_within bs left from ahead same w l =
    let len = ap length same ∙ length-drop from bs in omega arith

-- A test of the bytes after a place.
pub asked : (q b : ℕ) (xs ys : List ℕ) (t s : Bool) → xs ≡ ys → t ≡ is_dropped q b xs → t ≡ s → is_dropped q b ys ≡ s
asked q b xs ys t s same e f = sym (ap (is_dropped q b) same) ∙ sym e ∙ f

pub kept_whole_to : (q : ℕ) (bs left : List ℕ) (from : ℕ) → left ≡ drop from bs → from ≤ length bs → KeptTo q bs from → Nowhere (Passes (is_byte2 10 92) left) 0 (length left) → kept_len q bs ≡ None
kept_whole_to q bs left from same w h none =
    let len = ap length same ∙ length-drop from bs in
    let e : from + length left ≡ length bs = omega arith in
    all_kept q bs (subst (KeptTo q bs) e (kept_to q bs left from (length left) same h none))
