-- The lines of a text: which line bytes say, and that the canonical text says the lines of its image.
use Rattle.std.proofs.Common.{◌≡◌, ℕ, ◌^◌, ◌/◌, ◌%◌, ◌<◌, Bool, true, false, List, [], ◌∷◌, ◌++◌, length}
use Rattle.std.proofs.Common.{map, Some, refl, sym, ap, subst, ◌∙◌, arith, codes, append_assoc, inl}
use Rattle.std.specs.Prelude.{◌==◌, ◌&&◌, ◌||◌, not, nat_lt, filter}
use Rattle.std.specs.List.{flat_map, slice_split, AllByRecursion, AllZip}
use Rattle.std.proofs.lemmas.Bool.{and_parts, ltb-true, not-true}
use Rattle.std.proofs.lemmas.Bool.Decides.{nat_tests}
use Rattle.std.proofs.lemmas.List.Elements.{All-from_recursion}
use Rattle.std.proofs.lemmas.List.Splits.{slice_split_at}
use Rattle.ifs_base.specs.Words.{hex_digit}
use Rattle.ifs_base.specs.declared.op.LinkState.TheVariants.{Unknown, Down, Up}
use Rattle.ifs_base.specs.declared.op.Op.{Op}
use Rattle.ifs_base.specs.declared.op.Op.TheVariants.{Ret, Yes, No, Link, Test, Known, Negate, Both}
use Rattle.ifs_base.specs.declared.op.Op.TheVariants.{Either, PushCommand, PushState, Queue, Want}
use Rattle.ifs_base.specs.declared.op.Op.TheVariants.{Jump, JumpFalse, JumpTrue, Call, Pop, Dup}
use Rattle.ifs_base.specs.declared.op.Kind.{Kind}
use Rattle.ifs_asm.specs.declared.line.Version.TheVariants.{One, Two}
use Rattle.ifs_asm.specs.declared.line.Head.TheVariants.{Plain, Signature}
use Rattle.ifs_asm.specs.declared.line.Line.{Line}
use Rattle.ifs_asm.specs.declared.line.Line.TheVariants as lines
use Rattle.ifs_asm.specs.Texts.{Word, Key, Number, Quoted, Tests, written, kinds_word}
use Rattle.ifs_asm.specs.Texts.{words_of, op_words, tests_of, spaced, line_text}
use Rattle.ifs_asm.specs.Spellings.{is_space_or_tab, is_plain, is_silent, StandsForByte, itself, escaped}
use Rattle.ifs_asm.specs.Spellings.{hexadecimal, StandFor, IsSpelling, EndsWord, HaveWords, SaysLine, spoken}
use Rattle.ifs_asm.specs.inner.Words.{Bare, words_up_to}
use Rattle.ifs_asm.specs.inner.Building.{line_in}
use Rattle.ifs_base.proofs.Decimals.{IsDigit, number_digits, number_decimal}
use Rattle.ifs_asm.proofs.Bytes.{digit_is_not, each_append, each_weaker}
use Rattle.ifs_asm.proofs.Cutting.{runs, IsOneWord, IsSingle, cut_found, cut_again}
use Rattle.ifs_asm.proofs.Quotes.{quoted_single, quoted_is}
use Rattle.ifs_asm.proofs.MaskLists.{number_single, list_each, list_single, list_written}
use Rattle.ifs_asm.specs.Refused.{LineFits}
use Rattle.ifs_asm.proofs.KindLists.{kinds_run, kinds_some, kinds_in_line}
use Rattle.ifs_asm.proofs.FormLaws.{line_again}
use Rattle.ifs_asm.proofs.FormFound.{line_found}

-- ---- the words of lines, as the table has them

abbrev no_newlines : List ℕ → Bool
no_newlines [] = true
no_newlines (b ∷ bs) = not (b == 10) && no_newlines bs

abbrev good_key : List ℕ → Bool
good_key k = runs Bare k && (nat_lt 0 (length k) && no_newlines k)

abbrev good_word : Word → Bool
good_word (Key k) = good_key k
good_word (Number n) = true
good_word (Quoted text) = true
good_word (Tests mask) = true

abbrev all_good : List Word → Bool
all_good [] = true
all_good (w ∷ ws) = good_word w && all_good ws

-- The first word is fixed, and begins no comment.
abbrev good_start : List Word → Bool
good_start [] = false
good_start (Key [] ∷ ws) = false
good_start (Key (b ∷ k) ∷ ws) = not (is_space_or_tab b) && not (b == 59)
good_start (Number n ∷ ws) = false
good_start (Quoted text ∷ ws) = false
good_start (Tests mask ∷ ws) = false

abbrev good_words : List Word → Bool
good_words ws = nat_lt (length ws) 9 && (good_start ws && all_good ws)

op_good : (op : Op) → good_words (op_words op) ≡ true
op_good Ret = refl
op_good Yes = refl
op_good No = refl
op_good (Link n Unknown) = refl
op_good (Link n Down) = refl
op_good (Link n Up) = refl
op_good (Test n) = refl
op_good (Known n) = refl
op_good Negate = refl
op_good Both = refl
op_good Either = refl
op_good (PushCommand n) = refl
op_good (PushState n) = refl
op_good Queue = refl
op_good Want = refl
op_good (Jump n) = refl
op_good (JumpFalse n) = refl
op_good (JumpTrue n) = refl
op_good (Call n) = refl
op_good Pop = refl
op_good Dup = refl

no_newline : (bytes : List ℕ) → AllByRecursion (λ byte. (byte == 10) ≡ false) bytes → no_newlines bytes ≡ true
no_newline [] a = refl
no_newline (b ∷ bs) a = rw a.0 (no_newline bs a.1)

kinds_good : (kinds : List Kind) → good_key (kinds_word kinds) ≡ true
kinds_good kinds = rw (kinds_run kinds, kinds_some kinds, no_newline (kinds_word kinds) (kinds_in_line kinds)) refl

table_good : (line : Line) → good_words (words_of line) ≡ true
table_good (lines.Version One) = refl
table_good (lines.Version Two) = refl
table_good (lines.Stack n) = refl
table_good (lines.Frames n) = refl
table_good (lines.Cost n) = refl
table_good (lines.Commands n) = refl
table_good (lines.Start n) = refl
table_good (lines.Always h) = refl
table_good (lines.Interface name) = refl
table_good (lines.Test t) = refl
table_good (lines.Command text) = refl
table_good (lines.State s) = refl
table_good (lines.Routine (Plain truth)) = refl
table_good (lines.Routine (Signature params results)) = rw (kinds_good params.items, kinds_good results.items) refl
table_good (lines.Instruction op) = op_good op

-- A line has few words, its first word is fixed, and each word is good.
record IsGood (line : Line) : Type 0 where
  few : length (words_of line) < 9
  start : good_start (words_of line) ≡ true
  words : all_good (words_of line) ≡ true

good : (line : Line) → IsGood line
good line =
    let p = and_parts (nat_lt (length (words_of line)) 9) (good_start (words_of line) && all_good (words_of line)) (table_good line) in
    let q = and_parts (good_start (words_of line)) (all_good (words_of line)) p.1 in
    record { few = ltb-true (length (words_of line)) 9 p.0; start = q.0; words = q.1 }

-- ---- each word is one word

single : (w : Word) → good_word w ≡ true → IsSingle w
single (Key k) good bytes s =
    let p = and_parts (runs Bare k) (nat_lt 0 (length k) && no_newlines k) good in
    let q = and_parts (nat_lt 0 (length k)) (no_newlines k) p.1 in
    subst IsOneWord (sym s) (record { runs_on = p.0; some = ltb-true 0 (length k) q.0 })
single (Number n) good bytes s = number_single bytes n s
single (Quoted text) good bytes s = quoted_single text bytes s
single (Tests mask) good bytes s = list_single bytes (tests_of mask) s.parts s.each s.whole

singles : (ws : List Word) → all_good ws ≡ true → AllByRecursion IsSingle ws
singles [] good = tt
singles (w ∷ ws) good =
    let p = and_parts (good_word w) (all_good ws) good in
    (single w p.0, singles ws p.1)

-- ---- which line bytes say

pub line_in_found : (bytes : List ℕ) (line : Line) → line_in bytes ≡ Some line → SaysLine bytes line × LineFits line
unfolding line_in
line_in_found bytes line h =
    let f = line_found (words_up_to 9 bytes) line h in
    (cut_found 9 (words_of line) bytes (good line).few f.0, f.1)

pub line_in_again : (bytes : List ℕ) (line : Line) → SaysLine bytes line → LineFits line → line_in bytes ≡ Some line
unfolding line_in
line_in_again bytes line says fits =
    line_again line (words_up_to 9 bytes) fits (cut_again 9 (words_of line) bytes (singles (words_of line) (good line).words) (good line).few says)

-- ---- words as they are written

abbrev pub WordFits : Word → Type 0
WordFits (Key k) = Unit {0}
WordFits (Number n) = n < 2 ^ 64
WordFits (Quoted text) = AllByRecursion (λ byte. 0 < byte) text
WordFits (Tests mask) = Unit {0}

written_is : (w : Word) → WordFits w → IsSpelling w (written w)
written_is (Key k) fits = refl
written_is (Number n) fits = number_decimal n fits
written_is (Quoted text) fits = quoted_is text fits
written_is (Tests mask) fits = list_written mask

abbrev tail_text : List (List ℕ) → List ℕ
tail_text texts = flat_map (λ other. codes " " ++ other) texts

tail_ends : (texts : List (List ℕ)) → EndsWord (tail_text texts)
tail_ends [] = tt
tail_ends (text ∷ texts) = refl

first_says : (gap : List ℕ) (w : Word) (ws : List Word) → AllByRecursion (λ byte. is_space_or_tab byte ≡ true) gap → WordFits w → HaveWords ws (tail_text (map written ws))
    → HaveWords (w ∷ ws) (gap ++ (written w ++ tail_text (map written ws)))
first_says gap w ws blank fits others = record {
  gap = gap;
  first = written w;
  rest = tail_text (map written ws);
  blank = blank;
  spelling = written_is w fits;
  ends = tail_ends (map written ws);
  others = others;
  whole = refl;
}

tail_says : (ws : List Word) → AllByRecursion WordFits ws → HaveWords ws (tail_text (map written ws))
tail_says [] fits = tt
tail_says (w ∷ ws) fits = first_says (codes " ") w ws (refl, tt) fits.0 (tail_says ws fits.1)

spaced_says : (ws : List Word) → AllByRecursion WordFits ws → HaveWords ws (spaced (map written ws))
spaced_says [] fits = tt
spaced_says (w ∷ ws) fits = first_says [] w ws tt fits.0 (tail_says ws fits.1)

-- ---- they have no newline

abbrev IsNoNewline : ℕ → Type 0
IsNoNewline byte = (byte == 10) ≡ false

key_lines : (k : List ℕ) → no_newlines k ≡ true → AllByRecursion IsNoNewline k
key_lines [] good = tt
key_lines (b ∷ bs) good =
    let p = and_parts (not (b == 10)) (no_newlines bs) good in
    (not-true (b == 10) p.0, key_lines bs p.1)

digit_lines : (b : ℕ) → IsDigit b → IsNoNewline b
digit_lines b d = digit_is_not b 10 d (inl (omega arith))

plain_lines : (b : ℕ) → is_plain b ≡ true → IsNoNewline b
plain_lines b e = grind (arith, nat_tests)

quote_lines : (b : ℕ) → ((b == 34) || (b == 92)) ≡ true → IsNoNewline b
quote_lines b e = grind (arith, nat_tests)

hex_lines : (d : ℕ) → d < 16 → IsNoNewline (hex_digit d)
hex_lines d h = grind (arith, nat_tests)

byte_lines : (b : ℕ) (front : List ℕ) → StandsForByte b front → AllByRecursion IsNoNewline front
byte_lines b front (itself e whole) = subst (AllByRecursion IsNoNewline) (sym whole) (plain_lines b e, tt)
byte_lines b front (escaped e whole) = subst (AllByRecursion IsNoNewline) (sym whole) (refl, (quote_lines b e, tt))
byte_lines b front (hexadecimal some below whole) =
    subst (AllByRecursion IsNoNewline) (sym whole) (refl, (refl, (hex_lines (b / 16) (omega arith), (hex_lines (b % 16) (omega arith), tt))))

inside_lines : (text inside : List ℕ) → StandFor text inside → AllByRecursion IsNoNewline inside
inside_lines [] inside s = subst (AllByRecursion IsNoNewline) (sym s) tt
inside_lines (b ∷ text) inside s = subst (AllByRecursion IsNoNewline) (sym s.whole) (each_append IsNoNewline s.front s.rest (byte_lines b s.front s.stands) (inside_lines text s.rest s.others))

word_lines : (w : Word) (bytes : List ℕ) → good_word w ≡ true → IsSpelling w bytes → AllByRecursion IsNoNewline bytes
word_lines (Key k) bytes good s =
    let p = and_parts (runs Bare k) (nat_lt 0 (length k) && no_newlines k) good in
    let q = and_parts (nat_lt 0 (length k)) (no_newlines k) p.1 in
    subst (AllByRecursion IsNoNewline) (sym s) (key_lines k q.1)
word_lines (Number n) bytes good s = each_weaker IsDigit IsNoNewline digit_lines bytes (number_digits bytes n s)
word_lines (Quoted text) bytes good s = subst (AllByRecursion IsNoNewline) (sym s.whole) (refl, each_append IsNoNewline s.inside (codes "\"") (inside_lines text s.inside s.stand) (refl, tt))
word_lines (Tests mask) bytes good s = subst (AllByRecursion IsNoNewline) (sym s.whole) (list_each IsNoNewline s.parts (tests_of mask) digit_lines refl refl s.each)

tail_lines : (ws : List Word) → all_good ws ≡ true → AllByRecursion WordFits ws → AllByRecursion IsNoNewline (tail_text (map written ws))
tail_lines [] good fits = tt
tail_lines (w ∷ ws) good fits =
    let p = and_parts (good_word w) (all_good ws) good in
    (refl, each_append IsNoNewline (written w) (tail_text (map written ws)) (word_lines w (written w) p.0 (written_is w fits.0)) (tail_lines ws p.1 fits.1))

spaced_lines : (ws : List Word) → all_good ws ≡ true → AllByRecursion WordFits ws → AllByRecursion IsNoNewline (spaced (map written ws))
spaced_lines [] good fits = tt
spaced_lines (w ∷ ws) good fits =
    let p = and_parts (good_word w) (all_good ws) good in
    each_append IsNoNewline (written w) (tail_text (map written ws)) (word_lines w (written w) p.0 (written_is w fits.0)) (tail_lines ws p.1 fits.1)

-- ---- they are not silent

start_speaks : (ws : List Word) → good_start ws ≡ true → is_silent (spaced (map written ws)) ≡ false
start_speaks [] good = absurd cc
start_speaks (Key [] ∷ ws) good = absurd cc
start_speaks (Key (b ∷ k) ∷ ws) good =
    let p = and_parts (not (is_space_or_tab b)) (not (b == 59)) good in
    let blank = not-true (is_space_or_tab b) p.0 in
    let comment = not-true (b == 59) p.1 in
    rw (blank, comment) refl
start_speaks (Number n ∷ ws) good = absurd cc
start_speaks (Quoted text ∷ ws) good = absurd cc
start_speaks (Tests mask ∷ ws) good = absurd cc

-- ---- the lines of a text that was written

-- A line without its newline.
abbrev pub bare : Line → List ℕ
bare line = spaced (map written (words_of line))

abbrev pub LineWritten : Line → Type 0
LineWritten line = AllByRecursion WordFits (words_of line)

spoken_line : (line : Line) (rest : List ℕ) → LineWritten line → spoken (line_text line ++ rest) ≡ bare line ∷ spoken rest
unfolding spoken
spoken_line line rest fits =
    let clean = All-from_recursion IsNoNewline (bare line) (spaced_lines (words_of line) (good line).words fits) in
    let cut = slice_split_at (λ byte. byte == 10) (bare line) 10 rest clean refl in
    let speaks = start_speaks (words_of line) (good line).start in
    ap (λ (t : List ℕ). filter (λ bytes. not (is_silent bytes)) (slice_split (λ byte. byte == 10) t)) (append_assoc (bare line) (codes "\n") rest)
    ∙ ap (filter (λ bytes. not (is_silent bytes))) cut ∙ rw speaks refl

spoken_none : spoken [] ≡ []
unfolding spoken
spoken_none = refl

pub spoken_lines : (ls : List Line) → AllByRecursion LineWritten ls → spoken (flat_map line_text ls) ≡ map bare ls
spoken_lines [] fits = spoken_none
spoken_lines (l ∷ ls) fits = spoken_line l (flat_map line_text ls) fits.0 ∙ ap (λ (t : List (List ℕ)). bare l ∷ t) (spoken_lines ls fits.1)

pub lines_say : (ls : List Line) → AllByRecursion LineWritten ls → AllZip SaysLine (map bare ls) ls
lines_say [] fits = tt
lines_say (l ∷ ls) fits = (spaced_says (words_of l) fits.0, lines_say ls fits.1)
