-- The lexer reads the lexemes of the relation.
use Rattle.std.proofs.Common.{◌≡◌, ℕ, zero, suc, ◌+◌, ◌≤◌, Bool, true, false, cond, eqb, List, [], ◌∷◌, length, take}
use Rattle.std.proofs.Common.{drop, count_by, refl, sym, ◌∙◌, ap, subst, arith, length-drop, drop-drop, take-add}
use Rattle.std.proofs.lemmas.List.{drop_all}
use Rattle.std.proofs.lemmas.List.Sums.{sum_by-append}
use Rattle.ifs_lex.specs.declared.token.What.TheVariants.{End}
use Rattle.ifs_lex.specs.Lexemes.{Blanks}
use Rattle.ifs_lex.specs.Lexemes.{Lexeme, One, Scan, scan, is_last, gap_len, lexeme_here, TextCursor, Spanned}
use Rattle.ifs_lex.specs.Lexemes.{past, lexeme_at, after_lexeme, lexemes_from, lexemes_at, lexemes_of}
use Rattle.ifs_lex.specs.Spelling.{IsGap, IsLexeme, stands, Spelling, ends, goes_on, Ended}
use Rattle.ifs_lex.proofs.Spelt.{true_false}
use Rattle.ifs_lex.proofs.Gaps.{gap_only, gap_within, gap_found}
use Rattle.ifs_lex.proofs.Scanned.{lexeme_no_gap, lexeme_within, lexeme_not_last, lexeme_only}
use Rattle.ifs_lex.proofs.Scanned.{Reads, at_end, an_lexeme, no_lexeme, reads, none_left}
use Rattle.ifs_lex.proofs.Unrolled.{lexemes_unroll}

abbrev newlines : List ℕ → ℕ
newlines bs = count_by (λ b. eqb b 10) bs

-- The cursor before a byte of a text.
abbrev pub cursor : List ℕ → ℕ → TextCursor
cursor text at = record { at = at; line = 1 + newlines (take at text); left = drop at text }

past_is : (text : List ℕ) (at n : ℕ) → past n (cursor text at) ≡ cursor text (at + n)
past_is text at n =
    let made : ℕ → List ℕ → TextCursor = λ line left. record { at = at + n; line = line; left = left } in
    let parts = ap newlines (take-add at n text) ∙ sum_by-append (λ b. cond (eqb b 10) 1 0) (take at text) (take n (drop at text)) in
    let lines : 1 + newlines (take at text) + newlines (take n (drop at text)) ≡ 1 + newlines (take (at + n) text) = omega arith in
    ap (λ l. made l (drop n (drop at text))) lines ∙ ap (λ xs. made (1 + newlines (take (at + n) text)) xs) (drop-drop n at text)

-- A lexeme from a byte on, and the lexemes after it.
abbrev pub turn : List ℕ → (TextCursor → List Spanned) → ℕ → Scan → List Spanned
turn text after m s = stands text s.lexeme m (m + s.len) ∷ cond (is_last s.lexeme) [] (after (cursor text (m + s.len)))

abbrev turn_at : (TextCursor → List Spanned) → TextCursor → List Spanned
turn_at after q =
    let here = lexeme_here q.left in
    let found : Spanned = record { lexeme = here.lexeme; span = record { line = q.line; start = q.at; end = q.at + here.len } } in
    found ∷ cond (is_last here.lexeme) [] (after (past here.len q))

pub turned : (text : List ℕ) (after : TextCursor → List Spanned) (at : ℕ) → lexeme_at (cursor text at) ∷ cond (is_last (lexeme_at (cursor text at)).lexeme) [] (after (after_lexeme (cursor text at))) ≡ turn text after (at + gap_len Blanks (drop at text)) (lexeme_here (drop (at + gap_len Blanks (drop at text)) text))
turned text after at =
    let m = at + gap_len Blanks (drop at text) in
    let s = lexeme_here (drop m text) in
    ap (turn_at after) (past_is text at (gap_len Blanks (drop at text))) ∙
    ap (λ q. stands text s.lexeme m (m + s.len) ∷ cond (is_last s.lexeme) [] (after q)) (past_is text m s.len)

ended_rest : (p : Spanned) (more : List Spanned) → is_last p.lexeme ≡ false → Ended (p ∷ more) → Ended more
ended_rest p [] e h = true_false _ _ (ap is_last h) e refl
ended_rest p (q ∷ rest) e h = h

pub ended_more : (p : Spanned) (more : List Spanned) → Ended more → Ended (p ∷ more)
ended_more p [] h = absurd h
ended_more p (q ∷ rest) h = h

found_end : (text : List ℕ) (at gap : ℕ) (s : Scan) → IsGap (drop at text) gap → at + gap ≤ length text → drop (at + gap) text ≡ [] → s.lexeme ≡ One End → s.len ≡ 0 → Spelling text at (stands text s.lexeme (at + gap) (at + gap + s.len) ∷ [])
found_end text at gap s g l none lexeme len =
    let size = ap length none in
    let left = length-drop (at + gap) text in
    let whole : at + gap ≡ length text = omega arith in
    let same : at + gap ≡ at + gap + s.len = omega arith in
    let P : ℕ → Type 0 = λ n. Spelling text at (stands text (One End) (at + gap) n ∷ []) in
    let Q : Lexeme → Type 0 = λ i. Spelling text at (stands text i (at + gap) (at + gap + s.len) ∷ []) in
    subst Q (sym lexeme) (subst P same (ends at gap g whole))

found_lexeme : (text : List ℕ) (more : List Spanned) (at gap : ℕ) (s : Scan) → IsGap (drop at text) gap → at + gap ≤ length text → IsLexeme (drop (at + gap) text) s.lexeme s.len → is_last s.lexeme ≡ false → (at + gap + s.len ≤ length text → Ended more → Spelling text (at + gap + s.len) more) → Ended (stands text s.lexeme (at + gap) (at + gap + s.len) ∷ more) → Spelling text at (stands text s.lexeme (at + gap) (at + gap + s.len) ∷ more)
found_lexeme text more at gap s g l i e ih h =
    let own = lexeme_within (drop (at + gap) text) s.lexeme s.len i in
    let left = length-drop (at + gap) text in
    goes_on at gap s.len s.lexeme more g i (ih (omega arith) (ended_rest (stands text s.lexeme (at + gap) (at + gap + s.len)) more e h))

found_turn : (text : List ℕ) (more : List Spanned) (at gap : ℕ) (s : Scan) (t : Bool) → IsGap (drop at text) gap → at + gap ≤ length text → Reads (drop (at + gap) text) s → is_last s.lexeme ≡ t → (at + gap + s.len ≤ length text → Ended more → Spelling text (at + gap + s.len) more) → Ended (stands text s.lexeme (at + gap) (at + gap + s.len) ∷ cond t [] more) → Spelling text at (stands text s.lexeme (at + gap) (at + gap + s.len) ∷ cond t [] more)
found_turn text more at gap s true g l (at_end none lexeme len) e ih h = found_end text at gap s g l none lexeme len
found_turn text more at gap s false g l (at_end none lexeme len) e ih h = absurd (true_false _ _ (ap is_last lexeme) e refl)
found_turn text more at gap s true g l (an_lexeme i) e ih h = absurd (true_false _ _ e (lexeme_not_last _ _ _ i) refl)
found_turn text more at gap s false g l (an_lexeme i) e ih h = found_lexeme text more at gap s g l i e ih h
found_turn text more at gap s true g l (no_lexeme none last len unclosed) e ih h = absurd (none h)
found_turn text more at gap s false g l (no_lexeme none last len unclosed) e ih h = absurd (true_false _ _ last e refl)

pub found_from : (text : List ℕ) (most at : ℕ) → at ≤ length text → Ended (lexemes_from most (cursor text at)) → Spelling text at (lexemes_from most (cursor text at))
found_from text zero at l h = absurd h
found_from text (suc most) at l h =
    let gap = gap_len Blanks (drop at text) in
    let s = lexeme_here (drop (at + gap) text) in
    let g = gap_found (drop at text) in
    let size = gap_within (drop at text) gap g in
    let left = length-drop at text in
    let e = turned text (lexemes_from most) at in
    let P : List Spanned → Type 0 = λ xs. Spelling text at xs in
    let Q : List Spanned → Type 0 = λ xs. Ended xs in
    subst P (sym e)
    (found_turn text (lexemes_from most (cursor text (at + gap + s.len))) at gap s (is_last s.lexeme) g (omega arith) (reads (drop (at + gap) text)) refl
    (λ within ended. found_from text most (at + gap + s.len) within ended) (subst Q e h))

-- The lexemes that the lexer reads up to the end of a text are its lexemes.
pub spelling_found : (text : List ℕ) (lexemes : List Spanned) → lexemes_of text ≡ lexemes → Ended lexemes → Spelling text 0 lexemes
unfolding lexemes_at
spelling_found text lexemes e h =
    let P : List Spanned → Type 0 = λ xs. Spelling text 0 xs in
    let Q : List Spanned → Type 0 = λ xs. Ended xs in
    subst P e (found_from text (1 + length text) 0 (omega arith) (subst Q (sym e) h))

pub unrolled : (text : List ℕ) (at gap : ℕ) (s : Scan) → gap_len Blanks (drop at text) ≡ gap → lexeme_here (drop (at + gap) text) ≡ s → lexemes_at (cursor text at) ≡ turn text lexemes_at (at + gap) s
unrolled text at gap s e f =
    lexemes_unroll (cursor text at) ∙ turned text lexemes_at at ∙
    ap (λ k. turn text lexemes_at (at + k) (lexeme_here (drop (at + k) text))) e ∙ ap (turn text lexemes_at (at + gap)) f

only_from : (text : List ℕ) (at : ℕ) (lexemes : List Spanned) → Spelling text at lexemes → lexemes_at (cursor text at) ≡ lexemes
only_from text _ _ (ends at gap g whole) =
    let none : drop (at + gap) text ≡ [] = drop_all (at + gap) text (omega arith) in
    let read = gap_only (drop at text) gap g (ap (gap_len Blanks) (drop-drop gap at text ∙ none)) in
    let same : at + gap + 0 ≡ at + gap = omega arith in
    unrolled text at gap (scan (One End) 0) read (none_left (drop (at + gap) text) none) ∙
    ap (λ n. stands text (One End) (at + gap) n ∷ []) same
only_from text _ _ (goes_on at gap own lexeme lexemes g i rest) =
    let read = gap_only (drop at text) gap g (ap (gap_len Blanks) (drop-drop gap at text) ∙ lexeme_no_gap (drop (at + gap) text) lexeme own i) in
    let more = only_from text (at + gap + own) lexemes rest in
    let first = stands text lexeme (at + gap) (at + gap + own) in
    unrolled text at gap (scan lexeme own) read (lexeme_only (drop (at + gap) text) lexeme own i) ∙
    ap (λ t. first ∷ cond t [] (lexemes_at (cursor text (at + gap + own)))) (lexeme_not_last (drop (at + gap) text) lexeme own i) ∙
    ap (λ xs. first ∷ xs) more

spelling_ended : (text : List ℕ) (at : ℕ) (lexemes : List Spanned) → Spelling text at lexemes → Ended lexemes
spelling_ended text _ _ (ends at gap g whole) = refl
spelling_ended text _ _ (goes_on at gap own lexeme lexemes g i rest) = ended_more (stands text lexeme (at + gap) (at + gap + own)) lexemes (spelling_ended text (at + gap + own) lexemes rest)

-- The lexer reads the lexemes of a text, up to its end.
pub spelling_only : (text : List ℕ) (lexemes : List Spanned) → Spelling text 0 lexemes → (lexemes_of text ≡ lexemes) × Ended lexemes
spelling_only text lexemes h = (only_from text 0 lexemes h, spelling_ended text 0 lexemes h)
