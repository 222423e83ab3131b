-- A text has a list of lexemes, or is stuck at one place with one fault.
use Rattle.std.proofs.Common.{◌≡◌, ℕ, zero, suc, ◌+◌, Bool, true, false, cond, eqb, ◌&&◌, not}
use Rattle.std.proofs.Common.{List, [], ◌∷◌, ◌++◌, length, take, drop, Option, Some, None}
use Rattle.std.proofs.Common.{refl, sym, ◌∙◌, ap, subst, arith, drop-drop, ◌⊎◌, inl, inr}
use Rattle.std.specs.Option.{option_map_or}
use Rattle.ifs_lex.specs.declared.token.What.TheVariants.{Quoted, End}
use Rattle.ifs_lex.specs.Lexemes.{Gap}
use Rattle.ifs_lex.specs.Lexemes.{Blanks, Comment}
use Rattle.ifs_lex.specs.declared.fault.LexFault.{LexFault}
use Rattle.ifs_lex.specs.declared.fault.LexFault.TheVariants as lexing
use Rattle.ifs_lex.specs.Lexemes.{One, Stray, Unclosed, Scan, scan, is_last, gap_after, gap_len, inside_len}
use Rattle.ifs_lex.specs.Lexemes.{quoted_value, lexeme_here, Spanned, lexemes_from, lexemes_at, lexemes_of}
use Rattle.ifs_lex.specs.Spelling.{Closes, IsGap, empty, blank, joined, comment}
use Rattle.ifs_lex.specs.Spelling.{last_comment, IsLexeme, stands, Spelling, Ended}
use Rattle.ifs_lex.specs.Stuck.{UpTo, gap_to, lexeme_to, IsUnclosed, FitsNothing, IsFaultAt, IsStuck, StuckWith}
use Rattle.ifs_lex.proofs.Spelt.{true_false, closes, closed}
use Rattle.ifs_lex.proofs.Gaps.{blank_step, joined_step, comment_step, gap_only, gap_found}
use Rattle.ifs_lex.proofs.Scanned.{lexeme_no_gap, lexeme_not_last, lexeme_only, here_quoted}
use Rattle.ifs_lex.proofs.Scanned.{Reads, at_end, an_lexeme, no_lexeme, reads, none_left}
use Rattle.ifs_lex.proofs.Spellings.{cursor, turned, unrolled, spelling_only}

-- No gap comes after the gap that the lexer reads.
after_gap : (o : Option Gap) (gap : Gap) (b : ℕ) (rest : List ℕ) → gap_after gap b rest ≡ o
    → ((next : Gap) → gap_len Blanks (drop (gap_len next rest) rest) ≡ 0) → (o ≡ None → gap_len Blanks (b ∷ rest) ≡ 0)
    → gap_len Blanks (drop (option_map_or (λ next. 1 + gap_len next rest) o 0) (b ∷ rest)) ≡ 0
after_gap None gap b rest e more last = last refl
after_gap (Some next) gap b rest e more last = ap (λ k. gap_len Blanks (drop k (b ∷ rest))) (one_more (gap_len next rest)) ∙ more next
  where
    one_more : (n : ℕ) → 1 + n ≡ suc n
    one_more n = omega arith

in_blanks : (b : ℕ) (rest : List ℕ) → gap_after Blanks b rest ≡ None → gap_len Blanks (b ∷ rest) ≡ 0
in_blanks b rest e = ap (λ o. option_map_or (λ next. 1 + gap_len next rest) o 0) e

in_comment : (b : ℕ) (t n : Bool) → cond t (Some Blanks) (Some (Comment n)) ≡ None → ⊥
in_comment b true n e = cc
in_comment b false n e = cc

pub gap_over : (gap : Gap) (bytes : List ℕ) → gap_len Blanks (drop (gap_len gap bytes) bytes) ≡ 0
gap_over gap [] = refl
gap_over Blanks (b ∷ rest) = after_gap (gap_after Blanks b rest) Blanks b rest refl (λ next. gap_over next rest) (in_blanks b rest)
gap_over (Comment escaped) (b ∷ rest) =
    after_gap (gap_after (Comment escaped) b rest) (Comment escaped) b rest refl (λ next. gap_over next rest)
    (λ e. absurd (in_comment b (eqb b 10 && not escaped) (eqb b 92) e))

-- No gap comes if the lexer reads none.
pub no_gap_here : (bytes : List ℕ) (n : ℕ) → IsGap bytes n → gap_len Blanks bytes ≡ 0 → n ≡ 0
no_gap_here _ _ (empty bytes) h = refl
no_gap_here _ _ (blank b rest n e g) h = let s = blank_step b rest e in absurd (omega (arith, s, h))
no_gap_here _ _ (joined rest n g) h = let s = joined_step rest in absurd (omega (arith, s, h))
no_gap_here _ _ (comment rest k n c g) h = let s = comment_step rest (gap_len (Comment false) rest) refl in absurd (omega (arith, s, h))
no_gap_here _ _ (last_comment rest u) h = let s = comment_step rest (gap_len (Comment false) rest) refl in absurd (omega (arith, s, h))

-- The lexer reads a quote that none closes.
not_closed : (q : ℕ) (rest : List ℕ) → ((n : ℕ) → ¬ Closes q false rest n) → (o : Option ℕ) → inside_len q false rest ≡ o → o ≡ None
not_closed q rest none None e = refl
not_closed q rest none (Some n) e = absurd (none n (closes q false rest n e))

pub open_read : (bytes : List ℕ) → IsUnclosed bytes → lexeme_here bytes ≡ scan Unclosed 0
open_read bytes h =
    ap lexeme_here h.begins ∙ here_quoted h.quote h.rest h.opens ∙
    ap (λ m. option_map_or (λ n. scan (One (Quoted (quoted_value h.quote (take n h.rest)))) (n + 2)) m (scan Unclosed 0)) (not_closed h.quote h.rest h.unclosed _ refl)

-- A quote is not closed if the lexer says so.
pub read_open : (bytes : List ℕ) → (lexeme_here bytes).lexeme ≡ Unclosed → IsUnclosed bytes
read_open bytes e = by_reads (reads bytes)
  where
    by_reads : Reads bytes (lexeme_here bytes) → IsUnclosed bytes
    by_reads (at_end none lexeme len) = let clash : One End ≡ Unclosed = sym lexeme ∙ e in absurd (cc)
    by_reads (an_lexeme i) = absurd (true_false _ _ (ap is_last e) (lexeme_not_last _ _ _ i) refl)
    by_reads (no_lexeme none last len unclosed) = unclosed e

-- Nothing fits where the lexer reads no lexeme.
pub fits_nothing : (bytes : List ℕ) → gap_len Blanks bytes ≡ 0 → ((lexeme_here bytes).lexeme ≡ One End → ⊥) → is_last (lexeme_here bytes).lexeme ≡ true → FitsNothing bytes
fits_nothing bytes gap none last = record {
  goes_on = λ e. none (ap (λ (s : Scan). s.lexeme) (none_left bytes e));
  no_gap = λ n g. no_gap_here bytes n g gap;
  no_lexeme = λ lexeme n i. true_false _ _ last (ap (λ (s : Scan). is_last s.lexeme) (lexeme_only bytes lexeme n i) ∙ lexeme_not_last bytes lexeme n i) refl;
}

-- The lexer reads no lexeme where nothing fits.
pub nothing_read : (bytes : List ℕ) → FitsNothing bytes → (is_last (lexeme_here bytes).lexeme ≡ true) × ((lexeme_here bytes).lexeme ≡ One End → ⊥)
nothing_read bytes h = by_reads (reads bytes)
  where
    by_reads : Reads bytes (lexeme_here bytes) → (is_last (lexeme_here bytes).lexeme ≡ true) × ((lexeme_here bytes).lexeme ≡ One End → ⊥)
    by_reads (at_end none lexeme len) = absurd (h.goes_on none)
    by_reads (an_lexeme i) = absurd (h.no_lexeme _ _ i)
    by_reads (no_lexeme none last len unclosed) = (last, none)

module _ (text : List ℕ) where
  -- The lexer reads the lexemes up to a place where nothing fits, and one that is none.
  abbrev Last : ℕ → Spanned
  Last end = let s = lexeme_here (drop end text) in stands text s.lexeme end (end + s.len)

  read_up_to : {at : ℕ} {lexemes : List Spanned} {end : ℕ} → UpTo text at lexemes end → FitsNothing (drop end text) → lexemes_at (cursor text at) ≡ lexemes ++ Last end ∷ []
  read_up_to (gap_to at gap g) h =
      let none = h.no_gap (gap_len Blanks (drop (at + gap) text)) (gap_found (drop (at + gap) text)) in
      let read = gap_only (drop at text) gap g (ap (gap_len Blanks) (drop-drop gap at text) ∙ none) in
      unrolled text at gap _ read refl ∙
      ap (λ t. Last (at + gap) ∷ cond t [] (lexemes_at (cursor text (at + gap + (lexeme_here (drop (at + gap) text)).len)))) (nothing_read (drop (at + gap) text) h).0
  read_up_to (lexeme_to at gap own end lexeme lexemes g i rest) h =
      let read = gap_only (drop at text) gap g (ap (gap_len Blanks) (drop-drop gap at text) ∙ lexeme_no_gap (drop (at + gap) text) lexeme own i) in
      let first = stands text lexeme (at + gap) (at + gap + own) in
      unrolled text at gap (scan lexeme own) read (lexeme_only (drop (at + gap) text) lexeme own i) ∙
      ap (λ t. first ∷ cond t [] (lexemes_at (cursor text (at + gap + own)))) (lexeme_not_last (drop (at + gap) text) lexeme own i) ∙
      ap (λ xs. first ∷ xs) (read_up_to rest h)

-- The last of some lexemes.
last_of : List Spanned → Spanned → Spanned
last_of [] other = other
last_of (p ∷ rest) other = last_of rest p

last_pushed : (lexemes : List Spanned) (p other : Spanned) → last_of (lexemes ++ p ∷ []) other ≡ p
unfolding last_of
last_pushed [] p other = refl
last_pushed (q ∷ rest) p other = last_pushed rest p q

ended_last : (lexemes : List Spanned) (p : Spanned) → Ended (lexemes ++ p ∷ []) → p.lexeme ≡ One End
ended_last [] p h = h
ended_last (q ∷ []) p h = h
ended_last (q ∷ r ∷ rest) p h = ended_last (r ∷ rest) p h

one_fault_at : (text : List ℕ) (at : ℕ) (fault other : LexFault) → IsFaultAt text at fault → IsFaultAt text at other → fault ≡ other
one_fault_at text at (lexing.Stray m) (lexing.Stray n) h k = ap (λ l. lexing.Stray l) (h.0 ∙ sym k.0)
one_fault_at text at (lexing.Unclosed m) (lexing.Unclosed n) h k = ap (λ l. lexing.Unclosed l) (h.0 ∙ sym k.0)
one_fault_at text at (lexing.Stray m) (lexing.Unclosed n) h k = absurd (h.1 k.1)
one_fault_at text at (lexing.Unclosed m) (lexing.Stray n) h k = absurd (k.1 h.1)
one_fault_at text at (lexing.Stray m) _ h k = absurd k
one_fault_at text at (lexing.Unclosed m) _ h k = absurd k
one_fault_at text at _ other h k = absurd h

-- A text is stuck at one place, with one fault.
pub stuck_once : (text : List ℕ) (at second : ℕ) (fault other : LexFault) → IsStuck text at fault → IsStuck text second other → (at ≡ second) × (fault ≡ other)
stuck_once text at second fault other h k =
    let start : ℕ → Spanned = λ n. Last text n in
    let a = read_up_to text h.before h.nothing in
    let b = read_up_to text k.before k.nothing in
    let same : Last text at ≡ Last text second =
    sym (last_pushed h.lexemes (Last text at) (Last text at)) ∙ ap (λ xs. last_of xs (Last text at)) (sym a ∙ b) ∙ last_pushed k.lexemes (Last text second) (Last text at) in
    let place_is : at ≡ second = ap (λ (p : Spanned). p.span.start) same in
    (place_is, one_fault_at text second fault other (subst (λ n. IsFaultAt text n fault) place_is h.fault_is) k.fault_is)

-- A text that is stuck has no list of lexemes.
pub stuck_unspelled : (text : List ℕ) (lexemes : List Spanned) (at : ℕ) (fault : LexFault) → Spelling text 0 lexemes → ¬ IsStuck text at fault
stuck_unspelled text lexemes at fault spelled h =
    let only = spelling_only text lexemes spelled in
    let same : lexemes ≡ h.lexemes ++ Last text at ∷ [] = sym only.0 ∙ read_up_to text h.before h.nothing in
    (nothing_read (drop at text) h.nothing).1 (ended_last h.lexemes (Last text at) (subst Ended same only.1))

-- What is no lexeme, and its fault.
pub data Told (p : Spanned) : LexFault → Type 0 where
  told_stray : p.lexeme ≡ Stray → Told p (lexing.Stray p.span.line)
  told_open : p.lexeme ≡ Unclosed → Told p (lexing.Unclosed p.span.line)

-- Some lexeme has a fault.
abbrev pub Tells : LexFault → List Spanned → Type 0
Tells fault [] = ⊥
Tells fault (p ∷ rest) = Told p fault ⊎ Tells fault rest

-- Lexemes come up to a place.
abbrev Reaches : List ℕ → ℕ → ℕ → Type 0
Reaches text at end = (lexemes : List Spanned) × UpTo text at lexemes end

told_at : (text : List ℕ) (m : ℕ) (s : Scan) (fault : LexFault) → lexeme_here (drop m text) ≡ s → Told (stands text s.lexeme m (m + s.len)) fault → IsFaultAt text m fault
told_at text m s _ e (told_stray a) =
    (refl, λ o. let k : Stray ≡ Unclosed = sym a ∙ ap (λ (s : Scan). s.lexeme) (sym e ∙ open_read (drop m text) o) in absurd (cc))
told_at text m s _ e (told_open a) = (refl, read_open (drop m text) (ap (λ (s : Scan). s.lexeme) e ∙ a))

told_last : (p : Spanned) (fault : LexFault) → Told p fault → (is_last p.lexeme ≡ true) × (p.lexeme ≡ One End → ⊥)
told_last p _ (told_stray a) = (ap is_last a, λ e. let k = sym a ∙ e in absurd (cc))
told_last p _ (told_open a) = (ap is_last a, λ e. let k = sym a ∙ e in absurd (cc))

module _ (text : List ℕ) (fault : LexFault) where
  stuck_turn : (t : Bool) (more : List Spanned) (at gap : ℕ) (s : Scan) → lexeme_here (drop (at + gap) text) ≡ s → is_last s.lexeme ≡ t → IsGap (drop at text) gap → gap_len Blanks (drop (at + gap) text) ≡ 0
      → ((end : ℕ) → Reaches text at end → Reaches text 0 end)
      → (IsLexeme (drop (at + gap) text) s.lexeme s.len → Tells fault more → StuckWith text fault)
      → Tells fault (stands text s.lexeme (at + gap) (at + gap + s.len) ∷ cond t [] more) → StuckWith text fault
  stuck_turn t more at gap s e l g none reach next (inl told) =
      let r = reach (at + gap) ([], gap_to at gap g) in
      let here = told_last (stands text s.lexeme (at + gap) (at + gap + s.len)) fault told in
      let lexeme : (lexeme_here (drop (at + gap) text)).lexeme ≡ s.lexeme = ap (λ (s : Scan). s.lexeme) e in (
        at + gap,
        record {
          lexemes = r.0;
          before = r.1;
          nothing = fits_nothing (drop (at + gap) text) none (λ k. here.1 (sym lexeme ∙ k)) (ap is_last lexeme ∙ here.0);
          fault_is = told_at text (at + gap) s fault e told;
        },
      )
  stuck_turn true more at gap s e l g none reach next (inr rest) = absurd rest
  stuck_turn false more at gap s e l g none reach next (inr rest) = next (by_reads (subst (Reads (drop (at + gap) text)) e (reads (drop (at + gap) text)))) rest
    where
      by_reads : Reads (drop (at + gap) text) s → IsLexeme (drop (at + gap) text) s.lexeme s.len
      by_reads (at_end k lexeme len) = absurd (true_false _ _ (ap is_last lexeme) l refl)
      by_reads (an_lexeme i) = i
      by_reads (no_lexeme k last len unclosed) = absurd (true_false _ _ last l refl)

  stuck_from : (most at : ℕ) → ((end : ℕ) → Reaches text at end → Reaches text 0 end) → Tells fault (lexemes_from most (cursor text at)) → StuckWith text fault
  stuck_from zero at reach h = absurd h
  stuck_from (suc most) at reach h =
      let gap = gap_len Blanks (drop at text) in
      let s = lexeme_here (drop (at + gap) text) in
      let g = gap_found (drop at text) in
      let none : gap_len Blanks (drop (at + gap) text) ≡ 0 = ap (gap_len Blanks) (sym (drop-drop gap at text)) ∙ gap_over Blanks (drop at text) in
      stuck_turn (is_last s.lexeme) (lexemes_from most (cursor text (at + gap + s.len))) at gap s refl refl g none reach
      (λ i rest. stuck_from most (at + gap + s.len)
      (λ end r. reach end (stands text s.lexeme (at + gap) (at + gap + s.len) ∷ r.0, lexeme_to at gap s.len end s.lexeme r.0 g i r.1)) rest)
      (subst (Tells fault) (turned text (lexemes_from most) at) h)

-- A text is stuck if the lexer reads a lexeme with a fault.
pub stuck_in : (text : List ℕ) (fault : LexFault) → Tells fault (lexemes_of text) → StuckWith text fault
unfolding lexemes_at
stuck_in text fault h = stuck_from text fault (1 + length text) 0 (λ end r. r) h
