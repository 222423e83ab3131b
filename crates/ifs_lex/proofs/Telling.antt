-- P1 and P2 are faults of lexemes of the text.
use Rattle.std.proofs.Common.{◌≡◌, ◌≢◌, ℕ, zero, suc, ◌+◌, ◌<◌, Bool, true, false, cond, ltb}
use Rattle.std.proofs.Common.{◌||◌, List, [], ◌∷◌, length, Option, Some, None, option_map}
use Rattle.std.proofs.Common.{Result, Ok, Err, refl, sym, ◌∙◌, ap, subst, arith, ◌⊎◌, inl, inr}
use Rattle.std.specs.Prelude.{is_some}
use Rattle.std.specs.Option.{option_map_or}
use Rattle.ifs_base.specs.declared.span.Span.{Span}
use Rattle.ifs_base.specs.Results.{◌>>=◌}
use Rattle.ifs_lex.specs.declared.token.What.{What}
use Rattle.ifs_lex.specs.declared.token.What.TheVariants.{End}
use Rattle.ifs_lex.specs.declared.fault.LexFault.{LexFault}
use Rattle.ifs_lex.specs.declared.fault.LexFault.TheVariants as lexing
use Rattle.ifs_lex.specs.declared.fault.LexFault.TheVariants.{UnknownMacro}
use Rattle.ifs_lex.specs.declared.fault.LexFault.TheVariants.{BadMacro, OverLimit, Memory}
use Rattle.ifs_lex.specs.Characters.{is_macro_name}
use Rattle.ifs_lex.specs.Lexemes.{Lexeme, One, Uses, Stray, Unclosed, TextCursor, Spanned, lexeme_at}
use Rattle.ifs_lex.specs.Lexemes.{after_lexeme, is_last, lexemes_from, lexemes_at, lexemes_of, start}
use Rattle.ifs_lex.specs.Expansion.{Macro, Macros, no_macros, value_of, is_given, known_as, defined, Defines}
use Rattle.ifs_lex.specs.Expansion.{Stands, macro_name_of, given_text, segments_from, Expanded, expanded, with_whats}
use Rattle.ifs_lex.specs.Expansion.{with_use}
use Rattle.ifs_lex.specs.Expansion.{with_lexeme, with_segment, tokens_after, given_one, given_from, tokens_of, unnumbered_of}
use Rattle.ifs_lex.specs.Spelling.{Spelling, Ended}
use Rattle.ifs_lex.specs.Stuck.{StuckWith, SaysStuck}
use Rattle.ifs_lex.proofs.Numbers.{unnumbered_fault}
use Rattle.ifs_lex.proofs.Unrolled.{fewer_left}
use Rattle.ifs_lex.proofs.Spellings.{ended_more, spelling_found}
use Rattle.ifs_lex.proofs.Stopped.{Told, told_stray, told_open, Tells, stuck_in}

-- P1 and P2.
abbrev OfLexemes : LexFault → Type 0
OfLexemes (lexing.Stray line) = Unit {0}
OfLexemes (lexing.Unclosed line) = Unit {0}
OfLexemes _ = ⊥

-- A fault of another kind is neither.
other_fault : {A : Type 0} (f fault : LexFault) → (OfLexemes f → ⊥) → OfLexemes fault → f ≡ fault → A
other_fault f fault none h e = absurd (none (subst OfLexemes (sym e) h))

abbrev refused : {A : Type 0} → LexFault → Result A LexFault
refused f = Err f

inside_err : {A : Type 0} (f fault : LexFault) → refused {A = A} f ≡ Err fault → f ≡ fault
inside_err f fault e = cc

cond_fault : {A B : Type 0} (t : Bool) (f fault : LexFault) (made : A) → (OfLexemes f → ⊥) → OfLexemes fault → cond t (Err f) (Ok made) ≡ Err fault → B
cond_fault true f fault made none h e = other_fault f fault none h (inside_err f fault e)
cond_fault false f fault made none h e = absurd (cc)

fault_cond : {A B : Type 0} (t : Bool) (f fault : LexFault) (made : A) → (OfLexemes f → ⊥) → OfLexemes fault → cond t (Ok made) (Err f) ≡ Err fault → B
fault_cond true f fault made none h e = absurd (cc)
fault_cond false f fault made none h e = other_fault f fault none h (inside_err f fault e)

whats_fault : {B : Type 0} (span : Span) (whats : List What) (s : Expanded) (fault : LexFault) → OfLexemes fault → with_whats span whats s ≡ Err fault → B
whats_fault span whats s fault h e = cond_fault (ltb 16384 (length s.tokens + length whats)) (OverLimit span.line) fault _ (λ k. k) h e

use_fault : {B : Type 0} (span : Span) (o : Option Macro) (s : Expanded) (fault : LexFault) → OfLexemes fault → with_use span o s ≡ Err fault → B
use_fault span None s fault h e = other_fault (UnknownMacro span.line) fault (λ k. k) h (inside_err (UnknownMacro span.line) fault e)
use_fault span (Some known) s fault h e = whats_fault span known.whats s fault h e

-- The fault of what is no lexeme.
abbrev ToldAs : Span → Lexeme → LexFault → Type 0
ToldAs span i fault = ((i ≡ Stray) × (fault ≡ lexing.Stray span.line)) ⊎ ((i ≡ Unclosed) × (fault ≡ lexing.Unclosed span.line))

lexeme_fault : (span : Span) (i : Lexeme) (s : Expanded) (fault : LexFault) → OfLexemes fault → with_lexeme span i s ≡ Err fault → ToldAs span i fault
lexeme_fault span (One End) s fault h e = absurd (cc)
lexeme_fault span (One what) s fault h e = whats_fault span (what ∷ []) s fault h e
lexeme_fault span (Uses name) s fault h e = use_fault span (s.macros.known name) s fault h e
lexeme_fault span Stray s fault h e = inl (refl, sym (inside_err (lexing.Stray span.line) fault e))
lexeme_fault span Unclosed s fault h e = inr (refl, sym (inside_err (lexing.Unclosed span.line) fault e))

told_of : (p : Spanned) (fault : LexFault) → ToldAs p.span p.lexeme fault → Told p fault
told_of p fault (inl h) = subst (Told p) (sym h.1) (told_stray h.0)
told_of p fault (inr h) = subst (Told p) (sym h.1) (told_open h.0)

known_fault : {B : Type 0} (line : ℕ) (given : Bool) (name : List ℕ) (o : Option (List What)) (m : Macros) (fault : LexFault) → OfLexemes fault → known_as line given name o m ≡ Err fault → B
known_fault line given name None m fault h e = other_fault (BadMacro line) fault (λ k. k) h (inside_err (BadMacro line) fault e)
known_fault line given name (Some whats) m fault h e = fault_cond (is_some (m.known name) || ltb m.count 256) (OverLimit line) fault _ (λ k. k) h e

defined_fault : {B : Type 0} (line : ℕ) (given : Bool) (name value : List ℕ) (m : Macros) (fault : LexFault) → OfLexemes fault → defined line given name value m ≡ Err fault → B
unfolding defined
defined_fault {B = B} line given name value m fault h e = by_given (is_given m name) e
  where
    by_given : (t : Bool) → cond t (Ok m) (known_as line given name (value_of m value) m) ≡ Err fault → B
    by_given true k = absurd (cc)
    by_given false k = known_fault line given name (value_of m value) m fault h k

module _ (fault : LexFault) (h : OfLexemes fault) where
  -- The fault of a segment, or of those after it.
  stands_fault : (p : Spanned) (rest : List Spanned) (s : Expanded) (r : Result Expanded LexFault) → with_lexeme p.span p.lexeme s ≡ r
      → ((next : Expanded) → tokens_after next (segments_from 0 rest) ≡ Err fault → Tells fault rest)
      → (r >>= λ next. tokens_after next (segments_from 0 rest)) ≡ Err fault → Tells fault (p ∷ rest)
  stands_fault p rest s (Ok next) e more k = inr (more next k)
  stands_fault p rest s (Err f) e more k =
      inl (told_of p fault (lexeme_fault p.span p.lexeme s fault h (e ∙ ap (λ (f : LexFault). Err f) (inside_err f fault k))))

  defines_fault : (p : Spanned) (rest : List Spanned) (s : Expanded) (name text : List ℕ) (r : Result Macros LexFault) → defined p.span.line false name text s.macros ≡ r
      → ((next : Expanded) → tokens_after next (segments_from 2 rest) ≡ Err fault → Tells fault rest)
      → ((r >>= λ m. Ok (expanded s.tokens m)) >>= λ next. tokens_after next (segments_from 2 rest)) ≡ Err fault → Tells fault (p ∷ rest)
  defines_fault p rest s name text (Ok m) e more k = inr (more (expanded s.tokens m) k)
  defines_fault p rest s name text (Err f) e more k = defined_fault p.span.line false name text s.macros fault h (e ∙ ap (λ (f : LexFault). Err f) (inside_err f fault k))

  segment_fault : (p : Spanned) (rest : List Spanned) (s : Expanded) (name text : Option (List ℕ))
      → ((n : ℕ) (next : Expanded) → tokens_after next (segments_from n rest) ≡ Err fault → Tells fault rest)
      → tokens_after s (option_map_or (λ part. part ∷ segments_from 2 rest) (option_map_or (λ n. option_map (λ t. Defines n t p.span) text) name None) (Stands p ∷ segments_from 0 rest)) ≡ Err fault
      → Tells fault (p ∷ rest)
  unfolding with_segment
  segment_fault p rest s None text more k = stands_fault p rest s _ refl (more 0) k
  segment_fault p rest s (Some name) None more k = stands_fault p rest s _ refl (more 0) k
  segment_fault p rest s (Some name) (Some text) more k = defines_fault p rest s name text _ refl (more 2) k

  segments_fault : (lexemes : List Spanned) (n : ℕ) (s : Expanded) → tokens_after s (segments_from n lexemes) ≡ Err fault → Tells fault lexemes
  segments_fault [] zero s k = absurd (cc)
  segments_fault [] (suc n) s k = absurd (cc)
  segments_fault (p ∷ rest) (suc n) s k = inr (segments_fault rest n s k)
  segments_fault (p ∷ rest) zero s k = segment_fault p rest s (macro_name_of p.lexeme) (given_text rest) (λ n next e. segments_fault rest n next e) k

  given_one_fault : {B : Type 0} (t : Bool) (name value : List ℕ) (m : Macros) → cond t (defined 0 true name value m) (Err (BadMacro 0)) ≡ Err fault → B
  given_one_fault true name value m k = defined_fault 0 true name value m fault h k
  given_one_fault false name value m k = other_fault (BadMacro 0) fault (λ k. k) h (inside_err (BadMacro 0) fault k)

  given_next : {B : Type 0} (r : Result Macros LexFault) (rest : List (List ℕ × List ℕ)) → (r ≡ Err fault → B) → ((m : Macros) → given_from m rest ≡ Err fault → B)
      → (r >>= λ next. given_from next rest) ≡ Err fault → B
  given_next (Ok m) rest bad more k = more m k
  given_next (Err f) rest bad more k = bad (ap (λ (f : LexFault). Err f) (inside_err f fault k))

  given_fault : {B : Type 0} (defs : List (List ℕ × List ℕ)) (m : Macros) → given_from m defs ≡ Err fault → B
  given_fault [] m k = absurd (cc)
  given_fault (def ∷ rest) m k = given_next (given_one def.0 def.1 m) rest (given_one_fault (is_macro_name def.0) def.0 def.1 m) (λ next e. given_fault rest next e) k

  text_fault : (t : Bool) (m : Macros) (text : List ℕ) → cond t (Err (OverLimit 1)) (tokens_after (expanded [] m) (segments_from 0 (lexemes_of text))) ≡ Err fault → Tells fault (lexemes_of text)
  text_fault true m text k = other_fault (OverLimit 1) fault (λ k. k) h (inside_err (OverLimit 1) fault k)
  text_fault false m text k = segments_fault (lexemes_of text) 0 (expanded [] m) k

  macros_fault : (r : Result Macros LexFault) (text : List ℕ) → (r ≡ Err fault → Tells fault (lexemes_of text))
      → (r >>= λ m. cond (ltb 1048576 (length text)) (Err (OverLimit 1)) (tokens_after (expanded [] m) (segments_from 0 (lexemes_of text)))) ≡ Err fault → Tells fault (lexemes_of text)
  macros_fault (Ok m) text bad k = text_fault (ltb 1048576 (length text)) m text k
  macros_fault (Err f) text bad k = bad (ap (λ (f : LexFault). Err f) (inside_err f fault k))

  lexemes_fault : (text : List ℕ) (defs : List (List ℕ × List ℕ)) → unnumbered_of text defs ≡ Err fault → StuckWith text fault
  unfolding unnumbered_of
  lexemes_fault text defs k = stuck_in text fault (macros_fault (given_from no_macros defs) text (given_fault defs no_macros) k)

  tokens_fault : (text : List ℕ) (defs : List (List ℕ × List ℕ)) → tokens_of text defs ≡ Err fault → StuckWith text fault
  tokens_fault text defs k = lexemes_fault text defs (unnumbered_fault text defs fault k)

-- A text with the fault P1 or P2 is stuck with that fault.
pub told_stuck : (text : List ℕ) (defs : List (List ℕ × List ℕ)) (fault : LexFault) → (fault ≢ Memory → tokens_of text defs ≡ Err fault) → SaysStuck text fault
told_stuck text defs (lexing.Stray line) k = tokens_fault (lexing.Stray line) tt text defs (k (λ e. absurd (cc)))
told_stuck text defs (lexing.Unclosed line) k = tokens_fault (lexing.Unclosed line) tt text defs (k (λ e. absurd (cc)))
told_stuck text defs (UnknownMacro line) k = tt
told_stuck text defs (BadMacro line) k = tt
told_stuck text defs (OverLimit line) k = tt
told_stuck text defs Memory k = tt

-- The last lexeme is the end, or has a fault.
abbrev Known : List Spanned → Type 0
Known lexemes = Ended lexemes ⊎ ((fault : LexFault) × Tells fault lexemes)

last_known : (p : Spanned) (i : Lexeme) → p.lexeme ≡ i → is_last i ≡ true → Known (p ∷ [])
last_known p (One End) e l = inl e
last_known p Stray e l = inr (lexing.Stray p.span.line, inl (told_stray e))
last_known p Unclosed e l = inr (lexing.Unclosed p.span.line, inl (told_open e))
last_known p _ e l = absurd (cc)

more_known : (p : Spanned) (rest : List Spanned) → Known rest → Known (p ∷ rest)
more_known p rest (inl h) = inl (ended_more p rest h)
more_known p rest (inr h) = inr (h.0, inr h.1)

by_last : (p : Spanned) (t : Bool) (rest : List Spanned) → is_last p.lexeme ≡ t → (is_last p.lexeme ≡ false → Known rest) → Known (p ∷ cond t [] rest)
by_last p true rest e h = last_known p p.lexeme refl e
by_last p false rest e h = more_known p rest (h e)

known_from : (most : ℕ) (p : TextCursor) → length p.left < most → Known (lexemes_from most p)
known_from zero p l = absurd (omega (arith, l))
known_from (suc most) p l =
    by_last (lexeme_at p) (is_last (lexeme_at p).lexeme) (lexemes_from most (after_lexeme p)) refl
    (λ e. let less = fewer_left p e in known_from most (after_lexeme p) (omega (arith, l, less)))

spelled_or_stuck : (text : List ℕ) → Known (lexemes_of text) → Spelling text 0 (lexemes_of text) ⊎ ((fault : LexFault) × StuckWith text fault)
spelled_or_stuck text (inl h) = inl (spelling_found text (lexemes_of text) refl h)
spelled_or_stuck text (inr h) = inr (h.0, stuck_in text h.0 h.1)

-- A text has a list of lexemes, or is stuck.
pub lexemes_or_stuck : (text : List ℕ) → Spelling text 0 (lexemes_of text) ⊎ ((fault : LexFault) × StuckWith text fault)
unfolding lexemes_at
lexemes_or_stuck text = spelled_or_stuck text (known_from (1 + length text) (start text) (omega arith))
