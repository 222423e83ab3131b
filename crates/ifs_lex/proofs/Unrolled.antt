-- The lexemes from a cursor on: the next one, and those after it.
use Rattle.std.proofs.Common.{◌≡◌, ℕ, zero, suc, ◌+◌, ◌<◌, ◌≤◌, Bool, true, false, cond, ltb, List, [], ◌∷◌, length}
use Rattle.std.proofs.Common.{Option, Some, None, refl, sym, ◌∙◌, ap, arith, length-drop, rules, tests}
use Rattle.ifs_lex.specs.declared.token.What.{What}
use Rattle.ifs_lex.specs.Lexemes.{Blanks, Lexeme, Scan, gap_len, lexeme_here, TextCursor, Spanned}
use Rattle.ifs_lex.specs.Lexemes.{past_gap, lexeme_at, after_lexeme, is_last, lexemes_from, lexemes_at, lexemes_of}
use Rattle.ifs_lex.specs.Expansion.{Macros, whats_of, joined, value_from, value_of}
use Rattle.ifs_lex.proofs.Spelt.{true_false}
use Rattle.ifs_lex.proofs.Scanned.{Reads, at_end, an_lexeme, no_lexeme, reads, lexeme_some, lexeme_within}

-- A lexeme that is not the last has a byte, and is within its bytes.
moves : (bs : List ℕ) (s : Scan) → Reads bs s → is_last s.lexeme ≡ false → (0 < s.len) × (s.len ≤ length bs)
moves bs s (at_end none lexeme len) e = absurd (true_false _ _ (ap is_last lexeme) e refl)
moves bs s (an_lexeme i) e = (lexeme_some bs s.lexeme s.len i, lexeme_within bs s.lexeme s.len i)
moves bs s (no_lexeme none last len unclosed) e = absurd (true_false _ _ last e refl)

-- Fewer bytes are left after a lexeme.
pub fewer_left : (p : TextCursor) → is_last (lexeme_at p).lexeme ≡ false → length (after_lexeme p).left < length p.left
fewer_left p e =
    let q = past_gap p in
    let len = (lexeme_here q.left).len in
    let some = moves q.left (lexeme_here q.left) (reads q.left) e in
    let first = length-drop (gap_len Blanks p.left) p.left in
    let second = length-drop len q.left in
    omega (arith, some.0, some.1)

pub no_more_left : (p : TextCursor) → length (after_lexeme p).left ≤ length p.left
no_more_left p =
    let q = past_gap p in
    let first = length-drop (gap_len Blanks p.left) p.left in
    let second = length-drop (lexeme_here q.left).len q.left in
    omega arith

same_rest : (t : Bool) (a b : List Spanned) → (t ≡ false → a ≡ b) → cond t [] a ≡ cond t [] b
same_rest true a b h = refl
same_rest false a b h = h refl

same_fuel : (n m : ℕ) (p : TextCursor) → length p.left < n → length p.left < m → lexemes_from n p ≡ lexemes_from m p
same_fuel zero m p l k = absurd (omega arith)
same_fuel (suc n) zero p l k = absurd (omega arith)
same_fuel (suc n) (suc m) p l k =
    ap (λ rest. lexeme_at p ∷ rest)
    (same_rest (is_last (lexeme_at p).lexeme) _ _ (λ e. let less = fewer_left p e in same_fuel n m (after_lexeme p) (omega arith) (omega arith)))

-- The next lexeme, and those after it.
pub lexemes_unroll : (p : TextCursor) → lexemes_at p ≡ lexeme_at p ∷ cond (is_last (lexeme_at p).lexeme) [] (lexemes_at (after_lexeme p))
unfolding lexemes_at
lexemes_unroll p =
    let one : 1 + length p.left ≡ suc (length p.left) = omega arith in
    ap (λ n. lexemes_from n p) one ∙
    ap (λ rest. lexeme_at p ∷ rest)
    (same_rest (is_last (lexeme_at p).lexeme) _ _ (λ e. let less = fewer_left p e in same_fuel (length p.left) (1 + length (after_lexeme p).left) (after_lexeme p) less (omega arith)))

pub value_none : (m : Macros) (lexemes : List Spanned) → value_from m None lexemes ≡ None
value_none m [] = refl
value_none m (p ∷ rest) = refl

pub value_turn : (m : Macros) (before : List What) (p : TextCursor) → value_from m (Some before) (lexemes_at p) ≡ value_from m (joined before (whats_of m (lexeme_at p).lexeme)) (cond (is_last (lexeme_at p).lexeme) [] (lexemes_at (after_lexeme p)))
value_turn m before p = ap (value_from m (Some before)) (lexemes_unroll p)

step_by : (m : Macros) (a b : Lexeme) (before : List What) (rest : List Spanned) (o : Option (List What)) → a ≡ b → o ≡ joined before (whats_of m a) → value_from m (joined before (whats_of m b)) (cond (is_last b) [] rest) ≡ value_from m o (cond (is_last a) [] rest)
step_by m a b before rest o e f = rw (← e, ← f) refl

-- A value goes on, ends or fails with the next lexeme.
moved : (m n : Macros) (a : Lexeme) (before : List What) (o : Option (List What)) → n ≡ m → o ≡ joined before (whats_of n a) → o ≡ joined before (whats_of m a)
moved m n a before o e f = f ∙ ap (λ k. joined before (whats_of k a)) e

next_of : (m : Macros) (before : List What) (p : TextCursor) (a : Lexeme) (o target : Option (List What)) → a ≡ (lexeme_at p).lexeme → o ≡ joined before (whats_of m a) → value_from m (Some before) (lexemes_at p) ≡ target → value_from m o (cond (is_last a) [] (lexemes_at (after_lexeme p))) ≡ target
next_of m before p a o target e f h =
    sym (step_by m a (lexeme_at p).lexeme before (lexemes_at (after_lexeme p)) o e f) ∙ sym (value_turn m before p) ∙ h

pub value_goes : (m n : Macros) (before more : List What) (p q : TextCursor) (a : Lexeme) (target : Option (List What)) → n ≡ m → a ≡ (lexeme_at p).lexeme → q ≡ after_lexeme p → Some more ≡ joined before (whats_of n a) → is_last a ≡ false → value_from m (Some before) (lexemes_at p) ≡ target → value_from m (Some more) (lexemes_at q) ≡ target
value_goes m n before more p q a target k e r f l h =
    ap (λ t. value_from m (Some more) (lexemes_at t)) r ∙
    sym (ap (λ t. value_from m (Some more) (cond t [] (lexemes_at (after_lexeme p)))) l) ∙
    next_of m before p a (Some more) target e (moved m n a before (Some more) k f) h

pub value_ends : (m n : Macros) (before more : List What) (p : TextCursor) (a : Lexeme) (target : Option (List What)) → n ≡ m → a ≡ (lexeme_at p).lexeme → Some more ≡ joined before (whats_of n a) → is_last a ≡ true → value_from m (Some before) (lexemes_at p) ≡ target → Some more ≡ target
value_ends m n before more p a target k e f l h =
    sym (ap (λ t. value_from m (Some more) (cond t [] (lexemes_at (after_lexeme p)))) l) ∙
    next_of m before p a (Some more) target e (moved m n a before (Some more) k f) h

pub value_fails : (m n : Macros) (before : List What) (p : TextCursor) (a : Lexeme) (target : Option (List What)) → n ≡ m → a ≡ (lexeme_at p).lexeme → None ≡ joined before (whats_of n a) → value_from m (Some before) (lexemes_at p) ≡ target → None ≡ target
value_fails m n before p a target k e f h =
    sym (value_none m (cond (is_last a) [] (lexemes_at (after_lexeme p)))) ∙
    next_of m before p a None target e (moved m n a before None k f) h

-- A value whose text is not too long.
pub value_whole : (m : Macros) (text : List ℕ) → length text ≤ 1048576 → value_of m text ≡ value_from m (Some []) (lexemes_of text)
unfolding value_of
value_whole m text l =
    let t : ltb 1048576 (length text) ≡ false = search (rules, tests) in
    ap (λ b. cond b None (value_from m (Some []) (lexemes_of text))) t

-- A cursor moves over each lexeme but the last.
pub last_moves : (p : TextCursor) (a : Lexeme) (q : TextCursor) → a ≡ (lexeme_at p).lexeme → q ≡ after_lexeme p → is_last a ≡ false → length q.left < length p.left
last_moves p a q e r l =
    let less = fewer_left p (ap is_last (sym e) ∙ l) in
    let same = ap (λ (t : TextCursor). length t.left) r in
    omega arith
