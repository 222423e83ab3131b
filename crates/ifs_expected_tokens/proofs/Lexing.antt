-- The lexemes that were read so far, and those that are left.
use Rattle.std.proofs.Common.{◌≡◌, ◌∙◌, refl, sym, ap, ℕ, suc, ◌+◌, length, arith, Bool, true, false, if◌then◌else◌, List, [], ◌∷◌, ◌++◌, append-nil, map, ◌<◌, ◌-◌, zero}
use Rattle.ifs_lex.specs.declared.cursor.Lexeme.{Lexeme}
use Rattle.ifs_lex.specs.Lexemes.{Spanned, TextCursor, after_lexeme, is_last, lexeme_at, lexemes_at, lexemes_from, lexemes_of, start}
use Rattle.ifs_lex.specs.inner.Pieces.{lexeme_of, spanned_of}

-- The next lexeme, and those after it.
next : (found : Spanned) (last : Bool) (left : ℕ) (c : TextCursor) → found ≡ lexeme_at c → is_last found.lexeme ≡ last
    → lexemes_from (suc left) c ≡ found ∷ (if last then [] else lexemes_from left (after_lexeme c))
next found last left c e is =
    ap (λ (p : Spanned). p ∷ (if is_last p.lexeme then [] else lexemes_from left (after_lexeme c))) (sym e)
    ∙ ap (λ (b : Bool). found ∷ (if b then [] else lexemes_from left (after_lexeme c))) is

pushed : (items : List Lexeme) (f : Lexeme) (rest : List Spanned) → map spanned_of items ++ spanned_of f ∷ rest ≡ map spanned_of (items ++ f ∷ []) ++ rest
pushed [] f rest = refl
pushed (x ∷ items) f rest = ap (λ (l : List Spanned). spanned_of x ∷ l) (pushed items f rest)

pushed_last : (items : List Lexeme) (f : Lexeme) → map spanned_of items ++ spanned_of f ∷ [] ≡ map spanned_of (items ++ f ∷ [])
pushed_last [] f = refl
pushed_last (x ∷ items) f = ap (λ (l : List Spanned). spanned_of x ∷ l) (pushed_last items f)

-- One more lexeme was read, and it is not the last one.
pub one_more : (all : List Spanned) (items items' : List Lexeme) (f : Lexeme) (left : ℕ) (c c' : TextCursor) → 0 < left → all ≡ map spanned_of items ++ lexemes_from left c
    → spanned_of f ≡ lexeme_at c → c' ≡ after_lexeme c → is_last (lexeme_of f.piece) ≡ false → items' ≡ items ++ f ∷ []
    → all ≡ map spanned_of items' ++ lexemes_from (left - 1) c'
one_more all items items' f zero c c' some so e after goes more = absurd (omega (arith, some))
one_more all items items' f (suc left) c c' some so e after goes more =
    so ∙ ap (λ (l : List Spanned). map spanned_of items ++ l) (next (spanned_of f) false left c e goes)
    ∙ pushed items f (lexemes_from left (after_lexeme c))
    ∙ ap (λ (p : List Lexeme × TextCursor). map spanned_of p.0 ++ lexemes_from left p.1) (λ i. (sym more i, sym after i))
    ∙ ap (λ (n : ℕ). map spanned_of items' ++ lexemes_from n c') (omega (arith))

-- The last lexeme was read.
pub last_one : (all : List Spanned) (items items' : List Lexeme) (f : Lexeme) (left : ℕ) (c : TextCursor) → 0 < left → all ≡ map spanned_of items ++ lexemes_from left c
    → spanned_of f ≡ lexeme_at c → is_last (lexeme_of f.piece) ≡ true → items' ≡ items ++ f ∷ [] → map spanned_of items' ≡ all
last_one all items items' f zero c some so e stops more = absurd (omega (arith, some))
last_one all items items' f (suc left) c some so e stops more =
    sym (so ∙ ap (λ (l : List Spanned). map spanned_of items ++ l) (next (spanned_of f) true left c e stops) ∙ pushed_last items f ∙ ap (λ (l : List Lexeme). map spanned_of l) (sym more))

-- No lexeme is left to be read.
pub none_left : (all : List Spanned) (items : List Lexeme) (left : ℕ) (c : TextCursor) → left ≡ 0 → all ≡ map spanned_of items ++ lexemes_from left c → map spanned_of items ≡ all
none_left all items zero c none so = sym (so ∙ append-nil (map spanned_of items))
none_left all items (suc left) c none so = absurd (omega (arith, none))

-- Nothing was read yet.
pub none_yet : (text : List ℕ) → lexemes_of text ≡ lexemes_from (length text + 1) (start text)
unfolding lexemes_at
none_yet text = ap (λ (n : ℕ). lexemes_from n (start text)) (omega (arith))
