-- What words say: the line that is read from them is the one whose words they spell.
use Rattle.std.proofs.Common.{◌≡◌, ℕ, ◌≤◌, true, false, List, [], ◌∷◌, length, Some, refl, sym, subst, arith}
use Rattle.std.specs.Prelude.{nat_lt}
use Rattle.std.specs.List.{AllZip}
use Rattle.std.proofs.lemmas.Str.{is_utf8-from_IsUtf8}
use Rattle.std.proofs.lemmas.Bool.{lt-ltb, le-ltb}
use Rattle.ifs_base.specs.Numbers.{number_of}
use Rattle.ifs_base.specs.Sizes.{PeriodFits}
use Rattle.ifs_base.specs.Spelling.{HasSpelling}
use Rattle.ifs_base.specs.declared.op.LinkState.TheVariants.{Unknown, Down, Up}
use Rattle.ifs_base.specs.declared.op.Op.{Op}
use Rattle.ifs_base.specs.declared.op.Op.TheVariants.{Ret, Yes, No, Link, Test, Known, Negate, Both}
use Rattle.ifs_base.specs.declared.op.Op.TheVariants.{Either, PushCommand, PushState, Queue, Want}
use Rattle.ifs_base.specs.declared.op.Op.TheVariants.{Jump, JumpFalse, JumpTrue, Call, Pop, Dup}
use Rattle.ifs_image.specs.declared.parts.Handlers.{Handlers}
use Rattle.ifs_image.specs.Limits.{HandlersInRange}
use Rattle.ifs_asm.specs.declared.line.Version.TheVariants.{One, Two}
use Rattle.ifs_asm.specs.declared.line.Head.TheVariants.{Plain, Signature}
use Rattle.ifs_asm.specs.declared.line.Line.{Line}
use Rattle.ifs_asm.specs.declared.line.Line.TheVariants as lines
use Rattle.ifs_asm.specs.Texts.{Word, Key, Number, Quoted, Tests, words_of, tests_of}
use Rattle.ifs_asm.specs.Spellings.{IsSpelling, IsQuoted, IsList}
use Rattle.ifs_asm.specs.Refused.{TextGood, LineFits}
use Rattle.ifs_asm.specs.inner.Forms.{number_up_to, sized_text, period_in, numbered_handlers, line_of}
use Rattle.ifs_asm.proofs.Quotes.{text_again}
use Rattle.ifs_asm.proofs.MaskLists.{mask_again}
use Rattle.ifs_asm.proofs.KindLists.{kinds_again}
use Rattle.ifs_asm.proofs.Cutting.{Spelled}

-- ---- numbers, texts and words

number_again : (most n : ℕ) (word : List ℕ) → number_of word ≡ Some n → n ≤ most → number_up_to most word ≡ Some n
number_again most n word is le =
    let within : nat_lt most n ≡ false = le-ltb _ _ le in
    rw (is, within) refl

text_again_in : (word text : List ℕ) → IsQuoted text word → TextGood text → sized_text word ≡ Some text
text_again_in word text q good =
    let read = text_again text word q in
    let utf8 = is_utf8-from_IsUtf8 text good.utf8 in
    let some : nat_lt 0 (length text) ≡ true = lt-ltb _ _ (omega (arith, good.fits.not_empty)) in
    let within : nat_lt (length text) 1025 ≡ true = lt-ltb _ _ (omega (arith, good.fits.within)) in
    rw (read, utf8, some, within) refl

period_again : (n : ℕ) (word : List ℕ) → number_of word ≡ Some n → PeriodFits n → period_in word ≡ Some n
period_again n word is fits =
    let some : nat_lt 0 n ≡ true = lt-ltb _ _ (omega (arith, fits.not_zero)) in
    let within : nat_lt n 604801 ≡ true = lt-ltb _ _ (omega (arith, fits.within)) in
    rw (is, some, within) refl

handlers_again : (h : Handlers) (init body tests : List ℕ) → number_of init ≡ Some h.init.0 → number_of body ≡ Some h.body.0 → IsList (tests_of h.mask) tests → HandlersInRange h → numbered_handlers init body tests ≡ Some h
handlers_again h init body tests i b m r =
    let first = number_again 65535 h.init.0 init i (omega (arith, r.init)) in
    let second = number_again 65535 h.body.0 body b (omega (arith, r.body)) in
    let third = mask_again h.mask tests r.mask m in
    rw (first, second, third) refl

-- ---- the words of a list, one by one

-- A fact on all spellings of words.
abbrev Reads : (List (List ℕ) → Type 0) → List Word → Type 0
Reads P [] = P []
Reads P (Key k ∷ ws) = Reads (λ xs. P (k ∷ xs)) ws
Reads P (Number n ∷ ws) = (x : List ℕ) → IsSpelling (Number n) x → Reads (λ xs. P (x ∷ xs)) ws
Reads P (Quoted text ∷ ws) = (x : List ℕ) → IsSpelling (Quoted text) x → Reads (λ xs. P (x ∷ xs)) ws
Reads P (Tests mask ∷ ws) = (x : List ℕ) → IsSpelling (Tests mask) x → Reads (λ xs. P (x ∷ xs)) ws

reads : (P : List (List ℕ) → Type 0) (ws : List Word) (words : List (List ℕ)) → AllZip Spelled words ws → Reads P ws → P words
reads P [] [] z r = r
reads P [] (x ∷ xs) z r = absurd z
reads P (w ∷ ws) [] z r = absurd z
reads P (Key k ∷ ws) (x ∷ xs) z r = subst (λ (y : List ℕ). P (y ∷ xs)) (sym z.0) (reads (λ ys. P (k ∷ ys)) ws xs z.1 r)
reads P (Number n ∷ ws) (x ∷ xs) z r = reads (λ ys. P (x ∷ ys)) ws xs z.1 (r x z.0)
reads P (Quoted text ∷ ws) (x ∷ xs) z r = reads (λ ys. P (x ∷ ys)) ws xs z.1 (r x z.0)
reads P (Tests mask ∷ ws) (x ∷ xs) z r = reads (λ ys. P (x ∷ ys)) ws xs z.1 (r x z.0)

-- ---- words that spell a line are read as it

abbrev Again : Line → Type 0
Again line = Reads (λ words. line_of words ≡ Some line) (words_of line)

op_again : (op : Op) → HasSpelling op → Again (lines.Instruction op)
op_again Ret f = refl
op_again Yes f = refl
op_again No f = refl
op_again (Link n Unknown) f = λ x a. rw (number_again 65535 n.0 x a (omega (arith, f))) refl
op_again (Link n Down) f = λ x a. rw (number_again 65535 n.0 x a (omega (arith, f))) refl
op_again (Link n Up) f = λ x a. rw (number_again 65535 n.0 x a (omega (arith, f))) refl
op_again (Test n) f = λ x a. rw (number_again 65535 n.0 x a (omega (arith, f))) refl
op_again (Known n) f = λ x a. rw (number_again 65535 n.0 x a (omega (arith, f))) refl
op_again Negate f = refl
op_again Both f = refl
op_again Either f = refl
op_again (PushCommand n) f = λ x a. rw (number_again 65535 n.0 x a (omega (arith, f))) refl
op_again (PushState n) f = λ x a. rw (number_again 65535 n.0 x a (omega (arith, f))) refl
op_again Queue f = refl
op_again Want f = refl
op_again (Jump n) f = λ x a. rw (number_again 65535 n x a (omega (arith, f))) refl
op_again (JumpFalse n) f = λ x a. rw (number_again 65535 n x a (omega (arith, f))) refl
op_again (JumpTrue n) f = λ x a. rw (number_again 65535 n x a (omega (arith, f))) refl
op_again (Call n) f = λ x a. rw (number_again 65535 n.0 x a (omega (arith, f))) refl
op_again Pop f = refl
op_again Dup f = refl

again : (line : Line) → LineFits line → Again line
again (lines.Version One) f = refl
again (lines.Version Two) f = refl
again (lines.Stack n) f = λ x a. rw (number_again 32 n x a f) refl
again (lines.Frames n) f = λ x a. rw (number_again 32 n x a f) refl
again (lines.Cost n) f = λ x a. rw (number_again 300000 n x a f) refl
again (lines.Commands n) f = λ x a. rw (number_again 64 n x a f) refl
again (lines.Start n) f = λ x a. rw (number_again 65535 n.0 x a (omega (arith, f))) refl
again (lines.Always h) f = λ x a y b z c. rw (handlers_again h x y z a b c f) refl
again (lines.Interface name) f = λ x a. rw (text_again_in x name a f) refl
again (lines.Test t) f = λ x a y b. rw (period_again t.period x a f.0, text_again_in y t.text b f.1) refl
again (lines.Command text) f = λ x a. rw (text_again_in x text a f) refl
again (lines.State s) f = λ w n x a y b z c. rw (handlers_again s.handlers x y z a b c f.1, text_again_in w s.name n f.0) refl
again (lines.Routine (Plain true)) f = λ x a. rw (number_again 1 1 x a (omega arith)) refl
again (lines.Routine (Plain false)) f = λ x a. rw (number_again 1 0 x a (omega arith)) refl
again (lines.Routine (Signature params results)) f = rw (kinds_again params.items f.0, kinds_again results.items f.1) refl
again (lines.Instruction op) f = op_again op f

pub line_again : (line : Line) (words : List (List ℕ)) → LineFits line → AllZip Spelled words (words_of line) → line_of words ≡ Some line
line_again line words f z = reads (λ xs. line_of xs ≡ Some line) (words_of line) words z (again line f)
