-- Bytes have at most one first fault, and none if they spell an image.
use Rattle.std.proofs.Common.{◌≡◌, ℕ, ◌+◌, ◌<◌, ◌≤◌, List, [], ◌∷◌, ◌++◌, length, get_or, take, drop}
use Rattle.std.proofs.Common.{refl, sym, ap, subst, ◌∙◌, append_assoc, arith, inl, inr}
use Rattle.std.specs.Prelude.{◌⊎◌}
use Rattle.std.proofs.lemmas.Bool.{cases_order, cases_lt}
use Rattle.std.proofs.lemmas.List.{take_at, drop_at, take-take, take_all, take-append-drop, take-append-le, drop-append-le, length-append, length-take, length-drop, append-nil}
use Rattle.ifs_image.specs.declared.fault.ImageFault.{ImageFault}
use Rattle.ifs_image.specs.declared.fault.ImageFault.TheVariants.{WrongMagic, WrongVersion, OutOfLimit, BadText, RepeatedName, Trailing, NoInstruction}
use Rattle.ifs_image.specs.declared.parts.ImageParts.{ImageParts}
use Rattle.ifs_image.specs.Spelling.{image_bytes, Spells}
use Rattle.ifs_image.specs.Fields.{FieldKind, Magic, Version, Number, Text, Name, Instruction, Field, field, bytes_of, image_fields}
use Rattle.ifs_image.specs.Faults.{IsText, SaysLength, HasLength, HasShape, StandsAt, Begins, ComesTo, IsShort, IsShortText, IsCut, IsShown}
use Rattle.ifs_image.specs.Faults.{IsWrong, GoesOn, IsFirstFault}
use Rattle.ifs_image.proofs.Stops.{bytes_of-append}
use Rattle.ifs_image.proofs.StopParts.{same_length}
use Rattle.ifs_image.proofs.StopImages.{fields_spell}
use Rattle.ifs_image.proofs.ImageLaws.{Spells-prefix}

-- ---- fields of one list

same_head : (x y : Field) (xs ys : List Field) → x ∷ xs ≡ y ∷ ys → x ≡ y
same_head x y xs ys e = ap (λ (l : List Field). get_or l 0 x) e

same_tail : (x y : Field) (xs ys : List Field) → x ∷ xs ≡ y ∷ ys → xs ≡ ys
same_tail x y xs ys e = ap (λ (l : List Field). drop 1 l) e

-- The bytes of fields and of one more.
with_first_is : (x : Field) (xs : List Field) → length (bytes_of (x ∷ xs)) ≡ length x.bytes + length (bytes_of xs)
with_first_is x xs = length-append x.bytes (bytes_of xs)

-- A field that begins before another one ends before it.
fields_apart : (b1 : List Field) (f1 : Field) (a1 b2 : List Field) (f2 : Field) (a2 : List Field) → b1 ++ f1 ∷ a1 ≡ b2 ++ f2 ∷ a2 → length (bytes_of b1) < length (bytes_of b2) → length (bytes_of b1) + length f1.bytes ≤ length (bytes_of b2)
fields_apart [] f1 a1 [] f2 a2 e lt = absurd (omega (arith, lt))
fields_apart [] f1 a1 (y ∷ ys) f2 a2 e lt =
    let same : length f1.bytes ≡ length y.bytes = ap (λ (f : Field). length f.bytes) (same_head f1 y a1 (ys ++ f2 ∷ a2) e) in
    omega (arith, same, with_first_is y ys)
fields_apart (x ∷ xs) f1 a1 [] f2 a2 e lt = absurd (omega (arith, lt))
fields_apart (x ∷ xs) f1 a1 (y ∷ ys) f2 a2 e lt =
    let same : length x.bytes ≡ length y.bytes = ap (λ (f : Field). length f.bytes) (same_head x y (xs ++ f1 ∷ a1) (ys ++ f2 ∷ a2) e) in
    let inner = fields_apart xs f1 a1 ys f2 a2 (same_tail x y (xs ++ f1 ∷ a1) (ys ++ f2 ∷ a2) e) (omega (arith, lt, same, with_first_is x xs, with_first_is y ys)) in
    omega (arith, inner, same, with_first_is x xs, with_first_is y ys)

-- At an offset there is one field, if it has bytes.
fields_once : (b1 : List Field) (f1 : Field) (a1 b2 : List Field) (f2 : Field) (a2 : List Field) → b1 ++ f1 ∷ a1 ≡ b2 ++ f2 ∷ a2 → length (bytes_of b1) ≡ length (bytes_of b2) → 1 ≤ length f1.bytes → 1 ≤ length f2.bytes → f1 ≡ f2
fields_once [] f1 a1 [] f2 a2 e same some1 some2 = same_head f1 f2 a1 a2 e
fields_once [] f1 a1 (y ∷ ys) f2 a2 e same some1 some2 =
    let first : length f1.bytes ≡ length y.bytes = ap (λ (f : Field). length f.bytes) (same_head f1 y a1 (ys ++ f2 ∷ a2) e) in
    absurd (omega (arith, first, same, some1, with_first_is y ys))
fields_once (x ∷ xs) f1 a1 [] f2 a2 e same some1 some2 =
    let first : length x.bytes ≡ length f2.bytes = ap (λ (f : Field). length f.bytes) (same_head x f2 (xs ++ f1 ∷ a1) a2 e) in
    absurd (omega (arith, first, same, some2, with_first_is x xs))
fields_once (x ∷ xs) f1 a1 (y ∷ ys) f2 a2 e same some1 some2 =
    let first : length x.bytes ≡ length y.bytes = ap (λ (f : Field). length f.bytes) (same_head x y (xs ++ f1 ∷ a1) (ys ++ f2 ∷ a2) e) in
    fields_once xs f1 a1 ys f2 a2 (same_tail x y (xs ++ f1 ∷ a1) (ys ++ f2 ∷ a2) e) (omega (arith, first, same, with_first_is x xs, with_first_is y ys)) some1 some2

has_bytes : (kind : FieldKind) (bytes : List ℕ) → HasShape kind bytes → 1 ≤ length bytes
has_bytes Magic bytes shape = omega (arith, shape)
has_bytes Version bytes shape = omega (arith, shape)
has_bytes (Number width) bytes shape = omega (arith, shape.0, shape.1)
has_bytes Text bytes shape = omega (arith, shape.length_is)
has_bytes Name bytes shape = omega (arith, shape.length_is)
has_bytes Instruction bytes shape = omega (arith, shape)

-- The bytes of a field lie in the bytes of all fields.
record LiesIn (bytes : List ℕ) (at : ℕ) (all : List ℕ) : Type 0 where
  front : List ℕ
  rest : List ℕ
  all_are : all ≡ front ++ (bytes ++ rest)
  at_is : length front ≡ at

lies_in : (fields : List Field) (at : ℕ) (kind : FieldKind) (s : StandsAt fields at kind) → LiesIn s.bytes at (bytes_of fields)
lies_in fields at kind s = record {
  front = bytes_of s.before;
  rest = bytes_of s.after;
  all_are = ap bytes_of s.fields_are ∙ bytes_of-append s.before (field kind s.bytes ∷ s.after);
  at_is = s.at_is;
}

-- ---- images that begin with bytes

begins_less : (bytes : List ℕ) (n m : ℕ) (image : ImageParts) → n ≤ m → m ≤ length bytes → Begins (take m bytes) image → Begins (take n bytes) image
begins_less bytes n m image le inside b =
    let front = take m bytes in
    let split : front ≡ take n bytes ++ drop n front = sym (take-append-drop n front) ∙ ap (λ (t : List ℕ). t ++ drop n front) (take-take n m bytes le) in
    record {
      fits = b.fits;
      in_range = b.in_range;
      more = drop n front ++ b.more;
      bytes_are = b.bytes_are ∙ ap (λ (t : List ℕ). t ++ b.more) split ∙ append_assoc (take n bytes) (drop n front) b.more;
    }

begins_whole : (bytes : List ℕ) (image : ImageParts) → Spells bytes image → Begins bytes image
begins_whole bytes image s = record { fits = s.fits; in_range = s.in_range; more = []; bytes_are = sym s.bytes_are ∙ sym (append-nil bytes) }

-- A field of an image that ends within the bytes that the image begins with has these bytes.
its_bytes : (bytes : List ℕ) (m at : ℕ) (kind : FieldKind) (image : ImageParts) → m ≤ length bytes → Begins (take m bytes) image → (s : StandsAt (image_fields image) at kind) → at + length s.bytes ≤ m → take (length s.bytes) (drop at bytes) ≡ s.bytes
its_bytes bytes m at kind image inside b s le =
    let k = length s.bytes in
    let l = lies_in (image_fields image) at kind s in
    let all : image_bytes image ≡ l.front ++ (s.bytes ++ l.rest) = sym (fields_spell image b.fits b.in_range) ∙ l.all_are in
    let front = take m bytes in
    let long : length front ≡ m = length-take m bytes ∙ omega (arith, inside) in
    let both : front ++ b.more ≡ l.front ++ (s.bytes ++ l.rest) = sym b.bytes_are ∙ all in
    let cut : drop at front ++ b.more ≡ s.bytes ++ l.rest = sym (drop-append-le at front b.more (omega (arith, long, le))) ∙ ap (drop at) both ∙ drop_at l.front (s.bytes ++ l.rest) at l.at_is in
    let piece : take k (drop at front) ≡ s.bytes = sym (take-append-le k (drop at front) b.more (omega (arith, long, le, length-drop at front))) ∙ ap (take k) cut ∙ take_at s.bytes l.rest k refl in
    let whole : bytes ≡ front ++ drop m bytes = sym (take-append-drop m bytes) in
    let same : take k (drop at bytes) ≡ take k (drop at front) = ap (λ (t : List ℕ). take k (drop at t)) whole ∙ ap (take k) (drop-append-le at front (drop m bytes) (omega (arith, long, le))) ∙ take-append-le k (drop at front) (drop m bytes) (omega (arith, long, le, length-drop at front)) in
    same ∙ piece

-- ---- why bytes stop at a field

abbrev Reason : List ℕ → ℕ → FieldKind → ImageFault → Type 0
Reason bytes at kind fault = IsCut kind at (drop at bytes) fault ⊎ ((shown : ℕ) × IsWrong kind at (drop at bytes) fault shown × (at + shown ≤ length bytes) × ((image : ImageParts) → Begins (take (at + shown) bytes) image → ⊥))

-- The reason of a field of so many bytes.
abbrev FixedReason : ℕ → ImageFault → List ℕ → ℕ → ImageFault → Type 0
FixedReason width reason bytes at fault = IsShort width at (drop at bytes) fault ⊎ ((shown : ℕ) × IsShown width reason fault shown × (at + shown ≤ length bytes) × ((image : ImageParts) → Begins (take (at + shown) bytes) image → ⊥))

-- A whole field of so many bytes excludes the reason.
not_fixed : (width : ℕ) (reason : ImageFault) (bytes : List ℕ) (at : ℕ) (fault : ImageFault) (m : ℕ) (image : ImageParts) → m ≤ length bytes → Begins (take m bytes) image → at + width ≤ m → FixedReason width reason bytes at fault → ⊥
not_fixed width reason bytes at fault m image inside b le (inl short) = omega (arith, short.0, length-drop at bytes, le, inside)
not_fixed width reason bytes at fault m image inside b le (inr w) =
    let same : at + w.0 ≡ at + width = ap (λ (k : ℕ). at + k) w.1.1 in
    w.3 image (subst (λ (k : ℕ). Begins (take k bytes) image) (sym same) (begins_less bytes (at + width) m image le inside b))

says_two : (left : List ℕ) (n : ℕ) → SaysLength left n → 2 ≤ length left
says_two left n says = omega (arith, ap length says.bytes_are, length-take 2 left)

-- What a text or a name of this length excludes: that its bytes are cut, and that it has no length. What shows a fault of the text has as many bytes.
not_cut_text : (at : ℕ) (left : List ℕ) (fault : ImageFault) (n : ℕ) → SaysLength left n → 2 + n ≤ length left → IsShort 2 at left fault ⊎ IsShortText at left fault → ⊥
not_cut_text at left fault n says long (inl short) = omega (arith, short.0, long)
not_cut_text at left fault n says long (inr short) =
    let same = same_length left short.n n short.says says in
    omega (arith, short.short, same, long)

not_wrong_text : (bytes : List ℕ) (at : ℕ) (m : ℕ) (image : ImageParts) (n k : ℕ) → m ≤ length bytes → Begins (take m bytes) image → at + (2 + n) ≤ m → SaysLength (drop at bytes) n → SaysLength (drop at bytes) k → (shown : ℕ) → shown ≡ 2 + k → ((other : ImageParts) → Begins (take (at + shown) bytes) other → ⊥) → ⊥
not_wrong_text bytes at m image n k inside b le says other shown is never =
    let same = same_length (drop at bytes) k n other says in
    let sums : at + (2 + n) ≡ at + shown = omega (arith, is, same) in
    never image (subst (λ (j : ℕ). Begins (take j bytes) image) sums (begins_less bytes (at + (2 + n)) m image le inside b))

-- The length of such a text or name, as the bytes say it.
its_text : (bytes : List ℕ) (at : ℕ) (kind : FieldKind) (m : ℕ) (image : ImageParts) → m ≤ length bytes → Begins (take m bytes) image → (s : StandsAt (image_fields image) at kind) → (l : HasLength s.bytes) → at + length s.bytes ≤ m → SaysLength (drop at bytes) l.n × (2 + l.n ≤ length (drop at bytes))
its_text bytes at kind m image inside b s l le =
    let k = length s.bytes in
    let same = its_bytes bytes m at kind image inside b s le in
    let two : take 2 (drop at bytes) ≡ take 2 s.bytes = sym (take-take 2 k (drop at bytes) (omega (arith, l.length_is))) ∙ ap (take 2) same in
    (record { least = l.says.least; most = l.says.most; bytes_are = two ∙ l.says.bytes_are }, omega (arith, l.length_is, le, inside, length-drop at bytes))

-- A field that lies wholly in bytes that an image begins with is not where they stop.
passes : (bytes : List ℕ) (at : ℕ) (kind : FieldKind) (fault : ImageFault) → Reason bytes at kind fault → (m : ℕ) (image : ImageParts) → m ≤ length bytes → Begins (take m bytes) image → (s : StandsAt (image_fields image) at kind) → at + length s.bytes ≤ m → ⊥
passes bytes at Magic fault reason m image inside b s le = not_fixed 4 (WrongMagic at) bytes at fault m image inside b (omega (arith, le, s.shape)) reason
passes bytes at Version fault reason m image inside b s le = not_fixed 1 (WrongVersion at) bytes at fault m image inside b (omega (arith, le, s.shape)) reason
passes bytes at (Number width) fault reason m image inside b s le = not_fixed width (OutOfLimit at) bytes at fault m image inside b (omega (arith, le, s.shape.1)) reason
passes bytes at Instruction fault reason m image inside b s le = not_fixed 4 (NoInstruction at) bytes at fault m image inside b (omega (arith, le, s.shape)) reason
passes bytes at Text fault reason m image inside b s le =
    let t = its_text bytes at Text m image inside b s s.shape le in
    elim reason [
      | inl cut ↦ not_cut_text at (drop at bytes) fault s.shape.n t.0 t.1 cut
      | inr w ↦ elim w.1 [
        | inl none ↦ none.none s.shape.n t.0
        | inr text ↦ not_wrong_text bytes at m image s.shape.n text.n inside b (omega (arith, le, s.shape.length_is)) t.0 text.says w.0 text.is.1 w.3
      ]
    ]
passes bytes at Name fault reason m image inside b s le =
    let t = its_text bytes at Name m image inside b s s.shape le in
    elim reason [
      | inl cut ↦ not_cut_text at (drop at bytes) fault s.shape.n t.0 t.1 cut
      | inr w ↦ elim w.1 [
        | inl none ↦ none.none s.shape.n t.0
        | inr other ↦ elim other [
          | inl text ↦ not_wrong_text bytes at m image s.shape.n text.n inside b (omega (arith, le, s.shape.length_is)) t.0 text.says w.0 text.is.1 w.3
          | inr name ↦ not_wrong_text bytes at m image s.shape.n name.n inside b (omega (arith, le, s.shape.length_is)) t.0 name.says w.0 name.is.1 w.3
        ]
      ]
    ]

-- ---- one reason has one fault

fixed_same : (width : ℕ) (reason : ImageFault) (bytes : List ℕ) (at : ℕ) (f g : ImageFault) → FixedReason width reason bytes at f → FixedReason width reason bytes at g → f ≡ g
fixed_same width reason bytes at f g (inl a) (inl b) = a.1 ∙ sym b.1
fixed_same width reason bytes at f g (inl a) (inr b) = absurd (omega (arith, a.0, length-drop at bytes, b.1.1, b.2))
fixed_same width reason bytes at f g (inr a) (inl b) = absurd (omega (arith, b.0, length-drop at bytes, a.1.1, a.2))
fixed_same width reason bytes at f g (inr a) (inr b) = a.1.0 ∙ sym b.1.0

-- What is wrong with a text, in one word: the fault that each reason has.
data TextEnd (at : ℕ) (left : List ℕ) (fault : ImageFault) : Type 0 where
  CutLength : IsShort 2 at left fault → TextEnd at left fault
  CutText : IsShortText at left fault → TextEnd at left fault
  NoLength : ((n : ℕ) → SaysLength left n → ⊥) → 2 ≤ length left → fault ≡ BadText at → TextEnd at left fault
  NoText : (n : ℕ) → SaysLength left n → 2 + n ≤ length left → (IsText (take n (drop 2 left)) → ⊥) → fault ≡ BadText (at + 2) → TextEnd at left fault
  Repeats : (n : ℕ) → SaysLength left n → 2 + n ≤ length left → IsText (take n (drop 2 left)) → fault ≡ RepeatedName (at + 2) → TextEnd at left fault

text_end : (bytes : List ℕ) (at : ℕ) (fault : ImageFault) → Reason bytes at Text fault → TextEnd at (drop at bytes) fault
text_end bytes at fault (inl (inl short)) = CutLength short
text_end bytes at fault (inl (inr short)) = CutText short
text_end bytes at fault (inr w) =
    elim w.1 [
      | inl none ↦ NoLength none.none (omega (arith, none.is.1, w.2, length-drop at bytes)) none.is.0
      | inr text ↦ NoText text.n text.says (omega (arith, text.is.1, w.2, length-drop at bytes)) text.no_text text.is.0
    ]

name_end : (bytes : List ℕ) (at : ℕ) (fault : ImageFault) → Reason bytes at Name fault → TextEnd at (drop at bytes) fault
name_end bytes at fault (inl (inl short)) = CutLength short
name_end bytes at fault (inl (inr short)) = CutText short
name_end bytes at fault (inr w) =
    elim w.1 [
      | inl none ↦ NoLength none.none (omega (arith, none.is.1, w.2, length-drop at bytes)) none.is.0
      | inr other ↦ elim other [
        | inl text ↦ NoText text.n text.says (omega (arith, text.is.1, w.2, length-drop at bytes)) text.no_text text.is.0
        | inr name ↦ Repeats name.n name.says (omega (arith, name.is.1, w.2, length-drop at bytes)) name.text name.is.0
      ]
    ]

ends_same : (at : ℕ) (left : List ℕ) (f g : ImageFault) → TextEnd at left f → TextEnd at left g → f ≡ g
ends_same at left f g (CutLength a) (CutLength b) = a.1 ∙ sym b.1
ends_same at left f g (CutLength a) (CutText b) = absurd (omega (arith, a.0, says_two left b.n b.says))
ends_same at left f g (CutLength a) (NoLength none long is) = absurd (omega (arith, a.0, long))
ends_same at left f g (CutLength a) (NoText n says long never is) = absurd (omega (arith, a.0, long))
ends_same at left f g (CutLength a) (Repeats n says long text is) = absurd (omega (arith, a.0, long))
ends_same at left f g (CutText a) (CutLength b) = absurd (omega (arith, b.0, says_two left a.n a.says))
ends_same at left f g (CutText a) (CutText b) = a.fault_is ∙ sym b.fault_is
ends_same at left f g (CutText a) (NoLength none long is) = absurd (none a.n a.says)
ends_same at left f g (CutText a) (NoText n says long never is) = absurd (not_cut_text at left f n says long (inr a))
ends_same at left f g (CutText a) (Repeats n says long text is) = absurd (not_cut_text at left f n says long (inr a))
ends_same at left f g (NoLength none long is) (CutLength b) = absurd (omega (arith, b.0, long))
ends_same at left f g (NoLength none long is) (CutText b) = absurd (none b.n b.says)
ends_same at left f g (NoLength none long is) (NoLength none2 long2 is2) = is ∙ sym is2
ends_same at left f g (NoLength none long is) (NoText n says long2 never is2) = absurd (none n says)
ends_same at left f g (NoLength none long is) (Repeats n says long2 text is2) = absurd (none n says)
ends_same at left f g (NoText n says long never is) (CutLength b) = absurd (omega (arith, b.0, long))
ends_same at left f g (NoText n says long never is) (CutText b) = absurd (not_cut_text at left g n says long (inr b))
ends_same at left f g (NoText n says long never is) (NoLength none long2 is2) = absurd (none n says)
ends_same at left f g (NoText n says long never is) (NoText m says2 long2 never2 is2) = is ∙ sym is2
ends_same at left f g (NoText n says long never is) (Repeats m says2 long2 text is2) = absurd (never (subst (λ (k : ℕ). IsText (take k (drop 2 left))) (same_length left m n says2 says) text))
ends_same at left f g (Repeats n says long text is) (CutLength b) = absurd (omega (arith, b.0, long))
ends_same at left f g (Repeats n says long text is) (CutText b) = absurd (not_cut_text at left g n says long (inr b))
ends_same at left f g (Repeats n says long text is) (NoLength none long2 is2) = absurd (none n says)
ends_same at left f g (Repeats n says long text is) (NoText m says2 long2 never is2) = absurd (never (subst (λ (k : ℕ). IsText (take k (drop 2 left))) (same_length left n m says says2) text))
ends_same at left f g (Repeats n says long text is) (Repeats m says2 long2 text2 is2) = is ∙ sym is2

same_reason : (bytes : List ℕ) (at : ℕ) (kind : FieldKind) (f g : ImageFault) → Reason bytes at kind f → Reason bytes at kind g → f ≡ g
same_reason bytes at Magic f g a b = fixed_same 4 (WrongMagic at) bytes at f g a b
same_reason bytes at Version f g a b = fixed_same 1 (WrongVersion at) bytes at f g a b
same_reason bytes at (Number width) f g a b = fixed_same width (OutOfLimit at) bytes at f g a b
same_reason bytes at Instruction f g a b = fixed_same 4 (NoInstruction at) bytes at f g a b
same_reason bytes at Text f g a b = ends_same at (drop at bytes) f g (text_end bytes at f a) (text_end bytes at g b)
same_reason bytes at Name f g a b = ends_same at (drop at bytes) f g (name_end bytes at f a) (name_end bytes at g b)

-- ---- faults at fields, and after a whole spelling

-- Bytes stop at a field.
record AtField (bytes : List ℕ) (fault : ImageFault) : Type 0 where
  at : ℕ
  kind : FieldKind
  comes : ComesTo bytes at kind
  reason : Reason bytes at kind fault

at_field : (bytes : List ℕ) (fault : ImageFault) → IsFirstFault bytes fault → AtField bytes fault ⊎ GoesOn bytes fault
at_field bytes fault (inl e) = inl (record { at = e.at; kind = e.kind; comes = e.comes; reason = inl e.cut })
at_field bytes fault (inr (inl w)) = inl (record { at = w.at; kind = w.kind; comes = w.comes; reason = inr (w.shown, w.wrong, w.inside, w.never) })
at_field bytes fault (inr (inr g)) = inr g

-- The kind of the field that bytes come to at an offset is one.
same_kind : (bytes : List ℕ) (at : ℕ) (k l : FieldKind) → ComesTo bytes at k → ComesTo bytes at l → k ≡ l
same_kind bytes at k l a b =
    let s = a.each a.image a.begins in
    let t = b.each a.image a.begins in
    ap (λ (f : Field). f.kind) (fields_once s.before (field k s.bytes) s.after t.before (field l t.bytes) t.after (sym s.fields_are ∙ t.fields_are) (s.at_is ∙ sym t.at_is) (has_bytes k s.bytes s.shape) (has_bytes l t.bytes t.shape))

-- Bytes do not stop at a field and come to a later one.
not_later : (bytes : List ℕ) (f : ImageFault) (at later : ℕ) (kind next : FieldKind) → ComesTo bytes at kind → Reason bytes at kind f → ComesTo bytes later next → at < later → ⊥
not_later bytes f at later kind next a reason b lt =
    let less = begins_less bytes at later b.image (omega (arith, lt)) b.inside b.begins in
    let s = a.each b.image less in
    let t = b.each b.image b.begins in
    let le = fields_apart s.before (field kind s.bytes) s.after t.before (field next t.bytes) t.after (sym s.fields_are ∙ t.fields_are) (omega (arith, s.at_is, t.at_is, lt)) in
    passes bytes at kind f reason later b.image b.inside b.begins s (omega (arith, le, s.at_is, t.at_is))

both_at_fields : (bytes : List ℕ) (f g : ImageFault) (k : FieldKind) (at other : ℕ) (l : FieldKind) → ComesTo bytes at k → Reason bytes at k f → ComesTo bytes other l → Reason bytes other l g → at ≡ other → f ≡ g
both_at_fields bytes f g k at other l a ra b rb same =
    let b2 : ComesTo bytes at l = subst (λ (n : ℕ). ComesTo bytes n l) (sym same) b in
    let r2 : Reason bytes at l g = subst (λ (n : ℕ). Reason bytes n l g) (sym same) rb in
    let kinds = same_kind bytes at k l a b2 in
    same_reason bytes at k f g ra (subst (λ (x : FieldKind). Reason bytes at x g) (sym kinds) r2)

-- An image whose spelling the bytes begin with has no field at which they stop.
not_spelled : (bytes : List ℕ) (f : ImageFault) (a : AtField bytes f) (n : ℕ) (image : ImageParts) → n ≤ length bytes → Spells (take n bytes) image → a.at ≤ n → ⊥
not_spelled bytes f a n image inside spelled le =
    let b = begins_whole (take n bytes) image spelled in
    let s = a.comes.each image (begins_less bytes a.at n image le inside b) in
    let l = lies_in (image_fields image) a.at a.kind s in
    let all : take n bytes ≡ l.front ++ (s.bytes ++ l.rest) = spelled.bytes_are ∙ sym (fields_spell image spelled.fits spelled.in_range) ∙ l.all_are in
    let long : length (take n bytes) ≡ n = length-take n bytes ∙ omega (arith, inside) in
    let sum : n ≡ a.at + (length s.bytes + length l.rest) = sym long ∙ ap length all ∙ length-append l.front (s.bytes ++ l.rest) ∙ omega (arith, l.at_is, length-append s.bytes l.rest) in
    passes bytes a.at a.kind f a.reason n image inside b s (omega (arith, sum))

-- No image is spelled by a longer front of bytes than another one.
not_longer : (bytes : List ℕ) (n m : ℕ) (p q : ImageParts) (more : List ℕ) → n < m → m ≤ length bytes → Spells (take n bytes) p → Spells (take m bytes ++ more) q → ⊥
not_longer bytes n m p q more lt inside a b =
    let front = take m bytes in
    let split : front ≡ take n bytes ++ drop n front = sym (take-append-drop n front) ∙ ap (λ (t : List ℕ). t ++ drop n front) (take-take n m bytes (omega (arith, lt))) in
    let longer : Spells (take n bytes ++ (drop n front ++ more)) q = subst (λ (t : List ℕ). Spells t q) (ap (λ (t : List ℕ). t ++ more) split ∙ append_assoc (take n bytes) (drop n front) more) b in
    let none = Spells-prefix (take n bytes) (drop n front ++ more) p q a longer in
    omega (arith, ap length none, length-append (drop n front) more, length-drop n front, length-take m bytes, inside, lt)

spells_more : (bytes : List ℕ) (image : ImageParts) (b : Begins bytes image) → Spells (bytes ++ b.more) image
spells_more bytes image b = record { fits = b.fits; in_range = b.in_range; bytes_are = sym b.bytes_are }

spells_all : (bytes : List ℕ) (image : ImageParts) → Spells bytes image → Spells (take (length bytes) bytes) image
spells_all bytes image s = subst (λ (t : List ℕ). Spells t image) (sym (take_all (length bytes) bytes (omega arith))) s

-- Bytes that stop at a field do not go on after a spelling.
not_both : (bytes : List ℕ) (f g : ImageFault) → AtField bytes f → GoesOn bytes g → ⊥
not_both bytes f g a o =
    elim (cases_lt o.at a.at) [
      | inl lt ↦ not_longer bytes o.at a.at o.image a.comes.image a.comes.begins.more lt a.comes.inside o.spells (spells_more (take a.at bytes) a.comes.image a.comes.begins)
      | inr le ↦ not_spelled bytes f a o.at o.image (omega (arith, o.more)) o.spells le
    ]

same_end : (bytes : List ℕ) (f g : ImageFault) → GoesOn bytes f → GoesOn bytes g → f ≡ g
same_end bytes f g a b =
    elim (cases_order a.at b.at) [
      | inl same ↦ a.fault_is ∙ ap (λ (n : ℕ). Trailing n) same ∙ sym b.fault_is
      | inr other ↦ elim other [
        | inl lt ↦ absurd (not_longer bytes a.at b.at a.image b.image [] lt (omega (arith, b.more)) a.spells (subst (λ (t : List ℕ). Spells t b.image) (sym (append-nil (take b.at bytes))) b.spells))
        | inr gt ↦ absurd (not_longer bytes b.at a.at b.image a.image [] gt (omega (arith, a.more)) b.spells (subst (λ (t : List ℕ). Spells t a.image) (sym (append-nil (take a.at bytes))) a.spells))
      ]
    ]

same_field : (bytes : List ℕ) (f g : ImageFault) → AtField bytes f → AtField bytes g → f ≡ g
same_field bytes f g a b =
    elim (cases_order a.at b.at) [
      | inl same ↦ both_at_fields bytes f g a.kind a.at b.at b.kind a.comes a.reason b.comes b.reason same
      | inr other ↦ elim other [
        | inl lt ↦ absurd (not_later bytes f a.at b.at a.kind b.kind a.comes a.reason b.comes lt)
        | inr gt ↦ absurd (not_later bytes g b.at a.at b.kind a.kind b.comes b.reason a.comes gt)
      ]
    ]

pub one_fault : (bytes : List ℕ) (f g : ImageFault) → IsFirstFault bytes f → IsFirstFault bytes g → f ≡ g
one_fault bytes f g a b =
    elim (at_field bytes f a) [
      | inl x ↦ elim (at_field bytes g b) [
        | inl y ↦ same_field bytes f g x y
        | inr y ↦ absurd (not_both bytes f g x y)
      ]
      | inr x ↦ elim (at_field bytes g b) [
        | inl y ↦ absurd (not_both bytes g f y x)
        | inr y ↦ same_end bytes f g x y
      ]
    ]

pub no_fault : (bytes : List ℕ) (image : ImageParts) (f : ImageFault) → Spells bytes image → IsFirstFault bytes f → ⊥
no_fault bytes image f s a =
    elim (at_field bytes f a) [
      | inl x ↦ not_spelled bytes f x (length bytes) image (omega arith) (spells_all bytes image s) x.comes.inside
      | inr o ↦ not_longer bytes o.at (length bytes) o.image image [] o.more (omega arith) o.spells (subst (λ (t : List ℕ). Spells t image) (sym (append-nil (take (length bytes) bytes))) (spells_all bytes image s))
    ]
