-- Where reading one field stops.
use Rattle.std.proofs.Common.{◌≡◌, ℕ, ◌+◌, ◌^◌, ◌<◌, ◌≤◌, Bool, true, false, cond, ltb, List, [], ◌∷◌, ◌++◌, length, get_or, take, drop}
use Rattle.std.proofs.Common.{Option, Some, None, Result, Ok, Err, refl, sym, ap, subst, ◌∙◌, arith, inl, inr}
use Rattle.std.specs.Prelude.{◌⊎◌, ◌||◌, ◌==◌, codes}
use Rattle.std.specs.Int.{Width, w16, w32, w64, byte_len, from_be_bytes, to_be_bytes}
use Rattle.std.specs.Option.{ok_or}
use Rattle.std.specs.Str.{bytes_eq}
use Rattle.std.proofs.lemmas.Bool.{ltb-false, ltb-true}
use Rattle.std.proofs.lemmas.List.{take-append-drop, length-append, length-take, append-nil, nil_from_length}
use Rattle.ifs_base.specs.declared.op.Kind.TheVariants.{Truth}
use Rattle.ifs_base.specs.declared.op.Op.TheVariants.{Ret}
use Rattle.ifs_base.specs.Spelling.{spelling, op_of, kind_of_code, code_of_kind, HasSpelling}
use Rattle.ifs_base.specs.Results.{◌>>=◌}
use Rattle.ifs_image.specs.declared.fault.ImageFault.{ImageFault}
use Rattle.ifs_image.specs.declared.fault.ImageFault.TheVariants.{Truncated, WrongMagic, WrongVersion, OutOfLimit}
use Rattle.ifs_image.specs.declared.fault.ImageFault.TheVariants.{NoInstruction}
use Rattle.ifs_image.specs.Limits.{IsVersion}
use Rattle.ifs_image.specs.Reading.{Cursor, cursor, Read, bytes_at, byte_at, number_at, number_within, byte_within}
use Rattle.ifs_image.specs.Reading.{magic_at, version_at, kind_at, instruction_at}
use Rattle.ifs_image.specs.Fields.{FieldKind, Magic, Version, Number, Instruction, field, bytes_of, number, byte, kind_fields, op_fields}
use Rattle.ifs_image.specs.Faults.{HasShape, StandsAt, IsCut, IsWrong}
use Rattle.ifs_image.proofs.FieldLaws.{bind_ok, guard_ok, ok_is, IsField, IsWide, wide16, wide32, wide64}
use Rattle.ifs_image.proofs.FieldLaws.{number_field, within_field}
use Rattle.ifs_image.proofs.KindLaws.{byte_field, kind_field}
use Rattle.ifs_image.proofs.PartLaws.{op_field, length-spelling}
use Rattle.ifs_image.proofs.ImageLaws.{done, magic_field, version_field}
use Rattle.ifs_image.proofs.Stops.{Why, Part, bind_err, broke, err_is}

-- ---- results that are faults

pub guard_err : {A : Type 0} (b : Bool) (d : ImageFault) (x : A) (fault : ImageFault) → cond b (Err d) (Ok x) ≡ Err fault → (b ≡ true) × (fault ≡ d)
guard_err {A} true d x fault e = (refl, sym (err_is A d fault e))
guard_err {A} false d x fault e = absurd cc

pub passed_err : {A : Type 0} (b : Bool) (d : ImageFault) (x : A) (fault : ImageFault) → cond b (Ok x) (Err d) ≡ Err fault → (b ≡ false) × (fault ≡ d)
passed_err {A} true d x fault e = absurd cc
passed_err {A} false d x fault e = (refl, sym (err_is A d fault e))

pub bytes_fail : (n at : ℕ) (left : List ℕ) (fault : ImageFault) → bytes_at n (cursor at left) ≡ Err fault → (length left < n) × (fault ≡ Truncated at)
unfolding bytes_at
bytes_fail n at left fault e =
    let g = guard_err (ltb (length left) n) (Truncated at) (take n left, cursor (at + n) (drop n left)) fault e in
    (ltb-true _ _ g.0, g.1)

-- The bytes that were taken.
pub record TookBytes (n at : ℕ) (left : List ℕ) (y : List ℕ × Cursor) : Type 0 where
  pub long : n ≤ length left
  pub is : y ≡ (take n left, cursor (at + n) (drop n left))

pub bytes_took : (n at : ℕ) (left : List ℕ) (y : List ℕ × Cursor) → bytes_at n (cursor at left) ≡ Ok y → TookBytes n at left y
unfolding bytes_at
bytes_took n at left y e =
    let g = guard_ok (ltb (length left) n) (Truncated at) (take n left, cursor (at + n) (drop n left)) y e in
    record { long = ltb-false _ _ g.0; is = sym g.1 }

-- ---- a field of so many bytes

-- Reading a field of so many bytes fails if they are not there, or with its own fault.
abbrev pub FailsOnly : ℕ → (ℕ → ImageFault) → ℕ → List ℕ → ImageFault → Type 0
FailsOnly width reason at left fault = ((length left < width) × (fault ≡ Truncated at)) ⊎ ((width ≤ length left) × (fault ≡ reason at))

-- What a kind of a fixed width says of its bytes and faults.
pub record IsFixed (kind : FieldKind) (width : ℕ) (reason : ℕ → ImageFault) : Type 0 where
  pub shape : (bytes : List ℕ) → length bytes ≡ width → HasShape kind bytes
  pub cut : (at : ℕ) (left : List ℕ) (fault : ImageFault) → length left < width → fault ≡ Truncated at → IsCut kind at left fault
  pub wrong : (at : ℕ) (left : List ℕ) (fault : ImageFault) → fault ≡ reason at → IsWrong kind at left fault width

pub fixed_magic : IsFixed Magic 4 (λ at. WrongMagic at)
fixed_magic = record { shape = λ bytes e. e; cut = λ at left fault short is. (short, is); wrong = λ at left fault is. (is, refl) }

pub fixed_version : IsFixed Version 1 (λ at. WrongVersion at)
fixed_version = record { shape = λ bytes e. e; cut = λ at left fault short is. (short, is); wrong = λ at left fault is. (is, refl) }

pub fixed_number : (width : ℕ) → 1 ≤ width → IsFixed (Number width) width (λ at. OutOfLimit at)
fixed_number width some = record { shape = λ bytes e. (some, e); cut = λ at left fault short is. (short, is); wrong = λ at left fault is. (is, refl) }

pub fixed_op : IsFixed Instruction 4 (λ at. NoInstruction at)
fixed_op = record { shape = λ bytes e. e; cut = λ at left fault short is. (short, is); wrong = λ at left fault is. (is, refl) }

-- The one field of a value is at its beginning.
pub stands_alone : (kind : FieldKind) (bytes : List ℕ) → HasShape kind bytes → StandsAt (field kind bytes ∷ []) 0 kind
stands_alone kind bytes shape = record { before = []; bytes = bytes; after = []; fields_are = refl; at_is = refl; shape = shape }

one_field : (kind : FieldKind) (bytes : List ℕ) → bytes_of (field kind bytes ∷ []) ≡ bytes
one_field kind bytes = append-nil bytes

-- Nothing is left of a text that has as many bytes as the front that it begins with.
pub nothing_more : (text front rest : List ℕ) → text ≡ front ++ rest → length text ≡ length front → text ≡ front
nothing_more text front rest e same =
    let none : rest ≡ [] = nil_from_length rest (omega (arith, ap length e, length-append front rest, same)) in
    e ∙ ap (λ (t : List ℕ). front ++ t) none ∙ append-nil front

pub not_both : {A : Type 0} (x : A) (fault : ImageFault) → done x ≡ broke A fault → ⊥
not_both x fault e = absurd cc

-- No good value is at the beginning of what cannot be read.
pub unread_by : {X : Type 0} (read : Cursor → Read X) (text : X → List ℕ) (Good : X → Type 0) → IsField read text Good → (at : ℕ) (left : List ℕ) (fault : ImageFault) → read (cursor at left) ≡ Err fault
    → (y : X) (rest : List ℕ) → Good y → left ≡ text y ++ rest → ⊥
unread_by {X} read text Good f at left fault e y rest good is =
    let again : read (cursor at left) ≡ Ok (y, cursor (at + length (text y)) rest) = ap (λ (b : List ℕ). read (cursor at b)) is ∙ f.again y at rest good in
    not_both (y, cursor (at + length (text y)) rest) fault (sym again ∙ e)

-- A field that is the first one breaks: so many bytes show a fault, and no good value begins with them.
pub record Shows {X : Type 0} (text : X → List ℕ) (Good : X → Type 0) (kind : FieldKind) (at : ℕ) (left : List ℕ) (fault : ImageFault) : Type 0 where
  pub shown : ℕ
  pub wrong : IsWrong kind at left fault shown
  pub inside : shown ≤ length left
  pub never : (y : X) (rest : List ℕ) → Good y → text y ≡ take shown left ++ rest → ⊥

pub why_here : {X : Type 0} (text : X → List ℕ) (Good : X → Type 0) (kind : FieldKind) (at : ℕ) (left : List ℕ) (fault : ImageFault) → IsCut kind at left fault ⊎ Shows text Good kind at left fault → Why text Good 0 kind at left fault
why_here text Good kind at left fault (inl cut) =
    let same : at ≡ at + 0 = omega arith in
    inl (subst (λ (a : ℕ). IsCut kind a left fault) same cut)
why_here text Good kind at left fault (inr s) =
    let same : at ≡ at + 0 = omega arith in
    let none : 0 + s.shown ≡ s.shown = omega arith in
    inr (record {
      shown = s.shown;
      wrong = subst (λ (a : ℕ). IsWrong kind a left fault s.shown) same s.wrong;
      inside = omega (arith, s.inside);
      never = λ y rest good e. s.never y rest good (e ∙ ap (λ (k : ℕ). take k left ++ rest) none);
    })

-- A good value whose text is the front of what cannot be read.
pub all_shown : {X : Type 0} (text : X → List ℕ) (Good : X → Type 0) (left : List ℕ) → ((y : X) (rest : List ℕ) → Good y → left ≡ text y ++ rest → ⊥)
    → (n : ℕ) → n ≤ length left → (y : X) (rest : List ℕ) → Good y → length (text y) ≡ n → text y ≡ take n left ++ rest → ⊥
all_shown text Good left unread n le y rest good wide e =
    let is : text y ≡ take n left = nothing_more (text y) (take n left) rest e (omega (arith, wide, length-take n left, le)) in
    unread y (drop n left) good (sym (take-append-drop n left) ∙ ap (λ (t : List ℕ). t ++ drop n left) (sym is))

why_fixed : {X : Type 0} (kind : FieldKind) (width : ℕ) (reason : ℕ → ImageFault) → IsFixed kind width reason → (text : X → List ℕ) (Good : X → Type 0) → ((x : X) → Good x → length (text x) ≡ width)
    → (at : ℕ) (left : List ℕ) (fault : ImageFault) → ((y : X) (rest : List ℕ) → Good y → left ≡ text y ++ rest → ⊥) → FailsOnly width reason at left fault → IsCut kind at left fault ⊎ Shows text Good kind at left fault
why_fixed kind width reason fixed text Good wide at left fault unread (inl short) = inl (fixed.cut at left fault short.0 short.1)
why_fixed kind width reason fixed text Good wide at left fault unread (inr whole) =
    inr (record {
      shown = width;
      wrong = fixed.wrong at left fault whole.1;
      inside = whole.0;
      never = λ y rest good e. all_shown text Good left unread width whole.0 y rest good (wide y good) e;
    })

-- A part that is one field of so many bytes.
pub fixed_part : {X : Type 0} (kind : FieldKind) (width : ℕ) (reason : ℕ → ImageFault) → IsFixed kind width reason → (read : Cursor → Read X) (text : X → List ℕ) (Good : X → Type 0) → IsField read text Good
    → ((x : X) → Good x → length (text x) ≡ width) → (x : X) → Good x
    → ((at : ℕ) (left : List ℕ) (fault : ImageFault) → read (cursor at left) ≡ Err fault → FailsOnly width reason at left fault)
    → Part read text (λ x. field kind (text x) ∷ []) Good
fixed_part {X} kind width reason fixed read text Good is wide x good fails = record {
  is_field = is;
  spells = λ y. one_field kind (text y);
  stops = λ at left fault fits e.
      let unread = unread_by read text Good is at left fault e in
      record {
        n = 0;
        kind = kind;
        inside = omega arith;
        x = x;
        good = good;
        more = text x;
        begins = refl;
        each = λ y rest good_y _. stands_alone kind (text y) (fixed.shape (text y) (wide y good_y));
        unread = unread;
        why = why_here text Good kind at left fault (why_fixed kind width reason fixed text Good wide at left fault unread (fails at left fault e));
      };
}

-- ---- numbers

-- Of so many bytes a reader takes all, and then succeeds or fails with its own fault.
then_fails : {X : Type 0} (n : ℕ) (reason : ℕ → ImageFault) (at : ℕ) (left : List ℕ) (fault : ImageFault) (next : List ℕ × Cursor → Result X ImageFault) → (bytes_at n (cursor at left) >>= next) ≡ Err fault
    → ((y : List ℕ × Cursor) → next y ≡ Err fault → fault ≡ reason at) → FailsOnly n reason at left fault
then_fails {X} n reason at left fault next e own =
    bind_err (bytes_at n (cursor at left)) next fault (FailsOnly n reason at left fault) e
    (λ failed. inl (bytes_fail n at left fault failed))
    (λ y went later. inr ((bytes_took n at left y went).long, own y later))

pub number_short : (w : Width) (at : ℕ) (left : List ℕ) (fault : ImageFault) → number_at w (cursor at left) ≡ Err fault → (length left < byte_len w) × (fault ≡ Truncated at)
unfolding number_at
number_short w at left fault e =
    bind_err (bytes_at (byte_len w) (cursor at left)) (λ bytes. Ok (from_be_bytes w bytes.0, bytes.1)) fault ((length left < byte_len w) × (fault ≡ Truncated at)) e
    (λ failed. bytes_fail (byte_len w) at left fault failed)
    (λ y went later. absurd cc)

number_fails : (w : Width) (reason : ℕ → ImageFault) (at : ℕ) (left : List ℕ) (fault : ImageFault) → number_at w (cursor at left) ≡ Err fault → FailsOnly (byte_len w) reason at left fault
number_fails w reason at left fault e = inl (number_short w at left fault e)

-- The number that was taken.
pub number_took : (w : Width) (at : ℕ) (left : List ℕ) (y : ℕ × Cursor) → number_at w (cursor at left) ≡ Ok y → (byte_len w ≤ length left) × (y.0 ≡ from_be_bytes w (take (byte_len w) left))
unfolding number_at
number_took w at left y e =
    let b = bind_ok (bytes_at (byte_len w) (cursor at left)) (λ bytes. Ok (from_be_bytes w bytes.0, bytes.1)) y e in
    let t = bytes_took (byte_len w) at left b.0 b.1 in
    let is : (from_be_bytes w b.0.0, b.0.1) ≡ y = ok_is (from_be_bytes w b.0.0, b.0.1) y b.2 in
    (t.long, ap (λ (z : ℕ × Cursor). z.0) (sym is) ∙ ap (λ (z : List ℕ × Cursor). from_be_bytes w z.0) t.is)

within_fails : (w : Width) (least most at : ℕ) (left : List ℕ) (fault : ImageFault) → number_within w least most (cursor at left) ≡ Err fault → FailsOnly (byte_len w) (λ at. OutOfLimit at) at left fault
unfolding number_within
within_fails w least most at left fault e =
    bind_err (number_at w (cursor at left)) (λ n. cond (ltb n.0 least || ltb most n.0) (Err (OutOfLimit at)) (Ok n)) fault (FailsOnly (byte_len w) (λ at. OutOfLimit at) at left fault) e
    (λ failed. number_fails w (λ at. OutOfLimit at) at left fault failed)
    (λ y went later. inr ((number_took w at left y went).0, (guard_err (ltb y.0 least || ltb most y.0) (OutOfLimit at) y fault later).1))

-- A number without limits of its own.
pub number_part : (w : Width) (limit : ℕ) → IsWide w limit → 1 ≤ byte_len w → 0 < limit → Part (number_at w) (to_be_bytes w) (λ n. number w n ∷ []) (λ n. n < limit)
number_part w limit wide long some =
    fixed_part (Number (byte_len w)) (byte_len w) (λ at. OutOfLimit at) (fixed_number (byte_len w) long) (number_at w) (to_be_bytes w) (λ n. n < limit) (number_field w limit wide) (λ n good. wide.len n) 0 some
    (λ at left fault e. number_fails w (λ at. OutOfLimit at) at left fault e)

pub within_part : (w : Width) (limit least most : ℕ) → IsWide w limit → 1 ≤ byte_len w → most < limit → least ≤ most → Part (number_within w least most) (to_be_bytes w) (λ n. number w n ∷ []) (λ n. (least ≤ n) × (n ≤ most))
within_part w limit least most wide long small order =
    fixed_part (Number (byte_len w)) (byte_len w) (λ at. OutOfLimit at) (fixed_number (byte_len w) long) (number_within w least most) (to_be_bytes w) (λ n. (least ≤ n) × (n ≤ most)) (within_field w limit least most wide small) (λ n good. wide.len n) least (omega arith, order)
    (λ at left fault e. within_fails w least most at left fault e)

pub number16 : Part (number_at w16) (to_be_bytes w16) (λ n. number w16 n ∷ []) (λ n. n < 2 ^ 16)
number16 = number_part w16 (2 ^ 16) wide16 (omega arith) (omega arith)

pub number64 : Part (number_at w64) (to_be_bytes w64) (λ n. number w64 n ∷ []) (λ n. n < 2 ^ 64)
number64 = number_part w64 (2 ^ 64) wide64 (omega arith) (omega arith)

pub part16 : (least most : ℕ) → most < 2 ^ 16 → least ≤ most → Part (number_within w16 least most) (to_be_bytes w16) (λ n. number w16 n ∷ []) (λ n. (least ≤ n) × (n ≤ most))
part16 least most small order = within_part w16 (2 ^ 16) least most wide16 (omega arith) small order

pub part32 : (least most : ℕ) → most < 2 ^ 32 → least ≤ most → Part (number_within w32 least most) (to_be_bytes w32) (λ n. number w32 n ∷ []) (λ n. (least ≤ n) × (n ≤ most))
part32 least most small order = within_part w32 (2 ^ 32) least most wide32 (omega arith) small order

-- ---- one byte

byte_fails : (reason : ℕ → ImageFault) (at : ℕ) (left : List ℕ) (fault : ImageFault) → byte_at (cursor at left) ≡ Err fault → FailsOnly 1 reason at left fault
unfolding byte_at
byte_fails reason at left fault e = then_fails 1 reason at left fault (λ bytes. Ok (get_or bytes.0 0 0, bytes.1)) e (λ y later. absurd cc)

byte_long : (at : ℕ) (left : List ℕ) (y : ℕ × Cursor) → byte_at (cursor at left) ≡ Ok y → 1 ≤ length left
unfolding byte_at
byte_long at left y e =
    let b = bind_ok (bytes_at 1 (cursor at left)) (λ bytes. Ok (get_or bytes.0 0 0, bytes.1)) y e in
    (bytes_took 1 at left b.0 b.1).long

-- After a byte a reader succeeds or fails with its own fault.
byte_then : {X : Type 0} (reason : ℕ → ImageFault) (at : ℕ) (left : List ℕ) (fault : ImageFault) (next : ℕ × Cursor → Result X ImageFault) → (byte_at (cursor at left) >>= next) ≡ Err fault
    → ((y : ℕ × Cursor) → next y ≡ Err fault → fault ≡ reason at) → FailsOnly 1 reason at left fault
byte_then reason at left fault next e own =
    bind_err (byte_at (cursor at left)) next fault (FailsOnly 1 reason at left fault) e
    (λ failed. byte_fails reason at left fault failed)
    (λ y went later. inr (byte_long at left y went, own y later))

byte_within_fails : (most at : ℕ) (left : List ℕ) (fault : ImageFault) → byte_within most (cursor at left) ≡ Err fault → FailsOnly 1 (λ at. OutOfLimit at) at left fault
unfolding byte_within
byte_within_fails most at left fault e =
    byte_then (λ at. OutOfLimit at) at left fault (λ n. cond (ltb most n.0) (Err (OutOfLimit at)) (Ok n)) e
    (λ y later. (guard_err (ltb most y.0) (OutOfLimit at) y fault later).1)

pub byte_part : (most : ℕ) → Part (byte_within most) (λ n. n ∷ []) (λ n. byte n ∷ []) (λ n. n ≤ most)
byte_part most =
    fixed_part (Number 1) 1 (λ at. OutOfLimit at) (fixed_number 1 (omega arith)) (byte_within most) (λ n. n ∷ []) (λ n. n ≤ most) (byte_field most) (λ n good. refl) 0 (omega arith)
    (λ at left fault e. byte_within_fails most at left fault e)

-- A value that is there, or else a fault.
ok_or_err : {A B : Type 0} (o : Option A) (d : ImageFault) (next : A → Result B ImageFault) (fault : ImageFault) → ((x : A) → next x ≡ Err fault → ⊥) → (ok_or o d >>= next) ≡ Err fault → fault ≡ d
ok_or_err {A} {B} None d next fault never e = sym (err_is B d fault e)
ok_or_err {A} {B} (Some x) d next fault never e = absurd (never x e)

kind_fails : (at : ℕ) (left : List ℕ) (fault : ImageFault) → kind_at (cursor at left) ≡ Err fault → FailsOnly 1 (λ at. OutOfLimit at) at left fault
unfolding kind_at
kind_fails at left fault e =
    byte_then (λ at. OutOfLimit at) at left fault (λ code. ok_or (kind_of_code code.0) (OutOfLimit at) >>= λ kind. Ok (kind, code.1)) e
    (λ y later. ok_or_err (kind_of_code y.0) (OutOfLimit at) (λ kind. Ok (kind, y.1)) fault (λ x ok. absurd cc) later)

pub kind_part : Part kind_at (λ kind. code_of_kind kind ∷ []) kind_fields (λ _. Unit {0})
kind_part =
    fixed_part (Number 1) 1 (λ at. OutOfLimit at) (fixed_number 1 (omega arith)) kind_at (λ kind. code_of_kind kind ∷ []) (λ _. Unit {0}) kind_field (λ kind good. refl) Truth tt
    (λ at left fault e. kind_fails at left fault e)

-- ---- magic, version and instructions

magic_fails : (at : ℕ) (left : List ℕ) (fault : ImageFault) → magic_at (cursor at left) ≡ Err fault → FailsOnly 4 (λ at. WrongMagic at) at left fault
unfolding magic_at
magic_fails at left fault e =
    then_fails 4 (λ at. WrongMagic at) at left fault (λ bytes. cond (bytes_eq bytes.0 (codes "IFSV")) (Ok (tt, bytes.1)) (Err (WrongMagic at))) e
    (λ y later. (passed_err (bytes_eq y.0 (codes "IFSV")) (WrongMagic at) (tt, y.1) fault later).1)

pub magic_part : Part magic_at (λ _. codes "IFSV") (λ _. field Magic (codes "IFSV") ∷ []) (λ _. Unit {0})
magic_part =
    fixed_part Magic 4 (λ at. WrongMagic at) fixed_magic magic_at (λ _. codes "IFSV") (λ _. Unit {0}) magic_field (λ x good. refl) tt tt
    (λ at left fault e. magic_fails at left fault e)

version_fails : (at : ℕ) (left : List ℕ) (fault : ImageFault) → version_at (cursor at left) ≡ Err fault → FailsOnly 1 (λ at. WrongVersion at) at left fault
unfolding version_at
version_fails at left fault e =
    byte_then (λ at. WrongVersion at) at left fault (λ version. cond ((version.0 == 1) || (version.0 == 2)) (Ok version) (Err (WrongVersion at))) e
    (λ y later. (passed_err ((y.0 == 1) || (y.0 == 2)) (WrongVersion at) y fault later).1)

pub version_part : Part version_at (λ version. version ∷ []) (λ version. field Version (version ∷ []) ∷ []) IsVersion
version_part =
    fixed_part Version 1 (λ at. WrongVersion at) fixed_version version_at (λ version. version ∷ []) IsVersion version_field (λ x good. refl) 1 (omega arith, omega arith)
    (λ at left fault e. version_fails at left fault e)

op_fails : (at : ℕ) (left : List ℕ) (fault : ImageFault) → instruction_at (cursor at left) ≡ Err fault → FailsOnly 4 (λ at. NoInstruction at) at left fault
unfolding instruction_at
op_fails at left fault e =
    then_fails 4 (λ at. NoInstruction at) at left fault (λ bytes. ok_or (op_of bytes.0) (NoInstruction at) >>= λ op. Ok (op, bytes.1)) e
    (λ y later. ok_or_err (op_of y.0) (NoInstruction at) (λ op. Ok (op, y.1)) fault (λ x ok. absurd cc) later)

pub op_part : Part instruction_at spelling op_fields HasSpelling
op_part =
    fixed_part Instruction 4 (λ at. NoInstruction at) fixed_op instruction_at spelling HasSpelling op_field (λ op good. length-spelling op) Ret tt
    (λ at left fault e. op_fails at left fault e)
