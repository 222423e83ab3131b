-- Where reading stops: the field that cannot be read, found part by part.
use Rattle.std.proofs.Common.{◌≡◌, ℕ, ◌+◌, ◌≤◌, List, ◌∷◌, ◌++◌, length, take, drop}
use Rattle.std.proofs.Common.{Result, Ok, Err, refl, sym, ap, subst, ◌∙◌, append_assoc, arith, inl, inr}
use Rattle.std.specs.Prelude.{◌⊎◌}
use Rattle.std.proofs.lemmas.Bool.{cases_lt}
use Rattle.std.proofs.lemmas.List.{take_at, drop_at, take-take, take-append-drop, take-append-le, drop-take, drop-drop}
use Rattle.std.proofs.lemmas.List.{length-append}
use Rattle.std.proofs.lemmas.List.Concat.{flat_map-append}
use Rattle.ifs_base.specs.Results.{◌>>=◌}
use Rattle.ifs_image.specs.declared.fault.ImageFault.{ImageFault}
use Rattle.ifs_image.specs.Reading.{Cursor, cursor, Read}
use Rattle.ifs_image.specs.Fields.{FieldKind, Field, field, bytes_of}
use Rattle.ifs_image.specs.Faults.{StandsAt, IsCut, IsWrong}
use Rattle.ifs_image.proofs.FieldLaws.{IsBytes, ok_is, IsField}

-- ---- lists

-- The shorter one of two fronts of a list is a front of the longer one.
pub front_of : (a r b s : List ℕ) → a ++ r ≡ b ++ s → length b ≤ length a → a ≡ b ++ drop (length b) a
front_of a r b s e le =
    let n = length b in
    let same : take n a ≡ b = sym (take-append-le n a r le) ∙ ap (take n) e ∙ take_at b s n refl in
    sym (take-append-drop n a) ∙ ap (λ (t : List ℕ). t ++ drop n a) same

pub take_sum : (n m : ℕ) (xs : List ℕ) → take (n + m) xs ≡ take n xs ++ take m (drop n xs)
take_sum n m xs =
    sym (take-append-drop n (take (n + m) xs))
    ∙ ap (λ (t : List ℕ). t ++ drop n (take (n + m) xs)) (take-take n (n + m) xs (omega arith))
    ∙ ap (λ (t : List ℕ). take n xs ++ t) (drop-take n m xs)

pub take_past : (a b : List ℕ) (m : ℕ) → take (length a + m) (a ++ b) ≡ a ++ take m b
take_past a b m =
    take_sum (length a) m (a ++ b)
    ∙ ap (λ (t : List ℕ). t ++ take m (drop (length a) (a ++ b))) (take_at a b (length a) refl)
    ∙ ap (λ (t : List ℕ). a ++ take m t) (drop_at a b (length a) refl)

pub drop_past : (a b : List ℕ) (m : ℕ) → drop (length a + m) (a ++ b) ≡ drop m b
drop_past a b m = sym (drop-drop m (length a) (a ++ b)) ∙ ap (drop m) (drop_at a b (length a) refl)

-- A list begins with as many bytes as another one, if it is no front of that one.
pub reaches : (left : List ℕ) (m : ℕ) (a tail rest : List ℕ) → m ≤ length left → ((r : List ℕ) → left ≡ a ++ r → ⊥) → a ++ tail ≡ take m left ++ rest → (d : List ℕ) × (a ≡ take m left ++ d)
reaches left m a tail rest le never e =
    let front = take m left in
    elim (cases_lt (length a) (length front)) [
      | inl lt ↦
          let d = drop (length a) front in
          let longer : front ≡ a ++ d = front_of front rest a tail (sym e) (omega (arith, lt)) in
          absurd (never (d ++ drop m left) (sym (take-append-drop m left) ∙ ap (λ (t : List ℕ). t ++ drop m left) longer ∙ append_assoc a d (drop m left)))
      | inr long ↦ (drop (length front) a, front_of a tail front rest e long)
    ]

-- ---- fields at an offset

pub stands_left : (fields others : List Field) (n : ℕ) (kind : FieldKind) → StandsAt fields n kind → StandsAt (fields ++ others) n kind
stands_left fields others n kind s = record {
  before = s.before;
  bytes = s.bytes;
  after = s.after ++ others;
  fields_are = ap (λ (fs : List Field). fs ++ others) s.fields_are ∙ append_assoc s.before (field kind s.bytes ∷ s.after) others;
  at_is = s.at_is;
  shape = s.shape;
}

pub bytes_of-append : (xs ys : List Field) → bytes_of (xs ++ ys) ≡ bytes_of xs ++ bytes_of ys
bytes_of-append xs ys = flat_map-append (λ (f : Field). f.bytes) xs ys

pub stands_right : (fields others : List Field) (n total : ℕ) (kind : FieldKind) → length (bytes_of fields) + n ≡ total → StandsAt others n kind → StandsAt (fields ++ others) total kind
stands_right fields others n total kind sum s = record {
  before = fields ++ s.before;
  bytes = s.bytes;
  after = s.after;
  fields_are = ap (λ (fs : List Field). fields ++ fs) s.fields_are ∙ sym (append_assoc fields s.before (field kind s.bytes ∷ s.after));
  at_is = ap length (bytes_of-append fields s.before) ∙ length-append (bytes_of fields) (bytes_of s.before) ∙ omega (arith, sum, s.at_is);
  shape = s.shape;
}

-- ---- where reading stops

-- At a field of this kind not all bytes are there, or with so many bytes of it no good value begins.
pub record Breaks {X : Type 0} (text : X → List ℕ) (Good : X → Type 0) (n : ℕ) (kind : FieldKind) (at : ℕ) (left : List ℕ) (fault : ImageFault) : Type 0 where
  pub shown : ℕ
  pub wrong : IsWrong kind (at + n) (drop n left) fault shown
  pub inside : n + shown ≤ length left
  pub never : (y : X) (rest : List ℕ) → Good y → text y ≡ take (n + shown) left ++ rest → ⊥

abbrev pub Why : {X : Type 0} → (X → List ℕ) → (X → Type 0) → ℕ → FieldKind → ℕ → List ℕ → ImageFault → Type 0
Why text Good n kind at left fault = IsCut kind (at + n) (drop n left) fault ⊎ Breaks text Good n kind at left fault

-- Bytes that spell no good value: so many of them begin one, and each that they begin has a field of this kind there.
pub record Stop {X : Type 0} (text : X → List ℕ) (fields : X → List Field) (Good : X → Type 0) (at : ℕ) (left : List ℕ) (fault : ImageFault) : Type 0 where
  pub n : ℕ
  pub kind : FieldKind
  pub inside : n ≤ length left
  pub x : X
  pub good : Good x
  pub more : List ℕ
  pub begins : text x ≡ take n left ++ more
  pub each : (y : X) (rest : List ℕ) → Good y → text y ≡ take n left ++ rest → StandsAt (fields y) n kind
  pub unread : (y : X) (rest : List ℕ) → Good y → left ≡ text y ++ rest → ⊥
  pub why : Why text Good n kind at left fault

-- A part that is read: its fields, and where reading it stops.
pub record Part {X : Type 0} (read : Cursor → Read X) (text : X → List ℕ) (fields : X → List Field) (Good : X → Type 0) : Type 0 where
  pub is_field : IsField read text Good
  pub spells : (x : X) → bytes_of (fields x) ≡ text x
  pub stops : (at : ℕ) (left : List ℕ) (fault : ImageFault) → IsBytes left → read (cursor at left) ≡ Err fault → Stop text fields Good at left fault

-- A part comes first in a value.
pub record First {X Z : Type 0} (text1 : X → List ℕ) (fields1 : X → List Field) (Good1 : X → Type 0) (text : Z → List ℕ) (fields : Z → List Field) (Good : Z → Type 0) : Type 0 where
  pub first : Z → X
  pub rest : Z → List ℕ
  pub others : Z → List Field
  pub text_is : (z : Z) → Good z → text z ≡ text1 (first z) ++ rest z
  pub fields_are : (z : Z) → Good z → fields z ≡ fields1 (first z) ++ others z
  pub good : (z : Z) → Good z → Good1 (first z)
  pub whole : (x : X) → Good1 x → (z : Z) × Good z × (first z ≡ x)

-- The same spelling with the same rest is of the same value.
pub same_value : {X : Type 0} (read : Cursor → Read X) (text : X → List ℕ) (Good : X → Type 0) → IsField read text Good → (x y : X) (r s : List ℕ) → Good x → Good y → text x ++ r ≡ text y ++ s → (x ≡ y) × (r ≡ s)
same_value {X} read text Good f x y r s gx gy e =
    let a = f.again x 0 r gx in
    let b = f.again y 0 s gy in
    let both = ok_is (x, cursor (0 + length (text x)) r) (y, cursor (0 + length (text y)) s) (sym a ∙ ap (λ (t : List ℕ). read (cursor 0 t)) e ∙ b) in
    (ap (λ (z : X × Cursor). z.0) both, ap (λ (z : X × Cursor). z.1.left) both)

-- A value that was read, and the place after it.
pub record TookValue {X : Type 0} (text : X → List ℕ) (Good : X → Type 0) (at : ℕ) (left : List ℕ) (y : X × Cursor) : Type 0 where
  pub parts : left ≡ text y.0 ++ y.1.left
  pub rest_fits : IsBytes y.1.left
  pub good : Good y.0
  pub after : y.1 ≡ cursor (at + length (text y.0)) y.1.left

pub took_value : {X : Type 0} (read : Cursor → Read X) (text : X → List ℕ) (Good : X → Type 0) → IsField read text Good → (at : ℕ) (left : List ℕ) (y : X × Cursor) → IsBytes left → read (cursor at left) ≡ Ok y → TookValue text Good at left y
took_value {X} read text Good f at left y fits e =
    let t = f.taken (cursor at left) y fits e in
    let a = f.again y.0 at y.1.left t.1 in
    let same : y ≡ (y.0, cursor (at + length (text y.0)) y.1.left) = ok_is y (y.0, cursor (at + length (text y.0)) y.1.left) (sym e ∙ ap (λ (b : List ℕ). read (cursor at b)) t.0.parts ∙ a) in
    record { parts = t.0.parts; rest_fits = t.0.rest_fits; good = t.1; after = ap (λ (z : X × Cursor). z.1) same }

-- ---- parts that come first, and what comes after them

breaks_first : {X Z : Type 0} (text1 : X → List ℕ) (fields1 : X → List Field) (Good1 : X → Type 0) (text : Z → List ℕ) (fields : Z → List Field) (Good : Z → Type 0) (f : First text1 fields1 Good1 text fields Good)
    → (at : ℕ) (left : List ℕ) (fault : ImageFault) (n : ℕ) (kind : FieldKind) → ((y : X) (rest : List ℕ) → Good1 y → left ≡ text1 y ++ rest → ⊥)
    → Breaks text1 Good1 n kind at left fault → Breaks text Good n kind at left fault
breaks_first text1 fields1 Good1 text fields Good f at left fault n kind unread b = record {
  shown = b.shown;
  wrong = b.wrong;
  inside = b.inside;
  never = λ z rest good e.
      let r = reaches left (n + b.shown) (text1 (f.first z)) (f.rest z) rest b.inside (λ r is. unread (f.first z) r (f.good z good) is) (sym (f.text_is z good) ∙ e) in
      b.never (f.first z) r.0 (f.good z good) r.1;
}

pub stop_first : {X Z : Type 0} (text1 : X → List ℕ) (fields1 : X → List Field) (Good1 : X → Type 0) (text : Z → List ℕ) (fields : Z → List Field) (Good : Z → Type 0) → First text1 fields1 Good1 text fields Good
    → (at : ℕ) (left : List ℕ) (fault : ImageFault) → Stop text1 fields1 Good1 at left fault → Stop text fields Good at left fault
stop_first {X} {Z} text1 fields1 Good1 text fields Good f at left fault s =
    let w = f.whole s.x s.good in
    record {
      n = s.n;
      kind = s.kind;
      inside = s.inside;
      x = w.0;
      good = w.1;
      more = s.more ++ f.rest w.0;
      begins = f.text_is w.0 w.1 ∙ ap (λ (x : X). text1 x ++ f.rest w.0) w.2 ∙ ap (λ (t : List ℕ). t ++ f.rest w.0) s.begins ∙ append_assoc (take s.n left) s.more (f.rest w.0);
      each = λ z rest good e.
          let r = reaches left s.n (text1 (f.first z)) (f.rest z) rest s.inside (λ r is. s.unread (f.first z) r (f.good z good) is) (sym (f.text_is z good) ∙ e) in
          subst (λ (fs : List Field). StandsAt fs s.n s.kind) (sym (f.fields_are z good)) (stands_left (fields1 (f.first z)) (f.others z) s.n s.kind (s.each (f.first z) r.0 (f.good z good) r.1));
      unread = λ z rest good e. s.unread (f.first z) (f.rest z ++ rest) (f.good z good) (e ∙ ap (λ (t : List ℕ). t ++ rest) (f.text_is z good) ∙ append_assoc (text1 (f.first z)) (f.rest z) rest);
      why = elim s.why [
        | inl cut ↦ inl cut
        | inr b ↦ inr (breaks_first text1 fields1 Good1 text fields Good f at left fault s.n s.kind s.unread b)
      ];
    }

-- A value after a good first part: it has this first part.
abbrev pub After : {X Z : Type 0} → (Z → X) → (Z → Type 0) → X → Z → Type 0
After first Good x z = Good z × (first z ≡ x)

-- What a value that begins so has after its first part.
after_first : {X Z : Type 0} (read : Cursor → Read X) (text1 : X → List ℕ) (fields1 : X → List Field) (Good1 : X → Type 0) (text : Z → List ℕ) (fields : Z → List Field) (Good : Z → Type 0) → IsField read text1 Good1 → (f : First text1 fields1 Good1 text fields Good)
    → (x : X) → Good1 x → (left2 rest : List ℕ) (m : ℕ) (left : List ℕ) → left ≡ text1 x ++ left2 → (z : Z) → Good z → text z ≡ take (length (text1 x) + m) left ++ rest → (f.first z ≡ x) × (f.rest z ≡ take m left2 ++ rest)
after_first {X} read text1 fields1 Good1 text fields Good is f x good1 left2 rest m left parts z good e =
    let took : take (length (text1 x) + m) left ≡ text1 x ++ take m left2 = ap (take (length (text1 x) + m)) parts ∙ take_past (text1 x) left2 m in
    let begun : text1 (f.first z) ++ f.rest z ≡ text1 x ++ (take m left2 ++ rest) = sym (f.text_is z good) ∙ e ∙ ap (λ (t : List ℕ). t ++ rest) took ∙ append_assoc (text1 x) (take m left2) rest in
    same_value read text1 Good1 is (f.first z) x (f.rest z) (take m left2 ++ rest) (f.good z good) good1 begun

why_second : {X Z : Type 0} (read : Cursor → Read X) (text1 : X → List ℕ) (fields1 : X → List Field) (Good1 : X → Type 0) (text : Z → List ℕ) (fields : Z → List Field) (Good : Z → Type 0) → IsField read text1 Good1 → (f : First text1 fields1 Good1 text fields Good)
    → (x : X) → Good1 x → (at : ℕ) (left left2 : List ℕ) (fault : ImageFault) → left ≡ text1 x ++ left2 → (n : ℕ) (kind : FieldKind)
    → Why f.rest (After f.first Good x) n kind (at + length (text1 x)) left2 fault → Why text Good (length (text1 x) + n) kind at left fault
why_second {X} read text1 fields1 Good1 text fields Good is f x good1 at left left2 fault parts n kind why =
    let k = length (text1 x) in
    let same_at : at + k + n ≡ at + (k + n) = omega arith in
    let same_left : drop n left2 ≡ drop (k + n) left = sym (ap (drop (k + n)) parts ∙ drop_past (text1 x) left2 n) in
    let long : length left ≡ k + length left2 = ap length parts ∙ length-append (text1 x) left2 in
    elim why [
      | inl cut ↦ inl (subst (λ (b : List ℕ). IsCut kind (at + (k + n)) b fault) same_left (subst (λ (a : ℕ). IsCut kind a (drop n left2) fault) same_at cut))
      | inr b ↦ inr (record {
        shown = b.shown;
        wrong = subst (λ (l : List ℕ). IsWrong kind (at + (k + n)) l fault b.shown) same_left (subst (λ (a : ℕ). IsWrong kind a (drop n left2) fault b.shown) same_at b.wrong);
        inside = omega (arith, long, b.inside);
        never = λ z rest good e.
            let sums : k + n + b.shown ≡ k + (n + b.shown) = omega arith in
            let r = after_first read text1 fields1 Good1 text fields Good is f x good1 left2 rest (n + b.shown) left parts z good (e ∙ ap (λ (m : ℕ). take m left ++ rest) sums) in
            b.never z rest (good, r.0) r.1;
      })
    ]

pub stop_second : {X Z : Type 0} (read : Cursor → Read X) (text1 : X → List ℕ) (fields1 : X → List Field) (Good1 : X → Type 0) (text : Z → List ℕ) (fields : Z → List Field) (Good : Z → Type 0) → Part read text1 fields1 Good1 → (f : First text1 fields1 Good1 text fields Good)
    → (x : X) → Good1 x → (at : ℕ) (left left2 : List ℕ) (fault : ImageFault) → left ≡ text1 x ++ left2
    → Stop f.rest f.others (After f.first Good x) (at + length (text1 x)) left2 fault → Stop text fields Good at left fault
stop_second {X} {Z} read text1 fields1 Good1 text fields Good part f x good1 at left left2 fault parts s =
    let k = length (text1 x) in
    let long : length left ≡ k + length left2 = ap length parts ∙ length-append (text1 x) left2 in
    let took : take (k + s.n) left ≡ text1 x ++ take s.n left2 = ap (take (k + s.n)) parts ∙ take_past (text1 x) left2 s.n in
    record {
      n = k + s.n;
      kind = s.kind;
      inside = omega (arith, long, s.inside);
      x = s.x;
      good = s.good.0;
      more = s.more;
      begins = f.text_is s.x s.good.0 ∙ ap (λ (y : X). text1 y ++ f.rest s.x) s.good.1 ∙ ap (λ (t : List ℕ). text1 x ++ t) s.begins ∙ sym (append_assoc (text1 x) (take s.n left2) s.more) ∙ ap (λ (t : List ℕ). t ++ s.more) (sym took);
      each = λ z rest good e.
          let r = after_first read text1 fields1 Good1 text fields Good part.is_field f x good1 left2 rest s.n left parts z good e in
          let here = s.each z rest (good, r.0) r.1 in
          let sum : length (bytes_of (fields1 (f.first z))) + s.n ≡ k + s.n = ap (λ (y : X). length (bytes_of (fields1 y)) + s.n) r.0 ∙ ap (λ (t : List ℕ). length t + s.n) (part.spells x) in
          subst (λ (fs : List Field). StandsAt fs (k + s.n) s.kind) (sym (f.fields_are z good)) (stands_right (fields1 (f.first z)) (f.others z) s.n (k + s.n) s.kind sum here);
      unread = λ z rest good e.
          let both : text1 (f.first z) ++ (f.rest z ++ rest) ≡ text1 x ++ left2 = sym (append_assoc (text1 (f.first z)) (f.rest z) rest) ∙ ap (λ (t : List ℕ). t ++ rest) (sym (f.text_is z good)) ∙ sym e ∙ parts in
          let r = same_value read text1 Good1 part.is_field (f.first z) x (f.rest z ++ rest) left2 (f.good z good) good1 both in
          s.unread z rest (good, r.0) (sym r.1);
      why = why_second read text1 fields1 Good1 text fields Good part.is_field f x good1 at left left2 fault parts s.n s.kind s.why;
    }

abbrev pub broke : (A : Type 0) → ImageFault → Result A ImageFault
broke A d = Err d

pub err_is : (A : Type 0) (c d : ImageFault) → broke A c ≡ broke A d → c ≡ d
err_is A c d e = cc

pub bind_err : {A B : Type 0} (r : Result A ImageFault) (g : A → Result B ImageFault) (fault : ImageFault) (P : Type 0) → (r >>= g) ≡ Err fault → (r ≡ Err fault → P) → ((x : A) → r ≡ Ok x → g x ≡ Err fault → P) → P
bind_err (Ok x) g fault P e failed went = went x refl e
bind_err {A} {B} (Err d) g fault P e failed went = failed (ap (broke A) (err_is B d fault e))

-- Reading a part and then the rest stops in the part or in the rest.
pub stop_chain : {X Z : Type 0} (read : Cursor → Read X) (text1 : X → List ℕ) (fields1 : X → List Field) (Good1 : X → Type 0) (text : Z → List ℕ) (fields : Z → List Field) (Good : Z → Type 0) → Part read text1 fields1 Good1 → (f : First text1 fields1 Good1 text fields Good)
    → (next : X → Cursor → Read Z)
    → ((x : X) → Good1 x → (at : ℕ) (left : List ℕ) (fault : ImageFault) → IsBytes left → next x (cursor at left) ≡ Err fault → Stop f.rest f.others (After f.first Good x) at left fault)
    → (at : ℕ) (left : List ℕ) (fault : ImageFault) → IsBytes left → (read (cursor at left) >>= λ y. next y.0 y.1) ≡ Err fault → Stop text fields Good at left fault
stop_chain {X} {Z} read text1 fields1 Good1 text fields Good part f next others at left fault fits e =
    bind_err (read (cursor at left)) (λ y. next y.0 y.1) fault (Stop text fields Good at left fault) e
    (λ failed. stop_first text1 fields1 Good1 text fields Good f at left fault (part.stops at left fault fits failed))
    (λ y went later.
    let t = took_value read text1 Good1 part.is_field at left y fits went in
    let stopped = others y.0 t.good (at + length (text1 y.0)) y.1.left fault t.rest_fits (ap (next y.0) (sym t.after) ∙ later) in
    stop_second read text1 fields1 Good1 text fields Good part f y.0 t.good at left y.1.left fault t.parts stopped)
