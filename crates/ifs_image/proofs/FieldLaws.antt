-- Laws of fields: reading a field is the inverse of spelling it, at any place.
use Rattle.std.proofs.Common.{◌≡◌, ℕ, zero, suc, ◌+◌, ◌^◌, ◌<◌, ◌≤◌, Bool, true, false, cond, ltb}
use Rattle.std.proofs.Common.{List, [], ◌∷◌, ◌++◌, length, get_or, take, drop, Result, Ok, Err}
use Rattle.std.proofs.Common.{refl, sym, ap, subst, ◌∙◌, append_assoc, add-zero, arith, inl, inr}
use Rattle.std.specs.Int.{Width, w16, w32, w64, byte_len, from_be_bytes, to_be_bytes}
use Rattle.std.specs.List.{flat_map}
use Rattle.std.proofs.lemmas.Bool.{cases_lt, ltb-false, le-ltb, or_parts}
use Rattle.std.specs.Prelude.{◌||◌}
use Rattle.std.proofs.lemmas.List.{take_at, drop_at, take-append-drop, length-append, length-take}
use Rattle.std.proofs.lemmas.List.{get_or-drop, get_or-take, get_or_past, append-nil, nil_from_length}
use Rattle.std.proofs.lemmas.Nat.{be_bytes_2, be_bytes_4, be_bytes_8, from_be_bytes-to_be_bytes_2}
use Rattle.std.proofs.lemmas.Nat.{from_be_bytes-to_be_bytes_4, from_be_bytes-to_be_bytes_8}
use Rattle.ifs_base.specs.Results.{◌>>=◌}
use Rattle.ifs_image.specs.declared.fault.ImageFault.{ImageFault}
use Rattle.ifs_image.specs.declared.fault.ImageFault.TheVariants.{Truncated, OutOfLimit}
use Rattle.ifs_image.specs.Reading.{Cursor, cursor, Read, bytes_at, byte_at, number_at, number_within, items_at}

-- Each number of a list is a byte.
abbrev pub IsBytes : List ℕ → Type 0
IsBytes bytes = (i : ℕ) → get_or bytes i 0 < 256

pub IsBytes-drop : (n : ℕ) (bytes : List ℕ) → IsBytes bytes → IsBytes (drop n bytes)
IsBytes-drop n bytes h i = rw get_or-drop (h (n + i))

pub IsBytes-take : (n : ℕ) (bytes : List ℕ) → IsBytes bytes → IsBytes (take n bytes)
IsBytes-take n bytes h i =
    elim (cases_lt i n) [
      | inl lt ↦ rw (get_or-take n bytes i 0 lt) (h i)
      | inr le ↦ rw (get_or_past (take n bytes) i 0 (omega (arith, length-take n bytes))) (omega arith)
    ]

-- ---- readers that may fail

pub bind_ok : {A B : Type 0} (r : Result A ImageFault) (f : A → Result B ImageFault) (y : B) → (r >>= f) ≡ Ok y → (x : A) × (r ≡ Ok x) × (f x ≡ Ok y)
bind_ok (Ok x) f y e = (x, refl, e)
bind_ok (Err d) f y e = absurd cc

pub again_bind : {A B : Type 0} (r : Result A ImageFault) (f : A → Result B ImageFault) (x : A) (y : Result B ImageFault) → r ≡ Ok x → f x ≡ y → (r >>= f) ≡ y
again_bind r f x y e g = ap (λ (s : Result _ ImageFault). s >>= f) e ∙ g

-- A test that fails with an error did not fail.
pub guard_ok : {A : Type 0} (b : Bool) (d : ImageFault) (x y : A) → cond b (Err d) (Ok x) ≡ Ok y → (b ≡ false) × (x ≡ y)
guard_ok true d x y e = absurd cc
guard_ok false d x y e = (refl, cc)

-- A test that passes without an error passed.
pub passed_ok : {A : Type 0} (b : Bool) (d : ImageFault) (x y : A) → cond b (Ok x) (Err d) ≡ Ok y → (b ≡ true) × (x ≡ y)
passed_ok true d x y e = (refl, cc)
passed_ok false d x y e = absurd cc

abbrev done : {A : Type 0} → A → Result A ImageFault
done x = Ok x

pub ok_is : {A : Type 0} (x y : A) → done x ≡ done y → x ≡ y
ok_is x y e = cc

-- ---- bytes taken from the front

pub record Took (bytes text rest : List ℕ) : Type 0 where
  pub parts : bytes ≡ text ++ rest
  pub rest_fits : IsBytes rest

pub Took-then : {a x b y c : List ℕ} → Took a x b → Took b y c → Took a (x ++ y) c
Took-then {a} {x} {b} {y} {c} p q = record { parts = p.parts ∙ ap (λ (t : List ℕ). x ++ t) q.parts ∙ sym (append_assoc x y c); rest_fits = q.rest_fits }

-- A reader of a field is the inverse of its spelling, at any place, on the values that are good.
pub record IsField {X : Type 0} (read : Cursor → Read X) (text : X → List ℕ) (Good : X → Type 0) : Type 0 where
  pub again : (x : X) (at : ℕ) (rest : List ℕ) → Good x → read (cursor at (text x ++ rest)) ≡ Ok (x, cursor (at + length (text x)) rest)
  pub taken : (p : Cursor) (y : X × Cursor) → IsBytes p.left → read p ≡ Ok y → Took p.left (text y.0) y.1.left × Good y.0

-- ---- bytes

pub bytes_again : (text rest : List ℕ) (at n : ℕ) → length text ≡ n → bytes_at n (cursor at (text ++ rest)) ≡ Ok (text, cursor (at + n) rest)
unfolding bytes_at
bytes_again text rest at n len =
    let long : ltb (length (text ++ rest)) n ≡ false = le-ltb _ _ (omega (arith, length-append text rest)) in
    rw (long, take_at text rest n len, drop_at text rest n len) refl

pub bytes_taken : (n : ℕ) (p : Cursor) (y : List ℕ × Cursor) → IsBytes p.left → bytes_at n p ≡ Ok y → Took p.left y.0 y.1.left × (length y.0 ≡ n) × IsBytes y.0
unfolding bytes_at
bytes_taken n p y fits e =
    let g = guard_ok (ltb (length p.left) n) (Truncated p.at) (take n p.left, cursor (p.at + n) (drop n p.left)) y e in
    let long : n ≤ length p.left = ltb-false _ _ g.0 in
    subst (λ (z : List ℕ × Cursor). Took p.left z.0 z.1.left × (length z.0 ≡ n) × IsBytes z.0) g.1
    (record { parts = sym (take-append-drop n p.left); rest_fits = IsBytes-drop n p.left fits }, omega (arith, length-take n p.left), IsBytes-take n p.left fits)

-- ---- numbers

pub record IsWide (w : Width) (limit : ℕ) : Type 0 where
  pub len : (n : ℕ) → length (to_be_bytes w n) ≡ byte_len w
  pub back : (bytes : List ℕ) → length bytes ≡ byte_len w → IsBytes bytes → to_be_bytes w (from_be_bytes w bytes) ≡ bytes
  pub again : (n : ℕ) → n < limit → from_be_bytes w (to_be_bytes w n) ≡ n
  pub below : (bytes : List ℕ) → IsBytes bytes → from_be_bytes w bytes < limit

pub wide16 : IsWide w16 (2 ^ 16)
wide16 = record {
  len = λ n. refl;
  back = λ bytes len fits. be_bytes_2 bytes _ len fits refl;
  again = λ n lt. from_be_bytes-to_be_bytes_2 n lt;
  below = λ bytes fits. omega (arith, fits 0, fits 1);
}

pub wide32 : IsWide w32 (2 ^ 32)
wide32 = record {
  len = λ n. refl;
  back = λ bytes len fits. be_bytes_4 bytes _ len fits refl;
  again = λ n lt. from_be_bytes-to_be_bytes_4 n lt;
  below = λ bytes fits. omega (arith, fits 0, fits 1, fits 2, fits 3);
}

pub wide64 : IsWide w64 (2 ^ 64)
wide64 = record {
  len = λ n. refl;
  back = λ bytes len fits. be_bytes_8 bytes _ len fits refl;
  again = λ n lt. from_be_bytes-to_be_bytes_8 n lt;
  below = λ bytes fits. omega (arith, fits 0, fits 1, fits 2, fits 3, fits 4, fits 5, fits 6, fits 7);
}

number_again : (w : Width) (limit : ℕ) (wide : IsWide w limit) (n at : ℕ) (rest : List ℕ) → n < limit → number_at w (cursor at (to_be_bytes w n ++ rest)) ≡ Ok (n, cursor (at + length (to_be_bytes w n)) rest)
unfolding number_at
number_again w limit wide n at rest lt =
    rw (bytes_again (to_be_bytes w n) rest at (byte_len w) (wide.len n), wide.again n lt, wide.len n) refl

number_taken : (w : Width) (limit : ℕ) (wide : IsWide w limit) (p : Cursor) (y : ℕ × Cursor) → IsBytes p.left → number_at w p ≡ Ok y → Took p.left (to_be_bytes w y.0) y.1.left × (y.0 < limit)
unfolding number_at
number_taken w limit wide p y fits e =
    let b = bind_ok (bytes_at (byte_len w) p) (λ bytes. Ok (from_be_bytes w bytes.0, bytes.1)) y e in
    let t = bytes_taken (byte_len w) p b.0 fits b.1 in
    subst (λ (z : ℕ × Cursor). Took p.left (to_be_bytes w z.0) z.1.left × (z.0 < limit)) (ok_is (from_be_bytes w b.0.0, b.0.1) y b.2)
    (rw (wide.back b.0.0 t.1 t.2) t.0, wide.below b.0.0 t.2)

pub number_field : (w : Width) (limit : ℕ) → IsWide w limit → IsField (number_at w) (to_be_bytes w) (λ n. n < limit)
number_field w limit wide = record { again = λ n at rest lt. number_again w limit wide n at rest lt; taken = λ p y fits e. number_taken w limit wide p y fits e }

-- ---- limits, bytes and texts

pub within_field : (w : Width) (limit least most : ℕ) → IsWide w limit → most < limit → IsField (number_within w least most) (to_be_bytes w) (λ n. (least ≤ n) × (n ≤ most))
unfolding number_within
within_field w limit least most wide small = record {
  again = λ n at rest fits.
      let low : ltb n least ≡ false = le-ltb _ _ fits.0 in
      let high : ltb most n ≡ false = le-ltb _ _ fits.1 in
      rw (number_again w limit wide n at rest (omega (arith, fits.1)), low, high) refl;
  taken = λ p y fits e.
      let b = bind_ok (number_at w p) (λ n. cond (ltb n.0 least || ltb most n.0) (Err (OutOfLimit p.at)) (Ok n)) y e in
      let t = number_taken w limit wide p b.0 fits b.1 in
      let g = guard_ok (ltb b.0.0 least || ltb most b.0.0) (OutOfLimit p.at) b.0 y b.2 in
      let o = or_parts (ltb b.0.0 least) (ltb most b.0.0) g.0 in
      subst (λ (z : ℕ × Cursor). Took p.left (to_be_bytes w z.0) z.1.left × ((least ≤ z.0) × (z.0 ≤ most))) g.1
      (t.0, (ltb-false _ _ o.0, ltb-false _ _ o.1));
}

pub within16 : (least most : ℕ) → most < 2 ^ 16 → IsField (number_within w16 least most) (to_be_bytes w16) (λ n. (least ≤ n) × (n ≤ most))
within16 least most small = within_field w16 (2 ^ 16) least most wide16 small

pub within32 : (least most : ℕ) → most < 2 ^ 32 → IsField (number_within w32 least most) (to_be_bytes w32) (λ n. (least ≤ n) × (n ≤ most))
within32 least most small = within_field w32 (2 ^ 32) least most wide32 small

pub byte_again : (n at : ℕ) (rest : List ℕ) → byte_at (cursor at (n ∷ rest)) ≡ Ok (n, cursor (at + 1) rest)
unfolding byte_at
byte_again n at rest = rw (bytes_again (n ∷ []) rest at 1 refl) refl

one_byte : (bytes : List ℕ) → length bytes ≡ 1 → bytes ≡ get_or bytes 0 0 ∷ []
one_byte [] len = absurd cc
one_byte (b ∷ bytes) len = ap (λ (t : List ℕ). b ∷ t) (nil_from_length bytes (omega arith))

pub byte_taken : (p : Cursor) (y : ℕ × Cursor) → IsBytes p.left → byte_at p ≡ Ok y → Took p.left (y.0 ∷ []) y.1.left
unfolding byte_at
byte_taken p y fits e =
    let b = bind_ok (bytes_at 1 p) (λ bytes. Ok (get_or bytes.0 0 0, bytes.1)) y e in
    let t = bytes_taken 1 p b.0 fits b.1 in
    subst (λ (z : ℕ × Cursor). Took p.left (z.0 ∷ []) z.1.left) (ok_is (get_or b.0.0 0 0, b.0.1) y b.2)
    (subst (λ (text : List ℕ). Took p.left text b.0.1.left) (one_byte b.0.0 t.1) t.0)

-- ---- the entries of a table

-- Each entry is good after the entries before it.
abbrev pub AllAfter : {X : Type 0} → (List X → X → Type 0) → List X → List X → Type 0
AllAfter Good before [] = Unit {0}
AllAfter Good before (x ∷ xs) = Good before x × AllAfter Good (before ++ x ∷ []) xs

pub items_again : {X : Type 0} (entry : List X → Cursor → Read X) (text : X → List ℕ) (Good : List X → X → Type 0) → ((before : List X) → IsField (entry before) text (Good before)) → (xs before : List X) (at : ℕ) (rest : List ℕ) → AllAfter Good before xs
    → items_at entry (length xs) before (cursor at (flat_map text xs ++ rest)) ≡ Ok (before ++ xs, cursor (at + length (flat_map text xs)) rest)
unfolding items_at
items_again {X} entry text Good field [] before at rest fits =
    ap (λ (all : List X). Ok (all, cursor at rest)) (sym (append-nil before)) ∙ ap (λ (k : ℕ). Ok (before ++ [], cursor k rest)) (sym (add-zero at))
items_again {X} entry text Good field (x ∷ xs) before at rest fits =
    let regrouped : flat_map text (x ∷ xs) ++ rest ≡ text x ++ (flat_map text xs ++ rest) = append_assoc (text x) (flat_map text xs) rest in
    let first = (field before).again x at (flat_map text xs ++ rest) fits.0 in
    let others = items_again entry text Good field xs (before ++ x ∷ []) (at + length (text x)) rest fits.1 in
    let sums : at + length (text x) + length (flat_map text xs) ≡ at + length (text x ++ flat_map text xs) = omega (arith, length-append (text x) (flat_map text xs)) in
    ap (λ (bytes : List ℕ). items_at entry (suc (length xs)) before (cursor at bytes)) regrouped
    ∙ again_bind (entry before (cursor at (text x ++ (flat_map text xs ++ rest)))) (λ y. items_at entry (length xs) (before ++ y.0 ∷ []) y.1) (x, cursor (at + length (text x)) (flat_map text xs ++ rest)) (Ok ((before ++ x ∷ []) ++ xs, cursor (at + length (text x) + length (flat_map text xs)) rest)) first others
    ∙ ap (λ (all : List X). Ok (all, cursor (at + length (text x) + length (flat_map text xs)) rest)) (append_assoc before (x ∷ []) xs)
    ∙ ap (λ (k : ℕ). Ok (before ++ x ∷ xs, cursor k rest)) sums

-- The entries that were read of a table.
pub record TookItems {X : Type 0} (text : X → List ℕ) (Good : List X → X → Type 0) (n : ℕ) (before : List X) (bytes : List ℕ) (all : List X) (rest : List ℕ) : Type 0 where
  pub xs : List X
  pub all_are : all ≡ before ++ xs
  pub count : length xs ≡ n
  pub took : Took bytes (flat_map text xs) rest
  pub good : AllAfter Good before xs

pub items_taken : {X : Type 0} (entry : List X → Cursor → Read X) (text : X → List ℕ) (Good : List X → X → Type 0) → ((before : List X) → IsField (entry before) text (Good before)) → (n : ℕ) (before : List X) (p : Cursor) (y : List X × Cursor) → IsBytes p.left → items_at entry n before p ≡ Ok y
    → TookItems text Good n before p.left y.0 y.1.left
unfolding items_at
items_taken {X} entry text Good field zero before p y fits e =
    subst (λ (z : List X × Cursor). TookItems text Good 0 before p.left z.0 z.1.left) (ok_is (before, p) y e)
    (record { xs = []; all_are = sym (append-nil before); count = refl; took = record { parts = refl; rest_fits = fits }; good = tt })
items_taken {X} entry text Good field (suc n) before p y fits e =
    let b = bind_ok (entry before p) (λ x. items_at entry n (before ++ x.0 ∷ []) x.1) y e in
    let first = (field before).taken p b.0 fits b.1 in
    let others = items_taken entry text Good field n (before ++ b.0.0 ∷ []) b.0.1 y first.0.rest_fits b.2 in
    record {
      xs = b.0.0 ∷ others.xs;
      all_are = others.all_are ∙ append_assoc before (b.0.0 ∷ []) others.xs;
      count = ap suc others.count;
      took = Took-then first.0 others.took;
      good = (first.1, others.good);
    }

-- A table is a field.
pub table_field : {X : Type 0} (entry : List X → Cursor → Read X) (text : X → List ℕ) (Good : List X → X → Type 0) → ((before : List X) → IsField (entry before) text (Good before)) → (n : ℕ)
    → IsField (items_at entry n []) (flat_map text) (λ xs. (length xs ≡ n) × AllAfter Good [] xs)
table_field {X} entry text Good field n = record {
  again = λ xs at rest fits. ap (λ (k : ℕ). items_at entry k [] (cursor at (flat_map text xs ++ rest))) (sym fits.0) ∙ items_again entry text Good field xs [] at rest fits.1;
  taken = λ p y fits e.
      let t = items_taken entry text Good field n [] p y fits e in
      let same : t.xs ≡ y.0 = sym t.all_are in
      subst (λ (xs : List X). Took p.left (flat_map text xs) y.1.left × ((length xs ≡ n) × AllAfter Good [] xs)) same (t.took, (t.count, t.good));
}
