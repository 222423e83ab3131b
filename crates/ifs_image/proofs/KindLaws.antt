-- Laws of kinds: reading parameters and results is the inverse of spelling them.
use Rattle.std.proofs.Common.{◌≡◌, ℕ, zero, suc, ◌+◌, ◌≤◌, Bool, true, false, cond, ltb, List, [], ◌∷◌, ◌++◌, length, map, replicate}
use Rattle.std.proofs.Common.{Option, Some, None, Ok, Err, refl, sym, ap, subst, ◌∙◌, arith, inl, inr}
use Rattle.std.specs.Prelude.{◌⊎◌, ◌==◌}
use Rattle.std.specs.List.{flat_map}
use Rattle.std.specs.Option.{ok_or}
use Rattle.std.proofs.lemmas.Bool.{eqb-true, ltb-false, le-ltb}
use Rattle.std.proofs.lemmas.Option.{none-some, same_Some}
use Rattle.ifs_base.specs.declared.op.Kind.{Kind}
use Rattle.ifs_base.specs.declared.op.Kind.TheVariants.{Truth, Command, StateName}
use Rattle.ifs_base.specs.Spelling.{code_of_kind, kind_of_code}
use Rattle.ifs_base.specs.Results.{◌>>=◌}
use Rattle.ifs_image.specs.declared.fault.ImageFault.{ImageFault}
use Rattle.ifs_image.specs.declared.fault.ImageFault.TheVariants.{OutOfLimit}
use Rattle.ifs_image.specs.Limits.{IsVersion}
use Rattle.ifs_image.specs.Spelling.{kinds_bytes, params_bytes, results_bytes}
use Rattle.ifs_image.specs.Reading.{Cursor, cursor, byte_at, byte_within, kind_at, kinds_at, truths_at, params_at, results_at, items_at}
use Rattle.ifs_image.proofs.FieldLaws.{bind_ok, again_bind, guard_ok, ok_is, Took, Took-then, IsField, byte_again}
use Rattle.ifs_image.proofs.FieldLaws.{byte_taken, AllAfter, table_field}

pub ok_or_ok : {A : Type 0} (o : Option A) (d : ImageFault) (y : A) → ok_or o d ≡ Ok y → o ≡ Some y
ok_or_ok None d y e = absurd cc
ok_or_ok {A} (Some x) d y e = ap (λ (z : A). Some z) (ok_is x y e)

-- ---- a number of one byte, up to a limit

pub byte_field : (most : ℕ) → IsField (byte_within most) (λ n. n ∷ []) (λ n. n ≤ most)
unfolding byte_within
byte_field most = record {
  again = λ n at rest fits. again_bind _ _ _ _ (byte_again n at rest) (let few : ltb most n ≡ false = le-ltb _ _ fits in rw few refl);
  taken = λ p y fits e.
      let b = bind_ok (byte_at p) (λ n. cond (ltb most n.0) (Err (OutOfLimit p.at)) (Ok n)) y e in
      let g = guard_ok (ltb most b.0.0) (OutOfLimit p.at) b.0 y b.2 in
      subst (λ (z : ℕ × Cursor). Took p.left (z.0 ∷ []) z.1.left × (z.0 ≤ most)) g.1 (byte_taken p b.0 fits b.1, ltb-false _ _ g.0);
}

-- ---- one kind

pub kind_again : (kind : Kind) → kind_of_code (code_of_kind kind) ≡ Some kind
kind_again Truth = refl
kind_again kind = refl

-- A choice by a test took its first value, or the other one.
picked : (b : Bool) (first : Kind) (others : Option Kind) (kind : Kind) → cond b (Some first) others ≡ Some kind → ((b ≡ true) × (first ≡ kind)) ⊎ (others ≡ Some kind)
picked true first others kind e = inl (refl, same_Some first kind e)
picked false first others kind e = inr e

pub kind_taken : (code : ℕ) (kind : Kind) → kind_of_code code ≡ Some kind → code ≡ code_of_kind kind
kind_taken code kind e =
    let third : Option Kind = cond (code == 2) (Some StateName) None in
    let second : Option Kind = cond (code == 1) (Some Command) third in
    elim (picked (code == 0) Truth second kind e) [
      | inl is ↦ eqb-true code 0 is.0 ∙ ap code_of_kind is.1
      | inr more ↦ elim (picked (code == 1) Command third kind more) [
        | inl is ↦ eqb-true code 1 is.0 ∙ ap code_of_kind is.1
        | inr last ↦ elim (picked (code == 2) StateName None kind last) [
          | inl is ↦ eqb-true code 2 is.0 ∙ ap code_of_kind is.1
          | inr none ↦ absurd (none-some kind none)
        ]
      ]
    ]

abbrev pub kind_bytes : Kind → List ℕ
kind_bytes kind = code_of_kind kind ∷ []

abbrev pub IsAny : Kind → Type 0
IsAny kind = Unit {0}

pub kind_field : IsField kind_at kind_bytes IsAny
unfolding kind_at
kind_field = record {
  again = λ kind at rest good. again_bind _ _ _ _ (byte_again (code_of_kind kind) at rest) (rw (kind_again kind) refl);
  taken = λ p y fits e.
      let b = bind_ok (byte_at p) (λ code. ok_or (kind_of_code code.0) (OutOfLimit p.at) >>= λ kind. Ok (kind, code.1)) y e in
      let k = bind_ok (ok_or (kind_of_code b.0.0) (OutOfLimit p.at)) (λ kind. Ok (kind, b.0.1)) y b.2 in
      let is = kind_taken b.0.0 k.0 (ok_or_ok (kind_of_code b.0.0) (OutOfLimit p.at) k.0 k.1) in
      subst (λ (z : Kind × Cursor). Took p.left (kind_bytes z.0) z.1.left × IsAny z.0) (ok_is (k.0, b.0.1) y k.2)
      (subst (λ (n : ℕ). Took p.left (n ∷ []) b.0.1.left) is (byte_taken p b.0 fits b.1), tt);
}

-- ---- a number of kinds, and the kinds

pub codes_are : (kinds : List Kind) → flat_map kind_bytes kinds ≡ map code_of_kind kinds
codes_are [] = refl
codes_are (kind ∷ kinds) = ap (λ (bytes : List ℕ). code_of_kind kind ∷ bytes) (codes_are kinds)

pub any_after : (kinds before : List Kind) → AllAfter (λ _. IsAny) before kinds
any_after [] before = tt
any_after (kind ∷ kinds) before = (tt, any_after kinds (before ++ kind ∷ []))

pub so_many : (n : ℕ) → IsField (items_at (λ _. kind_at) n []) (flat_map kind_bytes) (λ kinds. (length kinds ≡ n) × AllAfter (λ _. IsAny) [] kinds)
so_many n = table_field (λ _. kind_at) kind_bytes (λ _. IsAny) (λ _. kind_field) n

abbrev pub AreFew : List Kind → Type 0
AreFew kinds = length kinds ≤ 4

pub kinds_field : IsField kinds_at kinds_bytes AreFew
unfolding kinds_at kinds_bytes
kinds_field = record {
  again = λ kinds at rest few.
      let same : length kinds ∷ (map code_of_kind kinds ++ rest) ≡ length kinds ∷ (flat_map kind_bytes kinds ++ rest) = ap (λ (bytes : List ℕ). length kinds ∷ (bytes ++ rest)) (sym (codes_are kinds)) in
      let a = (byte_field 4).again (length kinds) at (flat_map kind_bytes kinds ++ rest) few in
      let b = (so_many (length kinds)).again kinds (at + 1) rest (refl, any_after kinds []) in
      let long : length (flat_map kind_bytes kinds) ≡ length (map code_of_kind kinds) = ap length (codes_are kinds) in
      ap (λ (bytes : List ℕ). kinds_at (cursor at bytes)) same
      ∙ again_bind _ _ _ _ a (b ∙ ap (λ (k : ℕ). Ok (kinds, cursor k rest)) (omega (arith, long)));
  taken = λ p y fits e.
      let b = bind_ok (byte_within 4 p) (λ n. items_at (λ _. kind_at) n.0 [] n.1) y e in
      let tb = (byte_field 4).taken p b.0 fits b.1 in
      let ty = (so_many b.0.0).taken b.0.1 y tb.0.rest_fits b.2 in
      let whole : Took p.left ((b.0.0 ∷ []) ++ flat_map kind_bytes y.0) y.1.left = Took-then tb.0 ty.0 in
      let counted : Took p.left (length y.0 ∷ flat_map kind_bytes y.0) y.1.left = subst (λ (n : ℕ). Took p.left (n ∷ flat_map kind_bytes y.0) y.1.left) (sym ty.1.0) whole in (
        subst (λ (bytes : List ℕ). Took p.left (length y.0 ∷ bytes) y.1.left) (codes_are y.0) counted,
        omega (arith, ty.1.0, tb.1),
      );
}

-- ---- a number of truths

abbrev pub AreTruths : List Kind → Type 0
AreTruths kinds = (kinds ≡ []) ⊎ (kinds ≡ Truth ∷ [])

pub truths_again : (kinds : List Kind) → AreTruths kinds → (length kinds ≤ 1) × (replicate (length kinds) Truth ≡ kinds)
truths_again kinds (inl none) = rw none (omega arith, refl)
truths_again kinds (inr one) = rw one (omega arith, refl)

pub truths_taken : (n : ℕ) → n ≤ 1 → (length (replicate n Truth) ≡ n) × AreTruths (replicate n Truth)
truths_taken zero le = (refl, inl refl)
truths_taken (suc zero) le = (refl, inr refl)
truths_taken (suc (suc n)) le = absurd (omega (arith, le))

pub truths_field : IsField truths_at (λ kinds. length kinds ∷ []) AreTruths
unfolding truths_at
truths_field = record {
  again = λ kinds at rest are.
      let a = truths_again kinds are in
      again_bind _ _ _ _ ((byte_field 1).again (length kinds) at rest a.0) (ap (λ (ks : List Kind). Ok (ks, cursor (at + 1) rest)) a.1);
  taken = λ p y fits e.
      let b = bind_ok (byte_within 1 p) (λ n. Ok (replicate n.0 Truth, n.1)) y e in
      let tb = (byte_field 1).taken p b.0 fits b.1 in
      let t = truths_taken b.0.0 tb.1 in
      subst (λ (z : List Kind × Cursor). Took p.left (length z.0 ∷ []) z.1.left × AreTruths z.0) (ok_is (replicate b.0.0 Truth, b.0.1) y b.2)
      (subst (λ (n : ℕ). Took p.left (n ∷ []) b.0.1.left) (sym t.0) tb.0, t.1);
}

-- ---- parameters and results, by the version

pub version_cases : (version : ℕ) → IsVersion version → (version ≡ 1) ⊎ (version ≡ 2)
version_cases zero is = absurd (omega (arith, is.0))
version_cases (suc zero) is = inl refl
version_cases (suc (suc zero)) is = inr refl
version_cases (suc (suc (suc version))) is = absurd (omega (arith, is.1))

-- A list of kinds is short, and in version 1 it has a certain form.
abbrev AreBy : (List Kind → Type 0) → ℕ → List Kind → Type 0
AreBy Form version kinds = AreFew kinds × ((version ≡ 2) ⊎ Form kinds)

-- In version 1 the form holds.
pub form_of : {P : Type 0} → (◌≡◌ {A = ℕ} 1 2) ⊎ P → P
form_of (inl e) = absurd (omega (arith, e))
form_of (inr p) = p

abbrev AreNone : List Kind → Type 0
AreNone kinds = kinds ≡ []

params_one : IsField (params_at 1) (params_bytes 1) (AreBy AreNone 1)
unfolding params_at params_bytes
params_one = record {
  again = λ kinds at rest are. rw (form_of are.1) (ap (λ (k : ℕ). Ok ([], cursor k rest)) (omega arith));
  taken = λ p y fits e.
      let none : List Kind × Cursor = ([], p) in
      subst (λ (z : List Kind × Cursor). Took p.left [] z.1.left × AreBy AreNone 1 z.0) (ok_is none y e)
      (record { parts = refl; rest_fits = fits }, (omega arith, inr refl));
}

params_two : IsField (params_at 2) (params_bytes 2) (AreBy AreNone 2)
unfolding params_at params_bytes
params_two = record {
  again = λ kinds at rest are. kinds_field.again kinds at rest are.0;
  taken = λ p y fits e. let t = kinds_field.taken p y fits e in (t.0, (t.1, inl refl));
}

pub params_field : (version : ℕ) → IsVersion version → IsField (params_at version) (params_bytes version) (λ kinds. (length kinds ≤ 4) × ((version ≡ 2) ⊎ (kinds ≡ [])))
params_field version is =
    elim (version_cases version is) [
      | inl one ↦ subst (λ (v : ℕ). IsField (params_at v) (params_bytes v) (AreBy AreNone v)) (sym one) params_one
      | inr two ↦ subst (λ (v : ℕ). IsField (params_at v) (params_bytes v) (AreBy AreNone v)) (sym two) params_two
    ]

pub truths_few : (kinds : List Kind) → AreTruths kinds → AreFew kinds
truths_few kinds (inl none) = rw none (omega arith)
truths_few kinds (inr one) = rw one (omega arith)

results_one : IsField (results_at 1) (results_bytes 1) (AreBy AreTruths 1)
unfolding results_at results_bytes
results_one = record {
  again = λ kinds at rest are. truths_field.again kinds at rest (form_of are.1);
  taken = λ p y fits e. let t = truths_field.taken p y fits e in (t.0, (truths_few y.0 t.1, inr t.1));
}

results_two : IsField (results_at 2) (results_bytes 2) (AreBy AreTruths 2)
unfolding results_at results_bytes
results_two = record {
  again = λ kinds at rest are. kinds_field.again kinds at rest are.0;
  taken = λ p y fits e. let t = kinds_field.taken p y fits e in (t.0, (t.1, inl refl));
}

pub results_field : (version : ℕ) → IsVersion version → IsField (results_at version) (results_bytes version) (λ kinds. (length kinds ≤ 4) × ((version ≡ 2) ⊎ AreTruths kinds))
results_field version is =
    elim (version_cases version is) [
      | inl one ↦ subst (λ (v : ℕ). IsField (results_at v) (results_bytes v) (AreBy AreTruths v)) (sym one) results_one
      | inr two ↦ subst (λ (v : ℕ). IsField (results_at v) (results_bytes v) (AreBy AreTruths v)) (sym two) results_two
    ]
