-- Versions, and how a routine begins in each.
use Rattle.std.proofs.Common.{◌≡◌, ℕ, zero, suc, true, false, List, [], ◌∷◌, refl, arith, inl, inr}
use Rattle.std.specs.Prelude.{◌⊎◌}
use Rattle.ifs_base.specs.declared.op.Kind.{Kind}
use Rattle.ifs_base.specs.declared.op.Kind.TheVariants.{Truth}
use Rattle.ifs_image.specs.declared.parts.Routine.{Routine}
use Rattle.ifs_image.specs.Limits.{IsVersion, IsPlain, RoutineFits}
use Rattle.ifs_asm.specs.declared.line.Version.{Version}
use Rattle.ifs_asm.specs.declared.line.Version.TheVariants.{One, Two}
use Rattle.ifs_asm.specs.declared.line.Head.{Head}
use Rattle.ifs_asm.specs.declared.line.Head.TheVariants.{Plain, Signature}
use Rattle.ifs_asm.specs.Texts.{version_number, version_in, head_of, is_some_kind}
use Rattle.ifs_asm.specs.inner.Building.{begun, is_of_other}

pub version_back : (v : Version) → version_in (version_number v) ≡ v
version_back One = refl
version_back Two = refl

pub is_version : (v : Version) → IsVersion (version_number v)
is_version One = (omega arith, omega arith)
is_version Two = (omega arith, omega arith)

pub version_forth : (n : ℕ) → IsVersion n → version_number (version_in n) ≡ n
version_forth zero is = absurd (omega (arith, is.0))
version_forth (suc zero) is = refl
version_forth (suc (suc zero)) is = refl
version_forth (suc (suc (suc n))) is = absurd (omega (arith, is.1))

-- The kinds of a routine can be given in a version.
abbrev pub FitsVersion : Version → Routine → Type 0
FitsVersion One r = IsPlain r
FitsVersion Two r = Unit {0}

pub kinds_fit : (v : Version) (r : Routine) → FitsVersion v r → (version_number v ≡ 2) ⊎ IsPlain r
kinds_fit One r fits = inr fits
kinds_fit Two r fits = inl refl

pub version_fits : (n : ℕ) (r : Routine) → IsVersion n → RoutineFits n r → FitsVersion (version_in n) r
version_fits zero r is fits = absurd (omega (arith, is.0))
version_fits (suc zero) r is fits = elim fits.kinds [
  | inl two ↦ absurd (omega (arith, two))
  | inr plain ↦ plain
]
version_fits (suc (suc zero)) r is fits = tt
version_fits (suc (suc (suc n))) r is fits = absurd (omega (arith, is.1))

-- A routine that begins in the form of its version begins with the line that was read.
pub head_back : (v : Version) (head : Head) → is_of_other v head ≡ false → head_of v (begun head) ≡ head
head_back One (Plain true) own = refl
head_back One (Plain false) own = refl
head_back One (Signature params results) own = absurd cc
head_back Two (Plain truth) own = absurd cc
head_back Two (Signature params results) own = refl

pub begun_fits : (v : Version) (head : Head) → is_of_other v head ≡ false → FitsVersion v (begun head)
begun_fits One (Plain true) own = record { params = refl; results = inr refl }
begun_fits One (Plain false) own = record { params = refl; results = inl refl }
begun_fits One (Signature params results) own = absurd cc
begun_fits Two (Plain truth) own = absurd cc
begun_fits Two (Signature params results) own = tt

-- A routine without its instructions.
abbrev pub emptied : Routine → Routine
emptied r = record { params = r.params; results = r.results; code = [] }

some_case : (r : Routine) (params results : List Kind) → r.params.items ≡ params → r.results.items ≡ results → params ≡ [] → (results ≡ []) ⊎ (results ≡ Truth ∷ []) → begun (Plain (is_some_kind results)) ≡ record { params = record { items = params }; results = record { items = results }; code = [] }
some_case r params results p q none (inl nothing) = rw (none, nothing) refl
some_case r params results p q none (inr truth) = rw (none, truth) refl

pub begun_back : (v : Version) (r : Routine) → FitsVersion v r → begun (head_of v r) ≡ emptied r
begun_back One r fits = some_case r r.params.items r.results.items refl refl fits.params fits.results
begun_back Two r fits = refl

pub own_head : (v : Version) (r : Routine) → is_of_other v (head_of v r) ≡ false
own_head One r = refl
own_head Two r = refl

pub begun_code : (head : Head) → (begun head).code ≡ []
begun_code (Plain true) = refl
begun_code (Plain false) = refl
begun_code (Signature params results) = refl
