-- Definitions are read one after the other.
use Rattle.std.proofs.Common.{ℕ, ◌≡◌, List, [], ◌∷◌, ◌++◌, sym, subst, append_assoc, append-nil, Bor, refl, ap, true, false, ◌==◌, length, arith}
use Rattle.std.proofs.lemmas.Bool.Decides.{nat_tests}
use Rattle.ifs_command_line.specs.Definitions.{Defines}
use Rattle.ifs_lex.specs.Expansion.{defined_by}
use Rattle.ifs_ffi.specs.Definitions.{Gives, IsWord}

-- What the rest of a text gives comes behind these definitions.
abbrev pub AreRead : List ℕ → List ℕ → List (List ℕ × List ℕ) → Type 0
AreRead text left made = (defs : List (List ℕ × List ℕ)) → Gives left defs → Gives text (made ++ defs)

-- If a text gives definitions, then the rest of it does.
abbrev pub IsOnTheWay : List ℕ → List ℕ → Type 0
IsOnTheWay text left = (defs : List (List ℕ × List ℕ)) → Gives text defs → (more : List (List ℕ × List ℕ)) × Gives left more

-- A NUL behind a word without one parts the bytes into this word and this rest alone.
abbrev pub IsOnlyPart : List ℕ → List ℕ → List ℕ → Type 0
IsOnlyPart bytes word rest = (xs ys : List ℕ) → bytes ≡ xs ++ (0 ∷ ys) → IsWord xs → (word ≡ xs) × (rest ≡ ys)

pub one_more : (text left word rest name value : List ℕ) (made more : List (List ℕ × List ℕ)) → AreRead text left made
    → left ≡ word ++ 0 ∷ rest → IsWord word → Defines word name value → more ≡ made ++ (name, value) ∷ [] → AreRead text rest more
one_more text left word rest name value made more read is whole defines added = λ defs gives.
    subst (λ l. Gives text (l ++ defs)) (sym added)
    (subst (Gives text) (sym (append_assoc made ((name, value) ∷ []) defs))
    (read ((name, value) ∷ defs) (subst (λ l. Gives l ((name, value) ∷ defs)) (sym is) (Gives.then word name value rest defs whole defines gives))))

not_nothing : (word rest : List ℕ) → [] ≡ word ++ (0 ∷ rest) → ⊥
not_nothing [] rest is = grind arith
not_nothing (byte ∷ word) rest is = grind arith

-- What gives definitions and has a NUL begins with a definition.
pub first_of : (bytes word rest : List ℕ) (defs : List (List ℕ × List ℕ)) → Gives bytes defs → bytes ≡ word ++ (0 ∷ rest) → IsOnlyPart bytes word rest
    → (name value : List ℕ) × Defines word name value × (more : List (List ℕ × List ℕ)) × Gives rest more
first_of bytes word rest defs Gives.nothing is only = absurd (not_nothing word rest is)
first_of bytes word rest defs (Gives.then w name value r more whole defines gives) is only =
    let same = only w r refl whole in
    (name, value, subst (λ l. Defines l name value) (sym same.0) defines, more, subst (λ l. Gives l more) (sym same.1) gives)

-- What has no NUL gives definitions only if it is empty.
pub no_first : (bytes : List ℕ) (defs : List (List ℕ × List ℕ)) → Gives bytes defs → ((xs ys : List ℕ) → bytes ≡ xs ++ (0 ∷ ys) → IsWord xs → ⊥)
    → false ≡ (length bytes == 0) → ⊥
no_first bytes defs Gives.nothing lacks some = grind (arith, nat_tests)
no_first bytes defs (Gives.then w name value r more whole defines gives) lacks some = lacks w r refl whole

pub all_read : (text left : List ℕ) (made : List (List ℕ × List ℕ)) → AreRead text left made → left ≡ [] → Gives text made
all_read text left made read none =
    subst (Gives text) (append-nil made) (read [] (subst (λ l. Gives l []) (sym none) Gives.nothing))

pub one_defined : (made : List (Bor (List ℕ) × Bor (List ℕ))) (one : Bor (List ℕ) × Bor (List ℕ))
    → defined_by (made ++ one ∷ []) ≡ defined_by made ++ (one.0.now, one.1.now) ∷ []
one_defined [] one = refl
one_defined (first ∷ made) one = ap (λ l. (first.0.now, first.1.now) ∷ l) (one_defined made one)

pub none_left : (left : List ℕ) → true ≡ (length left == 0) → left ≡ []
none_left [] same = refl
none_left (byte ∷ left) same = grind (arith, nat_tests)
