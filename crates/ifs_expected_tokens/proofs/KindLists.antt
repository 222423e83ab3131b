-- The list of kinds that can come behind tokens.
use Rattle.std.proofs.Common.{◌≡◌, ℕ, inl, inr, ◌⊎◌, refl, sym, subst, List, [], ◌∷◌, ◌++◌, length}
use Rattle.std.specs.List.{AllByRecursion}
use Rattle.ifs_lex.specs.declared.token.Token.{Token}
use Rattle.ifs_lex.specs.declared.token.What.{What}
use Rattle.ifs_parse.specs.Grammar.{GoesOn, NoneGoesOn}
use Rattle.ifs_parse.specs.Words.{fits_period}
use Rattle.ifs_expected_tokens.specs.declared.kind.Kind.{Kind}
use Rattle.ifs_expected_tokens.specs.declared.kind.Kind.TheVariants as kind
use Rattle.ifs_expected_tokens.specs.Expected.{HasKind, token_of, what_of}

-- A token of a kind with this number can come behind these tokens.
abbrev pub Can : ℕ → List Token → Kind → Type 0
Can n front k = GoesOn fits_period 32 front (token_of n k)

-- All kinds, in order.
abbrev pub every : List Kind
every =
    kind.State ∷ kind.InitState ∷ kind.Init ∷ kind.If ∷ kind.Run ∷ kind.SetState ∷ kind.Every ∷ kind.Link ∷ kind.Up ∷ kind.Down ∷ kind.Unknown ∷
    kind.Text ∷ kind.Number ∷ kind.BraceOpen ∷ kind.BraceClose ∷ kind.ParenOpen ∷ kind.ParenClose ∷ kind.Dot ∷ kind.Bang ∷ kind.And ∷ kind.Or ∷ kind.End ∷ []

-- Each kind is among them.
pub among : (k : Kind) → HasKind k every
among kind.State = inl refl
among kind.InitState = inr (inl refl)
among kind.Init = inr (inr (inl refl))
among kind.If = inr (inr (inr (inl refl)))
among kind.Run = inr (inr (inr (inr (inl refl))))
among kind.SetState = inr (inr (inr (inr (inr (inl refl)))))
among kind.Every = inr (inr (inr (inr (inr (inr (inl refl))))))
among kind.Link = inr (inr (inr (inr (inr (inr (inr (inl refl)))))))
among kind.Up = inr (inr (inr (inr (inr (inr (inr (inr (inl refl))))))))
among kind.Down = inr (inr (inr (inr (inr (inr (inr (inr (inr (inl refl)))))))))
among kind.Unknown = inr (inr (inr (inr (inr (inr (inr (inr (inr (inr (inl refl))))))))))
among kind.Text = inr (inr (inr (inr (inr (inr (inr (inr (inr (inr (inr (inl refl)))))))))))
among kind.Number = inr (inr (inr (inr (inr (inr (inr (inr (inr (inr (inr (inr (inl refl))))))))))))
among kind.BraceOpen = inr (inr (inr (inr (inr (inr (inr (inr (inr (inr (inr (inr (inr (inl refl)))))))))))))
among kind.BraceClose = inr (inr (inr (inr (inr (inr (inr (inr (inr (inr (inr (inr (inr (inr (inl refl))))))))))))))
among kind.ParenOpen = inr (inr (inr (inr (inr (inr (inr (inr (inr (inr (inr (inr (inr (inr (inr (inl refl)))))))))))))))
among kind.ParenClose = inr (inr (inr (inr (inr (inr (inr (inr (inr (inr (inr (inr (inr (inr (inr (inr (inl refl))))))))))))))))
among kind.Dot = inr (inr (inr (inr (inr (inr (inr (inr (inr (inr (inr (inr (inr (inr (inr (inr (inr (inl refl)))))))))))))))))
among kind.Bang = inr (inr (inr (inr (inr (inr (inr (inr (inr (inr (inr (inr (inr (inr (inr (inr (inr (inr (inl refl))))))))))))))))))
among kind.And = inr (inr (inr (inr (inr (inr (inr (inr (inr (inr (inr (inr (inr (inr (inr (inr (inr (inr (inr (inl refl)))))))))))))))))))
among kind.Or = inr (inr (inr (inr (inr (inr (inr (inr (inr (inr (inr (inr (inr (inr (inr (inr (inr (inr (inr (inr (inl refl))))))))))))))))))))
among kind.End = inr (inr (inr (inr (inr (inr (inr (inr (inr (inr (inr (inr (inr (inr (inr (inr (inr (inr (inr (inr (inr (inl refl)))))))))))))))))))))

push_left : (k y : Kind) (xs : List Kind) → HasKind k xs → HasKind k (xs ++ y ∷ [])
push_left k y [] h = absurd h
push_left k y (x ∷ xs) (inl h) = inl h
push_left k y (x ∷ xs) (inr h) = inr (push_left k y xs h)

push_last : (k y : Kind) (xs : List Kind) → y ≡ k → HasKind k (xs ++ y ∷ [])
push_last k y [] h = inl h
push_last k y (x ∷ xs) h = inr (push_last k y xs h)

-- A kind that can be there was added.
pub with_one : (first : Kind) (rest kinds : List Kind) (k : Kind) → HasKind k (first ∷ rest) ⊎ HasKind k kinds → HasKind k rest ⊎ HasKind k (kinds ++ first ∷ [])
with_one first rest kinds k (inl (inl same)) = inr (push_last k first kinds same)
with_one first rest kinds k (inl (inr h)) = inl h
with_one first rest kinds k (inr h) = inr (push_left k first kinds h)

-- A kind that cannot was left out.
pub without_one : (n : ℕ) (front : List Token) (first : Kind) (rest kinds : List Kind) → NoneGoesOn fits_period 32 front (token_of n first) → (k : Kind) → Can n front k → HasKind k (first ∷ rest) ⊎ HasKind k kinds → HasKind k rest ⊎ HasKind k kinds
without_one n front first rest kinds none k can (inl (inl same)) =
    let there : Can n front first = subst (Can n front) (sym same) can in absurd (none there.0 there.1 there.2)
without_one n front first rest kinds none k can (inl (inr h)) = inl h
without_one n front first rest kinds none k can (inr h) = inr h

-- One more kind that can be there.
pub listed_more : (n : ℕ) (front : List Token) (kinds : List Kind) (k : Kind) → AllByRecursion (Can n front) kinds → Can n front k → AllByRecursion (Can n front) (kinds ++ k ∷ [])
listed_more n front [] k h can = (can, tt)
listed_more n front (x ∷ xs) k h can = (h.0, listed_more n front xs k h.1 can)

-- No kind is left.
pub none_left : (k : Kind) (kinds : List Kind) → HasKind k [] ⊎ HasKind k kinds → HasKind k kinds
none_left k kinds (inl h) = absurd h
none_left k kinds (inr h) = h

-- No kind is left of none.
pub empty : (xs : List Kind) → length xs ≡ 0 → xs ≡ []
empty [] h = refl
empty (x ∷ xs) h = absurd (cc)

-- The token that was tried.
abbrev token_at : ℕ → What → Token
token_at n what = record { what = what; span = record { line = 1; start = 0; end = 0 }; number = n }

-- It is the one for the kind.
pub tried : (n : ℕ) (front front' : List Token) (k : Kind) (what : What) → front' ≡ front → what ≡ what_of k
    → GoesOn fits_period 32 front' (token_at n what) → Can n front k
tried n front front' k what e h can = subst (λ (p : List Token × What). GoesOn fits_period 32 p.0 (token_at n p.1)) (λ i. (e i, h i)) can

pub tried_not : (n : ℕ) (front front' : List Token) (k : Kind) (what : What) → front' ≡ front → what ≡ what_of k
    → NoneGoesOn fits_period 32 front' (token_at n what) → NoneGoesOn fits_period 32 front (token_of n k)
tried_not n front front' k what e h cannot =
    subst (λ (p : List Token × What). NoneGoesOn fits_period 32 p.0 (token_at n p.1)) (λ i. (e i, h i)) cannot
