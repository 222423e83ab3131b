-- Tokens stop at one place and with one fault.
use Rattle.std.proofs.Common.{◌≡◌, inl, inr, ℕ, refl, sym, ap, subst, ◌∙◌, Bool, List, [], ◌∷◌, ◌++◌, append_assoc}
use Rattle.ifs_lex.specs.declared.token.Token.{Token}
use Rattle.ifs_lex.specs.declared.token.TokenPlace.{TokenPlace}
use Rattle.ifs_lex.specs.Numbered.{place_of}
use Rattle.ifs_parse.specs.declared.fault.ParseFault.{ParseFault}
use Rattle.ifs_parse.specs.declared.fault.ParseFault.TheVariants.{Unexpected, Period, Nesting}
use Rattle.ifs_parse.specs.Files.{File}
use Rattle.ifs_parse.specs.Words.{fits_period}
use Rattle.ifs_parse.specs.Grammar.{Says, IsAt, GoesOn, NoneGoesOn, NoHelp, Helps, StopsAt, any_period}

-- Two fronts of one list, each with its next token: they are the same, or one goes on from the other.
data Fronts (a b : List Token) (t u : Token) : Type 0 where
  Same : a ≡ b → t ≡ u → Fronts a b t u
  Longer : (m : List Token) → b ≡ a ++ t ∷ m → Fronts a b t u
  Shorter : (m : List Token) → a ≡ b ++ u ∷ m → Fronts a b t u

after_one : (x y : Token) (a b : List Token) (t u : Token) → x ≡ y → Fronts a b t u → Fronts (x ∷ a) (y ∷ b) t u
after_one x y a b t u e (Same h k) = Same (λ i. e i ∷ h i) k
after_one x y a b t u e (Longer m h) = Longer m (λ i. sym e i ∷ h i)
after_one x y a b t u e (Shorter m h) = Shorter m (λ i. e i ∷ h i)

fronts : (a b : List Token) (t u : Token) (v w : List Token) → a ++ t ∷ v ≡ b ++ u ∷ w → Fronts a b t u
fronts [] [] t u v w e = Same refl (cc)
fronts [] (y ∷ b) t u v w e = let first : y ≡ t = cc in Longer b (ap (λ (x : Token). x ∷ b) first)
fronts (x ∷ a) [] t u v w e = let first : x ≡ u = cc in Shorter a (ap (λ (y : Token). y ∷ a) first)
fronts (x ∷ a) (y ∷ b) t u v w e = let first : x ≡ y = cc in after_one x y a b t u first (fronts a b t u v w (cc))

-- Tokens that go on with a token that cannot go on say no file.
passes : (a : List Token) (t : Token) → NoneGoesOn fits_period 32 a t → (b m tail : List Token) (f : File) → b ≡ a ++ t ∷ m → Says (b ++ tail) f → ⊥
passes a t none b m tail f e said =
    none (m ++ tail) f (subst (λ (l : List Token). Says l f) (ap (λ (l : List Token). l ++ tail) e ∙ append_assoc a (t ∷ m) tail) said)

clash : (fits : ℕ → Bool) (room : ℕ) (front : List Token) (token : Token) → NoneGoesOn fits room front token → GoesOn fits room front token → ⊥
clash fits room front token none goes = none goes.0 goes.1 goes.2

-- The limits that help against a fault, and those that do not.
abbrev Told : ParseFault → List Token → Token → Type 0
Told fault front token = NoHelp fault front token × Helps fault front token

told_as : (f g : ParseFault) (front : List Token) (token : Token) → f ≡ g → Told f front token → Told g front token
told_as f g front token e h = subst (λ (f : ParseFault). Told f front token) e h

one_kind : (front : List Token) (token : Token) (place : TokenPlace) (f g : ParseFault) → IsAt f place → IsAt g place → Told f front token → Told g front token → f ≡ g
one_kind front token place f g (inl p) (inl q) h k = p ∙ sym q
one_kind front token place f g (inr (inl p)) (inr (inl q)) h k = p ∙ sym q
one_kind front token place f g (inr (inr p)) (inr (inr q)) h k = p ∙ sym q
one_kind front token place f g (inl p) (inr (inl q)) h k =
    absurd (clash any_period 32 front token ((told_as f (Unexpected place) front token p h).0 any_period 32) (told_as g (Period place) front token q k).1)
one_kind front token place f g (inl p) (inr (inr q)) h k =
    absurd (clash fits_period 33 front token ((told_as f (Unexpected place) front token p h).0 fits_period 33) (told_as g (Nesting place) front token q k).1)
one_kind front token place f g (inr (inl p)) (inl q) h k =
    absurd (clash any_period 32 front token ((told_as g (Unexpected place) front token q k).0 any_period 32) (told_as f (Period place) front token p h).1)
one_kind front token place f g (inr (inr p)) (inl q) h k =
    absurd (clash fits_period 33 front token ((told_as g (Unexpected place) front token q k).0 fits_period 33) (told_as f (Nesting place) front token p h).1)
one_kind front token place f g (inr (inl p)) (inr (inr q)) h k =
    absurd (clash fits_period 33 front token ((told_as f (Period place) front token p h).0 33) (told_as g (Nesting place) front token q k).1)
one_kind front token place f g (inr (inr p)) (inr (inl q)) h k =
    absurd (clash fits_period 33 front token ((told_as g (Period place) front token q k).0 33) (told_as f (Nesting place) front token p h).1)

module _ (tokens : List Token) (f g : ParseFault) (h : StopsAt tokens f) (k : StopsAt tokens g) where
  one_place : Fronts h.front k.front h.token k.token → f ≡ g
  one_place (Longer m e) = absurd (passes h.front h.token h.cannot k.front m k.tail k.file e k.can)
  one_place (Shorter m e) = absurd (passes k.front k.token k.cannot h.front m h.tail h.file e h.can)
  one_place (Same a t) =
      one_kind h.front h.token (place_of h.token) f g h.place (subst (λ (u : Token). IsAt g (place_of u)) (sym t) k.place) (h.no_help, h.helps)
      (subst (λ (p : List Token × Token). Told g p.0 p.1) (λ i. (sym a i, sym t i)) (k.no_help, k.helps))

  pub one_fault : f ≡ g
  one_fault = one_place (fronts h.front k.front h.token k.token h.rest k.rest (sym h.whole ∙ k.whole))

-- Tokens that stop say no file.
pub stops_unsaid : (tokens : List Token) (file : File) (f : ParseFault) → Says tokens file → StopsAt tokens f → ⊥
stops_unsaid tokens file f said h = h.cannot h.rest file (subst (λ (l : List Token). Says l file) h.whole said)
