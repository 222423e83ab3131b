-- Tokens with an end behind them, and the token at which they stop.
use Rattle.std.proofs.Common.{◌≡◌, ◌≢◌, ◌<◌, ◌≤◌, false, inl, inr, ◌⊎◌, ℕ, suc, ◌+◌, arith, refl, sym, ap, subst, ◌∙◌, Option, Some, None}
use Rattle.std.proofs.Common.{List, [], ◌∷◌, ◌++◌, append_assoc, length}
use Rattle.std.specs.Option.{IfSome}
use Rattle.ifs_lex.specs.declared.token.Token.{Token}
use Rattle.ifs_lex.specs.declared.token.TokenPlace.{TokenPlace}
use Rattle.ifs_lex.specs.Expansion.{Endless, is_end}
use Rattle.ifs_lex.specs.Numbered.{place_of, HaveNumbers}
use Rattle.ifs_parse.specs.declared.fault.ParseFault.{ParseFault}
use Rattle.ifs_parse.specs.declared.fault.ParseFault.TheVariants.{Memory}
use Rattle.ifs_parse.specs.Files.{File}
use Rattle.ifs_parse.specs.Words.{fits_period}
use Rattle.ifs_parse.specs.Grammar.{Says, IsAt, fault_place, GoesOn, NoneGoesOn, StopsAt}
use Rattle.ifs_expected_tokens.specs.Expected.{CanGoOn, CannotGoOn, IsFront, StopsOn}
use Rattle.ifs_expected_tokens.specs.inner.Shorter.{AreBelow, IsFrontBelow}

-- A list that stops at a token, and ends in another: it stops at its end, or before.
abbrev pub Split : List Token → List Token → Token → Token → Type 0
Split a front t e = ((a ≡ front) × (t ≡ e)) ⊎ ((m : List Token) × (front ≡ a ++ t ∷ m))

none_left : (a : List Token) (t : Token) (v : List Token) → a ++ t ∷ v ≡ [] → ⊥
none_left [] t v eq = cc
none_left (x ∷ a) t v eq = cc

after_one : (x y : Token) (a front : List Token) (t e : Token) → x ≡ y → Split a front t e → Split (x ∷ a) (y ∷ front) t e
after_one x y a front t e h (inl same) = inl ((λ i. h i ∷ same.0 i), same.1)
after_one x y a front t e h (inr longer) = inr (longer.0, (λ i. sym h i ∷ longer.1 i))

pub split : (a front : List Token) (t e : Token) (v : List Token) → a ++ t ∷ v ≡ front ++ e ∷ [] → Split a front t e
split [] [] t e v eq = inl (refl, cc)
split [] (y ∷ front) t e v eq = let first : y ≡ t = cc in inr (front, ap (λ (x : Token). x ∷ front) first)
split (x ∷ a) [] t e v eq = let rest : a ++ t ∷ v ≡ [] = cc in absurd (none_left a t v rest)
split (x ∷ a) (y ∷ front) t e v eq = let first : x ≡ y = cc in after_one x y a front t e first (split a front t e v (cc))

pub endless_both : (a b : List Token) → Endless a → Endless b → Endless (a ++ b)
endless_both [] b h k = k
endless_both (t ∷ a) b h k = (h.0, endless_both a b h.1 k)

below_more : (a : List Token) (t : Token) → AreBelow t.number a → AreBelow (t.number + 1) (a ++ t ∷ [])
below_more [] t h = (omega arith, tt)
below_more (x ∷ a) t h = (omega (arith, h.0), below_more a t h.1)

-- One more token before the end.
pub longer_front : (front : List Token) (t : Token) → IsFrontBelow t.number front → is_end t.what ≡ false → IsFrontBelow (t.number + 1) (front ++ t ∷ [])
longer_front front t h inner = (below_more front t h.0, endless_both front (t ∷ []) h.1 (inner, tt))

numbered_below : (n m : ℕ) (l : List Token) → HaveNumbers n l → n + length l ≤ m → AreBelow m l
numbered_below n m [] h e = tt
numbered_below n m (t ∷ l) h e = (omega (arith, h.0, e), numbered_below (suc n) m l h.1 (omega (arith, e)))

-- Numbered tokens have numbers below their count.
pub front_below : (l : List Token) → IsFront l → IsFrontBelow (length l) l
front_below l h = (numbered_below 0 (length l) l h.0 (omega arith), h.1)

below_parts : (n : ℕ) (a b : List Token) → AreBelow n (a ++ b) → AreBelow n a × AreBelow n b
below_parts n [] b h = (tt, h)
below_parts n (t ∷ a) b h = let r = below_parts n a b h.1 in ((h.0, r.0), r.1)

below_both : (n : ℕ) (a b : List Token) → AreBelow n a → AreBelow n b → AreBelow n (a ++ b)
below_both n [] b h k = k
below_both n (t ∷ a) b h k = (h.0, below_both n a b h.1 k)

endless_parts : (a b : List Token) → Endless (a ++ b) → Endless a × Endless b
endless_parts [] b h = (tt, h)
endless_parts (t ∷ a) b h = let r = endless_parts a b h.1 in ((h.0, r.0), r.1)

-- Each of two parts of a front is one.
pub parts_below : (n : ℕ) (a b : List Token) → IsFrontBelow n (a ++ b) → IsFrontBelow n a × IsFrontBelow n b
parts_below n a b h = let k = below_parts n a b h.0 in let e = endless_parts a b h.1 in ((k.0, e.0), (k.1, e.1))

-- So are two of its three parts.
pub without_middle : (n : ℕ) (a b d : List Token) → IsFrontBelow n ((a ++ b) ++ d) → IsFrontBelow n (a ++ d)
without_middle n a b d h =
    let k = parts_below n (a ++ b) d h in
    let l = parts_below n a b k.0 in
    (below_both n a d l.0.0 k.1.0, endless_both a d l.0.1 k.1.1)

number_within : (n : ℕ) (a : List Token) (t : Token) (m : List Token) → AreBelow n (a ++ t ∷ m) → t.number < n
number_within n [] t m h = h.0
number_within n (x ∷ a) t m h = number_within n a t m h.1

-- Tokens that stop before a front ends do not go on from there.
stuck_before : (a front : List Token) (t : Token) (m tail : List Token) (file : File) → NoneGoesOn fits_period 32 a t → front ≡ a ++ t ∷ m → Says (front ++ tail) file → ⊥
stuck_before a front t m tail file none e said =
    none (m ++ tail) file (subst (λ (l : List Token). Says l file) (ap (λ (l : List Token). l ++ tail) e ∙ append_assoc a (t ∷ m) tail) said)

module _ (front : List Token) (e : Token) (fault : ParseFault) (h : StopsAt (front ++ e ∷ []) fault) where
  here : Split h.front front h.token e
  here = split h.front front h.token e h.rest (sym h.whole)

  none_by : Split h.front front h.token e → NoneGoesOn fits_period 32 front e
  none_by (inl same) = subst (λ (p : List Token × Token). NoneGoesOn fits_period 32 p.0 p.1) (λ i. (same.0 i, same.1 i)) h.cannot
  none_by (inr longer) = λ more other said. stuck_before h.front front h.token longer.0 (e ∷ more) other h.cannot longer.1 said

  -- The end cannot be there.
  pub cannot_end : NoneGoesOn fits_period 32 front e
  cannot_end = none_by here

module _ (front : List Token) (e : Token) (fault : ParseFault) (below : AreBelow e.number front) (h : StopsAt (front ++ e ∷ []) fault)
    (number : ℕ) (is : h.token.number ≡ number) where
  can_by : number ≡ e.number → Split h.front front h.token e → CanGoOn front
  can_by last (inl same) = (h.tail, h.file, subst (λ (l : List Token). Says (l ++ h.tail) h.file) same.0 h.can)
  can_by last (inr longer) =
      let less : h.token.number < e.number = number_within e.number h.front h.token longer.0 (subst (AreBelow e.number) longer.1 below) in
      absurd (omega (arith, less, is, last))

  -- Tokens that stop at an end behind them can go on.
  pub can_go_on : number ≡ e.number → CanGoOn front
  can_go_on last = can_by last (split h.front front h.token e h.rest (sym h.whole))

  cannot_by : number ≢ e.number → Split h.front front h.token e → CannotGoOn front
  cannot_by other (inl same) = absurd (other (sym is ∙ ap (λ (t : Token). t.number) same.1))
  cannot_by other (inr longer) = λ tail file said. stuck_before h.front front h.token longer.0 tail file h.cannot longer.1 said

  -- Tokens that stop before cannot.
  pub cannot_go_on : number ≢ e.number → CannotGoOn front
  cannot_go_on other = cannot_by other (split h.front front h.token e h.rest (sym h.whole))

-- What goes on from a front with one more token goes on from the front with that token.
pub goes_on : (front : List Token) (t : Token) → CanGoOn (front ++ t ∷ []) → GoesOn fits_period 32 front t
goes_on front t h = (h.0, h.1, subst (λ (l : List Token). Says l h.1) (append_assoc front (t ∷ []) h.0) h.2)

pub none_goes_on : (front : List Token) (t : Token) → CannotGoOn (front ++ t ∷ []) → NoneGoesOn fits_period 32 front t
none_goes_on front t h = λ more other said. h more other (subst (λ (l : List Token). Says l other) (sym (append_assoc front (t ∷ []) more)) said)

at_place : (fault : ParseFault) (place at : TokenPlace) → IsAt fault at → fault_place fault ≡ Some place → at ≡ place
at_place fault place at (inl e) h = let same : Some at ≡ Some place = sym (ap fault_place e) ∙ h in cc
at_place fault place at (inr (inl e)) h = let same : Some at ≡ Some place = sym (ap fault_place e) ∙ h in cc
at_place fault place at (inr (inr e)) h = let same : Some at ≡ Some place = sym (ap fault_place e) ∙ h in cc

-- A fault at which tokens stop has the place of their token.
pub stops_there : (tokens : List Token) (fault : ParseFault) (place : TokenPlace) (h : StopsAt tokens fault) → fault_place fault ≡ Some place → place_of h.token ≡ place
stops_there tokens fault place h e = at_place fault place (place_of h.token) h.place e

pub stops_on : (tokens : List Token) (fault : ParseFault) (place : TokenPlace) → StopsAt tokens fault → fault_place fault ≡ Some place → StopsOn tokens place.number
stops_on tokens fault place h e = (fault, h, ap (λ (p : TokenPlace). p.number) (stops_there tokens fault place h e))

pub no_memory : (fault : ParseFault) (place : TokenPlace) → fault_place fault ≡ Some place → fault ≢ Memory
no_memory fault place e m = let same : None ≡ Some place = sym (ap fault_place m) ∙ e in absurd (cc)

-- The number of a stop says whether tokens can go on: it is that of the end that was put behind them.
pub some_can : (front : List Token) (e : Token) → AreBelow e.number front → (tokens : List Token) → tokens ≡ front ++ e ∷ []
    → (found : Option ℕ) → IfSome found (λ number. StopsOn tokens number) → IfSome found (λ number. number ≡ e.number → CanGoOn front)
some_can front e below tokens same None h = tt
some_can front e below tokens same (Some number) h =
    let k : StopsOn (front ++ e ∷ []) number = subst (λ (l : List Token). StopsOn l number) same h in
    λ here. can_go_on front e k.0 below k.1 number k.2 here

pub some_cannot : (front : List Token) (e : Token) → AreBelow e.number front → (tokens : List Token) → tokens ≡ front ++ e ∷ []
    → (found : Option ℕ) → IfSome found (λ number. StopsOn tokens number) → IfSome found (λ number. number ≢ e.number → CannotGoOn front)
some_cannot front e below tokens same None h = tt
some_cannot front e below tokens same (Some number) h =
    let k : StopsOn (front ++ e ∷ []) number = subst (λ (l : List Token). StopsOn l number) same h in
    λ before. cannot_go_on front e k.0 below k.1 number k.2 before

pub some_cannot_end : (front : List Token) (e : Token) (tokens : List Token) → tokens ≡ front ++ e ∷ [] → (number : ℕ) → StopsOn tokens number → NoneGoesOn fits_period 32 front e
some_cannot_end front e tokens same number h = cannot_end front e h.0 (subst (λ (l : List Token). StopsAt l h.0) same h.1)

alone_by : (a : List Token) (t e : Token) → Split a [] t e → t ≡ e
alone_by a t e (inl same) = same.1
alone_by a t e (inr longer) = absurd (none_left a t longer.0 (sym longer.1))

-- An end that is alone is where it stops.
alone : (e : Token) (fault : ParseFault) (h : StopsAt (e ∷ []) fault) → h.token ≡ e
alone e fault h = alone_by h.front h.token e (split h.front [] h.token e h.rest (sym h.whole))

pub some_empty : (front : List Token) (e : Token) → front ≡ [] → (tokens : List Token) → tokens ≡ front ++ e ∷ []
    → (found : Option ℕ) → IfSome found (λ number. StopsOn tokens number) → IfSome found (λ number. number ≡ e.number)
some_empty front e empty tokens same None h = tt
some_empty front e empty tokens same (Some number) h =
    let k : StopsOn (e ∷ []) number = subst (λ (l : List Token). StopsOn l number) (same ∙ ap (λ (l : List Token). l ++ e ∷ []) empty) h in
    sym k.2 ∙ ap (λ (t : Token). t.number) (alone e k.0 k.1)
