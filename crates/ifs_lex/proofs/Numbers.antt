-- The tokens of a text with and without their numbers.
use Rattle.std.proofs.Common.{◌≡◌, ℕ, suc, ◌+◌, ◌<◌, List, [], ◌∷◌, ◌++◌, length, get_or, set, take, drop}
use Rattle.std.proofs.Common.{Result, Ok, Err, refl, sym, ap, subst, ◌∙◌, arith, append_assoc}
use Rattle.std.proofs.lemmas.List.{take_more, drop_more, set_at, get_or_at, length-take-le, get_or_default}
use Rattle.ifs_base.specs.Results.{◌>>=◌}
use Rattle.ifs_lex.specs.declared.token.Token.{Token}
use Rattle.ifs_lex.specs.declared.fault.LexFault.{LexFault}
use Rattle.ifs_lex.specs.Expansion.{unnumbered_of, tokens_of, HasTokens, EndsOnce, Endless}
use Rattle.ifs_lex.specs.Numbered.{with_number, numbered_from, HaveNumbers, AreNumbered}

-- The tokens of a text without their numbers.
pub record Unnumbered (text : List ℕ) (defs : List (List ℕ × List ℕ)) (ts : List Token) : Type 0 where
  pub tokens : List Token
  pub has : unnumbered_of text defs ≡ Ok tokens
  pub numbered : numbered_from 0 tokens ≡ ts

by_result : (text : List ℕ) (defs : List (List ℕ × List ℕ)) (ts : List Token) (r : Result (List Token) LexFault) → unnumbered_of text defs ≡ r
    → (r >>= λ tokens. Ok (numbered_from 0 tokens)) ≡ Ok ts → Unnumbered text defs ts
by_result text defs ts (Ok tokens) e h = record { tokens = tokens; has = e; numbered = cc }
by_result text defs ts (Err fault) e h = absurd (cc)

pub unnumbered : (text : List ℕ) (defs : List (List ℕ × List ℕ)) (ts : List Token) → HasTokens text defs ts → Unnumbered text defs ts
unfolding tokens_of
unnumbered text defs ts h = by_result text defs ts (unnumbered_of text defs) refl h

fault_by_result : (fault : LexFault) (r : Result (List Token) LexFault) → (r >>= λ tokens. Ok (numbered_from 0 tokens)) ≡ Err fault → r ≡ Err fault
fault_by_result fault (Ok tokens) h = absurd (cc)
fault_by_result fault (Err other) h = let same : other ≡ fault = cc in ap (λ (f : LexFault). Err f) same

-- A fault of a text is one of its tokens without their numbers.
pub unnumbered_fault : (text : List ℕ) (defs : List (List ℕ × List ℕ)) (fault : LexFault) → tokens_of text defs ≡ Err fault → unnumbered_of text defs ≡ Err fault
unfolding tokens_of
unnumbered_fault text defs fault h = fault_by_result fault (unnumbered_of text defs) h

pub numbered_fault : (text : List ℕ) (defs : List (List ℕ × List ℕ)) (fault : LexFault) → unnumbered_of text defs ≡ Err fault → tokens_of text defs ≡ Err fault
unfolding tokens_of
numbered_fault text defs fault h = ap (λ (r : Result (List Token) LexFault). r >>= λ tokens. Ok (numbered_from 0 tokens)) h

have_numbers : (n : ℕ) (ts : List Token) → HaveNumbers n (numbered_from n ts)
have_numbers n [] = tt
have_numbers n (t ∷ rest) = (refl, have_numbers (suc n) rest)

pub are_numbered : (ts : List Token) → AreNumbered (numbered_from 0 ts)
are_numbered ts = have_numbers 0 ts

-- The tokens of a text have their numbers.
pub spelled_numbered : (text : List ℕ) (defs : List (List ℕ × List ℕ)) (ts : List Token) → HasTokens text defs ts → AreNumbered ts
spelled_numbered text defs ts h = let u = unnumbered text defs ts h in subst AreNumbered u.numbered (are_numbered u.tokens)

numbered_push : (n : ℕ) (ts : List Token) (t : Token) → numbered_from n (ts ++ t ∷ []) ≡ numbered_from n ts ++ with_number (n + length ts) t ∷ []
numbered_push n [] t = let e : n ≡ n + 0 = omega arith in ap (λ k. with_number k t ∷ []) e
numbered_push n (u ∷ ts) t =
    let e : suc n + length ts ≡ n + length (u ∷ ts) = omega arith in
    ap (λ r. with_number n u ∷ r) (numbered_push (suc n) ts t ∙ ap (λ k. numbered_from (suc n) ts ++ with_number k t ∷ []) e)

numbered_endless : (n : ℕ) (ts : List Token) → Endless ts → Endless (numbered_from n ts)
numbered_endless n [] h = tt
numbered_endless n (t ∷ rest) h = (h.0, numbered_endless (suc n) rest h.1)

pub numbered_once : (ts : List Token) → EndsOnce ts → EndsOnce (numbered_from 0 ts)
numbered_once ts h = record {
  front = numbered_from 0 h.front;
  last = with_number (0 + length h.front) h.last;
  whole = ap (numbered_from 0) h.whole ∙ numbered_push 0 h.front h.last;
  ends = h.ends;
  once = numbered_endless 0 h.front h.once;
}

length-numbered : (n : ℕ) (ts : List Token) → length (numbered_from n ts) ≡ length ts
length-numbered n [] = refl
length-numbered n (t ∷ rest) = ap (λ k. suc k) (length-numbered (suc n) rest)

-- Tokens whose first i have their numbers.
abbrev pub numbered_below : ℕ → List Token → List Token
numbered_below i ts = numbered_from 0 (take i ts) ++ drop i ts

module _ (ts : List Token) (i : ℕ) (t : Token) (within : i < length ts) (is : get_or ts i t ≡ t) where
  front : length (numbered_from 0 (take i ts)) ≡ i
  front = length-numbered 0 (take i ts) ∙ length-take-le i ts (omega arith)

  here : numbered_below i ts ≡ numbered_from 0 (take i ts) ++ t ∷ drop (i + 1) ts
  here = ap (λ r. numbered_from 0 (take i ts) ++ r) (drop_more ts i t within ∙ ap (λ u. u ∷ drop (i + 1) ts) is)

  next : numbered_below (i + 1) ts ≡ numbered_from 0 (take i ts) ++ with_number i t ∷ drop (i + 1) ts
  next =
      let size = length-take-le i ts (omega arith) in
      let number : 0 + length (take i ts) ≡ i = omega (arith, size) in
      ap (λ r. numbered_from 0 r ++ drop (i + 1) ts) (take_more ts i t within ∙ ap (λ u. take i ts ++ u ∷ []) is)
      ∙ ap (λ r. r ++ drop (i + 1) ts) (numbered_push 0 (take i ts) t)
      ∙ ap (λ k. numbered_from 0 (take i ts) ++ with_number k t ∷ [] ++ drop (i + 1) ts) number
      ∙ append_assoc (numbered_from 0 (take i ts)) (with_number i t ∷ []) (drop (i + 1) ts)

-- One more token gets its number.
pub numbered_more : (ts us : List Token) (i : ℕ) (d : Token) → us ≡ numbered_below i ts → i < length ts
    → set us i (with_number i (get_or us i d)) ≡ numbered_below (i + 1) ts
numbered_more ts us i d so within =
    let t = get_or ts i d in
    let is = get_or_default ts i t d within in
    let read : get_or us i d ≡ t =
    ap (λ r. get_or r i d) (so ∙ here ts i t within is) ∙ get_or_at (numbered_from 0 (take i ts)) t (drop (i + 1) ts) d i (front ts i t within is) in
    ap (λ u. set us i (with_number i u)) read
    ∙ ap (λ r. set r i (with_number i t)) (so ∙ here ts i t within is)
    ∙ set_at (numbered_from 0 (take i ts)) t (drop (i + 1) ts) (with_number i t) i (front ts i t within is)
    ∙ sym (next ts i t within is)
