-- Tokens in two lists, and the kinds that can come behind them.
use Rattle.std.proofs.Common.{◌≡◌, ◌∙◌, refl, sym, ap, subst, ℕ, Bool, true, false, not, Option, Some, None, List, [], ◌∷◌, ◌++◌, length, take, drop, take-append-drop}
use Rattle.std.specs.Bool.{IsTrue}
use Rattle.std.specs.Option.{is_some}
use Rattle.ifs_lex.specs.declared.token.Token.{Token}
use Rattle.ifs_lex.specs.declared.token.What.TheVariants as what
use Rattle.ifs_lex.specs.Expansion.{Endless, EndsOnce}
use Rattle.ifs_expected_tokens.specs.declared.kind.Kind.{Kind}
use Rattle.ifs_expected_tokens.specs.Expected.{AreExpected, AreExpectedAs, IsFront}
use Rattle.ifs_expected_tokens.specs.inner.Shorter.{BeginsState, IsFrontBelow, SayItems, placed}
use Rattle.ifs_expected_tokens.proofs.Fronts.{endless_both, front_below, parts_below, without_middle}
use Rattle.ifs_expected_tokens.proofs.Shorter.{expected_by, without, without_inner}

pub no_stop : (o : Option ℕ) (b : Bool) → is_some o ≡ not b → IsTrue b → o ≡ None
no_stop None b e h = refl
no_stop (Some n) b e h = let k : true ≡ false = e ∙ ap not h in absurd (cc)

-- Two parts of a list are the list again.
pub rejoined : (k : ℕ) (all a b : List Token) → a ≡ take k all → b ≡ drop k all → a ++ b ≡ all
rejoined k all a b e f = ap (λ (p : List Token × List Token). p.0 ++ p.1) (λ i. (e i, f i)) ∙ take-append-drop k all

pub front_again : (n : ℕ) (l m : List Token) → l ≡ m → IsFrontBelow n m → IsFrontBelow n l
front_again n l m e h = subst (IsFrontBelow n) (sym e) h

pub expected_again : (n : ℕ) (l m : List Token) (kinds : List Kind) → l ≡ m → AreExpectedAs n l kinds → AreExpectedAs n m kinds
expected_again n l m kinds e h = subst (λ (x : List Token). AreExpectedAs n x kinds) e h

-- The two parts of numbered tokens.
pub begun : (k n : ℕ) (all a b : List Token) → IsFront all → n ≡ length all → a ≡ take k all → b ≡ drop k all → IsFrontBelow n (a ++ b)
begun k n all a b h size e f =
    front_again n (a ++ b) all (rejoined k all a b e f) (subst (λ (m : ℕ). IsFrontBelow m all) (sym size) (front_below all h))

pub finished : (k n : ℕ) (all a b : List Token) (kinds : List Kind) → n ≡ length all → a ≡ take k all → b ≡ drop k all → AreExpectedAs n (a ++ b) kinds → AreExpected all kinds
finished k n all a b kinds size e f h =
    subst (λ (m : ℕ). AreExpectedAs m all kinds) size (expected_again n (a ++ b) all kinds (rejoined k all a b e f) h)

-- Whole items are left out.
pub behind_items : (n : ℕ) (items rest : List Token) (kinds : List Kind) → SayItems items → AreExpectedAs n rest kinds → AreExpectedAs n (items ++ rest) kinds
behind_items n items rest kinds d h = expected_by n (items ++ rest) rest kinds (without items d rest) h

-- A state without its whole parts.
head_of : (tokens : List Token) (h : BeginsState tokens) → take 3 tokens ≡ h.state ∷ h.name ∷ h.brace ∷ []
head_of tokens h = ap (take 3) h.whole

pub behind_head : (n : ℕ) (tokens a rest : List Token) (kinds : List Kind) → BeginsState tokens → a ≡ take 3 tokens → AreExpectedAs n (a ++ rest) kinds → AreExpectedAs n (tokens ++ rest) kinds
behind_head n tokens a rest kinds h e k =
    expected_again n ((h.state ∷ h.name ∷ h.brace ∷ h.parts) ++ rest) (tokens ++ rest) kinds (ap (λ (l : List Token). l ++ rest) (sym h.whole))
    (expected_by n ((h.state ∷ h.name ∷ h.brace ∷ h.parts) ++ rest) ((h.state ∷ h.name ∷ h.brace ∷ []) ++ rest) kinds (without_inner h.state h.name h.brace h.head h.parts h.said rest)
    (expected_again n (a ++ rest) ((h.state ∷ h.name ∷ h.brace ∷ []) ++ rest) kinds (ap (λ (l : List Token). l ++ rest) (e ∙ head_of tokens h)) k))

pub front_of_head : (n : ℕ) (tokens a b rest : List Token) → a ≡ take 3 tokens → b ≡ drop 3 tokens → IsFrontBelow n (tokens ++ rest) → IsFrontBelow n (a ++ rest)
front_of_head n tokens a b rest e f h =
    without_middle n a b rest (front_again n ((a ++ b) ++ rest) (tokens ++ rest) (ap (λ (l : List Token). l ++ rest) (rejoined 3 tokens a b e f)) h)

pub endless_first : (n : ℕ) (a b : List Token) → IsFrontBelow n (a ++ b) → Endless a
endless_first n a b h = (parts_below n a b h).0.1

pub front_second : (n : ℕ) (a b : List Token) → IsFrontBelow n (a ++ b) → IsFrontBelow n b
front_second n a b h = (parts_below n a b h).1

-- Tokens with an end behind them.
pub ends_once : (all tokens : List Token) → Endless tokens → all ≡ tokens ++ placed what.End ∷ [] → EndsOnce all
ends_once all tokens h e = record { front = tokens; last = placed what.End; whole = e; ends = refl; once = h }

pub closed_once : (all more tokens : List Token) → Endless tokens → more ≡ tokens ++ placed what.BraceClose ∷ [] → all ≡ more ++ placed what.End ∷ [] → EndsOnce all
closed_once all more tokens h e f =
    ends_once all more (subst Endless (sym e) (endless_both tokens (placed what.BraceClose ∷ []) h (refl, tt))) f
