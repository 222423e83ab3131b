-- Walks of any length, where one has more moves than there are states.
use Rattle.std.proofs.Common.{◌≡◌, ℕ, zero, suc, ◌+◌, ◌<◌, ◌≤◌, ◌⊎◌, inl, inr, ⊎_elim, Bool, true, false, ◌&&◌, ◌||◌, List, length, Some, None, refl, sym, ap, ◌∙◌, subst, arith}
use Rattle.std.proofs.lemmas.Bool.{false≢true, cases_eq}
use Rattle.std.proofs.lemmas.Option.{none-some, same_Some}
use Rattle.ifs_base.specs.Facts.{Facts}
use Rattle.ifs_base.specs.declared.ids.StateId.{StateId}
use Rattle.ifs_gen.specs.Trees.{Part, Policy}
use Rattle.ifs_policy.specs.Meaning.{Block}
use Rattle.ifs_solver.specs.declared.searching.Extent.{Extent}
use Rattle.ifs_claims.specs.Changes.{could_move, any_below, could_change, RestsWithin, WouldChange, IsToldOfChanges, AreKnown}
use Rattle.ifs_claims.specs.declared.known_changes.KnownChanges.{KnownChanges}
use Rattle.ifs_claims.proofs.Answering.{answered_of}
use Rattle.ifs_claims.proofs.Worlds.{less_far}

-- From a place a graph has so many moves in a row, among the first places.
abbrev far : (ℕ → ℕ → Bool) → ℕ → ℕ → ℕ → Bool
far move count zero s = true
far move count (suc n) s = any_below (λ next. move s next && far move count n next) count

-- Tests that agree below a number, and one that passes where the other does.
abbrev pub Agree : (ℕ → Bool) → (ℕ → Bool) → ℕ → Type 0
Agree p q n = (i : ℕ) → i < n → p i ≡ q i

abbrev pub Follow : (ℕ → Bool) → (ℕ → Bool) → ℕ → Type 0
Follow p q n = (i : ℕ) → i < n → p i ≡ true → q i ≡ true

any_agree : (p q : ℕ → Bool) (n : ℕ) → Agree p q n → any_below p n ≡ any_below q n
any_agree p q zero f = refl
any_agree p q (suc n) f = ap (λ x. x || p n) (any_agree p q n (λ i lt. f i (omega (arith, lt)))) ∙ ap (λ x. any_below q n || x) (f n (omega arith))

or_follow : (a b c d : Bool) → (a ≡ true → c ≡ true) → (b ≡ true → d ≡ true) → (a || b) ≡ true → (c || d) ≡ true
or_follow true b c d f g e = ap (λ x. x || d) (f refl)
or_follow false b true d f g e = refl
or_follow false b false d f g e = g e

any_follow : (p q : ℕ → Bool) (n : ℕ) → Follow p q n → any_below p n ≡ true → any_below q n ≡ true
any_follow p q zero f e = e
any_follow p q (suc n) f e = or_follow (any_below p n) (p n) (any_below q n) (q n) (λ h. any_follow p q n (λ i lt. f i (omega (arith, lt))) h) (f n (omega arith)) e

-- How many numbers below another one pass.
abbrev counted : Bool → ℕ → ℕ
counted true n = suc n
counted false n = n

abbrev how_many : (ℕ → Bool) → ℕ → ℕ
how_many p zero = 0
how_many p (suc n) = counted (p n) (how_many p n)

how_many_up_to : (p : ℕ → Bool) (n : ℕ) → how_many p n ≤ n
how_many_up_to p zero = omega arith
how_many_up_to p (suc n) = up_to (p n) (how_many p n) n (how_many_up_to p n)
  where
    up_to : (b : Bool) (k m : ℕ) → k ≤ m → counted b k ≤ suc m
    up_to true k m le = omega (arith, le)
    up_to false k m le = omega (arith, le)

-- None passes if no number is counted.
none_counted : (p : ℕ → Bool) (n i : ℕ) → how_many p n ≤ 0 → i < n → p i ≡ true → ⊥
none_counted p zero i none lt e = omega (arith, lt)
none_counted p (suc n) i none lt e = by (p n) refl (cases_eq i n) (λ none_before lt_before. none_counted p n i none_before lt_before e)
  where
    by : (b : Bool) → p n ≡ b → (i ≡ n) ⊎ (i ≡ n → ⊥) → (how_many p n ≤ 0 → i < n → ⊥) → ⊥
    by true is which before = omega (arith, subst (λ x. counted x (how_many p n) ≤ 0) is none)
    by false is (inl same) before = false≢true (sym is ∙ ap p (sym same) ∙ e)
    by false is (inr differ) before = before (subst (λ x. counted x (how_many p n) ≤ 0) is none) (omega (arith, lt, differ))

-- Fewer pass, or the same do.
abbrev Fewer : (ℕ → Bool) → (ℕ → Bool) → ℕ → Type 0
Fewer p q n = (how_many p n ≤ how_many q n) × (Agree p q n ⊎ (how_many p n < how_many q n))

fewer : (p q : ℕ → Bool) (n : ℕ) → Follow p q n → Fewer p q n
fewer p q zero f = (omega arith, inl (λ i lt. absurd (omega (arith, lt))))
fewer p q (suc n) f = with_last (p n) (q n) refl refl (fewer p q n (λ i lt. f i (omega (arith, lt))))
  where
    agree_more : p n ≡ q n → Agree p q n → Agree p q (suc n)
    agree_more e a i lt = ⊎_elim (λ same. ap p same ∙ e ∙ ap q (sym same)) (λ differ. let d : i ≡ n → ⊥ = differ in a i (omega (arith, lt, d))) (cases_eq i n)

    with_last : (a b : Bool) → p n ≡ a → q n ≡ b → Fewer p q n → Fewer p q (suc n)
    with_last true false is has less = absurd (false≢true (sym has ∙ f n (omega arith) is))
    with_last true true is has (le, inl a) =
        (subst (λ x. counted x (how_many p n) ≤ how_many q (suc n)) (sym is) (subst (λ x. suc (how_many p n) ≤ counted x (how_many q n)) (sym has) (omega (arith, le))), inl (agree_more (is ∙ sym has) a))
    with_last true true is has (le, inr lt) = (
      subst (λ x. counted x (how_many p n) ≤ how_many q (suc n)) (sym is) (subst (λ x. suc (how_many p n) ≤ counted x (how_many q n)) (sym has) (omega (arith, le))),
      inr (subst (λ x. counted x (how_many p n) < how_many q (suc n)) (sym is) (subst (λ x. suc (how_many p n) < counted x (how_many q n)) (sym has) (omega (arith, lt)))),
    )
    with_last false false is has (le, inl a) =
        (subst (λ x. counted x (how_many p n) ≤ how_many q (suc n)) (sym is) (subst (λ x. how_many p n ≤ counted x (how_many q n)) (sym has) le), inl (agree_more (is ∙ sym has) a))
    with_last false false is has (le, inr lt) = (
      subst (λ x. counted x (how_many p n) ≤ how_many q (suc n)) (sym is) (subst (λ x. how_many p n ≤ counted x (how_many q n)) (sym has) le),
      inr (subst (λ x. counted x (how_many p n) < how_many q (suc n)) (sym is) (subst (λ x. how_many p n < counted x (how_many q n)) (sym has) lt)),
    )
    with_last false true is has (le, which) = (
      subst (λ x. counted x (how_many p n) ≤ how_many q (suc n)) (sym is) (subst (λ x. how_many p n ≤ counted x (how_many q n)) (sym has) (omega (arith, le))),
      inr (subst (λ x. counted x (how_many p n) < how_many q (suc n)) (sym is) (subst (λ x. how_many p n < counted x (how_many q n)) (sym has) (omega (arith, le)))),
    )

-- Who goes so far goes less far.
and_follow : (a b c : Bool) → (b ≡ true → c ≡ true) → (a && b) ≡ true → (a && c) ≡ true
and_follow true b c f e = f e
and_follow false b c f e = e

less : (move : ℕ → ℕ → Bool) (count n s : ℕ) → far move count (suc n) s ≡ true → far move count n s ≡ true
less move count zero s e = refl
less move count (suc n) s e =
    any_follow (λ next. move s next && far move count (suc n) next) (λ next. move s next && far move count n next) count
    (λ i lt. and_follow (move s i) (far move count (suc n) i) (far move count n i) (less move count n i)) e

-- Once the same places go one move further, they go on for ever.
stay : (move : ℕ → ℕ → Bool) (count k m : ℕ) → k ≤ m → Agree (far move count (suc k)) (far move count k) count → Agree (far move count m) (far move count k) count
stay move count k zero le f i lt = let none : zero ≡ k = omega (arith, le) in ap (λ n. far move count n i) none
stay move count k (suc m) le f i lt = by (cases_eq k (suc m)) (λ further. stay move count k m further f)
  where
    by : (k ≡ suc m) ⊎ (k ≡ suc m → ⊥) → (k ≤ m → Agree (far move count m) (far move count k) count) → far move count (suc m) i ≡ far move count k i
    by (inl same) before = ap (λ n. far move count n i) (sym same)
    by (inr differ) before =
        any_agree (λ next. move i next && far move count m next) (λ next. move i next && far move count k next) count (λ j lt_j. ap (λ x. move i j && x) (before (omega (arith, le, differ)) j lt_j)) ∙ f i lt

abbrev Dwindles : (ℕ → ℕ → Bool) → ℕ → ℕ → Type 0
Dwindles move count k = (how_many (far move count k) count + k ≤ count) ⊎ Agree (far move count (suc k)) (far move count k) count

same_next : (move : ℕ → ℕ → Bool) (count k : ℕ) → Agree (far move count (suc k)) (far move count k) count → Dwindles move count (suc k)
same_next move count k same =
    inr (λ i lt. any_agree (λ n. move i n && far move count (suc k) n) (λ n. move i n && far move count k n) count (λ j lt_j. ap (λ x. move i j && x) (same j lt_j)))

dwindles_next : (move : ℕ → ℕ → Bool) (count k : ℕ) → Dwindles move count k → Fewer (far move count (suc k)) (far move count k) count → Dwindles move count (suc k)
dwindles_next move count k (inr same) less_of = same_next move count k same
dwindles_next move count k (inl le) (up_to, inl same) = same_next move count k same
dwindles_next move count k (inl le) (up_to, inr lt) = inl (omega (arith, le, lt))

dwindles : (move : ℕ → ℕ → Bool) (count k : ℕ) → Dwindles move count k
dwindles move count zero = inl (let le = how_many_up_to (far move count zero) count in omega (arith, le))
dwindles move count (suc k) = dwindles_next move count k (dwindles move count k) (fewer (far move count (suc k)) (far move count k) count (λ i lt. less move count k i))

for_ever : (move : ℕ → ℕ → Bool) (count m s : ℕ) → count ≤ m → far move count (suc count) s ≡ true → far move count (suc m) s ≡ true
for_ever move count m s le e =
    any_follow (λ next. move s next && far move count count next) (λ next. move s next && far move count m next) count
    (λ i lt. and_follow (move s i) (far move count count i) (far move count m i) (further i lt (dwindles move count count))) e
  where
    further : (i : ℕ) → i < count → Dwindles move count count → far move count count i ≡ true → far move count m i ≡ true
    further i lt (inl none) h = absurd (none_counted (far move count count) count i (omega (arith, none)) lt h)
    further i lt (inr same) h = stay move count count m le same i lt ∙ h

-- The moves of a policy under some facts.
abbrev moves_of : Block → List Part → Facts → ℕ → ℕ → Bool
moves_of always states facts s next = could_move always states facts (record { 0 = s }) next

could_is_far : (always : Block) (states : List Part) (count : ℕ) (facts : Facts) (n : ℕ) (state : StateId) → could_change always states count facts n state ≡ far (moves_of always states facts) count n state.0
could_is_far always states count facts zero state = refl
could_is_far always states count facts (suc n) state =
    any_agree (λ next. could_move always states facts state next && could_change always states count facts n (record { 0 = next }))
    (λ next. moves_of always states facts state.0 next && far (moves_of always states facts) count n next) count
    (λ next lt. ap (λ x. could_move always states facts state next && x) (could_is_far always states count facts n (record { 0 = next })))

-- Who goes on more often than there are states goes on as often as one likes.
pub goes_for_ever : (policy : Policy) (enough most : ℕ) → length policy.states ≤ enough → enough ≤ most → WouldChange policy enough → WouldChange policy most
goes_for_ever policy enough most all le would =
    let always = policy.always.body in
    let count = length policy.states in
    let once = less_far always policy.states count would.facts (suc count) (suc enough) would.state (omega (arith, all)) would.could in
    record {
      state = would.state;
      facts = would.facts;
      are = would.are;
      could =
          could_is_far always policy.states count would.facts (suc most) would.state
          ∙ for_ever (moves_of always policy.states would.facts) count most would.state.0 (omega (arith, all, le)) (sym (could_is_far always policy.states count would.facts (suc count) would.state) ∙ once);
    }

pub changes_more : (policy : Policy) (enough most : ℕ) (told : Extent) → length policy.states ≤ enough → enough ≤ most → IsToldOfChanges policy enough told → IsToldOfChanges policy most told
changes_more policy enough most told all le h =
    answered_of (RestsWithin policy enough) (RestsWithin policy most) (WouldChange policy enough) (WouldChange policy most) told
    (λ rests known fits begun world agrees steps keeps. let few = rests known fits begun world agrees steps keeps in omega (arith, few, le)) (goes_for_ever policy enough most all le) h

-- What is known of a number, said of others.
pub rests_more : (policy : Policy) (few most : ℕ) → few ≤ most → RestsWithin policy few → RestsWithin policy most
rests_more policy few most le rests known fits begun world agrees steps keeps = let many = rests known fits begun world agrees steps keeps in omega (arith, many, le)

pub changes_less : (policy : Policy) (few most : ℕ) → few ≤ most → WouldChange policy most → WouldChange policy few
changes_less policy few most le would = record {
  state = would.state;
  facts = would.facts;
  are = would.are;
  could = less_far policy.always.body policy.states (length policy.states) would.facts (suc few) (suc most) would.state (omega (arith, le)) would.could;
}

pub known_of_nothing : (policy : Policy) (known : KnownChanges) → known.never_more ≡ None → known.more ≡ None → AreKnown policy known
known_of_nothing policy known none no_more = record { never_more = λ most e. absurd (none-some most (sym none ∙ e)); more = λ most e. absurd (none-some most (sym no_more ∙ e)) }

pub known_never : (policy : Policy) (known : KnownChanges) (least most : ℕ) → AreKnown policy known → known.never_more ≡ Some least → least ≤ most → RestsWithin policy most
known_never policy known least most are e le = rests_more policy least most le (are.never_more least e)

pub known_more : (policy : Policy) (known : KnownChanges) (greatest most : ℕ) → AreKnown policy known → known.more ≡ Some greatest → most ≤ greatest → WouldChange policy most
known_more policy known greatest most are e le = changes_less policy most greatest le (are.more greatest e)

-- One more number is known.
pub learned_never : (policy : Policy) (old new : KnownChanges) (least : ℕ) → AreKnown policy old → RestsWithin policy least → new.never_more ≡ Some least → new.more ≡ old.more → AreKnown policy new
learned_never policy old new least are rests e same = record {
  never_more = λ most k. subst (RestsWithin policy) (same_Some least most (sym e ∙ k)) rests;
  more = λ most k. are.more most (sym same ∙ k);
}

pub learned_more : (policy : Policy) (old new : KnownChanges) (greatest : ℕ) → AreKnown policy old → WouldChange policy greatest → new.more ≡ Some greatest → new.never_more ≡ old.never_more → AreKnown policy new
learned_more policy old new greatest are would e same = record {
  never_more = λ most k. are.never_more most (sym same ∙ k);
  more = λ most k. subst (WouldChange policy) (same_Some greatest most (sym e ∙ k)) would;
}
