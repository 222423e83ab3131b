-- The functions on bytes read what the relations say, and nothing else.
use Rattle.std.proofs.Common.{Option, Some, None, option_map, ◌≡◌, ◌≢◌, ℕ, zero, suc, ◌+◌, ◌<◌}
use Rattle.std.proofs.Common.{◌≤◌, Bool, true, false, cond, eqb, ◌&&◌, ◌||◌, not, List, []}
use Rattle.std.proofs.Common.{◌∷◌, get_or, refl, sym, ◌∙◌, ap, subst, arith, ◌⊎◌, inl, inr}
use Rattle.std.specs.List.{prefix_len}
use Rattle.std.proofs.lemmas.Bool.{cases_lt, eqb-true, eq-eqb}
use Rattle.std.proofs.lemmas.Bool.Decides.{nat_tests}
use Rattle.std.proofs.lemmas.List.Sums.{prefix_len-le-length, prefix_len_passes, prefix_len_stops}
use Rattle.ifs_lex.specs.Characters.{is_quote}
use Rattle.ifs_lex.specs.Lexemes.{begins_with, inside_len, is_dropped, quoted_value}
use Rattle.ifs_lex.specs.Spelling.{Longest, is_escaped, escapes, after_backslash, Closes}
use Rattle.ifs_lex.specs.Spelling.{HasValue, nothing, newline, continued, escaped, itself}

pub prefix_longest : (p : ℕ → Bool) (bs : List ℕ) → Longest p bs (prefix_len p bs)
prefix_longest p bs = record {
  within = prefix_len-le-length p bs;
  pass = λ k l. prefix_len_passes p bs k 0 l;
  stops = λ l. prefix_len_stops p bs 0 l;
}

pub true_false : (a b : Bool) → a ≡ true → b ≡ false → a ≡ b → ⊥
true_false a b h g e = cc

longest_case : (p : ℕ → Bool) (bs : List ℕ) (m n : ℕ) → Longest p bs m → Longest p bs n → (m < n) ⊎ (n ≤ m) → n ≤ m
longest_case p bs m n a b (inl l) = absurd (true_false _ _ (b.pass m l) (a.stops (omega (arith, b.within))) refl)
longest_case p bs m n a b (inr l) = l

pub longest_once : (p : ℕ → Bool) (bs : List ℕ) (m n : ℕ) → Longest p bs m → Longest p bs n → m ≡ n
longest_once p bs m n a b =
    let x = longest_case p bs m n a b (cases_lt m n) in
    let y = longest_case p bs n m b a (cases_lt n m) in
    omega arith

not_equal : (a b : ℕ) → eqb a b ≡ false → a ≢ b
not_equal a b e = λ h. absurd (true_false _ _ (eq-eqb a b h) e refl)

keep : (q b : ℕ) (rest : List ℕ) (t : Bool) → is_dropped q b rest ≡ t → quoted_value q (b ∷ rest) ≡ cond t (quoted_value q rest) (b ∷ quoted_value q rest)
keep q b rest t e = ap (λ x. cond x (quoted_value q rest) (b ∷ quoted_value q rest)) e

drops_newline : (q b : ℕ) (rest : List ℕ) → b ≡ 10 → is_dropped q b rest ≡ true
unfolding is_dropped
drops_newline q b rest e = grind (arith, nat_tests)

drops_backslash : (q b c : ℕ) (rest : List ℕ) → b ≡ 92 → (is_escaped q c || eqb c 10) ≡ true → is_dropped q b (c ∷ rest) ≡ true
unfolding is_dropped
drops_backslash q b c rest e h = grind (arith, nat_tests)

keeps_given : (q c : ℕ) (rest : List ℕ) → is_quote q ≡ true → is_escaped q c ≡ true → is_dropped q c rest ≡ false
unfolding is_dropped
keeps_given q c rest u h = grind (arith, nat_tests)

given_or : (a b : Bool) → a ≡ true → (a || b) ≡ true
given_or true b e = refl
given_or false b e = absurd (cc)

or_newline : (a : Bool) (c : ℕ) → c ≡ 10 → (a || eqb c 10) ≡ true
or_newline a c e = grind (arith, nat_tests)

keeps_other : (b : ℕ) (t : Bool) → (b ≡ 10 → ⊥) → (b ≡ 92 → t ≡ false) → (eqb b 10 || (eqb b 92 && t)) ≡ false
keeps_other b t h g = grind (arith, nat_tests)

gives : (q : ℕ) (rest : List ℕ) → (begins_with q rest || begins_with 32 rest || begins_with 9 rest || begins_with 10 rest) ≡ escapes q rest
gives q [] = refl
gives q (c ∷ more) = refl

keeps_itself : (q b : ℕ) (rest : List ℕ) → b ≢ 10 → (b ≡ 92 → escapes q rest ≡ false) → is_dropped q b rest ≡ false
unfolding is_dropped
keeps_itself q b rest h g = keeps_other b _ h (λ e. gives q rest ∙ g e)

pub said : (q : ℕ) (inside value : List ℕ) → is_quote q ≡ true → HasValue q inside value → value ≡ quoted_value q inside
said q _ _ u nothing = refl
said q _ _ u (newline b rest value e h) = said q rest value u h ∙ sym (keep q b rest true (drops_newline q b rest e))
said q _ _ u (continued b c rest value e f h) =
    said q rest value u h ∙ sym (keep q c rest true (drops_newline q c rest f)) ∙ sym (keep q b (c ∷ rest) true (drops_backslash q b c rest e (or_newline _ c f)))
said q _ _ u (escaped b c rest value e f h) =
    ap (λ xs. c ∷ xs) (said q rest value u h) ∙ sym (keep q c rest false (keeps_given q c rest u f)) ∙ sym (keep q b (c ∷ rest) true (drops_backslash q b c rest e (given_or _ _ f)))
said q _ _ u (itself b rest value e f h) =
    ap (λ xs. b ∷ xs) (said q rest value u h) ∙ sym (keep q b rest false (keeps_itself q b rest e f))

says_one : (q b : ℕ) (rest : List ℕ) (t : Bool) → eqb b 10 ≡ t → (b ≡ 92 → escapes q rest ≡ false) → HasValue q rest (quoted_value q rest) → HasValue q (b ∷ rest) (quoted_value q (b ∷ rest))
says_one q b rest true e g h =
    let P : List ℕ → Type 0 = λ v. HasValue q (b ∷ rest) v in
    let ten = eqb-true b 10 e in
    subst P (sym (keep q b rest true (drops_newline q b rest ten))) (newline b rest (quoted_value q rest) ten h)
says_one q b rest false e g h =
    let P : List ℕ → Type 0 = λ v. HasValue q (b ∷ rest) v in
    let other = not_equal b 10 e in
    subst P (sym (keep q b rest false (keeps_itself q b rest other g))) (itself b rest (quoted_value q rest) other g h)

says_given : (q b c : ℕ) (more : List ℕ) (g : Bool) → is_quote q ≡ true → b ≡ 92 → is_escaped q c ≡ g → (g || eqb c 10) ≡ true → HasValue q more (quoted_value q more) → HasValue q (b ∷ c ∷ more) (quoted_value q (b ∷ c ∷ more))
says_given q b c more true u e f s h =
    let P : List ℕ → Type 0 = λ v. HasValue q (b ∷ c ∷ more) v in
    let first = keep q b (c ∷ more) true (drops_backslash q b c more e (given_or _ _ f)) in
    let second = keep q c more false (keeps_given q c more u f) in
    subst P (sym (first ∙ second)) (escaped b c more (quoted_value q more) e f h)
says_given q b c more false u e f s h =
    let P : List ℕ → Type 0 = λ v. HasValue q (b ∷ c ∷ more) v in
    let ten = eqb-true c 10 s in
    let first = keep q b (c ∷ more) true (drops_backslash q b c more e (or_newline _ c ten)) in
    let second = keep q c more true (drops_newline q c more ten) in
    subst P (sym (first ∙ second)) (continued b c more (quoted_value q more) e ten h)

says_two : (q b c : ℕ) (more : List ℕ) (t s : Bool) → is_quote q ≡ true → eqb b 92 ≡ t → escapes q (c ∷ more) ≡ s → HasValue q (c ∷ more) (quoted_value q (c ∷ more)) → HasValue q more (quoted_value q more) → HasValue q (b ∷ c ∷ more) (quoted_value q (b ∷ c ∷ more))
says_two q b c more false s u e f h k = says_one q b (c ∷ more) _ refl (λ same. absurd (not_equal b 92 e same)) h
says_two q b c more true false u e f h k = says_one q b (c ∷ more) _ refl (λ _. f) h
says_two q b c more true true u e f h k = says_given q b c more _ u (eqb-true b 92 e) refl f k

pub says : (q : ℕ) (inside : List ℕ) → is_quote q ≡ true → HasValue q inside (quoted_value q inside)
says q [] u = nothing
says q (b ∷ []) u = says_one q b [] _ refl (λ _. refl) nothing
says q (b ∷ c ∷ more) u = says_two q b c more _ _ u refl refl (says q (c ∷ more) u) (says q more u)

pub shift : (before : Bool) (b : ℕ) (rest : List ℕ) (k : ℕ) → after_backslash before (b ∷ rest) (suc k) ≡ after_backslash (eqb b 92) rest k
shift before b rest zero = refl
shift before b rest (suc j) = refl

both_parts : (b q : ℕ) (e : Bool) → (eqb b q && not e) ≡ true → (b ≡ q) × (e ≡ false)
both_parts b q true h = (grind (arith, nat_tests), absurd (both_no _ h))
  where
    both_no : (a : Bool) → (a && false) ≡ true → ⊥
    both_no true k = cc
    both_no false k = cc
both_parts b q false h = (grind (arith, nat_tests), refl)

pub one_part : (b q : ℕ) (e : Bool) → (eqb b q && not e) ≡ false → b ≡ q → e ≡ true
one_part b q true h same = refl
one_part b q false h same = absurd (only_one _ (eq-eqb b q same) h)
  where
    only_one : (a : Bool) → a ≡ true → (a && true) ≡ false → ⊥
    only_one true g k = cc
    only_one false g k = cc

first_later : (q : ℕ) (e : Bool) (b : ℕ) (rest : List ℕ) (k : ℕ) → (eqb b q && not e) ≡ false → Closes q (eqb b 92) rest k → (i : ℕ) → i < suc k → get_or (b ∷ rest) i 0 ≡ q → after_backslash e (b ∷ rest) i ≡ true
first_later q e b rest k t h zero l same = one_part b q e t same
first_later q e b rest k t h (suc j) l same = shift e b rest j ∙ h.first j (omega arith) same

later : (q : ℕ) (e : Bool) (b : ℕ) (rest : List ℕ) (k : ℕ) → (eqb b q && not e) ≡ false → Closes q (eqb b 92) rest k → Closes q e (b ∷ rest) (suc k)
later q e b rest k t h = record {
  within = omega (arith, h.within);
  closes = h.closes;
  free = shift e b rest k ∙ h.free;
  first = first_later q e b rest k t h;
}

at_once : (q : ℕ) (e : Bool) (b : ℕ) (rest : List ℕ) → (eqb b q && not e) ≡ true → Closes q e (b ∷ rest) 0
at_once q e b rest t =
    let parts = both_parts b q e t in record {
      within = omega arith;
      closes = parts.0;
      free = parts.1;
      first = λ k l same. absurd (omega arith);
    }

closes_case : (q : ℕ) (e : Bool) (b : ℕ) (rest : List ℕ) (n : ℕ) (t : Bool) (m : Option ℕ) → (eqb b q && not e) ≡ t → ((k : ℕ) → m ≡ Some k → Closes q (eqb b 92) rest k) → cond t (Some 0) (option_map (λ i. 1 + i) m) ≡ Some n → Closes q e (b ∷ rest) n
closes_case q e b rest n true m t f h =
    let z : 0 ≡ n = cc in
    let P : ℕ → Type 0 = λ i. Closes q e (b ∷ rest) i in
    subst P z (at_once q e b rest t)
closes_case q e b rest n false None t f h = absurd (cc)
closes_case q e b rest n false (Some k) t f h =
    let z : 1 + k ≡ n = cc in
    let s : suc k ≡ n = omega arith in
    let P : ℕ → Type 0 = λ i. Closes q e (b ∷ rest) i in
    subst P s (later q e b rest k t (f k refl))

pub closes : (q : ℕ) (e : Bool) (bs : List ℕ) (n : ℕ) → inside_len q e bs ≡ Some n → Closes q e bs n
closes q e [] n h = absurd (cc)
closes q e (b ∷ rest) n h = closes_case q e b rest n _ _ refl (λ k s. closes q (eqb b 92) rest k s) h

test_later : (q : ℕ) (e : Bool) (b : ℕ) (rest : List ℕ) (k : ℕ) (t : Bool) → (eqb b q && not e) ≡ t → Closes q e (b ∷ rest) (suc k) → t ≡ false
test_later q e b rest k true t h =
    let parts = both_parts b q e t in
    absurd (true_false _ _ (h.first 0 (omega arith) parts.0) parts.1 refl)
test_later q e b rest k false t h = refl

earlier : (q : ℕ) (e : Bool) (b : ℕ) (rest : List ℕ) (k : ℕ) → Closes q e (b ∷ rest) (suc k) → Closes q (eqb b 92) rest k
earlier q e b rest k h = record {
  within = omega (arith, h.within);
  closes = h.closes;
  free = sym (shift e b rest k) ∙ h.free;
  first = λ i l same. sym (shift e b rest i) ∙ h.first (suc i) (omega arith) same;
}

both_hold : (b q : ℕ) (e : Bool) → b ≡ q → e ≡ false → (eqb b q && not e) ≡ true
both_hold b q true same f = absurd (cc)
both_hold b q false same f = grind (arith, nat_tests)

pub closed : (q : ℕ) (e : Bool) (bs : List ℕ) (n : ℕ) → Closes q e bs n → inside_len q e bs ≡ Some n
closed q e [] n h = absurd (omega (arith, h.within))
closed q e (b ∷ rest) zero h =
    ap (λ t. cond t (Some 0) (option_map (λ i. 1 + i) (inside_len q (eqb b 92) rest))) (both_hold b q e h.closes h.free)
closed q e (b ∷ rest) (suc k) h =
    let one : 1 + k ≡ suc k = omega arith in
    ap (λ t. cond t (Some 0) (option_map (λ i. 1 + i) (inside_len q (eqb b 92) rest))) (test_later q e b rest k _ refl h) ∙
    ap (option_map (λ i. 1 + i)) (closed q (eqb b 92) rest k (earlier q e b rest k h)) ∙ ap (λ i. Some i) one
