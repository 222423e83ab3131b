-- The order of entries: an entry is put among others, and the due ones are at the front.
use Rattle.std.proofs.Common.{◌≡◌, ◌≢◌, ℕ, zero, suc, ◌+◌, ◌-◌, ◌<◌, ◌≤◌, true, false, nat_le}
use Rattle.std.proofs.Common.{List, [], ◌∷◌, length, get_or, drop, ap, sym, ◌∙◌, subst, arith, ◌⊎◌, inl, inr, ⊎_elim, ◌↔◌, IsTrue}
use Rattle.std.specs.Prelude.{All}
use Rattle.std.specs.List.{AllPairs, Contains, insert, prefix_len}
use Rattle.std.proofs.lemmas.Bool.{cases_eq, cases_lt}
use Rattle.std.proofs.lemmas.Bool.Decides.{nat_tests}
use Rattle.std.proofs.lemmas.List.Sums.{prefix_len-le-length, prefix_len_passes, prefix_len_stops}
use Rattle.std.proofs.lemmas.List.{get_or-drop, length-drop}
use Rattle.std.proofs.lemmas.List.Edits.{length-insert, get_or-insert_below, get_or-insert_at, get_or-insert_above}
use Rattle.std.proofs.lemmas.List.Elements.{Contains-append_cases, Contains-append_right}
use Rattle.std.proofs.lemmas.List.Sorted.{Contains-permutation, IsPermutation-insert, IsPermutation-sym}
use Rattle.ifs_base.specs.declared.ids.TestId.{TestId}
use Rattle.ifs_sched.specs.Idle.{comes_before}

-- Each entry comes before the later ones.
abbrev pub IsAscending : List (ℕ × TestId) → Type 0
IsAscending entries = AllPairs (λ one other. IsTrue (comes_before one other)) entries

-- An entry of no test, for places outside the list.
abbrev pub nobody : ℕ × TestId
nobody = (0, record { 0 = 0 })

-- The order of entries, on numbers.
before-trans : (a b c : ℕ × TestId) → comes_before a b ≡ true → comes_before b c ≡ true → comes_before a c ≡ true
before-trans a b c h k = grind (arith, nat_tests)

before-total : (a b : ℕ × TestId) → comes_before a b ≡ false → a.1.0 ≢ b.1.0 → comes_before b a ≡ true
before-total a b h ne = grind (arith, nat_tests)

pub before-moments : (a b : ℕ × TestId) → comes_before a b ≡ true → a.0 ≤ b.0
before-moments a b h = grind (arith, nat_tests)

pub before-irreflexive : (a b : ℕ × TestId) → comes_before a b ≡ true → a.0 ≡ b.0 → a.1.0 ≢ b.1.0
before-irreflexive a b h e = λ f. grind (arith, nat_tests)

module _ (entries : List (ℕ × TestId)) (entry : ℕ × TestId) (up : IsAscending entries) (other : All (λ e. e.1.0 ≢ entry.1.0) entries) where
  abbrev place : ℕ
  place = prefix_len (λ e. comes_before e entry) entries

  within : place ≤ length entries
  within = prefix_len-le-length (λ e. comes_before e entry) entries

  front : (k : ℕ) (d : ℕ × TestId) → k < place → comes_before (get_or entries k d) entry ≡ true
  front k d h = prefix_len_passes (λ e. comes_before e entry) entries k d h

  at_place : (d : ℕ × TestId) → place < length entries → comes_before entry (get_or entries place d) ≡ true
  at_place d h =
      let stops = prefix_len_stops (λ e. comes_before e entry) entries d h in
      before-total (get_or entries place d) entry stops (other place d h)

  back : (k : ℕ) (d : ℕ × TestId) → place ≤ k → k < length entries → comes_before entry (get_or entries k d) ≡ true
  back k d h in' =
      ⊎_elim
      (λ e. subst (λ n. comes_before entry (get_or entries n d) ≡ true) (sym e) (at_place d (omega arith)))
      (λ ne. before-trans entry (get_or entries place d) (get_or entries k d) (at_place d (omega arith)) (up place k d (omega arith) in'))
      (cases_eq k place)

  abbrev inserted : List (ℕ × TestId)
  inserted = insert entries place entry

  -- An entry that is put in its place.
  at_below : (k : ℕ) (d : ℕ × TestId) → k < place → get_or inserted k d ≡ get_or entries k d
  at_below k d h = get_or-insert_below entries place entry d k h within

  at_itself : (k : ℕ) (d : ℕ × TestId) → k ≡ place → get_or inserted k d ≡ entry
  at_itself k d e = ap (λ n. get_or inserted n d) e ∙ get_or-insert_at entries place entry d within

  at_above : (k : ℕ) (d : ℕ × TestId) → place < k → get_or inserted k d ≡ get_or entries (k - 1) d
  at_above k d h =
      let e : k ≡ k - 1 + 1 = omega arith in
      ap (λ n. get_or inserted n d) e ∙ get_or-insert_above entries place entry d (k - 1) (omega arith) within

  in_order : (a b a' b' : ℕ × TestId) → a ≡ a' → b ≡ b' → comes_before a' b' ≡ true → comes_before a b ≡ true
  in_order a b a' b' e f h = ap (λ x. comes_before x b) e ∙ ap (comes_before a') f ∙ h

  from_below : (i j : ℕ) (d : ℕ × TestId) → i < place → i < j → j < length entries + 1 → comes_before (get_or inserted i d) (get_or inserted j d) ≡ true
  from_below i j d below h in' =
      ⊎_elim
      (λ e. in_order _ _ _ _ (at_below i d below) (at_itself j d e) (front i d below))
      (λ ne.
      ⊎_elim
      (λ k. in_order _ _ _ _ (at_below i d below) (at_below j d k) (up i j d h (omega (arith, within))))
      (λ k. in_order _ _ _ _ (at_below i d below) (at_above j d (omega arith)) (up i (j - 1) d (omega arith) (omega arith)))
      (cases_lt j place))
      (cases_eq j place)

  from_place : (i j : ℕ) (d : ℕ × TestId) → place ≤ i → i < j → j < length entries + 1 → comes_before (get_or inserted i d) (get_or inserted j d) ≡ true
  from_place i j d behind h in' =
      ⊎_elim
      (λ e. in_order _ _ _ _ (at_itself i d e) (at_above j d (omega arith)) (back (j - 1) d (omega arith) (omega arith)))
      (λ ne. in_order _ _ _ _ (at_above i d (omega arith)) (at_above j d (omega arith)) (up (i - 1) (j - 1) d (omega arith) (omega arith)))
      (cases_eq i place)

  -- The entries stay in order.
  pub ascending-put : IsAscending (insert entries (prefix_len (λ e. comes_before e entry) entries) entry)
  ascending-put i j d h in' =
      let len = length-insert entries place entry within in
      ⊎_elim
      (λ below. from_below i j d below h (omega arith))
      (λ behind. from_place i j d (omega arith) h (omega arith))
      (cases_lt i place)

-- The entries after one is put among them.
pub put-contains : (entries : List (ℕ × TestId)) (n : ℕ) (entry e : ℕ × TestId)
    → Contains (insert entries n entry) e ↔ ((e ≡ entry) ⊎ Contains entries e)
put-contains entries n entry e =
    let moved = IsPermutation-insert entries n entry in (
      λ h. one_of (Contains-permutation (insert entries n entry) (entry ∷ entries) e (IsPermutation-sym (entry ∷ entries) (insert entries n entry) moved) h),
      λ h. Contains-permutation (entry ∷ entries) (insert entries n entry) e moved (⊎_elim (λ k. (0, omega arith, sym k)) (Contains-append_right (entry ∷ []) entries e) h),
    )
  where
    only : Contains (entry ∷ []) e → e ≡ entry
    only (zero, h, k) = sym k
    only (suc n, h, k) = absurd (omega arith)

    one_of : Contains (entry ∷ entries) e → (e ≡ entry) ⊎ Contains entries e
    one_of h = ⊎_elim (λ k. inl (only k)) inr (Contains-append_cases (entry ∷ []) entries e h)

-- The due entries are at the front, and the others after them.
module _ (entries : List (ℕ × TestId)) (up : IsAscending entries) (now : ℕ) where
  abbrev front_count : ℕ
  front_count = prefix_len (λ e. nat_le e.0 now) entries

  pub count-le : front_count ≤ length entries
  count-le = prefix_len-le-length (λ e. nat_le e.0 now) entries

  pub due_in_front : (k : ℕ) (d : ℕ × TestId) → k < front_count → (get_or entries k d).0 ≤ now
  due_in_front k d h = let p = prefix_len_passes (λ e. nat_le e.0 now) entries k d h in grind (arith, nat_tests)

  late_at : (d : ℕ × TestId) → front_count < length entries → now < (get_or entries front_count d).0
  late_at d h = let p = prefix_len_stops (λ e. nat_le e.0 now) entries d h in grind (arith, nat_tests)

  pub late_behind : (k : ℕ) (d : ℕ × TestId) → front_count ≤ k → k < length entries → now < (get_or entries k d).0
  late_behind k d h in' =
      let least = late_at d (omega arith) in
      ⊎_elim
      (λ e. subst (λ n. now < (get_or entries n d).0) (sym e) least)
      (λ ne. let m = before-moments (get_or entries front_count d) (get_or entries k d) (up front_count k d (omega arith) in') in omega arith)
      (cases_eq k front_count)

-- The rest of ordered entries is ordered.
pub ascending-drop : (entries : List (ℕ × TestId)) (n : ℕ) → IsAscending entries → IsAscending (drop n entries)
ascending-drop entries n up i j d h in' =
    ap (λ e. comes_before e (get_or (drop n entries) j d)) (get_or-drop n entries i d)
    ∙ ap (comes_before (get_or entries (n + i) d)) (get_or-drop n entries j d)
    ∙ up (n + i) (n + j) d (omega arith) (omega (arith, length-drop n entries))
