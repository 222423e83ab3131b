-- Appending each new entry yields the first uses.
use Rattle.std.proofs.Common.{◌≡◌, ◌∙◌, Bool, true, false, cond, not, ◌||◌, List}
use Rattle.std.proofs.Common.{[], ◌∷◌, ◌++◌, fold, refl, sym, ap, append_assoc}
use Rattle.std.specs.Prelude.{filter}
use Rattle.std.specs.List.{list_any}
use Rattle.std.specs.Cmp.{IsEquivalence}
use Rattle.std.proofs.lemmas.Cmp.{nat_list_eq_equiv, nat_eq_equiv, and_equiv, on_equiv}
use Rattle.std.proofs.lemmas.List.{append-nil}
use Rattle.std.proofs.lemmas.List.Folds.{list_any-append}
use Rattle.indexmap.specs.IndexSet.{insert_key}
use Rattle.ifs_policy.specs.declared.tables.ExternalTest.{ExternalTest}
use Rattle.ifs_policy.specs.Tables.{text_eq, test_eq}
use Rattle.ifs_policy.specs.Whole.{first_uses}

module _ {T : Type 0} (eq : T → T → Bool) (laws : IsEquivalence eq) where
  -- The members that equal no entry of a table.
  abbrev pub news : List T → List T → List T
  news table xs = filter (λ y. not (list_any (eq y) table)) xs

  -- The members that do not equal this one.
  abbrev pub others : T → List T → List T
  others x xs = filter (λ y. not (eq x y)) xs

  -- Equal members equal the same entries.
  pub any_same : (x y : T) (table : List T) → eq x y ≡ true → list_any (eq y) table ≡ list_any (eq x) table
  any_same x y [] e = refl
  any_same x y (z ∷ table) e = λ i. sym (laws.congr x y z e) i || any_same x y table e i

  -- A member that equals an entry is left out already.
  pub there_already : (x : T) (table xs : List T) → list_any (eq x) table ≡ true → news table (others x xs) ≡ news table xs
  there_already x table [] there = refl
  there_already x table (y ∷ ys) there = by (eq x y) refl (there_already x table ys there)
    where
      by : (b : Bool) → eq x y ≡ b → news table (others x ys) ≡ news table ys
          → news table (cond (not b) (y ∷ others x ys) (others x ys)) ≡ cond (not (list_any (eq y) table)) (y ∷ news table ys) (news table ys)
      by true e more = more ∙ ap (λ c. cond (not c) (y ∷ news table ys) (news table ys)) (sym (any_same x y table e ∙ there))
      by false e more = ap (λ xs. cond (not (list_any (eq y) table)) (y ∷ xs) xs) more

  -- A member that is new to a table with one more entry is new to both.
  pub one_more : (x : T) (table xs : List T) → news (table ++ x ∷ []) xs ≡ news table (others x xs)
  one_more x table [] = refl
  one_more x table (y ∷ ys) = by (eq x y) (list_any (eq y) table) refl refl (one_more x table ys)
    where
      both : (c b : Bool) → list_any (eq y) table ≡ c → eq x y ≡ b → list_any (eq y) (table ++ x ∷ []) ≡ c || (b || false)
      both c b f e = list_any-append (eq y) table (x ∷ []) ∙ (λ i. f i || ((laws.symm y x ∙ e) i || false))

      kept : (d : Bool) → list_any (eq y) (table ++ x ∷ []) ≡ d
          → cond (not (list_any (eq y) (table ++ x ∷ []))) (y ∷ news (table ++ x ∷ []) ys) (news (table ++ x ∷ []) ys) ≡ cond (not d) (y ∷ news (table ++ x ∷ []) ys) (news (table ++ x ∷ []) ys)
      kept d e = ap (λ d. cond (not d) (y ∷ news (table ++ x ∷ []) ys) (news (table ++ x ∷ []) ys)) e

      here : (c : Bool) → list_any (eq y) table ≡ c → cond (not c) (y ∷ news table (others x ys)) (news table (others x ys)) ≡ news table (y ∷ others x ys)
      here c f = ap (λ d. cond (not d) (y ∷ news table (others x ys)) (news table (others x ys))) (sym f)

      by : (b c : Bool) → eq x y ≡ b → list_any (eq y) table ≡ c → news (table ++ x ∷ []) ys ≡ news table (others x ys)
          → news (table ++ x ∷ []) (y ∷ ys) ≡ news table (cond (not b) (y ∷ others x ys) (others x ys))
      by true true e f more = kept true (both true true f e) ∙ more
      by true false e f more = kept true (both false true f e) ∙ more
      by false true e f more = kept true (both true false f e) ∙ more ∙ here true f
      by false false e f more = kept false (both false false f e) ∙ ap (λ xs. y ∷ xs) more ∙ here false f

  inserted_all : (table xs : List T) → fold (insert_key eq) table xs ≡ table ++ news table (first_uses eq xs)
  inserted_all table [] = sym (append-nil table)
  inserted_all table (x ∷ xs) = by (list_any (eq x) table) refl (inserted_all table xs) (inserted_all (table ++ x ∷ []) xs)
    where
      later : List T
      later = others x (first_uses eq xs)

      by : (b : Bool) → list_any (eq x) table ≡ b → fold (insert_key eq) table xs ≡ table ++ news table (first_uses eq xs)
          → fold (insert_key eq) (table ++ x ∷ []) xs ≡ table ++ x ∷ [] ++ news (table ++ x ∷ []) (first_uses eq xs)
          → fold (insert_key eq) (insert_key eq table x) xs ≡ table ++ cond (not (list_any (eq x) table)) (x ∷ news table later) (news table later)
      by true e old more =
          ap (λ c. fold (insert_key eq) (cond c table (table ++ x ∷ [])) xs) e ∙ old
          ∙ ap (λ ys. table ++ ys) (sym (there_already x table (first_uses eq xs) e))
          ∙ ap (λ c. table ++ cond (not c) (x ∷ news table later) (news table later)) (sym e)
      by false e old more =
          ap (λ c. fold (insert_key eq) (cond c table (table ++ x ∷ [])) xs) e ∙ more
          ∙ ap (λ ys. (table ++ x ∷ []) ++ ys) (one_more x table (first_uses eq xs))
          ∙ append_assoc table (x ∷ []) (news table later)
          ∙ ap (λ c. table ++ cond (not c) (x ∷ news table later) (news table later)) (sym e)

  -- All members are new to the empty table.
  pub all_new : (xs : List T) → news [] xs ≡ xs
  all_new [] = refl
  all_new (x ∷ xs) = ap (λ ys. x ∷ ys) (all_new xs)

  pub inserted_are_first : (xs : List T) → fold (insert_key eq) [] xs ≡ first_uses eq xs
  inserted_are_first xs = inserted_all [] xs ∙ all_new (first_uses eq xs)

pub text_laws : IsEquivalence text_eq
text_laws = nat_list_eq_equiv

pub test_laws : IsEquivalence test_eq
test_laws = and_equiv (on_equiv (λ (t : ExternalTest). t.command) text_laws) (on_equiv (λ (t : ExternalTest). t.period) nat_eq_equiv)
