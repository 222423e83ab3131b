-- Lists of tests: reading one gives the mask whose tests it lists.
use Rattle.std.proofs.Common.{◌≡◌, ℕ, zero, suc, ◌+◌, ◌-◌, ◌*◌, ◌%◌, ◌^◌, ◌<◌, ◌≤◌, Bool, true, false, cond}
use Rattle.std.proofs.Common.{List, [], ◌∷◌, ◌++◌, length, map, Option, Some, refl, sym, ap, subst, ◌∙◌}
use Rattle.std.proofs.Common.{arith, codes, decimal, append_assoc, pow-suc, mod-lt, length-append, inl, inr}
use Rattle.std.specs.Prelude.{◌==◌, ◌&&◌, nat_lt, option_and_then}
use Rattle.std.specs.Int.{bit_at}
use Rattle.std.specs.List.{flat_map, slice_split, onto_first, AllByRecursion, AllZip, All}
use Rattle.std.specs.Str.{bytes_eq}
use Rattle.std.proofs.lemmas.Bool.{and_parts, cond_both, eqb-true, eqb-false, or_from}
use Rattle.std.proofs.lemmas.Bool.{cond-false, ltb-true, lt-ltb, cases_order}
use Rattle.std.proofs.lemmas.List.{append-nil}
use Rattle.std.proofs.lemmas.List.Elements.{All-from_recursion}
use Rattle.std.proofs.lemmas.List.Splits.{slice_split_none, slice_split_at, length-slice_split}
use Rattle.std.proofs.lemmas.Nat.Bits.{bit_at_above, bit_at_cat_low, bit_at_cat_high, bit_at-lt}
use Rattle.std.proofs.lemmas.Option.{option_and_then_some, cond_some, same_Some}
use Rattle.std.proofs.lemmas.Nat.{pow_pos, mod-pow-add}
use Rattle.std.proofs.Math.Nat.{pow-le-pow_right}
use Rattle.ifs_base.specs.Words.{listed}
use Rattle.ifs_base.specs.Numbers.{number_of}
use Rattle.ifs_asm.specs.Texts.{tests_from, tests_of}
use Rattle.ifs_asm.specs.Spellings.{is_space_or_tab, IsList}
use Rattle.ifs_asm.specs.inner.Words.{Bare, all_added, with_test, masked, mask_in}
use Rattle.ifs_base.proofs.Decimals.{IsDigit, number_digits, number_nonempty, number_decimal}
use Rattle.ifs_asm.proofs.Bytes.{digit_is_not, each_weaker, each_listed, same_word}
use Rattle.ifs_asm.proofs.Cutting.{runs, IsOneWord}

abbrev pub IsNumber : List ℕ → ℕ → Type 0
IsNumber part n = number_of part ≡ Some n

-- ---- the bits of a mask with one test more

low_bits : (t mask i : ℕ) → i < t → bit_at (2 ^ t + mask) i ≡ bit_at mask i
low_bits t mask i lt =
    let one : 1 * 2 ^ t + mask ≡ 2 ^ t + mask = omega arith in
    subst (λ (m : ℕ). bit_at m i ≡ bit_at mask i) one (bit_at_cat_low 1 t mask i lt)

own_bit : (t mask : ℕ) → mask < 2 ^ t → bit_at (2 ^ t + mask) t ≡ 1
own_bit t mask lt =
    let one : 1 * 2 ^ t + mask ≡ 2 ^ t + mask = omega arith in
    let zeroth : t - t ≡ 0 = omega arith in
    subst (λ (m : ℕ). bit_at m t ≡ 1) one (bit_at_cat_high 1 t mask t lt (omega arith) ∙ ap (bit_at 1) zeroth)

high_bits : (t mask i : ℕ) → mask < 2 ^ t → t < i → bit_at (2 ^ t + mask) i ≡ 0
high_bits t mask i lt over =
    let double : 2 ^ suc t ≡ 2 ^ t * 2 = pow-suc 2 t in
    bit_at_above (2 ^ t + mask) (suc t) i (omega (arith, double, lt)) (omega arith)

cond_case : (s : ℕ) (xs ys zs : List ℕ) (b : Bool) → xs ≡ ys ++ zs → cond b (s ∷ xs) xs ≡ cond b (s ∷ ys) ys ++ zs
cond_case s xs ys zs true e = ap (λ (t : List ℕ). s ∷ t) e
cond_case s xs ys zs false e = e

-- Bits that are 0 list no test.
none_from : (n t mask : ℕ) → ((i : ℕ) → t ≤ i → bit_at mask i ≡ 0) → tests_from n t mask ≡ []
unfolding tests_from
none_from zero t mask zeros = refl
none_from (suc n) t mask zeros =
    let none : (bit_at mask t == 1) ≡ false = rw (zeros t (omega arith)) refl in
    rw none (none_from n (t + 1) mask (λ i le. zeros i (omega arith)))

-- A mask with one more test lists that test last.
more_from : (n s t mask : ℕ) → mask < 2 ^ t → t < s + n → s ≤ t → tests_from n s (2 ^ t + mask) ≡ tests_from n s mask ++ t ∷ []
unfolding tests_from
more_from zero s t mask lt inside le = absurd (omega arith)
more_from (suc n) s t mask lt inside le = elim (cases_order s t) [
  | inl same ↦
      let own : (bit_at (2 ^ t + mask) s == 1) ≡ true = rw (same, own_bit t mask lt) refl in
      let none : (bit_at mask s == 1) ≡ false = rw (bit_at_above mask t s lt (omega arith)) refl in
      let front : tests_from n (s + 1) (2 ^ t + mask) ≡ [] = none_from n (s + 1) (2 ^ t + mask) (λ i h. high_bits t mask i lt (omega arith)) in
      let back : tests_from n (s + 1) mask ≡ [] = none_from n (s + 1) mask (λ i h. bit_at_above mask t i lt (omega arith)) in
      rw (own, none, front, back) (ap (λ (k : ℕ). k ∷ []) same)
  | inr other ↦ elim other [
    | inl below ↦
        let bits = low_bits t mask s below in
        let ih = more_from n (s + 1) t mask lt (omega arith) (omega arith) in
        rw bits (cond_case s (tests_from n (s + 1) (2 ^ t + mask)) (tests_from n (s + 1) mask) (t ∷ []) (bit_at mask s == 1) ih)
    | inr above ↦ absurd (omega arith)
  ]
]

tests_push : (t mask : ℕ) → mask < 2 ^ t → t < 64 → tests_of (2 ^ t + mask) ≡ tests_of mask ++ t ∷ []
unfolding tests_of
tests_push t mask lt small = more_from 64 0 t mask lt (omega arith) (omega arith)

-- ---- what is read lists the mask

test_some : (mask test more : ℕ) → with_test mask test ≡ Some more → (test < 64) × (mask < 2 ^ test) × (more ≡ 2 ^ test + mask)
test_some mask test more h =
    let c = cond_some (nat_lt test 64 && nat_lt mask (2 ^ test)) (2 ^ test + mask) more h in
    let p = and_parts (nat_lt test 64) (nat_lt mask (2 ^ test)) c.0 in
    (ltb-true _ _ p.0, ltb-true _ _ p.1, sym c.1)

-- What was read from parts, and a fact on what there was before, what was read and what there is then.
pub record Added {S X : Type 0} (read : List ℕ → Option X) (P : S → List X → S → Type 0) (before : S) (parts : List (List ℕ)) (all : S) : Type 0 where
  pub items : List X
  pub each : AllZip (λ part x. read part ≡ Some x) parts items
  pub fact : P before items all

pub added_found : {S X : Type 0} (read : List ℕ → Option X) (add : S → X → Option S) (P : S → List X → S → Type 0)
    → ((s : S) → P s [] s) → ((s next all : S) (x : X) (xs : List X) → add s x ≡ Some next → P next xs all → P s (x ∷ xs) all)
    → (parts : List (List ℕ)) (before all : S) → all_added read add before parts ≡ Some all → Added read P before parts all
added_found {S} {X} read add P none more [] before all h = record { items = []; each = tt; fact = subst (λ (s : S). P before [] s) (same_Some before all h) (none before) }
added_found read add P none more (part ∷ parts) before all h =
    option_and_then_some (λ x. option_and_then (λ next. all_added read add next parts) (add before x)) (read part) all h (λ x is_x rest.
    option_and_then_some (λ next. all_added read add next parts) (add before x) all rest (λ next is_next last.
    let f = added_found read add P none more parts next all last in
    record { items = x ∷ f.items; each = (is_x, f.each); fact = more before next all x f.items is_next f.fact }))

-- A mask lists the tests of the mask before it, and then those that were added.
abbrev Lists : ℕ → List ℕ → ℕ → Type 0
Lists mask numbers all = tests_of all ≡ tests_of mask ++ numbers

listed_found : (parts : List (List ℕ)) (mask all : ℕ) → masked mask parts ≡ Some all → Added number_of Lists mask parts all
listed_found = added_found number_of with_test Lists (λ mask. sym (append-nil (tests_of mask))) (λ mask more all test numbers is_more are.
    let t = test_some mask test more is_more in
    are ∙ ap (λ (m : ℕ). tests_of m ++ numbers) t.2 ∙ ap (λ (ns : List ℕ). ns ++ numbers) (tests_push test mask t.1 t.0) ∙ append_assoc (tests_of mask) (test ∷ []) numbers)

-- Parts that were split at commas, joined again.
joined_first : (b : ℕ) (parts : List (List ℕ)) → 0 < length parts → listed (onto_first b parts) ≡ b ∷ listed parts
joined_first b [] some = absurd (omega arith)
joined_first b (part ∷ parts) some = refl

pub split_some : (p : ℕ → Bool) (w : List ℕ) → 0 < length (slice_split p w)
split_some p w = omega (arith, length-slice_split p w)

joined_empty : (parts : List (List ℕ)) → 0 < length parts → listed ([] ∷ parts) ≡ 44 ∷ listed parts
joined_empty [] some = absurd (omega arith)
joined_empty (part ∷ parts) some = refl

join_case : (b : ℕ) (w : List ℕ) (t : Bool) → (b == 44) ≡ t → listed (slice_split (λ byte. byte == 44) w) ≡ w → listed (cond t ([] ∷ slice_split (λ byte. byte == 44) w) (onto_first b (slice_split (λ byte. byte == 44) w))) ≡ b ∷ w
join_case b w true e ih = joined_empty (slice_split (λ byte. byte == 44) w) (split_some (λ byte. byte == 44) w) ∙ ap (λ (t : List ℕ). 44 ∷ t) ih ∙ ap (λ (x : ℕ). x ∷ w) (sym (eqb-true b 44 e))
join_case b w false e ih = joined_first b (slice_split (λ byte. byte == 44) w) (split_some (λ byte. byte == 44) w) ∙ ap (λ (t : List ℕ). b ∷ t) ih

pub joined : (w : List ℕ) → listed (slice_split (λ byte. byte == 44) w) ≡ w
joined [] = refl
joined (b ∷ w) = join_case b w (b == 44) refl (joined w)

no_tests : tests_of 0 ≡ []
unfolding tests_of tests_from
no_tests = refl

pub mask_found : (word : List ℕ) (mask : ℕ) → mask_in word ≡ Some mask → IsList (tests_of mask) word
mask_found word mask h =
    cond_both (bytes_eq word (codes "-")) (Some 0) (masked 0 (slice_split (λ byte. byte == 44) word)) (λ (o : Option ℕ). o ≡ Some mask → IsList (tests_of mask) word)
    (λ e g.
    let same : 0 ≡ mask = same_Some 0 mask g in
    record { parts = []; each = subst (λ (ns : List ℕ). AllZip IsNumber [] ns) (sym no_tests ∙ ap tests_of same) tt; whole = same_word word (codes "-") e })
    (λ e g.
    let f = listed_found (slice_split (λ byte. byte == 44) word) 0 mask g in
    let are : f.items ≡ tests_of mask = sym (f.fact ∙ ap (λ (ns : List ℕ). ns ++ f.items) no_tests) in
    record { parts = slice_split (λ byte. byte == 44) word; each = subst (λ (ns : List ℕ). AllZip IsNumber (slice_split (λ byte. byte == 44) word) ns) are f.each; whole = sym (joined word) }) h

-- A mask that is read is below 2 ^ 64.
abbrev StaysSmall : ℕ → List ℕ → ℕ → Type 0
StaysSmall mask numbers all = mask < 2 ^ 64 → all < 2 ^ 64

masked_small : (parts : List (List ℕ)) (mask all : ℕ) → masked mask parts ≡ Some all → Added number_of StaysSmall mask parts all
masked_small = added_found number_of with_test StaysSmall (λ mask small. small) (λ mask more all test numbers is_more small _.
    let t = test_some mask test more is_more in
    let double : 2 ^ suc test ≡ 2 ^ test * 2 = pow-suc 2 test in
    let most : 2 ^ suc test ≤ 2 ^ 64 = pow-le-pow_right {n = 2} (omega arith) {i = suc test} {j = 64} (omega (arith, t.0)) in
    small (omega (arith, t.1, t.2, double, most)))

pub mask_small : (word : List ℕ) (mask : ℕ) → mask_in word ≡ Some mask → mask < 2 ^ 64
mask_small word mask h =
    cond_both (bytes_eq word (codes "-")) (Some 0) (masked 0 (slice_split (λ byte. byte == 44) word)) (λ (o : Option ℕ). o ≡ Some mask → mask < 2 ^ 64)
    (λ e g. subst (λ (m : ℕ). m < 2 ^ 64) (same_Some 0 mask g) (omega arith))
    (λ e g. (masked_small (slice_split (λ byte. byte == 44) word) 0 mask g).fact (omega arith)) h

-- ---- what lists the tests of a mask is read as the mask

-- The bits of a mask below one of them.
next_bits : (mask t : ℕ) → mask % 2 ^ suc t ≡ bit_at mask t * 2 ^ t + mask % 2 ^ t
next_bits mask t = subst (λ (k : ℕ). mask % 2 ^ k ≡ bit_at mask t * 2 ^ t + mask % 2 ^ t) (omega arith) (mod-pow-add mask 1 t)

next_is : (mask t b : ℕ) → bit_at mask t ≡ b → mask % 2 ^ suc t ≡ b * 2 ^ t + mask % 2 ^ t
next_is mask t b e = subst (λ (x : ℕ). mask % 2 ^ suc t ≡ x * 2 ^ t + mask % 2 ^ t) e (next_bits mask t)

part_step : (part : List ℕ) (parts : List (List ℕ)) (mask test : ℕ) → IsNumber part test → test < 64 → mask < 2 ^ test → masked mask (part ∷ parts) ≡ masked (2 ^ test + mask) parts
part_step part parts mask test is small below =
    let fits : nat_lt test 64 ≡ true = lt-ltb test 64 small in
    let over : nat_lt mask (2 ^ test) ≡ true = lt-ltb mask (2 ^ test) below in
    rw (is, fits, over) refl

again_case : (n t mask : ℕ) (parts : List (List ℕ)) (b : Bool) → t < 64 → (bit_at mask t == 1) ≡ b
    → ((others : List (List ℕ)) → AllZip IsNumber others (tests_from n (t + 1) mask) → masked (mask % 2 ^ suc t) others ≡ Some mask)
    → AllZip IsNumber parts (cond b (t ∷ tests_from n (t + 1) mask) (tests_from n (t + 1) mask)) → masked (mask % 2 ^ t) parts ≡ Some mask
again_case n t mask [] true lt e ih z = absurd z
again_case n t mask (part ∷ parts) true lt e ih z =
    let one : bit_at mask t ≡ 1 = eqb-true (bit_at mask t) 1 e in
    let next : 2 ^ t + mask % 2 ^ t ≡ mask % 2 ^ suc t = omega (arith, next_is mask t 1 one) in
    part_step part parts (mask % 2 ^ t) t z.0 lt (mod-lt mask (pow_pos t)) ∙ ap (λ (m : ℕ). masked m parts) next ∙ ih parts z.1
again_case n t mask parts false lt e ih z =
    let none : bit_at mask t ≡ 0 = omega (arith, bit_at-lt mask t, eqb-false (bit_at mask t) 1 e) in
    let next : mask % 2 ^ t ≡ mask % 2 ^ suc t = omega (arith, next_is mask t 0 none) in
    ap (λ (m : ℕ). masked m parts) next ∙ ih parts z

masked_again : (n t mask : ℕ) (parts : List (List ℕ)) → mask < 2 ^ 64 → n + t ≡ 64 → AllZip IsNumber parts (tests_from n t mask) → masked (mask % 2 ^ t) parts ≡ Some mask
unfolding tests_from
masked_again zero t mask [] small all z =
    let last : t ≡ 64 = omega arith in
    ap Some (ap (λ (k : ℕ). mask % 2 ^ k) last ∙ omega (arith, small))
masked_again zero t mask (part ∷ parts) small all z = absurd z
masked_again (suc n) t mask parts small all z =
    again_case n t mask parts (bit_at mask t == 1) (omega arith) refl
    (λ others y. subst (λ (k : ℕ). masked (mask % 2 ^ k) others ≡ Some mask) (omega arith) (masked_again n (t + 1) mask others small (omega arith) y)) z

pub parts_again : (mask : ℕ) (parts : List (List ℕ)) → mask < 2 ^ 64 → AllZip IsNumber parts (tests_of mask) → masked 0 parts ≡ Some mask
unfolding tests_of
parts_again mask parts small z =
    let none : mask % 2 ^ 0 ≡ 0 = omega arith in
    subst (λ (m : ℕ). masked m parts ≡ Some mask) none (masked_again 64 0 mask parts small refl z)

-- A number is no dash, and has no comma.
no_comma : (part : List ℕ) (n : ℕ) → IsNumber part n → All (λ byte. (byte == 44) ≡ false) part
no_comma part n h = All-from_recursion (λ byte. (byte == 44) ≡ false) part (each_weaker IsDigit (λ byte. (byte == 44) ≡ false) (λ b d. digit_is_not b 44 d (inl (omega arith))) part (number_digits part n h))

cut_listed : (part : List ℕ) (parts : List (List ℕ)) (ns : List ℕ) → AllZip IsNumber (part ∷ parts) ns → slice_split (λ byte. byte == 44) (listed (part ∷ parts)) ≡ part ∷ parts
cut_listed part parts [] z = absurd z
cut_listed part [] (n ∷ ns) z = ap (slice_split (λ byte. byte == 44)) (append-nil part) ∙ slice_split_none (λ byte. byte == 44) part (no_comma part n z.0)
cut_listed part (next ∷ parts) (n ∷ ns) z =
    slice_split_at (λ byte. byte == 44) part 44 (listed (next ∷ parts)) (no_comma part n z.0) refl ∙ ap (λ (ps : List (List ℕ)). part ∷ ps) (cut_listed next parts ns z.1)

no_dash : (part rest : List ℕ) (n : ℕ) → IsNumber part n → bytes_eq (part ++ rest) (codes "-") ≡ false
no_dash [] rest n h = absurd cc
no_dash (d ∷ ds) rest n h =
    let e = digit_is_not d 45 (number_digits (d ∷ ds) n h).0 (inl (omega arith)) in
    rw e refl

again_in : (mask : ℕ) (parts : List (List ℕ)) (word : List ℕ) (ns : List ℕ) → mask < 2 ^ 64 → ns ≡ tests_of mask → AllZip IsNumber parts ns → word ≡ listed parts → mask_in word ≡ Some mask
again_in mask [] word [] small are z whole =
    let none = parts_again mask [] small (subst (λ (ns : List ℕ). AllZip IsNumber [] ns) are tt) in
    rw whole none
again_in mask [] word (n ∷ ns) small are z whole = absurd z
again_in mask (part ∷ parts) word [] small are z whole = absurd z
again_in mask (part ∷ parts) word (n ∷ ns) small are z whole =
    let dash : bytes_eq (listed (part ∷ parts)) (codes "-") ≡ false = no_dash part (flat_map (λ other. codes "," ++ other) parts) n z.0 in
    let cut = cut_listed part parts (n ∷ ns) z in
    ap mask_in whole ∙ cond-false (bytes_eq (listed (part ∷ parts)) (codes "-")) (Some 0) (masked 0 (slice_split (λ byte. byte == 44) (listed (part ∷ parts)))) dash
    ∙ ap (masked 0) cut ∙ parts_again mask (part ∷ parts) small (subst (λ (l : List ℕ). AllZip IsNumber (part ∷ parts) l) are z)

pub mask_again : (mask : ℕ) (word : List ℕ) → mask < 2 ^ 64 → IsList (tests_of mask) word → mask_in word ≡ Some mask
mask_again mask word small l = again_in mask l.parts word (tests_of mask) small refl l.each l.whole

-- ---- a list is one word

abbrev pub IsSolid : ℕ → Type 0
IsSolid byte = (is_space_or_tab byte ≡ false) × ((byte == 34) ≡ false)

digit_solid : (b : ℕ) → IsDigit b → IsSolid b
digit_solid b d = (or_from (b == 32) (b == 9) (digit_is_not b 32 d (inl (omega arith))) (digit_is_not b 9 d (inl (omega arith))), digit_is_not b 34 d (inl (omega arith)))

pub runs_solid : (word : List ℕ) → AllByRecursion IsSolid word → runs Bare word ≡ true
runs_solid [] a = refl
runs_solid (b ∷ bs) a = rw (a.0.0, a.0.1) (runs_solid bs a.1)

pub number_single : (word : List ℕ) (n : ℕ) → IsNumber word n → IsOneWord word
number_single word n h = record { runs_on = runs_solid word (each_weaker IsDigit IsSolid digit_solid word (number_digits word n h)); some = number_nonempty word n h }

-- Each byte of a list of numbers is a digit, a comma or a dash.
parts_each : (P : ℕ → Type 0) (parts : List (List ℕ)) (ns : List ℕ) → ((b : ℕ) → IsDigit b → P b) → AllZip IsNumber parts ns → AllByRecursion (AllByRecursion P) parts
parts_each P [] ns digit z = tt
parts_each P (part ∷ parts) [] digit z = absurd z
parts_each P (part ∷ parts) (n ∷ ns) digit z = (each_weaker IsDigit P digit part (number_digits part n z.0), parts_each P parts ns digit z.1)

pub list_each : (P : ℕ → Type 0) (parts : List (List ℕ)) (ns : List ℕ) → ((b : ℕ) → IsDigit b → P b) → P 44 → P 45 → AllZip IsNumber parts ns → AllByRecursion P (listed parts)
list_each P parts ns digit comma dash z = each_listed P parts comma dash (parts_each P parts ns digit z)

pub list_single : (word : List ℕ) (ns : List ℕ) (parts : List (List ℕ)) → AllZip IsNumber parts ns → word ≡ listed parts → IsOneWord word
list_single word ns [] z whole = subst IsOneWord (sym whole) (record { runs_on = refl; some = omega arith })
list_single word [] (part ∷ parts) z whole = absurd z
list_single word (n ∷ ns) (part ∷ parts) z whole =
    let one = number_single part n z.0 in
    let solid = list_each IsSolid (part ∷ parts) (n ∷ ns) digit_solid (refl, refl) (refl, refl) z in
    subst IsOneWord (sym whole) (record { runs_on = runs_solid (listed (part ∷ parts)) solid; some = omega (arith, one.some, length-append part (flat_map (λ other. codes "," ++ other) parts)) })

-- ---- a list as it is written

numbers_written : (ns : List ℕ) → AllByRecursion (λ n. n < 64) ns → AllZip IsNumber (map decimal ns) ns
numbers_written [] a = tt
numbers_written (n ∷ ns) a = (number_decimal n (omega (arith, a.0)), numbers_written ns a.1)

from_case : (t : ℕ) (ns : List ℕ) (b : Bool) → t < 64 → AllByRecursion (λ n. n < 64) ns → AllByRecursion (λ n. n < 64) (cond b (t ∷ ns) ns)
from_case t ns true lt a = (lt, a)
from_case t ns false lt a = a

from_small : (n t mask : ℕ) → n + t ≡ 64 → AllByRecursion (λ k. k < 64) (tests_from n t mask)
unfolding tests_from
from_small zero t mask all = tt
from_small (suc n) t mask all = from_case t (tests_from n (t + 1) mask) (bit_at mask t == 1) (omega arith) (from_small n (t + 1) mask (omega arith))

of_small : (mask : ℕ) → AllByRecursion (λ k. k < 64) (tests_of mask)
unfolding tests_of
of_small mask = from_small 64 0 mask refl

pub list_written : (mask : ℕ) → IsList (tests_of mask) (listed (map decimal (tests_of mask)))
list_written mask = record { parts = map decimal (tests_of mask); each = numbers_written (tests_of mask) (of_small mask); whole = refl }
