-- Lists of kinds: reading one gives the kinds that it lists.
use Rattle.std.proofs.Common.{◌≡◌, ℕ, ◌+◌, ◌<◌, ◌≤◌, true, false, List, [], ◌∷◌, ◌++◌, length, map}
use Rattle.std.proofs.Common.{Option, Some, None, refl, sym, ap, subst, ◌∙◌, arith, codes, append_assoc, length-append}
use Rattle.std.specs.Prelude.{◌==◌, nat_lt}
use Rattle.std.specs.List.{flat_map, slice_split, AllByRecursion, AllZip}
use Rattle.std.specs.Str.{bytes_eq}
use Rattle.std.proofs.lemmas.Bool.{cond_both, cond-false, ltb-true, lt-ltb, ne_eqb, or_from}
use Rattle.std.proofs.lemmas.List.{append-nil}
use Rattle.std.proofs.lemmas.List.Elements.{All-from_recursion}
use Rattle.std.proofs.lemmas.List.Splits.{slice_split_none, slice_split_at}
use Rattle.std.proofs.lemmas.Option.{cond_some, same_Some}
use Rattle.ifs_base.specs.Words.{listed}
use Rattle.ifs_base.specs.declared.op.Kind.{Kind}
use Rattle.ifs_base.specs.declared.op.Kind.TheVariants.{Truth, Command, StateName}
use Rattle.ifs_asm.specs.Texts.{kind_word, kinds_word}
use Rattle.ifs_asm.specs.inner.Words.{Bare, kind_in, with_kind, kinds_from, kinds_in}
use Rattle.ifs_asm.proofs.Bytes.{each_weaker, each_listed, same_word}
use Rattle.ifs_asm.proofs.MaskLists.{Added, added_found, IsSolid, joined, runs_solid}
use Rattle.ifs_asm.proofs.Cutting.{runs}

-- ---- one kind

-- A fact on the kind that a word names, by cases.
kind_cases : (word : List ℕ) (H : Option Kind → Type 0) → H None → ((kind : Kind) → word ≡ kind_word kind → H (Some kind)) → H (kind_in word)
kind_cases word H none some =
    cond_both (bytes_eq word (codes "truth")) _ _ H (λ e. some Truth (same_word word (codes "truth") e)) (λ _.
    cond_both (bytes_eq word (codes "command")) _ _ H (λ e. some Command (same_word word (codes "command") e)) (λ _.
    cond_both (bytes_eq word (codes "state")) _ _ H (λ e. some StateName (same_word word (codes "state") e)) (λ _. none)))

kind_found : (word : List ℕ) (kind : Kind) → kind_in word ≡ Some kind → word ≡ kind_word kind
kind_found word kind = kind_cases word (λ o. o ≡ Some kind → word ≡ kind_word kind) (λ h. absurd cc) (λ other is h. is ∙ ap kind_word (same_Some other kind h))

kind_again : (kind : Kind) → kind_in (kind_word kind) ≡ Some kind
kind_again Truth = refl
kind_again Command = refl
kind_again StateName = refl

-- ---- what is read lists the kinds

kind_some : (kinds more : List Kind) (kind : Kind) → with_kind kinds kind ≡ Some more → (length kinds < 4) × (kinds ++ kind ∷ [] ≡ more)
kind_some kinds more kind h =
    let c = cond_some (nat_lt (length kinds) 4) (kinds ++ kind ∷ []) more h in
    (ltb-true _ _ c.0, c.1)

-- Kinds that were added to at most four kinds, so that there are at most four.
record Grow (before kinds all : List Kind) : Type 0 where
  are : all ≡ before ++ kinds
  few : length before ≤ 4 → length all ≤ 4

found_from : (parts : List (List ℕ)) (before all : List Kind) → kinds_from before parts ≡ Some all → Added kind_in Grow before parts all
found_from = added_found kind_in with_kind Grow (λ before. record { are = sym (append-nil before); few = λ le. le }) (λ before more all kind kinds is_more grow.
    let k = kind_some before more kind is_more in
    record {
      are = grow.are ∙ ap (λ (ks : List Kind). ks ++ kinds) (sym k.1) ∙ append_assoc before (kind ∷ []) kinds;
      few = λ le. grow.few (omega (arith, k.0, ap length k.1, length-append before (kind ∷ [])));
    })

words_are : (parts : List (List ℕ)) (kinds : List Kind) → AllZip (λ part kind. kind_in part ≡ Some kind) parts kinds → parts ≡ map kind_word kinds
words_are [] [] each = refl
words_are [] (kind ∷ kinds) each = absurd each
words_are (part ∷ parts) [] each = absurd each
words_are (part ∷ parts) (kind ∷ kinds) each =
    ap (λ (word : List ℕ). word ∷ parts) (kind_found part kind each.0) ∙ ap (λ (words : List (List ℕ)). kind_word kind ∷ words) (words_are parts kinds each.1)

pub kinds_found : (word : List ℕ) (kinds : List Kind) → kinds_in word ≡ Some kinds → (word ≡ kinds_word kinds) × (length kinds ≤ 4)
kinds_found word kinds h =
    cond_both (bytes_eq word (codes "-")) (Some []) (kinds_from [] (slice_split (λ byte. byte == 44) word)) (λ (o : Option (List Kind)). o ≡ Some kinds → (word ≡ kinds_word kinds) × (length kinds ≤ 4))
    (λ e g.
    let same : [] ≡ kinds = same_Some [] kinds g in
    (same_word word (codes "-") e ∙ ap kinds_word same, subst (λ (ks : List Kind). length ks ≤ 4) same (omega arith)))
    (λ e g.
    let f = found_from (slice_split (λ byte. byte == 44) word) [] kinds g in
    (sym (joined word) ∙ ap listed (words_are (slice_split (λ byte. byte == 44) word) f.items f.each) ∙ ap kinds_word (sym f.fact.are), f.fact.few (omega arith))) h

-- ---- what lists kinds is read as them

again_from : (kinds before : List Kind) → length before + length kinds ≤ 4 → kinds_from before (map kind_word kinds) ≡ Some (before ++ kinds)
again_from [] before few = ap Some (sym (append-nil before))
again_from (kind ∷ kinds) before few =
    let room : nat_lt (length before) 4 ≡ true = lt-ltb (length before) 4 (omega (arith, few)) in
    let one : kinds_from before (kind_word kind ∷ map kind_word kinds) ≡ kinds_from (before ++ kind ∷ []) (map kind_word kinds) = rw (kind_again kind, room) refl in
    one ∙ again_from kinds (before ++ kind ∷ []) (omega (arith, few, length-append before (kind ∷ []))) ∙ ap Some (append_assoc before (kind ∷ []) kinds)

-- Each byte of the word of a kind is above 96.
abbrev IsHigh : ℕ → Type 0
IsHigh byte = nat_lt 96 byte ≡ true

high : (kind : Kind) → AllByRecursion IsHigh (kind_word kind)
high Truth = (refl, (refl, (refl, (refl, (refl, tt)))))
high Command = (refl, (refl, (refl, (refl, (refl, (refl, (refl, tt)))))))
high StateName = (refl, (refl, (refl, (refl, (refl, tt)))))

high_is_not : (b c : ℕ) → IsHigh b → c ≤ 96 → (b == c) ≡ false
high_is_not b c e le =
    let above : 96 < b = ltb-true 96 b e in
    ne_eqb b c (λ same. omega (arith, above))

no_comma : (kind : Kind) → AllByRecursion (λ byte. (byte == 44) ≡ false) (kind_word kind)
no_comma kind = each_weaker IsHigh (λ byte. (byte == 44) ≡ false) (λ b h. high_is_not b 44 h (omega arith)) (kind_word kind) (high kind)

-- Each byte of a list of kinds is above 96, a comma or a dash.
words_each : (P : ℕ → Type 0) (kinds : List Kind) → ((b : ℕ) → IsHigh b → P b) → AllByRecursion (AllByRecursion P) (map kind_word kinds)
words_each P [] letter = tt
words_each P (kind ∷ kinds) letter = (each_weaker IsHigh P letter (kind_word kind) (high kind), words_each P kinds letter)

kinds_each : (P : ℕ → Type 0) (kinds : List Kind) → ((b : ℕ) → IsHigh b → P b) → P 44 → P 45 → AllByRecursion P (kinds_word kinds)
kinds_each P kinds letter comma dash = each_listed P (map kind_word kinds) comma dash (words_each P kinds letter)

cut_kinds : (kind : Kind) (kinds : List Kind) → slice_split (λ byte. byte == 44) (kinds_word (kind ∷ kinds)) ≡ map kind_word (kind ∷ kinds)
cut_kinds kind [] =
    ap (slice_split (λ byte. byte == 44)) (append-nil (kind_word kind))
    ∙ slice_split_none (λ byte. byte == 44) (kind_word kind) (All-from_recursion (λ byte. (byte == 44) ≡ false) (kind_word kind) (no_comma kind))
cut_kinds kind (next ∷ kinds) =
    slice_split_at (λ byte. byte == 44) (kind_word kind) 44 (kinds_word (next ∷ kinds)) (All-from_recursion (λ byte. (byte == 44) ≡ false) (kind_word kind) (no_comma kind)) refl
    ∙ ap (λ (words : List (List ℕ)). kind_word kind ∷ words) (cut_kinds next kinds)

no_dash : (kind : Kind) (rest : List ℕ) → bytes_eq (kind_word kind ++ rest) (codes "-") ≡ false
no_dash Truth rest = refl
no_dash Command rest = refl
no_dash StateName rest = refl

pub kinds_again : (kinds : List Kind) → length kinds ≤ 4 → kinds_in (kinds_word kinds) ≡ Some kinds
kinds_again [] few = refl
kinds_again (kind ∷ kinds) few =
    let word = kinds_word (kind ∷ kinds) in
    let dash : bytes_eq word (codes "-") ≡ false = no_dash kind (flat_map (λ other. codes "," ++ other) (map kind_word kinds)) in
    cond-false (bytes_eq word (codes "-")) (Some []) (kinds_from [] (slice_split (λ byte. byte == 44) word)) dash
    ∙ ap (kinds_from []) (cut_kinds kind kinds) ∙ again_from (kind ∷ kinds) [] (omega (arith, few))

-- ---- a list is one word without blanks and quotes

high_solid : (b : ℕ) → IsHigh b → IsSolid b
high_solid b h = (or_from (b == 32) (b == 9) (high_is_not b 32 h (omega arith)) (high_is_not b 9 h (omega arith)), high_is_not b 34 h (omega arith))

pub kinds_run : (kinds : List Kind) → runs Bare (kinds_word kinds) ≡ true
kinds_run kinds = runs_solid (kinds_word kinds) (kinds_each IsSolid kinds high_solid (refl, refl) (refl, refl))

pub kinds_some : (kinds : List Kind) → nat_lt 0 (length (kinds_word kinds)) ≡ true
kinds_some [] = refl
kinds_some (Truth ∷ kinds) = lt-ltb 0 (length (kinds_word (Truth ∷ kinds))) (omega arith)
kinds_some (Command ∷ kinds) = lt-ltb 0 (length (kinds_word (Command ∷ kinds))) (omega arith)
kinds_some (StateName ∷ kinds) = lt-ltb 0 (length (kinds_word (StateName ∷ kinds))) (omega arith)

-- No byte of a list is a newline.
pub kinds_in_line : (kinds : List Kind) → AllByRecursion (λ byte. (byte == 10) ≡ false) (kinds_word kinds)
kinds_in_line kinds = kinds_each (λ byte. (byte == 10) ≡ false) kinds (λ b h. high_is_not b 10 h (omega arith)) refl refl
