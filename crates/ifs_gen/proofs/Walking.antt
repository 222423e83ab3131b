-- The conditions of blocks and of parts occur one by one.
use Rattle.std.proofs.Common.{◌≡◌, ◌∙◌, ℕ, zero, suc, ◌+◌, ◌≤◌, ◌<◌, Bool, true, false, cond, ◌&&◌, List, length}
use Rattle.std.proofs.Common.{[], ◌∷◌, ◌++◌, fold, refl, sym, ap, subst, append_assoc, arith, take, get_or, Result, Ok, Err, IfOk}
use Rattle.std.specs.declared.alloc.AllocError.{AllocError}
use Rattle.std.specs.Prelude.{filter, slice_get, nat_lt, Some}
use Rattle.std.specs.List.{flat_map, list_any}
use Rattle.std.proofs.lemmas.List.{append-nil, take_more, take_all, length-take}
use Rattle.std.proofs.lemmas.List.Elements.{filter-append}
use Rattle.std.proofs.lemmas.Bool.{lt-ltb, le-ltb, ltb-true, ltb-false}
use Rattle.ifs_base.specs.declared.ids.CommandId.{CommandId}
use Rattle.ifs_base.specs.declared.ids.StateId.{StateId}
use Rattle.ifs_base.specs.declared.op.Op.{Op}
use Rattle.ifs_parse.specs.Views.{block_of, statement_then}
use Rattle.ifs_parse.specs.declared.block.Statement.{Statement}
use Rattle.ifs_parse.specs.declared.block.Statement.TheVariants.{Run, SetState, If}
use Rattle.ifs_gen.specs.Trees.{Single, Block, Part, Policy}
use Rattle.ifs_gen.specs.PlainCode.{condition_code}
use Rattle.ifs_gen.specs.Sharing.{same_code, conditions_of, conditions_in, most_shared}
use Rattle.ifs_gen.specs.PlainSizes.{parts_of}
use Rattle.ifs_gen.specs.declared.sharing.Met.{Met}
use Rattle.ifs_gen.specs.inner.Meetings.{meet, met_nothing, statement_conditions, chosen, with_chosen, AreApart}
use Rattle.ifs_policy.proofs.Lists.{flat_last}
use Rattle.ifs_gen.proofs.Copying.{take_next}
use Rattle.ifs_gen.proofs.Firsts.{has, none_before, none_kept}

-- The conditions of a block are those of its statements.
then_conditions : (s : Statement Single CommandId StateId) (rest : Block) → conditions_of (statement_then s rest) ≡ statement_conditions s ++ conditions_of rest
then_conditions (Run command) rest = refl
then_conditions (SetState state) rest = refl
then_conditions (If c inner) rest = ap (λ xs. condition_code c ∷ (xs ++ conditions_of rest)) (sym (append-nil (conditions_of inner)))

statements_have : (items : List (Statement Single CommandId StateId)) → conditions_of (block_of items) ≡ flat_map statement_conditions items
statements_have [] = refl
statements_have (s ∷ rest) = then_conditions s (block_of rest) ∙ ap (λ xs. statement_conditions s ++ xs) (statements_have rest)

-- The codes of two lists occur in sequence.
met_append : (met : Met) (xs ys : List (List Op)) → fold meet met (xs ++ ys) ≡ fold meet (fold meet met xs) ys
met_append met [] ys = refl
met_append met (x ∷ xs) ys = met_append (meet met x) xs ys

-- One more member.
pub met_more : {T : Type 0} (f : T → List (List Op)) (start now next : Met) (items : List T) (i : ℕ) (item : T) → i < length items → item ≡ get_or items i item
    → now ≡ fold meet start (flat_map f (take i items)) → next ≡ fold meet now (f item) → next ≡ fold meet start (flat_map f (take (i + 1) items))
met_more f start now next items i item lt at now_is next_is =
    let more = take_more items i item lt ∙ ap (λ x. take i items ++ x ∷ []) (sym at) in
    next_is ∙ ap (λ m. fold meet m (f item)) now_is ∙ sym (met_append start (flat_map f (take i items)) (f item))
    ∙ ap (fold meet start) (sym (flat_last f (take i items) item)) ∙ ap (λ xs. fold meet start (flat_map f xs)) (sym more)

-- All members.
pub met_end : (start now : Met) (block : Block) (items : List (Statement Single CommandId StateId)) (i : ℕ) → block ≡ block_of items → length items ≤ i
    → now ≡ fold meet start (flat_map statement_conditions (take i items)) → now ≡ fold meet start (conditions_of block)
met_end start now block items i block_is le now_is =
    now_is ∙ ap (λ xs. fold meet start (flat_map statement_conditions xs)) (take_all i items le)
    ∙ ap (fold meet start) (sym (ap conditions_of block_is ∙ statements_have items))

-- The conditions of a part.
abbrev pub part_conditions : Part → List (List Op)
part_conditions part = conditions_of part.init ++ conditions_of part.body

parts_have : (parts : List Part) → conditions_in parts ≡ flat_map part_conditions parts
parts_have [] = refl
parts_have (part ∷ parts) = ap (λ xs. conditions_of part.init ++ (conditions_of part.body ++ xs)) (parts_have parts)
    ∙ sym (append_assoc (conditions_of part.init) (conditions_of part.body) (flat_map part_conditions parts))

-- A part, and a list of parts.
pub part_met : (start next : Met) (part : Part) → next ≡ fold meet (fold meet start (conditions_of part.init)) (conditions_of part.body) → next ≡ fold meet start (part_conditions part)
part_met start next part next_is = next_is ∙ sym (met_append start (conditions_of part.init) (conditions_of part.body))

pub parts_met : (start now : Met) (parts : List Part) (i : ℕ) → length parts ≤ i → now ≡ fold meet start (flat_map part_conditions (take i parts)) → now ≡ fold meet start (conditions_in parts)
parts_met start now parts i le now_is =
    now_is ∙ ap (λ xs. fold meet start (flat_map part_conditions xs)) (take_all i parts le) ∙ ap (fold meet start) (sym (parts_have parts))

-- The always part, then the states.
pub all_met : (start one two : Met) (always : Part) (states : List Part) → one ≡ fold meet (fold meet start (conditions_of always.init)) (conditions_of always.body)
    → two ≡ fold meet one (conditions_in states) → two ≡ fold meet start (conditions_in (always ∷ states))
all_met start one two always states one_is two_is =
    two_is ∙ ap (λ m. fold meet m (conditions_in states)) one_is
    ∙ sym (met_append (fold meet start (conditions_of always.init)) (conditions_of always.body) (conditions_in states))
    ∙ sym (met_append start (conditions_of always.init) (conditions_of always.body ++ conditions_in states))

-- All conditions of a policy.
pub walked : (policy : Policy) (always : Part) (states : List Part) (start one two : Met) → start ≡ met_nothing → always ≡ policy.always → states ≡ policy.states
    → one ≡ fold meet (fold meet start (conditions_of always.init)) (conditions_of always.body) → two ≡ fold meet one (conditions_in states)
    → two ≡ fold meet met_nothing (conditions_in (parts_of policy))
walked policy always states start one two start_is always_is states_is one_is two_is =
    all_met start one two always states one_is two_is
    ∙ ap (λ m. fold meet m (conditions_in (always ∷ states))) start_is
    ∙ ap (λ (p : Part). fold meet met_nothing (conditions_in (p ∷ states))) always_is
    ∙ ap (λ (ps : List Part). fold meet met_nothing (conditions_in (policy.always ∷ ps))) states_is

-- The codes of a list that a table has.
abbrev among : List (List Op) → List (List Op) → List (List Op)
among again xs = filter (λ code. list_any (same_code code) again) xs

-- A front with one more member.
take_none : {T : Type 0} (n : ℕ) → take {A = T} n [] ≡ []
take_none zero = refl
take_none (suc n) = refl

take_last : {T : Type 0} (n : ℕ) (xs : List T) (x : T) → take n (xs ++ x ∷ []) ≡ cond (nat_lt (length (take n xs)) n) (take n xs ++ x ∷ []) (take n xs)
take_last zero [] x = refl
take_last zero (y ∷ xs) x = refl
take_last (suc n) [] x = ap (λ l. x ∷ l) (take_none n) ∙ ap (λ c. cond c (x ∷ []) []) (sym (lt-ltb 0 (suc n) (omega arith)))
take_last (suc n) (y ∷ xs) x = by (nat_lt (length (take n xs)) n) refl (take_last n xs x)
  where
    by : (b : Bool) → nat_lt (length (take n xs)) n ≡ b → take n (xs ++ x ∷ []) ≡ cond (nat_lt (length (take n xs)) n) (take n xs ++ x ∷ []) (take n xs)
        → y ∷ take n (xs ++ x ∷ []) ≡ cond (nat_lt (suc (length (take n xs))) (suc n)) (y ∷ (take n xs ++ x ∷ [])) (y ∷ take n xs)
    by true e more =
        let less = ltb-true (length (take n xs)) n e in
        ap (λ l. y ∷ l) (more ∙ ap (λ c. cond c (take n xs ++ x ∷ []) (take n xs)) e)
        ∙ ap (λ c. cond c (y ∷ (take n xs ++ x ∷ [])) (y ∷ take n xs)) (sym (lt-ltb (suc (length (take n xs))) (suc n) (omega (arith, less))))
    by false e more =
        let not_less = ltb-false (length (take n xs)) n e in
        ap (λ l. y ∷ l) (more ∙ ap (λ c. cond c (take n xs ++ x ∷ []) (take n xs)) e)
        ∙ ap (λ c. cond c (y ∷ (take n xs ++ x ∷ [])) (y ∷ take n xs)) (sym (le-ltb (suc (length (take n xs))) (suc n) (omega (arith, not_less))))

-- The next entry is chosen if it occurred again and there is room.
pub chosen_more : (once again now next : List (List Op)) (i : ℕ) (code : List Op) → slice_get once i ≡ Some code → now ≡ take most_shared (among again (take i once))
    → next ≡ with_chosen again now code → next ≡ take most_shared (among again (take (i + 1) once))
chosen_more once again now next i code at now_is next_is =
    next_is ∙ ap (λ l. with_chosen again l code) now_is ∙ by (has code again) refl
    ∙ ap (take most_shared) (sym (filter-append (λ code. has code again) (take i once) (code ∷ [])))
    ∙ ap (λ l. take most_shared (among again l)) (sym (take_next once i code at))
  where
    by : (b : Bool) → has code again ≡ b → with_chosen again (take most_shared (among again (take i once))) code
        ≡ take most_shared (among again (take i once) ++ cond (has code again) (code ∷ []) [])
    by true e =
        let front = among again (take i once) in
        ap (λ c. cond (c && nat_lt (length (take most_shared front)) most_shared) (take most_shared front ++ code ∷ []) (take most_shared front)) e
        ∙ sym (take_last most_shared front code) ∙ ap (λ c. take most_shared (front ++ cond c (code ∷ []) [])) (sym e)
    by false e =
        let front = among again (take i once) in
        ap (λ c. cond (c && nat_lt (length (take most_shared front)) most_shared) (take most_shared front ++ code ∷ []) (take most_shared front)) e
        ∙ ap (take most_shared) (sym (append-nil front)) ∙ ap (λ c. take most_shared (front ++ cond c (code ∷ []) [])) (sym e)

-- It is the same as no chosen code.
pub chosen_new : (once again now : List (List Op)) (i : ℕ) (code : List Op) → AreApart same_code once → slice_get once i ≡ Some code → now ≡ take most_shared (among again (take i once)) → has code now ≡ false
chosen_new once again now i code apart at now_is =
    ap (has code) now_is ∙ none_kept code (λ other. has other again) most_shared (take i once) (none_before once i code apart at)

-- At the end of the table all codes are chosen.
pub chosen_all : (once again now : List (List Op)) (i : ℕ) → length once ≤ i → now ≡ take most_shared (among again (take i once)) → now ≡ take most_shared (among again once)
chosen_all once again now i le now_is = now_is ∙ ap (λ l. take most_shared (among again l)) (take_all i once le)

-- The number of chosen codes keeps its limit.
few_taken : {T : Type 0} (n : ℕ) (xs : List T) → length (take n xs) ≤ n
few_taken n xs = let e = length-take n xs in omega (arith, e)

pub few_chosen : (r : Result (List (List Op)) AllocError) (met : Met) → IfOk r (λ table. table ≡ chosen met) → IfOk r (λ table. length table ≤ most_shared)
few_chosen (Ok table) met is = subst (λ l. length l ≤ most_shared) (sym is) (few_taken most_shared (among met.again met.once))
few_chosen (Err e) met is = tt
