-- Tables are copied entry by entry, and states with their routines.
use Rattle.std.proofs.Common.{◌≡◌, ℕ, zero, suc, ◌+◌, ◌*◌, ◌^◌, ◌<◌, ◌≤◌, List, []}
use Rattle.std.proofs.Common.{◌∷◌, ◌++◌, length, map, Some, Result, Ok, Err, IfOk, OnOk, IfErr}
use Rattle.std.proofs.Common.{refl, sym, ap, ◌∙◌, subst, arith, take, drop, get_or, append_assoc}
use Rattle.std.specs.Prelude.{slice_get, All, ◌≢◌}
use Rattle.std.proofs.lemmas.List.{map-append, take_more}
use Rattle.std.proofs.lemmas.List.Elements.{All-tail, All-from_recursion}
use Rattle.std.proofs.lemmas.Option.{none-some, same_Some, slice_get_within, get_or_from_slice_get}
use Rattle.std.proofs.Math.Nat.{pow-le-pow_right}
use Rattle.ifs_base.specs.declared.ids.TestId.{TestId}
use Rattle.ifs_base.specs.declared.op.Op.{Op}
use Rattle.ifs_image.specs.declared.parts.Routine.{Routine}
use Rattle.ifs_image.specs.declared.parts.StateSpec.{StateSpec}
use Rattle.ifs_gen.specs.declared.amounts.Bounds.{Bounds}
use Rattle.ifs_gen.specs.declared.amounts.PartMeasure.{PartMeasure}
use Rattle.ifs_gen.specs.declared.amounts.Amount.TheVariants.{Size, Height, Runs}
use Rattle.ifs_gen.specs.declared.fault.GenFault.{GenFault}
use Rattle.ifs_gen.specs.declared.fault.GenFault.TheVariants.{Memory}
use Rattle.ifs_gen.specs.Trees.{Part, Policy}
use Rattle.ifs_gen.specs.PlainCode.{Coder, init_code, body_code, code_size, holding, tests_below}
use Rattle.ifs_gen.specs.Sharing.{shared_coder}
use Rattle.ifs_gen.specs.PlainSizes.{test_count, parts_of, PartCodeFits, mask_of}
use Rattle.ifs_gen.specs.PolicyImage.{routine_of_code, handlers_of, states_from, routines_of}
use Rattle.ifs_gen.specs.PlainSizes.{CodeFits}
use Rattle.ifs_gen.specs.Refused.{IsPassed, PassesFirst}
use Rattle.ifs_gen.specs.inner.Amounts.{numbers_of, measured, event_in, bounds_in, plain_bounds, AreFine}
use Rattle.ifs_gen.proofs.Among.{each_weaker}
use Rattle.ifs_gen.proofs.Mentions.{each_below}
use Rattle.ifs_gen.proofs.Images.{mask_below}
use Rattle.ifs_gen.proofs.Shrinks.{block_shrinks}
use Rattle.ifs_gen.proofs.Totals.{code_fits, settled, passed}

-- One more entry.
pub take_next : {T : Type 0} (xs : List T) (i : ℕ) (x : T) → slice_get xs i ≡ Some x → take (i + 1) xs ≡ take i xs ++ x ∷ []
take_next xs i x e = take_more xs i x (slice_get_within xs i x e) ∙ ap (λ y. take i xs ++ y ∷ []) (get_or_from_slice_get xs i x x e)

pub drop_next : {T : Type 0} (xs : List T) (i : ℕ) (x : T) → slice_get xs i ≡ Some x → drop i xs ≡ x ∷ drop (i + 1) xs
drop_next [] i x e = absurd (none-some x e)
drop_next (y ∷ xs) zero x e = ap (λ z. z ∷ xs) (same_Some y x e)
drop_next (y ∷ xs) (suc i) x e = let one : suc i + 1 ≡ suc (i + 1) = omega arith in drop_next xs i x e ∙ ap (λ n. x ∷ drop n (y ∷ xs)) (sym one)

pub copied : {T : Type 0} (xs now next : List T) (i : ℕ) (x : T) → now ≡ take i xs → slice_get xs i ≡ Some x → next ≡ now ++ x ∷ [] → next ≡ take (i + 1) xs
copied xs now next i x is at more = more ∙ ap (λ l. l ++ x ∷ []) is ∙ sym (take_next xs i x at)

pub mapped_copied : {T U : Type 0} (f : T → U) (xs : List T) (start now next : List U) (i : ℕ) (x : T) → now ≡ start ++ map f (take i xs) → slice_get xs i ≡ Some x → next ≡ now ++ f x ∷ []
    → next ≡ start ++ map f (take (i + 1) xs)
mapped_copied f xs start now next i x is at more =
    more ∙ ap (λ l. l ++ f x ∷ []) is ∙ append_assoc start (map f (take i xs)) (f x ∷ [])
    ∙ ap (λ l. start ++ l) (sym (map-append f (take i xs) (x ∷ []))) ∙ ap (λ l. start ++ map f l) (sym (take_next xs i x at))

-- Code with calls is no longer than plain code, which keeps the limit.
pub init_short : (table : List (List Op)) (count : ℕ) (part : Part) → PartCodeFits count part → code_size (shared_coder table) part.init < 1024
init_short table count part fits = let less = block_shrinks table count part.init in let low = fits.init in omega (arith, less, low)

pub body_short : (table : List (List Op)) (count : ℕ) (part : Part) (tests : List TestId) → PartCodeFits count part → tests ≡ holding count part.body
    → 2 * length tests + code_size (shared_coder table) part.body < 1024
body_short table count part tests fits is = let less = block_shrinks table count part.body in let low = fits.body in let long = ap length is in omega (arith, less, low, long)

-- The tests below a number are below it.
pub below_64 : (count : ℕ) (xs tests : List TestId) → count ≤ 64 → tests ≡ tests_below count xs → All (λ (test : TestId). test.0 < 64) tests
below_64 count xs tests few is =
    subst (All (λ (test : TestId). test.0 < 64)) (sym is)
    (All-from_recursion (λ (test : TestId). test.0 < 64) (tests_below count xs)
    (each_weaker (λ (test : TestId). test.0 < count) (λ (test : TestId). test.0 < 64) (λ test h. omega (arith, h, few)) (tests_below count xs) (each_below count xs)))

-- One more state.
pub state_next : (shared count : ℕ) (names : List (List ℕ)) (parts : List Part) (now next : List StateSpec) (all : List StateSpec) (i : ℕ) (name : List ℕ) (part : Part)
    → now ++ states_from shared count (i + 1) (drop i names) (drop i parts) ≡ all → slice_get names i ≡ Some name → slice_get parts i ≡ Some part
    → next ≡ now ++ (record { name = name; handlers = handlers_of shared count (i + 1) part }) ∷ []
    → next ++ states_from shared count (i + 1 + 1) (drop (i + 1) names) (drop (i + 1) parts) ≡ all
state_next shared count names parts now next all i name part before named at more =
    let spec : StateSpec = record { name = name; handlers = handlers_of shared count (i + 1) part } in
    let rest = states_from shared count (i + 1 + 1) (drop (i + 1) names) (drop (i + 1) parts) in
    ap (λ l. l ++ rest) more ∙ append_assoc now (spec ∷ []) rest
    ∙ ap (λ l. now ++ states_from shared count (i + 1) l (part ∷ drop (i + 1) parts)) (sym (drop_next names i name named))
    ∙ ap (λ l. now ++ states_from shared count (i + 1) (drop i names) l) (sym (drop_next parts i part at)) ∙ before

routines_last : (coder : Coder) (count : ℕ) (xs : List Part) (x : Part) → routines_of coder count (xs ++ x ∷ []) ≡ routines_of coder count xs ++ routines_of coder count (x ∷ [])
routines_last coder count [] x = refl
routines_last coder count (y ∷ xs) x = ap (λ l. routine_of_code (init_code coder y.init) ∷ routine_of_code (body_code coder count y.body) ∷ l) (routines_last coder count xs x)

pub routines_next : (coder : Coder) (count : ℕ) (parts : List Part) (start now next : List Routine) (i : ℕ) (part : Part) → now ≡ start ++ routines_of coder count (take i parts) → slice_get parts i ≡ Some part
    → next ≡ now ++ routines_of coder count (part ∷ []) → next ≡ start ++ routines_of coder count (take (i + 1) parts)
routines_next coder count parts start now next i part is at more =
    more ∙ ap (λ l. l ++ routines_of coder count (part ∷ [])) is ∙ append_assoc start (routines_of coder count (take i parts)) (routines_of coder count (part ∷ []))
    ∙ ap (λ l. start ++ l) (sym (routines_last coder count (take i parts) part)) ∙ ap (λ l. start ++ routines_of coder count l) (sym (take_next parts i part at))

-- The properties of measures are those of the policy.
pub record HasBounds (policy : Policy) (r : Result Bounds GenFault) : Type 0 where
  pub bounds : IfOk r (λ bounds. bounds ≡ plain_bounds policy)
  pub fits : OnOk r (CodeFits policy)
  pub refused : IfErr r (λ fault. fault ≢ Memory → PassesFirst policy fault)

at_policy : (policy : Policy) (r : Result Bounds GenFault) → (let ms = map (measured (test_count policy)) (parts_of policy) in
    OnOk r (AreFine ms policy.initial.0) → IfOk r (λ bounds. bounds ≡ bounds_in ms policy.initial.0)
    → IfErr r (λ fault. IsPassed (numbers_of Size ms) (numbers_of Height ms) (event_in Runs ms policy.initial.0) fault) → HasBounds policy r)
at_policy policy (Ok b) fine is over = record { bounds = is ∙ settled policy fine; fits = code_fits policy fine; refused = tt }
at_policy policy (Err f) fine is over = record { bounds = tt; fits = tt; refused = λ other. passed policy f over }

pub bounds_of : (policy : Policy) (r : Result Bounds GenFault) (ms : List PartMeasure) (initial : ℕ) → ms ≡ map (measured (test_count policy)) (parts_of policy) → initial ≡ policy.initial.0
    → OnOk r (AreFine ms initial) → IfOk r (λ bounds. bounds ≡ bounds_in ms initial)
    → IfErr r (λ fault. IsPassed (numbers_of Size ms) (numbers_of Height ms) (event_in Runs ms initial) fault) → HasBounds policy r
bounds_of policy r ms initial ms_is initial_is fine is over =
    at_policy policy r
    (subst (λ n. OnOk r (AreFine (map (measured (test_count policy)) (parts_of policy)) n)) initial_is (subst (λ l. OnOk r (AreFine l initial)) ms_is fine))
    (subst (λ n. IfOk r (λ bounds. bounds ≡ bounds_in (map (measured (test_count policy)) (parts_of policy)) n)) initial_is (subst (λ l. IfOk r (λ bounds. bounds ≡ bounds_in l initial)) ms_is is))
    (subst (λ n. IfErr r (λ fault. IsPassed (numbers_of Size (map (measured (test_count policy)) (parts_of policy))) (numbers_of Height (map (measured (test_count policy)) (parts_of policy))) (event_in Runs (map (measured (test_count policy)) (parts_of policy)) n) fault)) initial_is
    (subst (λ l. IfErr r (λ fault. IsPassed (numbers_of Size l) (numbers_of Height l) (event_in Runs l initial) fault)) ms_is over))

pub set_64 : (count : ℕ) (xs tests : List TestId) → count ≤ 64 → tests ≡ tests_below count xs → mask_of tests < 2 ^ 64
set_64 count xs tests few is =
    let low = mask_below count xs in
    let wide = pow-le-pow_right {n = 2} (omega arith) few in
    let e = ap mask_of is in
    omega (arith, low, wide, e)

pub at_index : {T : Type 0} (xs : List T) (i : ℕ) (d x : T) → i < length xs → x ≡ get_or xs i d → slice_get xs i ≡ Some x
at_index [] i d x lt e = absurd (omega (arith, lt))
at_index (y ∷ xs) zero d x lt e = ap (λ z. Some z) (sym e)
at_index (y ∷ xs) (suc i) d x lt e = at_index xs i d x (omega (arith, lt)) e

pub states_fit : (policy : Policy) (count : ℕ) (states : List Part) → All (PartCodeFits (test_count policy)) (parts_of policy) → count ≡ test_count policy → states ≡ policy.states → All (PartCodeFits count) states
states_fit policy count states fits is same =
    subst (λ n. All (PartCodeFits n) states) (sym is) (subst (All (PartCodeFits (test_count policy))) (sym same) (All-tail (PartCodeFits (test_count policy)) policy.always policy.states fits))
