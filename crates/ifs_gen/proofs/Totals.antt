-- The measures of the parts of a policy, and the policy.
use Rattle.std.proofs.Common.{◌≡◌, ℕ, zero, suc, ◌+◌, ◌*◌, ◌<◌, ◌≤◌, List, []}
use Rattle.std.proofs.Common.{◌∷◌, map, Some, refl, sym, ap, ◌∙◌, subst, arith}
use Rattle.std.specs.Prelude.{slice_get, sum, max}
use Rattle.std.proofs.lemmas.List.Elements.{All-head, All-tail, All-cons, All-nil}
use Rattle.std.proofs.lemmas.List.Sums.{sum_by-cons}
use Rattle.std.proofs.lemmas.Option.{none-some, same_Some}
use Rattle.ifs_gen.specs.declared.fault.GenFault.{GenFault}
use Rattle.ifs_gen.specs.declared.fault.GenFault.TheVariants.{RoutineTooLong, CodeTooLong}
use Rattle.ifs_gen.specs.declared.fault.GenFault.TheVariants.{StackTooHigh, TooManyCommands, Memory}
use Rattle.ifs_gen.specs.declared.amounts.PartMeasure.{PartMeasure}
use Rattle.ifs_gen.specs.declared.amounts.Bounds.{Bounds}
use Rattle.ifs_gen.specs.declared.amounts.Amount.{Amount}
use Rattle.ifs_gen.specs.declared.amounts.Amount.TheVariants.{Size, Height, Runs}
use Rattle.ifs_gen.specs.inner.Amounts.{amount_in, numbers_of, measured, most_of_inits}
use Rattle.ifs_gen.specs.inner.Amounts.{most_of_bodies, event_in, bounds_in, plain_bounds, AreFine}
use Rattle.ifs_gen.specs.inner.Measures.{capped}
use Rattle.ifs_gen.specs.Trees.{Part, Policy}
use Rattle.ifs_gen.specs.PlainCode.{plain_coder, block_height, block_runs}
use Rattle.ifs_gen.specs.PlainSizes.{test_count, parts_of, greatest, number_in, event_total, init_length}
use Rattle.ifs_gen.specs.PlainSizes.{body_length, part_height, room_of, CodeFits}
use Rattle.ifs_gen.specs.Refused.{lengths_of, heights_of, lengths, heights}
use Rattle.ifs_gen.specs.Refused.{AreWithin, IsFirstOver, IsPassed, PassesFirst}
use Rattle.ifs_gen.proofs.Images.{number_low}
use Rattle.ifs_gen.proofs.Refusing.{one_later, each_fits, heights_fit, sums_agree}

-- A property of the remaining numbers holds of all numbers, at an index that is greater by `place`.
pub record Passes (amount : Amount) (limit : ℕ) (all left : List PartMeasure) (place : ℕ) : Type 0 where
  pub within : AreWithin limit (numbers_of amount left) → AreWithin limit (numbers_of amount all)
  pub first : (index : ℕ) → IsFirstOver limit (numbers_of amount left) index → IsFirstOver limit (numbers_of amount all) (place + index)

pub start : (amount : Amount) (limit : ℕ) (all : List PartMeasure) → Passes amount limit all all 0
start amount limit all = record { within = λ h. h; first = λ index h. let e : index ≡ 0 + index = omega arith in subst (IsFirstOver limit (numbers_of amount all)) e h }

module _ (amount : Amount) (limit : ℕ) (all left rest : List PartMeasure) (m : PartMeasure) (place : ℕ) (is : left ≡ m ∷ rest) (passes : Passes amount limit all left place) where
  pub init_over : limit < amount_in amount m.init → IsFirstOver limit (numbers_of amount all) place
  init_over over =
      let e : place + 0 ≡ place = omega arith in
      subst (IsFirstOver limit (numbers_of amount all)) e
      (passes.first 0 (subst (λ l. IsFirstOver limit (numbers_of amount l) 0) (sym is)
      (record { number = amount_in amount m.init; at = refl; over = over; before = λ i n lt e. absurd (omega (arith, lt)) })))

  pub none_over : amount_in amount m.init ≤ limit → amount_in amount m.body ≤ limit → Passes amount limit all rest (place + 2)
  none_over low too = record {
    within = λ h. passes.within (subst (λ l. AreWithin limit (numbers_of amount l)) (sym is)
        (All-cons (λ n. n ≤ limit) (amount_in amount m.init) (amount_in amount m.body ∷ numbers_of amount rest) low
        (All-cons (λ n. n ≤ limit) (amount_in amount m.body) (numbers_of amount rest) too h)));
    first = λ index h.
        let e : place + suc (suc index) ≡ place + 2 + index = omega arith in
        subst (IsFirstOver limit (numbers_of amount all)) e
        (passes.first (suc (suc index)) (subst (λ l. IsFirstOver limit (numbers_of amount l) (suc (suc index))) (sym is)
        (one_later limit (amount_in amount m.init) (amount_in amount m.body ∷ numbers_of amount rest) (suc index) low
        (one_later limit (amount_in amount m.body) (numbers_of amount rest) index too h))));
  }

pub all_within : (amount : Amount) (limit : ℕ) (all left : List PartMeasure) (place : ℕ) → left ≡ [] → Passes amount limit all left place → AreWithin limit (numbers_of amount all)
all_within amount limit all left place none passes = passes.within (subst (λ l. AreWithin limit (numbers_of amount l)) (sym none) (All-nil (λ n. n ≤ limit)))

-- If no number exceeds a limit, the greatest one does not.
pub inits_low : (amount : Amount) (limit : ℕ) (ms : List PartMeasure) → AreWithin limit (numbers_of amount ms) → most_of_inits amount ms ≤ limit
inits_low amount limit [] h = omega arith
inits_low amount limit (m ∷ ms) h =
    let first = All-head (λ n. n ≤ limit) (amount_in amount m.init) (amount_in amount m.body ∷ numbers_of amount ms) h in
    let more = All-tail (λ n. n ≤ limit) (amount_in amount m.init) (amount_in amount m.body ∷ numbers_of amount ms) h in
    let rest = inits_low amount limit ms (All-tail (λ n. n ≤ limit) (amount_in amount m.body) (numbers_of amount ms) more) in
    omega (arith, first, rest)

pub bodies_low : (amount : Amount) (limit : ℕ) (ms : List PartMeasure) → AreWithin limit (numbers_of amount ms) → most_of_bodies amount ms ≤ limit
bodies_low amount limit [] h = omega arith
bodies_low amount limit (m ∷ ms) h =
    let more = All-tail (λ n. n ≤ limit) (amount_in amount m.init) (amount_in amount m.body ∷ numbers_of amount ms) h in
    let first = All-head (λ n. n ≤ limit) (amount_in amount m.body) (numbers_of amount ms) more in
    let rest = bodies_low amount limit ms (All-tail (λ n. n ≤ limit) (amount_in amount m.body) (numbers_of amount ms) more) in
    omega (arith, first, rest)

-- Nor does an event exceed three times the limit.
pub event_low : (amount : Amount) (limit : ℕ) (ms : List PartMeasure) (initial : ℕ) → AreWithin limit (numbers_of amount ms) → event_in amount ms initial ≤ 3 * limit
event_low amount limit [] initial h = omega arith
event_low amount limit (m ∷ ms) initial h =
    let inits = inits_low amount limit (m ∷ ms) h in
    let bodies = bodies_low amount limit (m ∷ ms) h in
    let first = number_low (λ (m : PartMeasure). amount_in amount m.init) ms initial in
    omega (arith, inits, bodies, first)

bounds_same : (s height runs commands : ℕ) → s ≡ height → runs ≡ commands
    → (let x : Bounds = record { stack = s; commands = runs } in let y : Bounds = record { stack = height; commands = commands } in x ≡ y)
bounds_same s height runs commands same two = λ i. record { stack = same i; commands = two i }

pub bounds_are : (s height runs commands : ℕ) → s ≡ height → runs ≡ capped commands → runs ≤ 64
    → (let x : Bounds = record { stack = s; commands = runs } in let y : Bounds = record { stack = height; commands = commands } in x ≡ y)
bounds_are s height runs commands same runs_is few =
    let two : runs ≡ commands = omega (arith, runs_is, few) in
    bounds_same s height runs commands same two

-- The amounts of the parts of a policy, by measures.
most_are : (amount : PartMeasure → ℕ) (count : ℕ) (number : Part → ℕ) → ((part : Part) → amount (measured count part) ≡ capped (number part))
    → (parts : List Part) → greatest amount (map (measured count) parts) ≡ capped (greatest number parts)
most_are amount count number is [] = omega arith
most_are amount count number is (x ∷ parts) = let e = is x in let h = most_are amount count number is parts in omega (arith, e, h)

first_is : (amount : Amount) (count : ℕ) (number : Part → ℕ) → ((part : Part) → amount_in amount (measured count part).init ≡ capped (number part))
    → (parts : List Part) (i : ℕ) → number_in (λ (m : PartMeasure). amount_in amount m.init) (slice_get (map (measured count) parts) i) ≡ capped (number_in number (slice_get parts i))
first_is amount count number is [] i = omega arith
first_is amount count number is (x ∷ parts) zero = is x
first_is amount count number is (x ∷ parts) (suc i) = first_is amount count number is parts i

event_is : (amount : Amount) (policy : Policy) (init body : Part → ℕ)
    → ((part : Part) → amount_in amount (measured (test_count policy) part).init ≡ capped (init part)) → ((part : Part) → amount_in amount (measured (test_count policy) part).body ≡ capped (body part))
    → capped (event_in amount (map (measured (test_count policy)) (parts_of policy)) policy.initial.0) ≡ capped (event_total init body policy)
event_is amount policy init body init_is body_is =
    let a = init_is policy.always in
    let b = body_is policy.always in
    let inits = most_are (λ (m : PartMeasure). amount_in amount m.init) (test_count policy) init init_is policy.states in
    let bodies = most_are (λ (m : PartMeasure). amount_in amount m.body) (test_count policy) body body_is policy.states in
    let first = first_is amount (test_count policy) init init_is policy.states policy.initial.0 in
    omega (arith, a, b, inits, bodies, first)

lengths_are : (count : ℕ) (parts : List Part) → numbers_of Size (map (measured count) parts) ≡ map capped (lengths_of count parts)
lengths_are count [] = refl
lengths_are count (x ∷ parts) = ap (λ l. capped (init_length x) ∷ capped (body_length count x) ∷ l) (lengths_are count parts)

heights_are : (count : ℕ) (parts : List Part) → numbers_of Height (map (measured count) parts) ≡ map capped (heights_of parts)
heights_are count [] = refl
heights_are count (x ∷ parts) = ap (λ l. capped (block_height plain_coder x.init) ∷ capped (block_height plain_coder x.body) ∷ l) (heights_are count parts)

-- Numbers keep a limit below the maximum if their saturated forms do.
uncapped : (limit : ℕ) (xs : List ℕ) → limit ≤ 8192 → AreWithin limit (map capped xs) → AreWithin limit xs
uncapped limit [] low h = All-nil (λ n. n ≤ limit)
uncapped limit (x ∷ xs) low h =
    let first = All-head (λ n. n ≤ limit) (capped x) (map capped xs) h in
    All-cons (λ n. n ≤ limit) x xs (omega (arith, first, low)) (uncapped limit xs low (All-tail (λ n. n ≤ limit) (capped x) (map capped xs) h))

sum_same : (xs : List ℕ) → AreWithin 1024 xs → sum (map capped xs) ≡ sum xs
sum_same [] h = refl
sum_same (x ∷ xs) h =
    let first = All-head (λ n. n ≤ 1024) x xs h in
    let rest = sum_same xs (All-tail (λ n. n ≤ 1024) x xs h) in
    let a = sum_by-cons (λ (n : ℕ). n) (capped x) (map capped xs) in
    let b = sum_by-cons (λ (n : ℕ). n) x xs in
    omega (arith, first, rest, a, b)

capped_at : (xs : List ℕ) (i n : ℕ) → slice_get xs i ≡ Some n → slice_get (map capped xs) i ≡ Some (capped n)
capped_at [] i n e = absurd (none-some n e)
capped_at (x ∷ xs) zero n e = ap (λ k. Some (capped k)) (same_Some x n e)
capped_at (x ∷ xs) (suc i) n e = capped_at xs i n e

-- A saturated number is that of a number at the same index.
record Uncapped (xs : List ℕ) (i n : ℕ) : Type 0 where
  number : ℕ
  at : slice_get xs i ≡ Some number
  same : n ≡ capped number

of_capped : (xs : List ℕ) (i n : ℕ) → slice_get (map capped xs) i ≡ Some n → Uncapped xs i n
of_capped [] i n e = absurd (none-some n e)
of_capped (x ∷ xs) zero n e = record { number = x; at = refl; same = sym (same_Some (capped x) n e) }
of_capped (x ∷ xs) (suc i) n e = let h = of_capped xs i n e in record { number = h.number; at = h.at; same = h.same }

first_uncapped : (limit : ℕ) (xs : List ℕ) (i : ℕ) → limit ≤ 8192 → IsFirstOver limit (map capped xs) i → IsFirstOver limit xs i
first_uncapped limit xs i low h =
    let there = of_capped xs i h.number h.at in
    record {
      number = there.number;
      at = there.at;
      over = let over = h.over in let same = there.same in omega (arith, over, same, low);
      before = λ k n lt e. let below = h.before k (capped n) lt (capped_at xs k n e) in omega (arith, below, low);
    }

part_greatest : (parts : List Part) → greatest part_height parts ≡ max (greatest (λ part. block_height plain_coder part.init) parts) (greatest (λ part. block_height plain_coder part.body) parts)
part_greatest [] = omega arith
part_greatest (x ∷ parts) = let h = part_greatest parts in omega (arith, h)

module _ (policy : Policy) where
  abbrev measures : List PartMeasure
  measures = map (measured (test_count policy)) (parts_of policy)

  sizes : numbers_of Size measures ≡ map capped (lengths policy)
  sizes = lengths_are (test_count policy) (parts_of policy)

  tall : numbers_of Height measures ≡ map capped (heights policy)
  tall = heights_are (test_count policy) (parts_of policy)

  runs : capped (event_in Runs measures policy.initial.0) ≡ capped (room_of policy)
  runs = event_is Runs policy (λ part. block_runs part.init) (λ part. block_runs part.body) (λ part. refl) (λ part. refl)

  short : AreWithin 1024 (numbers_of Size measures) → AreWithin 1024 (lengths policy)
  short h = uncapped 1024 (lengths policy) (omega arith) (subst (AreWithin 1024) sizes h)

  sums : AreWithin 1024 (numbers_of Size measures) → sum (numbers_of Size measures) ≡ sum (lengths policy)
  sums h = ap sum sizes ∙ sum_same (lengths policy) (short h)

  low : AreWithin 32 (numbers_of Height measures) → AreWithin 32 (heights policy)
  low h = uncapped 32 (heights policy) (omega arith) (subst (AreWithin 32) tall h)

  pub code_fits : AreFine measures policy.initial.0 → CodeFits policy
  code_fits fine =
      let together = fine.together in
      let room = fine.room in
      let e = sums fine.each in
      let r = runs in
      let s = sums_agree (test_count policy) (parts_of policy) in
      record {
        each = each_fits (test_count policy) (parts_of policy) (short fine.each);
        together = omega (arith, together, e, s);
        height = heights_fit (parts_of policy) (low fine.heights);
        room = omega (arith, room, r);
      }

  pub settled : AreFine measures policy.initial.0 → bounds_in measures policy.initial.0 ≡ plain_bounds policy
  settled fine =
      let count = test_count policy in
      let parts = parts_of policy in
      let inits = most_are (λ (m : PartMeasure). m.init.height) count (λ part. block_height plain_coder part.init) (λ part. refl) parts in
      let bodies = most_are (λ (m : PartMeasure). m.body.height) count (λ part. block_height plain_coder part.body) (λ part. refl) parts in
      let inits_within = inits_low Height 32 measures fine.heights in
      let bodies_within = bodies_low Height 32 measures fine.heights in
      let both = part_greatest parts in
      let stack : max (most_of_inits Height measures) (most_of_bodies Height measures) ≡ greatest part_height parts = omega (arith, inits, bodies, inits_within, bodies_within, both) in
      let room = fine.room in
      let r = runs in
      let commands : event_in Runs measures policy.initial.0 ≡ room_of policy = omega (arith, room, r) in
      bounds_same _ _ _ _ stack commands

  pub passed : (fault : GenFault) → IsPassed (numbers_of Size measures) (numbers_of Height measures) (event_in Runs measures policy.initial.0) fault → PassesFirst policy fault
  passed (RoutineTooLong routine) h = first_uncapped 1024 (lengths policy) routine.0 (omega arith) (subst (λ l. IsFirstOver 1024 l routine.0) sizes h)
  passed CodeTooLong h = (short h.0, let e = sums h.0 in let over = h.1 in omega (arith, e, over))
  passed (StackTooHigh routine) h =
      (short h.0, (let e = sums h.0 in let few = h.1 in omega (arith, e, few)), first_uncapped 32 (heights policy) routine.0 (omega arith) (subst (λ l. IsFirstOver 32 l routine.0) tall h.2))
  passed TooManyCommands h =
      (short h.0, (let e = sums h.0 in let few = h.1 in omega (arith, e, few)), low h.2, (let r = runs in let over = h.3 in omega (arith, r, over)))
  passed Memory h = h
