-- The image of a policy keeps the limits of images, and is accepted.
use Rattle.std.proofs.Common.{◌≡◌, ℕ, ◌+◌, ◌≤◌, inl, inr, List, [], ◌∷◌, ◌++◌, length, map, take}
use Rattle.std.proofs.Common.{refl, sym, ap, subst, arith, length-append}
use Rattle.std.specs.Prelude.{All, sum_by, filter}
use Rattle.std.specs.List.{AllByRecursion}
use Rattle.std.proofs.lemmas.List.{length-map, length-take}
use Rattle.std.proofs.lemmas.List.Elements.{All-head, All-tail, All-cons, All-nil, All-map}
use Rattle.std.proofs.lemmas.List.Sums.{sum_by-cons, sum_by-append}
use Rattle.ifs_base.specs.Sizes.{TextFits, PeriodFits}
use Rattle.ifs_base.specs.Spelling.{IsReadBack}
use Rattle.ifs_base.specs.declared.op.Op.{Op}
use Rattle.ifs_base.specs.declared.op.Op.TheVariants.{Ret}
use Rattle.ifs_image.specs.declared.parts.TestSpec.{TestSpec}
use Rattle.ifs_image.specs.declared.parts.StateSpec.{StateSpec}
use Rattle.ifs_image.specs.declared.parts.Routine.{Routine}
use Rattle.ifs_image.specs.declared.parts.ImageParts.{ImageParts}
use Rattle.ifs_image.specs.Limits.{TestFits, RoutineFits, names_of, AreDistinct, instructions, Fits}
use Rattle.ifs_gen.specs.Trees.{Part, External, Policy}
use Rattle.ifs_gen.specs.PlainCode.{Coder, body_code, init_code}
use Rattle.ifs_gen.specs.PlainSizes.{test_count, parts_of, part_height}
use Rattle.ifs_gen.specs.PlainSizes.{init_length, body_length}
use Rattle.ifs_gen.specs.PlainSizes.{PartCodeFits as PartLengths, CodeFits}
use Rattle.ifs_gen.specs.PolicyImage.{states_from, routine_of_code, shared_routine, routines_of, shared_of}
use Rattle.ifs_gen.specs.PolicyImage.{least_budgets, image_of}
use Rattle.ifs_gen.specs.Sharing.{conditions_in, is_shared, firsts, most_shared, shared_coder}
use Rattle.ifs_policy.specs.Fits.{PolicyFits}
use Rattle.ifs_gen.specs.Acceptance.{ImageIsAccepted}
use Rattle.ifs_gen.proofs.Called.{coder_sized, frames_few}
use Rattle.ifs_gen.proofs.Among.{each_shared}
use Rattle.ifs_gen.proofs.EventCosts.{event_low}
use Rattle.ifs_gen.proofs.Shrinks.{block_shrinks, shared_lengths, sharing_shrinks}
use Rattle.ifs_gen.proofs.StackHeights.{IsShort, all_short}
use Rattle.ifs_gen.proofs.Weights.{init_long, body_long}
use Rattle.ifs_gen.proofs.Images.{states_long, greatest_below}
use Rattle.ifs_gen.proofs.Accepting.{routines_are, accepted}

unmapped : {X Y : Type 0} (P : Y → Type 0) (f : X → Y) (xs : List X) → All P (map f xs) → All (λ x. P (f x)) xs
unmapped P f [] h = All-nil (λ x. P (f x))
unmapped P f (x ∷ xs) h = All-cons (λ x. P (f x)) x xs (All-head P (f x) (map f xs) h) (unmapped P f xs (All-tail P (f x) (map f xs) h))

pub names_same : (shared count k : ℕ) (names : List (List ℕ)) (parts : List Part) → length parts ≡ length names → names_of (states_from shared count k names parts) ≡ names
names_same shared count k [] parts e = refl
names_same shared count k (x ∷ names) [] e = absurd (omega (arith, e))
names_same shared count k (x ∷ names) (part ∷ parts) e = ap (λ names. x ∷ names) (names_same shared count (k + 1) names parts (omega (arith, e)))

module _ (table : List (List Op)) (count : ℕ) where
  abbrev coder : Coder
  coder = shared_coder table

  -- Handlers are no longer than in plain code.
  handlers_fit : (parts : List Part) → All (PartLengths count) parts → All (RoutineFits 1) (routines_of coder count parts)
  handlers_fit [] h = All-nil (RoutineFits 1)
  handlers_fit (x ∷ parts) h =
      let lengths = All-head (PartLengths count) x parts h in
      let init = routine_of_code (init_code coder x.init) in
      let body = routine_of_code (body_code coder count x.body) in
      let init_is = init_long coder (coder_sized table) x.init in
      let body_is = body_long coder (coder_sized table) count x.body in
      let init_less = block_shrinks table count x.init in
      let body_less = block_shrinks table count x.body in
      let init_within = lengths.init in
      let body_within = lengths.body in
      All-cons (RoutineFits 1) init (body ∷ routines_of coder count parts) (record { kinds = inr (record { params = refl; results = inl refl }); code = omega (arith, init_is, init_less, init_within) })
      (All-cons (RoutineFits 1) body (routines_of coder count parts) (record { kinds = inr (record { params = refl; results = inl refl }); code = omega (arith, body_is, body_less, body_within) })
      (handlers_fit parts (All-tail (PartLengths count) x parts h)))

  shared_fit : (codes : List (List Op)) → AllByRecursion (IsShort 1023) codes → (rest : List Routine) → All (RoutineFits 1) rest → All (RoutineFits 1) (map shared_routine codes ++ rest)
  shared_fit [] short rest fits = fits
  shared_fit (code ∷ codes) short rest fits =
      let long = length-append code (Ret ∷ []) in
      let low = short.0 in
      All-cons (RoutineFits 1) (shared_routine code) (map shared_routine codes ++ rest) (record { kinds = inr (record { params = refl; results = inr refl }); code = omega (arith, long, low) }) (shared_fit codes short.1 rest fits)

  handlers_together : (parts : List Part) → instructions (routines_of coder count parts) ≡ sum_by (shared_lengths table count) parts
  handlers_together [] = refl
  handlers_together (x ∷ parts) =
      let init = routine_of_code (init_code coder x.init) in
      let body = routine_of_code (body_code coder count x.body) in
      let long : Routine → ℕ = λ r. length r.code in
      let e = sum_by-cons long init (body ∷ routines_of coder count parts) in
      let f = sum_by-cons long body (routines_of coder count parts) in
      let g = sum_by-cons (shared_lengths table count) x parts in
      let rest = handlers_together parts in
      let init_is = init_long coder (coder_sized table) x.init in
      let body_is = body_long coder (coder_sized table) count x.body in
      omega (arith, e, f, g, rest, init_is, body_is)

shared_together : (codes : List (List Op)) → instructions (map shared_routine codes) ≡ sum_by (λ code. length code + 1) codes
shared_together [] = refl
shared_together (code ∷ codes) =
    let long = length-append code (Ret ∷ []) in
    let e = sum_by-cons (λ (r : Routine). length r.code) (shared_routine code) (map shared_routine codes) in
    let f = sum_by-cons (λ (c : List Op). length c + 1) code codes in
    let rest = shared_together codes in
    omega (arith, long, e, f, rest)

shared_few : (n : ℕ) (codes : List (List Op)) → length (take n codes) ≤ n
shared_few n codes = let e = length-take n codes in omega (arith, e)

tests_fit : (tests : List External) → All (λ test. TextFits test.command) tests → All (λ test. PeriodFits test.period) tests
    → All (λ (test : External). TestFits (record { period = test.period; text = test.command })) tests
tests_fit [] texts periods = All-nil (λ (test : External). TestFits (record { period = test.period; text = test.command }))
tests_fit (x ∷ tests) texts periods =
    All-cons (λ (test : External). TestFits (record { period = test.period; text = test.command })) x tests
    (record { period = All-head (λ test. PeriodFits test.period) x tests periods; text = All-head (λ test. TextFits test.command) x tests texts })
    (tests_fit tests (All-tail (λ test. TextFits test.command) x tests texts) (All-tail (λ test. PeriodFits test.period) x tests periods))

-- The image has no more instructions than plain code.
pub image_shrinks : IsReadBack → (policy : Policy)
    → instructions (image_of policy).routines ≤ sum_by (λ part. init_length part + body_length (test_count policy) part) (parts_of policy)
image_shrinks back policy =
    let table = shared_of policy in
    let count = test_count policy in
    let e = sum_by-append (λ (r : Routine). length r.code) (map shared_routine table) (routines_of (shared_coder table) count (parts_of policy)) in
    let f = shared_together table in
    let g = handlers_together table count (parts_of policy) in
    let less = sharing_shrinks back count (parts_of policy) in
    omega (arith, e, f, g, less)

module _ (back : IsReadBack) (policy : Policy) (is : PolicyFits policy) (code : CodeFits policy) where
  abbrev count : ℕ
  count = test_count policy

  abbrev image : ImageParts
  image = image_of policy

  abbrev table : List (List Op)
  table = shared_of policy

  abbrev shared : ℕ
  shared = length (shared_of policy)

  few_shared : shared ≤ 510
  few_shared = shared_few most_shared (filter (is_shared (conditions_in (parts_of policy))) (firsts (conditions_in (parts_of policy))))

  pub fits : Fits image
  fits = record {
    version = (omega arith, omega arith);
    budgets = record {
      stack = greatest_below part_height (parts_of policy) 32 code.height;
      frames = frames_few table;
      cost = let h = event_low policy table code.each in omega (arith, h);
      commands = code.room;
    };
    counts =
        let states = states_long shared count 1 policy.tables.states policy.states is.count in
        let tests = length-map policy.tables.tests (λ (test : External). let t : TestSpec = record { period = test.period; text = test.command } in t) in
        let routines = routines_are back policy is (least_budgets policy) in
        let parts = is.count in
        let some = is.initial in
        let few = is.tables.states.within in
        let few_tests = is.tables.tests.within in
        let few_codes = few_shared in
        record {
          interfaces = is.tables.interfaces.within;
          tests = omega (arith, tests, few_tests);
          commands = is.tables.commands.within;
          some_state = omega (arith, states, some);
          states = omega (arith, states, few);
          routines = omega (arith, routines, parts, few, few_codes);
        };
    interfaces = record { texts = is.tables.interfaces.each; distinct = is.tables.interfaces.distinct };
    tests = All-map TestFits (λ (test : External). record { period = test.period; text = test.command }) policy.tables.tests
        (tests_fit policy.tables.tests is.tables.tests.each is.periods);
    commands = is.tables.commands.each;
    states = record {
      texts = unmapped TextFits (λ (s : StateSpec). s.name) (states_from shared count 1 policy.tables.states policy.states)
          (subst (All TextFits) (sym (names_same shared count 1 policy.tables.states policy.states is.count)) is.tables.states.each);
      distinct = subst AreDistinct (sym (names_same shared count 1 policy.tables.states policy.states is.count)) is.tables.states.distinct;
    };
    routines = record {
      each = shared_fit table count table (each_shared (IsShort 1023) (conditions_in (parts_of policy)) (all_short count (parts_of policy) code.each))
          (routines_of (shared_coder table) count (parts_of policy)) (handlers_fit table count (parts_of policy) code.each);
      together = let less = image_shrinks back policy in let all = code.together in omega (arith, less, all);
    };
  }

pub plain_is_accepted : IsReadBack → ImageIsAccepted
plain_is_accepted back policy is code = (accepted back policy is code, fits back policy is code)
