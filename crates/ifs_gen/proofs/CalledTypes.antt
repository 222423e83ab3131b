-- Code that calls shared conditions is fine with certain kinds.
use Rattle.std.proofs.Common.{◌≡◌, ℕ, ◌+◌, ◌≤◌, List, [], ◌∷◌, ◌++◌, length, Option, Some, None, refl, ap, ◌∙◌, arith}
use Rattle.std.specs.Prelude.{slice_get}
use Rattle.std.specs.Option.{option_map}
use Rattle.std.proofs.lemmas.Option.{slice_get_within}
use Rattle.ifs_base.specs.Kinds.{without}
use Rattle.ifs_base.specs.Spelling.{IsReadBack}
use Rattle.ifs_base.specs.declared.ids.RoutineId.{RoutineId}
use Rattle.ifs_base.specs.declared.op.Kind.{Kind}
use Rattle.ifs_base.specs.declared.op.Kind.TheVariants.{Truth}
use Rattle.ifs_base.specs.declared.op.Op.{Op}
use Rattle.ifs_base.specs.declared.op.Op.TheVariants.{Call}
use Rattle.ifs_image.specs.declared.parts.ImageParts.{ImageParts}
use Rattle.ifs_image.specs.Code.{params_in, results_in}
use Rattle.ifs_parse.specs.Trees.{condition_size}
use Rattle.ifs_policy.specs.Fits.{ConditionFits}
use Rattle.ifs_gen.specs.Trees.{Condition}
use Rattle.ifs_gen.specs.PlainCode.{condition_code, condition_height}
use Rattle.ifs_gen.specs.Sharing.{place_in, in_place, size_in_place, shared_coder}
use Rattle.ifs_gen.specs.Runs.{image_sizes, HasShared}
use Rattle.ifs_gen.proofs.Simulation.{condition_high}
use Rattle.ifs_gen.proofs.Called.{placed, coder_sized}
use Rattle.ifs_gen.proofs.StackHeights.{tall, tall_is}
use Rattle.ifs_gen.proofs.Fine.{Callees, AreFine, CallsWithin}
use Rattle.ifs_gen.proofs.Typed.Trees.{condition_kinds, kinds_sized, HasKinds, condition_starts, falls_on, condition_fine, condition_low}
use Rattle.ifs_gen.proofs.Typed.Blocks.{IsTypedCoder}

-- The codes of a table may be called, each at its height.
pub record MayBeCalled (callees : Callees) (table : List (List Op)) : Type 0 where
  pub count : length table ≤ callees.count
  pub heights : (k : ℕ) (code : List Op) → slice_get table k ≡ Some code → callees.height k ≡ tall code

-- The callee of a call.
callee_is : (k : ℕ) (callee : RoutineId) → (let op : Op = Call (record { 0 = k }) in op ≡ Call callee) → k ≡ callee.0
callee_is k callee e = ap number e
  where
    number : Op → ℕ
    number (Call n) = n.0
    number op = k

-- The kinds at each place of a condition, called or plain, on an empty stack.
abbrev kinds_in_place : Condition → Option ℕ → List (List Kind)
kinds_in_place c None = condition_kinds [] c
kinds_in_place c (Some k) = [] ∷ []

module _ (image : ImageParts) (callees : Callees) (table : List (List Op)) (shared : HasShared image table) (back : IsReadBack) (may : MayBeCalled callees table) where
  sized_in : (c : Condition) (o : Option ℕ) → length (kinds_in_place c o) ≡ size_in_place (condition_size c) o
  sized_in c None = kinds_sized [] c
  sized_in c (Some k) = refl

  starts_in : (kinds : ℕ → List Kind) (c : Condition) (place : ℕ) (o : Option ℕ) → HasKinds kinds place (kinds_in_place c o) → kinds place ≡ []
  starts_in kinds c place None has = condition_starts kinds c place [] has
  starts_in kinds c place (Some k) has = has.0

  -- The height of the callee.
  height_at : (c : Condition) (k : ℕ) → place_in table (condition_code c) ≡ Some k → callees.height k ≡ condition_height c
  height_at c k e = may.heights k (condition_code c) (placed back table (condition_code c) k e) ∙ tall_is c

  -- The code is fine, called or plain.
  fine_in : (kinds : ℕ → List Kind) (height end place : ℕ) (c : Condition) (o : Option ℕ) → place_in table (condition_code c) ≡ o → HasKinds kinds place (kinds_in_place c o)
      → kinds (place + size_in_place (condition_size c) o) ≡ Truth ∷ [] → ConditionFits (image_sizes image) c → condition_height c ≤ height
      → AreFine image callees kinds height end place (in_place (condition_code c) o)
  fine_in kinds height end place c None e has next fits room = condition_fine image callees kinds height end c place [] has next fits (omega (arith, room))
  fine_in kinds height end place c (Some k) e has next fits room =
      let high = condition_high c in
      let at = placed back table (condition_code c) k e in
      let there = shared k (condition_code c) at in
      let within = slice_get_within table k (condition_code c) at in
      let count = may.count in
      let tall = height_at c k e in (
        falls_on image callees kinds height end place (Call (record { 0 = k })) [] (Truth ∷ []) (slice_get_within image.routines k _ there) has.0 next (ap (λ o. option_map (λ below. results_in o ++ below) (without (params_in o) [])) there)
            (λ to e. e) refl refl
            (λ callee e. let same = callee_is k callee e in let height_is = ap callees.height same in (omega (arith, same, within, count), omega (arith, height_is, tall, room))) (omega arith)
            (omega (arith, room, high)),
        tt,
      )

  -- It needs the height of the coder.
  low_in : (kinds : ℕ → List Kind) (height end : ℕ) → ((place : ℕ) → place ≤ end → length (kinds place) ≤ height) → (c : Condition) (place : ℕ) (o : Option ℕ) → place_in table (condition_code c) ≡ o
      → HasKinds kinds place (kinds_in_place c o) → kinds (place + size_in_place (condition_size c) o) ≡ Truth ∷ [] → place + size_in_place (condition_size c) o ≤ end
      → CallsWithin callees kinds height place (in_place (condition_code c) o) → condition_height c ≤ height
  low_in kinds height end each c place None e has next within calls =
      let h = condition_low image callees kinds height end each c place [] has next within in omega (arith, h)
  low_in kinds height end each c place (Some k) e has next within calls =
      let tall = height_at c k e in
      let called = calls.0 (record { 0 = k }) refl in
      omega (arith, tall, called)

  -- All of this together.
  pub shared_typed : IsTypedCoder image callees (shared_coder table)
  shared_typed = record {
    kinds_of = λ c. kinds_in_place c (place_in table (condition_code c));
    kinds_sized = λ c. sized_in c (place_in table (condition_code c));
    sized = coder_sized table;
    high = condition_high;
    starts = λ kinds c place has. starts_in kinds c place (place_in table (condition_code c)) has;
    fine = λ kinds height end place c has next fits room. fine_in kinds height end place c (place_in table (condition_code c)) refl has next fits room;
    low = λ kinds height end each c place has next within calls. low_in kinds height end each c place (place_in table (condition_code c)) refl has next within calls;
  }
