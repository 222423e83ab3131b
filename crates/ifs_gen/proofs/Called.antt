-- Code that calls shared conditions computes their truth: the call, the code and the `ret` run past the call.
use Rattle.std.proofs.Common.{◌≡◌, ℕ, zero, suc, ◌+◌, ◌≤◌, Bool, true, false, List, [], ◌∷◌, ◌++◌}
use Rattle.std.proofs.Common.{length, Option, Some, None, refl, sym, ap, ◌∙◌, subst, arith, option_map}
use Rattle.std.specs.Prelude.{slice_get, if◌then◌else◌}
use Rattle.std.proofs.lemmas.Option.{none-some, same_Some}
use Rattle.ifs_base.specs.Facts.{Facts}
use Rattle.ifs_base.specs.Effects.{Effects}
use Rattle.ifs_base.specs.Spelling.{IsReadBack}
use Rattle.ifs_base.specs.declared.op.Op.{Op}
use Rattle.ifs_base.specs.declared.op.Op.TheVariants.{Ret, Call}
use Rattle.ifs_image.specs.declared.parts.ImageParts.{ImageParts}
use Rattle.ifs_image.specs.Code.{code_in, code_of, op_at, results_in}
use Rattle.ifs_machine.specs.declared.value.Value.{Value}
use Rattle.ifs_machine.specs.declared.value.Value.TheVariants.{Truth}
use Rattle.ifs_machine.specs.Table.{Frame, FramesFull, WrongResults, unless, have_kinds, returns, row_of}
use Rattle.ifs_machine.specs.Run.{next, after_rows, AreFactsOf}
use Rattle.ifs_parse.specs.Trees.{condition_size}
use Rattle.ifs_policy.specs.Meaning.{truth}
use Rattle.ifs_policy.specs.Fits.{ConditionFits}
use Rattle.ifs_gen.specs.Trees.{Condition}
use Rattle.ifs_gen.specs.PlainCode.{condition_code, condition_height}
use Rattle.ifs_gen.specs.Sharing.{same_code, place_in, in_place, size_in_place, cost_in_place, frames_for, shared_coder}
use Rattle.ifs_gen.specs.Runs.{image_sizes, HasAt, point, at_point, RowsLead, HasStack, HasFrames, HasShared, SharedTruthRuns}
use Rattle.ifs_gen.proofs.Rows.{unless_fits, has_all, has_left, has_right, after_add}
use Rattle.ifs_gen.proofs.Simulation.{condition_sized, condition_high, condition_leads}
use Rattle.ifs_gen.proofs.CodeKeys.{code_decides}

-- The number of a code is the index of the code.
placed_if : IsReadBack → (b : Bool) (entry : List Op) (table : List (List Op)) (code : List Op) (o : Option ℕ) (k : ℕ) → same_code code entry ≡ b
    → ((j : ℕ) → o ≡ Some j → slice_get table j ≡ Some code) → (if b then Some zero else option_map suc o) ≡ Some k → slice_get (entry ∷ table) k ≡ Some code
placed_if back true entry table code o k same rest e =
    subst (λ n. slice_get (entry ∷ table) n ≡ Some code) (same_Some zero k e) (ap (λ c. Some c) (sym ((code_decides back code entry).0 same)))
placed_if back false entry table code None k same rest e = absurd (none-some k e)
placed_if back false entry table code (Some j) k same rest e =
    subst (λ n. slice_get (entry ∷ table) n ≡ Some code) (same_Some (suc j) k e) (rest j refl)

-- The code at a number is the code.
pub placed : IsReadBack → (table : List (List Op)) (code : List Op) (k : ℕ) → place_in table code ≡ Some k → slice_get table k ≡ Some code
placed back [] code k e = absurd (none-some k e)
placed back (entry ∷ table) code k e = placed_if back (same_code code entry) entry table code (place_in table code) k refl (placed back table code) e

-- The size of a call is 1, and that of plain code its own.
pub coder_sized : (table : List (List Op)) (c : Condition) → length ((shared_coder table).code c) ≡ (shared_coder table).size c
coder_sized table c = sized_in (place_in table (condition_code c))
  where
    sized_in : (o : Option ℕ) → length (in_place (condition_code c) o) ≡ size_in_place (condition_size c) o
    sized_in None = condition_sized c
    sized_in (Some k) = refl

-- At least one frame is needed, and no more than the limit.
pub frames_some : (table : List (List Op)) → 1 ≤ frames_for table
frames_some [] = omega arith
frames_some (code ∷ table) = omega arith

pub frames_few : (table : List (List Op)) → frames_for table ≤ 32
frames_few [] = omega arith
frames_few (code ∷ table) = omega arith

-- If a table has an entry, two frames are needed.
pub frames_two : (table : List (List Op)) (k : ℕ) (code : List Op) → slice_get table k ≡ Some code → 2 ≤ frames_for table
frames_two [] k code e = absurd (none-some code e)
frames_two (entry ∷ table) k code e = omega arith

module _ (image : ImageParts) (facts : Facts) (table : List (List Op)) (given : AreFactsOf image facts) (shared : HasShared image table) (back : IsReadBack) where
  module _ (c : Condition) (routine : ℕ) (callers : List Frame) (place : ℕ) (values : List Value) (effects : Effects) (fits : ConditionFits (image_sizes image) c)
      (room : HasStack image callers values (condition_height c)) (frames : HasFrames image callers (frames_for table)) where
    module _ (k : ℕ) (called : op_at image routine place ≡ Some (Call (record { 0 = k }))) (at : slice_get table k ≡ Some (condition_code c)) where
      abbrev below : List Frame
      below = (record { routine = routine; place = place + 1; values = values }) ∷ callers

      abbrev value : Value
      value = Truth (truth facts c)

      call_row : next image facts (at_point routine callers (point place values effects)) ≡ at_point k below (point 0 [] effects)
      call_row =
          let two = frames_two table k (condition_code c) at in
          let there = shared k (condition_code c) at in
          ap (row_of image facts (record { frame = record { routine = routine; place = place; values = values }; callers = callers; effects = effects })) called
          ∙ (rw there (unless_fits (length callers + 2) image.budgets.frames FramesFull (at_point k below (point 0 [] effects)) (omega (arith, frames, two))))

      has : HasAt (code_of image k) 0 (condition_code c ++ Ret ∷ [])
      has = subst (λ o. HasAt (code_in o) 0 (condition_code c ++ Ret ∷ [])) (sym (shared k (condition_code c) at)) (has_all [] (condition_code c ++ Ret ∷ []))

      inner : RowsLead image facts k below (point 0 [] effects) (condition_size c) (point (0 + condition_size c) (value ∷ []) effects)
      inner = condition_leads image facts given k below c 0 [] effects fits (has_left (code_of image k) 0 (condition_code c) (Ret ∷ []) has) (omega (arith, room))

      ret_row : next image facts (at_point k below (point (0 + condition_size c) (value ∷ []) effects)) ≡ at_point routine callers (point (place + 1) (value ∷ values) effects)
      ret_row =
          let ret = has_right (code_of image k) 0 (condition_code c) (Ret ∷ []) (0 + condition_size c) (ap (λ n. 0 + n) (condition_sized c)) has in
          ap (row_of image facts (record { frame = record { routine = k; place = 0 + condition_size c; values = value ∷ [] }; callers = below; effects = effects })) ret.0
          ∙ ap (λ o. unless (have_kinds (value ∷ []) (results_in o)) WrongResults (returns (value ∷ []) below effects)) (shared k (condition_code c) at)

      call_leads : RowsLead image facts routine callers (point place values effects) (condition_size c + 2) (point (place + 1) (value ∷ values) effects)
      call_leads =
          let start = at_point routine callers (point place values effects) in
          let more : condition_size c + 2 ≡ suc (1 + condition_size c) = omega arith in
          record {
            runs = ap (λ n. after_rows image facts n start) more
                ∙ ap (next image facts) (after_add image facts (condition_size c) 1 start ∙ ap (after_rows image facts (condition_size c)) call_row ∙ inner.runs)
                ∙ ret_row;
          }

    place_leads : (o : Option ℕ) → place_in table (condition_code c) ≡ o → HasAt (code_of image routine) place (in_place (condition_code c) o)
        → RowsLead image facts routine callers (point place values effects) (cost_in_place (condition_size c) o) (point (place + size_in_place (condition_size c) o) (Truth (truth facts c) ∷ values) effects)
    place_leads None e has = condition_leads image facts given routine callers c place values effects fits has room
    place_leads (Some k) e has = call_leads k has.0 (placed back table (condition_code c) k e)

pub shared_truth_runs : IsReadBack → SharedTruthRuns
shared_truth_runs back image facts table given shared = record {
  sized = coder_sized table;
  high = condition_high;
  framed = frames_some table;
  leads = λ c routine callers place values effects fits has room frames.
      place_leads image facts table given shared back c routine callers place values effects fits room frames (place_in table (condition_code c)) refl has;
}
