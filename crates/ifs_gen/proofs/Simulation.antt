-- Plain code on the machine: conditions leave their truth, and blocks have the effects that they reach.
use Rattle.std.proofs.Common.{◌≡◌, ℕ, ◌+◌, ◌≤◌, Bool, true, false, not, List, [], ◌∷◌, ◌++◌, length}
use Rattle.std.proofs.Common.{Option, Some, None, refl, sym, ap, ◌∙◌, subst, arith, length-append}
use Rattle.std.specs.Prelude.{◌&&◌, ◌||◌, if◌then◌else◌, max}
use Rattle.ifs_base.specs.Facts.{Facts, is_link}
use Rattle.ifs_base.specs.Effects.{Effects, nothing_yet, followed}
use Rattle.ifs_base.specs.declared.op.Op.{Op}
use Rattle.ifs_base.specs.declared.op.Op.TheVariants.{Link, Test, Negate, Both, Either, JumpFalse}
use Rattle.ifs_image.specs.declared.parts.ImageParts.{ImageParts}
use Rattle.ifs_image.specs.Code.{code_of, op_at}
use Rattle.ifs_machine.specs.declared.value.Value.{Value}
use Rattle.ifs_machine.specs.declared.value.Value.TheVariants.{Truth, Command, StateName}
use Rattle.ifs_machine.specs.Table.{Frame, StackFull, height, is_true}
use Rattle.ifs_machine.specs.Run.{AreFactsOf}
use Rattle.ifs_gen.specs.Trees.{LinkIs, TestIs, Condition, Leaf, NotSo, And, Or, Block, Done, RunThen, SetStateThen, IfThen}
use Rattle.ifs_policy.specs.Meaning.{has_true, truth, reached}
use Rattle.ifs_parse.specs.Trees.{condition_size}
use Rattle.ifs_gen.specs.PlainCode.{Coder, condition_code, condition_height}
use Rattle.ifs_gen.specs.PlainCode.{block_code, code_size, block_height, block_runs}
use Rattle.ifs_policy.specs.Fits.{ConditionFits, BlockFits}
use Rattle.ifs_gen.specs.Runs.{image_sizes, HasAt, Point, point, at_point, RowsLead}
use Rattle.ifs_gen.specs.Runs.{HasStack, HasFrames, Computes, TruthRuns, block_cost, BlockRuns}
use Rattle.ifs_gen.proofs.Rows.{entry_at, unless_fits, has_left, has_right, followed_assoc}
use Rattle.ifs_gen.proofs.Rows.{followed_nothing, no_rows, then_leads, as_told, at_place}
use Rattle.ifs_gen.proofs.Rows.{one_row, command_row, state_row, queue_row, want_row, jump_row}

joined_sized : (a b : Condition) (op : Op) → length (condition_code a) ≡ condition_size a → length (condition_code b) ≡ condition_size b
    → length (condition_code a ++ (condition_code b ++ op ∷ [])) ≡ condition_size a + condition_size b + 1
joined_sized a b op h k =
    let e = length-append (condition_code a) (condition_code b ++ op ∷ []) in
    let f = length-append (condition_code b) (op ∷ []) in
    omega (arith, e, f, h, k)

pub condition_sized : (c : Condition) → length (condition_code c) ≡ condition_size c
condition_sized (Leaf (LinkIs n s)) = refl
condition_sized (Leaf (TestIs n)) = refl
condition_sized (NotSo c) = length-append (condition_code c) (Negate ∷ []) ∙ ap (λ n. n + 1) (condition_sized c)
condition_sized (And a b) = joined_sized a b Both (condition_sized a) (condition_sized b)
condition_sized (Or a b) = joined_sized a b Either (condition_sized a) (condition_sized b)

pub condition_high : (c : Condition) → 1 ≤ condition_height c
condition_high (Leaf single) = omega arith
condition_high (NotSo c) = condition_high c
condition_high (And a b) = let h = condition_high a in omega (arith, h)
condition_high (Or a b) = let h = condition_high a in omega (arith, h)

same_value : (v : Option Bool) → is_true v ≡ has_true (Some v)
same_value None = refl
same_value (Some b) = refl

module _ (image : ImageParts) (facts : Facts) (given : AreFactsOf image facts) (routine : ℕ) (callers : List Frame) where
  -- The code of a condition runs to its end and leaves its truth.
  abbrev Leads : Condition → Type 0
  Leads c = (place : ℕ) (values : List Value) (effects : Effects) → ConditionFits (image_sizes image) c
      → HasAt (code_of image routine) place (condition_code c) → HasStack image callers values (condition_height c)
      → RowsLead image facts routine callers (point place values effects) (condition_size c) (point (place + condition_size c) (Truth (truth facts c) ∷ values) effects)

  -- So does that of two operands and their sign.
  joined_leads : (a b : Condition) (op : Op) (z : Bool) (place : ℕ) (values : List Value) (effects : Effects) → Leads a → Leads b
      → (op_at image routine (place + condition_size a + condition_size b) ≡ Some op
      → RowsLead image facts routine callers (point (place + condition_size a + condition_size b) (Truth (truth facts b) ∷ Truth (truth facts a) ∷ values) effects) 1
      (point (place + condition_size a + condition_size b + 1) (Truth z ∷ values) effects))
      → ConditionFits (image_sizes image) a × ConditionFits (image_sizes image) b → HasAt (code_of image routine) place (condition_code a ++ (condition_code b ++ op ∷ []))
      → HasStack image callers values (max (condition_height a) (condition_height b + 1))
      → RowsLead image facts routine callers (point place values effects) (condition_size a + condition_size b + 1) (point (place + (condition_size a + condition_size b + 1)) (Truth z ∷ values) effects)
  joined_leads a b op z place values effects leads_a leads_b row fits has room =
      let code = code_of image routine in
      let at = place + condition_size a in
      let first = leads_a place values effects fits.0 (has_left code place (condition_code a) (condition_code b ++ op ∷ []) has) (omega (arith, room)) in
      let rest = has_right code place (condition_code a) (condition_code b ++ op ∷ []) at (ap (λ n. place + n) (condition_sized a)) has in
      let second = leads_b at (Truth (truth facts a) ∷ values) effects fits.1 (has_left code at (condition_code b) (op ∷ []) rest) (omega (arith, room)) in
      let there = has_right code at (condition_code b) (op ∷ []) (at + condition_size b) (ap (λ n. at + n) (condition_sized b)) rest in
      at_place image facts routine callers _ (condition_size a + condition_size b + 1) _ (place + condition_size a + condition_size b + 1) _ (Truth z ∷ values) effects
      (then_leads image facts routine callers _ _ _ _ _ (then_leads image facts routine callers _ _ _ _ _ first second) (row there.0)) refl (omega arith)

  pub condition_leads : (c : Condition) (place : ℕ) (values : List Value) (effects : Effects) → ConditionFits (image_sizes image) c
      → HasAt (code_of image routine) place (condition_code c) → HasStack image callers values (condition_height c)
      → RowsLead image facts routine callers (point place values effects) (condition_size c) (point (place + condition_size c) (Truth (truth facts c) ∷ values) effects)
  condition_leads (Leaf (LinkIs n s)) place values effects fits has room =
      let there = entry_at facts.links n.0 (omega (arith, given.links, fits)) in
      one_row image facts routine callers _ _ (Link n s) has.0 (rw there.1 (unless_fits (length (Truth (is_link there.0 s) ∷ values) + height callers) image.budgets.stack StackFull _ (omega (arith, room))))
  condition_leads (Leaf (TestIs n)) place values effects fits has room =
      let there = entry_at facts.tests n.0 (omega (arith, given.tests, fits)) in
      one_row image facts routine callers _ _ (Test n) has.0
      (rw there.1 (unless_fits (length (Truth (is_true there.0) ∷ values) + height callers) image.budgets.stack StackFull _ (omega (arith, room))
      ∙ ap (λ b. at_point routine callers (point (place + 1) (Truth b ∷ values) effects)) (same_value there.0)))
  condition_leads (NotSo c) place values effects fits has room =
      let code = code_of image routine in
      let inner = condition_leads c place values effects fits (has_left code place (condition_code c) (Negate ∷ []) has) room in
      let there = has_right code place (condition_code c) (Negate ∷ []) (place + condition_size c) (ap (λ n. place + n) (condition_sized c)) has in
      let last = one_row image facts routine callers (point (place + condition_size c) (Truth (truth facts c) ∷ values) effects) (point (place + condition_size c + 1) (Truth (not (truth facts c)) ∷ values) effects) Negate there.0 refl in
      at_place image facts routine callers _ (condition_size c + 1) _ (place + condition_size c + 1) _ (Truth (not (truth facts c)) ∷ values) effects
      (then_leads image facts routine callers _ _ _ _ _ inner last) refl (omega arith)
  condition_leads (And a b) place values effects fits has room =
      joined_leads a b Both (truth facts a && truth facts b) place values effects (condition_leads a) (condition_leads b) (λ there. one_row image facts routine callers _ _ Both there refl) fits has room
  condition_leads (Or a b) place values effects fits has room =
      joined_leads a b Either (truth facts a || truth facts b) place values effects (condition_leads a) (condition_leads b) (λ there. one_row image facts routine callers _ _ Either there refl) fits has room

pub truth_runs : TruthRuns
truth_runs image facts given = record {
  sized = condition_sized;
  high = condition_high;
  framed = omega arith;
  leads = λ c routine callers place values effects fits has room frames. condition_leads image facts given routine callers c place values effects fits has room;
}

chosen_within : (b : Bool) (x : Effects) (n : ℕ) → length x.commands ≤ n → length (if b then x else nothing_yet).commands ≤ n
chosen_within true x n h = h
chosen_within false x n h = omega arith

module _ (coder : Coder) where
  pub block_sized : ((c : Condition) → length (coder.code c) ≡ coder.size c) → (place : ℕ) (block : Block) → length (block_code coder place block) ≡ code_size coder block
  block_sized each place Done = refl
  block_sized each place (RunThen n rest) = let e = block_sized each (place + 2) rest in omega (arith, e)
  block_sized each place (SetStateThen n rest) = let e = block_sized each (place + 2) rest in omega (arith, e)
  block_sized each place (IfThen c inner rest) =
      let from = place + coder.size c + 1 in
      let past = from + code_size coder inner in
      let e = length-append (coder.code c) (JumpFalse past ∷ (block_code coder from inner ++ block_code coder past rest)) in
      let f = length-append (block_code coder from inner) (block_code coder past rest) in
      omega (arith, e, f, each c, block_sized each from inner, block_sized each past rest)

module _ (image : ImageParts) (facts : Facts) (coder : Coder) where
  -- A block reaches no more commands than it has.
  pub reached_within : (block : Block) → length (reached facts block).commands ≤ block_runs block
  reached_within Done = omega arith
  reached_within (RunThen n rest) = let h = reached_within rest in omega (arith, h)
  reached_within (SetStateThen n rest) = let h = reached_within rest in omega (arith, h)
  reached_within (IfThen c inner rest) =
      let h = reached_within rest in
      let i = chosen_within (truth facts c) (reached facts inner) (block_runs inner) (reached_within inner) in
      let e = length-append (if truth facts c then reached facts inner else nothing_yet).commands (reached facts rest).commands in
      omega (arith, h, i, e)

  module _ (computes : Computes image facts coder) (routine : ℕ) (callers : List Frame) where
    -- A block under a truth runs if it is true, and is skipped if it is false.
    chosen_leads : (b : Bool) (place past cost : ℕ) (values : List Value) (effects more : Effects) → op_at image routine place ≡ Some (JumpFalse past)
        → RowsLead image facts routine callers (point (place + 1) values effects) cost (point past values (followed effects more))
        → RowsLead image facts routine callers (point place (Truth b ∷ values) effects) (1 + (if b then cost else 0)) (point past values (followed effects (if b then more else nothing_yet)))
    chosen_leads true place past cost values effects more here inner =
        then_leads image facts routine callers _ _ _ _ _ (jump_row image facts routine callers place values effects true past here) inner
    chosen_leads false place past cost values effects more here inner =
        as_told image facts routine callers _ _ _ _ _ (jump_row image facts routine callers place values effects false past here) refl
        (ap (λ e. point past values e) (sym (followed_nothing effects)))

    -- Two statements in sequence.
    both_lead : (from : Point) (m n place to : ℕ) (values : List Value) (effects first second : Effects)
        → RowsLead image facts routine callers from m (point place values (followed effects first))
        → RowsLead image facts routine callers (point place values (followed effects first)) n (point to values (followed (followed effects first) second))
        → RowsLead image facts routine callers from (m + n) (point to values (followed effects (followed first second)))
    both_lead from m n place to values effects first second one two =
        as_told image facts routine callers _ _ _ _ _ (then_leads image facts routine callers _ _ _ _ _ one two) refl
        (ap (λ e. point to values e) (followed_assoc effects first second))

    two_rows : (place : ℕ) (values : List Value) (effects first second : Effects) (value : Value) (cost size : ℕ)
        → RowsLead image facts routine callers (point place values effects) 1 (point (place + 1) (value ∷ values) effects)
        → RowsLead image facts routine callers (point (place + 1) (value ∷ values) effects) 1 (point (place + 1 + 1) values (followed effects first))
        → RowsLead image facts routine callers (point (place + 2) values (followed effects first)) cost (point (place + 2 + size) values (followed (followed effects first) second))
        → RowsLead image facts routine callers (point place values effects) (2 + cost) (point (place + (2 + size)) values (followed effects (followed first second)))
    two_rows place values effects first second value cost size one two onward =
        let start = at_place image facts routine callers _ (1 + 1) 2 (place + 1 + 1) (place + 2) values (followed effects first)
        (then_leads image facts routine callers _ _ _ _ _ one two) refl (omega arith) in
        at_place image facts routine callers _ (2 + cost) (2 + cost) (place + 2 + size) (place + (2 + size)) values (followed effects (followed first second))
        (both_lead _ _ _ _ _ values effects first second start onward) refl (omega arith)

    pub block_leads : (block : Block) (place : ℕ) (values : List Value) (effects : Effects) → BlockFits (image_sizes image) block
        → HasAt (code_of image routine) place (block_code coder place block) → HasStack image callers values (block_height coder block) → HasFrames image callers coder.frames
        → length effects.commands + block_runs block ≤ image.budgets.commands
        → RowsLead image facts routine callers (point place values effects) (block_cost coder facts block) (point (place + code_size coder block) values (followed effects (reached facts block)))
    block_leads Done place values effects fits has room frames more =
        let same : place ≡ place + 0 = omega arith in
        as_told image facts routine callers _ _ _ _ _ (no_rows image facts routine callers (point place values effects)) refl
        (ap (λ p. point p values effects) same ∙ ap (λ e. point (place + 0) values e) (sym (followed_nothing effects)))
    block_leads (RunThen n rest) place values effects fits has room frames more =
        let queued : Effects = record { commands = n ∷ []; wish = None } in
        let push = command_row image facts routine callers place values effects n has.0 fits.0 (omega (arith, room)) in
        let queue = queue_row image facts routine callers (place + 1) values effects n has.1.0 (omega (arith, more)) in
        let same : place + 1 + 1 ≡ place + 2 = omega arith in
        let there = subst (λ p. HasAt (code_of image routine) p (block_code coder (place + 2) rest)) same has.1.1 in
        let long = length-append effects.commands (n ∷ []) in
        let onward = block_leads rest (place + 2) values (followed effects queued) fits.1 there (omega (arith, room)) frames (omega (arith, more, long)) in
        two_rows place values effects queued (reached facts rest) (Command n) (block_cost coder facts rest) (code_size coder rest) push queue onward
    block_leads (SetStateThen n rest) place values effects fits has room frames more =
        let wished : Effects = record { commands = []; wish = Some n } in
        let push = state_row image facts routine callers place values effects n has.0 fits.0 (omega (arith, room)) in
        let want = want_row image facts routine callers (place + 1) values effects n has.1.0 in
        let same : place + 1 + 1 ≡ place + 2 = omega arith in
        let there = subst (λ p. HasAt (code_of image routine) p (block_code coder (place + 2) rest)) same has.1.1 in
        let long = length-append effects.commands [] in
        let onward = block_leads rest (place + 2) values (followed effects wished) fits.1 there (omega (arith, room)) frames (omega (arith, more, long)) in
        two_rows place values effects wished (reached facts rest) (StateName n) (block_cost coder facts rest) (code_size coder rest) push want onward
    block_leads (IfThen c inner rest) place values effects fits has room frames more =
        let code = code_of image routine in
        let at = place + coder.size c in
        let from = at + 1 in
        let past = from + code_size coder inner in
        let codes = block_code coder from inner ++ block_code coder past rest in
        let b = truth facts c in
        let chosen = if b then reached facts inner else nothing_yet in
        let tested = computes.leads c routine callers place values effects fits.0 (has_left code place (coder.code c) (JumpFalse past ∷ codes) has) (omega (arith, room)) frames in
        let jump = has_right code place (coder.code c) (JumpFalse past ∷ codes) at (ap (λ n. place + n) (computes.sized c)) has in
        let inside = block_leads inner from values effects fits.1 (has_left code from (block_code coder from inner) (block_code coder past rest) jump.1) (omega (arith, room)) frames (omega (arith, more)) in
        let there = has_right code from (block_code coder from inner) (block_code coder past rest) past (ap (λ n. from + n) (block_sized coder computes.sized from inner)) jump.1 in
        let choice = chosen_leads b at past (block_cost coder facts inner) values effects (reached facts inner) jump.0 inside in
        let few = chosen_within b (reached facts inner) (block_runs inner) (reached_within inner) in
        let long = length-append effects.commands chosen.commands in
        let onward = block_leads rest past values (followed effects chosen) fits.2 there (omega (arith, room)) frames (omega (arith, more, long, few)) in
        at_place image facts routine callers _ _ _ _ _ values _
        (both_lead _ _ _ _ _ values effects chosen (reached facts rest) (then_leads image facts routine callers _ _ _ _ _ tested choice) onward)
        (omega arith) (omega arith)

pub blocks_run : BlockRuns
blocks_run image facts coder routine callers block place values effects computes fits has room frames more =
    block_leads image facts coder computes routine callers block place values effects fits has room frames more
