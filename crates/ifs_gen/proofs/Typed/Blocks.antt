-- The kinds at each place of a block's code, given those of its conditions. With them the code is fine.
use Rattle.std.proofs.Common.{◌≡◌, ℕ, ◌+◌, ◌≤◌, max, List, [], ◌∷◌, ◌++◌, length, refl, sym, ap, ◌∙◌, subst, arith, length-append}
use Rattle.ifs_base.specs.declared.op.Kind.{Kind}
use Rattle.ifs_base.specs.declared.op.Kind.TheVariants.{Truth, Command, StateName}
use Rattle.ifs_base.specs.declared.op.Op.{Op}
use Rattle.ifs_base.specs.declared.op.Op.TheVariants.{PushCommand, PushState, Queue, Want, JumpFalse}
use Rattle.ifs_image.specs.declared.parts.ImageParts.{ImageParts}
use Rattle.ifs_gen.specs.Trees.{Condition, Block, Done, RunThen, SetStateThen, IfThen}
use Rattle.ifs_gen.specs.PlainCode.{Coder, block_code, code_size, block_height}
use Rattle.ifs_policy.specs.Fits.{ConditionFits, BlockFits}
use Rattle.ifs_gen.specs.Runs.{image_sizes}
use Rattle.ifs_gen.proofs.Simulation.{block_sized}
use Rattle.ifs_gen.proofs.Fine.{Callees, IsFine, AreFine, CallsWithin, calls_left, calls_right, fine_append}
use Rattle.ifs_gen.proofs.Typed.Trees.{HasKinds, kinds_left, kinds_right, falls_on, jumps_on}

-- The code of conditions, on an empty stack, has these kinds and sizes. It is fine, and needs the height of the coder.
pub record IsTypedCoder (image : ImageParts) (callees : Callees) (coder : Coder) : Type 0 where
  pub kinds_of : Condition → List (List Kind)
  pub kinds_sized : (c : Condition) → length (kinds_of c) ≡ coder.size c
  pub sized : (c : Condition) → length (coder.code c) ≡ coder.size c
  pub high : (c : Condition) → 1 ≤ coder.height c
  pub starts : (kinds : ℕ → List Kind) (c : Condition) (place : ℕ) → HasKinds kinds place (kinds_of c) → kinds place ≡ []
  pub fine : (kinds : ℕ → List Kind) (height end place : ℕ) (c : Condition) → HasKinds kinds place (kinds_of c) → kinds (place + coder.size c) ≡ Truth ∷ []
      → ConditionFits (image_sizes image) c → coder.height c ≤ height → AreFine image callees kinds height end place (coder.code c)
  pub low : (kinds : ℕ → List Kind) (height end : ℕ) → ((place : ℕ) → place ≤ end → length (kinds place) ≤ height) → (c : Condition) (place : ℕ) → HasKinds kinds place (kinds_of c)
      → kinds (place + coder.size c) ≡ Truth ∷ [] → place + coder.size c ≤ end → CallsWithin callees kinds height place (coder.code c) → coder.height c ≤ height

module _ (image : ImageParts) (callees : Callees) (coder : Coder) (typed : IsTypedCoder image callees coder) where
  abbrev pub kinds_of_block : Block → List (List Kind)
  kinds_of_block Done = []
  kinds_of_block (RunThen n rest) = [] ∷ (Command ∷ []) ∷ kinds_of_block rest
  kinds_of_block (SetStateThen n rest) = [] ∷ (StateName ∷ []) ∷ kinds_of_block rest
  kinds_of_block (IfThen c inner rest) = typed.kinds_of c ++ ((Truth ∷ []) ∷ (kinds_of_block inner ++ kinds_of_block rest))

  pub kinds_of_block_sized : (block : Block) → length (kinds_of_block block) ≡ code_size coder block
  kinds_of_block_sized Done = refl
  kinds_of_block_sized (RunThen n rest) = let e = kinds_of_block_sized rest in omega (arith, e)
  kinds_of_block_sized (SetStateThen n rest) = let e = kinds_of_block_sized rest in omega (arith, e)
  kinds_of_block_sized (IfThen c inner rest) =
      let e = length-append (typed.kinds_of c) ((Truth ∷ []) ∷ (kinds_of_block inner ++ kinds_of_block rest)) in
      let f = length-append (kinds_of_block inner) (kinds_of_block rest) in
      omega (arith, e, f, typed.kinds_sized c, kinds_of_block_sized inner, kinds_of_block_sized rest)

  module _ (kinds : ℕ → List Kind) (height end : ℕ) where
    pub block_starts : (block : Block) (place : ℕ) → HasKinds kinds place (kinds_of_block block) → kinds (place + code_size coder block) ≡ [] → kinds place ≡ []
    block_starts Done place has next = let same : place + 0 ≡ place = omega arith in sym (ap kinds same) ∙ next
    block_starts (RunThen n rest) place has next = has.0
    block_starts (SetStateThen n rest) place has next = has.0
    block_starts (IfThen c inner rest) place has next =
        typed.starts kinds c place (kinds_left kinds place (typed.kinds_of c) ((Truth ∷ []) ∷ (kinds_of_block inner ++ kinds_of_block rest)) has)

    -- A value is pushed and used up, and then the rest of a block follows.
    two_steps : (place : ℕ) (push takes : Op) (kind : Kind) (rest : Block) → HasKinds kinds place ([] ∷ (kind ∷ []) ∷ kinds_of_block rest) → kinds (place + (2 + code_size coder rest)) ≡ []
        → (kinds place ≡ [] → kinds (place + 1) ≡ kind ∷ [] → IsFine image callees kinds height end place push)
        → (kinds (place + 1) ≡ kind ∷ [] → kinds (place + 1 + 1) ≡ [] → IsFine image callees kinds height end (place + 1) takes)
        → (HasKinds kinds (place + 2) (kinds_of_block rest) → kinds (place + 2 + code_size coder rest) ≡ [] → AreFine image callees kinds height end (place + 2) (block_code coder (place + 2) rest))
        → AreFine image callees kinds height end place (push ∷ takes ∷ block_code coder (place + 2) rest)
    two_steps place push takes kind rest has next first second onward =
        let far : place + (2 + code_size coder rest) ≡ place + 2 + code_size coder rest = omega arith in
        let same : place + 2 ≡ place + 1 + 1 = omega arith in
        let last = sym (ap kinds far) ∙ next in
        let there = subst (λ p. HasKinds kinds p (kinds_of_block rest)) (sym same) has.1.1 in
        let starts = sym (ap kinds same) ∙ block_starts rest (place + 2) there last in
        (first has.0 has.1.0, (second has.1.0 starts, subst (λ p. AreFine image callees kinds height end p (block_code coder (place + 2) rest)) same (onward there last)))

    pub block_fine : (block : Block) (place : ℕ) → HasKinds kinds place (kinds_of_block block) → kinds (place + code_size coder block) ≡ [] → BlockFits (image_sizes image) block
        → block_height coder block ≤ height → place + code_size coder block ≤ end → AreFine image callees kinds height end place (block_code coder place block)
    block_fine Done place has next fits room within = tt
    block_fine (RunThen n rest) place has next fits room within =
        two_steps place (PushCommand n) Queue Command rest has next
        (λ at to. falls_on image callees kinds height end place (PushCommand n) [] (Command ∷ []) fits.0 at to refl (λ to e. e) refl refl (λ callee e. cc) (omega arith) (omega (arith, room)))
        (λ at to. falls_on image callees kinds height end (place + 1) Queue (Command ∷ []) [] tt at to refl (λ to e. e) refl refl (λ callee e. cc) (omega (arith, room)) (omega arith))
        (λ there last. block_fine rest (place + 2) there last fits.1 (omega (arith, room)) (omega (arith, within)))
    block_fine (SetStateThen n rest) place has next fits room within =
        two_steps place (PushState n) Want StateName rest has next
        (λ at to. falls_on image callees kinds height end place (PushState n) [] (StateName ∷ []) fits.0 at to refl (λ to e. e) refl refl (λ callee e. cc) (omega arith) (omega (arith, room)))
        (λ at to. falls_on image callees kinds height end (place + 1) Want (StateName ∷ []) [] tt at to refl (λ to e. e) refl refl (λ callee e. cc) (omega (arith, room)) (omega arith))
        (λ there last. block_fine rest (place + 2) there last fits.1 (omega (arith, room)) (omega (arith, within)))
    block_fine (IfThen c inner rest) place has next fits room within =
        let at = place + coder.size c in
        let from = at + 1 in
        let past = from + code_size coder inner in
        let kc = typed.kinds_of c in
        let kb = kinds_of_block inner ++ kinds_of_block rest in
        let high = typed.high c in
        let mid = kinds_right kinds place kc ((Truth ∷ []) ∷ kb) at (ap (λ n. place + n) (typed.kinds_sized c)) has in
        let there = kinds_right kinds from (kinds_of_block inner) (kinds_of_block rest) past (ap (λ n. from + n) (kinds_of_block_sized inner)) mid.1 in
        let far : place + (coder.size c + 1 + code_size coder inner + code_size coder rest) ≡ past + code_size coder rest = omega arith in
        let last = sym (ap kinds far) ∙ next in
        let after = block_starts rest past there last in
        let own = kinds_left kinds from (kinds_of_block inner) (kinds_of_block rest) mid.1 in
        let tested = typed.fine kinds height end place c (kinds_left kinds place kc ((Truth ∷ []) ∷ kb) has) mid.0 fits.0 (omega (arith, room)) in
        let jump = jumps_on image callees kinds height end at past mid.0 (block_starts inner from own after) after (omega arith) (omega (arith, within)) (omega (arith, room, high)) in
        let inside = block_fine inner from own after fits.1 (omega (arith, room)) (omega (arith, within)) in
        let onward = block_fine rest past there last fits.2 (omega (arith, room)) (omega (arith, within)) in
        fine_append image callees kinds height end place (coder.code c) (JumpFalse past ∷ (block_code coder from inner ++ block_code coder past rest)) at (ap (λ n. place + n) (typed.sized c)) tested
        (jump, fine_append image callees kinds height end from (block_code coder from inner) (block_code coder past rest) past (ap (λ n. from + n) (block_sized coder typed.sized from inner)) inside onward)

    -- If no place and no call exceeds a height, the tree does not.
    module _ (each : (place : ℕ) → place ≤ end → length (kinds place) ≤ height) where
      two_low : (place : ℕ) (kind : Kind) (rest : Block) → HasKinds kinds place ([] ∷ (kind ∷ []) ∷ kinds_of_block rest) → kinds (place + (2 + code_size coder rest)) ≡ []
          → place + (2 + code_size coder rest) ≤ end → CallsWithin callees kinds height (place + 1 + 1) (block_code coder (place + 2) rest)
          → (HasKinds kinds (place + 2) (kinds_of_block rest) → kinds (place + 2 + code_size coder rest) ≡ [] → place + 2 + code_size coder rest ≤ end
          → CallsWithin callees kinds height (place + 2) (block_code coder (place + 2) rest) → block_height coder rest ≤ height)
          → max 1 (block_height coder rest) ≤ height
      two_low place kind rest has next within calls low =
          let far : place + (2 + code_size coder rest) ≡ place + 2 + code_size coder rest = omega arith in
          let same : place + 1 + 1 ≡ place + 2 = omega arith in
          let one = each (place + 1) (omega (arith, within)) in
          let long = ap length has.1.0 in
          let there = subst (λ p. HasKinds kinds p (kinds_of_block rest)) same has.1.1 in
          let called = subst (λ p. CallsWithin callees kinds height p (block_code coder (place + 2) rest)) same calls in
          let more = low there (sym (ap kinds far) ∙ next) (omega (arith, within)) called in
          omega (arith, one, long, more)

      pub block_low : (block : Block) (place : ℕ) → HasKinds kinds place (kinds_of_block block) → kinds (place + code_size coder block) ≡ [] → place + code_size coder block ≤ end
          → CallsWithin callees kinds height place (block_code coder place block) → block_height coder block ≤ height
      block_low Done place has next within calls = omega arith
      block_low (RunThen n rest) place has next within calls = two_low place Command rest has next within calls.1.1 (block_low rest (place + 2))
      block_low (SetStateThen n rest) place has next within calls = two_low place StateName rest has next within calls.1.1 (block_low rest (place + 2))
      block_low (IfThen c inner rest) place has next within calls =
          let at = place + coder.size c in
          let from = at + 1 in
          let past = from + code_size coder inner in
          let kc = typed.kinds_of c in
          let kb = kinds_of_block inner ++ kinds_of_block rest in
          let mid = kinds_right kinds place kc ((Truth ∷ []) ∷ kb) at (ap (λ n. place + n) (typed.kinds_sized c)) has in
          let there = kinds_right kinds from (kinds_of_block inner) (kinds_of_block rest) past (ap (λ n. from + n) (kinds_of_block_sized inner)) mid.1 in
          let far : place + (coder.size c + 1 + code_size coder inner + code_size coder rest) ≡ past + code_size coder rest = omega arith in
          let last = sym (ap kinds far) ∙ next in
          let codes = block_code coder from inner ++ block_code coder past rest in
          let first = calls_left callees kinds height place (coder.code c) (JumpFalse past ∷ codes) calls in
          let jump = calls_right callees kinds height place (coder.code c) (JumpFalse past ∷ codes) at (ap (λ n. place + n) (typed.sized c)) calls in
          let second = calls_left callees kinds height from (block_code coder from inner) (block_code coder past rest) jump.1 in
          let third = calls_right callees kinds height from (block_code coder from inner) (block_code coder past rest) past (ap (λ n. from + n) (block_sized coder typed.sized from inner)) jump.1 in
          let own = kinds_left kinds from (kinds_of_block inner) (kinds_of_block rest) mid.1 in
          let tested = typed.low kinds height end each c place (kinds_left kinds place kc ((Truth ∷ []) ∷ kb) has) mid.0 (omega (arith, within)) first in
          let inside = block_low inner from own (block_starts rest past there last) (omega (arith, within)) second in
          let onward = block_low rest past there last (omega (arith, within)) third in
          omega (arith, tested, inside, onward)
