-- The total weights of the instructions of conditions, inits and bodies.
use Rattle.std.proofs.Common.{◌≡◌, ℕ, zero, ◌+◌, List, [], ◌∷◌, ◌++◌, length, Option, Some, None, refl, ap, ◌∙◌, arith, length-append}
use Rattle.std.specs.Prelude.{slice_get}
use Rattle.ifs_base.specs.Spelling.{IsReadBack}
use Rattle.ifs_base.specs.declared.ids.CommandId.{CommandId}
use Rattle.ifs_base.specs.declared.ids.StateId.{StateId}
use Rattle.ifs_base.specs.declared.ids.TestId.{TestId}
use Rattle.ifs_base.specs.declared.op.Op.{Op}
use Rattle.ifs_base.specs.declared.op.Op.TheVariants.{Ret, Known, Negate, Both, Either, PushCommand, PushState, Queue, Want, JumpFalse}
use Rattle.ifs_image.specs.declared.parts.ImageParts.{ImageParts}
use Rattle.ifs_image.specs.Code.{code_in}
use Rattle.ifs_verify.specs.Bounds.{cost_of, commands_of}
use Rattle.ifs_gen.specs.Trees.{LinkIs, TestIs, Condition, Leaf, NotSo, And, Or, Block, Done, RunThen, SetStateThen, IfThen}
use Rattle.ifs_parse.specs.Trees.{condition_size}
use Rattle.ifs_gen.specs.PlainCode.{Coder, plain_coder, condition_code, block_code, code_size, block_limit}
use Rattle.ifs_gen.specs.PlainCode.{block_runs, held_code, holding, body_start, body_end, body_code, init_code}
use Rattle.ifs_gen.specs.PlainCode.{body_size, init_size, body_limit, init_limit}
use Rattle.ifs_gen.specs.Sharing.{place_in, in_place, cost_in_place, shared_coder}
use Rattle.ifs_gen.specs.Runs.{HasShared}
use Rattle.ifs_gen.proofs.Simulation.{condition_sized, block_sized}
use Rattle.ifs_gen.proofs.Handlers.{held_sized}
use Rattle.ifs_gen.proofs.Called.{placed}
use Rattle.ifs_gen.proofs.GoodRoutines.{amount, amount_append, with_callee}

-- Each instruction costs 1.
pub cost_is_length : (code : List Op) → amount cost_of code zero ≡ length code
cost_is_length [] = refl
cost_is_length (op ∷ code) = let e = cost_is_length code in omega (arith, e)

joined_weighs : (weight : Op → ℕ) (a b : Condition) (op : Op)
    → amount weight (condition_code a ++ (condition_code b ++ op ∷ [])) zero ≡ amount weight (condition_code a) zero + amount weight (condition_code b) zero + weight op
joined_weighs weight a b op =
    let e = amount_append weight (condition_code a) (condition_code b ++ op ∷ []) in
    let f = amount_append weight (condition_code b) (op ∷ []) in
    omega (arith, e, f)

-- Conditions queue nothing.
pub condition_queues : (c : Condition) → amount commands_of (condition_code c) zero ≡ 0
condition_queues (Leaf (LinkIs n s)) = refl
condition_queues (Leaf (TestIs n)) = refl
condition_queues (NotSo c) = let e = amount_append commands_of (condition_code c) (Negate ∷ []) in let h = condition_queues c in omega (arith, e, h)
condition_queues (And a b) = let e = joined_weighs commands_of a b Both in omega (arith, e, condition_queues a, condition_queues b)
condition_queues (Or a b) = let e = joined_weighs commands_of a b Either in omega (arith, e, condition_queues a, condition_queues b)

-- A weight counts queued commands, apart from calls.
record Queues (weight : Op → ℕ) : Type 0 where
  commands : (n : CommandId) → weight (PushCommand n) ≡ 0
  states : (n : StateId) → weight (PushState n) ≡ 0
  queued : weight Queue ≡ 1
  wanted : weight Want ≡ 0
  known : (n : TestId) → weight (Known n) ≡ 0
  jumps : (target : ℕ) → weight (JumpFalse target) ≡ 0
  ends : weight Ret ≡ 0

module _ (coder : Coder) (weight : Op → ℕ) (queues : Queues weight) (none : (c : Condition) → amount weight (coder.code c) zero ≡ 0) where
  held_queues : (end : ℕ) (tests : List TestId) → amount weight (held_code end tests) zero ≡ 0
  held_queues end [] = refl
  held_queues end (test ∷ tests) =
      let h = held_queues end tests in
      let known = queues.known test in
      let jump = queues.jumps end in
      omega (arith, h, known, jump)

  -- A block queues as many commands as it has.
  block_queues : (place : ℕ) (block : Block) → amount weight (block_code coder place block) zero ≡ block_runs block
  block_queues place Done = refl
  block_queues place (RunThen n rest) =
      let h = block_queues (place + 2) rest in
      let push = queues.commands n in
      let queue = queues.queued in
      omega (arith, h, push, queue)
  block_queues place (SetStateThen n rest) =
      let h = block_queues (place + 2) rest in
      let push = queues.states n in
      let want = queues.wanted in
      omega (arith, h, push, want)
  block_queues place (IfThen c inner rest) =
      let from = place + coder.size c + 1 in
      let past = from + code_size coder inner in
      let e = amount_append weight (coder.code c) (JumpFalse past ∷ (block_code coder from inner ++ block_code coder past rest)) in
      let f = amount_append weight (block_code coder from inner) (block_code coder past rest) in
      let jump = queues.jumps past in
      omega (arith, e, f, jump, none c, block_queues from inner, block_queues past rest)

  init_weighs : (block : Block) → amount weight (init_code coder block) zero ≡ block_runs block
  init_weighs block =
      let e = amount_append weight (block_code coder 0 block) (Ret ∷ []) in
      let h = block_queues 0 block in
      let end = queues.ends in
      omega (arith, e, h, end)

  body_weighs : (count : ℕ) (block : Block) → amount weight (body_code coder count block) zero ≡ block_runs block
  body_weighs count block =
      let end = body_end coder count block in
      let code = block_code coder (body_start count block) block in
      let e = amount_append weight (held_code end (holding count block)) (code ++ Ret ∷ []) in
      let f = amount_append weight code (Ret ∷ []) in
      let h = block_queues (body_start count block) block in
      let last = queues.ends in
      omega (arith, e, f, h, last, held_queues end (holding count block))

plain_queues : Queues commands_of
plain_queues = record { commands = λ n. refl; states = λ n. refl; queued = refl; wanted = refl; known = λ n. refl; jumps = λ target. refl; ends = refl }

-- Plain inits and bodies queue as many commands as their blocks have.
pub init_queues : (block : Block) → amount commands_of (init_code plain_coder block) zero ≡ block_runs block
init_queues block = init_weighs plain_coder commands_of plain_queues condition_queues block

pub body_queues : (count : ℕ) (block : Block) → amount commands_of (body_code plain_coder count block) zero ≡ block_runs block
body_queues count block = body_weighs plain_coder commands_of plain_queues condition_queues count block

module _ (coder : Coder) (sized : (c : Condition) → length (coder.code c) ≡ coder.size c) where
  -- The lengths of inits and bodies are their sizes.
  pub init_long : (block : Block) → length (init_code coder block) ≡ init_size coder block
  init_long block = length-append (block_code coder 0 block) (Ret ∷ []) ∙ ap (λ n. n + 1) (block_sized coder sized 0 block)

  pub body_long : (count : ℕ) (block : Block) → length (body_code coder count block) ≡ body_size coder count block
  body_long count block =
      let end = body_end coder count block in
      let code = block_code coder (body_start count block) block in
      let e = length-append (held_code end (holding count block)) (code ++ Ret ∷ []) in
      let f = length-append code (Ret ∷ []) in
      omega (arith, e, f, held_sized end (holding count block), block_sized coder sized (body_start count block) block)

-- On an image with the routines of shared codes, with the weights of callees.
module _ (image : ImageParts) where
  -- Plain code has no calls.
  plain_weighs : (weight : Op → ℕ) (c : Condition) → amount (with_callee weight image) (condition_code c) zero ≡ amount weight (condition_code c) zero
  plain_weighs weight (Leaf (LinkIs n s)) = omega arith
  plain_weighs weight (Leaf (TestIs n)) = omega arith
  plain_weighs weight (NotSo c) =
      let e = amount_append (with_callee weight image) (condition_code c) (Negate ∷ []) in
      let f = amount_append weight (condition_code c) (Negate ∷ []) in
      let h = plain_weighs weight c in
      omega (arith, e, f, h)
  plain_weighs weight (And a b) =
      let e = joined_weighs (with_callee weight image) a b Both in let f = joined_weighs weight a b Both in omega (arith, e, f, plain_weighs weight a, plain_weighs weight b)
  plain_weighs weight (Or a b) =
      let e = joined_weighs (with_callee weight image) a b Either in let f = joined_weighs weight a b Either in omega (arith, e, f, plain_weighs weight a, plain_weighs weight b)

  -- The cost of a shared routine is its number of instructions, and it queues nothing.
  pub shared_costs : (c : Condition) → amount (with_callee cost_of image) (condition_code c ++ Ret ∷ []) zero ≡ length (condition_code c) + 1
  shared_costs c =
      let e = amount_append (with_callee cost_of image) (condition_code c) (Ret ∷ []) in
      let f = plain_weighs cost_of c ∙ cost_is_length (condition_code c) in
      omega (arith, e, f)

  pub shared_runs : (c : Condition) → amount (with_callee commands_of image) (condition_code c ++ Ret ∷ []) zero ≡ 0
  shared_runs c =
      let e = amount_append (with_callee commands_of image) (condition_code c) (Ret ∷ []) in
      let f = plain_weighs commands_of c ∙ condition_queues c in
      omega (arith, e, f)

  module _ (table : List (List Op)) (shared : HasShared image table) (back : IsReadBack) where
    -- The weight of a callee is that of its code and its `ret`.
    callee_weighs : (weight : Op → ℕ) (c : Condition) (k : ℕ) → place_in table (condition_code c) ≡ Some k
        → amount weight (code_in (slice_get image.routines k)) zero ≡ amount weight (condition_code c) zero + weight Ret
    callee_weighs weight c k e =
        let there = shared k (condition_code c) (placed back table (condition_code c) k e) in
        let f = ap (λ o. amount weight (code_in o) zero) there in
        let g = amount_append weight (condition_code c) (Ret ∷ []) in
        omega (arith, f, g)

    -- The cost of a condition, called or plain, and its commands.
    costs_in : (c : Condition) (o : Option ℕ) → place_in table (condition_code c) ≡ o → amount (with_callee cost_of image) (in_place (condition_code c) o) zero ≡ cost_in_place (condition_size c) o
    costs_in c None e = plain_weighs cost_of c ∙ cost_is_length (condition_code c) ∙ condition_sized c
    costs_in c (Some k) e =
        let h = callee_weighs cost_of c k e in
        let long = cost_is_length (condition_code c) ∙ condition_sized c in
        omega (arith, h, long)

    queues_in : (c : Condition) (o : Option ℕ) → place_in table (condition_code c) ≡ o → amount (with_callee commands_of image) (in_place (condition_code c) o) zero ≡ 0
    queues_in c None e = plain_weighs commands_of c ∙ condition_queues c
    queues_in c (Some k) e =
        let h = callee_weighs commands_of c k e in
        let none = condition_queues c in
        omega (arith, h, none)

    abbrev coder : Coder
    coder = shared_coder table

    called_queues : Queues (with_callee commands_of image)
    called_queues = record { commands = λ n. refl; states = λ n. refl; queued = refl; wanted = refl; known = λ n. refl; jumps = λ target. refl; ends = refl }

    -- Inits and bodies queue as many commands as their blocks have, and cost no more than their limits.
    pub init_runs : (block : Block) → amount (with_callee commands_of image) (init_code coder block) zero ≡ block_runs block
    init_runs block = init_weighs coder (with_callee commands_of image) called_queues (λ c. queues_in c (place_in table (condition_code c)) refl) block

    pub body_runs : (count : ℕ) (block : Block) → amount (with_callee commands_of image) (body_code coder count block) zero ≡ block_runs block
    body_runs count block = body_weighs coder (with_callee commands_of image) called_queues (λ c. queues_in c (place_in table (condition_code c)) refl) count block

    held_costs : (end : ℕ) (tests : List TestId) → amount (with_callee cost_of image) (held_code end tests) zero ≡ length (held_code end tests)
    held_costs end [] = refl
    held_costs end (test ∷ tests) = let h = held_costs end tests in omega (arith, h)

    -- The weight of a block is the number of instructions that it executes if all conditions are true.
    block_costs : (place : ℕ) (block : Block) → amount (with_callee cost_of image) (block_code coder place block) zero ≡ block_limit coder block
    block_costs place Done = refl
    block_costs place (RunThen n rest) = let h = block_costs (place + 2) rest in omega (arith, h)
    block_costs place (SetStateThen n rest) = let h = block_costs (place + 2) rest in omega (arith, h)
    block_costs place (IfThen c inner rest) =
        let from = place + coder.size c + 1 in
        let past = from + code_size coder inner in
        let e = amount_append (with_callee cost_of image) (coder.code c) (JumpFalse past ∷ (block_code coder from inner ++ block_code coder past rest)) in
        let f = amount_append (with_callee cost_of image) (block_code coder from inner) (block_code coder past rest) in
        let here = costs_in c (place_in table (condition_code c)) refl in
        omega (arith, e, f, here, block_costs from inner, block_costs past rest)

    pub init_costs : (block : Block) → amount (with_callee cost_of image) (init_code coder block) zero ≡ init_limit coder block
    init_costs block =
        let e = amount_append (with_callee cost_of image) (block_code coder 0 block) (Ret ∷ []) in
        let h = block_costs 0 block in
        omega (arith, e, h)

    pub body_costs : (count : ℕ) (block : Block) → amount (with_callee cost_of image) (body_code coder count block) zero ≡ body_limit coder count block
    body_costs count block =
        let end = body_end coder count block in
        let code = block_code coder (body_start count block) block in
        let e = amount_append (with_callee cost_of image) (held_code end (holding count block)) (code ++ Ret ∷ []) in
        let f = amount_append (with_callee cost_of image) code (Ret ∷ []) in
        let h = block_costs (body_start count block) block in
        let held = held_costs end (holding count block) in
        let long = held_sized end (holding count block) in
        omega (arith, e, f, h, held, long)
