-- The code of chains and of blocks, member by member.
use Rattle.std.proofs.Common.{◌≡◌, ℕ, zero, suc, ◌+◌, ◌*◌, ◌^◌, ◌<◌, ◌≤◌, ◌⊎◌, ⊎_elim, fold, List, [], ◌∷◌, ◌++◌, length, refl}
use Rattle.std.proofs.Common.{sym, ap, ◌∙◌, append_assoc, length-append, arith, take, drop, get_or, drop-cons}
use Rattle.std.proofs.lemmas.List.{append-nil, take_more, take-append-drop, take_all}
use Rattle.std.specs.Prelude.{slice_set}
use Rattle.std.specs.List.{flat_map}
use Rattle.ifs_base.specs.declared.op.Op.{Op}
use Rattle.ifs_base.specs.declared.op.Op.TheVariants.{Both, Either, JumpFalse, Known, Ret}
use Rattle.ifs_parse.specs.Trees as tree
use Rattle.ifs_base.specs.declared.ids.CommandId.{CommandId}
use Rattle.ifs_base.specs.declared.ids.StateId.{StateId}
use Rattle.ifs_base.specs.declared.ids.TestId.{TestId}
use Rattle.ifs_parse.specs.Views.{all_of, any_of, block_of, statement_then}
use Rattle.ifs_parse.specs.declared.block.Statement.{Statement}
use Rattle.ifs_parse.specs.declared.block.Statement.TheVariants.{Run, SetState, If}
use Rattle.ifs_gen.specs.Trees.{Single, Condition, Block}
use Rattle.ifs_gen.specs.PlainCode.{Coder, condition_code, block_code, code_size, held_code}
use Rattle.ifs_gen.specs.inner.Emission.{statement_code, statement_size}
use Rattle.ifs_policy.proofs.Lists.{fold_flat}
use Rattle.ifs_policy.proofs.Joined.{all_steps, any_steps}
use Rattle.ifs_gen.proofs.Handlers.{held_sized}
use Rattle.ifs_gen.proofs.Simulation.{block_sized}

-- The code of a further operand and the instruction of its sign.
abbrev pub joined : Op → Condition → List Op
joined op c = condition_code c ++ op ∷ []

-- The code of a chain, given the instruction of its sign.
pub chain_code : {N : Type 0} (view : N → Condition) (sign : N → Op) (node all any : N) (c first second : Condition) (rest : List Condition) (op : Op) → (node ≡ all) ⊎ (node ≡ any)
    → view all ≡ all_of (tree.And first second) rest → view any ≡ any_of (tree.Or first second) rest → sign all ≡ Both → sign any ≡ Either → c ≡ view node → op ≡ sign node
    → condition_code c ≡ condition_code first ++ (joined op second ++ flat_map (joined op) rest)
chain_code view sign node all any c first second rest op is all_is any_is both either c_is op_is =
    ⊎_elim
    (λ e. code_from Both (tree.And first second) (c_is ∙ ap view e ∙ all_is) (op_is ∙ ap sign e ∙ both) (all_steps condition_code (λ xs c. xs ++ joined Both c) (λ a b. refl) (tree.And first second) rest) refl)
    (λ e. code_from Either (tree.Or first second) (c_is ∙ ap view e ∙ any_is) (op_is ∙ ap sign e ∙ either) (any_steps condition_code (λ xs c. xs ++ joined Either c) (λ a b. refl) (tree.Or first second) rest) refl)
    is
  where
    code_from : (own : Op) (two : Condition) {whole : Condition} → c ≡ whole → op ≡ own → condition_code whole ≡ fold (λ xs c. xs ++ joined own c) (condition_code two) rest
        → condition_code two ≡ condition_code first ++ joined own second → condition_code c ≡ condition_code first ++ (joined op second ++ flat_map (joined op) rest)
    code_from own two {whole} whole_is own_is steps two_is =
        ap condition_code whole_is ∙ steps ∙ fold_flat (joined own) (condition_code two) rest ∙ ap (λ xs. xs ++ flat_map (joined own) rest) two_is
        ∙ append_assoc (condition_code first) (joined own second) (flat_map (joined own) rest)
        ∙ ap (λ o. condition_code first ++ (joined o second ++ flat_map (joined o) rest)) (sym own_is)

set_front : (front : List Op) (x y : Op) (rest : List Op) → slice_set (front ++ x ∷ rest) (length front) y ≡ front ++ y ∷ rest
set_front [] x y rest = refl
set_front (z ∷ front) x y rest = ap (λ l. z ∷ l) (set_front front x y rest)

split_at : (items : List (Statement Single CommandId StateId)) (i : ℕ) → items ≡ take i items ++ drop i items
split_at items i = sym (take-append-drop i items)

module _ (coder : Coder) where
  -- A block is its first statement and the rest.
  then_code : (place : ℕ) (statement : Statement Single CommandId StateId) (rest : Block) → block_code coder place (statement_then statement rest)
      ≡ statement_code coder place statement ++ block_code coder (place + statement_size coder statement) rest
  then_code place (Run command) rest = refl
  then_code place (SetState state) rest = refl
  then_code place (If c inner) rest =
      let from = place + coder.size c + 1 in
      let past = from + code_size coder inner in
      let codes = block_code coder from inner in
      let same : past ≡ place + (coder.size c + 1 + code_size coder inner + 0) = omega arith in
      ap (λ xs. coder.code c ++ (JumpFalse past ∷ (xs ++ block_code coder past rest))) (sym (append-nil codes))
      ∙ ap (λ xs. coder.code c ++ (JumpFalse past ∷ xs)) refl
      ∙ sym (append_assoc (coder.code c) (JumpFalse past ∷ (codes ++ [])) (block_code coder past rest))
      ∙ ap (λ p. (coder.code c ++ (JumpFalse past ∷ (codes ++ []))) ++ block_code coder p rest) same

  then_size : (statement : Statement Single CommandId StateId) (rest : Block) → code_size coder (statement_then statement rest) ≡ statement_size coder statement + code_size coder rest
  then_size (Run command) rest = refl
  then_size (SetState state) rest = refl
  then_size (If c inner) rest = omega arith

  -- The code of two lists of statements is in sequence.
  of_append : (place : ℕ) (xs ys : List (Statement Single CommandId StateId)) → block_code coder place (block_of (xs ++ ys))
      ≡ block_code coder place (block_of xs) ++ block_code coder (place + code_size coder (block_of xs)) (block_of ys)
  of_append place [] ys = let same : place ≡ place + 0 = omega arith in ap (λ p. block_code coder p (block_of ys)) same
  of_append place (x ∷ xs) ys =
      let next = place + statement_size coder x in
      let size = then_size x (block_of xs) in
      let same : next + code_size coder (block_of xs) ≡ place + code_size coder (statement_then x (block_of xs)) = omega (arith, size) in
      then_code place x (block_of (xs ++ ys))
      ∙ ap (λ c. statement_code coder place x ++ c) (of_append next xs ys)
      ∙ sym (append_assoc (statement_code coder place x) (block_code coder next (block_of xs)) (block_code coder (next + code_size coder (block_of xs)) (block_of ys)))
      ∙ ap (λ c. c ++ block_code coder (next + code_size coder (block_of xs)) (block_of ys)) (sym (then_code place x (block_of xs)))
      ∙ ap (λ p. block_code coder place (block_of (x ∷ xs)) ++ block_code coder p (block_of ys)) same

  pub of_size : (xs ys : List (Statement Single CommandId StateId)) → code_size coder (block_of (xs ++ ys)) ≡ code_size coder (block_of xs) + code_size coder (block_of ys)
  of_size [] ys = let same : code_size coder (block_of ys) ≡ 0 + code_size coder (block_of ys) = omega arith in same
  of_size (x ∷ xs) ys =
      let e = then_size x (block_of (xs ++ ys)) in
      let f = then_size x (block_of xs) in
      let h = of_size xs ys in
      omega (arith, e, f, h)

  -- A statement is no larger than its block, and an inner block is smaller than its statement.
  pub item_within : (block : Block) (items : List (Statement Single CommandId StateId)) (i : ℕ) (item : Statement Single CommandId StateId) → block ≡ block_of items
      → i < length items → item ≡ get_or items i item → statement_size coder item ≤ code_size coder block
  item_within block items i item block_is lt at =
      let rest = drop-cons items i item lt in
      let whole = ap (λ xs. code_size coder (block_of xs)) (split_at items i) ∙ of_size (take i items) (drop i items) in
      let tail = ap (λ xs. code_size coder (block_of xs)) rest ∙ then_size (get_or items i item) (block_of (drop (suc i) items)) in
      let same = ap (statement_size coder) at in
      let all = ap (code_size coder) block_is in
      omega (arith, whole, tail, same, all)

  pub inner_within : (s : Statement Single CommandId StateId) (c : Condition) (inner : Block) → s ≡ If c inner → code_size coder inner + 1 ≤ statement_size coder s
  inner_within s c inner is = let size = ap (statement_size coder) is in omega (arith, size)

module _ (coder : Coder) (sized : (c : Condition) → length (coder.code c) ≡ coder.size c) where
  pub if_room : (old mid next : List Op) (s : Statement Single CommandId StateId) (c : Condition) (inner : Block) (op : Op) → s ≡ If c inner → mid ≡ old ++ coder.code c → next ≡ mid ++ op ∷ []
      → length old + statement_size coder s < 2 ^ 16 → length next + code_size coder inner < 2 ^ 16
  if_room old mid next s c inner op is mid_is next_is room =
      let a = ap length mid_is ∙ length-append old (coder.code c) in
      let b = ap length next_is ∙ length-append mid (op ∷ []) in
      let size = ap (statement_size coder) is in
      let here = sized c in
      omega (arith, a, b, size, here, room)

  pub if_fits : (next all : List Op) (inner : Block) (len : ℕ) → all ≡ next ++ block_code coder (length next) inner → len ≡ length all
      → length next + code_size coder inner < 2 ^ 16 → len < 2 ^ 16
  if_fits next all inner len all_is len_is room =
      let a = ap length all_is ∙ length-append next (block_code coder (length next) inner) in
      let block_is_long = block_sized coder sized (length next) inner in
      omega (arith, a, block_is_long, len_is, room)

  pub if_code : (old mid next all : List Op) (s : Statement Single CommandId StateId) (c : Condition) (inner : Block) (jump len : ℕ) → s ≡ If c inner → mid ≡ old ++ coder.code c
      → jump ≡ length mid → next ≡ mid ++ JumpFalse 0 ∷ [] → all ≡ next ++ block_code coder (length next) inner → len ≡ length all
      → slice_set all jump (JumpFalse len) ≡ old ++ statement_code coder (length old) s
  if_code old mid next all s c inner jump len is mid_is jump_is next_is all_is len_is =
      let from = length old + coder.size c + 1 in
      let past = from + code_size coder inner in
      let codes = block_code coder (length next) inner in
      let a = ap length mid_is ∙ length-append old (coder.code c) in
      let b = ap length next_is ∙ length-append mid (JumpFalse 0 ∷ []) in
      let d = ap length all_is ∙ length-append next codes in
      let here = sized c in
      let block_is = block_sized coder sized (length next) inner in
      let from_is : length next ≡ from = omega (arith, a, b, here) in
      let past_is : len ≡ past = omega (arith, d, len_is, from_is, block_is) in
      let parts : all ≡ mid ++ (JumpFalse 0 ∷ codes) = all_is ∙ ap (λ xs. xs ++ codes) next_is ∙ append_assoc mid (JumpFalse 0 ∷ []) codes in
      ap (λ xs. slice_set xs jump (JumpFalse len)) parts ∙ ap (λ k. slice_set (mid ++ (JumpFalse 0 ∷ codes)) k (JumpFalse len)) jump_is
      ∙ set_front mid (JumpFalse 0) (JumpFalse len) codes
      ∙ ap (λ xs. xs ++ (JumpFalse len ∷ codes)) mid_is
      ∙ append_assoc old (coder.code c) (JumpFalse len ∷ codes)
      ∙ ap (λ k. old ++ (coder.code c ++ (JumpFalse k ∷ codes))) past_is
      ∙ ap (λ k. old ++ (coder.code c ++ (JumpFalse past ∷ block_code coder k inner))) from_is
      ∙ ap (λ xs. old ++ (coder.code c ++ (JumpFalse past ∷ xs))) (sym (append-nil (block_code coder from inner)))
      ∙ ap (λ x. old ++ statement_code coder (length old) x) (sym is)

  pub loop_room : (old now : List Op) (block : Block) (items : List (Statement Single CommandId StateId)) (i : ℕ) (item : Statement Single CommandId StateId) → block ≡ block_of items
      → i < length items → item ≡ get_or items i item → now ≡ old ++ block_code coder (length old) (block_of (take i items))
      → length old + code_size coder block < 2 ^ 16 → length now + statement_size coder item < 2 ^ 16
  loop_room old now block items i item block_is lt at now_is room =
      let rest = drop-cons items i item lt in
      let a = ap length now_is ∙ length-append old (block_code coder (length old) (block_of (take i items))) in
      let block_is_long = block_sized coder sized (length old) (block_of (take i items)) in
      let whole = ap (λ xs. code_size coder (block_of xs)) (split_at items i) ∙ of_size coder (take i items) (drop i items) in
      let tail = ap (λ xs. code_size coder (block_of xs)) rest ∙ then_size coder (get_or items i item) (block_of (drop (suc i) items)) in
      let same = ap (statement_size coder) at in
      let all = ap (code_size coder) block_is in
      omega (arith, a, block_is_long, whole, tail, same, all, room)

  pub loop_next : (old now next : List Op) (items : List (Statement Single CommandId StateId)) (i : ℕ) (item : Statement Single CommandId StateId)
      → i < length items → item ≡ get_or items i item → now ≡ old ++ block_code coder (length old) (block_of (take i items)) → next ≡ now ++ statement_code coder (length now) item
      → next ≡ old ++ block_code coder (length old) (block_of (take (i + 1) items))
  loop_next old now next items i item lt at now_is next_is =
      let front = take i items in
      let codes = block_code coder (length old) (block_of front) in
      let a = ap length now_is ∙ length-append old codes in
      let block_is_long = block_sized coder sized (length old) (block_of front) in
      let place : length now ≡ length old + code_size coder (block_of front) = omega (arith, a, block_is_long) in
      let more = take_more items i item lt ∙ ap (λ x. front ++ x ∷ []) (sym at) in
      next_is ∙ ap (λ xs. xs ++ statement_code coder (length now) item) now_is
      ∙ append_assoc old codes (statement_code coder (length now) item)
      ∙ ap (λ p. old ++ (codes ++ statement_code coder p item)) place
      ∙ ap (λ xs. old ++ xs) (sym (of_append coder (length old) front (item ∷ [])))
      ∙ ap (λ xs. old ++ block_code coder (length old) (block_of xs)) (sym more)

-- One more test that holds a body back.
held_last : (end : ℕ) (tests : List TestId) (test : TestId) → held_code end (tests ++ test ∷ []) ≡ held_code end tests ++ (Known test ∷ JumpFalse end ∷ [])
held_last end [] test = refl
held_last end (x ∷ tests) test = ap (λ l. Known x ∷ JumpFalse end ∷ l) (held_last end tests test)

pub held_next : (end : ℕ) (now one next : List Op) (tests : List TestId) (i : ℕ) (test : TestId) → i < length tests → test ≡ get_or tests i test → now ≡ held_code end (take i tests)
    → one ≡ now ++ Known test ∷ [] → next ≡ one ++ JumpFalse end ∷ [] → next ≡ held_code end (take (i + 1) tests)
held_next end now one next tests i test lt at now_is one_is next_is =
    let more = take_more tests i test lt ∙ ap (λ x. take i tests ++ x ∷ []) (sym at) in
    next_is ∙ ap (λ l. l ++ JumpFalse end ∷ []) one_is ∙ append_assoc now (Known test ∷ []) (JumpFalse end ∷ []) ∙ ap (λ l. l ++ (Known test ∷ JumpFalse end ∷ [])) now_is
    ∙ sym (held_last end (take i tests) test) ∙ ap (held_code end) (sym more)

-- The jumps over a body are set one by one.
held_set : (end : ℕ) (tests : List TestId) (i : ℕ) (rest : List Op) → i < length tests
    → slice_set (held_code end (take i tests) ++ (held_code 0 (drop i tests) ++ rest)) (2 * i + 1) (JumpFalse end) ≡ held_code end (take (suc i) tests) ++ (held_code 0 (drop (suc i) tests) ++ rest)
held_set end [] i rest lt = absurd (omega (arith, lt))
held_set end (test ∷ tests) zero rest lt = refl
held_set end (test ∷ tests) (suc i) rest lt =
    let next : 2 * suc i + 1 ≡ suc (suc (2 * i + 1)) = omega arith in
    let codes = held_code end (take i tests) ++ (held_code 0 (drop i tests) ++ rest) in
    ap (λ k. slice_set (Known test ∷ JumpFalse end ∷ codes) k (JumpFalse end)) next
    ∙ ap (λ l. Known test ∷ JumpFalse end ∷ l) (held_set end tests i rest (omega (arith, lt)))

pub set_next : (end : ℕ) (tests : List TestId) (i : ℕ) (rest now next : List Op) → i < length tests → now ≡ held_code end (take i tests) ++ (held_code 0 (drop i tests) ++ rest)
    → next ≡ slice_set now (2 * i + 1) (JumpFalse end) → next ≡ held_code end (take (i + 1) tests) ++ (held_code 0 (drop (i + 1) tests) ++ rest)
set_next end tests i rest now next lt now_is next_is =
    let one : suc i ≡ i + 1 = omega arith in
    next_is ∙ ap (λ l. slice_set l (2 * i + 1) (JumpFalse end)) now_is ∙ held_set end tests i rest lt
    ∙ ap (λ k. held_code end (take k tests) ++ (held_code 0 (drop k tests) ++ rest)) one

module _ (coder : Coder) (sized : (c : Condition) → length (coder.code c) ≡ coder.size c) where
  pub held_room : (now : List Op) (tests : List TestId) (i : ℕ) (body : Block) → length tests ≤ i → now ≡ held_code 0 (take i tests)
      → 2 * length tests + code_size coder body < 1024 → length now + code_size coder body < 2 ^ 16
  held_room now tests i body le now_is room =
      let all = ap length (now_is ∙ ap (held_code 0) (take_all i tests le)) in
      let long = held_sized 0 tests in
      omega (arith, all, long, room)

  -- The length of the code of a body before its `ret`.
  pub body_ends : (now one : List Op) (tests : List TestId) (i : ℕ) (body : Block) → length tests ≤ i → now ≡ held_code 0 (take i tests)
      → one ≡ now ++ block_code coder (length now) body → length one ≡ 2 * length tests + code_size coder body
  body_ends now one tests i body le now_is one_is =
      let all = ap length (now_is ∙ ap (held_code 0) (take_all i tests le)) in
      let long = held_sized 0 tests in
      let a = ap length one_is ∙ length-append now (block_code coder (length now) body) in
      let b = block_sized coder sized (length now) body in
      omega (arith, all, long, a, b)

  pub body_is : (now one two code : List Op) (tests : List TestId) (i : ℕ) (body : Block) → length tests ≤ i → now ≡ held_code 0 (take i tests)
      → one ≡ now ++ block_code coder (length now) body → ((rest : List Op) → one ≡ held_code 0 tests ++ rest → two ≡ held_code (length one) tests ++ rest) → code ≡ two ++ Ret ∷ []
      → code ≡ held_code (2 * length tests + code_size coder body) tests ++ (block_code coder (2 * length tests) body ++ Ret ∷ [])
  body_is now one two code tests i body le now_is one_is set code_is =
      let held : now ≡ held_code 0 tests = now_is ∙ ap (held_code 0) (take_all i tests le) in
      let long : length now ≡ 2 * length tests = ap length held ∙ held_sized 0 tests in
      let block = block_code coder (2 * length tests) body in
      let one_now : one ≡ held_code 0 tests ++ block = one_is ∙ ap (λ p. now ++ block_code coder p body) long ∙ ap (λ l. l ++ block) held in
      code_is ∙ ap (λ l. l ++ Ret ∷ []) (set block one_now) ∙ append_assoc (held_code (length one) tests) block (Ret ∷ [])
      ∙ ap (λ k. held_code k tests ++ (block ++ Ret ∷ [])) (body_ends now one tests i body le now_is one_is)

pub get_or_same : {T : Type 0} (xs : List T) (i : ℕ) (d e : T) → i < length xs → get_or xs i d ≡ get_or xs i e
get_or_same [] i d e lt = absurd (omega arith)
get_or_same (x ∷ xs) zero d e lt = refl
get_or_same (x ∷ xs) (suc i) d e lt = get_or_same xs i d e (omega arith)
