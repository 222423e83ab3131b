-- The kinds at each place of the plain code of conditions, and of the tests that hold a body back. With them the code is fine.
use Rattle.std.proofs.Common.{◌≡◌, ℕ, suc, ◌+◌, ◌*◌, ◌<◌, ◌≤◌, inl, ⊎_elim, List, [], ◌∷◌, ◌++◌}
use Rattle.std.proofs.Common.{length, max, Some, None, refl, sym, ap, ◌∙◌, subst, arith, length-append}
use Rattle.std.proofs.lemmas.Option.{none-some, same_Some}
use Rattle.ifs_base.specs.declared.ids.TestId.{TestId}
use Rattle.ifs_base.specs.declared.op.Kind.{Kind}
use Rattle.ifs_base.specs.declared.op.Kind.TheVariants.{Truth}
use Rattle.ifs_base.specs.declared.op.Op.{Op}
use Rattle.ifs_base.specs.declared.op.Op.TheVariants.{Link, Test, Known, Negate, Both, Either}
use Rattle.ifs_base.specs.declared.op.Op.TheVariants.{JumpFalse, Call}
use Rattle.ifs_image.specs.declared.parts.ImageParts.{ImageParts}
use Rattle.ifs_image.specs.Code.{IsSuccessor, target_of, effect}
use Rattle.ifs_verify.specs.Rules.{HasOperand}
use Rattle.ifs_base.specs.declared.ids.RoutineId.{RoutineId}
use Rattle.ifs_gen.specs.Trees.{LinkIs, TestIs, Condition, Leaf, NotSo, And, Or}
use Rattle.ifs_parse.specs.Trees.{condition_size}
use Rattle.ifs_gen.specs.PlainCode.{condition_code, condition_height}
use Rattle.ifs_gen.specs.PlainCode.{held_code}
use Rattle.ifs_policy.specs.Fits.{ConditionFits}
use Rattle.ifs_gen.specs.Runs.{image_sizes}
use Rattle.ifs_gen.proofs.Simulation.{condition_sized, condition_high}
use Rattle.ifs_gen.proofs.Mentions.{EachBelow, HasRoomFor, room_any}
use Rattle.ifs_gen.proofs.Fine.{Callees, IsFine, AreFine, fine_append}

-- The kinds at each place of a condition's code, above these kinds.
abbrev pub condition_kinds : List Kind → Condition → List (List Kind)
condition_kinds below (Leaf single) = below ∷ []
condition_kinds below (NotSo c) = condition_kinds below c ++ (Truth ∷ below) ∷ []
condition_kinds below (And a b) = condition_kinds below a ++ (condition_kinds (Truth ∷ below) b ++ (Truth ∷ Truth ∷ below) ∷ [])
condition_kinds below (Or a b) = condition_kinds below a ++ (condition_kinds (Truth ∷ below) b ++ (Truth ∷ Truth ∷ below) ∷ [])

-- The kinds at each place of the tests that hold a body back.
abbrev pub held_kinds : List TestId → List (List Kind)
held_kinds [] = []
held_kinds (test ∷ tests) = [] ∷ (Truth ∷ []) ∷ held_kinds tests

joined_sized : (below : List Kind) (xs ys : List (List Kind)) (m n : ℕ) → length xs ≡ m → length ys ≡ n → length (xs ++ (ys ++ (Truth ∷ Truth ∷ below) ∷ [])) ≡ m + n + 1
joined_sized below xs ys m n e f =
    let g = length-append xs (ys ++ (Truth ∷ Truth ∷ below) ∷ []) in
    let h = length-append ys ((Truth ∷ Truth ∷ below) ∷ []) in
    omega (arith, e, f, g, h)

pub kinds_sized : (below : List Kind) (c : Condition) → length (condition_kinds below c) ≡ condition_size c
kinds_sized below (Leaf single) = refl
kinds_sized below (NotSo c) = length-append (condition_kinds below c) ((Truth ∷ below) ∷ []) ∙ ap (λ n. n + 1) (kinds_sized below c)
kinds_sized below (And a b) = joined_sized below (condition_kinds below a) (condition_kinds (Truth ∷ below) b) _ _ (kinds_sized below a) (kinds_sized (Truth ∷ below) b)
kinds_sized below (Or a b) = joined_sized below (condition_kinds below a) (condition_kinds (Truth ∷ below) b) _ _ (kinds_sized below a) (kinds_sized (Truth ∷ below) b)

pub held_kinds_sized : (tests : List TestId) → length (held_kinds tests) ≡ 2 * length tests
held_kinds_sized [] = refl
held_kinds_sized (test ∷ tests) = let e = held_kinds_sized tests in omega (arith, e)

module _ (kinds : ℕ → List Kind) where
  -- The places from this one on have these kinds.
  abbrev pub HasKinds : ℕ → List (List Kind) → Type 0
  HasKinds place [] = Unit {0}
  HasKinds place (k ∷ ks) = (kinds place ≡ k) × HasKinds (place + 1) ks

  pub kinds_left : (place : ℕ) (xs ys : List (List Kind)) → HasKinds place (xs ++ ys) → HasKinds place xs
  kinds_left place [] ys h = tt
  kinds_left place (x ∷ xs) ys h = (h.0, kinds_left (place + 1) xs ys h.1)

  pub kinds_right : (place : ℕ) (xs ys : List (List Kind)) (from : ℕ) → place + length xs ≡ from → HasKinds place (xs ++ ys) → HasKinds from ys
  kinds_right place [] ys from e h = let same : place ≡ from = omega (arith, e) in subst (λ p. HasKinds p ys) same h
  kinds_right place (x ∷ xs) ys from e h = kinds_right (place + 1) xs ys from (omega (arith, e)) h.1

  pub condition_starts : (c : Condition) (place : ℕ) (below : List Kind) → HasKinds place (condition_kinds below c) → kinds place ≡ below
  condition_starts (Leaf single) place below h = h.0
  condition_starts (NotSo c) place below h = condition_starts c place below (kinds_left place (condition_kinds below c) ((Truth ∷ below) ∷ []) h)
  condition_starts (And a b) place below h = condition_starts a place below (kinds_left place (condition_kinds below a) (condition_kinds (Truth ∷ below) b ++ (Truth ∷ Truth ∷ below) ∷ []) h)
  condition_starts (Or a b) place below h = condition_starts a place below (kinds_left place (condition_kinds below a) (condition_kinds (Truth ∷ below) b ++ (Truth ∷ Truth ∷ below) ∷ []) h)

  -- The kinds of two operands and their sign, from a place on.
  record HasJoined (a b : Condition) (place : ℕ) (below : List Kind) : Type 0 where
    left : HasKinds place (condition_kinds below a)
    left_end : kinds (place + condition_size a) ≡ Truth ∷ below
    right : HasKinds (place + condition_size a) (condition_kinds (Truth ∷ below) b)
    right_end : kinds (place + condition_size a + condition_size b) ≡ Truth ∷ Truth ∷ below

  has_joined : (a b : Condition) (place : ℕ) (below : List Kind) → HasKinds place (condition_kinds below a ++ (condition_kinds (Truth ∷ below) b ++ (Truth ∷ Truth ∷ below) ∷ []))
      → HasJoined a b place below
  has_joined a b place below has =
      let ka = condition_kinds below a in
      let kb = condition_kinds (Truth ∷ below) b in
      let last = (Truth ∷ Truth ∷ below) ∷ [] in
      let at = place + condition_size a in
      let rest = kinds_right place ka (kb ++ last) at (ap (λ n. place + n) (kinds_sized below a)) has in
      let right = kinds_left at kb last rest in
      record {
        left = kinds_left place ka (kb ++ last) has;
        left_end = condition_starts b at (Truth ∷ below) right;
        right = right;
        right_end = (kinds_right at kb last (at + condition_size b) (ap (λ n. at + n) (kinds_sized (Truth ∷ below) b)) rest).0;
      }

module _ (image : ImageParts) (callees : Callees) (kinds : ℕ → List Kind) (height end : ℕ) where
  -- An instruction whose only successor is the next place is fine.
  pub falls_on : (place : ℕ) (op : Op) (before after : List Kind) → HasOperand image op → kinds place ≡ before → kinds (place + 1) ≡ after → effect image op before ≡ Some after
      → ((to : ℕ) → IsSuccessor op place to → to ≡ place + 1) → target_of op ≡ None → IsSuccessor op place (place + 1) → ((callee : RoutineId) → op ≡ Call callee → (callee.0 < callees.count) × (length before + callees.height callee.0 ≤ height))
      → length before ≤ height → length after ≤ height → IsFine image callees kinds height end place op
  falls_on place op before after known at next e alone none falls call low high =
      let low_is = ap length at in
      record {
        operand = known;
        after = after;
        effect_is = ap (λ ks. effect image op ks) at ∙ e;
        onward = λ to successor. ap kinds (alone to successor) ∙ next;
        jumps = λ target t. absurd (none-some target (sym none ∙ t));
        falls = falls;
        call = λ callee e. let c = call callee e in let low = c.1 in (c.0, omega (arith, low, low_is));
        low = omega (arith, low_is, low);
        high = high;
      }

  -- A jump on a truth to a later place with an empty stack is fine.
  pub jumps_on : (place target : ℕ) → kinds place ≡ Truth ∷ [] → kinds (place + 1) ≡ [] → kinds target ≡ [] → place < target → target ≤ end → 1 ≤ height
      → IsFine image callees kinds height end place (JumpFalse target)
  jumps_on place target at next there later within room =
      let low_is = ap length at in
      record {
        operand = tt;
        after = [];
        effect_is = ap (λ ks. effect image (JumpFalse target) ks) at;
        onward = λ to successor. ⊎_elim (λ e. ap kinds e ∙ next) (λ e. ap kinds e ∙ there) successor;
        jumps = λ other t. let same = same_Some target other t in (omega (arith, same, later), omega (arith, same, within));
        falls = inl refl;
        call = λ callee e. cc;
        low = omega (arith, low_is, room);
        high = omega arith;
      }

  -- The code of a condition is fine.
  abbrev Fine : Condition → Type 0
  Fine c = (place : ℕ) (below : List Kind) → HasKinds kinds place (condition_kinds below c) → kinds (place + condition_size c) ≡ Truth ∷ below
      → ConditionFits (image_sizes image) c → condition_height c + length below ≤ height → AreFine image callees kinds height end place (condition_code c)

  -- So is that of two operands and their sign.
  joined_fine : (a b : Condition) (op : Op) (place : ℕ) (below : List Kind) → Fine a → Fine b
      → ((at : ℕ) → kinds at ≡ Truth ∷ Truth ∷ below → kinds (at + 1) ≡ Truth ∷ below → suc (suc (length below)) ≤ height → suc (length below) ≤ height
      → IsFine image callees kinds height end at op)
      → HasKinds kinds place (condition_kinds below a ++ (condition_kinds (Truth ∷ below) b ++ (Truth ∷ Truth ∷ below) ∷ [])) → kinds (place + (condition_size a + condition_size b + 1)) ≡ Truth ∷ below
      → ConditionFits (image_sizes image) a × ConditionFits (image_sizes image) b → max (condition_height a) (condition_height b + 1) + length below ≤ height
      → AreFine image callees kinds height end place (condition_code a ++ (condition_code b ++ op ∷ []))
  joined_fine a b op place below fine_a fine_b fine_op has next fits room =
      let j = has_joined kinds a b place below has in
      let high = condition_high b in
      let at = place + condition_size a in
      let same : place + (condition_size a + condition_size b + 1) ≡ place + condition_size a + condition_size b + 1 = omega arith in
      let first = fine_a place below j.left j.left_end fits.0 (omega (arith, room)) in
      let second = fine_b at (Truth ∷ below) j.right j.right_end fits.1 (omega (arith, room)) in
      let last = fine_op (at + condition_size b) j.right_end (sym (ap kinds same) ∙ next) (omega (arith, room, high)) (omega (arith, room, high)) in
      fine_append image callees kinds height end place (condition_code a) (condition_code b ++ op ∷ []) at (ap (λ n. place + n) (condition_sized a)) first
      (fine_append image callees kinds height end at (condition_code b) (op ∷ []) (at + condition_size b) (ap (λ n. at + n) (condition_sized b)) second (last, tt))

  pub condition_fine : (c : Condition) (place : ℕ) (below : List Kind) → HasKinds kinds place (condition_kinds below c) → kinds (place + condition_size c) ≡ Truth ∷ below
      → ConditionFits (image_sizes image) c → condition_height c + length below ≤ height → AreFine image callees kinds height end place (condition_code c)
  condition_fine (Leaf (LinkIs n s)) place below has next fits room =
      (falls_on place (Link n s) below (Truth ∷ below) fits has.0 next refl (λ to e. e) refl refl (λ callee e. cc) (omega (arith, room)) (omega (arith, room)), tt)
  condition_fine (Leaf (TestIs n)) place below has next fits room =
      (falls_on place (Test n) below (Truth ∷ below) fits has.0 next refl (λ to e. e) refl refl (λ callee e. cc) (omega (arith, room)) (omega (arith, room)), tt)
  condition_fine (NotSo c) place below has next fits room =
      let high = condition_high c in
      let mid = kinds_right kinds place (condition_kinds below c) ((Truth ∷ below) ∷ []) (place + condition_size c) (ap (λ n. place + n) (kinds_sized below c)) has in
      let same : place + (condition_size c + 1) ≡ place + condition_size c + 1 = omega arith in
      let inner = condition_fine c place below (kinds_left kinds place (condition_kinds below c) ((Truth ∷ below) ∷ []) has) mid.0 fits room in
      fine_append image callees kinds height end place (condition_code c) (Negate ∷ []) (place + condition_size c) (ap (λ n. place + n) (condition_sized c)) inner
      (falls_on (place + condition_size c) Negate (Truth ∷ below) (Truth ∷ below) tt mid.0 (sym (ap kinds same) ∙ next) refl (λ to e. e) refl refl (λ callee e. cc) (omega (arith, room, high)) (omega (arith, room, high)), tt)
  condition_fine (And a b) place below has next fits room =
      joined_fine a b Both place below (condition_fine a) (condition_fine b)
      (λ at here to low high. falls_on at Both (Truth ∷ Truth ∷ below) (Truth ∷ below) tt here to refl (λ to e. e) refl refl (λ callee e. cc) low high) has next fits room
  condition_fine (Or a b) place below has next fits room =
      joined_fine a b Either place below (condition_fine a) (condition_fine b)
      (λ at here to low high. falls_on at Either (Truth ∷ Truth ∷ below) (Truth ∷ below) tt here to refl (λ to e. e) refl refl (λ callee e. cc) low high) has next fits room

  pub held_starts : (tests : List TestId) (place : ℕ) → HasKinds kinds place (held_kinds tests) → kinds (place + 2 * length tests) ≡ [] → kinds place ≡ []
  held_starts [] place has next = let same : place + 2 * 0 ≡ place = omega arith in sym (ap kinds same) ∙ next
  held_starts (test ∷ tests) place has next = has.0

  -- The tests that hold a body back, with jumps to a later end, are fine.
  pub held_fine : (tests : List TestId) (place target : ℕ) → HasKinds kinds place (held_kinds tests) → kinds (place + 2 * length tests) ≡ [] → kinds target ≡ []
      → EachBelow (length image.tests) tests → HasRoomFor height tests → place + 2 * length tests ≤ target → target ≤ end → AreFine image callees kinds height end place (held_code target tests)
  held_fine [] place target has next there below room before within = tt
  held_fine (test ∷ tests) place target has next there below room before within =
      let far : place + 2 * suc (length tests) ≡ place + 2 + 2 * length tests = omega arith in
      let same : place + 2 ≡ place + 1 + 1 = omega arith in
      let last = sym (ap kinds far) ∙ next in
      let more = subst (λ p. HasKinds kinds p (held_kinds tests)) (sym same) has.1.1 in
      let starts = sym (ap kinds same) ∙ held_starts tests (place + 2) more last in (
        falls_on place (Known test) [] (Truth ∷ []) below.0 has.0 has.1.0 refl (λ to e. e) refl refl (λ callee e. cc) (omega arith) room,
        (
          jumps_on (place + 1) target has.1.0 starts there (omega (arith, before)) within room,
          subst (λ p. AreFine image callees kinds height end p (held_code target tests)) same
              (held_fine tests (place + 2) target more last there below.1 (room_any height tests room) (omega (arith, before)) within),
        ),
      )

  -- If no place exceeds a height, the tree does not.
  module _ (each : (place : ℕ) → place ≤ end → length (kinds place) ≤ height) where
    abbrev Low : Condition → Type 0
    Low c = (place : ℕ) (below : List Kind) → HasKinds kinds place (condition_kinds below c) → kinds (place + condition_size c) ≡ Truth ∷ below
        → place + condition_size c ≤ end → condition_height c + length below ≤ height

    joined_low : (a b : Condition) (place : ℕ) (below : List Kind) → Low a → Low b
        → HasKinds kinds place (condition_kinds below a ++ (condition_kinds (Truth ∷ below) b ++ (Truth ∷ Truth ∷ below) ∷ [])) → place + (condition_size a + condition_size b + 1) ≤ end
        → max (condition_height a) (condition_height b + 1) + length below ≤ height
    joined_low a b place below low_a low_b has within =
        let j = has_joined kinds a b place below has in
        let first = low_a place below j.left j.left_end (omega (arith, within)) in
        let second = low_b (place + condition_size a) (Truth ∷ below) j.right j.right_end (omega (arith, within)) in
        omega (arith, first, second)

    pub condition_low : (c : Condition) (place : ℕ) (below : List Kind) → HasKinds kinds place (condition_kinds below c) → kinds (place + condition_size c) ≡ Truth ∷ below
        → place + condition_size c ≤ end → condition_height c + length below ≤ height
    condition_low (Leaf single) place below has next within = let h = each (place + 1) within in let e = ap length next in omega (arith, h, e)
    condition_low (NotSo c) place below has next within =
        let mid = kinds_right kinds place (condition_kinds below c) ((Truth ∷ below) ∷ []) (place + condition_size c) (ap (λ n. place + n) (kinds_sized below c)) has in
        condition_low c place below (kinds_left kinds place (condition_kinds below c) ((Truth ∷ below) ∷ []) has) mid.0 (omega (arith, within))
    condition_low (And a b) place below has next within = joined_low a b place below (condition_low a) (condition_low b) has within
    condition_low (Or a b) place below has next within = joined_low a b place below (condition_low a) (condition_low b) has within
