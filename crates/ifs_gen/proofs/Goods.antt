-- The routines of a policy's image are good: those of shared conditions, then those of its parts.
use Rattle.std.proofs.Common.{◌≡◌, ℕ, zero, suc, ◌+◌, ◌*◌, ◌<◌, ◌≤◌, List, [], ◌∷◌, ◌++◌, length, map}
use Rattle.std.proofs.Common.{Some, refl, sym, ap, ◌∙◌, subst, arith}
use Rattle.std.specs.Prelude.{slice_get, All}
use Rattle.std.specs.List.{AllByRecursion}
use Rattle.std.proofs.lemmas.List.Elements.{All-head, All-tail}
use Rattle.std.proofs.lemmas.Option.{none-some, same_Some}
use Rattle.ifs_base.specs.Spelling.{IsReadBack}
use Rattle.ifs_base.specs.declared.ids.RoutineId.{RoutineId}
use Rattle.ifs_base.specs.declared.op.Op.{Op}
use Rattle.ifs_base.specs.declared.op.Op.TheVariants.{Ret, Negate, Both, Either, Call}
use Rattle.ifs_image.specs.declared.parts.Routine.{Routine}
use Rattle.ifs_image.specs.declared.parts.ImageParts.{ImageParts}
use Rattle.ifs_gen.specs.Trees.{LinkIs, TestIs, Condition, Leaf, NotSo, And, Or, Block, Done, RunThen, SetStateThen, IfThen, Part}
use Rattle.ifs_gen.specs.PlainCode.{Coder, plain_coder, condition_code, body_code, init_code, block_height}
use Rattle.ifs_gen.specs.PlainSizes.{greatest, part_height}
use Rattle.ifs_gen.specs.PolicyImage.{routine_of_code, routines_of, shared_routine}
use Rattle.ifs_gen.specs.Sharing.{shared_coder}
use Rattle.ifs_policy.specs.Fits.{BlockFits, HandlersFit}
use Rattle.ifs_gen.specs.Runs.{image_sizes, HasShared}
use Rattle.ifs_gen.proofs.Fine.{Callees, IsGood}
use Rattle.ifs_policy.proofs.Lists.{each_both}
use Rattle.ifs_gen.proofs.Among.{each_at}
use Rattle.ifs_gen.proofs.StackHeights.{tall, tall_is, IsConditionCode, IsLow}
use Rattle.ifs_gen.proofs.GoodRoutines.{EachGood, heights_in}
use Rattle.ifs_gen.proofs.Typed.Blocks.{IsTypedCoder}
use Rattle.ifs_gen.proofs.CalledTypes.{MayBeCalled, shared_typed}
use Rattle.ifs_gen.proofs.GoodCode.{shared_good, init_good, body_good}

-- The code of a condition has no call, with or without its `ret`.
abbrev IsNoCall : Op → Type 0
IsNoCall op = (callee : RoutineId) → op ≡ Call callee → ⊥

code_quiet : (c : Condition) → AllByRecursion IsNoCall (condition_code c)
code_quiet (Leaf (LinkIs n s)) = (λ callee e. cc, tt)
code_quiet (Leaf (TestIs n)) = (λ callee e. cc, tt)
code_quiet (NotSo c) = each_both IsNoCall (condition_code c) (Negate ∷ []) (code_quiet c) (λ callee e. cc, tt)
code_quiet (And a b) = each_both IsNoCall (condition_code a) (condition_code b ++ Both ∷ []) (code_quiet a) (each_both IsNoCall (condition_code b) (Both ∷ []) (code_quiet b) (λ callee e. cc, tt))
code_quiet (Or a b) = each_both IsNoCall (condition_code a) (condition_code b ++ Either ∷ []) (code_quiet a) (each_both IsNoCall (condition_code b) (Either ∷ []) (code_quiet b) (λ callee e. cc, tt))

pub shared_quiet : (c : Condition) (place : ℕ) (callee : RoutineId) → slice_get (condition_code c ++ Ret ∷ []) place ≡ Some (Call callee) → ⊥
shared_quiet c place callee e =
    each_at IsNoCall (condition_code c ++ Ret ∷ []) place (Call callee) (each_both IsNoCall (condition_code c) (Ret ∷ []) (code_quiet c) (λ callee e. cc, tt)) e callee refl

-- Calls do not change the height of a block, since they are made on an empty stack.
pub height_same : (table : List (List Op)) (block : Block) → block_height (shared_coder table) block ≡ block_height plain_coder block
height_same table Done = refl
height_same table (RunThen n rest) = let h = height_same table rest in omega (arith, h)
height_same table (SetStateThen n rest) = let h = height_same table rest in omega (arith, h)
height_same table (IfThen c inner rest) = let h = height_same table inner in let g = height_same table rest in omega (arith, h, g)

module _ (image : ImageParts) (callees : Callees) where
  -- A routine is good and has this height.
  abbrev Good : Routine → ℕ → Type 0
  Good r height = (good : IsGood image callees r) × (good.height ≡ height)

  -- Two lists of good routines in sequence.
  abbrev pub good_append : (xs ys : List Routine) → EachGood image callees xs → EachGood image callees ys → EachGood image callees (xs ++ ys)
  good_append [] ys one two = two
  good_append (x ∷ xs) ys one two = (one.0, good_append xs ys one.1 two)

  pub heights_right : (xs ys : List Routine) (one : EachGood image callees xs) (two : EachGood image callees ys) (i : ℕ)
      → heights_in image callees (xs ++ ys) (good_append xs ys one two) (length xs + i) ≡ heights_in image callees ys two i
  heights_right [] ys one two i = let same : 0 + i ≡ i = omega arith in ap (heights_in image callees ys two) same
  heights_right (x ∷ xs) ys one two i =
      let same : suc (length xs) + i ≡ suc (length xs + i) = omega arith in
      ap (heights_in image callees (x ∷ (xs ++ ys)) (good_append (x ∷ xs) ys one two)) same ∙ heights_right xs ys one.1 two i

  pub heights_left : (xs ys : List Routine) (one : EachGood image callees xs) (two : EachGood image callees ys) (i : ℕ) → i < length xs
      → heights_in image callees (xs ++ ys) (good_append xs ys one two) i ≡ heights_in image callees xs one i
  heights_left [] ys one two i lt = absurd (omega (arith, lt))
  heights_left (x ∷ xs) ys one two zero lt = refl
  heights_left (x ∷ xs) ys one two (suc i) lt = heights_left xs ys one.1 two i (omega (arith, lt))

  -- The routine of a shared code is good, and has the height of the code.
  pub shared_is_good : (code : List Op) → IsConditionCode (image_sizes image) code → Good (shared_routine code) (tall code)
  shared_is_good code own =
      let good = shared_good image callees own.condition own.fits in
      subst (λ code. Good (shared_routine code) (tall code)) own.is (good.0, good.1 ∙ sym (tall_is own.condition))

  abbrev pub each_shared_good : (codes : List (List Op)) → AllByRecursion (IsConditionCode (image_sizes image)) codes → EachGood image callees (map shared_routine codes)
  each_shared_good [] own = tt
  each_shared_good (code ∷ codes) own = ((shared_is_good code own.0).0, each_shared_good codes own.1)

  -- The heights of these routines.
  pub shared_height : (codes : List (List Op)) (own : AllByRecursion (IsConditionCode (image_sizes image)) codes) (k : ℕ) (code : List Op) → slice_get codes k ≡ Some code
      → heights_in image callees (map shared_routine codes) (each_shared_good codes own) k ≡ tall code
  shared_height [] own k code e = absurd (none-some code e)
  shared_height (x ∷ codes) own zero code e = (shared_is_good x own.0).1 ∙ ap tall (same_Some x code e)
  shared_height (x ∷ codes) own (suc k) code e = shared_height codes own.1 k code e

  pub shared_low : (n : ℕ) (codes : List (List Op)) (own : AllByRecursion (IsConditionCode (image_sizes image)) codes) → AllByRecursion (IsLow n) codes → (k : ℕ)
      → heights_in image callees (map shared_routine codes) (each_shared_good codes own) k ≤ n
  shared_low n [] own low k = omega arith
  shared_low n (x ∷ codes) own low zero = let e = (shared_is_good x own.0).1 in let h = low.0 in omega (arith, e, h)
  shared_low n (x ∷ codes) own low (suc k) = shared_low n codes own.1 low.1 k

  module _ (table : List (List Op)) (shared : HasShared image table) (back : IsReadBack) (may : MayBeCalled callees table) (count : ℕ) (same : length image.tests ≡ count) where
    abbrev coder : Coder
    coder = shared_coder table

    typed : IsTypedCoder image callees coder
    typed = shared_typed image callees table shared back may

    -- Each routine of a part is good, and no higher than the parts.
    pub init_is_good : (block : Block) → BlockFits (image_sizes image) block → Good (routine_of_code (init_code coder block)) (block_height plain_coder block)
    init_is_good block fits = let good = init_good image callees coder typed block fits in (good.0, good.1 ∙ height_same table block)

    pub body_is_good : (block : Block) → BlockFits (image_sizes image) block → Good (routine_of_code (body_code coder count block)) (block_height plain_coder block)
    body_is_good block fits =
        let good = body_good image callees coder typed block fits in
        subst (λ n. Good (routine_of_code (body_code coder n block)) (block_height plain_coder block)) same (good.0, good.1 ∙ height_same table block)

    abbrev pub each_good : (parts : List Part) → All (HandlersFit (image_sizes image)) parts → EachGood image callees (routines_of coder count parts)
    each_good [] fits = tt
    each_good (x ∷ parts) fits =
        let head = All-head (HandlersFit (image_sizes image)) x parts fits in
        ((init_is_good x.init head.init).0, ((body_is_good x.body head.body).0, each_good parts (All-tail (HandlersFit (image_sizes image)) x parts fits)))

    pub heights_within : (parts : List Part) (fits : All (HandlersFit (image_sizes image)) parts) (i : ℕ) → heights_in image callees (routines_of coder count parts) (each_good parts fits) i ≤ greatest part_height parts
    heights_within [] fits i = omega arith
    heights_within (x ∷ parts) fits zero =
        let e = (init_is_good x.init (All-head (HandlersFit (image_sizes image)) x parts fits).init).1 in omega (arith, e)
    heights_within (x ∷ parts) fits (suc zero) =
        let e = (body_is_good x.body (All-head (HandlersFit (image_sizes image)) x parts fits).body).1 in omega (arith, e)
    heights_within (x ∷ parts) fits (suc (suc i)) =
        let h = heights_within parts (All-tail (HandlersFit (image_sizes image)) x parts fits) i in omega (arith, h)

    -- The heights of part k.
    pub init_height : (parts : List Part) (fits : All (HandlersFit (image_sizes image)) parts) (k : ℕ) (part : Part) → slice_get parts k ≡ Some part
        → heights_in image callees (routines_of coder count parts) (each_good parts fits) (2 * k) ≡ block_height plain_coder part.init
    init_height [] fits k part e = absurd (none-some part e)
    init_height (x ∷ parts) fits zero part e =
        (init_is_good x.init (All-head (HandlersFit (image_sizes image)) x parts fits).init).1 ∙ ap (λ (p : Part). block_height plain_coder p.init) (same_Some x part e)
    init_height (x ∷ parts) fits (suc k) part e =
        let two : 2 * suc k ≡ suc (suc (2 * k)) = omega arith in
        ap (heights_in image callees (routines_of coder count (x ∷ parts)) (each_good (x ∷ parts) fits)) two ∙ init_height parts (All-tail (HandlersFit (image_sizes image)) x parts fits) k part e

    pub body_height : (parts : List Part) (fits : All (HandlersFit (image_sizes image)) parts) (k : ℕ) (part : Part) → slice_get parts k ≡ Some part
        → heights_in image callees (routines_of coder count parts) (each_good parts fits) (2 * k + 1) ≡ block_height plain_coder part.body
    body_height [] fits k part e = absurd (none-some part e)
    body_height (x ∷ parts) fits zero part e =
        (body_is_good x.body (All-head (HandlersFit (image_sizes image)) x parts fits).body).1 ∙ ap (λ (p : Part). block_height plain_coder p.body) (same_Some x part e)
    body_height (x ∷ parts) fits (suc k) part e =
        let two : 2 * suc k + 1 ≡ suc (suc (2 * k + 1)) = omega arith in
        ap (heights_in image callees (routines_of coder count (x ∷ parts)) (each_good (x ∷ parts) fits)) two ∙ body_height parts (All-tail (HandlersFit (image_sizes image)) x parts fits) k part e
