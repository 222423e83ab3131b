-- The listed tests of a tree are those that it mentions, and a body is held back exactly if one of them has no value.
use Rattle.std.proofs.Common.{◌≡◌, ◌↔◌, inl, inr, Bool, true, false, true≢false, []}
use Rattle.std.proofs.Common.{◌∷◌, ◌++◌, Contains, refl, sym, ap, subst, ◌∙◌, arith}
use Rattle.std.specs.Prelude.{if◌then◌else◌, IsTrue}
use Rattle.std.proofs.lemmas.List.Elements.{Contains-append_left, Contains-append_right}
use Rattle.std.proofs.lemmas.List.Elements.{Contains-append_cases, Contains-push_cases}
use Rattle.std.proofs.lemmas.List.Folds.{Any-from_list_any, list_any_at}
use Rattle.ifs_base.specs.Facts.{Facts}
use Rattle.ifs_base.specs.Effects.{Effects, nothing_yet}
use Rattle.ifs_base.specs.declared.ids.TestId.{TestId}
use Rattle.ifs_parse.specs.Trees.{Leaf, NotSo, And, Or, Done, RunThen, SetStateThen, IfThen}
use Rattle.ifs_policy.specs.declared.policy.Single.TheVariants.{LinkIs, TestIs}
use Rattle.ifs_policy.specs.Meaning.{Condition, Block, OccursIn, itself, negated, left_of_and, right_of_and, left_of_or}
use Rattle.ifs_policy.specs.Meaning.{right_of_or, Mentions, asked, inside, behind_if, behind_run, behind_set_state}
use Rattle.ifs_policy.specs.Meaning.{mentioned_in, mentioned, reached, is_open, IsHeld, is_held, body_yield}

none_there : {X : Type 0} (x : X) → Contains [] x → ⊥
none_there x h = let below = h.1 in omega (arith, below)

alone : {X : Type 0} (y x : X) → Contains (y ∷ []) x → y ≡ x
alone y x h = elim (Contains-push_cases [] y x h) [ inl before ↦ absurd (none_there x before) | inr here ↦ here ]

-- The tests in a condition.
occurs : (test : TestId) (condition : Condition) → Contains (mentioned_in condition) test → OccursIn test condition
occurs test (Leaf (LinkIs interface state)) h = absurd (none_there test h)
occurs test (Leaf (TestIs other)) h = subst (λ t. OccursIn test (Leaf (TestIs t))) (sym (alone other test h)) itself
occurs test (NotSo operand) h = negated operand (occurs test operand h)
occurs test (And left right) h =
    elim (Contains-append_cases (mentioned_in left) (mentioned_in right) test h) [
      | inl here ↦ left_of_and left right (occurs test left here)
      | inr there ↦ right_of_and left right (occurs test right there)
    ]
occurs test (Or left right) h =
    elim (Contains-append_cases (mentioned_in left) (mentioned_in right) test h) [
      | inl here ↦ left_of_or left right (occurs test left here)
      | inr there ↦ right_of_or left right (occurs test right there)
    ]

pub found_in : (test : TestId) (condition : Condition) → OccursIn test condition → Contains (mentioned_in condition) test
found_in test _ itself = (0, omega arith, refl)
found_in test _ (negated operand h) = found_in test operand h
found_in test _ (left_of_and left right h) = Contains-append_left (mentioned_in left) (mentioned_in right) test (found_in test left h)
found_in test _ (right_of_and left right h) = Contains-append_right (mentioned_in left) (mentioned_in right) test (found_in test right h)
found_in test _ (left_of_or left right h) = Contains-append_left (mentioned_in left) (mentioned_in right) test (found_in test left h)
found_in test _ (right_of_or left right h) = Contains-append_right (mentioned_in left) (mentioned_in right) test (found_in test right h)

-- The tests in a block.
mentions_in : (test : TestId) (block : Block) → Contains (mentioned block) test → Mentions test block
mentions_in test Done h = absurd (none_there test h)
mentions_in test (RunThen command rest) h = behind_run command rest (mentions_in test rest h)
mentions_in test (SetStateThen state rest) h = behind_set_state state rest (mentions_in test rest h)
mentions_in test (IfThen condition inner rest) h =
    elim (Contains-append_cases (mentioned_in condition) (mentioned inner ++ mentioned rest) test h) [
      | inl here ↦ asked condition inner rest (occurs test condition here)
      | inr there ↦
          elim (Contains-append_cases (mentioned inner) (mentioned rest) test there) [
            | inl under ↦ inside condition inner rest (mentions_in test inner under)
            | inr later ↦ behind_if condition inner rest (mentions_in test rest later)
          ]
    ]

found : (test : TestId) (block : Block) → Mentions test block → Contains (mentioned block) test
found test _ (asked condition inner rest h) = Contains-append_left (mentioned_in condition) (mentioned inner ++ mentioned rest) test (found_in test condition h)
found test _ (inside condition inner rest h) =
    Contains-append_right (mentioned_in condition) (mentioned inner ++ mentioned rest) test (Contains-append_left (mentioned inner) (mentioned rest) test (found test inner h))
found test _ (behind_if condition inner rest h) =
    Contains-append_right (mentioned_in condition) (mentioned inner ++ mentioned rest) test (Contains-append_right (mentioned inner) (mentioned rest) test (found test rest h))
found test _ (behind_run command rest h) = found test rest h
found test _ (behind_set_state state rest h) = found test rest h

pub mentioned_are_mentions : (block : Block) (test : TestId) → Contains (mentioned block) test ↔ Mentions test block
mentioned_are_mentions block test = (mentions_in test block, found test block)

-- A body is held back.
pub held_exactly : (facts : Facts) (body : Block) → IsTrue (is_held facts body) ↔ IsHeld facts body
held_exactly facts body = (
  (λ h. let a = Any-from_list_any (is_open facts) (mentioned body) h in record { test = a.1; mentions = mentions_in a.1 body (a.0, a.2, a.3); no_value = a.4 }),
  (λ h. let c = found h.test body h.mentions in list_any_at (is_open facts) (mentioned body) c.0 h.test c.1 (ap (is_open facts) c.2 ∙ h.no_value)),
)

yield_by : (b : Bool) (more : Effects) → b ≡ true → (if b then nothing_yet else more) ≡ nothing_yet
yield_by true more h = refl
yield_by false more h = absurd (true≢false (sym h))

yield_by_not : (b : Bool) (more : Effects) → ¬ (b ≡ true) → (if b then nothing_yet else more) ≡ more
yield_by_not true more h = absurd (h refl)
yield_by_not false more h = refl

pub held_yields : (facts : Facts) (body : Block) → IsHeld facts body → body_yield facts body ≡ nothing_yet
held_yields facts body h = yield_by (is_held facts body) (reached facts body) ((held_exactly facts body).1 h)

pub free_yields : (facts : Facts) (body : Block) → ¬ IsHeld facts body → body_yield facts body ≡ reached facts body
free_yields facts body h = yield_by_not (is_held facts body) (reached facts body) (λ b. h ((held_exactly facts body).0 b))
