-- What a search for a difference finds.
use Rattle.std.specs.Prelude.{ℕ, ◌≡◌, ◌≢◌, ◌<◌, ◌^◌, ◌⊎◌, ◌&&◌, ◌||◌, Bool, true, false, List, length, map, Option, Some, None, slice_get}
use Rattle.std.specs.Bool.{OnTrue, OnFalse}
use Rattle.std.specs.List.{list_any}
use Rattle.ifs_base.specs.Facts.{Facts}
use Rattle.ifs_base.specs.Effects.{Effects}
use Rattle.ifs_base.specs.declared.ids.StateId.{StateId}
use Rattle.ifs_gen.specs.Trees.{Part, Policy}
use Rattle.ifs_gen.specs.PlainSizes.{mask_of_part}
use Rattle.ifs_base.specs.declared.ids.CommandId.{CommandId}
use Rattle.ifs_parse.specs.Views.{block_of}
use Rattle.ifs_parse.specs.declared.block.Statement.{Statement}
use Rattle.ifs_policy.specs.declared.policy.Single.{Single}
use Rattle.ifs_policy.specs.Meaning.{Block, init_yield, body_yield, reached}
use Rattle.ifs_solver.specs.declared.verdicts.Verdict.{Verdict}
use Rattle.ifs_solver.specs.declared.verdicts.Verdict.TheVariants.{Known, Open}
use Rattle.ifs_solver.specs.declared.reaching.Handler.{Handler}
use Rattle.ifs_compare.specs.declared.searching.Held.{Held}
use Rattle.ifs_compare.specs.declared.searching.Held.TheVariants as held
use Rattle.ifs_policy.specs.declared.tables.Tables.{Tables}
use Rattle.ifs_solver.specs.declared.domains.Branch.{Branch}
use Rattle.ifs_solver.specs.declared.domains.Domain.{Domain}
use Rattle.ifs_solver.specs.declared.fact_sets.Scope.{Scope}
use Rattle.ifs_solver.specs.declared.fact_sets.FactSet.{FactSet as FactSetOfCode}
use Rattle.ifs_solver.specs.FactSets.{FactSet, Within, AreFactsOf, HasFacts, HasDomain, fact_set_of, with_domain}
use Rattle.ifs_solver.specs.Asking.{IsPart}
use Rattle.ifs_solver.specs.declared.reaching.Yielded.{Yielded}
use Rattle.ifs_compare.specs.declared.parts.PartAnswer.{PartAnswer}
use Rattle.ifs_compare.specs.declared.parts.StateAnswer.{StateAnswer}
use Rattle.ifs_compare.specs.declared.parts.StateAnswers.{StateAnswers}
use Rattle.ifs_compare.specs.declared.parts.Judged.{Judged}
use Rattle.ifs_compare.specs.declared.renumbering.Renumbered.{Renumbered}
use Rattle.ifs_compare.specs.declared.sides.Side.{Side}
use Rattle.ifs_compare.specs.declared.sides.Sides.{Sides}
use Rattle.ifs_compare.specs.declared.answering.Answer.{Answer}
use Rattle.ifs_compare.specs.declared.answering.Answer.TheVariants as answer
use Rattle.ifs_compare.specs.declared.effort.Effort.{Effort}
use Rattle.ifs_compare.specs.declared.looking.Look.{Look}
use Rattle.ifs_compare.specs.declared.looking.Look.TheVariants as look
use Rattle.ifs_compare.specs.declared.searching.Seen.{Seen}
use Rattle.ifs_compare.specs.declared.searching.Seen.TheVariants as seen
use Rattle.ifs_solver.specs.declared.searching.Extent.{Extent}
use Rattle.ifs_solver.specs.declared.searching.Extent.TheVariants.{Somewhere, Nowhere, Undecided}
use Rattle.ifs_solver.specs.Reaching.{effects_of, evaluation_yield, block_in, yield_by}
use Rattle.ifs_compare.specs.Renumbering.{HaveSameNames, state_number, renumbered_part, part_named, renumbered}
use Rattle.ifs_compare.specs.Spent.{IsReduced, IsUsedUp}
use Rattle.ifs_compare.specs.Differing.{Blocks, HaveOtherTests, AreApart, HandlersDiffer}
use Rattle.ifs_compare.specs.Alike.{ArePartsAlike, IsStateAlike, AreStatesAlike, AreAlike}

-- Two functions of facts agree on all facts within a range.
abbrev pub AgreeWithin : FactSet → (Facts → Effects) → (Facts → Effects) → Type 0
AgreeWithin range one other = (facts : Facts) → Within range facts → one facts ≡ other facts

-- They differ on all facts within a range.
abbrev pub DifferWithin : FactSet → (Facts → Effects) → (Facts → Effects) → Type 0
DifferWithin range one other = (facts : Facts) → Within range facts → one facts ≢ other facts

-- They differ on some facts within a range.
pub record DifferIn (range : FactSet) (one other : Facts → Effects) : Type 0 where
  pub facts : Facts
  pub within : Within range facts
  pub differ : one facts ≢ other facts

-- They agree on all facts.
abbrev pub AgreeAlways : (Facts → Effects) → (Facts → Effects) → Type 0
AgreeAlways one other = (facts : Facts) → one facts ≡ other facts

-- They agree on all facts of so many links and tests.
abbrev pub AgreeOn : Scope → (Facts → Effects) → (Facts → Effects) → Type 0
AgreeOn scope one other = (facts : Facts) → AreFactsOf scope facts → one facts ≡ other facts

-- Two of them agree on the facts within a range on which two others do.
abbrev pub AgreeWherever : FactSet → (Facts → Effects) → (Facts → Effects) → (Facts → Effects) → (Facts → Effects) → Type 0
AgreeWherever range part of_other one other = (facts : Facts) → Within range facts → part facts ≡ of_other facts → one facts ≡ other facts

-- What is seen of them without a split of the range.
abbrev pub IsLook : FactSet → (Facts → Effects) → (Facts → Effects) → Look → Type 0
IsLook range one other look.Same = AgreeWithin range one other
IsLook range one other look.Different = DifferWithin range one other
IsLook range one other (look.Apart ask) = HasDomain ask range
IsLook range one other (look.Open ask) = HasDomain ask range

-- If nothing is open in two yields, they are the same or differ as their effects do; what is open in one of them is open.
abbrev pub IsLookOf : Yielded → Yielded → Look → Type 0
IsLookOf old new look.Same = (old.pending ≡ None) × (new.pending ≡ None) × (effects_of old.reached ≡ effects_of new.reached)
IsLookOf old new look.Different = (old.pending ≡ None) × (new.pending ≡ None) × (effects_of old.reached ≢ effects_of new.reached)
IsLookOf old new (look.Apart ask) = (old.pending ≡ Some ask) ⊎ (new.pending ≡ Some ask)
IsLookOf old new (look.Open ask) = (old.pending ≡ Some ask) ⊎ (new.pending ≡ Some ask)

-- What is known of two functions within a range that has facts.
abbrev pub IsSeen : FactSet → (Facts → Effects) → (Facts → Effects) → Seen → Type 0
IsSeen range one other seen.Same = AgreeWithin range one other
IsSeen range one other seen.Different = DifferIn range one other
IsSeen range one other (seen.Open ask) = HasDomain ask range

-- The middles of two handlers decide whether their blocks reach the same.
abbrev pub HasMiddles : Handler → Handler → List (Statement Single CommandId StateId) → List (Statement Single CommandId StateId) → Type 0
HasMiddles old new part of_other = (facts : Facts) → reached facts (block_of part) ≡ reached facts (block_of of_other) → reached facts (block_in old) ≡ reached facts (block_in new)

-- What statements reach.
abbrev pub middle_yield : List (Statement Single CommandId StateId) → Facts → Effects
middle_yield statements facts = reached facts (block_of statements)

-- What is seen of the middles.
abbrev pub IsLookBetween : FactSet → List (Statement Single CommandId StateId) → List (Statement Single CommandId StateId) → Look → Type 0
IsLookBetween range part of_other it = IsLook range (middle_yield part) (middle_yield of_other) it

-- Two verdicts say this of whether bodies are held back.
abbrev pub IsHeldBy : Verdict → Verdict → Held → Type 0
IsHeldBy old new held.Both = (old ≡ Known true) × (new ≡ Known true)
IsHeldBy old new held.Neither = (old ≡ Known false) × (new ≡ Known false)
IsHeldBy old new held.One = Unit {0}
IsHeldBy old new (held.Open ask) = (old ≡ Open ask) ⊎ (new ≡ Open ask)

-- Both handlers yield nothing within a range, or they yield the same wherever their blocks reach the same; or that depends on a fact. If one of them may yield something, their yields are looked at.
abbrev pub IsHeldOf : FactSet → Handler → Handler → Held → Type 0
IsHeldOf range old new held.Both = AgreeWithin range (yield_by old) (yield_by new)
IsHeldOf range old new held.Neither = (facts : Facts) → Within range facts → reached facts (block_in old) ≡ reached facts (block_in new) → yield_by old facts ≡ yield_by new facts
IsHeldOf range old new held.One = Unit {0}
IsHeldOf range old new (held.Open ask) = HasDomain ask range

-- What a search in a range finds: a part of it that has facts, and two functions differ on some of these. Otherwise the range stays.
abbrev pub IsCompared : (Facts → Effects) → (Facts → Effects) → FactSet → FactSet → Extent → Type 0
IsCompared one other before after Nowhere = (after ≡ before) × AgreeWithin before one other
IsCompared one other before after Somewhere = IsPart after before × HasFacts after × DifferIn after one other
IsCompared one other before after Undecided = after ≡ before

-- The same of a search in the part of a range with another choice at a place.
abbrev pub IsPartCompared : (Facts → Effects) → (Facts → Effects) → Branch → Domain → FactSet → FactSet → Extent → Type 0
IsPartCompared one other ask part before after Nowhere = (after ≡ before) × AgreeWithin (with_domain ask part before) one other
IsPartCompared one other ask part before after Somewhere = IsPart after (with_domain ask part before) × HasFacts after × DifferIn after one other
IsPartCompared one other ask part before after Undecided = after ≡ before

-- A range has facts, and all of them are of so many links and tests.
pub record IsRangeOf (scope : Scope) (range : FactSet) : Type 0 where
  pub has : HasFacts range
  pub are : (facts : Facts) → Within range facts → AreFactsOf scope facts

-- Two functions differ on some facts of a range, which are of so many links and tests.
pub record IsDifference (scope : Scope) (range : FactSet) (one other : Facts → Effects) : Type 0 where
  pub is_of : IsRangeOf scope range
  pub differ : DifferIn range one other

-- What is said of two handlers is so: they agree on all facts, or they differ on some facts of a range.
abbrev pub IsAnswer : Scope → (Facts → Effects) → (Facts → Effects) → Answer → Type 0
IsAnswer scope one other answer.Same = AgreeOn scope one other
IsAnswer scope one other (answer.Different range) = IsDifference scope (fact_set_of range) one other
IsAnswer scope one other answer.Undecided = Unit {0}

-- The range of a difference has facts, of so many links and tests.
abbrev pub IsWithin : Scope → Answer → Type 0
IsWithin scope answer.Same = Unit {0}
IsWithin scope (answer.Different range) = IsRangeOf scope (fact_set_of range)
IsWithin scope answer.Undecided = Unit {0}

-- The same is said, with a range of the same facts.
pub data IsSame : Answer → Answer → Type 0 where
  both_same : IsSame answer.Same answer.Same
  both_different : (range copy : FactSetOfCode) → fact_set_of copy ≡ fact_set_of range → IsSame (answer.Different range) (answer.Different copy)
  both_undecided : IsSame answer.Undecided answer.Undecided

-- They are said to be the same.
abbrev pub is_same : Answer → Bool
is_same answer.Same = true
is_same (answer.Different range) = false
is_same answer.Undecided = false

-- It is not decided whether they are.
abbrev pub is_undecided : Answer → Bool
is_undecided answer.Same = false
is_undecided (answer.Different range) = false
is_undecided answer.Undecided = true

-- What is said of two parts is so.
pub record IsPartAnswer (scope : Scope) (one other : Part) (answer : PartAnswer) : Type 0 where
  pub init : IsAnswer scope (λ facts. init_yield facts one.init) (λ facts. init_yield facts other.init) answer.init
  pub body : IsAnswer scope (λ facts. body_yield facts one.body) (λ facts. body_yield facts other.body) answer.body
  pub active : OnTrue answer.active (mask_of_part scope.tests one ≡ mask_of_part scope.tests other)
  pub apart : OnFalse answer.active (HaveOtherTests scope one other)

-- What is said of evaluations in a state of two policies is so. The bodies outside any state come first.
abbrev pub IsEvaluationAnswer : Scope → StateId → Block → Block → Block → Block → Answer → Type 0
IsEvaluationAnswer scope state always of_other one other answer = IsAnswer scope (evaluation_yield state always one) (evaluation_yield state of_other other) answer

-- What is said of a state is so.
pub record IsStateAnswer (scope : Scope) (state : StateId) (always of_other : Part) (one other : Part) (answer : StateAnswer) : Type 0 where
  pub part : IsPartAnswer scope one other answer.part
  pub evaluation : IsEvaluationAnswer scope state always.body of_other.body one.body other.body answer.evaluation

-- It is so of the state with this number.
abbrev pub IsNumberedAnswer : Scope → Sides → ℕ → StateAnswer → Type 0
IsNumberedAnswer scope sides index answer =
    (state : StateId) (one other : Part) → state.0 ≡ index → slice_get sides.old.states.now index ≡ Some one → slice_get sides.new.states.now index ≡ Some other
    → IsStateAnswer scope state sides.old.always.now sides.new.always.now one other answer

-- It is so of each of the first states.
abbrev pub AreNumberedAnswers : Scope → Sides → List StateAnswer → Type 0
AreNumberedAnswers scope sides answers = (index : ℕ) (answer : StateAnswer) → slice_get answers index ≡ Some answer → IsNumberedAnswer scope sides index answer

-- Something of two parts is not decided.
abbrev pub is_part_open : PartAnswer → Bool
is_part_open answer = is_undecided answer.init || is_undecided answer.body

-- Something of a state is not decided.
abbrev pub is_open : StateAnswer → Bool
is_open answer = is_part_open answer.part || is_undecided answer.evaluation

-- Something of two policies is not decided.
abbrev pub is_judged_open : Judged → Bool
is_judged_open judged = is_part_open judged.always || list_any is_open judged.states.items

-- Situations are gone. If something is not decided, they are used up, or something was not decided before.
pub record IsSpentAfter (earlier : Bool) (before after : Effort) (undecided : Bool) : Type 0 where
  pub reduced : IsReduced before after
  pub used_up : undecided ≡ true → (earlier ≡ true) ⊎ IsUsedUp before after

-- The blocks of a side.
abbrev pub blocks_in : Side → Blocks
blocks_in side = record { initial = side.initial; always = side.always.now; states = side.states.now }

-- Two policies are known to do something else.
abbrev pub SidesDiffer : Scope → Sides → Type 0
SidesDiffer scope sides = AreApart scope (blocks_in sides.old) (blocks_in sides.new) ⊎ HandlersDiffer scope (blocks_in sides.old) (blocks_in sides.new)

-- What is said of two policies is so.
pub record IsJudged (scope : Scope) (sides : Sides) (judged : Judged) : Type 0 where
  pub always : IsPartAnswer scope sides.old.always.now sides.new.always.now judged.always
  pub states : AreNumberedAnswers scope sides judged.states.items
  pub count : length judged.states.items < 2 ^ 16

-- Two parts are said to do the same apart from evaluations.
abbrev pub is_part_alike : PartAnswer → Bool
is_part_alike answer = is_same answer.init && answer.active

-- A state is said to do the same.
abbrev pub is_alike : StateAnswer → Bool
is_alike answer = is_same answer.evaluation && is_part_alike answer.part

-- Two lists of blocks do the same over the same tables.
pub record AreSidesAlike (scope : Scope) (first second : StateId) (one other : Part) (old new : List Part) : Type 0 where
  pub initial : first ≡ second
  pub always : ArePartsAlike scope one other
  pub states : AreStatesAlike scope one other old new

-- The blocks are those of a policy.
pub record AreOfPolicy (side : Side) (policy : Policy) : Type 0 where
  pub initial : side.initial ≡ policy.initial
  pub always : side.always.now ≡ policy.always
  pub states : side.states.now ≡ policy.states

-- The blocks are those of a policy with other numbers.
pub record AreOfRenumbered (side : Side) (made : Renumbered) : Type 0 where
  pub initial : side.initial ≡ made.initial
  pub always : side.always.now ≡ made.always
  pub states : side.states.now ≡ made.states

-- The scope of tables.
abbrev pub scope_in : Tables → Scope
scope_in tables = record { links = length tables.interfaces; tests = length tables.tests }

-- A policy does the same as another one with the numbers of these tables.
abbrev pub AreAlikeOver : Tables → Tables → Policy → Policy → Type 0
AreAlikeOver from to old new =
    AreSidesAlike (scope_in to) old.initial (state_number from to new.initial) old.always (renumbered_part from to new.always) old.states (map (part_named new from to) to.states)

-- If a policy is said to be alike, it has the names of another one, and does the same with its numbers.
pub record IsSameButRoom (old new : Policy) : Type 0 where
  pub names : HaveSameNames old.tables new.tables
  pub alike : AreAlike old (renumbered old.tables new)

-- The first states do the same.
abbrev pub AreFirstAlike : Scope → Part → Part → List Part → List Part → ℕ → Type 0
AreFirstAlike scope always of_other old new count =
    (state : StateId) (one other : Part) → state.0 < count → slice_get old state.0 ≡ Some one → slice_get new state.0 ≡ Some other → IsStateAlike scope state always of_other one other

-- What is said of all states is so.
pub record AreJudged (scope : Scope) (sides : Sides) (earlier : Bool) (before after : Effort) (it : StateAnswers) : Type 0 where
  pub alike : OnTrue it.alike (AreStatesAlike scope sides.old.always.now sides.new.always.now sides.old.states.now sides.new.states.now)
  pub apart : OnFalse it.alike ((list_any is_open it.answers.items ≡ true) ⊎ SidesDiffer scope sides)
  pub answers : AreNumberedAnswers scope sides it.answers.items
  pub count : length it.answers.items < 2 ^ 16
  pub spent : IsSpentAfter earlier before after (list_any is_open it.answers.items)
