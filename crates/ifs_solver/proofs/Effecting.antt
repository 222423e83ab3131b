-- What statements reach, one after the other.
use Rattle.std.proofs.Common.{◌≡◌, ℕ, ◌+◌, ◌<◌, Bool, true, false, List, [], ◌∷◌, ◌++◌, length, drop, get_or, Option, Some, None, refl, sym, ap, ◌∙◌, subst, append_assoc}
use Rattle.std.specs.Prelude.{if◌then◌else◌}
use Rattle.std.proofs.lemmas.List.{append-nil, drop_more}
use Rattle.ifs_base.specs.Facts.{Facts}
use Rattle.ifs_base.specs.Effects.{Effects, nothing_yet, followed, later_wish}
use Rattle.ifs_base.specs.declared.ids.CommandId.{CommandId}
use Rattle.ifs_base.specs.declared.ids.StateId.{StateId}
use Rattle.ifs_parse.specs.Trees.{Done, IfThen}
use Rattle.ifs_parse.specs.Views.{block_of, statement_then}
use Rattle.ifs_parse.specs.declared.block.Statement.{Statement}
use Rattle.ifs_parse.specs.declared.block.Statement.TheVariants.{Run, SetState, If}
use Rattle.ifs_policy.specs.Meaning.{Condition, Block, reached, truth, is_held, body_yield}
use Rattle.ifs_policy.specs.declared.policy.Single.{Single}
use Rattle.ifs_solver.specs.declared.domains.Branch.{Branch}
use Rattle.ifs_solver.specs.declared.verdicts.Verdict.TheVariants.{Known, Open}
use Rattle.ifs_solver.specs.FactSets.{FactSet, Within, HasDomain}
use Rattle.ifs_solver.specs.inner.Judging.{judged, judged_held, IsRight}
use Rattle.ifs_solver.proofs.Rightness.{condition_right, held_right}
use Rattle.ifs_solver.proofs.Theres.{IsThere, condition_there, held_there}
use Rattle.ifs_solver.specs.Reaching.{settled, evaluation_yield, Yields, IsReached, IsBodyReached}
use Rattle.ifs_solver.specs.inner.Reaching.{IsReachedAfter, AreBodiesReached}

-- Effects, one after the other.
later_twice : (before mid after : Option StateId) → later_wish before (later_wish mid after) ≡ later_wish (later_wish before mid) after
later_twice before mid None = refl
later_twice before mid (Some next) = refl

abbrev effects : List CommandId → Option StateId → Effects
effects commands wish = record { commands = commands; wish = wish }

pub followed_twice : (a b c : Effects) → followed a (followed b c) ≡ followed (followed a b) c
followed_twice a b c =
    ap (λ xs. effects xs (later_wish a.wish (later_wish b.wish c.wish))) (sym (append_assoc a.commands b.commands c.commands))
    ∙ ap (λ w. effects ((a.commands ++ b.commands) ++ c.commands) w) (later_twice a.wish b.wish c.wish)

pub followed_nothing : (a : Effects) → followed a nothing_yet ≡ a
followed_nothing a = ap (λ xs. effects xs a.wish) (append-nil a.commands)

no_before : (after : Option StateId) → later_wish None after ≡ after
no_before None = refl
no_before (Some next) = refl

pub nothing_followed : (a : Effects) → followed nothing_yet a ≡ a
nothing_followed a = ap (λ w. effects a.commands w) (no_before a.wish)

-- A statement, and those after it.
pub statement_reaches : (facts : Facts) (statement : Statement Single CommandId StateId) (rest : Block)
    → reached facts (statement_then statement rest) ≡ followed (reached facts (statement_then statement Done)) (reached facts rest)
statement_reaches facts (Run command) rest = ap (λ e. followed e (reached facts rest)) (sym (followed_nothing (record { commands = command ∷ []; wish = None })))
statement_reaches facts (SetState state) rest = ap (λ e. followed e (reached facts rest)) (sym (followed_nothing (record { commands = []; wish = Some state })))
statement_reaches facts (If condition inner) rest = ap (λ e. followed e (reached facts rest)) (sym (followed_nothing (if truth facts condition then reached facts inner else nothing_yet)))

-- What the statements that are left reach comes after what is reached so far, unless something is open.
abbrev pub Remains : FactSet → List (Statement Single CommandId StateId) → Effects → List (Statement Single CommandId StateId) → Effects → Option Branch → Type 0
Remains set all start left now None = (facts : Facts) → Within set facts → followed start (reached facts (block_of all)) ≡ followed now (reached facts (block_of left))
Remains set all start left now (Some branch) = HasDomain branch set

module _ (set : FactSet) (all : List (Statement Single CommandId StateId)) (start : Effects) where
  by_open : (i : ℕ) (statement : Statement Single CommandId StateId) (now next : Effects) (before pending : Option Branch) → i < length all → statement ≡ get_or all i statement
      → Remains set all start (drop i all) now before → IsReachedAfter set before statement now next pending → Remains set all start (drop (i + 1) all) next pending
  by_open i statement now next (Some branch) pending lt at remains h = subst (Remains set all start (drop (i + 1) all) next) (sym h) remains
  by_open i statement now next None (Some branch) lt at remains h = h
  by_open i statement now next None None lt at remains h = λ facts within.
      let rest = drop (i + 1) all in
      let is : drop i all ≡ statement ∷ rest = drop_more all i statement lt ∙ ap (λ x. x ∷ rest) (sym at) in
      remains facts within
      ∙ ap (λ xs. followed now (reached facts (block_of xs))) is
      ∙ ap (followed now) (statement_reaches facts statement (block_of rest))
      ∙ followed_twice now (reached facts (statement_then statement Done)) (reached facts (block_of rest))
      ∙ ap (λ e. followed e (reached facts (block_of rest))) (h facts within)

-- A block under a condition that is known.
under : (set : FactSet) (condition : Condition) (inner : Block) (before after : Effects) (value : Bool) → judged set condition ≡ Known value
    → ((facts : Facts) → Within set facts → followed before (if value then reached facts inner else nothing_yet) ≡ after) → IsReached set (IfThen condition inner Done) before after None
under set condition inner before after value known h = λ facts within.
    let right = subst (λ v. IsRight v (truth facts condition)) known (condition_right set facts within condition) in
    ap (followed before) (followed_nothing (if truth facts condition then reached facts inner else nothing_yet))
    ∙ ap (λ b. followed before (if b then reached facts inner else nothing_yet)) (sym right)
    ∙ h facts within

pub true_reached : (set : FactSet) (condition : Condition) (inner : Block) (before after : Effects) (pending : Option Branch) → judged set condition ≡ Known true
    → IsReached set inner before after pending → IsReached set (IfThen condition inner Done) before after pending
true_reached set condition inner before after None known h = under set condition inner before after true known h
true_reached set condition inner before after (Some branch) known h = h

pub false_reached : (set : FactSet) (condition : Condition) (inner : Block) (before : Effects) → judged set condition ≡ Known false → IsReached set (IfThen condition inner Done) before before None
false_reached set condition inner before known = under set condition inner before before false known (λ facts within. followed_nothing before)

pub open_condition : (set : FactSet) (condition : Condition) (branch : Branch) → judged set condition ≡ Open branch → HasDomain branch set
open_condition set condition branch known = subst (IsThere set) known (condition_there set condition)

-- A body.
held_is : (set : FactSet) (body : Block) (facts : Facts) → Within set facts → IsRight (judged_held set (Known false) body) (is_held facts body)
held_is set body facts within = held_right set facts within (Known false) false refl body

pub held_reached : (set : FactSet) (body : Block) (before : Effects) → judged_held set (Known false) body ≡ Known true → IsBodyReached set body before before None
held_reached set body before known = λ facts within.
    let right = subst (λ v. IsRight v (is_held facts body)) known (held_is set body facts within) in
    ap (λ b. followed before (if b then nothing_yet else reached facts body)) (sym right) ∙ followed_nothing before

pub free_reached : (set : FactSet) (body : Block) (before after : Effects) (pending : Option Branch) → judged_held set (Known false) body ≡ Known false → IsReached set body before after pending
    → IsBodyReached set body before after pending
free_reached set body before after (Some branch) known h = h
free_reached set body before after None known h = λ facts within.
    let right = subst (λ v. IsRight v (is_held facts body)) known (held_is set body facts within) in
    ap (λ b. followed before (if b then nothing_yet else reached facts body)) (sym right) ∙ h facts within

pub open_body : (set : FactSet) (body : Block) (branch : Branch) → judged_held set (Known false) body ≡ Open branch → HasDomain branch set
open_body set body branch known = subst (IsThere set) known (held_there set (Known false) tt body)

-- Both bodies of an evaluation.
pub bodies_reached : (set : FactSet) (always own : Block) (before mid after : Effects) (pending : Option Branch) → IsBodyReached set always before mid None → IsBodyReached set own mid after pending
    → AreBodiesReached set always own before after pending
bodies_reached set always own before mid after (Some branch) h k = k
bodies_reached set always own before mid after None h k = λ facts within.
    followed_twice before (body_yield facts always) (body_yield facts own) ∙ ap (λ e. followed e (body_yield facts own)) (h facts within) ∙ k facts within

pub evaluation_reached : (set : FactSet) (state : StateId) (always own : Block) (after : Effects) (pending : Option Branch) → AreBodiesReached set always own nothing_yet after pending
    → Yields set (evaluation_yield state always own) nothing_yet (settled state after) pending
evaluation_reached set state always own after (Some branch) h = h
evaluation_reached set state always own after None h = λ facts within.
    let both = followed (body_yield facts always) (body_yield facts own) in
    nothing_followed (settled state both) ∙ ap (settled state) (sym (nothing_followed both) ∙ h facts within)
