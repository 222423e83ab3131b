-- Searches for a `run`, one statement after the other.
use Rattle.std.proofs.Common.{◌≡◌, ℕ, zero, ◌+◌, ◌<◌, ◌≤◌, Bool, true, false, ◌&&◌, ◌||◌, List, [], ◌∷◌, ◌++◌, length, drop, get_or, suc, eqb, refl, sym, ap, ◌∙◌, subst, add-one, arith}
use Rattle.std.proofs.Math.Seq.{drop-cons}
use Rattle.std.specs.Prelude.{if◌then◌else◌}
use Rattle.std.specs.List.{list_any}
use Rattle.std.specs.Borrow.{Bor}
use Rattle.std.proofs.lemmas.Bool.{eqb-true, eq-eqb}
use Rattle.std.proofs.lemmas.List.Folds.{list_any-append}
use Rattle.ifs_base.specs.Facts.{Facts}
use Rattle.ifs_base.specs.Effects.{Effects, nothing_yet}
use Rattle.ifs_base.specs.declared.ids.CommandId.{CommandId}
use Rattle.ifs_base.specs.declared.ids.StateId.{StateId}
use Rattle.ifs_parse.specs.Trees.{Done, RunThen, IfThen}
use Rattle.ifs_parse.specs.Views.{block_of, statement_then}
use Rattle.ifs_parse.specs.declared.block.Statement.{Statement}
use Rattle.ifs_parse.specs.declared.block.Statement.TheVariants.{Run, SetState, If}
use Rattle.ifs_policy.specs.Meaning.{Condition, Block, reached, truth}
use Rattle.ifs_policy.specs.declared.policy.Single.{Single}
use Rattle.ifs_solver.specs.declared.constraints.Constraint.{Constraint}
use Rattle.ifs_solver.specs.declared.constraints.Constraint.TheVariants.{Truth}
use Rattle.ifs_solver.specs.declared.fact_sets.Scope.{Scope}
use Rattle.ifs_solver.specs.declared.searching.Extent.{Extent}
use Rattle.ifs_solver.specs.Asking.{meets_all}
use Rattle.ifs_solver.specs.Places.{Here}
use Rattle.ifs_solver.specs.FactSets.{Within, fact_set_of}
use Rattle.ifs_solver.proofs.Adding.{extent_agrees, one_more_met}
use Rattle.ifs_solver.proofs.Witnesses.{among_agrees}
use Rattle.ifs_claims.specs.declared.commands.Reach.{Reach}
use Rattle.ifs_claims.specs.inner.Reaching.{runs, where_runs, IsBack}
use Rattle.ifs_claims.specs.inner.Widening.{Widens, WidensAmong}

-- Answers, one after the other.
or_assoc : (a b c : Bool) → (a || (b || c)) ≡ ((a || b) || c)
or_assoc true b c = refl
or_assoc false b c = refl

or_nothing : (a : Bool) → (a || false) ≡ a
or_nothing true = refl
or_nothing false = refl

pub widens_then : (scope : Scope) (p q r : Here) (before mid after : Extent) → ((facts : Facts) → r facts ≡ (p facts || q facts)) → Widens scope p before mid → Widens scope q mid after → Widens scope r before after
widens_then scope p q r before mid after is h k test start =
    extent_agrees scope (λ facts. test facts || r facts) (λ facts. (test facts || p facts) || q facts) (λ facts. ap (λ x. test facts || x) (is facts) ∙ or_assoc (test facts) (p facts) (q facts)) after
    (k (λ facts. test facts || p facts) (h test start))

pub widens_agrees : (scope : Scope) (p r : Here) (before after : Extent) → ((facts : Facts) → r facts ≡ p facts) → Widens scope p before after → Widens scope r before after
widens_agrees scope p r before after is h test start =
    extent_agrees scope (λ facts. test facts || r facts) (λ facts. test facts || p facts) (λ facts. ap (λ x. test facts || x) (is facts)) after (h test start)

pub widens_never : (scope : Scope) (r : Here) (extent : Extent) → ((facts : Facts) → r facts ≡ false) → Widens scope r extent extent
widens_never scope r extent is test start =
    extent_agrees scope (λ facts. test facts || r facts) test (λ facts. ap (λ x. test facts || x) (is facts) ∙ or_nothing (test facts)) extent start

pub among_then : (P : Facts → Type 0) (p q r : Here) (before mid after : Extent) → ((facts : Facts) → r facts ≡ (p facts || q facts)) → WidensAmong P p before mid → WidensAmong P q mid after → WidensAmong P r before after
among_then P p q r before mid after is h k test start =
    among_agrees P (λ facts. test facts || r facts) (λ facts. (test facts || p facts) || q facts) (λ facts. ap (λ x. test facts || x) (is facts) ∙ or_assoc (test facts) (p facts) (q facts)) after
    (k (λ facts. test facts || p facts) (h test start))

pub among_widens : (P : Facts → Type 0) (p r : Here) (before after : Extent) → ((facts : Facts) → r facts ≡ p facts) → WidensAmong P p before after → WidensAmong P r before after
among_widens P p r before after is h test start = among_agrees P (λ facts. test facts || r facts) (λ facts. test facts || p facts) (λ facts. ap (λ x. test facts || x) (is facts)) after (h test start)

pub among_never : (P : Facts → Type 0) (r : Here) (extent : Extent) → ((facts : Facts) → r facts ≡ false) → WidensAmong P r extent extent
among_never P r extent is test start = among_agrees P (λ facts. test facts || r facts) test (λ facts. ap (λ x. test facts || x) (is facts) ∙ or_nothing (test facts)) extent start

pub and_nothing : (m : Bool) → (m && false) ≡ false
and_nothing true = refl
and_nothing false = refl

spread : (m a r : Bool) → (m && (a || r)) ≡ ((m && (a || false)) || (m && r))
spread false a r = refl
spread true true r = refl
spread true false r = refl

-- A statement, and those after it.
statement_runs : (constraints : List Constraint) (command : CommandId) (statement : Statement Single CommandId StateId) (rest : Block) (facts : Facts)
    → where_runs constraints command (statement_then statement rest) facts ≡ (where_runs constraints command (statement_then statement Done) facts || where_runs constraints command rest facts)
statement_runs constraints command (Run other) rest facts = spread (meets_all constraints facts) (eqb other.0 command.0) (runs command (reached facts rest))
statement_runs constraints command (SetState state) rest facts = ap (λ x. x || where_runs constraints command rest facts) (sym (and_nothing (meets_all constraints facts)))
statement_runs constraints command (If condition inner) rest facts =
    let p : CommandId → Bool = λ other. eqb other.0 command.0 in
    let chosen = if truth facts condition then reached facts inner else nothing_yet in
    let m = meets_all constraints facts in
    ap (λ x. m && x) (list_any-append p chosen.commands (reached facts rest).commands)
    ∙ spread m (list_any p chosen.commands) (runs command (reached facts rest))
    ∙ ap (λ x. (m && x) || (m && runs command (reached facts rest))) (sym (list_any-append p chosen.commands []))

-- Another `set-state`, and another command.
pub set_state_runs : (P : Facts → Type 0) (constraints : List Constraint) (command : CommandId) (state : StateId) (extent : Extent) → WidensAmong P (where_runs constraints command (statement_then (SetState state) Done)) extent extent
set_state_runs P constraints command state extent = among_never P _ extent (λ facts. and_nothing (meets_all constraints facts))

pub other_runs : (P : Facts → Type 0) (constraints : List Constraint) (command other : CommandId) (extent : Extent) → (other.0 ≡ command.0 → ⊥) → WidensAmong P (where_runs constraints command (RunThen other Done)) extent extent
other_runs P constraints command other extent differ = among_never P _ extent (λ facts. ap (λ x. meets_all constraints facts && (x || false)) (differ_eqb other.0 command.0 differ) ∙ and_nothing (meets_all constraints facts))
  where
    differ_eqb : (a b : ℕ) → (a ≡ b → ⊥) → eqb a b ≡ false
    differ_eqb a b d = by_test (eqb a b) refl
      where
        by_test : (c : Bool) → eqb a b ≡ c → eqb a b ≡ false
        by_test true e = absurd (d (eqb-true a b e))
        by_test false e = e

pub same_runs : (P : Facts → Type 0) (constraints : List Constraint) (command other : CommandId) (before after : Extent) → other.0 ≡ command.0 → WidensAmong P (meets_all constraints) before after
    → WidensAmong P (where_runs constraints command (RunThen other Done)) before after
same_runs P constraints command other before after same h =
    among_widens P (meets_all constraints) (where_runs constraints command (RunThen other Done)) before after (λ facts. ap (λ x. meets_all constraints facts && (x || false)) (eqb_same other.0 command.0 same) ∙ and_true (meets_all constraints facts)) h
  where
    eqb_same : (a b : ℕ) → a ≡ b → eqb a b ≡ true
    eqb_same a b e = eq-eqb a b e

    and_true : (m : Bool) → (m && true) ≡ m
    and_true true = refl
    and_true false = refl

-- The block under a condition.
pub if_runs : (P : Facts → Type 0) (constraints : List Constraint) (command : CommandId) (condition : Bor Condition) (inner : Block) (before after : Extent)
    → WidensAmong P (where_runs (constraints ++ Truth condition true ∷ []) command inner) before after → WidensAmong P (where_runs constraints command (IfThen condition.now inner Done)) before after
if_runs P constraints command condition inner before after h =
    among_widens P (where_runs (constraints ++ Truth condition true ∷ []) command inner) (where_runs constraints command (IfThen condition.now inner Done)) before after (λ facts. same facts) h
  where
    regroup : (m t : Bool) (e : Effects) → (m && (runs command (if t then e else nothing_yet) || false)) ≡ ((m && t) && runs command e)
    regroup false t e = refl
    regroup true true e = or_nothing (runs command e)
    regroup true false e = refl

    same : (facts : Facts) → where_runs constraints command (IfThen condition.now inner Done) facts ≡ where_runs (constraints ++ Truth condition true ∷ []) command inner facts
    same facts =
        let p : CommandId → Bool = λ other. eqb other.0 command.0 in
        let chosen = if truth facts condition.now then reached facts inner else nothing_yet in
        ap (λ x. meets_all constraints facts && x) (list_any-append p chosen.commands [])
        ∙ regroup (meets_all constraints facts) (truth facts condition.now) (reached facts inner)
        ∙ ap (λ x. x && runs command (reached facts inner)) (sym (one_more_met constraints (Truth condition true) facts))

-- What comes of the statements that are left comes of all.
abbrev pub Remains : (Facts → Type 0) → List Constraint → CommandId → List (Statement Single CommandId StateId) → Extent → List (Statement Single CommandId StateId) → Extent → Type 0
Remains P constraints command all start left now = (end : Extent) → WidensAmong P (where_runs constraints command (block_of left)) now end → WidensAmong P (where_runs constraints command (block_of all)) start end

pub remains_more : (P : Facts → Type 0) (constraints : List Constraint) (command : CommandId) (all : List (Statement Single CommandId StateId)) (start : Extent) (i : ℕ) (statement : Statement Single CommandId StateId) (now next : Extent)
    → i < length all → statement ≡ get_or all i statement → Remains P constraints command all start (drop i all) now → WidensAmong P (where_runs constraints command (statement_then statement Done)) now next
    → Remains P constraints command all start (drop (i + 1) all) next
remains_more P constraints command all start i statement now next lt at remains h end k =
    let rest = drop (i + 1) all in
    let is : drop i all ≡ statement ∷ rest = drop-cons all i statement lt ∙ ap (λ x. x ∷ drop (suc i) all) (sym at) ∙ ap (λ n. statement ∷ drop n all) (sym (add-one i)) in
    remains end
    (subst (λ xs. WidensAmong P (where_runs constraints command (block_of xs)) now end) (sym is)
    (among_then P (where_runs constraints command (statement_then statement Done)) (where_runs constraints command (block_of rest)) (where_runs constraints command (statement_then statement (block_of rest))) now next end
    (statement_runs constraints command statement (block_of rest)) h k))

pub remains_nothing : (P : Facts → Type 0) (constraints : List Constraint) (command : CommandId) (all left : List (Statement Single CommandId StateId)) (start now : Extent) → left ≡ []
    → Remains P constraints command all start left now → WidensAmong P (where_runs constraints command (block_of all)) start now
remains_nothing P constraints command all left start now none remains =
    remains now (subst (λ xs. WidensAmong P (where_runs constraints command (block_of xs)) now now) (sym none) (among_never P _ now (λ facts. and_nothing (meets_all constraints facts))))

pub back_again : (a b c : Reach) → IsBack a b → IsBack b c → IsBack a c
back_again a b c h k = record { set = k.set ∙ h.set; command = k.command ∙ h.command; context = k.context ∙ h.context }

pub still : (a : Reach) → IsBack a a
still a = record { set = refl; command = refl; context = refl }

nothing_dropped : {X : Type 0} (xs : List X) → drop 0 xs ≡ xs
nothing_dropped [] = refl
nothing_dropped (x ∷ xs) = refl

all_dropped : {X : Type 0} (xs : List X) (i : ℕ) → length xs ≤ i → drop i xs ≡ []
all_dropped [] zero le = refl
all_dropped [] (suc i) le = refl
all_dropped (x ∷ xs) zero le = absurd (omega (arith, le))
all_dropped (x ∷ xs) (suc i) le = all_dropped xs i (omega (arith, le))

-- What is found where a search is again.
pub widens_back : (a b : Reach) (block : Block) (before after : Extent) → IsBack a b → WidensAmong (Within (fact_set_of b.set.now)) (where_runs b.context.items b.command block) before after
    → WidensAmong (Within (fact_set_of a.set.now)) (where_runs a.context.items a.command block) before after
widens_back a b block before after back h =
    subst (λ set. WidensAmong (Within (fact_set_of set.now)) (where_runs a.context.items a.command block) before after) back.set
    (subst (λ command. WidensAmong (Within (fact_set_of b.set.now)) (where_runs a.context.items command block) before after) back.command
    (subst (λ constraints. WidensAmong (Within (fact_set_of b.set.now)) (where_runs constraints b.command block) before after) back.context h))

pub remains_start : (a : Reach) (all : List (Statement Single CommandId StateId)) (start : Extent) → Remains (Within (fact_set_of a.set.now)) a.context.items a.command all start (drop 0 all) start
remains_start a all start end k = subst (λ xs. WidensAmong (Within (fact_set_of a.set.now)) (where_runs a.context.items a.command (block_of xs)) start end) (nothing_dropped all) k

pub remains_step : (a b : Reach) (all : List (Statement Single CommandId StateId)) (start : Extent) (i : ℕ) (statement : Statement Single CommandId StateId) (now next : Extent) → i < length all → statement ≡ get_or all i statement
    → IsBack a b → Remains (Within (fact_set_of a.set.now)) a.context.items a.command all start (drop i all) now → WidensAmong (Within (fact_set_of b.set.now)) (where_runs b.context.items b.command (statement_then statement Done)) now next
    → Remains (Within (fact_set_of a.set.now)) a.context.items a.command all start (drop (i + 1) all) next
remains_step a b all start i statement now next lt at back remains h =
    remains_more (Within (fact_set_of a.set.now)) a.context.items a.command all start i statement now next lt at remains (widens_back a b (statement_then statement Done) now next back h)

pub remains_end : (a : Reach) (all : List (Statement Single CommandId StateId)) (start : Extent) (i : ℕ) (now : Extent) → length all ≤ i → Remains (Within (fact_set_of a.set.now)) a.context.items a.command all start (drop i all) now
    → WidensAmong (Within (fact_set_of a.set.now)) (where_runs a.context.items a.command (block_of all)) start now
remains_end a all start i now le remains = remains_nothing (Within (fact_set_of a.set.now)) a.context.items a.command all (drop i all) start now (all_dropped all i le) remains

pub if_said : (P : Facts → Type 0) (constraints : List Constraint) (command : CommandId) (statement : Statement Single CommandId StateId) (condition : Bor Condition) (inner : Block) (listed : List (Statement Single CommandId StateId)) (before after : Extent)
    → statement ≡ If condition.now inner → inner ≡ block_of listed → WidensAmong P (where_runs (constraints ++ Truth condition true ∷ []) command (block_of listed)) before after
    → WidensAmong P (where_runs constraints command (statement_then statement Done)) before after
if_said P constraints command statement condition inner listed before after is listed_is h =
    subst (λ s. WidensAmong P (where_runs constraints command (statement_then s Done)) before after) (sym is)
    (if_runs P constraints command condition inner before after (subst (λ b. WidensAmong P (where_runs (constraints ++ Truth condition true ∷ []) command b) before after) (sym listed_is) h))
