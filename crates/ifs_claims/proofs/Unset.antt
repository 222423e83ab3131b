-- A block wishes only for states that it sets.
use Rattle.std.proofs.Common.{◌≡◌, ℕ, zero, suc, ◌<◌, ⊎_elim, Bool, true, false, not, ◌&&◌, ◌||◌, List, [], ◌∷◌, Option, Some, None, eqb, refl, sym, ap, ◌∙◌, arith}
use Rattle.std.specs.Prelude.{if◌then◌else◌, replicate, slice_get, slice_set}
use Rattle.std.proofs.lemmas.Bool.{cases_eq, eq-eqb, ne_eqb}
use Rattle.std.proofs.lemmas.Option.{none-some, same_Some}
use Rattle.ifs_base.specs.Facts.{Facts}
use Rattle.ifs_base.specs.Effects.{Effects, nothing_yet, later_wish}
use Rattle.ifs_base.specs.declared.ids.StateId.{StateId}
use Rattle.ifs_gen.specs.Trees.{Part}
use Rattle.ifs_parse.specs.Trees.{Done, RunThen, SetStateThen, IfThen}
use Rattle.ifs_policy.specs.Meaning.{Block, reached, truth}
use Rattle.ifs_solver.specs.declared.constraints.Aim.{Aim}
use Rattle.ifs_solver.specs.declared.constraints.Aim.TheVariants.{To}
use Rattle.ifs_solver.specs.Asking.{hits}
use Rattle.ifs_claims.specs.Changes.{part_hits, may_be_silent, could_move}
use Rattle.ifs_claims.specs.inner.Setting.{sets, marked, marks_of}

-- Of a disjunction.
or_assoc : (a b c : Bool) → (a || (b || c)) ≡ ((a || b) || c)
or_assoc true b c = refl
or_assoc false b c = refl

or_nothing : (a : Bool) → (a || false) ≡ a
or_nothing true = refl
or_nothing false = refl

neither_left : (a b : Bool) → (a || b) ≡ false → a ≡ false
neither_left false b e = refl
neither_left true b e = e

neither_right : (a b : Bool) → (a || b) ≡ false → b ≡ false
neither_right false b e = e
neither_right true false e = refl
neither_right true true e = e

-- No facts make a block wish for a state that it does not set.
later_misses : (aim : Aim) (earlier later : Option StateId) → hits aim earlier ≡ false → hits aim later ≡ false → hits aim (later_wish earlier later) ≡ false
later_misses aim earlier None h k = h
later_misses aim earlier (Some state) h k = k

guarded_misses : (aim : Aim) (c : Bool) (effects : Effects) → hits aim effects.wish ≡ false → hits aim (if c then effects else nothing_yet).wish ≡ false
guarded_misses aim true effects h = h
guarded_misses aim false effects h = refl

pub never_wished : (facts : Facts) (state : ℕ) (block : Block) → sets state block ≡ false → hits (To (record { 0 = state })) (reached facts block).wish ≡ false
never_wished facts state Done e = refl
never_wished facts state (RunThen command rest) e = later_misses (To (record { 0 = state })) None (reached facts rest).wish refl (never_wished facts state rest e)
never_wished facts state (SetStateThen other rest) e =
    later_misses (To (record { 0 = state })) (Some other) (reached facts rest).wish (neither_left (eqb other.0 state) (sets state rest) e)
    (never_wished facts state rest (neither_right (eqb other.0 state) (sets state rest) e))
never_wished facts state (IfThen condition inner rest) e =
    let aim = To (record { 0 = state }) in
    later_misses aim (if truth facts condition then reached facts inner else nothing_yet).wish (reached facts rest).wish
    (guarded_misses aim (truth facts condition) (reached facts inner) (never_wished facts state inner (neither_left (sets state inner) (sets state rest) e)))
    (never_wished facts state rest (neither_right (sets state inner) (sets state rest) e))

-- A state is marked if it was marked, or if the block sets it.
set_here : (marks : List Bool) (k : ℕ) (b : Bool) → slice_get marks k ≡ Some b → slice_get (slice_set marks k true) k ≡ Some true
set_here [] k b e = absurd (none-some b e)
set_here (x ∷ marks) zero b e = refl
set_here (x ∷ marks) (suc k) b e = set_here marks k b e

set_other : (marks : List Bool) (i k : ℕ) → (i ≡ k → ⊥) → slice_get (slice_set marks i true) k ≡ slice_get marks k
set_other [] i k apart = refl
set_other (x ∷ marks) zero zero apart = absurd (apart refl)
set_other (x ∷ marks) zero (suc k) apart = refl
set_other (x ∷ marks) (suc i) zero apart = refl
set_other (x ∷ marks) (suc i) (suc k) apart = set_other marks i k (λ e. apart (ap suc e))

or_true : (b : Bool) → (b || true) ≡ true
or_true true = refl
or_true false = refl

set_same : (marks : List Bool) (i k : ℕ) (b : Bool) → slice_get marks k ≡ Some b → slice_get (slice_set marks i true) k ≡ Some (b || eqb i k)
set_same marks i k b e =
    ⊎_elim
    (λ same. ap (λ n. slice_get (slice_set marks n true) k) same ∙ set_here marks k b e ∙ ap (λ c. Some c) (sym (or_true b)) ∙ ap (λ c. Some (b || c)) (sym (eq-eqb i k same)))
    (λ apart. set_other marks i k apart ∙ e ∙ ap (λ c. Some c) (sym (or_nothing b)) ∙ ap (λ c. Some (b || c)) (sym (ne_eqb i k apart)))
    (cases_eq i k)

mark_at : (marks : List Bool) (block : Block) (state : ℕ) (b : Bool) → slice_get marks state ≡ Some b → slice_get (marked marks block) state ≡ Some (b || sets state block)
mark_at marks Done state b e = e ∙ ap (λ c. Some c) (sym (or_nothing b))
mark_at marks (RunThen command rest) state b e = mark_at marks rest state b e
mark_at marks (SetStateThen other rest) state b e =
    mark_at (slice_set marks other.0 true) rest state (b || eqb other.0 state) (set_same marks other.0 state b e) ∙ ap (λ c. Some c) (sym (or_assoc b (eqb other.0 state) (sets state rest)))
mark_at marks (IfThen condition inner rest) state b e =
    mark_at (marked marks inner) rest state (b || sets state inner) (mark_at marks inner state b e) ∙ ap (λ c. Some c) (sym (or_assoc b (sets state inner) (sets state rest)))

replicate_at : (n k : ℕ) → k < n → slice_get (replicate n false) k ≡ Some false
replicate_at zero k lt = absurd (omega (arith, lt))
replicate_at (suc n) zero lt = refl
replicate_at (suc n) (suc k) lt = replicate_at n k (omega (arith, lt))

-- Evaluations in a state lead to none that is not marked.
unmarked_part : (facts : Facts) (count : ℕ) (always : Block) (o : Option Part) (next : ℕ) → next < count → slice_get (marks_of count always o) next ≡ Some false → (part_hits facts next o ≡ false) × (sets next always ≡ false)
unmarked_part facts count always None next lt e = (refl, same_Some (sets next always) false (sym (mark_at (replicate count false) always next false (replicate_at count next lt)) ∙ e))
unmarked_part facts count always (Some part) next lt e =
    let start = replicate count false in
    let neither = same_Some (sets next always || sets next part.body) false (sym (mark_at (marked start always) part.body next (sets next always) (mark_at start always next false (replicate_at count next lt))) ∙ e) in
    (never_wished facts next part.body (neither_right (sets next always) (sets next part.body) neither), neither_left (sets next always) (sets next part.body) neither)

neither_moves : (a b c : Bool) → (a && (b && false)) ≡ false
neither_moves true true c = refl
neither_moves true false c = refl
neither_moves false b c = refl

no_move : (differ own silent always : Bool) → own ≡ false → always ≡ false → (differ && (own || (silent && always))) ≡ false
no_move differ own silent always h k = ap (λ x. differ && (x || (silent && always))) h ∙ ap (λ x. differ && (silent && x)) k ∙ neither_moves differ silent false

pub unmarked : (facts : Facts) (count : ℕ) (always : Block) (states : List Part) (state : StateId) (next : ℕ) (marks : List Bool) → marks ≡ marks_of count always (slice_get states state.0) → next < count → slice_get marks next ≡ Some false
    → could_move always states facts state next ≡ false
unmarked facts count always states state next marks marks_are lt e =
    let at : slice_get (marks_of count always (slice_get states state.0)) next ≡ Some false = ap (λ xs. slice_get xs next) (sym marks_are) ∙ e in
    let quiet = unmarked_part facts count always (slice_get states state.0) next lt at in
    no_move (not (eqb next state.0)) (part_hits facts next (slice_get states state.0)) (may_be_silent always facts (slice_get states state.0)) (hits (To (record { 0 = next })) (reached facts always).wish) quiet.0
    (never_wished facts next always quiet.1)
