-- Answers for statements, one after the other.
use Rattle.std.proofs.Common.{◌≡◌, ℕ, ◌+◌, ◌-◌, ◌<◌, ◌≤◌, drop, Bool, true, false, not, ◌&&◌, ◌||◌, List, [], ◌∷◌, ◌++◌, length, take, get_or, refl, sym, ap, ◌∙◌, subst, append_assoc, arith}
use Rattle.std.specs.Prelude.{is_some, Contains}
use Rattle.std.specs.List.{flat_map}
use Rattle.std.specs.Borrow.{Bor}
use Rattle.std.proofs.lemmas.List.{take_more, take_all, append-nil}
use Rattle.std.proofs.lemmas.List.Concat.{flat_map-append}
use Rattle.ifs_base.specs.declared.ids.CommandId.{CommandId}
use Rattle.ifs_base.specs.declared.ids.StateId.{StateId}
use Rattle.ifs_parse.specs.Trees.{block_size}
use Rattle.ifs_parse.specs.Views.{block_of, statement_then}
use Rattle.ifs_parse.specs.declared.block.Statement.{Statement}
use Rattle.ifs_parse.specs.declared.block.Statement.TheVariants.{Run, SetState, If}
use Rattle.ifs_policy.specs.Meaning.{Condition, Block, reached}
use Rattle.ifs_policy.specs.declared.policy.Handlers.{Handlers}
use Rattle.ifs_policy.specs.declared.policy.Single.{Single}
use Rattle.ifs_solver.specs.declared.constraints.Constraint.{Constraint}
use Rattle.ifs_solver.specs.declared.constraints.Constraint.TheVariants.{Truth, Free, NoWish}
use Rattle.ifs_policy.specs.declared.policy.PolicyParts.{PolicyParts}
use Rattle.ifs_solver.specs.FactSets.{scope_of}
use Rattle.ifs_solver.specs.declared.answers.Answer.{Answer}
use Rattle.ifs_solver.specs.declared.answers.Answer.TheVariants as answer
use Rattle.ifs_solver.specs.declared.fact_sets.Scope.{Scope}
use Rattle.ifs_solver.specs.declared.searching.Budget.{Budget}
use Rattle.ifs_solver.specs.declared.walking.Walk.{Walk}
use Rattle.ifs_solver.specs.Budgets.{IsSpent}
use Rattle.ifs_solver.specs.Places.{Here, Place, Test, always_here, never_here, places_of, where_is, or_wish, where_free, operand_places, condition_places, block_places, AreAnswers}
use Rattle.ifs_solver.specs.inner.Walking.{IsHere, IsLater, IsPaidWalk, Adds, IsStart, policy_places_at, Walked, HasEntered, HasComeBack, HasGone, HasGoneBack, StaysPaid, others_of, statement_places, and_free, part_places_at}
use Rattle.ifs_solver.proofs.Paying.{unspent}
use Rattle.ifs_solver.proofs.Adding.{one_more_met, where_met, walked_then, walked_nothing, paid_after}

-- What comes before and after costs nothing.
paid_between : (a b c d : Walk) → b.budget ≡ a.budget → b.answers.items ≡ a.answers.items → StaysPaid b c → d.budget ≡ c.budget → d.answers.items ≡ c.answers.items → StaysPaid a d
paid_between a b c d budget answers h budget_then answers_then given paid =
    paid_after b c d h budget_then answers_then given (paid_after a a b (λ given h. h) budget answers given paid)

-- A block is its first statement and the rest.
block_then : (here later : Here) (others : List Here) (statement : Statement Single CommandId StateId) (rest : Block)
    → statement_places here later others statement rest ++ block_places here later others rest ≡ block_places here later others (statement_then statement rest)
block_then here later others (Run command) rest = refl
block_then here later others (SetState state) rest = refl
block_then here later others (If condition inner) rest = refl

-- The walk over some statements, for whatever comes of it.
abbrev pub Remains : List (Statement Single CommandId StateId) → Walk → List (Statement Single CommandId StateId) → Walk → Type 0
Remains all start left now =
    (end : Walk) → Walked (λ here later. block_places here later (others_of now.others) (block_of left)) now end → Walked (λ here later. block_places here later (others_of start.others) (block_of all)) start end

pub remains_more : (all : List (Statement Single CommandId StateId)) (start : Walk) (statement : Statement Single CommandId StateId) (rest : List (Statement Single CommandId StateId)) (left : List (Statement Single CommandId StateId))
    (now next : Walk) → left ≡ statement ∷ rest → Remains all start left now → Walked (λ here later. statement_places here later (others_of now.others) statement (block_of rest)) now next → Remains all start rest next
remains_more all start statement rest left now next is remains walked end w =
    let others = others_of now.others in
    let same : others_of next.others ≡ others = ap others_of walked.back.others in
    let tail = subst (λ o. Walked (λ here later. block_places here later o (block_of rest)) next end) same w in
    let both = walked_then (λ here later. statement_places here later others statement (block_of rest)) (λ here later. block_places here later others (block_of rest)) now next end walked tail in
    remains end
    (subst (λ xs. Walked (λ here later. block_places here later others (block_of xs)) now end) (sym is)
    (record {
      back = both.back;
      answers = λ here later is_here is_later told h.
          subst (λ xs. AreAnswers now.scope (told ++ xs) end.answers.items) (block_then here later others statement (block_of rest)) (both.answers here later is_here is_later told h);
      paid = both.paid;
    }))

pub remains_nothing : (all left : List (Statement Single CommandId StateId)) (start now : Walk) → left ≡ [] → Remains all start left now → Walked (λ here later. block_places here later (others_of start.others) (block_of all)) start now
remains_nothing all left start now is remains =
    remains now (subst (λ xs. Walked (λ here later. block_places here later (others_of now.others) (block_of xs)) now now) (sym is) (walked_nothing now))

pub rest_below : (left : List (Statement Single CommandId StateId)) (statement : Statement Single CommandId StateId) (rest : List (Statement Single CommandId StateId)) (size : ℕ) → left ≡ statement ∷ rest
    → block_size (block_of left) ≤ size → block_size (block_of rest) ≤ size
rest_below left statement rest size is le =
    let below = tail_below statement rest in
    let same = ap (λ xs. block_size (block_of xs)) is in
    omega (arith, below, same, le)
  where
    tail_below : (statement : Statement Single CommandId StateId) (rest : List (Statement Single CommandId StateId)) → block_size (block_of rest) ≤ block_size (block_of (statement ∷ rest))
    tail_below (Run command) rest = omega arith
    tail_below (SetState state) rest = omega arith
    tail_below (If condition inner) rest = omega arith

-- The block under a condition.
under_later : (later : Here) (constraints : List Constraint) (rest : Bor (List (Statement Single CommandId StateId))) → IsLater later constraints → IsLater (or_wish later (block_of rest.now)) (constraints ++ NoWish rest ∷ [])
under_later later constraints rest is facts =
    let wishes = is_some (reached facts (block_of rest.now)).wish in
    neither wishes (later facts) ∙ ap (λ x. x && not wishes) (is facts) ∙ sym (one_more_met constraints (NoWish rest) facts)
  where
    neither : (w l : Bool) → not (w || l) ≡ (not l && not w)
    neither true true = refl
    neither true false = refl
    neither false true = refl
    neither false false = refl

under_walked : (condition : Bor Condition) (rest : Bor (List (Statement Single CommandId StateId))) (inner : Block) (c d e f : Walk) → HasEntered condition rest c d
    → Walked (λ here later. block_places here later (others_of d.others) inner) d e → HasComeBack e f
    → Walked (λ here later. block_places (where_is true here condition.now) (or_wish later (block_of rest.now)) (others_of c.others) inner) c f
under_walked condition rest inner c d e f entered walked came = record {
  back = record {
    scope = came.scope ∙ walked.back.scope ∙ entered.scope;
    others = came.others ∙ walked.back.others ∙ entered.others;
    context = came.context c.context.items (Truth condition true) (walked.back.context ∙ entered.context);
    last = came.last c.last.items (NoWish rest) (walked.back.last ∙ entered.last);
  };
  answers = λ here later is_here is_later told h.
      let there = where_is true here condition.now in
      let after = or_wish later (block_of rest.now) in
      subst (λ o. AreAnswers c.scope (told ++ block_places there after (others_of o) inner) f.answers.items) entered.others
      (subst (AreAnswers c.scope (told ++ block_places there after (others_of d.others) inner)) (sym came.answers)
      (subst (λ s. AreAnswers s (told ++ block_places there after (others_of d.others) inner) e.answers.items) entered.scope
      (walked.answers there after (subst (IsHere there) (sym entered.context) (where_met here c.context.items condition true is_here))
      (subst (IsLater after) (sym entered.last) (under_later later c.last.items rest is_later)) told
      (subst (AreAnswers d.scope told) (sym entered.answers) (subst (λ s. AreAnswers s told c.answers.items) (sym entered.scope) h)))));
  paid = paid_between c d e f entered.budget entered.answers walked.paid came.budget came.answers;
}

pub if_walked : (statement : Statement Single CommandId StateId) (condition : Bor Condition) (rest : Bor (List (Statement Single CommandId StateId))) (inner : Block) (a b c d e f : Walk) → statement ≡ If condition.now inner
    → Walked (λ here later. Test here condition.now ∷ []) a b → Walked (λ here later. operand_places here condition.now) b c → HasEntered condition rest c d
    → Walked (λ here later. block_places here later (others_of d.others) inner) d e → HasComeBack e f
    → Walked (λ here later. statement_places here later (others_of a.others) statement (block_of rest.now)) a f
if_walked statement condition rest inner a b c d e f is one two entered walked came =
    let there = under_walked condition rest inner c d e f entered walked came in
    let places : Here → Here → List Place = λ here later. block_places (where_is true here condition.now) (or_wish later (block_of rest.now)) (others_of a.others) inner in
    let same : c.others ≡ a.others = two.back.others ∙ one.back.others in
    subst (λ s. Walked (λ here later. statement_places here later (others_of a.others) s (block_of rest.now)) a f) (sym is)
    (walked_then (λ here later. condition_places here condition.now) places a c f
    (walked_then (λ here later. Test here condition.now ∷ []) (λ here later. operand_places here condition.now) a b c one two)
    (subst (λ o. Walked (λ here later. block_places (where_is true here condition.now) (or_wish later (block_of rest.now)) (others_of o) inner) c f) same there))

-- The body of a part.
pub free_walked : (body : Bor Block) (a b c d : Walk) → HasGone (Free body) a b → Walked (λ here later. block_places here later (others_of b.others) body.now) b c → HasGoneBack c d
    → Walked (λ here later. block_places (and_free here body.now) later (others_of a.others) body.now) a d
free_walked body a b c d gone walked back = record {
  back = record {
    scope = back.scope ∙ walked.back.scope ∙ gone.scope;
    others = back.others ∙ walked.back.others ∙ gone.others;
    context = back.context a.context.items (Free body) (walked.back.context ∙ gone.context);
    last = back.last ∙ walked.back.last ∙ gone.last;
  };
  answers = λ here later is_here is_later told h.
      let there = and_free here body.now in
      subst (λ o. AreAnswers a.scope (told ++ block_places there later (others_of o) body.now) d.answers.items) gone.others
      (subst (AreAnswers a.scope (told ++ block_places there later (others_of b.others) body.now)) (sym back.answers)
      (subst (λ s. AreAnswers s (told ++ block_places there later (others_of b.others) body.now) c.answers.items) gone.scope
      (walked.answers there later
      (subst (IsHere there) (sym gone.context) (λ facts. ap (λ x. x && where_free body.now facts) (is_here facts) ∙ sym (one_more_met a.context.items (Free body) facts)))
      (subst (IsLater later) (sym gone.last) is_later) told
      (subst (AreAnswers b.scope told) (sym gone.answers) (subst (λ s. AreAnswers s told a.answers.items) (sym gone.scope) h)))));
  paid = paid_between a b c d gone.budget gone.answers walked.paid back.budget back.answers;
}

pub part_walked : (part : Handlers) (a b d : Walk) → Walked (λ here later. block_places here later (others_of a.others) part.init) a b
    → Walked (λ here later. block_places (and_free here part.body) later (others_of b.others) part.body) b d → Walked (λ here later. part_places_at here later (others_of a.others) part) a d
part_walked part a b d one two =
    walked_then (λ here later. block_places here later (others_of a.others) part.init) (λ here later. block_places (and_free here part.body) later (others_of a.others) part.body) a b d one
    (subst (λ o. Walked (λ here later. block_places (and_free here part.body) later (others_of o) part.body) b d) one.back.others two)

-- One more part.
pub parts_more : (parts : List Handlers) (i : ℕ) (part : Handlers) (a b c : Walk) → i < length parts → part ≡ get_or parts i part
    → Walked (λ here later. flat_map (part_places_at here later (others_of a.others)) (take i parts)) a b → Walked (λ here later. part_places_at here later (others_of b.others) part) b c
    → Walked (λ here later. flat_map (part_places_at here later (others_of a.others)) (take (i + 1) parts)) a c
parts_more parts i part a b c lt at one two =
    let others = others_of a.others in
    let next = subst (λ o. Walked (λ here later. part_places_at here later (others_of o) part) b c) one.back.others two in
    let both = walked_then (λ here later. flat_map (part_places_at here later others) (take i parts)) (λ here later. part_places_at here later others part) a b c one next in
    record {
      back = both.back;
      answers = λ here later is_here is_later told h.
          subst (λ xs. AreAnswers a.scope (told ++ xs) c.answers.items) (one_more here later others) (both.answers here later is_here is_later told h);
      paid = both.paid;
    }
  where
    one_more : (here later : Here) (others : List Here) → flat_map (part_places_at here later others) (take i parts) ++ part_places_at here later others part ≡ flat_map (part_places_at here later others) (take (i + 1) parts)
    one_more here later others =
        ap (λ xs. flat_map (part_places_at here later others) (take i parts) ++ xs) (sym (append-nil (part_places_at here later others part)))
        ∙ sym (flat_map-append (part_places_at here later others) (take i parts) (part ∷ []))
        ∙ ap (flat_map (part_places_at here later others)) (ap (λ x. take i parts ++ x ∷ []) at ∙ sym (take_more parts i part lt))

-- The first of some statements, and the rest as a slice has it.
pub front_is : {X : Type 0} (left : List X) (item : X) → 1 ≤ length left → item ≡ get_or left 0 item → left ≡ item ∷ take (length left - 1) (drop 1 left)
front_is {X = X} [] item le at = absurd (omega (arith, le))
front_is {X = X} (x ∷ xs) item le at = ap (λ y. y ∷ xs) (sym at) ∙ ap (λ ys. item ∷ ys) (sym (ap (take (length (x ∷ xs) - 1)) (one_dropped xs) ∙ ap (λ n. take n xs) less ∙ take_all (length xs) xs (omega arith)))
  where
    one_dropped : (ys : List X) → drop 1 (x ∷ ys) ≡ ys
    one_dropped [] = refl
    one_dropped (y ∷ ys) = refl

    less : length (x ∷ xs) - 1 ≡ length xs
    less = omega arith

pub none_left : {X : Type 0} (left : List X) → length left < 1 → left ≡ []
none_left [] lt = refl
none_left (x ∷ xs) lt = absurd (omega (arith, lt))

-- A walk is at the place where another one was.
pub record IsBackTo (b a : Walk) : Type 0 where
  pub scope_is : b.scope ≡ a.scope
  pub context_is : b.context.items ≡ a.context.items
  pub last_is : b.last.items ≡ a.last.items

-- Answers for places, and then for others.
pub adds_then : (p q : Here → Here → List Place) (a b c : Walk) → Adds p a b → IsBackTo b a → Adds q b c → Adds (λ here later. p here later ++ q here later) a c
adds_then p q a b c one back two here later is_here is_later told h =
    subst (λ xs. AreAnswers a.scope xs c.answers.items) (append_assoc told (p here later) (q here later))
    (subst (λ s. AreAnswers s ((told ++ p here later) ++ q here later) c.answers.items) back.scope_is
    (two here later (subst (IsHere here) (sym back.context_is) is_here) (subst (IsLater later) (sym back.last_is) is_later) (told ++ p here later)
    (subst (λ s. AreAnswers s (told ++ p here later) b.answers.items) (sym back.scope_is) (one here later is_here is_later told h))))

-- A walk that began has answered for the places of a policy.
pub all_answered : (scope : Scope) (policy : PolicyParts) (always : Handlers) (states : List Handlers) (budget : Budget) (a b : Walk) (answers : List Answer) → IsStart scope budget a
    → Adds (λ here later. policy_places_at here later always states) a b → always ≡ policy.always → states ≡ policy.states → scope ≡ scope_of policy → answers ≡ b.answers.items
    → AreAnswers (scope_of policy) (places_of policy) answers
all_answered scope policy always states budget a b answers start adds always_is states_is scope_is is =
    subst (λ x. AreAnswers (scope_of policy) (policy_places_at always_here never_here x policy.states) answers) always_is
    (subst (λ xs. AreAnswers (scope_of policy) (policy_places_at always_here never_here always xs) answers) states_is
    (subst (λ s. AreAnswers s (policy_places_at always_here never_here always states) answers) scope_is
    (subst (AreAnswers scope (policy_places_at always_here never_here always states)) (sym is)
    (subst (λ s. AreAnswers s (policy_places_at always_here never_here always states) b.answers.items) start.scope_is
    (adds always_here never_here (subst (IsHere always_here) (sym start.context) (λ facts. refl)) (subst (IsLater never_here) (sym start.last) (λ facts. refl)) []
    (subst (AreAnswers a.scope []) (sym start.answers) tt))))))

-- Of its budget, it has left no more than there was, and an answer is undecided only if it is used up.
pub all_paid : (scope : Scope) (budget : Budget) (a b : Walk) → IsStart scope budget a → StaysPaid a b → IsPaidWalk budget b
all_paid scope budget a b start h =
    h budget (record {
      spent = subst (IsSpent budget) (sym start.budget_is) (unspent budget);
      undecided = λ is_open. absurd (none_there (subst (λ xs. Contains xs answer.Undecided) start.answers is_open));
    })
  where
    none_there : Contains [] answer.Undecided → ⊥
    none_there c = let lt = c.1 in omega (arith, lt)
