-- Answers for places, one after the other.
use Rattle.std.proofs.Common.{◌⊎◌, ⊎_elim, get_or, ◌≡◌, ℕ, zero, suc, ◌+◌, ◌<◌, ◌≤◌, Bool, true, false, not, ◌&&◌, ◌||◌, List, [], ◌∷◌, ◌++◌, length, take, refl, sym, ap, ◌∙◌, subst, append_assoc, length-append, arith}
use Rattle.std.specs.List.{list_all, AllZip}
use Rattle.std.specs.Borrow.{Bor}
use Rattle.std.specs.Prelude.{Contains}
use Rattle.std.proofs.lemmas.List.{append-nil, take_more, take_all}
use Rattle.std.proofs.lemmas.List.Elements.{Contains-push_cases}
use Rattle.ifs_base.specs.Facts.{Facts}
use Rattle.ifs_parse.specs.Trees.{And, Or}
use Rattle.ifs_parse.specs.Views.{all_of, any_of, joined_of}
use Rattle.ifs_policy.specs.Meaning.{Condition, truth}
use Rattle.ifs_solver.specs.declared.answers.Answer.{Answer}
use Rattle.ifs_solver.specs.declared.answers.Answer.TheVariants as answers
use Rattle.ifs_solver.specs.declared.constraints.Constraint.{Constraint}
use Rattle.ifs_solver.specs.declared.constraints.Constraint.TheVariants.{Truth}
use Rattle.ifs_solver.specs.declared.fact_sets.Scope.{Scope}
use Rattle.ifs_solver.specs.declared.searching.Budget.{Budget}
use Rattle.ifs_solver.specs.declared.searching.Extent.{Extent}
use Rattle.ifs_solver.specs.declared.searching.Extent.TheVariants.{Somewhere, Nowhere, Undecided}
use Rattle.ifs_solver.specs.declared.walking.Walk.{Walk}
use Rattle.ifs_solver.specs.Asking.{is_signed, meets, meets_all, IsSomewhere, IsExtentOf}
use Rattle.ifs_solver.specs.Places.{Here, Place, Test, Command, where_is, is_chain, own_place, operand_places, condition_places, IsAnswerOf, AreAnswers}
use Rattle.ifs_solver.specs.inner.Answering.{condition_answer, command_answer}
use Rattle.ifs_solver.specs.Budgets.{IsSpent, IsUsedUp}
use Rattle.ifs_solver.specs.inner.Paying.{IsPaid}
use Rattle.ifs_solver.specs.inner.Walking.{IsHere, IsLater, IsBack, HasAsked, HasLeft, StaysPaid, Walked, IsInChain, chain_places}
use Rattle.ifs_solver.proofs.Paying.{still_used, more_used, spent_by_both, condition_paid, command_paid}

-- One more pair.
pub zip_push : {A B : Type 0} (R : A → B → Type 0) (xs : List A) (ys : List B) (x : A) (y : B) → AllZip R xs ys → R x y → AllZip R (xs ++ x ∷ []) (ys ++ y ∷ [])
zip_push R [] [] x y h r = (r, tt)
zip_push R [] (b ∷ bs) x y h r = absurd h
zip_push R (a ∷ xs) [] x y h r = absurd h
zip_push R (a ∷ xs) (b ∷ bs) x y h r = (h.0, zip_push R xs bs x y h.1 r)

-- Facts that meet one more constraint.
push_met : {X : Type 0} (p : X → Bool) (xs : List X) (x : X) → list_all p (xs ++ x ∷ []) ≡ (list_all p xs && p x)
push_met p [] x = and_true (p x)
  where
    and_true : (b : Bool) → (b && true) ≡ b
    and_true true = refl
    and_true false = refl
push_met p (y ∷ ys) x = ap (λ z. p y && z) (push_met p ys x) ∙ and_assoc (p y) (list_all p ys) (p x)
  where
    and_assoc : (a b c : Bool) → (a && (b && c)) ≡ ((a && b) && c)
    and_assoc true b c = refl
    and_assoc false b c = refl

pub one_more_met : (constraints : List Constraint) (constraint : Constraint) (facts : Facts) → meets_all (constraints ++ constraint ∷ []) facts ≡ (meets_all constraints facts && meets facts constraint)
one_more_met constraints constraint facts = push_met (meets facts) constraints constraint

truth_met : (facts : Facts) (condition : Bor Condition) (sign : Bool) → meets facts (Truth condition sign) ≡ is_signed sign (truth facts condition.now)
truth_met facts condition true = refl
truth_met facts condition false = refl

pub where_met : (here : Here) (constraints : List Constraint) (condition : Bor Condition) (sign : Bool) → IsHere here constraints → IsHere (where_is sign here condition.now) (constraints ++ Truth condition sign ∷ [])
where_met here constraints condition sign is facts =
    ap (λ h. h && is_signed sign (truth facts condition.now)) (is facts) ∙ ap (λ t. meets_all constraints facts && t) (sym (truth_met facts condition sign)) ∙ sym (one_more_met constraints (Truth condition sign) facts)

-- The same answer for a test that agrees.
pub extent_agrees : (scope : Scope) (test other : Facts → Bool) → ((facts : Facts) → test facts ≡ other facts) → (extent : Extent) → IsExtentOf scope other extent → IsExtentOf scope test extent
extent_agrees scope test other same Somewhere h = (h.0, h.1, same h.0 ∙ h.2)
extent_agrees scope test other same Nowhere h = λ facts are. same facts ∙ h facts are
extent_agrees scope test other same Undecided h = tt

-- The answer for a condition.
pub neither : (h t : Bool) → (h && t) ≡ false → (h && not t) ≡ false → h ≡ false
neither false t a b = refl
neither true true a b = a
neither true false a b = b

left_is : (h t : Bool) → (h && t) ≡ true → h ≡ true
left_is true t e = refl
left_is false t e = e

pub somewhere_there : (scope : Scope) (here there : Here) → IsSomewhere scope (λ facts. here facts && there facts) → IsSomewhere scope here
somewhere_there scope here there h = (h.0, h.1, left_is (here h.0) (there h.0) h.2)

pub condition_answered : (scope : Scope) (here : Here) (condition : Condition) (truth_at falsehood : Extent) → IsExtentOf scope (where_is true here condition) truth_at
    → IsExtentOf scope (where_is false here condition) falsehood → IsAnswerOf scope (Test here condition) (condition_answer truth_at falsehood)
condition_answered scope here condition Nowhere Nowhere a b = λ facts are. neither (here facts) (truth facts condition) (a facts are) (b facts are)
condition_answered scope here condition Nowhere Somewhere a b = (somewhere_there scope here (λ facts. not (truth facts condition)) b, a)
condition_answered scope here condition Somewhere Nowhere a b = (somewhere_there scope here (λ facts. truth facts condition) a, b)
condition_answered scope here condition Somewhere Somewhere a b = (a, b)
condition_answered scope here condition Undecided Somewhere a b = tt
condition_answered scope here condition Undecided Nowhere a b = tt
condition_answered scope here condition Undecided Undecided a b = tt
condition_answered scope here condition Nowhere Undecided a b = tt
condition_answered scope here condition Somewhere Undecided a b = tt

command_answered : (scope : Scope) (here : Here) (reached : Extent) → IsExtentOf scope here reached → IsAnswerOf scope (Command here) (command_answer reached)
command_answered scope here Nowhere h = h
command_answered scope here Somewhere h = h
command_answered scope here Undecided h = tt

-- Walks, one after the other.
pub back_again : (a b c : Walk) → IsBack a b → IsBack b c → IsBack a c
back_again a b c h k = record { scope = k.scope ∙ h.scope; others = k.others ∙ h.others; context = k.context ∙ h.context; last = k.last ∙ h.last }

pub asked_again : (a b c : Walk) → HasAsked a b → HasAsked b c → HasAsked a c
asked_again a b c h k = record { back = back_again a b c h.back k.back; answers = k.answers ∙ h.answers }

-- One answer more is paid.
pub record IsPaidFor (answer : Answer) (before after : Budget) : Type 0 where
  pub spent : IsSpent before after
  pub undecided : answer ≡ answers.Undecided → IsUsedUp before after

one_paid : (old new : Walk) (answer : Answer) → new.answers.items ≡ old.answers.items ++ answer ∷ [] → IsPaidFor answer old.budget new.budget → StaysPaid old new
one_paid old new answer more paid given h = record {
  spent = spent_by_both given old.budget new.budget h.spent paid.spent;
  undecided = λ is_open.
      ⊎_elim (λ c. still_used given old.budget new.budget paid.spent (h.undecided c)) (λ e. more_used given old.budget new.budget h.spent (paid.undecided e))
      (Contains-push_cases old.answers.items answer answers.Undecided (subst (λ xs. Contains xs answers.Undecided) more is_open));
}

-- What comes after it costs nothing.
pub paid_after : (a b c : Walk) → StaysPaid a b → c.budget ≡ b.budget → c.answers.items ≡ b.answers.items → StaysPaid a c
paid_after a b c h budget answers_are given paid = record {
  spent = subst (IsSpent given) (sym budget) (h given paid).spent;
  undecided = λ is_open. subst (IsUsedUp given) (sym budget) ((h given paid).undecided (subst (λ xs. Contains xs answers.Undecided) answers_are is_open));
}

-- One answer more.
pub adds_one : (place : Here → Here → Place) (old new : Walk) (answer : Answer) → IsBack old new → new.answers.items ≡ old.answers.items ++ answer ∷ [] → IsPaidFor answer old.budget new.budget
    → ((here later : Here) → IsHere here old.context.items → IsLater later old.last.items → IsAnswerOf old.scope (place here later) answer) → Walked (λ here later. place here later ∷ []) old new
adds_one place old new answer back more paid right = record {
  back = back;
  answers = λ here later is_here is_later told h.
      subst (AreAnswers old.scope (told ++ place here later ∷ [])) (sym more) (zip_push (IsAnswerOf old.scope) told old.answers.items (place here later) answer h (right here later is_here is_later));
  paid = one_paid old new answer more paid;
}

pub tested : (old mid new end : Walk) (condition : Bor Condition) (truth_at falsehood : Extent) → IsExtentOf old.scope (meets_all (old.context.items ++ Truth condition true ∷ [])) truth_at → HasAsked old mid
    → IsExtentOf mid.scope (meets_all (mid.context.items ++ Truth condition false ∷ [])) falsehood → HasAsked mid new → IsBack new end → end.answers.items ≡ new.answers.items ++ condition_answer truth_at falsehood ∷ []
    → IsPaid old.budget mid.budget truth_at → IsPaid mid.budget new.budget falsehood → end.budget ≡ new.budget → Walked (λ here later. Test here condition.now ∷ []) old end
tested old mid new end condition truth_at falsehood first one second two back more paid paid_too budget =
    let asked = asked_again old mid new one two in
    adds_one (λ here later. Test here condition.now) old end (condition_answer truth_at falsehood) (back_again old new end asked.back back) (more ∙ ap (λ xs. xs ++ condition_answer truth_at falsehood ∷ []) asked.answers)
    (subst (IsPaidFor (condition_answer truth_at falsehood) old.budget) (sym budget) (record {
      spent = spent_by_both old.budget mid.budget new.budget paid.spent paid_too.spent;
      undecided = condition_paid old.budget mid.budget new.budget truth_at falsehood paid paid_too;
    }))
    (λ here later is_here is_later.
    condition_answered old.scope here condition.now truth_at falsehood
    (extent_agrees old.scope (where_is true here condition.now) (meets_all (old.context.items ++ Truth condition true ∷ [])) (where_met here old.context.items condition true is_here) truth_at first)
    (extent_agrees old.scope (where_is false here condition.now) (meets_all (old.context.items ++ Truth condition false ∷ [])) (where_met here old.context.items condition false is_here) falsehood
    (subst (λ s. IsExtentOf s (meets_all (old.context.items ++ Truth condition false ∷ [])) falsehood) one.back.scope
    (subst (λ xs. IsExtentOf mid.scope (meets_all (xs ++ Truth condition false ∷ [])) falsehood) one.back.context second))))

pub commanded : (old end : Walk) (reached : Extent) → IsExtentOf old.scope (meets_all old.context.items) reached → IsBack old end → end.answers.items ≡ old.answers.items ++ command_answer reached ∷ []
    → IsPaid old.budget end.budget reached → Walked (λ here later. Command here ∷ []) old end
commanded old end reached h back more paid =
    adds_one (λ here later. Command here) old end (command_answer reached) back more (record { spent = paid.spent; undecided = command_paid old.budget end.budget reached paid })
    (λ here later is_here is_later. command_answered old.scope here reached (extent_agrees old.scope here (meets_all old.context.items) is_here reached h))

-- Places after others.
pub walked_nothing : (a : Walk) → Walked (λ here later. []) a a
walked_nothing a = record {
  back = record { scope = refl; others = refl; context = refl; last = refl };
  answers = λ here later is_here is_later told h. subst (λ xs. AreAnswers a.scope xs a.answers.items) (sym (append-nil told)) h;
  paid = λ given h. h;
}

pub walked_then : (p q : Here → Here → List Place) (a b c : Walk) → Walked p a b → Walked q b c → Walked (λ here later. p here later ++ q here later) a c
walked_then p q a b c one two = record {
  back = back_again a b c one.back two.back;
  answers = λ here later is_here is_later told h.
      subst (λ xs. AreAnswers a.scope xs c.answers.items) (append_assoc told (p here later) (q here later))
      (subst (λ s. AreAnswers s ((told ++ p here later) ++ q here later) c.answers.items) one.back.scope
      (two.answers here later (subst (IsHere here) (sym one.back.context) is_here) (subst (IsLater later) (sym one.back.last) is_later) (told ++ p here later)
      (subst (λ s. AreAnswers s (told ++ p here later) b.answers.items) (sym one.back.scope) (one.answers here later is_here is_later told h))));
  paid = λ given h. two.paid given (one.paid given h);
}

-- The place of one operand.
pub own_walked : (several : Bool) (operand : Bor Condition) (a b : Walk) → several ≡ false → Walked (λ here later. Test here operand.now ∷ []) a b → Walked (λ here later. own_place several here operand.now) a b
own_walked several operand a b e h = subst (λ own. Walked (λ here later. own_place own here operand.now) a b) (sym e) h

-- After its places a walk goes to where an operand does not decide.
pub into_chain : (deciding : Bool) (operand : Bor Condition) (places : Here → Here → List Place) (a b c : Walk) → Walked places a b → c.scope ≡ b.scope → c.others ≡ b.others → c.last.items ≡ b.last.items
    → c.answers.items ≡ b.answers.items → c.budget ≡ b.budget → c.context.items ≡ b.context.items ++ Truth operand (not deciding) ∷ [] → IsInChain deciding operand.now places a c
into_chain deciding operand places a b c h scope others last answers budget context =
    let grown : c.context.items ≡ a.context.items ++ Truth operand (not deciding) ∷ [] = context ∙ ap (λ xs. xs ++ Truth operand (not deciding) ∷ []) h.back.context in
    record {
      scope = scope ∙ h.back.scope;
      others = others ∙ h.back.others;
      context = ap (take (length a.context.items)) grown ∙ take_front a.context.items (Truth operand (not deciding) ∷ []);
      longer = let e = ap length grown in let l = length-append a.context.items (Truth operand (not deciding) ∷ []) in omega (arith, e, l);
      last = last ∙ h.back.last;
      met = λ facts. ap (λ xs. meets_all xs facts) grown ∙ one_more_met a.context.items (Truth operand (not deciding)) facts ∙ ap (λ t. meets_all a.context.items facts && t) (truth_met facts operand (not deciding));
      answers = λ here later is_here is_later told k. subst (AreAnswers a.scope (told ++ places here later)) (sym answers) (h.answers here later is_here is_later told k);
      paid = paid_after a b c h.paid budget answers;
    }
  where
    take_front : {X : Type 0} (xs ys : List X) → take (length xs) (xs ++ ys) ≡ xs
    take_front [] [] = refl
    take_front [] (y ∷ ys) = refl
    take_front (x ∷ xs) ys = ap (λ zs. x ∷ zs) (take_front xs ys)

-- The operator that one operand of a value decides.
abbrev pub join : Bool → Condition → Condition → Condition
join false left right = And left right
join true left right = Or left right

-- One more operand of a chain.
signed_join : (facts : Facts) (deciding : Bool) (left right : Condition) → is_signed (not deciding) (truth facts (join deciding left right)) ≡ (is_signed (not deciding) (truth facts left) && is_signed (not deciding) (truth facts right))
signed_join facts false left right = refl
signed_join facts true left right = de_morgan (truth facts left) (truth facts right)
  where
    de_morgan : (a b : Bool) → not (a || b) ≡ (not a && not b)
    de_morgan true b = refl
    de_morgan false b = refl

joined_places : (deciding : Bool) (here : Here) (left right : Condition)
    → chain_places deciding here left ++ condition_places (where_is (not deciding) here left) right ≡ chain_places deciding here (join deciding left right)
joined_places false here left right = refl
joined_places true here left right = refl

take_less : {X : Type 0} (n m : ℕ) (xs : List X) → n ≤ m → take n (take m xs) ≡ take n xs
take_less zero zero [] le = refl
take_less zero (suc m) [] le = refl
take_less (suc n) zero [] le = refl
take_less (suc n) (suc m) [] le = refl
take_less zero zero (x ∷ xs) le = refl
take_less zero (suc m) (x ∷ xs) le = refl
take_less (suc n) zero (x ∷ xs) le = absurd (omega (arith, le))
take_less (suc n) (suc m) (x ∷ xs) le = ap (λ zs. x ∷ zs) (take_less n m xs (omega (arith, le)))

take_take : {X : Type 0} (n : ℕ) (xs ys zs : List X) → take (length xs) zs ≡ xs → take n xs ≡ ys → n ≤ length xs → take n zs ≡ ys
take_take n xs ys zs e f le = sym (take_less n (length xs) zs le) ∙ ap (take n) e ∙ f

pub next_in_chain : (deciding : Bool) (left right : Condition) (a b c : Walk) → IsInChain deciding left (λ here later. chain_places deciding here left) a b
    → IsInChain deciding right (λ here later. condition_places here right) b c → IsInChain deciding (join deciding left right) (λ here later. chain_places deciding here (join deciding left right)) a c
next_in_chain deciding left right a b c one two = record {
  scope = two.scope ∙ one.scope;
  others = two.others ∙ one.others;
  context = take_take (length a.context.items) b.context.items a.context.items c.context.items two.context one.context one.longer;
  longer = let l = one.longer in let m = two.longer in omega (arith, l, m);
  last = two.last ∙ one.last;
  met = λ facts.
      two.met facts ∙ ap (λ x. x && is_signed (not deciding) (truth facts right)) (one.met facts)
      ∙ and_assoc (meets_all a.context.items facts) (is_signed (not deciding) (truth facts left)) (is_signed (not deciding) (truth facts right))
      ∙ ap (λ x. meets_all a.context.items facts && x) (sym (signed_join facts deciding left right));
  answers = λ here later is_here is_later told h.
      let there = where_is (not deciding) here left in
      let is_there : IsHere there b.context.items = λ facts. ap (λ x. x && is_signed (not deciding) (truth facts left)) (is_here facts) ∙ sym (one.met facts) in
      subst (λ xs. AreAnswers a.scope xs c.answers.items)
      (append_assoc told (chain_places deciding here left) (condition_places there right) ∙ ap (λ xs. told ++ xs) (joined_places deciding here left right))
      (subst (λ s. AreAnswers s ((told ++ chain_places deciding here left) ++ condition_places there right) c.answers.items) one.scope
      (two.answers there later is_there (subst (IsLater later) (sym one.last) is_later) (told ++ chain_places deciding here left)
      (subst (λ s. AreAnswers s (told ++ chain_places deciding here left) b.answers.items) (sym one.scope) (one.answers here later is_here is_later told h))));
  paid = λ given h. two.paid given (one.paid given h);
}
  where
    and_assoc : (a b c : Bool) → ((a && b) && c) ≡ (a && (b && c))
    and_assoc true b c = refl
    and_assoc false b c = refl

-- Back from a chain.
pub out_of_chain : (deciding : Bool) (whole condition : Condition) (depth : ℕ) (a b c : Walk) → whole ≡ condition → is_chain deciding condition ≡ true → depth ≡ length a.context.items
    → IsInChain deciding condition (λ here later. chain_places deciding here condition) a b → HasLeft depth b c → Walked (λ here later. operand_places here whole) a c
out_of_chain deciding whole condition depth a b c same chain deep h left = record {
  back = record { scope = left.scope ∙ h.scope; others = left.others ∙ h.others; context = left.context ∙ ap (λ n. take n b.context.items) deep ∙ h.context; last = left.last ∙ h.last };
  answers = λ here later is_here is_later told k.
      subst (λ x. AreAnswers a.scope (told ++ operand_places here x) c.answers.items) (sym same)
      (subst (λ own. AreAnswers a.scope (told ++ (own_place own here condition ++ operand_places here condition)) c.answers.items) chain
      (subst (AreAnswers a.scope (told ++ chain_places deciding here condition)) (sym left.answers) (h.answers here later is_here is_later told k)));
  paid = paid_after a b c h.paid left.budget left.answers;
}

-- The chain of some operands.
abbrev pub chain_so_far : Bool → Condition → Condition → List Condition → Condition
chain_so_far deciding first second rest = joined_of (join deciding) (join deciding first second) rest

joined_push : (join : Condition → Condition → Condition) (first : Condition) (rest : List Condition) (next : Condition) → joined_of join first (rest ++ next ∷ []) ≡ join (joined_of join first rest) next
joined_push join first [] next = refl
joined_push join first (x ∷ rest) next = joined_push join (join first x) rest next

pub so_far_is_chain : (deciding : Bool) (first second : Condition) (rest : List Condition) → is_chain deciding (chain_so_far deciding first second rest) ≡ true
so_far_is_chain false first second [] = refl
so_far_is_chain true first second [] = refl
so_far_is_chain false first second (x ∷ rest) = so_far_is_chain false (And first second) x rest
so_far_is_chain true first second (x ∷ rest) = so_far_is_chain true (Or first second) x rest

-- A node of several operands is a chain of its sign, and not of the other one.
pub all_is_chain : (deciding : Bool) (first second : Condition) (rest : List Condition) → is_chain deciding (all_of (And first second) rest) ≡ not deciding
all_is_chain false first second [] = refl
all_is_chain true first second [] = refl
all_is_chain deciding first second (x ∷ rest) = all_is_chain deciding (And first second) x rest

pub any_is_chain : (deciding : Bool) (first second : Condition) (rest : List Condition) → is_chain deciding (any_of (Or first second) rest) ≡ deciding
any_is_chain false first second [] = refl
any_is_chain true first second [] = refl
any_is_chain deciding first second (x ∷ rest) = any_is_chain deciding (Or first second) x rest

-- The condition of a node is the chain of its operands.
pub whole_chain : {N : Type 0} (view : N → Condition) (sign : N → Bool) (node all any : N) (c first second : Condition) (rest : List Condition) (deciding : Bool) → (node ≡ all) ⊎ (node ≡ any)
    → view all ≡ all_of (And first second) rest → view any ≡ any_of (Or first second) rest → sign all ≡ false → sign any ≡ true → c ≡ view node → deciding ≡ sign node
    → c ≡ chain_so_far deciding first second rest
whole_chain view sign node all any c first second rest deciding is all_is any_is both either c_is d_is =
    ⊎_elim
    (λ e. c_is ∙ ap view e ∙ all_is ∙ ap (λ d. chain_so_far d first second rest) (sym (d_is ∙ ap sign e ∙ both)))
    (λ e. c_is ∙ ap view e ∙ any_is ∙ ap (λ d. chain_so_far d first second rest) (sym (d_is ∙ ap sign e ∙ either)))
    is

-- One more operand, after any others.
pub chain_goes_on : (deciding : Bool) (before : Condition) (a b c : Walk) (rest : List Condition) (i : ℕ) (next : Condition) → i < length rest → next ≡ get_or rest i next
    → IsInChain deciding (joined_of (join deciding) before (take i rest)) (λ here later. chain_places deciding here (joined_of (join deciding) before (take i rest))) a b
    → IsInChain deciding next (λ here later. condition_places here next) b c
    → IsInChain deciding (joined_of (join deciding) before (take (i + 1) rest)) (λ here later. chain_places deciding here (joined_of (join deciding) before (take (i + 1) rest))) a c
chain_goes_on deciding before a b c rest i next lt at h k =
    let so_far = joined_of (join deciding) before (take i rest) in
    let more : joined_of (join deciding) before (take (i + 1) rest) ≡ join deciding so_far next =
    ap (joined_of (join deciding) before) (take_more rest i next lt ∙ ap (λ x. take i rest ++ x ∷ []) (sym at)) ∙ joined_push (join deciding) before (take i rest) next in
    subst (λ p. IsInChain deciding p (λ here later. chain_places deciding here p) a c) (sym more) (next_in_chain deciding so_far next a b c h k)

pub all_of_chain : (deciding : Bool) (whole first second x y : Condition) (items rest : List Condition) (i : ℕ) → whole ≡ chain_so_far deciding x y rest → first ≡ x → second ≡ y → items ≡ rest → length items ≤ i
    → whole ≡ chain_so_far deciding first second (take i items)
all_of_chain deciding whole first second x y items rest i is x_is y_is items_is all =
    is ∙ ap (λ z. chain_so_far deciding z y rest) (sym x_is) ∙ ap (λ z. chain_so_far deciding first z rest) (sym y_is) ∙ ap (λ zs. chain_so_far deciding first second zs) (sym (take_all i items all ∙ items_is))
