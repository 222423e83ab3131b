-- Looking at programs that run, and taking one out.
use Rattle.std.proofs.Common.{◌≡◌, ℕ, zero, suc, ◌+◌, ◌<◌, Bool, List, [], ◌∷◌, ◌++◌, length, take, drop}
use Rattle.std.proofs.Common.{Option, Some, None}
use Rattle.std.proofs.Common.{map, remove, get_or, refl, ap, sym, subst, ◌∙◌, arith, rules, append_assoc}
use Rattle.std.proofs.lemmas.List.{length-map, map_more, get_or-map, append_cancel_left}
use Rattle.ifs_sched.specs.declared.start.Start.{Start}
use Rattle.ifs_host.specs.declared.runner.ProgramStatus.{ProgramStatus}
use Rattle.ifs_host.specs.declared.runner.ProgramStatus.TheVariants.{Runs, Succeeded, Failed, Late, Lost}
use Rattle.ifs_host.specs.declared.runner.RunnerEvent.TheVariants.{Asked}
use Rattle.ifs_host.specs.Runners.{RunnerLog, RunnerTells, asked_once, test_value, reached_limit}
use Rattle.ifs_host.specs.Children.{Program, all_run, if_stays, IsFirstEnded}
use Rattle.ifs_host.specs.inner.Looking.{IsFound, Takes}

-- The log of a runner after some calls and then others.
pub tells_both : (more last : RunnerLog) (a b c : Option RunnerLog) → RunnerTells more a b → RunnerTells last b c → RunnerTells (more ++ last) a c
tells_both more last a b None p q = tt
tells_both more last a None (Some z) p q = absurd q
tells_both more last None (Some y) (Some z) p q = absurd p
tells_both more last (Some x) (Some y) (Some z) p q = q ∙ ap (λ log. log ++ last) p ∙ append_assoc x more last

-- A program without a value still runs.
pub still_runs : (answer : ProgramStatus) → test_value answer ≡ None → answer ≡ Runs
still_runs Runs none = refl
still_runs Succeeded none = search (rules, none)
still_runs Failed none = search (rules, none)
still_runs Late none = search (rules, none)
still_runs Lost none = search (rules, none)

-- A list is split at the place of a value.
pub parted : {X : Type 0} (xs : List X) (i : ℕ) (x : X) → i < length xs → x ≡ get_or xs i x → xs ≡ take i xs ++ x ∷ drop (suc i) xs
parted [] i x under is = absurd (omega (arith, under))
parted (y ∷ ys) zero x under is = ap (λ z. z ∷ ys) (sym is)
parted (y ∷ ys) (suc i) x under is = ap (λ l. y ∷ l) (parted ys i x (omega (arith, under)) is)

-- Removing an item commutes with a map.
pub map_removed : {X Y : Type 0} (f : X → Y) (xs : List X) (i : ℕ) → map f (remove xs i) ≡ remove (map f xs) i
map_removed f [] zero = refl
map_removed f [] (suc i) = refl
map_removed f (x ∷ xs) zero = refl
map_removed f (x ∷ xs) (suc i) = ap (λ l. f x ∷ l) (map_removed f xs i)

-- The image of an item under a map, after steps that kept the images.
pub stands_at : {A : Type 0} (f : A → Program) (old now : List A) (i : ℕ) (d : A) → map f now ≡ map f old → i < length now
    → f (get_or now i d) ≡ get_or (map f old) i (f (get_or now i d))
stands_at f old now i d same under =
    sym (get_or-map f now i d (f (get_or now i d)) under) ∙ ap (λ l. get_or l i (f (get_or now i d))) same

-- A map keeps the length.
pub stands_under : {A : Type 0} (f : A → Program) (old : List A) (i : ℕ) → i < length old → i < length (map f old)
stands_under f old i under = omega (arith, under, length-map old f)

-- Steps that kept the images kept the length.
pub under_now : {A : Type 0} (f : A → Program) (old now : List A) (i : ℕ) → map f now ≡ map f old → i < length old → i < length now
under_now f old now i same under =
    let less : i < length (map f now) = subst (λ l. i < length l) (sym same) (stands_under f old i under) in
    omega (arith, less, length-map now f)

-- The first program that has a value is found.
pub first_found : {A : Type 0} (f : A → Program) (old now : List A) (i : ℕ) (d : A) (value : Bool) (answer : ProgramStatus)
    (a b c : Option RunnerLog) → map f now ≡ map f old → i < length old → test_value answer ≡ Some value
    → RunnerTells (all_run (take i (map f old))) a b → RunnerTells (asked_once (f (get_or now i d)).1 answer) b c
    → IsFound i answer value (map f old) a c
first_found f old now i d value answer a b c same under ended before last =
    let it = f (get_or now i d) in
    let stands : it ≡ get_or (map f old) i it = stands_at f old now i d same (under_now f old now i same under) in
    record {
      program = it;
      stood = parted (map f old) i it (stands_under f old i under) stands;
      value_is = ended;
      log = tells_both _ _ a b c before last;
    }

-- One more program still runs.
pub one_more_runs : {A : Type 0} (f : A → Program) (old now : List A) (i : ℕ) (d : A) (answer : ProgramStatus)
    (a b c : Option RunnerLog) → map f now ≡ map f old → i < length old → test_value answer ≡ None
    → RunnerTells (all_run (take i (map f old))) a b → RunnerTells (asked_once (f (get_or now i d)).1 answer) b c
    → RunnerTells (all_run (take (i + 1) (map f old))) a c
one_more_runs f old now i d answer a b c same under none before last =
    let it = f (get_or now i d) in
    let stands : it ≡ get_or (map f old) i it = stands_at f old now i d same (under_now f old now i same under) in
    let more : all_run (take i (map f old)) ++ asked_once it.1 answer ≡ all_run (take (i + 1) (map f old)) =
    ap (λ r. all_run (take i (map f old)) ++ asked_once it.1 r) (still_runs answer none)
    ∙ ap (λ p. all_run (take i (map f old)) ++ asked_once p.1 Runs) stands
    ∙ sym (map_more (λ p. Asked p.1 Runs) (map f old) i it (stands_under f old i under)) in
    subst (λ log. RunnerTells log a c) more (tells_both _ _ a b c before last)

-- The program at an index is taken out of those that run.
pub taken : {A : Type 0} (f : A → Program) (old now : List A) (i : ℕ) (it : A) (answer : ProgramStatus) (late late' : List Program)
    → i < length old → it ≡ get_or old i it → now ≡ remove old i → late' ≡ late ++ if_stays (reached_limit answer) (f it)
    → Takes i answer (f it).0 (map f old) late (map f now) late'
taken f old now i it answer late late' under is removed kept =
    record {
      number = (f it).1;
      stood = parted (map f old) i (f it) (stands_under f old i under) (ap f is ∙ sym (get_or-map f old i it (f it) under));
      left = ap (map f) removed ∙ map_removed f old i;
      past_limit = kept;
    }

-- The program that was found is the one that was taken out, and so it is the first that has ended.
pub found_ends : (ended : Start × Bool) (i : ℕ) (answer : ProgramStatus) (value : Bool) (running late running' late' : List Program)
    (a b : Option RunnerLog) → IsFound i answer value running a b → Takes i answer ended.0 running late running' late'
    → ended.1 ≡ value → IsFirstEnded ended running late running' late' a b
found_ends ended i answer value running late running' late' a b found takes is =
    let tails : found.program ∷ drop (suc i) running ≡ (ended.0, takes.number) ∷ drop (suc i) running =
    append_cancel_left (take i running) _ _ (sym found.stood ∙ takes.stood) in
    let same : found.program ≡ (ended.0, takes.number) = cc in
    record {
      front = take i running;
      number = takes.number;
      rest = drop (suc i) running;
      answer = answer;
      stood = takes.stood;
      left = takes.left;
      past_limit = takes.past_limit;
      value = found.value_is ∙ ap Some (sym is);
      log =
          subst (λ (it : Program). RunnerTells (all_run (take i running) ++ asked_once it.1 answer) a b) same found.log;
    }
