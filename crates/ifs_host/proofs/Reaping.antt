-- Looking at programs past their limits, one after the other.
use Rattle.std.proofs.Common.{◌≡◌, ℕ, ◌+◌, ◌<◌, ◌≤◌, not, Bool, List, [], ◌∷◌, ◌++◌, length, Option, None, Some, map, remove, get_or}
use Rattle.std.proofs.Common.{refl, ap, sym, subst, ◌∙◌, arith, append_assoc, append-nil}
use Rattle.std.proofs.lemmas.List.{length-append, length-map, length_push, map_push, flat_map_more, nil_from_length}
use Rattle.ifs_host.specs.declared.runner.RunnerEvent.TheVariants.{Reaped}
use Rattle.ifs_host.specs.Runners.{RunnerLog, RunnerTells, reaped_once}
use Rattle.ifs_host.specs.Children.{Program, if_stays, Looks, not_gone, all_reaped, all_run, FindsNone}
use Rattle.ifs_host.specs.inner.Looking.{LooksAtFirst, HasReaped, AreReaped}
use Rattle.ifs_host.proofs.Waiting.{tells_both}

-- The first program of a list comes before those that are left without it.
pub first_of : {A : Type 0} (f : A → Program) (xs : List A) (x : A) → 0 < length xs → x ≡ get_or xs 0 x
    → map f xs ≡ f x ∷ map f (remove xs 0)
first_of f [] x some is = absurd (omega (arith, some))
first_of f (y ∷ ys) x some is = ap (λ z. f z ∷ map f ys) (sym is)

-- A runner that was not called has the log that it had.
tells_nothing : (a : Option RunnerLog) → RunnerTells [] a a
tells_nothing None = tt
tells_nothing (Some log) = sym (append-nil log)

-- No program was looked at yet.
pub none_reaped : (programs : List Program) (a : Option RunnerLog) → HasReaped 0 programs programs a a
none_reaped programs a =
    record { looks = []; rest = programs; counted = refl; stood = refl; left = sym (append-nil programs); log = tells_nothing a }

-- One more program was looked at.
more : (n : ℕ) (before at after : List Program) (looks : Looks) (rest : List Program) (a b c : Option RunnerLog)
    → length looks ≡ n → before ≡ map (λ (it : Program × Bool). it.0) looks ++ rest → at ≡ rest ++ not_gone looks
    → RunnerTells (all_reaped looks) a b → n < length before → LooksAtFirst at after b c → HasReaped (n + 1) before after a c
more n before at after looks [] a b c counted stood left log under look =
    absurd (omega (arith, under, counted, ap length stood, length-append (map (λ (it : Program × Bool). it.0) looks) [], length-map looks (λ (it : Program × Bool). it.0)))
more n before at after looks (program ∷ rest) a b c counted stood left log under look =
    let both : look.program ∷ look.rest ≡ program ∷ (rest ++ not_gone looks) = sym look.stood ∙ left in
    let head : look.program ≡ program = cc in
    let tail : look.rest ≡ rest ++ not_gone looks = cc in
    record {
      looks = looks ++ (program, look.gone) ∷ [];
      rest = rest;
      counted = length_push looks (program, look.gone) ∙ ap (λ (k : ℕ). k + 1) counted;
      stood =
          stood ∙ sym (append_assoc (map (λ (it : Program × Bool). it.0) looks) (program ∷ []) rest)
          ∙ ap (λ (l : List Program). l ++ rest) (sym (map_push (λ (it : Program × Bool). it.0) looks (program, look.gone)));
      left =
          look.left ∙ ap (λ (l : List Program). l ++ if_stays (not look.gone) look.program) tail
          ∙ ap (λ (p : Program). (rest ++ not_gone looks) ++ if_stays (not look.gone) p) head
          ∙ flat_map_more (λ (it : Program × Bool). if_stays (not it.1) it.0) rest looks (program, look.gone);
      log =
          subst (λ (l : RunnerLog). RunnerTells l a c) (sym (map_push (λ (it : Program × Bool). Reaped it.0.1 it.1) looks (program, look.gone)))
          (tells_both _ _ a b c log (subst (λ (p : Program). RunnerTells (reaped_once p.1 look.gone) b c) head look.log));
    }

pub one_more_reaped : (n : ℕ) (before at after : List Program) (a b c : Option RunnerLog)
    → HasReaped n before at a b → n < length before → LooksAtFirst at after b c → HasReaped (n + 1) before after a c
one_more_reaped n before at after a b c has under look =
    more n before at after has.looks has.rest a b c has.counted has.stood has.left has.log under look

-- As long as not all were looked at, there is one at the front.
pub some_left : (n : ℕ) (before at : List Program) (a b : Option RunnerLog)
    → HasReaped n before at a b → n < length before → 0 < length at
some_left n before at a b has under =
    omega (
      arith,
      under,
      has.counted,
      ap length has.stood,
      length-append (map (λ (it : Program × Bool). it.0) has.looks) has.rest,
      length-map has.looks (λ (it : Program × Bool). it.0),
      ap length has.left,
      length-append has.rest (not_gone has.looks),
    )

-- All programs were looked at.
pub all_looked_at : (n : ℕ) (before after : List Program) (a b : Option RunnerLog)
    → HasReaped n before after a b → length before ≤ n → AreReaped before after a b
all_looked_at n before after a b has over =
    let none : has.rest ≡ [] =
    nil_from_length has.rest (omega (
      arith,
      over,
      has.counted,
      ap length has.stood,
      length-append (map (λ (it : Program × Bool). it.0) has.looks) has.rest,
      length-map has.looks (λ (it : Program × Bool). it.0),
    )) in
    record {
      looks = has.looks;
      each = sym (has.stood ∙ ap (λ (l : List Program). map (λ (it : Program × Bool). it.0) has.looks ++ l) none ∙ append-nil (map (λ (it : Program × Bool). it.0) has.looks));
      left = has.left ∙ ap (λ (l : List Program). l ++ not_gone has.looks) none;
      log = has.log;
    }

-- All programs run, and those past their limits were looked at.
pub finds_none : (running late running' late' : List Program) (a b c : Option RunnerLog)
    → running' ≡ running → RunnerTells (all_run running) a b → AreReaped late late' b c
    → FindsNone running late running' late' a c
finds_none running late running' late' a b c same log reaped =
    record {
      same = same;
      looks = reaped.looks;
      each = reaped.each;
      left = reaped.left;
      log = tells_both _ _ a b c log reaped.log;
    }
