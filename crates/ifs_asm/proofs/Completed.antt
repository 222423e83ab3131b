-- What lines build can be completed to an image: the missing lines exist.
use Rattle.std.proofs.Common.{◌≡◌, ◌≢◌, ℕ, zero, suc, ◌+◌, ◌-◌, ◌<◌, ◌≤◌, List, [], ◌∷◌, ◌++◌, length, map}
use Rattle.std.proofs.Common.{Option, Some, None, refl, sym, ap, subst, ◌∙◌, arith, append_assoc}
use Rattle.std.specs.Prelude.{option_and_then, slice_index}
use Rattle.std.specs.List.{AllByRecursion}
use Rattle.std.proofs.lemmas.Option.{option_and_then_some, same_Some, none-some}
use Rattle.std.proofs.lemmas.List.{append-nil}
use Rattle.std.proofs.lemmas.List.Elements.{All-from_recursion}
use Rattle.std.proofs.lemmas.Str.{IsUtf8-from_ascii}
use Rattle.ifs_image.specs.declared.parts.Handlers.{Handlers}
use Rattle.ifs_image.specs.declared.parts.StateSpec.{StateSpec}
use Rattle.ifs_image.specs.Limits.{HandlersInRange}
use Rattle.ifs_asm.specs.declared.line.Line.{Line}
use Rattle.ifs_asm.specs.declared.line.Line.TheVariants as lines
use Rattle.ifs_asm.specs.declared.line.Version.TheVariants.{One}
use Rattle.ifs_asm.specs.Refused.{LinesGoOn, speaking}
use Rattle.ifs_asm.specs.inner.Building.{Built, parts_said, lines_said, with_line, one_line_more, built_by}
use Rattle.ifs_asm.specs.inner.Building.{built_of, nothing}
use Rattle.ifs_asm.specs.Refused.{TextGood, LineFits}
use Rattle.ifs_asm.proofs.TextLaws.{LineWritten, bare, lines_say}
use Rattle.ifs_asm.proofs.BuildAgain.{image_built, step_taken, built_append}
use Rattle.ifs_asm.proofs.BuildFound.{Sound, step_said, built_said, nothing_sound, front_is, full_front, image_said}
use Rattle.ifs_asm.proofs.BuildFits.{built_fits}
use Rattle.ifs_asm.proofs.ImageLaws.{built_same, lines_fit, range_of, each_parts}
use Rattle.ifs_asm.proofs.Steps.{by_append}

-- ---- the lines that are missing

-- Further lines can be written, and build a state.
record Completes (b : Built) : Type 0 where
  others : List Line
  after : Built
  fit : AllByRecursion LineFits others
  written : AllByRecursion LineWritten others
  built : built_of b others ≡ Some after
  some : 1 ≤ length after.states

first_line : (b : Built) (l : Line) → one_line_more b l ≡ Some (with_line b l) → LineFits l → LineWritten l → Completes (with_line b l) → Completes b
first_line b l one fits written c = record {
  others = l ∷ c.others;
  after = c.after;
  fit = (fits, c.fit);
  written = (written, c.written);
  built = ap (option_and_then (λ next. built_of next c.others)) one ∙ c.built;
  some = c.some;
}

abbrev no_tests : Handlers
no_tests = record { init = record { 0 = 0 }; body = record { 0 = 0 }; mask = 0 }

abbrev one_state : StateSpec
one_state = record { name = 97 ∷ []; handlers = no_tests }

no_tests_small : HandlersInRange no_tests
no_tests_small = record { init = omega arith; body = omega arith; mask = omega arith }

one_byte : (i : ℕ) → slice_index (97 ∷ []) i < 128
one_byte zero = omega arith
one_byte (suc i) = omega arith

state_good : TextGood one_state.name
state_good = record {
  fits = record { not_empty = omega arith; within = omega arith; no_nul = All-from_recursion (λ (byte : ℕ). byte ≢ 0) one_state.name ((λ e. absurd cc), tt) };
  utf8 = IsUtf8-from_ascii one_state.name one_byte;
}

with_state : (b : Built) → b.states ≡ [] → Completes (with_line b (lines.State one_state))
with_state b none = record { others = []; after = with_line b (lines.State one_state); fit = tt; written = tt; built = refl; some = rw none (omega arith) }

from_seven : (b : Built) → b.front ≡ 7 → b.states ≡ [] → b.current ≡ None → Completes b
from_seven b at none closed =
    let s = step_taken b (lines.State one_state) (rw none refl) (rw none refl) (rw (at, closed) refl) in
    first_line b (lines.State one_state) s (state_good, no_tests_small) (tt, ((omega arith, tt), (tt, (omega arith, (tt, (omega arith, (tt, (tt, tt)))))))) (with_state b none)

-- This many lines before the tables are missing, and come one after the other.
from_front : (left n : ℕ) (b : Built) → left + n ≡ 7 → b.front ≡ n → b.states ≡ [] → b.current ≡ None → Completes b
from_front zero n b all at none closed = from_seven b (omega (arith, at, all)) none closed
from_front (suc left) zero b all at none closed =
    let l = lines.Version One in
    first_line b l (step_taken b l refl refl (rw at refl)) tt (tt, (tt, tt)) (from_front left 1 (with_line b l) (omega (arith, all)) refl none closed)
from_front (suc left) (suc zero) b all at none closed =
    let l = lines.Stack 0 in
    first_line b l (step_taken b l refl refl (rw at refl)) (omega arith) (tt, (omega arith, tt)) (from_front left 2 (with_line b l) (omega (arith, all)) refl none closed)
from_front (suc left) (suc (suc zero)) b all at none closed =
    let l = lines.Frames 0 in
    first_line b l (step_taken b l refl refl (rw at refl)) (omega arith) (tt, (omega arith, tt)) (from_front left 3 (with_line b l) (omega (arith, all)) refl none closed)
from_front (suc left) (suc (suc (suc zero))) b all at none closed =
    let l = lines.Cost 0 in
    first_line b l (step_taken b l refl refl (rw at refl)) (omega arith) (tt, (omega arith, tt)) (from_front left 4 (with_line b l) (omega (arith, all)) refl none closed)
from_front (suc left) (suc (suc (suc (suc zero)))) b all at none closed =
    let l = lines.Commands 0 in
    first_line b l (step_taken b l refl refl (rw at refl)) (omega arith) (tt, (omega arith, tt)) (from_front left 5 (with_line b l) (omega (arith, all)) refl none closed)
from_front (suc left) (suc (suc (suc (suc (suc zero))))) b all at none closed =
    let l = lines.Start (record { 0 = 0 }) in
    first_line b l (step_taken b l refl refl (rw at refl)) (omega arith) (tt, (omega arith, tt)) (from_front left 6 (with_line b l) (omega (arith, all)) refl none closed)
from_front (suc left) (suc (suc (suc (suc (suc (suc zero)))))) b all at none closed =
    let l = lines.Always no_tests in
    first_line b l (step_taken b l refl refl (rw at refl)) no_tests_small (tt, (tt, (omega arith, (tt, (omega arith, (tt, (tt, tt))))))) (from_front left 7 (with_line b l) (omega (arith, all)) refl none closed)
from_front (suc left) (suc (suc (suc (suc (suc (suc (suc n))))))) b all at none closed = absurd (omega (arith, all))

from_states : (s : List StateSpec) (b : Built) → b.states ≡ s → Sound b → Completes b
from_states [] b none sound = from_front (7 - b.front) b.front b (omega (arith, sound.front)) refl none (sound.current none)
from_states (x ∷ xs) b some sound = record { others = []; after = b; fit = tt; written = tt; built = refl; some = rw some (omega arith) }

-- ---- lines that go on

-- What lines say after further lines.
record MoreSaid (b c : Built) (ls : List Line) : Type 0 where
  sound : Sound c
  lines : lines_said c ≡ lines_said b ++ ls

more_said : (b c : Built) (ls : List Line) → Sound b → built_of b ls ≡ Some c → MoreSaid b c ls
more_said b c [] s h = record { sound = subst Sound (same_Some b c h) s; lines = ap lines_said (sym (same_Some b c h)) ∙ sym (append-nil (lines_said b)) }
more_said b c (l ∷ ls) s h =
    option_and_then_some (λ next. built_of next ls) (one_line_more b l) c h (λ next is_next rest.
    let one = step_said b next l s is_next in
    let all = more_said next c ls one.sound rest in
    record { sound = all.sound; lines = all.lines ∙ ap (λ (k : List Line). k ++ ls) one.lines ∙ append_assoc (lines_said b) (l ∷ []) ls })

-- Lines go on from what they build.
pub record GoesOn (done : List (List ℕ)) (b : Built) : Type 0 where
  pub go_on : LinesGoOn done
  pub said_is : lines_said b ≡ go_on.said

pub goes_on : (done : List (List ℕ)) (b : Built) → built_by nothing (speaking done) ≡ Some b → GoesOn done b
goes_on done b h =
    let a = built_said nothing b (speaking done) nothing_sound h in
    let c = from_states b.states b refl a.sound in
    let m = more_said b c.after c.others a.sound c.built in
    let bytes = speaking done ++ map bare c.others in
    let again : built_by b (map bare c.others) ≡ built_of b c.others = built_same (map bare c.others) c.others b (lines_say c.others c.written) c.fit in
    let all : built_by nothing bytes ≡ Some c.after = by_append (speaking done) (map bare c.others) nothing ∙ ap (option_and_then (λ next. built_by next (map bare c.others))) h ∙ again ∙ c.built in
    let p = parts_said c.after in
    record {
      go_on = record {
        said = a.more;
        says = a.says;
        begin = record {
          image = p;
          fits = built_fits c.after bytes all c.some;
          in_range = range_of p (built_fits c.after bytes all c.some) (image_said c.after bytes all c.some).fit;
          others = c.others;
          whole = sym (full_front c.after (front_is c.after m.sound c.some)) ∙ m.lines ∙ ap (λ (ls : List Line). ls ++ c.others) a.lines;
        };
      };
      said_is = a.lines;
    }

-- ---- lines that do not

front_case : (o : Option Built) (after : Built) (ls : List Line) → option_and_then (λ next. built_of next ls) o ≡ Some after → o ≡ None → ⊥
front_case None after ls h e = none-some after h
front_case (Some b) after ls h e = absurd cc

pub never_goes_on : (lines : List (List ℕ)) → built_by nothing (speaking lines) ≡ None → LinesGoOn lines → ⊥
never_goes_on lines none g =
    let p = g.begin.image in
    let built = image_built p g.begin.fits in
    let fit = (each_parts LineFits g.said g.begin.others (subst (AllByRecursion LineFits) g.begin.whole (lines_fit p g.begin.fits g.begin.in_range))).0 in
    let same : built_by nothing (speaking lines) ≡ built_of nothing g.said = built_same (speaking lines) g.said nothing g.says fit in
    let whole : option_and_then (λ next. built_of next g.begin.others) (built_of nothing g.said) ≡ Some built.after =
    sym (built_append nothing g.said g.begin.others) ∙ ap (built_of nothing) (sym g.begin.whole) ∙ built.built in
    front_case (built_of nothing g.said) built.after g.begin.others whole (sym same ∙ none)
