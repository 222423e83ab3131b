-- An image of version 1 and its upgrade mean the same.
use Rattle.std.proofs.Common.{◌≡◌, ◌≤◌, refl, sym, ◌∙◌, subst, arith, inl}
use Rattle.std.proofs.lemmas.List.Elements.{All-weaker}
use Rattle.ifs_image.specs.declared.parts.ImageParts.{ImageParts}
use Rattle.ifs_image.specs.Limits.{Fits, InRange, RoutineFits, instructions, code_limit}
use Rattle.ifs_image.specs.Spelling.{Spells, image_bytes}
use Rattle.ifs_image.specs.Upgrade.{upgraded}
use Rattle.ifs_verify.specs.Bounds.{commands_of}
use Rattle.ifs_verify.specs.Laws.{UpgradeKeepsAcceptance}
use Rattle.ifs_machine.specs.Run.{UpgradeKeepsRuns}
use Rattle.ifs_core.specs.Event.{Handler, AlwaysInit, Behaviour}
use Rattle.ifs_core.specs.Machine.{routine_of, IsBehaviour}
use Rattle.ifs_core.specs.UpgradeKeeps.{with_budgets, MeansTheSame, UpgradeKeeps, UpgradeKeepsBytes}

upgraded_fits : (image : ImageParts) → Fits image → image.version ≡ 1 → Fits (upgraded image)
upgraded_fits image fits first =
    let few : instructions image.routines ≤ 8192 = subst (λ v. instructions image.routines ≤ code_limit v) first fits.routines.together in
    record {
      version = (omega arith, omega arith);
      budgets = fits.budgets;
      counts = record {
        interfaces = fits.counts.interfaces;
        tests = fits.counts.tests;
        commands = fits.counts.commands;
        some_state = fits.counts.some_state;
        states = fits.counts.states;
        routines = fits.counts.routines;
      };
      interfaces = fits.interfaces;
      tests = fits.tests;
      commands = fits.commands;
      states = fits.states;
      routines = record {
        each = All-weaker (RoutineFits image.version) (RoutineFits 2) (λ r of. record { kinds = inl refl; code = of.code }) image.routines fits.routines.each;
        together = omega (arith, few);
      };
    }

upgraded_in_range : (image : ImageParts) → InRange image → InRange (upgraded image)
upgraded_in_range image in_range = record {
  initial = in_range.initial;
  always = in_range.always;
  interfaces = in_range.interfaces;
  tests = in_range.tests;
  commands = in_range.commands;
  states = in_range.states;
  routines = in_range.routines;
}

routine_same : (image : ImageParts) (handler : Handler) → routine_of (upgraded image) handler ≡ routine_of image handler
routine_same image AlwaysInit = refl
routine_same image handler = refl

module _ (alike : UpgradeKeepsAcceptance) (same : UpgradeKeepsRuns) (image : ImageParts) where
  behaviour_after : (b : Behaviour) → IsBehaviour image b → IsBehaviour (upgraded image) b
  behaviour_after b is = record {
    always = is.always;
    active = is.active;
    runs = λ handler routine facts before at given room.
        let bound = (alike image).amounts commands_of room.0 in
        same image facts routine before (b.cost handler facts)
        ∙ is.runs handler routine facts before (sym (routine_same image handler) ∙ at) (record { links = given.links; tests = given.tests }) (room.0, bound.1 room.1, room.2);
  }

  behaviour_before : (b : Behaviour) → IsBehaviour (upgraded image) b → IsBehaviour image b
  behaviour_before b is = record {
    always = is.always;
    active = is.active;
    runs = λ handler routine facts before at given room.
        let bound = (alike image).amounts commands_of room.0 in
        sym (same image facts routine before (b.cost handler facts))
        ∙ is.runs handler routine facts before (routine_same image handler ∙ at) (record { links = given.links; tests = given.tests }) (room.0, bound.0 room.1, room.2);
  }

  means_the_same : MeansTheSame image (upgraded image)
  means_the_same = record {
    accepted = (alike image).accepted;
    behaviours = λ b. (behaviour_after b, behaviour_before b);
    opening = λ b known. refl;
    budgets = refl;
    enough = λ budgets. (alike (with_budgets image budgets)).accepted;
  }

pub upgrade_keeps : UpgradeKeepsAcceptance → UpgradeKeepsRuns → UpgradeKeeps
upgrade_keeps alike same image fits first = (upgraded_fits image fits first, means_the_same alike same image)

pub upgrade_keeps_bytes : ((image : ImageParts) → Fits image → InRange image → Spells (image_bytes image) image) → UpgradeKeeps → UpgradeKeepsBytes
upgrade_keeps_bytes has_spelling keeps bytes image spelled first =
    let kept = keeps image spelled.fits first in
    record {
      spelled = has_spelling (upgraded image) kept.0 (upgraded_in_range image spelled.in_range);
      verified = λ other is. (
        λ verified. record { spelled = is; accepted = kept.1.accepted.0 verified.accepted },
        λ verified. record { spelled = spelled; accepted = kept.1.accepted.1 verified.accepted },
      );
      means = kept.1;
    }
