-- The first command of a queue.
use Rattle.std.proofs.Common.{◌≡◌, Bool, true, false, ◌||◌, List, [], ◌∷◌, Some, refl, sym, ap, ◌∙◌}
use Rattle.std.proofs.lemmas.Bool.{eq-eqb}
use Rattle.std.proofs.lemmas.List.{append-nil}
use Rattle.std.proofs.lemmas.Option.{none-some, same_Some}
use Rattle.ifs_base.specs.declared.ids.CommandId.{CommandId}
use Rattle.ifs_claims.specs.Claims.{queues}
use Rattle.ifs_core.specs.Steps.{CoreState, Makes, command_taken, take_turn, taken_reply}
use Rattle.std.specs.Prelude.{◌==◌}

or_right : (a b : Bool) → b ≡ true → (a || b) ≡ true
or_right true b e = refl
or_right false b e = e

or_left : (a b : Bool) → a ≡ true → (a || b) ≡ true
or_left a b e = ap (λ c. c || b) e

-- A command that was taken waited, and so did what waits afterwards.
pub record HasWaited (command other : CommandId) (queue after : List CommandId) : Type 0 where
  pub others : queues command after ≡ true → queues command queue ≡ true
  pub itself : other.0 ≡ command.0 → queues command queue ≡ true

pub has_waited : (command other : CommandId) (queue : List CommandId) (s after : CoreState) → Makes (take_turn queue s) (taken_reply (Some other)) after → HasWaited command other queue after.queue
has_waited command other [] s after made = absurd (none-some other (sym (ap command_taken made.replied)))
has_waited command other (first ∷ rest) s after made =
    let is_first = ap (λ x. x.0) (sym (same_Some other first (ap command_taken made.replied))) in
    record {
      others = λ e. or_right (first.0 == command.0) (queues command rest) (ap (queues command) (sym (ap (λ t. t.queue) made.came_to ∙ append-nil rest)) ∙ e);
      itself = λ e. or_left (first.0 == command.0) (queues command rest) (eq-eqb first.0 command.0 (is_first ∙ e));
    }
