-- Commands that are taken in order.
use Rattle.std.proofs.Common.{◌≡◌, ℕ, List, [], ◌∷◌, slice_get, unwrap_or, Some, refl, sym, ap, ◌∙◌, append-nil}
use Rattle.ifs_base.specs.declared.ids.CommandId.{CommandId}
use Rattle.ifs_core.specs.declared.step.Reply.TheVariants.{Taken, Empty}
use Rattle.ifs_core.specs.Event.{Behaviour}
use Rattle.ifs_core.specs.Steps.{CoreState, Makes, take_turn, after_steps}
use Rattle.ifs_image.specs.declared.parts.ImageParts.{ImageParts}
use Rattle.ifs_session.specs.Accounts.{takes_of, texts_of}

taken_from : (queue : List CommandId) (s s' : CoreState) (command : CommandId) → Makes (take_turn queue s) (Taken command) s' → queue ≡ command ∷ s'.queue
taken_from [] s s' command m = cc
taken_from (first ∷ queue) s s' command m =
    let one : first ≡ command = cc in
    let rest : s'.queue ≡ queue = ap (λ x. x.queue) m.came_to ∙ append-nil queue in
    rw (one, rest) refl

none_taken : (queue : List CommandId) (s s' : CoreState) → Makes (take_turn queue s) Empty s' → queue ≡ []
none_taken [] s s' m = refl
none_taken (first ∷ queue) s s' m = cc

-- The command that was taken was the first of the queue.
pub taken : (s s' : CoreState) (command : CommandId) → Makes (take_turn s.queue s) (Taken command) s' → s.queue ≡ command ∷ s'.queue
taken s s' command m = taken_from s.queue s s' command m

-- If no command was taken, the queue was empty and nothing changed.
pub nothing_taken : (s s' : CoreState) → Makes (take_turn s.queue s) Empty s' → s.queue ≡ []
nothing_taken s s' m = none_taken s.queue s s' m

all_from : (b : Behaviour) (room : ℕ) (queue : List CommandId) (s s' : CoreState) → Makes (take_turn queue s) Empty s' → s' ≡ after_steps b room (takes_of queue) s
all_from b room [] s s' m = m.came_to
all_from b room (first ∷ queue) s s' m = cc

-- All commands were taken.
pub all_taken : (b : Behaviour) (room : ℕ) (s s' : CoreState) → Makes (take_turn s.queue s) Empty s' → s' ≡ after_steps b room (takes_of s.queue) s
all_taken b room s s' m = all_from b room s.queue s s' m

-- The commands that are left lead to the same state.
pub rest_taken : (b : Behaviour) (room : ℕ) (s s' : CoreState) (command : CommandId) → Makes (take_turn s.queue s) (Taken command) s'
    → after_steps b room (takes_of s.queue) s ≡ after_steps b room (takes_of s'.queue) s'
rest_taken b room s s' command m =
    ap (λ queue. after_steps b room (takes_of queue) s) (taken s s' command m)
    ∙ ap (after_steps b room (takes_of s'.queue)) (sym m.came_to)

-- The text of the first command is the first of those of the queue.
pub texts_taken : (image image' : ImageParts) (s s' : CoreState) (command : CommandId) (text : List ℕ) → Makes (take_turn s.queue s) (Taken command) s' → image' ≡ image
    → Some text ≡ slice_get image'.commands command.0 → texts_of image s.queue ≡ text ∷ texts_of image s'.queue
texts_taken image image' s s' command text m same is =
    ap (texts_of image) (taken s s' command m)
    ∙ ap (λ found. unwrap_or found [] ∷ texts_of image s'.queue) (sym (is ∙ ap (λ i. slice_get i.commands command.0) same))
