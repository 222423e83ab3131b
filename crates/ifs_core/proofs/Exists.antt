-- Each accepted image has a behaviour.
use Rattle.std.proofs.Common.{◌≡◌, ℕ, ◌<◌, ◌⊎◌, inl, inr, ⊎_elim, length, Option, Some}
use Rattle.std.proofs.Common.{None, refl, sym, ap, ◌∙◌, subst, arith, option_map}
use Rattle.std.specs.Prelude.{slice_get}
use Rattle.std.proofs.lemmas.Bool.{cases_eq}
use Rattle.std.proofs.lemmas.Option.{none-some, same_Some, slice_get_cases}
use Rattle.ifs_base.specs.Facts.{Facts}
use Rattle.ifs_image.specs.declared.parts.StateSpec.{StateSpec}
use Rattle.ifs_image.specs.declared.parts.ImageParts.{ImageParts}
use Rattle.ifs_verify.specs.Accepted.{IsAccepted}
use Rattle.ifs_base.specs.Effects.{Effects, nothing_yet, followed}
use Rattle.ifs_machine.specs.Run.{RunsTo, AreFactsOf, HasRoom, IsHandler, HandlersEnd, RunsFollow, RunEnds}
use Rattle.ifs_core.specs.Event.{Handler, AlwaysInit, AlwaysBody, Init, Body, Behaviour}
use Rattle.ifs_core.specs.Machine.{routine_of, IsBehaviour}

-- A state whose routine an option has.
mapped : (o : Option StateSpec) (f : StateSpec → ℕ) (routine : ℕ) → option_map f o ≡ Some routine → (s : StateSpec) × (o ≡ Some s) × (routine ≡ f s)
mapped None f routine e = absurd (none-some routine e)
mapped (Some s) f routine e = (s, refl, sym (same_Some (f s) routine e))

-- The routine of a handler is one of the image's handlers.
pub handles : (image : ImageParts) (handler : Handler) (routine : ℕ) → routine_of image handler ≡ Some routine → IsHandler image routine
handles image AlwaysInit routine e = inl (inl (sym (same_Some _ routine e)))
handles image AlwaysBody routine e = inl (inr (sym (same_Some _ routine e)))
handles image (Init k) routine e = let m = mapped (slice_get image.states k) (λ s. s.handlers.init.0) routine e in inr (k, m.0, m.1, inl m.2)
handles image (Body k) routine e = let m = mapped (slice_get image.states k) (λ s. s.handlers.body.0) routine e in inr (k, m.0, m.1, inr m.2)

-- A state of the list.
pub state_at : (image : ImageParts) (k : ℕ) → k < length image.states → (s : StateSpec) × (slice_get image.states k ≡ Some s)
state_at image k within =
    ⊎_elim (λ there. (there.0, there.2)) (λ past. absurd (omega (arith, within, past.0))) (slice_get_cases image.states k).1

-- An event without commands has room for each handler.
pub room_from_nothing : (image : ImageParts) (handler : Handler) (routine : ℕ) → IsAccepted image → routine_of image handler ≡ Some routine → HasRoom image routine 0
room_from_nothing image AlwaysInit routine accepted e =
    let fit = accepted.commands in
    let first = state_at image image.initial.0 accepted.indexes.initial in
    let fits = fit.3.opening first.0 first.1 in
    subst (λ r. HasRoom image r 0) (same_Some _ routine e) (fit.0, fit.1, omega (arith, fits))
room_from_nothing image AlwaysBody routine accepted e =
    let fit = accepted.commands in
    let first = state_at image image.initial.0 accepted.indexes.initial in
    let fits = fit.3.evaluation image.initial.0 image.initial.0 first.0 first.0 first.1 first.1 in
    subst (λ r. HasRoom image r 0) (same_Some _ routine e) (fit.0, fit.1, omega (arith, fits))
room_from_nothing image (Init k) routine accepted e =
    let fit = accepted.commands in
    let m = mapped (slice_get image.states k) (λ s. s.handlers.init.0) routine e in
    let fits = fit.3.evaluation k k m.0 m.0 m.1 m.1 in
    subst (λ r. HasRoom image r 0) (sym m.2) (fit.0, fit.1, omega (arith, fits))
room_from_nothing image (Body k) routine accepted e =
    let fit = accepted.commands in
    let m = mapped (slice_get image.states k) (λ s. s.handlers.body.0) routine e in
    let fits = fit.3.evaluation k k m.0 m.0 m.1 m.1 in
    subst (λ r. HasRoom image r 0) (sym m.2) (fit.0, fit.1, omega (arith, fits))

-- A handler has a routine, and the facts are the image's.
record Answers (image : ImageParts) (handler : Handler) (facts : Facts) : Type 0 where
  routine : ℕ
  is : routine_of image handler ≡ Some routine
  given : AreFactsOf image facts

facts_fit : (image : ImageParts) (facts : Facts) → AreFactsOf image facts ⊎ (AreFactsOf image facts → ⊥)
facts_fit image facts =
    ⊎_elim
    (λ links. ⊎_elim (λ tests. inl (record { links = links; tests = tests })) (λ never. inr (λ (g : AreFactsOf image facts). never g.tests))
    (cases_eq (length facts.tests) (length image.tests)))
    (λ never. inr (λ (g : AreFactsOf image facts). never g.links))
    (cases_eq (length facts.links) (length image.interfaces))

answers_as : (image : ImageParts) (handler : Handler) (facts : Facts) (o : Option ℕ) → routine_of image handler ≡ o
    → AreFactsOf image facts ⊎ (AreFactsOf image facts → ⊥) → Answers image handler facts ⊎ (Answers image handler facts → ⊥)
answers_as image handler facts None e fit = inr (λ (a : Answers image handler facts). absurd (none-some a.routine (sym e ∙ a.is)))
answers_as image handler facts (Some routine) e (inl given) = inl (record { routine = routine; is = e; given = given })
answers_as image handler facts (Some routine) e (inr never) = inr (λ (a : Answers image handler facts). never a.given)

answers : (image : ImageParts) (handler : Handler) (facts : Facts) → Answers image handler facts ⊎ (Answers image handler facts → ⊥)
answers image handler facts = answers_as image handler facts (routine_of image handler) refl (facts_fit image facts)

-- The mask of a state, if it exists.
abbrev mask_in : Option StateSpec → ℕ
mask_in None = 0
mask_in (Some state) = state.handlers.mask

module _ (ends : HandlersEnd) (follow : RunsFollow) (image : ImageParts) (accepted : IsAccepted image) where
  -- The run from nothing.
  found : (handler : Handler) (facts : Facts) → (a : Answers image handler facts) → RunEnds image facts a.routine nothing_yet
  found handler facts a = ends image facts a.routine nothing_yet accepted (handles image handler a.routine a.is) a.given (room_from_nothing image handler a.routine accepted a.is)

  -- The effects of the run from nothing, or none.
  abbrev yield_of : (handler : Handler) (facts : Facts) → Answers image handler facts ⊎ (Answers image handler facts → ⊥) → Effects
  yield_of handler facts (inl a) = (found handler facts a).end
  yield_of handler facts (inr never) = nothing_yet

  -- What it costs.
  abbrev price_of : (handler : Handler) (facts : Facts) → Answers image handler facts ⊎ (Answers image handler facts → ⊥) → ℕ
  price_of handler facts (inl a) = (found handler facts a).cost
  price_of handler facts (inr never) = 0

  abbrev behaviour_of : Behaviour
  behaviour_of = record {
    answer = λ handler facts. yield_of handler facts (answers image handler facts);
    cost = λ handler facts. price_of handler facts (answers image handler facts);
    always = image.always.mask;
    active = λ k. mask_in (slice_get image.states k);
  }

  runs_of : (handler : Handler) (routine : ℕ) (facts : Facts) (before : Effects) → routine_of image handler ≡ Some routine
      → AreFactsOf image facts → HasRoom image routine (length before.commands) → (d : Answers image handler facts ⊎ (Answers image handler facts → ⊥))
      → RunsTo image facts routine before (price_of handler facts d) (followed before (yield_of handler facts d))
  runs_of handler routine facts before is given room (inl a) =
      let same : a.routine ≡ routine = same_Some a.routine routine (sym a.is ∙ is) in
      let f = found handler facts a in
      let e = ends image facts routine before accepted (handles image handler routine is) given room in
      let run : RunsTo image facts routine nothing_yet f.cost f.end = subst (λ r. RunsTo image facts r nothing_yet f.cost f.end) same f.ran.runs in
      follow image facts routine before f.end e.end f.cost e.cost run e.ran.runs
  runs_of handler routine facts before is given room (inr never) = absurd (never (record { routine = routine; is = is; given = given }))

  pub exists : (b : Behaviour) × IsBehaviour image b
  exists = (
    behaviour_of,
    record {
      always = refl;
      active = λ k s at. ap mask_in at;
      runs = λ handler routine facts before is given room. runs_of handler routine facts before is given room (answers image handler facts);
    },
  )
