use Rattle.std.proofs.Common.{sym, ap, ◌∙◌, subst, refl, [], length, Some, arith}
use Rattle.ifs_core.specs.Machine.{IsBehaviour}
use Rattle.ifs_session.specs.inner.Connections.{end_of}
use Rattle.ifs_session.proofs.Exchanges.{sound, ongoing_start, not_served, nothing_left, ends_after, full_without_room}
use Rattle.ifs_session.proofs.Exchanges.{reload_holds, goes_further, room_left}
use Rattle.ifs_session.proofs.service.serve_lines.Goals as goal

pub exchanges-init : goal.exchanges-init
exchanges-init g c = record {
  image = c.empty_queue.ensures.image;
  room = omega (arith, c.empty_queue.ensures.few, ap length c.requires);
  ongoing = λ b h. ([], ongoing_start b _ _ _ _ refl refl refl refl c.empty_queue.ensures.image refl (c.empty_queue.ensures.state b) c.empty_queue.ensures.steps c.requires c.empty_queue.ensures.told);
}

pub returns-in-Err-clause-connection : goal.returns-in-Err-clause-connection
returns-in-Err-clause-connection g c = λ b h.
    let u = c.exchanges.invariant.ongoing b h in
    not_served c.in-Err.broken _ (sound b _ c.image.ensures.kept h c.image.ensures.stands) u.1 (c.in-Err.ensures.exchange b (subst (λ i. IsBehaviour i b) (sym c.exchanges.invariant.image) h))

pub returns-in-Ok-None-clause-connection : goal.returns-in-Ok-None-clause-connection
returns-in-Ok-None-clause-connection g c = λ b h.
    let u = c.exchanges.invariant.ongoing b h in
    (_, _, nothing_left _ (sound b _ c.image.ensures.kept h c.image.ensures.stands) u.1 (rw c.in-Ok-None.field-0-is at (c.in-Ok-None.ensures.exchange b (subst (λ i. IsBehaviour i b) (sym c.exchanges.invariant.image) h))))

pub flushed-requires : goal.flushed-requires
flushed-requires g c = λ reload.
    reload_holds c.in-Ok-Some.line _ _ (rw c.in-Ok-Some.field-0-is at c.in-Ok-Some.ensures.reloads) (ap Some (sym reload) ∙ sym c.in-Some.is ∙ c.end_after.ensures)

pub returns-in-Some-clause-full : goal.returns-in-Some-clause-full
returns-in-Some-clause-full g c = λ full.
    full_without_room c.in-Ok-Some.line _ c.in-Some.end c.flushed.result _ _ _ _ (sym c.in-Some.is ∙ c.end_after.ensures ∙ ap (end_of c.in-Ok-Some.line) c.len.ensures.value) c.flushed.ensures.ends full

pub returns-in-Some-clause-connection : goal.returns-in-Some-clause-connection
returns-in-Some-clause-connection g c = λ b h.
    let u = c.exchanges.invariant.ongoing b h in
    let is = sym c.in-Some.is ∙ c.end_after.ensures ∙ ap (end_of c.in-Ok-Some.line) c.len.ensures.value in
    rw c.is_stop.ensures (ends_after c.in-Ok-Some.line c.in-Some.end c.flushed.result _ _ _ (sound b _ c.image.ensures.kept h c.image.ensures.stands) u.1
    (rw c.in-Ok-Some.field-0-is at (c.in-Ok-Some.ensures.exchange b (subst (λ i. IsBehaviour i b) (sym c.exchanges.invariant.image) h))) is c.flushed.ensures.ends)

pub exchanges-preserved : goal.exchanges-preserved
exchanges-preserved g c =
    let is = sym c.in_default.is ∙ c.end_after.ensures ∙ ap (end_of c.in-Ok-Some.line) c.len.ensures.value in
    record {
      image = c.next_exchange.ensures.image ∙ c.exchanges.invariant.image;
      room = room_left c.in-Ok-Some.line _ is c.next_exchange.ensures.few;
      ongoing = λ b h.
          let u = c.exchanges.invariant.ongoing b h in
          let further = goes_further c.in-Ok-Some.line _ u.1 (rw c.in-Ok-Some.field-0-is at (c.in-Ok-Some.ensures.exchange b (subst (λ i. IsBehaviour i b) (sym c.exchanges.invariant.image) h))) is in
          (further.exchanges, further.ongoing);
    }
