-- Serving the next line, in place or read.
use Rattle.std.proofs.Common.{◌≡◌, ℕ, ◌+◌, ◌-◌, ◌≤◌, Bool, true, List, [], ◌∷◌, ◌++◌, length, take, Option, Some, None}
use Rattle.std.proofs.Common.{Ok, Err, inr, subst, sym, ap, ◌∙◌, append_assoc, arith, length-append}
use Rattle.std.proofs.Math.Seq.{take-append_seam}
use Rattle.std.specs.Io.KnownBytes.{append_known, Consumes}
use Rattle.ifs_core.specs.Event.{Behaviour}
use Rattle.ifs_session.specs.declared.fault.SessionFault.TheVariants.{WriteFailed}
use Rattle.ifs_session.specs.declared.session.LineKind.{LineKind}
use Rattle.ifs_session.specs.Device.{counted, AreAtHand, MaySkip, SkipGives}
use Rattle.ifs_session.specs.Requests.{Asked, asked}
use Rattle.ifs_session.specs.Sessions.{Moment, deed}
use Rattle.ifs_session.specs.inner.Reading.{ReadsText, StandsFirst}
use Rattle.ifs_session.specs.inner.Serving.{intake, kind_of, NextServed, ServeGives}
use Rattle.ifs_session.proofs.Known.{append_known-nil}

-- A line was read and served, and the writes before it are kept.
pub line_served : (b : Behaviour) (kind : LineKind) (text : List ℕ) (ended : Bool) (before : Moment) (budget : ℕ) (after : Moment) (budget' : ℕ) (a : Asked) (written : Option (List ℕ)) (faults : Option ℕ)
    → ReadsText text ended (intake before budget) (intake after budget') → a ≡ asked text
    → written ≡ append_known before.written [] → faults ≡ before.write_faults → after.core.image ≡ before.core.image
    → ServeGives (deed b before.core.image a before.core.state) (kind_of before.core.image a) (Ok kind) after.core.state written after.written faults after.write_faults
    → NextServed b (Ok (Some (record { kind = kind; is_ended = ended }))) before budget after budget'
line_served b kind text ended before budget after budget' a written faults r asks out same image (state, put, is) = (
  text,
  record { read = r; image = image; state = state ∙ ap (λ x. (deed b before.core.image x before.core.state).next) asks },
  record {
    written = put.0 ∙ ap (λ k. append_known k (deed b before.core.image a before.core.state).reply) (out ∙ append_known-nil before.written)
        ∙ ap (λ x. append_known before.written (deed b before.core.image x before.core.state).reply) asks;
    same_faults = put.1 ∙ same;
    kind_is = is ∙ ap (kind_of before.core.image) asks;
  },
)

-- The reply to a line could not be written.
pub line_unreplied : (b : Behaviour) (text : List ℕ) (ended : Bool) (before : Moment) (budget : ℕ) (after : Moment) (budget' : ℕ) (a : Asked) (faults : Option ℕ)
    → ReadsText text ended (intake before budget) (intake after budget') → a ≡ asked text
    → faults ≡ before.write_faults → after.core.image ≡ before.core.image → after.core.state ≡ (deed b before.core.image a before.core.state).next → after.write_faults ≡ counted faults
    → NextServed b (Err WriteFailed) before budget after budget'
line_unreplied b text ended before budget after budget' a faults r asks same image state one = (
  one ∙ ap counted same,
  inr (text, ended, record { read = r; image = image; state = state ∙ ap (λ x. (deed b before.core.image x before.core.state).next) asks }),
)

-- ---- a line at hand

front_of : (line bytes more : List ℕ) (most : ℕ) → StandsFirst line most bytes → take (length line + 1) (bytes ++ more) ≡ line ++ 10 ∷ []
front_of line bytes more most first =
    let whole : bytes ++ more ≡ (line ++ 10 ∷ []) ++ (first.rest ++ more) =
    ap (λ t. t ++ more) first.front ∙ append_assoc line (10 ∷ first.rest) more ∙ sym (append_assoc line (10 ∷ []) (first.rest ++ more)) in
    ap (take (length line + 1)) whole ∙ ap (λ n. take n ((line ++ 10 ∷ []) ++ (first.rest ++ more))) (sym (length-append line (10 ∷ []))) ∙ take-append_seam (line ++ 10 ∷ []) (first.rest ++ more)

long_enough : (line bytes more : List ℕ) (most : ℕ) → StandsFirst line most bytes → length line + 1 ≤ length (bytes ++ more)
long_enough line bytes more most first = omega (arith, ap length first.front, length-append line (10 ∷ first.rest), length-append bytes more)

not_empty : (line : List ℕ) (most : ℕ) → StandsFirst line most [] → ⊥
not_empty line most first = omega (arith, ap length first.front, length-append line (10 ∷ first.rest))

pub may_skip : (line bytes : List ℕ) (most : ℕ) (ready : Option (List ℕ)) → AreAtHand bytes ready → StandsFirst line most bytes → MaySkip (length line + 1) ready
may_skip line bytes most None none first = absurd (not_empty line most (subst (StandsFirst line most) none first))
may_skip line bytes most (Some ready) (more, is) first = subst (λ r. length line + 1 ≤ length r) (sym is) (long_enough line bytes more most first)

-- The line was read when its bytes were skipped.
pub lent_line : (line bytes : List ℕ) (most : ℕ) (ready ready' left left' : Option (List ℕ)) (faults faults' : Option ℕ) → AreAtHand bytes ready → StandsFirst line most bytes
    → SkipGives (length line + 1) ready ready' left left' faults faults'
    → ReadsText line true (record { left = left; faults = faults; budget = most }) (record { left = left'; faults = faults'; budget = most - (length line + 1) })
lent_line line bytes most None ready' left left' faults faults' none first skip = absurd (not_empty line most (subst (StandsFirst line most) none first))
lent_line line bytes most (Some ready) ready' left left' faults faults' (more, is) first skip = record {
  plain = first.plain;
  given = subst (Consumes left left') (ap (take (length line + 1)) is ∙ front_of line bytes more most first) skip.1;
  spent = omega (arith, first.within, length-append line (10 ∷ []));
  same_faults = skip.2;
  last = λ e. cc;
}
