-- The bytes that the front of a text spells.
use Rattle.std.proofs.Common.{◌≡◌, ℕ, ◌+◌, ◌-◌, ◌*◌, ◌<◌, ◌≤◌, List, [], ◌∷◌, ◌++◌, length, take, drop, get_or, All}
use Rattle.std.proofs.Common.{Option, Some, None, refl, sym, subst, ap, ◌∙◌, append_assoc, append-nil, arith}
use Rattle.std.proofs.Common.{length-append}
use Rattle.std.proofs.Math.Seq.{take-append_seam, take-nil}
use Rattle.std.proofs.lemmas.List.{take-append-le, take_rest, drop_more}
use Rattle.std.proofs.lemmas.List.Elements.{All-push}
use Rattle.std.specs.Io.KnownBytes.{Consumes}
use Rattle.ifs_session.specs.Device.{AreAtHand, MaySkip, SkipGives}
use Rattle.ifs_base.specs.Words.{hex_digit}
use Rattle.ifs_session.specs.Hexadecimal.{hex_text, Takes}
use Rattle.ifs_session.specs.inner.Reading.{SpellsFront}
use Rattle.ifs_session.proofs.Known.{kept_consumes}
use Rattle.ifs_session.proofs.HexReading.{hex_text-push}

-- The front of a text so far spells the bytes that were appended.
pub record Spelled (text left bytes bytes' : List ℕ) : Type 0 where
  pub more : List ℕ
  pub are_bytes : All (λ byte. byte < 256) more
  pub appended : bytes' ≡ bytes ++ more
  pub within : length bytes' ≤ 65536
  pub whole : text ≡ hex_text more ++ left

pub nothing_spelled : (text bytes : List ℕ) → length bytes ≤ 65536 → Spelled text text bytes bytes
nothing_spelled text bytes within = record { more = []; are_bytes = λ k d h. absurd (omega arith); appended = sym (append-nil bytes); within = within; whole = refl }

pub one_spelled : {text left bytes bytes' : List ℕ} (first second high low : ℕ) (rest : List ℕ) → Spelled text left bytes bytes' → left ≡ first ∷ second ∷ rest
    → (high < 16) × (first ≡ hex_digit high) → (low < 16) × (second ≡ hex_digit low) → length bytes' < 65536
    → Spelled text rest bytes (bytes' ++ (16 * high + low) ∷ [])
one_spelled {text} {left} {bytes} {bytes'} first second high low rest s at (high_small, high_is) (low_small, low_is) room = record {
  more = s.more ++ (16 * high + low) ∷ [];
  are_bytes = All-push (λ byte. byte < 256) s.more (16 * high + low) s.are_bytes (omega arith);
  appended = ap (λ t. t ++ (16 * high + low) ∷ []) s.appended ∙ append_assoc bytes s.more ((16 * high + low) ∷ []);
  within = omega (arith, room, length-append bytes' ((16 * high + low) ∷ []));
  whole =
      s.whole ∙ ap (λ t. hex_text s.more ++ t) (at ∙ ap (λ a. a ∷ second ∷ rest) high_is ∙ ap (λ a. hex_digit high ∷ a ∷ rest) low_is)
      ∙ sym (ap (λ t. t ++ rest) (hex_text-push s.more high low low_small)
      ∙ append_assoc (hex_text s.more ++ hex_digit high ∷ []) (hex_digit low ∷ []) rest
      ∙ append_assoc (hex_text s.more) (hex_digit high ∷ []) (hex_digit low ∷ rest));
}

-- A text from its first two bytes.
pub by_two : (left : List ℕ) → 2 ≤ length left → left ≡ get_or left 0 0 ∷ get_or left 1 0 ∷ take (length left - 2) (drop 2 left)
by_two left two =
    drop_more left 0 0 (omega arith)
    ∙ ap (λ rest. get_or left 0 0 ∷ rest) (drop_more left 1 0 (omega arith) ∙ ap (λ rest. get_or left 1 0 ∷ rest) (sym (take_rest left 2)))

pub spelled_front : {text left bytes bytes' : List ℕ} → Spelled text left bytes bytes' → SpellsFront text (length text - length left) bytes bytes'
spelled_front {text} {left} s =
    let count : length text - length left ≡ length (hex_text s.more) = omega (arith, ap length s.whole, length-append (hex_text s.more) left) in
    record {
      more = s.more;
      are_bytes = s.are_bytes;
      appended = s.appended;
      within = s.within;
      count_fits = omega arith;
      spelled = ap (λ n. take n text) count ∙ ap (take (length (hex_text s.more))) s.whole ∙ take-append_seam (hex_text s.more) left;
    }

-- ---- bytes at hand

pub may_take : (count : ℕ) (text : List ℕ) (ready : Option (List ℕ)) → AreAtHand text ready → count ≤ length text → MaySkip count ready
may_take count text None none fits = omega (arith, ap length none)
may_take count text (Some ready) (more, is) fits = omega (arith, ap length is, length-append text more)

pub spelled_taken : (count : ℕ) (text digits : List ℕ) (ready ready' left left' : Option (List ℕ)) (faults faults' : Option ℕ) → AreAtHand text ready → count ≤ length text → take count text ≡ digits
    → SkipGives count ready ready' left left' faults faults' → Takes digits (record { left = left; faults = faults }) (record { left = left'; faults = faults' })
spelled_taken count text digits None ready' left left' faults faults' none fits is skip =
    let nothing : [] ≡ digits = sym (ap (take count) none ∙ take-nil count) ∙ is in
    record { given = subst (Consumes left left') nothing (kept_consumes left left' skip.0); same_faults = skip.1 }
spelled_taken count text digits (Some ready) ready' left left' faults faults' (more, whole) fits is skip =
    record { given = subst (Consumes left left') (ap (take count) whole ∙ take-append-le count text more fits ∙ is) skip.1; same_faults = skip.2 }
