-- Reading an image's line.
use Rattle.std.proofs.Common.{◌≡◌, ℕ, ◌+◌, ◌*◌, ◌/◌, ◌%◌, ◌<◌, true, false, List, [], ◌∷◌, ◌++◌, length, All, Option}
use Rattle.std.proofs.Common.{Some, None, Ok, Err, refl, sym, subst, ap, ◌∙◌, append-nil, arith, length-append}
use Rattle.std.proofs.lemmas.List.Elements.{All-push, All-append}
use Rattle.std.specs.Io.KnownBytes.{Keeps, Consumes, IsAtEnd}
use Rattle.ifs_session.specs.declared.hexadecimal.HexFault.{HexFault}
use Rattle.ifs_session.specs.declared.hexadecimal.HexFault.TheVariants.{Broken, Memory, NotRead}
use Rattle.ifs_session.specs.Device.{Feed, counted}
use Rattle.ifs_session.specs.Lines.{line_end}
use Rattle.ifs_base.specs.Words.{hex_digit}
use Rattle.ifs_session.specs.Hexadecimal.{hex_text, Takes, HexGives, begun_text, ReadsBeginning, NoDigit, OddDigit}
use Rattle.ifs_session.specs.Hexadecimal.{DigitTooMany}
use Rattle.ifs_session.specs.inner.Reading.{DigitGives, AtHandGives}
use Rattle.ifs_session.proofs.Known.{consumes_nothing, consumes_more, consumes_kept, kept_consumes}

takes_more : {text more : List ℕ} {before at after : Feed} → Takes text before at → Takes more at after → Takes (text ++ more) before after
takes_more {text} {more} {before} {at} {after} first then_more = record {
  given = consumes_more before.left at.left after.left text more first.given then_more.given;
  same_faults = then_more.same_faults ∙ first.same_faults;
}

takes_same : {text other : List ℕ} {before after : Feed} → text ≡ other → Takes text before after → Takes other before after
takes_same {before = before} {after} same takes = record { given = subst (λ t. Consumes before.left after.left t) same takes.given; same_faults = takes.same_faults }

-- The high digit of a byte was read, and another byte is within the limit.
pub high_read : {bytes : List ℕ} {before at after : Feed} (digit : ℕ) → ReadsBeginning bytes None before at → (digit < 16) × Takes (hex_digit digit ∷ []) at after → length bytes < 65536
    → ReadsBeginning bytes (Some digit) before after
high_read {bytes} digit reads (small, more) room = record {
  begins = record { are_bytes = reads.begins.are_bytes; within = reads.begins.within; begun = (small, room) };
  takes = takes_same (ap (λ t. t ++ hex_digit digit ∷ []) (append-nil (hex_text bytes))) (takes_more reads.takes more);
}

-- A digit could not be read.
pub digit_fails : {bytes : List ℕ} {high : Option ℕ} {before at : Feed} (after : Feed) (fault : HexFault) → ReadsBeginning bytes high before at → DigitGives (Err fault) at after → HexGives (Err fault) before after
digit_fails {bytes} {high} after Broken reads (byte, more, no_digit, no_newline) = (
  bytes,
  high,
  byte ∷ [],
  record { begins = reads.begins; takes = takes_more reads.takes more; breaks = NoDigit byte refl no_digit no_newline },
)
digit_fails {bytes} {high} {before} {at} after NotRead reads (same, one) = (
  bytes,
  high,
  record {
    begins = reads.begins;
    given = consumes_kept before.left at.left after.left (begun_text bytes high) reads.takes.given same;
    one_fault = one ∙ ap counted reads.takes.same_faults;
  },
)
digit_fails after Memory reads h = absurd h

-- The line ends after whole bytes.
pub line_ends : {bytes : List ℕ} {before at after : Feed} → ReadsBeginning bytes None before at → DigitGives (Ok None) at after → HexGives (Ok bytes) before after
line_ends {bytes} reads (ended, more, end) = (
  ended,
  record {
    are_bytes = reads.begins.are_bytes;
    within = reads.begins.within;
    takes = takes_same (ap (λ t. t ++ line_end ended) (append-nil (hex_text bytes))) (takes_more reads.takes more);
    ends = end;
  },
)

-- The line ends after a high digit.
pub odd_digit : {bytes : List ℕ} {digit : ℕ} {before at after : Feed} → ReadsBeginning bytes (Some digit) before at → DigitGives (Ok None) at after → HexGives (Err Broken) before after
odd_digit {bytes} {digit} reads (ended, more, end) = (
  bytes,
  Some digit,
  line_end ended,
  record { begins = reads.begins; takes = takes_more reads.takes more; breaks = OddDigit digit ended refl refl end },
)

-- There is a digit after 131,072.
pub digit_too_many : {bytes : List ℕ} {before at after : Feed} (digit : ℕ) → ReadsBeginning bytes None before at → (digit < 16) × Takes (hex_digit digit ∷ []) at after → length bytes ≡ 65536 → HexGives (Err Broken) before after
digit_too_many {bytes} digit reads (small, more) full = (
  bytes,
  None,
  hex_digit digit ∷ [],
  record { begins = reads.begins; takes = takes_more reads.takes more; breaks = DigitTooMany digit refl full small refl },
)

high_half : (high low : ℕ) → low < 16 → (16 * high + low) / 16 ≡ high
high_half high low small = omega arith

low_half : (high low : ℕ) → low < 16 → (16 * high + low) % 16 ≡ low
low_half high low small = omega arith

pub hex_text-push : (bytes : List ℕ) (high low : ℕ) → low < 16 → hex_text (bytes ++ (16 * high + low) ∷ []) ≡ (hex_text bytes ++ hex_digit high ∷ []) ++ hex_digit low ∷ []
hex_text-push [] high low small =
    ap (λ d. hex_digit d ∷ hex_digit ((16 * high + low) % 16) ∷ []) (high_half high low small)
    ∙ ap (λ d. hex_digit high ∷ hex_digit d ∷ []) (low_half high low small)
hex_text-push (byte ∷ bytes) high low small = ap (λ t. hex_digit (byte / 16) ∷ hex_digit (byte % 16) ∷ t) (hex_text-push bytes high low small)

-- One more byte was read.
pub low_read : {bytes : List ℕ} {high : ℕ} {before at after : Feed} (low : ℕ) → ReadsBeginning bytes (Some high) before at → (low < 16) × Takes (hex_digit low ∷ []) at after
    → ReadsBeginning (bytes ++ (16 * high + low) ∷ []) None before after
low_read {bytes} {high} low reads (small, more) =
    let high_small : high < 16 = reads.begins.begun.0 in
    let room : length bytes < 65536 = reads.begins.begun.1 in
    record {
      begins = record {
        are_bytes = All-push (λ byte. byte < 256) bytes (16 * high + low) reads.begins.are_bytes (omega arith);
        within = omega (arith, length-append bytes ((16 * high + low) ∷ []));
        begun = tt;
      };
      takes = takes_same (sym (append-nil (hex_text (bytes ++ (16 * high + low) ∷ [])) ∙ hex_text-push bytes high low small)) (takes_more reads.takes more);
    }

hex_text-append : (bytes more : List ℕ) → hex_text (bytes ++ more) ≡ hex_text bytes ++ hex_text more
hex_text-append [] more = refl
hex_text-append (byte ∷ bytes) more = ap (λ t. hex_digit (byte / 16) ∷ hex_digit (byte % 16) ∷ t) (hex_text-append bytes more)

-- The bytes whose digits are at hand were read.
pub at_hand_read : {bytes bytes' : List ℕ} {done : Unit {0}} {before at after : Feed} → ReadsBeginning bytes None before at → AtHandGives (Ok done) bytes bytes' at after → ReadsBeginning bytes' None before after
at_hand_read {bytes} {bytes'} reads (more, are_bytes, appended, within, takes) = record {
  begins = record { are_bytes = subst (All (λ byte. byte < 256)) (sym appended) (All-append (λ byte. byte < 256) bytes more reads.begins.are_bytes are_bytes); within = within; begun = tt };
  takes = takes_same
      (ap (λ t. t ++ hex_text more) (append-nil (hex_text bytes)) ∙ sym (hex_text-append bytes more) ∙ ap hex_text (sym appended) ∙ sym (append-nil (hex_text bytes')))
      (takes_more reads.takes takes);
}

-- An allocation for them failed.
pub at_hand_starves : {bytes : List ℕ} {before at : Feed} (fault : HexFault) (bytes' : List ℕ) (after : Feed) → ReadsBeginning bytes None before at → AtHandGives (Err fault) bytes bytes' at after → HexGives (Err fault) before after
at_hand_starves {bytes} {before = before} Memory bytes' after reads same = (bytes, subst (ReadsBeginning bytes None before) (sym same) reads)
at_hand_starves Broken bytes' after reads none = absurd none
at_hand_starves NotRead bytes' after reads none = absurd none

-- The input ends.
pub at_the_end : {before after : Feed} → Keeps before.left after.left × IsAtEnd after.left × (after.faults ≡ before.faults) → DigitGives (Ok None) before after
at_the_end {before} {after} h = (false, record { given = kept_consumes before.left after.left h.0; same_faults = h.2 }, h.1)

-- A newline ends the line.
pub at_a_newline : {before after : Feed} (byte : ℕ) → Consumes before.left after.left (byte ∷ []) × (after.faults ≡ before.faults) → byte ≡ 10 → DigitGives (Ok None) before after
at_a_newline {before} {after} byte h e = (true, record { given = subst (λ b. Consumes before.left after.left (b ∷ [])) e h.0; same_faults = h.1 }, tt)

-- Nothing was read yet.
pub line_start : (bytes : List ℕ) (at : Feed) → bytes ≡ [] → ReadsBeginning bytes None at at
line_start [] at none = record {
  begins = record { are_bytes = λ k d h. absurd (omega arith); within = omega arith; begun = tt };
  takes = record { given = consumes_nothing at.left; same_faults = refl };
}
line_start (byte ∷ bytes) at none = cc
