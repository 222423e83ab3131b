-- Reading a line byte by byte.
use Rattle.std.proofs.Common.{◌≡◌, ◌≢◌, ℕ, ◌+◌, ◌-◌, ◌<◌, ◌≤◌, Bool, true, false, ◌==◌, nat_lt, List, [], ◌∷◌, ◌++◌}
use Rattle.std.proofs.Common.{length, take, Option, refl, sym, subst, ap, ◌∙◌, append-nil, take_all, arith}
use Rattle.std.proofs.Common.{length-append, length-take}
use Rattle.std.proofs.lemmas.Bool.Decides.{nat_tests}
use Rattle.std.proofs.lemmas.List.{take-append-le}
use Rattle.std.specs.Io.KnownBytes.{Keeps, Consumes, IsAtEnd}
use Rattle.arrayvec.specs.ArrayVec.{ArrayVec}
use Rattle.ifs_session.specs.Device.{counted}
use Rattle.ifs_session.specs.inner.Reading.{HasNoNewline, Intake, ReadsLine, ReadsNothing, ReadFails, ReadsTooMuch}
use Rattle.ifs_session.proofs.Known.{consumes_nothing, consumes_more, consumes_kept, keeps_nothing_read}

-- In the middle of a line: this text was read, and this part of it is kept.
pub record Partway (kept : List ℕ) (is_longer : Bool) (text : List ℕ) (before after : Intake) : Type 0 where
  pub plain : HasNoNewline text
  pub kept_is : kept ≡ take 256 text
  pub longer : is_longer ≡ nat_lt 256 (length text)
  pub given : Consumes before.left after.left text
  pub spent : before.budget ≡ length text + after.budget
  pub same_faults : after.faults ≡ before.faults

HasNoNewline-push : (text : List ℕ) (byte : ℕ) → HasNoNewline text → byte ≢ 10 → HasNoNewline (text ++ byte ∷ [])
HasNoNewline-push [] byte plain other = (other, tt)
HasNoNewline-push (x ∷ text) byte plain other = (plain.0, HasNoNewline-push text byte plain.1 other)

pub is_full : (n : ℕ) → true ≡ (n == 256) → n ≡ 256
is_full n h = grind (arith, nat_tests)

pub has_room : (n : ℕ) → false ≡ (n == 256) → n ≤ 256 → n < 256
has_room n h fits = grind (arith, nat_tests)

-- At the beginning of a line.
pub partway_start : (kept : List ℕ) (at : Intake) → kept ≡ [] → Partway kept false [] at at
partway_start kept at e = record {
  plain = tt;
  kept_is = e;
  longer = refl;
  given = consumes_nothing at.left;
  spent = omega arith;
  same_faults = refl;
}

-- All bytes of a text shorter than 256 bytes are kept.
short_text : (text kept : List ℕ) → kept ≡ take 256 text → length kept < 256 → length text < 256
short_text text kept e h = omega (arith, ap length e, length-take 256 text)

long_text : (text kept : List ℕ) → kept ≡ take 256 text → length kept ≡ 256 → 256 ≤ length text
long_text text kept e h = omega (arith, ap length e, length-take 256 text)

longer_false : (n : ℕ) → n < 256 → nat_lt 256 n ≡ nat_lt 256 (n + 1)
longer_false n h = grind (arith, nat_tests)

longer_true : (n : ℕ) → 256 ≤ n → true ≡ nat_lt 256 (n + 1)
longer_true n h = grind (arith, nat_tests)

some_kept : (n : ℕ) → false ≡ (n == 0) → 0 < n
some_kept n h = grind (arith, nat_tests)

none_kept : (n : ℕ) → true ≡ (n == 0) → n ≡ 0
none_kept n h = grind (arith, nat_tests)

-- One more byte, which is kept.
pub partway_push : {kept : List ℕ} {is_longer : Bool} {text : List ℕ} {before at : Intake} (byte : ℕ) (left : Option (List ℕ)) (faults : Option ℕ) → Partway kept is_longer text before at
    → byte ≢ 10 → at.budget ≢ 0 → Consumes at.left left (byte ∷ []) → faults ≡ at.faults → length kept < 256
    → Partway (kept ++ byte ∷ []) is_longer (text ++ byte ∷ []) before (record { left = left; faults = faults; budget = at.budget - 1 })
partway_push {kept} {is_longer} {text} {before} {at} byte left faults h other more given same room = record {
  plain = HasNoNewline-push text byte h.plain other;
  kept_is =
      let short = short_text text kept h.kept_is room in
      ap (λ t. t ++ byte ∷ []) (h.kept_is ∙ take_all 256 text (omega arith)) ∙ sym (take_all 256 (text ++ byte ∷ []) (omega (arith, length-append text (byte ∷ []))));
  longer = h.longer ∙ longer_false (length text) (short_text text kept h.kept_is room) ∙ ap (nat_lt 256) (sym (length-append text (byte ∷ [])));
  given = consumes_more before.left at.left left text (byte ∷ []) h.given given;
  spent = omega (arith, h.spent, length-append text (byte ∷ []));
  same_faults = same ∙ h.same_faults;
}

-- One more byte, which is not kept.
pub partway_drop : {kept : List ℕ} {is_longer : Bool} {text : List ℕ} {before at : Intake} (byte : ℕ) (left : Option (List ℕ)) (faults : Option ℕ) → Partway kept is_longer text before at
    → byte ≢ 10 → at.budget ≢ 0 → Consumes at.left left (byte ∷ []) → faults ≡ at.faults → length kept ≡ 256
    → Partway kept true (text ++ byte ∷ []) before (record { left = left; faults = faults; budget = at.budget - 1 })
partway_drop {kept} {is_longer} {text} {before} {at} byte left faults h other more given same full = record {
  plain = HasNoNewline-push text byte h.plain other;
  kept_is = h.kept_is ∙ sym (take-append-le 256 text (byte ∷ []) (long_text text kept h.kept_is full));
  longer = longer_true (length text) (long_text text kept h.kept_is full) ∙ ap (nat_lt 256) (sym (length-append text (byte ∷ [])));
  given = consumes_more before.left at.left left text (byte ∷ []) h.given given;
  spent = omega (arith, h.spent, length-append text (byte ∷ []));
  same_faults = same ∙ h.same_faults;
}

pub line_fails : {kept : List ℕ} {is_longer : Bool} {text : List ℕ} {before at : Intake} (left : Option (List ℕ)) (faults : Option ℕ) → Partway kept is_longer text before at
    → Keeps at.left left → faults ≡ counted at.faults → ReadFails text before (record { left = left; faults = faults; budget = at.budget })
line_fails {text = text} {before} {at} left faults h same one = record {
  plain = h.plain;
  given = consumes_kept before.left at.left left text h.given same;
  within = omega (arith, h.spent);
  one_fault = one ∙ ap counted h.same_faults;
}

length_zero : (text : List ℕ) → length (take 256 text) ≡ 0 → text ≡ []
length_zero [] h = refl
length_zero (x ∷ text) h = absurd (omega arith)

pub no_line : {kept : List ℕ} {is_longer : Bool} {text : List ℕ} {before at : Intake} (left : Option (List ℕ)) (faults : Option ℕ) → Partway kept is_longer text before at
    → true ≡ (length kept == 0) → Keeps at.left left × IsAtEnd left × (faults ≡ at.faults) → ReadsNothing before (record { left = left; faults = faults; budget = at.budget })
no_line {kept} {is_longer} {text} {before} {at} left faults h empty end =
    let none = none_kept (length kept) empty in
    let nothing : text ≡ [] = length_zero text (ap length (sym h.kept_is) ∙ none) in
    record {
      at_end = end.1;
      same = keeps_nothing_read before.left at.left left text h.given nothing end.0;
      same_budget = omega (arith, h.spent, ap length nothing);
      same_faults = end.2 ∙ h.same_faults;
    }

pub last_line : {kept : ArrayVec ℕ} {is_longer : Bool} {text : List ℕ} {before at : Intake} (left : Option (List ℕ)) (faults : Option ℕ) → Partway kept.items is_longer text before at
    → false ≡ (length kept.items == 0) → Keeps at.left left × IsAtEnd left × (faults ≡ at.faults)
    → ReadsLine (record { kept = kept; is_longer = is_longer; is_ended = false }) text before (record { left = left; faults = faults; budget = at.budget })
last_line {kept} {is_longer} {text} {before} {at} left faults h some end = record {
  read = record {
    plain = h.plain;
    given = subst (λ t. Consumes before.left left t) (sym (append-nil text)) (consumes_kept before.left at.left left text h.given end.0);
    spent = omega (arith, h.spent, ap length (append-nil text));
    same_faults = end.2 ∙ h.same_faults;
    last = λ _. (omega (arith, some_kept _ some, ap length h.kept_is, length-take 256 text), end.1);
  };
  kept = h.kept_is;
  longer = h.longer;
}

pub ended_line : {kept : ArrayVec ℕ} {is_longer : Bool} {text : List ℕ} {before at : Intake} (byte : ℕ) (left : Option (List ℕ)) (faults : Option ℕ) → Partway kept.items is_longer text before at
    → byte ≡ 10 → at.budget ≢ 0 → Consumes at.left left (byte ∷ []) → faults ≡ at.faults
    → ReadsLine (record { kept = kept; is_longer = is_longer; is_ended = true }) text before (record { left = left; faults = faults; budget = at.budget - 1 })
ended_line {kept} {is_longer} {text} {before} {at} byte left faults h newline more given same = record {
  read = record {
    plain = h.plain;
    given = consumes_more before.left at.left left text (10 ∷ []) h.given (subst (λ b. Consumes at.left left (b ∷ [])) newline given);
    spent = omega (arith, h.spent, length-append text (10 ∷ []));
    same_faults = same ∙ h.same_faults;
    last = λ e. cc;
  };
  kept = h.kept_is;
  longer = h.longer;
}

pub too_much : {kept : List ℕ} {is_longer : Bool} {text : List ℕ} {before at : Intake} (byte : ℕ) (left : Option (List ℕ)) (faults : Option ℕ) → Partway kept is_longer text before at
    → at.budget ≡ 0 → Consumes at.left left (byte ∷ []) → faults ≡ at.faults
    → ReadsTooMuch text byte before (record { left = left; faults = faults; budget = at.budget })
too_much {text = text} {before} {at} byte left faults h none given same = record {
  plain = h.plain;
  given = consumes_more before.left at.left left text (byte ∷ []) h.given given;
  spent = omega (arith, h.spent);
  same_faults = same ∙ h.same_faults;
}
