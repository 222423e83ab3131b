-- No first line is both valid and invalid.
use Rattle.std.proofs.Common.{◌≡◌, ◌≢◌, ℕ, ◌+◌, ◌/◌, ◌%◌, ◌<◌, ◌≤◌, Bool, true, false, All, List, [], ◌∷◌, ◌++◌, length}
use Rattle.std.proofs.Common.{Option, Some, None, refl, sym, subst, ap, ◌∙◌, append_assoc, arith}
use Rattle.std.proofs.lemmas.Bool.Decides.{nat_tests}
use Rattle.std.proofs.lemmas.List.Elements.{All-head, All-tail}
use Rattle.std.specs.Io.KnownBytes.{Consumes, IsAtEnd}
use Rattle.ifs_session.specs.Device.{Feed}
use Rattle.ifs_session.specs.Lines.{line_end}
use Rattle.ifs_base.specs.Words.{hex_digit}
use Rattle.ifs_session.specs.Hexadecimal.{hex_text, high_digit, begun_text, EndsAt, BreaksRule, NoDigit, OddDigit}
use Rattle.ifs_session.specs.Hexadecimal.{DigitTooMany, OneAnswer}

no_newline : (digit : ℕ) → hex_digit digit ≢ 10
no_newline digit same = grind (arith, nat_tests)

-- The text of an invalid line after its whole bytes does not end a line.
not_at_an_end : (whole : ℕ) (high : Option ℕ) (last left : List ℕ) (ended : Bool) (rest : List ℕ) (after : Feed) → (ended ≡ false → rest ≡ [])
    → BreaksRule whole high last after → line_end ended ++ rest ≡ high_digit high ++ last ++ left → ⊥
not_at_an_end whole None last left true rest after end (NoDigit byte is _ other) same =
    let e : line_end true ++ rest ≡ byte ∷ left = same ∙ ap (λ l. l ++ left) is in
    other (cc)
not_at_an_end whole None last left false rest after end (NoDigit byte is _ other) same =
    let e : line_end false ++ rest ≡ byte ∷ left = same ∙ ap (λ l. l ++ left) is in
    let none = end refl in
    cc
not_at_an_end whole None last left ended rest after end (OddDigit digit _ some _ _) same = cc
not_at_an_end whole None last left true rest after end (DigitTooMany digit _ _ _ is) same =
    let e : line_end true ++ rest ≡ hex_digit digit ∷ left = same ∙ ap (λ l. l ++ left) is in
    no_newline digit (cc)
not_at_an_end whole None last left false rest after end (DigitTooMany digit _ _ _ is) same =
    let e : line_end false ++ rest ≡ hex_digit digit ∷ left = same ∙ ap (λ l. l ++ left) is in
    let none = end refl in
    cc
not_at_an_end whole (Some digit) last left true rest after end breaks same =
    let e : 10 ∷ rest ≡ hex_digit digit ∷ (last ++ left) = same in
    no_newline digit (cc)
not_at_an_end whole (Some digit) last left false rest after end breaks same =
    let none = end refl in
    cc

-- The two digits of a byte do not make a line invalid while another byte is within the limit.
no_break_at_a_byte : (whole : ℕ) (high : Option ℕ) (last left : List ℕ) (byte : ℕ) (rest : List ℕ) (after : Feed) → byte < 256 → whole < 65536 → after.left ≡ Some left
    → BreaksRule whole high last after → hex_digit (byte / 16) ∷ hex_digit (byte % 16) ∷ rest ≡ high_digit high ++ last ++ left → ⊥
no_break_at_a_byte whole None last left byte rest after small room known (NoDigit other is no_digit _) same =
    let e : hex_digit (byte / 16) ∷ hex_digit (byte % 16) ∷ rest ≡ other ∷ left = same ∙ ap (λ l. l ++ left) is in
    no_digit (byte / 16) (omega arith) (cc)
no_break_at_a_byte whole (Some digit) last left byte rest after small room known (NoDigit other is no_digit _) same =
    let e : hex_digit (byte / 16) ∷ hex_digit (byte % 16) ∷ rest ≡ hex_digit digit ∷ other ∷ left = same ∙ ap (λ l. hex_digit digit ∷ (l ++ left)) is in
    no_digit (byte % 16) (omega arith) (cc)
no_break_at_a_byte whole high last left byte rest after small room known (OddDigit digit true some is end) same =
    let e : hex_digit (byte / 16) ∷ hex_digit (byte % 16) ∷ rest ≡ hex_digit digit ∷ 10 ∷ left = same ∙ ap (λ h. high_digit h ++ last ++ left) some ∙ ap (λ l. hex_digit digit ∷ (l ++ left)) is in
    no_newline (byte % 16) (cc)
no_break_at_a_byte whole high last left byte rest after small room known (OddDigit digit false some is end) same =
    let e : hex_digit (byte / 16) ∷ hex_digit (byte % 16) ∷ rest ≡ hex_digit digit ∷ left = same ∙ ap (λ h. high_digit h ++ last ++ left) some ∙ ap (λ l. hex_digit digit ∷ (l ++ left)) is in
    let none : left ≡ [] = subst IsAtEnd known end in
    cc
no_break_at_a_byte whole high last left byte rest after small room known (DigitTooMany digit _ full _ _) same = absurd (omega arith)

-- No invalid line begins with a valid line and its end.
apart : (whole : ℕ) (bytes others : List ℕ) (high : Option ℕ) (last left : List ℕ) (ended : Bool) (rest : List ℕ) (after : Feed) → All (λ byte. byte < 256) bytes → whole + length bytes ≤ 65536
    → (ended ≡ false → rest ≡ []) → after.left ≡ Some left → BreaksRule (whole + length others) high last after
    → hex_text bytes ++ (line_end ended ++ rest) ≡ hex_text others ++ (high_digit high ++ last ++ left) → ⊥
apart whole [] [] high last left ended rest after small within end known breaks same = not_at_an_end (whole + 0) high last left ended rest after end breaks same
apart whole [] (other ∷ others) high last left true rest after small within end known breaks same =
    let e : 10 ∷ rest ≡ hex_digit (other / 16) ∷ (hex_digit (other % 16) ∷ (hex_text others ++ (high_digit high ++ last ++ left))) = same in
    no_newline (other / 16) (cc)
apart whole [] (other ∷ others) high last left false rest after small within end known breaks same =
    let none = end refl in
    cc
apart whole (byte ∷ bytes) [] high last left ended rest after small within end known breaks same =
    no_break_at_a_byte (whole + 0) high last left byte (hex_text bytes ++ (line_end ended ++ rest)) after (All-head (λ b. b < 256) byte bytes small) (omega arith) known breaks same
apart whole (byte ∷ bytes) (other ∷ others) high last left ended rest after small within end known breaks same =
    let more : whole + length (other ∷ others) ≡ (whole + 1) + length others = omega arith in
    apart (whole + 1) bytes others high last left ended rest after (All-tail (λ b. b < 256) byte bytes small) (omega arith) end known (subst (λ n. BreaksRule n high last after) more breaks) (cc)

-- The rest of known bytes after a text is known.
known_rest : (text bytes : List ℕ) (known : Option (List ℕ)) → (start : Option (List ℕ)) → start ≡ Some bytes → Consumes start known text → (rest : List ℕ) × (known ≡ Some rest) × (bytes ≡ text ++ rest)
known_rest text bytes None None is takes = cc
known_rest text bytes None (Some all) is takes = absurd takes
known_rest text bytes (Some rest) None is takes = cc
known_rest text bytes (Some rest) (Some all) is takes = let e : all ≡ bytes = cc in (rest, refl, sym e ∙ takes)

at_the_end : (ended : Bool) (after : Feed) (rest : List ℕ) → after.left ≡ Some rest → EndsAt ended after → ended ≡ false → rest ≡ []
at_the_end true after rest known end is = cc
at_the_end false after rest known end is = subst IsAtEnd known end

pub one_answer : OneAnswer
one_answer text bytes before after other known (ended, good) (others, high, last, broken) =
    let a = known_rest (hex_text bytes ++ line_end ended) text after.left before.left known good.takes.given in
    let b = known_rest (begun_text others high ++ last) text other.left before.left known broken.takes.given in
    apart 0 bytes others high last b.0 ended a.0 other good.are_bytes (omega (arith, good.within)) (at_the_end ended after a.0 a.1 good.ends) b.1
    (subst (λ n. BreaksRule n high last other) (omega arith) broken.breaks)
    (sym (append_assoc (hex_text bytes) (line_end ended) a.0) ∙ sym a.2 ∙ b.2 ∙ append_assoc (begun_text others high) last b.0 ∙ append_assoc (hex_text others) (high_digit high) (last ++ b.0) ∙ ap (λ t. hex_text others ++ t) (sym (append_assoc (high_digit high) last b.0)))
