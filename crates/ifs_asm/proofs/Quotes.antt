-- Quoted texts: reading one gives the text that its bytes spell.
use Rattle.std.proofs.Common.{◌≡◌, ◌≢◌, ℕ, ◌+◌, ◌*◌, ◌/◌, ◌%◌, ◌<◌, true, false, cond, List, [], ◌∷◌}
use Rattle.std.proofs.Common.{◌++◌, Option, Some, None, refl, sym, ap, subst, ◌∙◌, arith, append_assoc}
use Rattle.std.specs.Prelude.{◌==◌, ◌&&◌, ◌||◌, nat_lt, All}
use Rattle.std.specs.List.{flat_map, AllByRecursion}
use Rattle.std.proofs.lemmas.Bool.{and_parts, cond_both, eqb-true, ltb-true}
use Rattle.std.proofs.lemmas.Bool.Decides.{nat_tests}
use Rattle.std.proofs.lemmas.List.Elements.{All-from_recursion}
use Rattle.ifs_base.specs.Words.{hex_digit, quoted_byte, quoted}
use Rattle.ifs_asm.specs.Spellings.{is_plain, StandsForByte, itself, escaped, hexadecimal, StandFor, IsQuoted}
use Rattle.ifs_asm.specs.inner.Words.{Inside, Quote, Start, Within, Backslash, High, Low, Done, QuoteTurn, Goes, Gives}
use Rattle.ifs_asm.specs.inner.Words.{Stops, hex_value, high_turn, low_turn, quote_turn, onto, after_turn, text_from}
use Rattle.ifs_asm.proofs.Cutting.{runs, IsOneWord}

-- ---- hexadecimal digits

pub digit_value_is : (d : ℕ) → d < 16 → hex_value (hex_digit d) ≡ Some d
digit_value_is d h = grind (arith, nat_tests)

pub value_digit : (b d : ℕ) → hex_value b ≡ Some d → (d < 16) × (b ≡ hex_digit d)
value_digit b d h = (grind (arith, nat_tests), grind (arith, nat_tests))

digit_inside : (d : ℕ) → d < 16 → ((hex_digit d == 34) ≡ false) × ((hex_digit d == 92) ≡ false)
digit_inside d h = (grind (arith, nat_tests), grind (arith, nat_tests))

-- ---- a byte that stands for another is read so

plain_parts : (b : ℕ) → is_plain b ≡ true → ((b == 34) ≡ false) × ((b == 92) ≡ false)
plain_parts b e = (grind (arith, nat_tests), grind (arith, nat_tests))

pub read_plain : (b : ℕ) (rest : List ℕ) → is_plain b ≡ true → text_from (b ∷ rest) Within ≡ onto b (text_from rest Within)
read_plain b rest e =
    let p = plain_parts b e in
    rw (e, p.0, p.1) refl

read_escaped : (b : ℕ) (rest : List ℕ) → ((b == 34) || (b == 92)) ≡ true → text_from (92 ∷ b ∷ rest) Within ≡ onto b (text_from rest Within)
read_escaped b rest e = rw e refl

read_digits : (h l : ℕ) (rest : List ℕ) → h < 8 → l < 16 → 0 < h + l → text_from (92 ∷ 120 ∷ hex_digit h ∷ hex_digit l ∷ rest) Within ≡ onto (16 * h + l) (text_from rest Within)
read_digits h l rest hh hl some =
    let first = digit_value_is h (omega arith) in
    let second = digit_value_is l hl in
    let below : nat_lt h 8 ≡ true = grind (arith, nat_tests) in
    let over : nat_lt 0 (h + l) ≡ true = grind (arith, nat_tests) in
    rw (first, second, below, over) refl

read_byte : (b : ℕ) (front rest : List ℕ) → StandsForByte b front → text_from (front ++ rest) Within ≡ onto b (text_from rest Within)
read_byte b front rest (itself e whole) = rw whole (read_plain b rest e)
read_byte b front rest (escaped e whole) = rw whole (read_escaped b rest e)
read_byte b front rest (hexadecimal some below whole) =
    let value : 16 * (b / 16) + b % 16 ≡ b = omega arith in
    rw whole (read_digits (b / 16) (b % 16) rest (omega arith) (omega arith) (omega arith) ∙ ap (λ (n : ℕ). onto n (text_from rest Within)) value)

read_inside : (text inside : List ℕ) → StandFor text inside → text_from (inside ++ 34 ∷ []) Within ≡ Some text
read_inside [] inside s = rw s refl
read_inside (b ∷ text) inside s =
    let rest = s.rest ++ 34 ∷ [] in
    ap (λ (t : List ℕ). text_from (t ++ 34 ∷ []) Within) s.whole ∙ ap (λ (t : List ℕ). text_from t Within) (append_assoc s.front s.rest (34 ∷ []))
    ∙ read_byte b s.front rest s.stands ∙ ap (onto b) (read_inside text s.rest s.others)

pub text_again : (text word : List ℕ) → IsQuoted text word → text_from word Start ≡ Some text
text_again text word q = rw q.whole (read_inside text q.inside q.stand)

-- ---- what is read is what the bytes stand for

-- The rest of a word from inside its quotes.
pub record Ended (text bytes : List ℕ) : Type 0 where
  pub inside : List ℕ
  pub stand : StandFor text inside
  pub whole : bytes ≡ inside ++ 34 ∷ []

one_more : (b : ℕ) (front rest text bytes : List ℕ) → StandsForByte b front → bytes ≡ front ++ rest → Ended text rest → Ended (b ∷ text) bytes
one_more b front rest text bytes stands whole e = record {
  inside = front ++ e.inside;
  stand = record { front = front; rest = e.inside; stands = stands; others = e.stand; whole = refl };
  whole = whole ∙ ap (λ (t : List ℕ). front ++ t) e.whole ∙ sym (append_assoc front e.inside (34 ∷ []));
}

onto_some : (b : ℕ) (o : Option (List ℕ)) (text : List ℕ) → onto b o ≡ Some text → (rest : List ℕ) × (o ≡ Some rest) × (text ≡ b ∷ rest)
onto_some b None text h = absurd cc
onto_some b (Some rest) text h = (rest, refl, grind arith)

done_is : (bytes text : List ℕ) → text_from bytes Done ≡ Some text → (bytes ≡ []) × (text ≡ [])
done_is [] text h = (refl, grind arith)
done_is (b ∷ bs) text h = absurd cc

-- What reading from a place on says of the bytes there.
abbrev FoundAt : Quote → List ℕ → List ℕ → Type 0
FoundAt Start bytes text = IsQuoted text bytes
FoundAt Within bytes text = Ended text bytes
FoundAt Backslash bytes text = Ended text (92 ∷ bytes)
FoundAt High bytes text = Ended text (92 ∷ 120 ∷ bytes)
FoundAt (Low high) bytes text = Ended text (92 ∷ 120 ∷ hex_digit high ∷ bytes)
FoundAt Done bytes text = (bytes ≡ []) × (text ≡ [])

abbrev FoundFrom : List ℕ → Type 0
FoundFrom bytes = (quote : Quote) (text : List ℕ) → text_from bytes quote ≡ Some text → FoundAt quote bytes text

-- If the text after a turn is this one, then P.
abbrev After : List ℕ → List ℕ → Type 0 → QuoteTurn → Type 0
After bytes text P t = after_turn (text_from bytes) t ≡ Some text → P

start_found : (b : ℕ) (bs text : List ℕ) → FoundFrom bs → After bs text (IsQuoted text (b ∷ bs)) (quote_turn Start b)
start_found b bs text ih = cond_both (b == 34) (Goes Within) Stops (After bs text (IsQuoted text (b ∷ bs)))
    (λ e h.
    let f = ih Within text h in
    record { inside = f.inside; stand = f.stand; whole = ap (λ (x : ℕ). x ∷ bs) (eqb-true b 34 e) ∙ ap (λ (t : List ℕ). 34 ∷ t) f.whole })
    (λ e h. absurd cc)

within_found : (b : ℕ) (bs text : List ℕ) → FoundFrom bs → After bs text (Ended text (b ∷ bs)) (quote_turn Within b)
within_found b bs text ih =
    let P = After bs text (Ended text (b ∷ bs)) in
    cond_both (b == 34) (Goes Done) (cond (b == 92) (Goes Backslash) (cond (is_plain b) (Gives b) Stops)) P
    (λ e h.
    let d = done_is bs text h in
    record { inside = []; stand = subst (λ (t : List ℕ). StandFor t []) (sym d.1) refl; whole = ap (λ (x : ℕ). x ∷ bs) (eqb-true b 34 e) ∙ ap (λ (t : List ℕ). 34 ∷ t) d.0 })
    (λ _. cond_both (b == 92) (Goes Backslash) (cond (is_plain b) (Gives b) Stops) P
    (λ e h. subst (λ (x : ℕ). Ended text (x ∷ bs)) (sym (eqb-true b 92 e)) (ih Backslash text h))
    (λ _. cond_both (is_plain b) (Gives b) Stops P
    (λ e h.
    let o = onto_some b (text_from bs Within) text h in
    subst (λ (t : List ℕ). Ended t (b ∷ bs)) (sym o.2) (one_more b (b ∷ []) bs o.0 (b ∷ bs) (itself e refl) refl (ih Within o.0 o.1)))
    (λ _ h. absurd cc)))

backslash_found : (b : ℕ) (bs text : List ℕ) → FoundFrom bs → After bs text (Ended text (92 ∷ b ∷ bs)) (quote_turn Backslash b)
backslash_found b bs text ih =
    let P = After bs text (Ended text (92 ∷ b ∷ bs)) in
    cond_both ((b == 34) || (b == 92)) (Gives b) (cond (b == 120) (Goes High) Stops) P
    (λ e h.
    let o = onto_some b (text_from bs Within) text h in
    subst (λ (t : List ℕ). Ended t (92 ∷ b ∷ bs)) (sym o.2) (one_more b (92 ∷ b ∷ []) bs o.0 (92 ∷ b ∷ bs) (escaped e refl) refl (ih Within o.0 o.1)))
    (λ _. cond_both (b == 120) (Goes High) Stops P
    (λ e h. subst (λ (x : ℕ). Ended text (92 ∷ x ∷ bs)) (sym (eqb-true b 120 e)) (ih High text h))
    (λ _ h. absurd cc))

high_found : (b : ℕ) (bs text : List ℕ) (o : Option ℕ) → FoundFrom bs → hex_value b ≡ o → After bs text (Ended text (92 ∷ 120 ∷ b ∷ bs)) (high_turn o)
high_found b bs text None ih e = λ h. absurd cc
high_found b bs text (Some d) ih e =
    let v = value_digit b d e in
    λ h. subst (λ (x : ℕ). Ended text (92 ∷ 120 ∷ x ∷ bs)) (sym v.1) (ih (Low d) text h)

low_stands : (high d b : ℕ) → high < 8 → d < 16 → b ≡ hex_digit d → 0 < high + d → StandsForByte (16 * high + d) (92 ∷ 120 ∷ hex_digit high ∷ b ∷ [])
low_stands high d b hh hd is some =
    let first : (16 * high + d) / 16 ≡ high = omega arith in
    let second : (16 * high + d) % 16 ≡ d = omega arith in
    hexadecimal (omega arith) (omega arith) (rw (first, second, is) refl)

low_found : (high b : ℕ) (bs text : List ℕ) (o : Option ℕ) → FoundFrom bs → hex_value b ≡ o → After bs text (Ended text (92 ∷ 120 ∷ hex_digit high ∷ b ∷ bs)) (low_turn high o)
low_found high b bs text None ih e = λ h. absurd cc
low_found high b bs text (Some d) ih e =
    let v = value_digit b d e in
    cond_both (nat_lt high 8 && nat_lt 0 (high + d)) (Gives (16 * high + d)) Stops (After bs text (Ended text (92 ∷ 120 ∷ hex_digit high ∷ b ∷ bs)))
    (λ some h.
    let p = and_parts (nat_lt high 8) (nat_lt 0 (high + d)) some in
    let o = onto_some (16 * high + d) (text_from bs Within) text h in
    subst (λ (t : List ℕ). Ended t (92 ∷ 120 ∷ hex_digit high ∷ b ∷ bs)) (sym o.2)
    (one_more (16 * high + d) (92 ∷ 120 ∷ hex_digit high ∷ b ∷ []) bs o.0 (92 ∷ 120 ∷ hex_digit high ∷ b ∷ bs) (low_stands high d b (ltb-true high 8 p.0) v.0 v.1 (ltb-true 0 (high + d) p.1)) refl (ih Within o.0 o.1)))
    (λ _ h. absurd cc)

found_from : (bytes : List ℕ) → FoundFrom bytes
found_from [] Start text h = absurd cc
found_from [] Within text h = absurd cc
found_from [] Backslash text h = absurd cc
found_from [] High text h = absurd cc
found_from [] (Low high) text h = absurd cc
found_from [] Done text h = done_is [] text h
found_from (b ∷ bs) Start text h = start_found b bs text (found_from bs) h
found_from (b ∷ bs) Within text h = within_found b bs text (found_from bs) h
found_from (b ∷ bs) Backslash text h = backslash_found b bs text (found_from bs) h
found_from (b ∷ bs) High text h = high_found b bs text (hex_value b) (found_from bs) refl h
found_from (b ∷ bs) (Low high) text h = low_found high b bs text (hex_value b) (found_from bs) refl h
found_from (b ∷ bs) Done text h = absurd cc

pub text_found : (word text : List ℕ) → text_from word Start ≡ Some text → IsQuoted text word
text_found word text h = found_from word Start text h

-- ---- a text in quotes is one word

runs_byte : (b : ℕ) (front rest : List ℕ) → StandsForByte b front → runs Inside (front ++ rest) ≡ runs Inside rest
runs_byte b front rest (itself e whole) =
    let p = plain_parts b e in
    rw (whole, p.0, p.1) refl
runs_byte b front rest (escaped e whole) = rw whole refl
runs_byte b front rest (hexadecimal some below whole) =
    let high = digit_inside (b / 16) (omega arith) in
    let low = digit_inside (b % 16) (omega arith) in
    rw (whole, high.0, high.1, low.0, low.1) refl

runs_inside : (text inside : List ℕ) → StandFor text inside → runs Inside (inside ++ 34 ∷ []) ≡ true
runs_inside [] inside s = rw s refl
runs_inside (b ∷ text) inside s =
    ap (λ (t : List ℕ). runs Inside (t ++ 34 ∷ [])) s.whole ∙ ap (runs Inside) (append_assoc s.front s.rest (34 ∷ []))
    ∙ runs_byte b s.front (s.rest ++ 34 ∷ []) s.stands ∙ runs_inside text s.rest s.others

pub quoted_single : (text word : List ℕ) → IsQuoted text word → IsOneWord word
quoted_single text word q = subst IsOneWord (sym q.whole) (record { runs_on = runs_inside text q.inside q.stand; some = omega arith })

-- ---- a text as it is written in quotes

writes_case : (b : ℕ) → 0 < b → StandsForByte b (quoted_byte b)
writes_case b some =
    cond_both ((b == 34) || (b == 92)) (92 ∷ b ∷ []) (cond (nat_lt b 32 || (b == 127)) (92 ∷ 120 ∷ hex_digit (b / 16) ∷ hex_digit (b % 16) ∷ []) (b ∷ [])) (StandsForByte b)
    (λ e. escaped e refl)
    (λ no. cond_both (nat_lt b 32 || (b == 127)) (92 ∷ 120 ∷ hex_digit (b / 16) ∷ hex_digit (b % 16) ∷ []) (b ∷ []) (StandsForByte b)
    (λ e. hexadecimal (omega arith) (grind (arith, nat_tests)) refl)
    (λ other. itself (grind (arith, nat_tests)) refl))

writes_inside : (text : List ℕ) → AllByRecursion (λ byte. 0 < byte) text → StandFor text (flat_map quoted_byte text)
writes_inside [] a = refl
writes_inside (b ∷ text) a = record { front = quoted_byte b; rest = flat_map quoted_byte text; stands = writes_case b a.0; others = writes_inside text a.1; whole = refl }

pub quoted_is : (text : List ℕ) → AllByRecursion (λ byte. 0 < byte) text → IsQuoted text (quoted text)
quoted_is text a = record { inside = flat_map quoted_byte text; stand = writes_inside text a; whole = refl }

-- ---- no text has a NUL

plain_some : (b : ℕ) → is_plain b ≡ true → b ≡ 0 → ⊥
plain_some b e z = grind (arith, nat_tests)

escaped_some : (b : ℕ) → ((b == 34) || (b == 92)) ≡ true → b ≡ 0 → ⊥
escaped_some b e z = grind (arith, nat_tests)

stands_for_some : (b : ℕ) (front : List ℕ) → StandsForByte b front → b ≢ 0
stands_for_some b front (itself e whole) = λ z. plain_some b e z
stands_for_some b front (escaped e whole) = λ z. escaped_some b e z
stands_for_some b front (hexadecimal some below whole) = λ z. absurd (omega (arith, some, z))

stand_for_some : (text inside : List ℕ) → StandFor text inside → AllByRecursion (λ byte. byte ≢ 0) text
stand_for_some [] inside s = tt
stand_for_some (b ∷ text) inside s = (stands_for_some b s.front s.stands, stand_for_some text s.rest s.others)

pub no_nul : (text word : List ℕ) → IsQuoted text word → All (λ byte. byte ≢ 0) text
no_nul text word q = All-from_recursion (λ byte. byte ≢ 0) text (stand_for_some text q.inside q.stand)
