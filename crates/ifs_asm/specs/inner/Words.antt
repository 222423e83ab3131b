-- Reading words: where a word ends, the words of a line, and what quoted texts, lists of tests and lists of kinds say.
use Rattle.std.specs.Prelude.{ℕ, zero, suc, ◌≡◌, ◌≤◌, ◌+◌, ◌-◌, ◌*◌, ◌^◌, ◌==◌, ◌&&◌, ◌||◌, not, nat_lt, Bool, false}
use Rattle.std.specs.Prelude.{if◌then◌else◌, List, [], ◌∷◌, ◌++◌, length, codes, take, drop, Option, Some, None, option_and_then, option_map}
use Rattle.std.specs.List.{slice_split, prefix_len}
use Rattle.std.specs.Str.{bytes_eq, is_utf8}
use Rattle.ifs_base.specs.declared.op.Kind.{Kind}
use Rattle.ifs_base.specs.declared.op.Kind.TheVariants.{Truth, Command, StateName}
use Rattle.ifs_base.specs.Numbers.{number_of}
use Rattle.ifs_asm.specs.Spellings.{is_space_or_tab, is_plain}

-- The place of a byte of a word: outside quotes, inside quotes, or after a backslash inside quotes.
pub data Mode : Type 0 where
  Bare : Mode
  Inside : Mode
  Escaped : Mode

-- The place of the byte after a byte.
abbrev pub mode_after : Mode → ℕ → Mode
mode_after Bare byte = if byte == 34 then Inside else Bare
mode_after Inside byte = if byte == 34 then Bare else if byte == 92 then Escaped else Inside
mode_after Escaped byte = Inside

-- A word ends before a blank outside quotes.
abbrev pub ends_at : Mode → ℕ → Bool
ends_at Bare byte = is_space_or_tab byte
ends_at Inside byte = false
ends_at Escaped byte = false

-- A byte inside quotes that neither ends them nor begins an escape.
abbrev pub goes_on : ℕ → Bool
goes_on byte = not ((byte == 34) || (byte == 92))

-- The number of bytes that are left of a word.
abbrev pub word_len : Mode → List ℕ → ℕ
word_len mode [] = 0
word_len mode (byte ∷ bytes) = if ends_at mode byte then 0 else 1 + word_len (mode_after mode byte) bytes

-- The bytes after the blanks at the front.
abbrev pub after_blanks : List ℕ → List ℕ
after_blanks bytes = drop (prefix_len is_space_or_tab bytes) bytes

-- The word at the front.
abbrev pub word_of : List ℕ → List ℕ
word_of bytes = take (word_len Bare bytes) bytes

-- The bytes after the word at the front.
abbrev pub after_word : List ℕ → List ℕ
after_word bytes = drop (word_len Bare bytes) bytes

-- The first word of bytes that do not begin with a blank, and those that `others` makes of the rest. Empty bytes have none.
abbrev pub first_then : (List ℕ → List (List ℕ)) → List ℕ → List (List ℕ)
first_then others [] = []
first_then others (byte ∷ bytes) = word_of (byte ∷ bytes) ∷ others (after_word (byte ∷ bytes))

-- The first words, at most a number of them.
abbrev pub words_up_to : ℕ → List ℕ → List (List ℕ)
words_up_to zero bytes = []
words_up_to (suc n) bytes = first_then (words_up_to n) (after_blanks bytes)

-- ---- quoted texts

-- The value of a hexadecimal digit in lower case.
abbrev pub hex_value : ℕ → Option ℕ
hex_value byte =
    if nat_lt 47 byte && nat_lt byte 58 then Some (byte - 48) else
    if nat_lt 96 byte && nat_lt byte 103 then Some (byte - 87) else None

-- The place of the next byte of a quoted text: at the first quote, between the quotes, after a backslash, at the first
-- hexadecimal digit, at the second one, or after the second quote.
pub data Quote : Type 0 where
  Start : Quote
  Within : Quote
  Backslash : Quote
  High : Quote
  Low : (digit : ℕ) → Quote
  Done : Quote

-- What a byte of a quoted text does: it moves on to a place, gives a byte of the text, or is not allowed.
pub data QuoteTurn : Type 0 where
  Goes : (quote : Quote) → QuoteTurn
  Gives : (byte : ℕ) → QuoteTurn
  Stops : QuoteTurn

-- What the first hexadecimal digit of a character does.
abbrev pub high_turn : Option ℕ → QuoteTurn
high_turn None = Stops
high_turn (Some digit) = Goes (Low digit)

-- What the second one does. The character is from 1 to 127.
abbrev pub low_turn : ℕ → Option ℕ → QuoteTurn
low_turn high None = Stops
low_turn high (Some digit) = if nat_lt high 8 && nat_lt 0 (high + digit) then Gives (16 * high + digit) else Stops

-- What a byte does at a place.
abbrev pub quote_turn : Quote → ℕ → QuoteTurn
quote_turn Start byte = if byte == 34 then Goes Within else Stops
quote_turn Within byte =
    if byte == 34 then Goes Done else
    if byte == 92 then Goes Backslash else
    if is_plain byte then Gives byte else Stops
quote_turn Backslash byte =
    if (byte == 34) || (byte == 92) then Gives byte else
    if byte == 120 then Goes High else Stops
quote_turn High byte = high_turn (hex_value byte)
quote_turn (Low high) byte = low_turn high (hex_value byte)
quote_turn Done byte = Stops

-- What an escape does that spells a byte, or none.
abbrev pub given : Option ℕ → QuoteTurn
given None = Stops
given (Some byte) = Gives byte

-- A byte before the rest of a text.
abbrev pub onto : ℕ → Option (List ℕ) → Option (List ℕ)
onto byte None = None
onto byte (Some text) = Some (byte ∷ text)

-- The text after a byte, given the texts of the bytes after it at each place.
abbrev pub after_turn : (Quote → Option (List ℕ)) → QuoteTurn → Option (List ℕ)
after_turn others (Goes quote) = others quote
after_turn others (Gives byte) = onto byte (others Within)
after_turn others Stops = None

-- The text at the end of the bytes: empty after the second quote, and none at any other place.
abbrev pub at_end : Quote → Option (List ℕ)
at_end Done = Some []
at_end Start = None
at_end Within = None
at_end Backslash = None
at_end High = None
at_end (Low high) = None

-- The text that bytes spell from a place on.
abbrev pub text_from : List ℕ → Quote → Option (List ℕ)
text_from [] quote = at_end quote
text_from (byte ∷ bytes) quote = after_turn (text_from bytes) (quote_turn quote byte)

-- The text of bytes inside quotes that give no byte: only the second quote may be left.
abbrev pub ending : List ℕ → Option (List ℕ)
ending bytes = if bytes_eq bytes (codes "\"") then Some [] else None

-- A text, if it is in UTF-8.
abbrev pub in_utf8 : List ℕ → Option (List ℕ)
in_utf8 text = if is_utf8 text then Some text else None

-- The text that a word quotes.
abbrev pub text_in : List ℕ → Option (List ℕ)
text_in word = option_and_then in_utf8 (text_from word Start)

-- The plain bytes at the front of bytes inside quotes were moved to the end of a text.
pub record TakesRun (old new left rest : List ℕ) : Type 0 where
  pub text : option_map (λ text. new ++ text) (text_from rest Within) ≡ option_map (λ text. old ++ text) (text_from left Within)
  pub shorter : length rest ≤ length left
  pub whole : prefix_len is_plain rest ≡ 0

-- ---- lists

-- What a list gives after some of its parts: each part is read, and what is read is added. None if a part cannot be read or added.
abbrev pub all_added : {S X : Type 0} → (List ℕ → Option X) → (S → X → Option S) → S → List (List ℕ) → Option S
all_added read add so_far [] = Some so_far
all_added read add so_far (part ∷ parts) = option_and_then (λ x. option_and_then (λ more. all_added read add more parts) (add so_far x)) (read part)

-- ---- lists of tests

-- A mask with one more test, if that is greater than all its tests.
abbrev pub with_test : ℕ → ℕ → Option ℕ
with_test mask test = if nat_lt test 64 && nat_lt mask (2 ^ test) then Some (2 ^ test + mask) else None

-- A mask with further tests, given as numbers in digits.
abbrev pub masked : ℕ → List (List ℕ) → Option ℕ
masked mask parts = all_added number_of with_test mask parts

-- The mask that a list spells.
abbrev pub mask_in : List ℕ → Option ℕ
mask_in word = if bytes_eq word (codes "-") then Some 0 else masked 0 (slice_split (λ byte. byte == 44) word)

-- ---- lists of kinds

-- The kind that a word names.
abbrev pub kind_in : List ℕ → Option Kind
kind_in word =
    if bytes_eq word (codes "truth") then Some Truth else
    if bytes_eq word (codes "command") then Some Command else
    if bytes_eq word (codes "state") then Some StateName else None

-- Kinds with one more on top, if there are at most four then.
abbrev pub with_kind : List Kind → Kind → Option (List Kind)
with_kind kinds kind = if nat_lt (length kinds) 4 then Some (kinds ++ kind ∷ []) else None

-- Kinds with further ones, given as words.
abbrev pub kinds_from : List Kind → List (List ℕ) → Option (List Kind)
kinds_from kinds parts = all_added kind_in with_kind kinds parts

-- The kinds that a list spells.
abbrev pub kinds_in : List ℕ → Option (List Kind)
kinds_in word = if bytes_eq word (codes "-") then Some [] else kinds_from [] (slice_split (λ byte. byte == 44) word)
