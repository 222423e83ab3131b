-- Requests: what a line asks for.
use Rattle.std.specs.Prelude.{ℕ, ◌-◌, ◌^◌, Bool, true, false, ◌&&◌, ◌==◌, nat_lt, if◌then◌else◌, List, [], ◌∷◌, length}
use Rattle.std.specs.Prelude.{take, drop, codes, Option, Some, None}
use Rattle.std.specs.List.{before_first, after_first}
use Rattle.std.specs.Str.{bytes_eq}
use Rattle.ifs_base.specs.declared.op.LinkState.{LinkState}
use Rattle.ifs_base.specs.declared.op.LinkState.TheVariants.{Unknown, Down, Up}
use Rattle.ifs_base.specs.Numbers.{number_of}
use Rattle.ifs_session.specs.declared.question.Question.{Question}
use Rattle.ifs_session.specs.declared.request.RequestFault.{RequestFault}
use Rattle.ifs_session.specs.declared.request.RequestFault.TheVariants.{NoRequest, TooLong, OutOfRange}
use Rattle.ifs_session.specs.Questions.{question_in}

-- What a line asks for, or its fault.
pub data Asked : Type 0 where
  ALink : (name : List ℕ) (link : LinkState) → Asked
  AResult : (test run : ℕ) (value : Bool) → Asked
  ATick : (moment : ℕ) → Asked
  ATake : Asked
  AQuestion : (question : Question) → Asked
  AStop : Asked
  AReload : Asked
  AFault : (fault : RequestFault) → Asked

-- A request for the link state of an interface, whose name has at least one byte.
abbrev pub link_named : List ℕ → LinkState → Asked
link_named [] link = AFault NoRequest
link_named (byte ∷ name) link = ALink (byte ∷ name) link

-- Whether a text begins with a word, and whether it ends with one.
abbrev pub starts_with : List ℕ → List ℕ → Bool
starts_with word text = bytes_eq (take (length word) text) word

abbrev pub ends_with : List ℕ → List ℕ → Bool
ends_with word text = bytes_eq (drop (length text - length word) text) word

-- The rest of a text after the word that it begins with, and before the word that it ends with.
abbrev pub behind_word : List ℕ → List ℕ → List ℕ
behind_word word text = drop (length word) text

abbrev pub before_word : List ℕ → List ℕ → List ℕ
before_word word text = take (length text - length word) text

-- The request of `link` and a text: a name, a space and a link state.
abbrev pub link_asked : List ℕ → Asked
link_asked text =
    if ends_with (codes " up") text then link_named (before_word (codes " up") text) Up else
    if ends_with (codes " down") text then link_named (before_word (codes " down") text) Down else
    if ends_with (codes " unknown") text then link_named (before_word (codes " unknown") text) Unknown else
    AFault NoRequest

-- The request of `result`, a test, a run and a value. The test's number is below 2 ^ 16, and the run's is below 2 ^ 64.
abbrev pub result_numbered : Option ℕ → Option ℕ → Bool → Asked
result_numbered (Some test) (Some run) value =
    if nat_lt test (2 ^ 16) && nat_lt run (2 ^ 64) then AResult test run value else AFault OutOfRange
result_numbered _ _ value = AFault NoRequest

-- The same for the text of the two numbers, with a space between them.
abbrev pub result_valued : List ℕ → Bool → Asked
result_valued text value =
    result_numbered (number_of (before_first (λ byte. byte == 32) text)) (number_of (after_first (λ byte. byte == 32) text)) value

-- The request of `result` and a text: two numbers, and `ok` or `fail`.
abbrev pub result_asked : List ℕ → Asked
result_asked text =
    if ends_with (codes " ok") text then result_valued (before_word (codes " ok") text) true else
    if ends_with (codes " fail") text then result_valued (before_word (codes " fail") text) false else
    AFault NoRequest

-- The request of `tick` and a number, which is below 2 ^ 64.
abbrev pub tick_asked : Option ℕ → Asked
tick_asked None = AFault NoRequest
tick_asked (Some moment) = if nat_lt moment (2 ^ 64) then ATick moment else AFault OutOfRange

-- The request for a question, if there is one.
abbrev pub question_asked : Option Question → Asked
question_asked None = AFault NoRequest
question_asked (Some question) = AQuestion question

-- The request of a line that is one word.
abbrev pub word_asked : List ℕ → Asked
word_asked word =
    if bytes_eq word (codes "take") then ATake else
    if bytes_eq word (codes "stop") then AStop else
    if bytes_eq word (codes "reload") then AReload else
    question_asked (question_in word)

-- The request of a line that is not too long.
abbrev pub short_asked : List ℕ → Asked
short_asked line =
    if starts_with (codes "link ") line then link_asked (behind_word (codes "link ") line) else
    if starts_with (codes "result ") line then result_asked (behind_word (codes "result ") line) else
    if starts_with (codes "tick ") line then tick_asked (number_of (behind_word (codes "tick ") line)) else
    word_asked line

-- What a line asks for, or its fault. A line of more than 256 bytes is too long.
abbrev pub asked : List ℕ → Asked
asked line = if nat_lt 256 (length line) then AFault TooLong else short_asked line
