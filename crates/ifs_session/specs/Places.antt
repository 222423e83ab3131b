-- Places of a request line: which words make a request of it.
use Rattle.std.specs.Prelude.{ℕ, Bool, true, false, List, [], ◌∷◌, ◌++◌, filter, codes, Option, Some, None}
use Rattle.ifs_session.specs.declared.places.RequestWord.{RequestWord}
use Rattle.ifs_session.specs.declared.places.RequestWord.TheVariants as words
use Rattle.ifs_session.specs.declared.request.RequestFault.{RequestFault}
use Rattle.ifs_session.specs.Requests.{Asked, AFault, asked}

-- Whether a line is a request. Whether its interface is in the table is no matter here.
abbrev pub is_request : Asked → Bool
is_request (AFault fault) = false
is_request _ = true

-- Why a line is no request, if it is none.
abbrev pub fault_in : Asked → Option RequestFault
fault_in (AFault fault) = Some fault
fault_in _ = None

-- What a word is in a line. A name may have other bytes, and a number other digits.
abbrev pub spelling : RequestWord → List ℕ
spelling words.Link = codes "link"
spelling words.Result = codes "result"
spelling words.Tick = codes "tick"
spelling words.Take = codes "take"
spelling words.Status = codes "status"
spelling words.Trace = codes "trace"
spelling words.Stop = codes "stop"
spelling words.Up = codes "up"
spelling words.Down = codes "down"
spelling words.Unknown = codes "unknown"
spelling words.Good = codes "ok"
spelling words.Fail = codes "fail"
spelling words.Name = codes "x"
spelling words.Number = codes "0"

-- All of them, in the order in which a report names them.
abbrev pub request_words : List RequestWord
request_words =
    words.Link ∷ words.Result ∷ words.Tick ∷ words.Take ∷ words.Status ∷ words.Trace ∷ words.Stop ∷ words.Up ∷ words.Down ∷
    words.Unknown ∷ words.Good ∷ words.Fail ∷ words.Name ∷ words.Number ∷ []

-- Whether a word makes a request of a line, between what is before it and what is after it.
abbrev pub fits : List ℕ → List ℕ → RequestWord → Bool
fits before after word = is_request (asked (before ++ spelling word ++ after))

-- The words that make a request of a line.
abbrev pub words_at : List ℕ → List ℕ → List RequestWord
words_at before after = filter (fits before after) request_words
