-- The signs and the words of the grammar.
use Rattle.std.specs.Prelude.{ℕ, Bool, if◌then◌else◌, List, codes}
use Rattle.std.specs.Str.{bytes_eq}
use denote.Enum.Bare.{sameb}
use Rattle.ifs_lex.specs.declared.token.What.{What}
use Rattle.ifs_lex.specs.declared.token.What.TheVariants as what
use Rattle.ifs_parse.specs.declared.mark.Mark.{Mark}
use Rattle.ifs_parse.specs.declared.mark.Mark.TheVariants.{BraceOpen, BraceClose, ParenOpen, ParenClose, Dot}
use Rattle.ifs_parse.specs.declared.mark.Mark.TheVariants.{Bang, And, Or, End, State, InitState, Init, If, Run}
use Rattle.ifs_parse.specs.declared.mark.Mark.TheVariants.{SetState, Every, Link, Up, Down, Unknown, Other}
use Rattle.ifs_parse.specs.contracts.mark.Mark.{the_type}

-- The mark of a word: a word of the grammar has its own.
abbrev pub mark_of_word : List ℕ → Mark
mark_of_word word =
    if bytes_eq word (codes "state") then State else
    if bytes_eq word (codes "init-state") then InitState else
    if bytes_eq word (codes "init") then Init else
    if bytes_eq word (codes "if") then If else
    if bytes_eq word (codes "run") then Run else
    if bytes_eq word (codes "set-state") then SetState else
    if bytes_eq word (codes "every") then Every else
    if bytes_eq word (codes "link") then Link else
    if bytes_eq word (codes "up") then Up else
    if bytes_eq word (codes "down") then Down else
    if bytes_eq word (codes "unknown") then Unknown else Other

-- The mark of a token. A quoted text is no word of the grammar.
abbrev pub mark_of : What → Mark
mark_of (what.Word word) = mark_of_word word
mark_of (what.Quoted text) = Other
mark_of what.BraceOpen = BraceOpen
mark_of what.BraceClose = BraceClose
mark_of what.ParenOpen = ParenOpen
mark_of what.ParenClose = ParenClose
mark_of what.Dot = Dot
mark_of what.Equals = Other
mark_of what.Bang = Bang
mark_of what.And = And
mark_of what.Or = Or
mark_of what.End = End

-- Whether two marks are the same.
unfoldable pub is : Mark → Mark → Bool
is mark other = sameb the_type mark other
