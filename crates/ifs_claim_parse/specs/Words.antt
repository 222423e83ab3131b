-- The words of claims, and the tokens that are names.
use Rattle.std.specs.Prelude.{◌≡◌, ◌||◌, ℕ, if◌then◌else◌, List, Option, Some, None, codes, is_some}
use Rattle.std.specs.Str.{bytes_eq}
use Rattle.ifs_lex.specs.Characters.{is_reserved}
use Rattle.ifs_lex.specs.declared.token.Token.{Token}
use Rattle.ifs_lex.specs.declared.token.What.{What}
use Rattle.ifs_lex.specs.declared.token.What.TheVariants as what
use Rattle.ifs_claim_parse.specs.declared.keyword.Keyword.{Keyword}
use Rattle.ifs_claim_parse.specs.declared.keyword.Keyword.TheVariants.{Never, Rest, In, While, From, To, Enter, Run, Within, Changes, At, Any, Moment, May, Flap, Known, Unknown}

-- The word of the language of claims that a text spells.
unfoldable pub keyword_of_word : List ℕ → Option Keyword
keyword_of_word word =
    if bytes_eq word (codes "never") then Some Never else
    if bytes_eq word (codes "rest") then Some Rest else
    if bytes_eq word (codes "in") then Some In else
    if bytes_eq word (codes "while") then Some While else
    if bytes_eq word (codes "from") then Some From else
    if bytes_eq word (codes "to") then Some To else
    if bytes_eq word (codes "enter") then Some Enter else
    if bytes_eq word (codes "run") then Some Run else
    if bytes_eq word (codes "within") then Some Within else
    if bytes_eq word (codes "changes") then Some Changes else
    if bytes_eq word (codes "at") then Some At else
    if bytes_eq word (codes "any") then Some Any else
    if bytes_eq word (codes "moment") then Some Moment else
    if bytes_eq word (codes "may") then Some May else
    if bytes_eq word (codes "flap") then Some Flap else
    if bytes_eq word (codes "known") then Some Known else
    if bytes_eq word (codes "unknown") then Some Unknown else None

-- The word of the language of claims that a token is. A quoted text is none.
abbrev pub keyword_of : What → Option Keyword
keyword_of (what.Word word) = keyword_of_word word
keyword_of _ = None

-- The name or the command that a token is: a quoted text, or a word that neither the policies' language nor that of claims has.
abbrev pub name_in : What → Option (List ℕ)
name_in (what.Word word) = if is_reserved word || is_some (keyword_of_word word) then None else Some word
name_in (what.Quoted text) = Some text
name_in _ = None

-- A token is this word.
abbrev pub Is : Keyword → Token → Type 0
Is word token = keyword_of token.what ≡ Some word
