-- What single tokens say.
use Rattle.std.specs.Prelude.{ℕ, Bool, cond, ◌&&◌, nat_le, if◌then◌else◌, List, Option, Some, None, option_map}
use Rattle.ifs_base.specs.declared.op.LinkState.{LinkState}
use Rattle.ifs_base.specs.declared.op.LinkState.TheVariants as link
use Rattle.ifs_base.specs.Numbers.{number_of}
use Rattle.ifs_lex.specs.Characters.{is_reserved}
use Rattle.ifs_lex.specs.declared.token.Token.{Token}
use Rattle.ifs_lex.specs.declared.token.TokenPlace.{TokenPlace}
use Rattle.ifs_lex.specs.Numbered.{place_of}
use Rattle.ifs_lex.specs.declared.token.What.{What}
use Rattle.ifs_lex.specs.declared.token.What.TheVariants.{Word, Quoted}
use Rattle.ifs_parse.specs.declared.mark.Mark.{Mark}
use Rattle.ifs_parse.specs.declared.mark.Mark.TheVariants as mark
use Rattle.ifs_parse.specs.declared.tree.Name.{Name}
use Rattle.ifs_parse.specs.Marks.{mark_of, is}

-- The place of a token, if it has this mark.
abbrev pub marked : Mark → Token → Option TokenPlace
marked mark t = cond (is (mark_of t.what) mark) (Some (place_of t)) None

-- The text of a string: a word that is not reserved, or a quoted text.
abbrev pub text_of : What → Option (List ℕ)
text_of (Word word) = if is_reserved word then None else Some word
text_of (Quoted text) = Some text
text_of _ = None

-- A string: its text, and its place.
abbrev pub name_of : Token → Option Name
name_of t = option_map (λ text. record { text = text; place = place_of t }) (text_of t.what)

-- The link state that a word names.
abbrev pub link_state_of : Mark → Option LinkState
link_state_of mark.Up = Some link.Up
link_state_of mark.Down = Some link.Down
link_state_of mark.Unknown = Some link.Unknown
link_state_of _ = None

-- The number that an unquoted word of digits spells.
abbrev pub number_of_what : What → Option ℕ
number_of_what (Word word) = number_of word
number_of_what _ = None

-- A period of a test: 1 to 604,800 seconds.
abbrev pub fits_period : ℕ → Bool
fits_period n = nat_le 1 n && nat_le n 604800
