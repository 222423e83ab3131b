-- The lexemes of the code's pieces.
use Rattle.std.specs.Prelude.{ℕ, ◌+◌, if◌then◌else◌, List, [], ◌∷◌, Option, Some, None, option_map}
use Rattle.ifs_lex.specs.declared.token.What.TheVariants.{Word, Quoted, BraceOpen, BraceClose, ParenOpen}
use Rattle.ifs_lex.specs.declared.token.What.TheVariants.{ParenClose, Dot, Equals, Bang, And, Or, End}
use Rattle.ifs_lex.specs.declared.pieces.Piece.{Piece}
use Rattle.ifs_lex.specs.declared.pieces.Piece.TheVariants as piece
use Rattle.ifs_lex.specs.declared.pieces.Sign.{Sign}
use Rattle.ifs_lex.specs.declared.pieces.Sign.TheVariants as signs
use Rattle.ifs_lex.specs.declared.token.What.{What}
use Rattle.ifs_lex.specs.declared.cursor.Lexeme as cursor
use Rattle.ifs_lex.specs.Lexemes.{Lexeme, Spanned, One, Uses, Stray, Unclosed, is_dropped, quoted_value}

-- The number of bytes before the first that is no part of the value.
abbrev pub kept_len : ℕ → List ℕ → Option ℕ
kept_len quote [] = None
kept_len quote (b ∷ rest) = if is_dropped quote b rest then Some 0 else option_map (λ n. 1 + n) (kept_len quote rest)

-- The token of a sign.
abbrev pub what_of : Sign → What
what_of signs.BraceOpen = BraceOpen
what_of signs.BraceClose = BraceClose
what_of signs.ParenOpen = ParenOpen
what_of signs.ParenClose = ParenClose
what_of signs.Dot = Dot
what_of signs.Bang = Bang
what_of signs.And = And
what_of signs.Or = Or

-- The lexeme of a piece.
abbrev pub lexeme_of : Piece → Lexeme
lexeme_of (piece.Word word) = One (Word word.now)
lexeme_of (piece.Quoted quote inside) = One (Quoted (quoted_value quote inside.now))
lexeme_of (piece.Use name) = Uses name.now
lexeme_of piece.Equals = One Equals
lexeme_of (piece.Sign sign) = One (what_of sign)
lexeme_of piece.End = One End
lexeme_of piece.Stray = Stray
lexeme_of piece.Unclosed = Unclosed

-- The lexeme of a piece, at its place.
abbrev pub spanned_of : cursor.Lexeme → Spanned
spanned_of found = record { lexeme = lexeme_of found.piece; span = found.span }
