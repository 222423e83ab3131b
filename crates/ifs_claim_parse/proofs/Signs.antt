-- A sign is no value of a macro.
use Rattle.std.proofs.Common.{◌≡◌, false, refl}
use Rattle.std.specs.Option.{is_some}
use Rattle.ifs_lex.specs.declared.pieces.Sign.{Sign}
use Rattle.ifs_lex.specs.declared.pieces.Sign.TheVariants as signs
use Rattle.ifs_lex.specs.Lexemes.{One}
use Rattle.ifs_lex.specs.Expansion.{macro_text_of}
use Rattle.ifs_lex.specs.inner.Pieces.{what_of}

pub sign_is_no_value : (sign : Sign) → is_some (macro_text_of (One (what_of sign))) ≡ false
sign_is_no_value signs.BraceOpen = refl
sign_is_no_value signs.BraceClose = refl
sign_is_no_value signs.ParenOpen = refl
sign_is_no_value signs.ParenClose = refl
sign_is_no_value signs.Dot = refl
sign_is_no_value signs.Bang = refl
sign_is_no_value signs.And = refl
sign_is_no_value signs.Or = refl
