use Rattle.std.proofs.Common.{◌≡◌, ◌++◌, length}
use Rattle.std.specs.Prelude.{string_bytes}
use denote.Shadow.{shadow}
use denote.Text.{Utf8}
use Rattle.ifs_lex.specs.Lexemes as lexemes
use Rattle.ifs_lex.proofs.pieces.quoted_value.Given as goal

abbrev pub invariant-loop-kept : goal.invariant-loop-kept
invariant-loop-kept l =
    shadow (Utf8 l.left) × (string_bytes l.value ++ lexemes.quoted_value l.quote l.left ≡ lexemes.quoted_value l.quote l.inside)

abbrev pub decreases-loop-kept : goal.decreases-loop-kept
decreases-loop-kept l = length l.left
