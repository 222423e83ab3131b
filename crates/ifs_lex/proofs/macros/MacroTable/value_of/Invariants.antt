use Rattle.std.proofs.Common.{◌≡◌, Some, [], length}
use Rattle.ifs_lex.specs.Lexemes.{lexemes_at, lexemes_of}
use Rattle.ifs_lex.specs.Expansion.{value_from}
use Rattle.ifs_lex.specs.inner.Kept.{IsValue, whats_of_rope}
use Rattle.ifs_lex.specs.inner.Known.{macros_of}
use Rattle.ifs_lex.specs.inner.Ropes.{KeepsRopes}
use Rattle.ifs_lex.proofs.macros.MacroTable.value_of.Given as goal

abbrev pub invariant-lexemes : goal.invariant-lexemes
invariant-lexemes l =
    (value_from (macros_of l.initial.self) (Some (whats_of_rope l.self.ropes l.rope)) (lexemes_at l.cursor) ≡ value_from (macros_of l.initial.self) (Some []) (lexemes_of l.text))
    × (macros_of l.self ≡ macros_of l.initial.self)
    × KeepsRopes l.initial.self.ropes l.self.ropes
    × IsValue l.self.ropes l.rope

abbrev pub decreases-lexemes : goal.decreases-lexemes
decreases-lexemes l = length l.cursor.left
