-- The macros of the code's table.
use Rattle.std.specs.Prelude.{option_map}
use Rattle.std.specs.HashMap as hash
use Rattle.std.specs.Str.{bytes_eq}
use Rattle.ifs_lex.specs.declared.macros.MacroTable.{MacroTable}
use Rattle.ifs_lex.specs.Expansion.{Macros}
use Rattle.ifs_lex.specs.inner.Kept.{macro_of}

-- The macros of a table.
abbrev pub macros_of : MacroTable → Macros
macros_of t = record {
  known = λ name. option_map (macro_of t.ropes) (hash.get_by (λ k. bytes_eq name k.now) t.table);
  count = hash.hash_map_len t.table;
}
