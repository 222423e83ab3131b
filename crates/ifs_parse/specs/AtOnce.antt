-- The fault that is certain before the first allocation. `parse` returns it even if allocations fail.
use Rattle.std.specs.Prelude.{Bool, true, false, if◌then◌else◌, List, [], ◌∷◌, Option, Some, None}
use Rattle.ifs_lex.specs.declared.token.Token.{Token}
use Rattle.ifs_lex.specs.Numbered.{place_of}
use Rattle.ifs_parse.specs.declared.mark.Mark.{Mark}
use Rattle.ifs_parse.specs.declared.mark.Mark.TheVariants as mark
use Rattle.ifs_parse.specs.declared.fault.ParseFault.{ParseFault}
use Rattle.ifs_parse.specs.declared.fault.ParseFault.TheVariants.{Unexpected}
use Rattle.ifs_parse.specs.Marks.{mark_of}

-- The marks with which a file can begin: those of an item, and the end.
abbrev pub may_come_first : Mark → Bool
may_come_first mark.InitState = true
may_come_first mark.State = true
may_come_first mark.Init = true
may_come_first mark.If = true
may_come_first mark.Run = true
may_come_first mark.SetState = true
may_come_first mark.End = true
may_come_first _ = false

-- The certain fault of tokens: no file begins with the first token.
abbrev pub certain_of_tokens : List Token → Option ParseFault
certain_of_tokens [] = None
certain_of_tokens (t ∷ rest) = if may_come_first (mark_of t.what) then None else Some (Unexpected (place_of t))
