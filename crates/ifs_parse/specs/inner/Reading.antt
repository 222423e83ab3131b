-- The parser of the grammar. Each line of the grammar is one parser.
use Rattle.std.specs.Prelude.{ℕ, zero, suc, Bool, true, false, ◌||◌, if◌then◌else◌, List, [], ◌∷◌}
use Rattle.std.specs.Prelude.{◌++◌, length, insert, Option, option_map, Result, Ok, Err}
use Rattle.std.specs.Option.{option_map_or}
use Rattle.ifs_base.specs.declared.op.LinkState.{LinkState}
use Rattle.ifs_base.specs.Results.{◌>>=◌}
use Rattle.ifs_lex.specs.declared.token.Token.{Token}
use Rattle.ifs_lex.specs.declared.token.TokenPlace.{TokenPlace}
use Rattle.ifs_parse.specs.declared.fault.ParseFault.{ParseFault}
use Rattle.ifs_parse.specs.declared.fault.ParseFault.TheVariants.{Period, Nesting}
use Rattle.ifs_parse.specs.declared.mark.Mark.{Mark}
use Rattle.ifs_parse.specs.declared.mark.Mark.TheVariants as mark
use Rattle.ifs_parse.specs.declared.tree.Name.{Name}
use Rattle.ifs_parse.specs.declared.tree.Test.{Test}
use Rattle.ifs_parse.specs.declared.tree.Test.TheVariants.{Link, External}
use Rattle.ifs_parse.specs.declared.tree.Wish.{Wish}
use Rattle.ifs_parse.specs.declared.tree.Part.{Part}
use Rattle.ifs_parse.specs.declared.tree.Part.TheVariants.{Init, Do}
use Rattle.ifs_parse.specs.declared.tree.Item.{Item}
use Rattle.ifs_parse.specs.declared.tree.Item.TheVariants.{InitState, State, Always}
use Rattle.ifs_parse.specs.declared.block.Statement.{Statement}
use Rattle.ifs_parse.specs.declared.block.Statement.TheVariants.{Run, SetState, If}
use Rattle.ifs_parse.specs.declared.parser.Operand.{Operand}
use Rattle.ifs_parse.specs.Trees as tree
use Rattle.ifs_parse.specs.Views.{all_of, any_of, block_of}
use Rattle.ifs_parse.specs.Files.{File, file}
use Rattle.ifs_parse.specs.Marks.{mark_of}
use Rattle.ifs_parse.specs.Words.{name_of, link_state_of, number_of_what}
use Rattle.ifs_parse.specs.Rules.{with_last}
use Rattle.ifs_parse.specs.inner.Combined as combined
use Rattle.ifs_parse.specs.inner.Combined.{Parse, progress, ◌▸◌, pure, after_token, one_token, either, begins}
use Rattle.ifs_parse.specs.inner.Combined.{no_more, required, expected, unexpected, found, many, place_of_first}

-- string : a word that is not reserved | a quoted text
abbrev pub string : Parse Name
string = one_token name_of

-- up | down | unknown
abbrev pub link_state : Parse LinkState
link_state = one_token (λ t. link_state_of (mark_of t.what))

-- number : an unquoted word of digits, whose number fits
abbrev pub period : (ℕ → Bool) → Parse ℕ
period fits s = option_map_or (λ n. if fits n then Ok (n, after_token s) else Err (Period (place_of_first s.left))) (found (λ t. number_of_what t.what) s.left) (unexpected s)

-- What follows `string .` : link "." ( up | down | unknown )
abbrev pub link_test : Name → Parse Test
link_test name = expected mark.Link ▸ λ _. expected mark.Dot ▸ λ _. link_state ▸ λ l. pure (Link name l)

-- What follows `string every` : number
abbrev pub external_test : (ℕ → Bool) → Name → Parse Test
external_test fits name = period fits ▸ λ n. pure (External name n)

-- test : string "." link "." ( up | down | unknown ) | string every number
abbrev pub test : (ℕ → Bool) → Parse Test
test fits = string ▸ λ name. either mark.Dot (λ _. link_test name) (expected mark.Every ▸ λ _. external_test fits name)

-- An operand after its operator, if the operator comes.
abbrev pub next_operand : {X : Type 0} → Mark → Parse X → Parse (Option X)
next_operand sign operand = begins sign (λ _. operand) no_more

-- An operand of `||`, and whether it is a chain of `&&`.
abbrev pub operand : tree.Condition Test → Bool → Operand
operand condition is_chain = record { condition = condition; is_chain = is_chain }

-- What follows `one "&&"` : one { "&&" one }
abbrev pub chain : Parse (tree.Condition Test) → tree.Condition Test → Parse Operand
chain one first = one ▸ λ second. many (next_operand mark.And one) with_last [] ▸ λ rest. pure (operand (all_of (tree.And first second) rest) true)

-- all : one { "&&" one }
abbrev pub all : Parse (tree.Condition Test) → Parse Operand
all one = one ▸ λ first. either mark.And (λ _. chain one first) (pure (operand first false))

-- The operands after the first two, and whether any operand is a chain.
pub record Others : Type 0 where
  pub rest : List (tree.Condition Test)
  pub is_mixed : Bool

abbrev pub others : List (tree.Condition Test) → Bool → Others
others rest is_mixed = record { rest = rest; is_mixed = is_mixed }

-- The same with one more operand.
abbrev pub with_operand : Others → Operand → Others
with_operand o next = others (o.rest ++ next.condition ∷ []) (o.is_mixed || next.is_chain)

-- The same with a note at a place of the notes, if operands are mixed.
abbrev pub noted : ℕ → ℕ → Bool → combined.Progress → combined.Progress
noted index line is_mixed s = if is_mixed then progress s.left (insert s.notes index line) else s

-- What follows `all "||"` : all { "||" all }
abbrev pub alternatives : Parse Operand → Operand → Parse (tree.Condition Test × Bool)
alternatives all first =
    all ▸ λ second. many (next_operand mark.Or all) with_operand (others [] (first.is_chain || second.is_chain)) ▸ λ more.
    pure (any_of (tree.Or first.condition second.condition) more.rest, more.is_mixed)

-- A parser with a note at a line if its value says so.
abbrev pub with_note : {X : Type 0} → ℕ → Parse (X × Bool) → Parse X
with_note line p s = p s >>= λ r. Ok (r.0.0, noted (length s.notes) line r.0.1 r.1)

-- The same with its note, at the line of the first `||`.
abbrev pub noted_alternatives : Parse Operand → Operand → TokenPlace → Parse (tree.Condition Test)
noted_alternatives all first place = with_note place.span.line (alternatives all first)

-- any : all { "||" all }
abbrev pub any : Parse Operand → Parse (tree.Condition Test)
any all = all ▸ λ first. either mark.Or (noted_alternatives all first) (pure first.condition)

-- Nothing may be open: P8.
abbrev pub deep : {X : Type 0} → TokenPlace → Parse X
deep place s = Err (Nesting place)

-- one, by what comes after "!" and after "("
abbrev pub one_over : (TokenPlace → Parse (tree.Condition Test)) → (TokenPlace → Parse (tree.Condition Test)) → Parse Test → Parse (tree.Condition Test)
one_over negated grouped test =
    either mark.Bang (λ place. negated place ▸ λ c. pure (tree.NotSo c))
    (either mark.ParenOpen (λ place. grouped place ▸ λ c. expected mark.ParenClose ▸ λ _. pure c)
    (test ▸ λ t. pure (tree.Leaf t)))

-- one : "!" one | "(" any ")" | test, by how many more may be open
abbrev pub one : (ℕ → Bool) → ℕ → Parse (tree.Condition Test)
one fits zero = one_over deep deep (test fits)
one fits (suc room) = one_over (λ _. one fits room) (λ _. any (all (one fits room))) (test fits)

-- any, by how many more may be open
abbrev pub condition : (ℕ → Bool) → ℕ → Parse (tree.Condition Test)
condition fits room = any (all (one fits room))

-- { part } "}"
abbrev pub braced : {X : Type 0} → Parse (Option X) → Parse (List X)
braced part = many part with_last [] ▸ λ xs. expected mark.BraceClose ▸ λ _. pure xs

-- block : stmt | "{" { stmt } "}"
abbrev pub block : Parse (Option (Statement Test Name Wish)) → Parse (tree.Block Test Name Wish)
block statement =
    either mark.BraceOpen (λ _. braced statement ▸ λ xs. pure (block_of xs)) (required statement ▸ λ x. pure (block_of (x ∷ [])))

-- What follows `if` : any block
abbrev pub conditional_over : Parse (tree.Condition Test) → Parse (tree.Block Test Name Wish) → Parse (Statement Test Name Wish)
conditional_over condition block = condition ▸ λ c. block ▸ λ inner. pure (If c inner)

-- What follows `run` : string
abbrev pub run : Parse (Statement Test Name Wish)
run = string ▸ λ command. pure (Run command)

-- What follows `set-state` : string
abbrev pub set_state : TokenPlace → Parse (Statement Test Name Wish)
set_state place = string ▸ λ name. pure (SetState (record { place = place; state = name }))

-- stmt, if one comes, by what comes after `if`
abbrev pub statement_over : (TokenPlace → Parse (Statement Test Name Wish)) → Parse (Option (Statement Test Name Wish))
statement_over conditional = begins mark.If conditional (begins mark.Run (λ _. run) (begins mark.SetState set_state no_more))

-- stmt : if any block | run string | set-state string, if one comes, by how many more may be open
abbrev pub statement : (ℕ → Bool) → ℕ → Parse (Option (Statement Test Name Wish))
statement fits zero = statement_over deep
statement fits (suc room) = statement_over (λ _. conditional_over (condition fits room) (block (statement fits room)))

-- What follows `if`, by how many more may be open
abbrev pub conditional : (ℕ → Bool) → ℕ → Parse (Statement Test Name Wish)
conditional fits room = conditional_over (condition fits room) (block (statement fits room))

-- init block | stmt, if one comes
abbrev pub part : Parse (Option (Statement Test Name Wish)) → Parse (Option Part)
part statement =
    begins mark.Init (λ place. block statement ▸ λ inner. pure (Init place inner)) (statement ▸ λ s. pure (option_map Do s))

-- What follows `state` : string "{" { init block | stmt } "}"
abbrev pub state_item : Parse (Option Part) → Parse Item
state_item part = string ▸ λ name. expected mark.BraceOpen ▸ λ _. braced part ▸ λ parts. pure (State name parts)

-- init-state string | state string "{" { init block | stmt } "}" | init block | stmt, if one comes
abbrev pub item : Parse (Option Part) → Parse (Option Item)
item part =
    begins mark.InitState (λ place. string ▸ λ name. pure (InitState place name))
    (begins mark.State (λ _. state_item part) (part ▸ λ p. pure (option_map Always p)))

-- file : { init-state string | state string "{" { init block | stmt } "}" | init block | stmt }, and the end
abbrev pub items : Parse (Option Item) → Parse (List Item)
items item = many item with_last [] ▸ λ all. expected mark.End ▸ λ _. pure all

-- The file that tokens say, or the fault of the first token that cannot go on.
unfoldable pub read_within : (ℕ → Bool) → ℕ → List Token → Result File ParseFault
read_within fits room tokens =
    items (item (part (statement fits room))) (progress tokens []) >>= λ r. Ok (file r.0 r.1.notes)
