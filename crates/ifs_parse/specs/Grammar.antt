-- The grammar of policies: which tokens say which file, with which notes. Each line of the grammar is one rule.
use Rattle.std.specs.Prelude.{◌≡◌, ℕ, zero, suc, Bool, true, false, ◌&&◌, if◌then◌else◌, length}
use Rattle.std.specs.Prelude.{List, [], ◌∷◌, Option, Some, None, ◌⊎◌, ◌++◌, map}
use Rattle.std.specs.List.{list_any}
use Rattle.ifs_base.specs.declared.op.LinkState.{LinkState}
use Rattle.ifs_lex.specs.declared.token.Token.{Token}
use Rattle.ifs_lex.specs.declared.token.TokenPlace.{TokenPlace}
use Rattle.ifs_lex.specs.Numbered.{place_of, AreNumbered}
use Rattle.ifs_parse.specs.declared.mark.Mark.{Mark}
use Rattle.ifs_parse.specs.declared.mark.Mark.TheVariants as mark
use Rattle.ifs_parse.specs.declared.tree.Name.{Name}
use Rattle.ifs_parse.specs.declared.tree.Test.{Test}
use Rattle.ifs_parse.specs.declared.tree.Test.TheVariants.{Link, External}
use Rattle.ifs_parse.specs.declared.tree.Wish.{Wish}
use Rattle.ifs_parse.specs.declared.tree.Part.{Part}
use Rattle.ifs_parse.specs.declared.tree.Part.TheVariants.{Init, Do}
use Rattle.ifs_parse.specs.declared.tree.Item.{Item}
use Rattle.ifs_parse.specs.declared.tree.Item.TheVariants.{InitState, State, Always}
use Rattle.ifs_parse.specs.declared.block.Statement.{Statement}
use Rattle.ifs_parse.specs.declared.block.Statement.TheVariants.{Run, SetState, If}
use Rattle.ifs_parse.specs.Trees as tree
use Rattle.ifs_parse.specs.Views.{all_of, any_of, block_of}
use Rattle.ifs_parse.specs.Files.{File}
use Rattle.ifs_parse.specs.Marks.{mark_of}
use Rattle.ifs_parse.specs.Words.{fits_period, name_of, link_state_of, number_of_what}
use Rattle.ifs_parse.specs.declared.fault.ParseFault.{ParseFault}
use Rattle.ifs_parse.specs.declared.fault.ParseFault.TheVariants.{Unexpected, Period, Nesting, Memory}
use Rattle.ifs_parse.specs.Rules.{Rule, GivesValue, OneToken, TheMark, ◌⨟◌, ◌or◌, Never, Noted, Many, with_last}

-- string : a word that is not reserved | a quoted text
abbrev pub IsString : Rule Name
IsString = OneToken name_of

-- up | down | unknown
abbrev pub IsLinkState : Rule LinkState
IsLinkState = OneToken (λ t. link_state_of (mark_of t.what))

-- A number, if it fits.
abbrev pub fitting : (ℕ → Bool) → Option ℕ → Option ℕ
fitting fits None = None
fitting fits (Some n) = if fits n then Some n else None

-- number : an unquoted word of digits, whose number fits
abbrev pub IsPeriod : (ℕ → Bool) → Rule ℕ
IsPeriod fits = OneToken (λ t. fitting fits (number_of_what t.what))

-- link "." ( up | down | unknown )
abbrev pub IsLinkTest : Name → Rule Test
IsLinkTest name = TheMark mark.Link ⨟ λ _. TheMark mark.Dot ⨟ λ _. IsLinkState ⨟ λ l. GivesValue (Link name l)

-- test : string ( "." link "." ( up | down | unknown ) | every number )
abbrev pub IsTest : (ℕ → Bool) → Rule Test
IsTest fits = IsString ⨟ λ name. (TheMark mark.Dot ⨟ λ _. IsLinkTest name) or (TheMark mark.Every ⨟ λ _. IsPeriod fits ⨟ λ n. GivesValue (External name n))

-- Operands of one operator: the first, and the others in order.
pub record Operands (X : Type 0) : Type 0 where
  pub first : X
  pub others : List X

abbrev pub operands : {X : Type 0} → X → List X → Operands X
operands first others = record { first = first; others = others }

-- All operands, in order.
abbrev pub whole : {X : Type 0} → Operands X → List X
whole o = o.first ∷ o.others

-- A list has two or more values.
abbrev pub two_or_more : {X : Type 0} → List X → Bool
two_or_more [] = false
two_or_more (only ∷ []) = false
two_or_more (first ∷ second ∷ rest) = true

-- A chain: two or more operands.
abbrev pub is_chain : {X : Type 0} → Operands X → Bool
is_chain o = two_or_more (whole o)

-- Operands of `||` get a note if there are two or more, and at least one is a chain.
abbrev pub is_noted : {X : Type 0} → Operands (Operands X) → Bool
is_noted o = is_chain o && list_any is_chain (whole o)

-- The condition of operands of `&&`.
abbrev pub conjunction : Operands (tree.Condition Test) → tree.Condition Test
conjunction o = all_of o.first o.others

-- The condition of operands of `||`.
abbrev pub disjunction : Operands (Operands (tree.Condition Test)) → tree.Condition Test
disjunction o = any_of (conjunction o.first) (map conjunction o.others)

-- one { sign one }
abbrev pub Joined : {X : Type 0} → Mark → Rule X → Rule (Operands X)
Joined sign one = one ⨟ λ first. Many (TheMark sign ⨟ λ _. one) with_last [] ⨟ λ others. GivesValue (operands first others)

-- all : one { "&&" one }
abbrev pub IsAll : Rule (tree.Condition Test) → Rule (Operands (tree.Condition Test))
IsAll one = Joined mark.And one

-- The condition of operands of `||`, and whether they get a note.
abbrev pub said_by : Operands (Operands (tree.Condition Test)) → tree.Condition Test × Bool
said_by o = (disjunction o, is_noted o)

-- any : all { "||" all }, with a note on the line of its first `||` if its operands get one
abbrev pub IsAny : Rule (Operands (tree.Condition Test)) → Rule (tree.Condition Test)
IsAny all =
    all ⨟ λ first. (TheMark mark.Or ⨟ λ place. Noted place.span.line (Joined mark.Or all ⨟ λ more. GivesValue (said_by (operands first (whole more))))) or GivesValue (conjunction first)

-- one, by what comes after "!" and inside "(" and ")"
abbrev pub IsOneOver : Rule (tree.Condition Test) → Rule (tree.Condition Test) → Rule Test → Rule (tree.Condition Test)
IsOneOver negated grouped test =
    (TheMark mark.Bang ⨟ λ _. negated ⨟ λ c. GivesValue (tree.NotSo c))
    or (TheMark mark.ParenOpen ⨟ λ _. grouped ⨟ λ c. TheMark mark.ParenClose ⨟ λ _. GivesValue c)
    or (test ⨟ λ t. GivesValue (tree.Leaf t))

-- one : "!" one | "(" any ")" | test, by how many more may be open
abbrev pub IsOne : (ℕ → Bool) → ℕ → Rule (tree.Condition Test)
IsOne fits zero = IsOneOver Never Never (IsTest fits)
IsOne fits (suc room) = IsOneOver (IsOne fits room) (IsAny (IsAll (IsOne fits room))) (IsTest fits)

-- any, by how many more may be open
abbrev pub IsCondition : (ℕ → Bool) → ℕ → Rule (tree.Condition Test)
IsCondition fits room = IsAny (IsAll (IsOne fits room))

-- { part } "}"
abbrev pub AreBraced : {X : Type 0} → Rule X → Rule (List X)
AreBraced part = Many part with_last [] ⨟ λ xs. TheMark mark.BraceClose ⨟ λ _. GivesValue xs

-- block : stmt | "{" { stmt } "}"
abbrev pub IsBlock : Rule (Statement Test Name Wish) → Rule (tree.Block Test Name Wish)
IsBlock statement =
    (TheMark mark.BraceOpen ⨟ λ _. AreBraced statement ⨟ λ xs. GivesValue (block_of xs)) or (statement ⨟ λ x. GivesValue (block_of (x ∷ [])))

-- stmt, by what comes after `if`
abbrev pub IsStatementOver : Rule (Statement Test Name Wish) → Rule (Statement Test Name Wish)
IsStatementOver conditional =
    (TheMark mark.If ⨟ λ _. conditional)
    or (TheMark mark.Run ⨟ λ _. IsString ⨟ λ command. GivesValue (Run command))
    or (TheMark mark.SetState ⨟ λ place. IsString ⨟ λ name. GivesValue (SetState (record { place = place; state = name })))

-- What comes after `if` : any block
abbrev pub IsConditional : Rule (tree.Condition Test) → Rule (tree.Block Test Name Wish) → Rule (Statement Test Name Wish)
IsConditional condition block = condition ⨟ λ c. block ⨟ λ inner. GivesValue (If c inner)

-- stmt : if any block | run string | set-state string, by how many more may be open
abbrev pub IsStatement : (ℕ → Bool) → ℕ → Rule (Statement Test Name Wish)
IsStatement fits zero = IsStatementOver Never
IsStatement fits (suc room) = IsStatementOver (IsConditional (IsCondition fits room) (IsBlock (IsStatement fits room)))

-- init block | stmt
abbrev pub IsPart : Rule (Statement Test Name Wish) → Rule Part
IsPart statement = (TheMark mark.Init ⨟ λ place. IsBlock statement ⨟ λ inner. GivesValue (Init place inner)) or (statement ⨟ λ s. GivesValue (Do s))

-- init-state string | state string "{" { init block | stmt } "}" | init block | stmt
abbrev pub IsItem : Rule Part → Rule Item
IsItem part =
    (TheMark mark.InitState ⨟ λ place. IsString ⨟ λ name. GivesValue (InitState place name))
    or (TheMark mark.State ⨟ λ _. IsString ⨟ λ name. TheMark mark.BraceOpen ⨟ λ _. AreBraced part ⨟ λ parts. GivesValue (State name parts))
    or (part ⨟ λ p. GivesValue (Always p))

-- file : { init-state string | state string "{" { init block | stmt } "}" | init block | stmt }, and the end
abbrev pub AreItems : Rule Item → Rule (List Item)
AreItems item = Many item with_last [] ⨟ λ all. TheMark mark.End ⨟ λ _. GivesValue all

-- Tokens say a file, with periods that fit, and with at most `room` open `if`, `!` and `(` at the same time.
unfoldable pub SaysWithin : (ℕ → Bool) → ℕ → List Token → File → Type 0
SaysWithin fits room tokens file = AreItems (IsItem (IsPart (IsStatement fits room))) tokens file.items file.notes

-- Tokens with their end say a file: periods are from 1 to 604,800, and at most 32 `if`, `!` and `(` are open at the same time.
abbrev pub Says : List Token → File → Type 0
Says = SaysWithin fits_period 32

-- Some tokens say the file.
abbrev pub IsSaid : File → Type 0
IsSaid f = ∥ ((tokens : List Token) × Says tokens f) ∥₁

-- The place of a fault. A failed allocation has none.
abbrev pub fault_place : ParseFault → Option TokenPlace
fault_place (Unexpected place) = Some place
fault_place (Period place) = Some place
fault_place (Nesting place) = Some place
fault_place Memory = None

-- A fault at a place.
abbrev pub IsAt : ParseFault → TokenPlace → Type 0
IsAt fault place = (fault ≡ Unexpected place) ⊎ (fault ≡ Period place) ⊎ (fault ≡ Nesting place)

-- No tokens that begin with a front and a next token say a file within limits.
abbrev pub NoneGoesOn : (ℕ → Bool) → ℕ → List Token → Token → Type 0
NoneGoesOn fits room front token = (more : List Token) (other : File) → SaysWithin fits room (front ++ token ∷ more) other → ⊥

-- Some tokens that begin with a front and a next token say a file within limits.
abbrev pub GoesOn : (ℕ → Bool) → ℕ → List Token → Token → Type 0
GoesOn fits room front token = (more : List Token) × (other : File) × SaysWithin fits room (front ++ token ∷ more) other

-- Any period fits.
abbrev pub any_period : ℕ → Bool
any_period n = true

-- The limit of a fault is its reason: without the limit, the token could go on. Any period fits in place of one to
-- 604,800, and 33 may be open in place of 32.
abbrev pub Helps : ParseFault → List Token → Token → Type 0
Helps (Unexpected place) front token = Unit {0}
Helps (Period place) front token = GoesOn any_period 32 front token
Helps (Nesting place) front token = GoesOn fits_period 33 front token
Helps Memory front token = Unit {0}

-- Other limits do not help. None lets an unexpected token go on, no nesting a period that does not fit, and no other
-- periods a token that opens too much.
abbrev pub NoHelp : ParseFault → List Token → Token → Type 0
NoHelp (Unexpected place) front token = (fits : ℕ → Bool) (room : ℕ) → NoneGoesOn fits room front token
NoHelp (Period place) front token = (room : ℕ) → NoneGoesOn fits_period room front token
NoHelp (Nesting place) front token = (fits : ℕ → Bool) → NoneGoesOn fits 32 front token
NoHelp Memory front token = Unit {0}

-- Tokens stop at a token. The tokens before it can go on to say a file, but not with this token. The fault has its place. If the
-- tokens are numbered, its number is that of the tokens before it.
-- It is P7 or P8 if the token could go on without that limit, and P6 if no limits let it.
pub record StopsAt (tokens : List Token) (fault : ParseFault) : Type 0 where
  pub front : List Token
  pub token : Token
  pub rest : List Token
  pub whole : tokens ≡ front ++ token ∷ rest
  pub place : IsAt fault (place_of token)
  pub number : AreNumbered tokens → token.number ≡ length front
  pub tail : List Token
  pub file : File
  pub can : Says (front ++ tail) file
  pub cannot : NoneGoesOn fits_period 32 front token
  pub no_help : NoHelp fault front token
  pub helps : Helps fault front token
