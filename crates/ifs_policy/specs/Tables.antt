-- The tables of a text's names, filled by its mentions.
use Rattle.std.specs.Prelude.{ℕ, Bool, true, false, ◌&&◌, nat_eq, List, [], fold}
use Rattle.std.specs.Cmp.Lexicographic.{pointwise}
use Rattle.indexmap.specs.IndexSet.{insert_key}
use Rattle.ifs_parse.specs.declared.tree.Name.{Name}
use Rattle.ifs_policy.specs.declared.mention.Mention.TheVariants.{Interface, External, Command, Defined}
use Rattle.ifs_policy.specs.declared.mention.Mention.TheVariants.{Target, Init, InitState, SetState}
use Rattle.ifs_policy.specs.declared.mention.Owner.TheVariants.{Always, State}
use Rattle.ifs_policy.specs.declared.tables.ExternalTest.{ExternalTest}
use Rattle.ifs_policy.specs.declared.tables.Tables.{Tables}
use Rattle.ifs_policy.specs.declared.names.Names.{Names}
use Rattle.ifs_policy.specs.Mentions.{Mentioned}

-- Two texts are equal, byte by byte.
abbrev pub text_eq : List ℕ → List ℕ → Bool
text_eq = pointwise nat_eq

-- Two tests are equal: they have the same command and the same period.
abbrev pub test_eq : ExternalTest → ExternalTest → Bool
test_eq a b = text_eq a.command b.command && nat_eq a.period b.period

-- The test of a command and a period.
abbrev pub test_of : Name → ℕ → ExternalTest
test_of command period = record { command = command.text; period = period }

-- Empty tables.
abbrev pub no_tables : Tables
no_tables = record { interfaces = []; tests = []; commands = []; states = [] }

-- Empty tables, and no `init` or `init-state` so far.
abbrev pub no_names : Names
no_names = record { tables = no_tables; always_init = false; state_init = false; init_state = false }

-- The tables after a mention. A new entry is appended to its table. A state begins without an `init`.
abbrev pub after : Names → Mentioned → Names
after names (Interface name) =
    let tables = names.tables in
    record names { tables = record tables { interfaces = insert_key text_eq tables.interfaces name.text } }
after names (External half command period) =
    let tables = names.tables in
    record names { tables = record tables { tests = insert_key test_eq tables.tests (test_of command period) } }
after names (Command text) =
    let tables = names.tables in
    record names { tables = record tables { commands = insert_key text_eq tables.commands text.text } }
after names (Defined name) =
    let tables = names.tables in
    record names { tables = record tables { states = insert_key text_eq tables.states name.text }; state_init = false }
after names (Target name) = names
after names (Init Always place) = record names { always_init = true }
after names (Init State place) = record names { state_init = true }
after names (InitState place) = record names { init_state = true }
after names (SetState half place) = names

-- The tables after mentions, from the left.
abbrev pub names_after : Names → List Mentioned → Names
names_after names mentions = fold after names mentions

-- The tables of a text.
abbrev pub tables_of : List Mentioned → Tables
tables_of mentions = (names_after no_names mentions).tables
