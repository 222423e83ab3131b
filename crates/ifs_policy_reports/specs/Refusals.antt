-- Reports on policies that are refused.
use Rattle.std.specs.Prelude.{◌≡◌, ◌≢◌, ℕ, List, Option, Some, None}
use Rattle.std.specs.Borrow.{Bor}
use Rattle.ifs_lex.specs.declared.fault.LexFault.{LexFault}
use Rattle.ifs_lex.specs.declared.fault.LexFault.TheVariants as lexing
use Rattle.ifs_lex.specs.Expansion.{defined_by}
use Rattle.ifs_parse.specs.declared.fault.ParseFault.{ParseFault}
use Rattle.ifs_parse.specs.declared.fault.ParseFault.TheVariants as parsing
use Rattle.ifs_policy.specs.declared.fault.ResolveFault.{ResolveFault}
use Rattle.ifs_policy.specs.declared.fault.ResolveFault.TheVariants as naming
use Rattle.ifs_policy.specs.declared.front.PolicyFault.{PolicyFault}
use Rattle.ifs_policy.specs.declared.front.PolicyFault.TheVariants as fronting
use Rattle.ifs_policy.specs.declared.policy.PolicyParts.{PolicyParts}
use Rattle.ifs_policy.specs.Texts.{HasPolicy}
use Rattle.ifs_gen.specs.declared.compile_fault.CompileFault.{CompileFault}
use Rattle.ifs_gen.specs.declared.compile_fault.CompileFault.TheVariants as compiling
use Rattle.ifs_gen.specs.Compiled.{IsCompiled, IsCompileRefusal}
use Rattle.ifs_gen.specs.FaultWords.{compile_fault_words}
use Rattle.ifs_expected_tokens.specs.Places.{IsPlaced}
use Rattle.ifs_report.specs.Codes.{first_word}
use Rattle.ifs_report.specs.declared.reports.Report.{Report}
use Rattle.ifs_policy_reports.specs.declared.advising.Until.{Until}
use Rattle.ifs_policy_reports.specs.declared.advising.Until.TheVariants as until

-- The line of a fault of the tokens.
abbrev pub line_of_tokens : LexFault → Option ℕ
line_of_tokens (lexing.Stray line) = Some line
line_of_tokens (lexing.Unclosed line) = Some line
line_of_tokens (lexing.UnknownMacro line) = Some line
line_of_tokens (lexing.BadMacro line) = Some line
line_of_tokens (lexing.OverLimit line) = Some line
line_of_tokens lexing.Memory = None

-- The line of a fault of the grammar.
abbrev pub line_of_tree : ParseFault → Option ℕ
line_of_tree (parsing.Unexpected place) = Some place.span.line
line_of_tree (parsing.Period place) = Some place.span.line
line_of_tree (parsing.Nesting place) = Some place.span.line
line_of_tree parsing.Memory = None

-- The line of a fault of the names.
abbrev pub line_of_names : ResolveFault → Option ℕ
line_of_names (naming.NoState line) = Some line
line_of_names (naming.StateTwice place) = Some place.span.line
line_of_names (naming.SecondInit place) = Some place.span.line
line_of_names (naming.SetStateInInit place) = Some place.span.line
line_of_names (naming.TestInInit place) = Some place.span.line
line_of_names (naming.TableFull place) = Some place.span.line
line_of_names (naming.BadText place) = Some place.span.line
line_of_names (naming.UnknownState place) = Some place.span.line
line_of_names naming.Memory = None

-- The line of a fault of a text.
abbrev pub line_of_text : PolicyFault → Option ℕ
line_of_text (fronting.Text fault) = line_of_tokens fault
line_of_text (fronting.Tokens fault) = line_of_tree fault
line_of_text (fronting.Names fault) = line_of_names fault
line_of_text fronting.Memory = None

-- The line of a fault. What exceeds a limit of images has none.
abbrev pub line_of_fault : CompileFault → Option ℕ
line_of_fault (compiling.Text fault) = line_of_text fault
line_of_fault (compiling.Code fault) = None
line_of_fault compiling.Memory = None

-- A text is accepted: it has a policy, and an image if it is read until then.
abbrev pub IsAccepted : Until → List ℕ → List (List ℕ × List ℕ) → Type 0
IsAccepted until.Policy text defs = (policy : PolicyParts) × HasPolicy text defs policy
IsAccepted until.Image text defs = (bytes : List ℕ) × IsCompiled text defs bytes

-- A report is of a fault: it has the code of the fault, and a place that the line of the fault allows.
pub record IsReportOf (text : List ℕ) (definitions : List (Bor (List ℕ) × Bor (List ℕ))) (fault : CompileFault) (report : Report) : Type 0 where
  pub code : report.code.now ≡ first_word (compile_fault_words fault)
  pub placed : IsPlaced text definitions (line_of_fault fault) report.place

-- A report is on the fault of a text. It has the code of this fault, and a place that the line of the fault allows.
pub record IsReportOn (text : List ℕ) (definitions : List (Bor (List ℕ) × Bor (List ℕ))) (report : Report) : Type 0 where
  pub fault : CompileFault
  pub refused : IsCompileRefusal text (defined_by definitions) fault
  pub certain : fault ≢ compiling.Memory
  pub code : report.code.now ≡ first_word (compile_fault_words fault)
  pub placed : IsPlaced text definitions (line_of_fault fault) report.place
