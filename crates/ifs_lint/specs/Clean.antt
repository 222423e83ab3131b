-- No finding is a defect, and nothing is left undecided.
use Rattle.std.specs.Prelude.{◌==◌, ◌&&◌, Bool, true, false, count_by}
use Rattle.ifs_report.specs.declared.reports.Severity.{Severity}
use Rattle.ifs_report.specs.declared.reports.Severity.TheVariants as severity
use Rattle.ifs_lint.specs.declared.finding.Finding.{Finding}
use Rattle.ifs_lint.specs.declared.finding.Said.{Said}
use Rattle.ifs_lint.specs.declared.linting.Linted.{Linted}

-- What is as grave as a warning.
abbrev pub is_grave : Severity → Bool
is_grave severity.Error = true
is_grave severity.Warning = true
is_grave severity.Note = false

-- A finding is a defect.
abbrev pub is_defect : Finding → Bool
is_defect finding = is_grave finding.report.severity

-- No finding is a defect, and nothing is left undecided.
abbrev pub is_clean : Said → Bool
is_clean said = (count_by is_defect said.findings.items == 0) && (said.undecided == 0)

-- The same of places, of states and of rounds.
abbrev pub are_clean : Linted → Bool
are_clean linted = is_clean linted.places && is_clean linted.states && is_clean linted.rounds
