use Rattle.std.proofs.Common.{◌≡◌, ◌+◌, drop, count_by}
use Rattle.ifs_lint.specs.Clean.{is_defect}
use Rattle.ifs_lint.proofs.finding.count_defects.Given as goal

abbrev pub invariant-loop-finding : goal.invariant-loop-finding
invariant-loop-finding l = l.count + count_by is_defect (drop l.finding-index l.findings) ≡ count_by is_defect l.findings
