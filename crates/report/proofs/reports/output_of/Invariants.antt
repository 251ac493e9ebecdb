use Rattle.std.proofs.Common.{◌≡◌, ◌++◌, drop, string_bytes, codes}
use Rattle.report.specs.Reports.{written}
use Rattle.report.proofs.reports.output_of.Given as goal

abbrev pub invariant-loop-report : goal.invariant-loop-report
invariant-loop-report l = string_bytes l.text ++ written (drop l.report-index l.reports) ≡ codes "line state number at\n" ++ written l.reports
