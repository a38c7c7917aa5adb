-- The rows that the form of a report has room for.
use Rattle.std.specs.Prelude.{◌^◌, ◌<◌, ◌≤◌, IsTrue, List, All}
use Rattle.group_plan.specs.Names.{is_name}
use Rattle.missing_round.specs.Sets.{IsSet}
use Rattle.totals_report.specs.declared.row.ReportRow.{ReportRow}
use Rattle.totals_report.specs.declared.row.RowOutcome.{RowOutcome}
use Rattle.totals_report.specs.declared.row.RowOutcome.TheVariants.{Total}

-- a total is below 2^64
abbrev pub IsSmallTotal : RowOutcome → Type 0
IsSmallTotal (Total total) = total < 2 ^ 64
IsSmallTotal _ = Unit {0}

-- a row that a report can have: a name of a group, a round below 4096, at most 256 survivors, a set of meters below 256
pub record IsRow (row : ReportRow) : Type 0 where
  pub named : IsTrue (is_name row.name)
  pub round : row.round < 4096
  pub survivors : row.survivors ≤ 256
  pub missing : IsSet row.missing
  pub total : IsSmallTotal row.outcome

abbrev pub AreRows : List ReportRow → Type 0
AreRows rows = All IsRow rows
