use Rattle.std.proofs.Common.{◌≡◌, ℕ, ◌<◌, List, length, get_or, Option, None}
use Rattle.group_plan.specs.Tables.{ReadingsView, reading}
use Rattle.plan_meters.proofs.hidden.row_of.Given as goal

-- the readings of the first n meters
pub record Row (readings : ReadingsView) (g r n : ℕ) (row : List (Option ℕ)) : Type 0 where
  pub long : length row ≡ n
  pub each : (i : ℕ) → i < n → get_or row i None ≡ reading readings.table g r i

abbrev pub invariant-loop-meter : goal.invariant-loop-meter
invariant-loop-meter l = Row l.readings l.group l.round l.meter l.row.items
