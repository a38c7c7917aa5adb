-- Lines that are known to proofs alone, and readings of which no Send came.
use Rattle.std.specs.Prelude.{◌≡◌, ℕ, false, List}
use Rattle.std.specs.List.{flat_map}
use Rattle.group_plan.specs.declared.Kind.TheVariants.{Reading}
use Rattle.event_schedule.specs.declared.Line.{Line}
use Rattle.event_schedule.specs.Events.{once, is_send}
use Rattle.event_schedule.specs.Journal.{past_of}
use Rattle.transcript_log.specs.Lines.{LinesView}

-- the lines of these lists, one list after another
abbrev pub all_told : List (LinesView × Unit {0}) → List Line
all_told told = flat_map (λ x. x.0.items) told

-- no Send of this reading came
abbrev pub IsUnsent : List Line → ℕ → ℕ → ℕ → Type 0
IsUnsent journal g r i = once (λ e _. is_send g r i Reading e) (past_of journal) ≡ false
