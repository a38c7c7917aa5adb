-- The summary of a run: how many rounds of each kind, how many Sends and how many Takes.
use Rattle.std.specs.Prelude.{ℕ, ◌*◌, Bool, true, false, List, length, map, reverse, sum_by, count_by}
use Rattle.std.specs.List.{flat_map, range_with_len}
use Rattle.link_lanes.specs.declared.Post.{Post}
use Rattle.event_schedule.specs.declared.Line.{Line}
use Rattle.event_schedule.specs.Events.{event_of}
pub use Rattle.transcript_log.specs.Kinds.{is_sending, is_taking}
use Rattle.event_schedule.specs.Schedule.{Shape}
use Rattle.run_rows.specs.Ticks.{Clock}
use Rattle.run_rows.specs.Report.{Row, ThinRow, TotalRow, NoneRow, row, outcome_row, fate_at}

pub record Summary : Type 0 where
  pub rounds : ℕ
  pub totals : ℕ
  pub nones : ℕ
  pub thins : ℕ
  pub sends : ℕ
  pub takes : ℕ

abbrev pub is_total : Row → Bool
is_total (TotalRow a total) = true
is_total _ = false

abbrev pub is_none_row : Row → Bool
is_none_row (NoneRow a) = true
is_none_row _ = false

abbrev pub is_thin : Row → Bool
is_thin (ThinRow a) = true
is_thin _ = false

-- the rows of a report: by group and then by round
abbrev pub all_rows : Shape → Clock → (ℕ → ℕ → Row) → List Row
all_rows s c row_at = flat_map (λ g. map (row_at g) (range_with_len 0 c.rounds)) (range_with_len 0 (length s.groups))

-- the counts of these rows, beside these numbers of Sends and Takes
abbrev pub summary : Shape → Clock → List Row → ℕ → ℕ → Summary
summary s c rows sends takes = record {
  rounds = length s.groups * c.rounds;
  totals = count_by is_total rows;
  nones = count_by is_none_row rows;
  thins = count_by is_thin rows;
  sends = sends;
  takes = takes;
}

-- ---- of a list of lines: a Send counts where it has a frame

abbrev pub summary_of_lines : Shape → Clock → (ℕ → ℕ → List ℕ → ℕ) → List Line → Summary
summary_of_lines s c total ls =
    summary s c (all_rows s c (λ g r. outcome_row s total g r (reverse (map event_of ls)))) (count_by is_sending ls) (count_by is_taking ls)

-- ---- of a list of posts, with no schedule: the Sends are the posts, and the Takes all delays of all their fates

abbrev pub summary_of_posts : Shape → Clock → (ℕ → ℕ → List ℕ → ℕ) → List Post → Summary
summary_of_posts s c total posts =
    summary s c (all_rows s c (row s c (fate_at posts) total)) (length posts) (sum_by (λ p. length p.fate) posts)
