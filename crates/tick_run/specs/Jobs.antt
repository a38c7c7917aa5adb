-- What the head end adds to what the meters of a group send.
use Rattle.std.specs.Prelude.{ℕ, ◌+◌, ◌==◌, List, [], if◌then◌else◌}
use Rattle.std.specs.List.{flat_map, range_with_len}
use Rattle.meter_frames.specs.declared.Frame.{Frame}
use Rattle.group_book.specs.Books.{BookView, shape_of, past}
use Rattle.tick_run.specs.TickFrames.{announcements_at}

-- the announcements of group g at tick t
abbrev pub announcements_due : BookView → ℕ → ℕ → List Frame
announcements_due b t g = flat_map (λ r. if r + b.presence.plan.w1 == t then announcements_at (shape_of b) (past b) g r else []) (range_with_len 0 b.presence.plan.rounds)
