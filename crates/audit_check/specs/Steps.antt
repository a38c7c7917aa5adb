-- One line more: whether it is what its frames make of its event after the lines before it.
use Rattle.std.specs.Prelude.{◌≡◌, ℕ, ◌-◌, ◌*◌, ◌^◌, ◌≤◌, true, false, List, [], ◌∷◌, ◌++◌, length}
use Rattle.event_schedule.specs.declared.Line.{Line}
use Rattle.event_schedule.specs.Events.{event_of}
use Rattle.event_schedule.specs.Schedule.{Shape, is_opened, survivors}
use Rattle.event_schedule.specs.Transcript.{line}
use Rattle.event_schedule.specs.Frames.{contents_of_lines}
use Rattle.event_schedule.specs.Journal.{past_of}

-- the line is the one that its frames give to its event
abbrev pub IsTold : Shape → List Line → Line → Type 0
IsTold s journal l = l ≡ line s (contents_of_lines (journal ++ l ∷ [])) (past_of journal) (event_of l)

-- the frame total of the survivors is no more than their readings can be
abbrev pub IsWithinReadings : Shape → List Line → ℕ → ℕ → Type 0
IsWithinReadings s journal g r =
    (contents_of_lines journal).total g r (survivors s g r (past_of journal)) ≤ (2 ^ 40 - 1) * length (survivors s g r (past_of journal))

-- no round that the line opens has too great a frame total
abbrev pub OpensWithinReadings : Shape → List Line → Line → Type 0
OpensWithinReadings s journal l =
    (g r : ℕ) → is_opened s g r (past_of (journal ++ l ∷ [])) ≡ true → is_opened s g r (past_of journal) ≡ false → IsWithinReadings s (journal ++ l ∷ []) g r

-- the line may come after these lines
pub record MayFollow (s : Shape) (journal : List Line) (l : Line) : Type 0 where
  pub told : IsTold s journal l
  pub opens : OpensWithinReadings s journal l
