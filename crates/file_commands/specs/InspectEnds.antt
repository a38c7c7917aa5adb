-- How `inspect PUBLIC TRANSCRIPT REPORT` ends.
use Rattle.desk_outside.specs.Desk.{View}
use Rattle.command_words.specs.Words.{InspectNames}
use Rattle.command_files.specs.Calls.{IsRead, PutsEnd, after_fetches, Unread}
use Rattle.command_texts.specs.Inspecting.{InspectBytes, OfPlan, IsInspected, InspectRefuses}
use Rattle.std.specs.Prelude.{ℕ, List, [], ◌∷◌, ◌≡◌, ◌⊎◌}
use Rattle.audit_check.specs.declared.answers.Inspected.{Inspected}
use Rattle.command_words.specs.declared.outcome.Outcome.{Outcome}
use Rattle.command_texts.specs.Lines.{line_of}

-- they were read under these names
pub record AreInspectBytes (names : InspectNames) (v : View) (bytes : InspectBytes) : Type 0 where
  pub public : IsRead (v.held names.public) bytes.public
  pub transcript : IsRead (v.held names.transcript) bytes.transcript
  pub report : IsRead (v.held names.report) bytes.report

-- the files that it fetches, in order
abbrev pub inspected_by : InspectNames → List (List ℕ)
inspected_by names = names.public ∷ names.transcript ∷ names.report ∷ []

-- the transcript is a run of the public plan and the report is confirmed, and what was counted is said
abbrev pub Inspects : InspectBytes → View → View → Outcome → Type 0
Inspects bytes v w outcome = (found : Inspected) × OfPlan bytes (λ t rows. IsInspected t rows found) × PutsEnd [] (line_of found) v w outcome

-- how it ends: a file is not read, or it is refused, or what was counted is said
abbrev pub InspectCommandEnds : InspectNames → View → View → Outcome → Type 0
InspectCommandEnds names v w outcome =
    Unread (inspected_by names) v w outcome
    ⊎ ((bytes : InspectBytes) × AreInspectBytes names v bytes
    × ((InspectRefuses names bytes outcome × (w ≡ after_fetches (inspected_by names) v))
    ⊎ Inspects bytes (after_fetches (inspected_by names) v) w outcome))
