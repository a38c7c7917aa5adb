-- How `audit TRANSCRIPT REPORT` ends.
use Rattle.std.specs.Prelude.{ℕ, List, [], ◌∷◌, ◌≡◌, ◌⊎◌, Ok}
use Rattle.command_files.specs.Calls.{PutsEnd, IsRead, after_fetches, Unread}
use Rattle.desk_outside.specs.Desk.{View}
use Rattle.command_words.specs.declared.outcome.Outcome.{Outcome}
use Rattle.audit_check.specs.declared.answers.AuditCounts.{AuditCounts}
use Rattle.command_texts.specs.Audits.{Audited, AuditRefuses}
use Rattle.command_texts.specs.Lines.{audited_line}

-- the report is confirmed, and its counts are said
abbrev pub Confirms : (transcript_bytes report_bytes : List ℕ) → View → View → Outcome → Type 0
Confirms tb rb v w outcome = (counts : AuditCounts) × Audited tb rb (Ok counts) × PutsEnd [] (audited_line counts.rows counts.totals) v w outcome

-- how it ends: a file is not read, or what they say is refused, or the report is confirmed
abbrev pub AuditCommandEnds : (transcript report : List ℕ) → View → View → Outcome → Type 0
AuditCommandEnds transcript report v w outcome =
    Unread (transcript ∷ report ∷ []) v w outcome
    ⊎ ((tb rb : List ℕ) × IsRead (v.held transcript) tb × IsRead (v.held report) rb
    × ((AuditRefuses transcript report tb rb outcome × (w ≡ after_fetches (transcript ∷ report ∷ []) v))
    ⊎ Confirms tb rb (after_fetches (transcript ∷ report ∷ []) v) w outcome))
