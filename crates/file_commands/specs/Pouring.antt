-- A transcript that is read while its file comes from a desk.
use Rattle.std.specs.Prelude.{ℕ, List, [], ◌∷◌, ◌≡◌, Result, Ok, Err, Vec}
use Rattle.std.specs.declared.alloc.Global.{Global}
use Rattle.command_files.specs.Calls.{IsRead, Unread, after_fetches}
use Rattle.command_words.specs.declared.outcome.Outcome.{Outcome}
use Rattle.desk_outside.specs.Desk.{View}
use Rattle.event_schedule.specs.Transcripts.{TranscriptView}
use Rattle.transcript_text.specs.declared.fault.ReadError.{ReadError}
use Rattle.twin_worlds.specs.Twins.{IsReadOf}

-- a file was read, and the bytes of another one as a transcript; or the first fetch that gave none ends the command
abbrev pub FetchedAndPoured : List ℕ → List ℕ → View → View → Result (Vec ℕ Global × Result TranscriptView ReadError) Outcome → Type 0
FetchedAndPoured first second v w (Ok fetched) =
    (bytes : List ℕ) × IsRead (v.held first) fetched.0.items × IsRead (v.held second) bytes × (w ≡ after_fetches (first ∷ second ∷ []) v)
    × IsReadOf bytes fetched.1
FetchedAndPoured first second v w (Err outcome) = Unread (first ∷ second ∷ []) v w outcome
