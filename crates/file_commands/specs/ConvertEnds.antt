-- How `convert OLD TRANSCRIPT` ends.
use Rattle.std.specs.Prelude.{ℕ, List, [], ◌∷◌, ◌≡◌, Err, ⊤, ◌⊎◌, length}
use Rattle.command_files.specs.Calls.{putting, PutsEnd, IsRead, after_fetches, Unread}
use Rattle.desk_outside.specs.Desk.{View}
use Rattle.command_words.specs.declared.outcome.Outcome.{Outcome}
use Rattle.command_words.specs.declared.outcome.Outcome.TheVariants.{NoMemory, BadText}
use Rattle.command_words.specs.declared.text_fault.TextFault.TheVariants as of_text
use Rattle.command_texts.specs.Lines.{converted_line}
use Rattle.transcript_text.specs.declared.version.Version.TheVariants.{One}
use Rattle.event_schedule.specs.Transcripts.{TranscriptView}
use Rattle.transcript_text.specs.ReadBack.{HasText}
use Rattle.transcript_text.specs.Spelling.{text_of, transcript_text}
use Rattle.transcript_text.specs.Heads.{read_of}

-- the old bytes are the text of version 1 of a transcript, whose text of version 2 is put
abbrev pub TranscriptPut : (transcript bytes : List ℕ) → View → View → Outcome → Type 0
TranscriptPut transcript bytes v w outcome =
    (t : TranscriptView) × HasText One t × (bytes ≡ text_of One t)
    × PutsEnd (putting transcript (transcript_text t) ∷ []) (converted_line (length t.entries)) v w outcome

-- the text of OLD is refused; want of memory is free
abbrev pub ConvertRefuses : (old bytes : List ℕ) → Outcome → Type 0
ConvertRefuses old bytes (BadText name (of_text.Transcript fault)) = (name.now ≡ old) × (read_of One bytes ≡ Err fault)
ConvertRefuses old bytes NoMemory = ⊤
ConvertRefuses old bytes _ = ⊥

-- how it ends: OLD is not read, or its text is refused, or the transcript is put
abbrev pub ConvertEnds : (old transcript : List ℕ) → View → View → Outcome → Type 0
ConvertEnds old transcript v w outcome =
    Unread (old ∷ []) v w outcome
    ⊎ ((bytes : List ℕ) × IsRead (v.held old) bytes
    × ((ConvertRefuses old bytes outcome × (w ≡ after_fetches (old ∷ []) v))
    ⊎ TranscriptPut transcript bytes (after_fetches (old ∷ []) v) w outcome))
