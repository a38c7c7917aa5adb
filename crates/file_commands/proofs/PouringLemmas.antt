-- A transcript that is read while its file comes.
use Rattle.std.proofs.Common.{ℕ, List, Result, Ok, Err}
use Rattle.event_schedule.specs.Transcripts.{TranscriptView}
use Rattle.transcript_text.specs.declared.version.Version.TheVariants.{Two}
use Rattle.transcript_text.specs.declared.fault.ReadError.{ReadError}
use Rattle.transcript_text.specs.Heads.{read_of}
use Rattle.transcript_text.specs.Reading.{Gives}
use Rattle.transcript_text.specs.Readers.{IsTextOfWhatIsRead}
use Rattle.twin_worlds.specs.Twins.{IsReadOf}

pub was_read : (bytes : List ℕ) (read : Result TranscriptView ReadError) → Gives (λ (t : TranscriptView). t) read (read_of Two bytes) → IsTextOfWhatIsRead Two bytes → IsReadOf bytes read
unfolding IsTextOfWhatIsRead
was_read bytes (Ok t) is law = let text = law t is in record { sound = text.0; text_is = text.1; read = is }
was_read bytes (Err f) fails law = fails
