-- How `convert` ends, from how its parts do.
use Rattle.std.proofs.Common.{List, ℕ, ◌≡◌, inl, inr, Result, Ok, IfOk, [], ◌∷◌, subst, length, sym, ap, ◌∙◌}
use Rattle.command_words.specs.declared.outcome.Outcome.{Outcome}
use Rattle.file_commands.specs.ConvertEnds.{ConvertEnds, ConvertRefuses}
use Rattle.desk_outside.specs.Desk.{View}
use Rattle.command_files.specs.Calls.{IsRead, after_fetches, putting, PutsEnd}
use Rattle.transcript_text.specs.declared.version.Version.TheVariants.{One}
use Rattle.event_schedule.specs.Transcripts.{TranscriptView}
use Rattle.transcript_text.specs.Heads.{read_of}
use Rattle.transcript_text.specs.ReadBack.{HasHead, HasText}
use Rattle.transcript_text.specs.Reading.{Gives}
use Rattle.transcript_text.specs.Readers.{IsTextOfWhatIsRead}
use Rattle.transcript_text.specs.declared.fault.ReadError.{ReadError}
use Rattle.transcript_text.specs.Spelling.{text_of, transcript_text}
use Rattle.command_texts.specs.Lines.{converted_line}

-- the transcript of an old text is put
pub convert_ends : (old transcript : List ℕ) (v u w : View) (t : TranscriptView) (outcome : Outcome) (bytes given text line : List ℕ) (lines : ℕ)
    → IsRead (v.held old) bytes → u ≡ after_fetches (old ∷ []) v → given ≡ bytes → HasText One t → given ≡ text_of One t
    → text ≡ transcript_text t → line ≡ converted_line lines → lines ≡ length t.entries
    → PutsEnd (putting transcript text ∷ []) line u w outcome → ConvertEnds old transcript v w outcome
convert_ends old transcript v u w t outcome bytes given text line lines is after given_is has found text_is line_is lines_are ends =
    let by_text : PutsEnd (putting transcript (transcript_text t) ∷ []) line u w outcome = subst (λ x. PutsEnd (putting transcript x ∷ []) line u w outcome) text_is ends in
    let by_line : PutsEnd (putting transcript (transcript_text t) ∷ []) (converted_line (length t.entries)) u w outcome =
    subst (λ x. PutsEnd (putting transcript (transcript_text t) ∷ []) x u w outcome) (line_is ∙ ap converted_line lines_are) by_text
    in
    let here : PutsEnd (putting transcript (transcript_text t) ∷ []) (converted_line (length t.entries)) (after_fetches (old ∷ []) v) w outcome =
    subst (λ u. PutsEnd (putting transcript (transcript_text t) ∷ []) (converted_line (length t.entries)) u w outcome) after by_line
    in
    inr (bytes, is, inr (t, has, sym given_is ∙ found, here))

-- what OLD is read as has its text
pub old_text : (bytes : List ℕ) (t : TranscriptView) (read : Result TranscriptView ReadError) → read ≡ Ok t → Gives (λ (t : TranscriptView). t) read (read_of One bytes) → IfOk read (λ t. HasHead One t.plan)
    → IsTextOfWhatIsRead One bytes → HasText One t × (bytes ≡ text_of One t)
unfolding IsTextOfWhatIsRead
old_text bytes t read same exact headed law =
    let is : read_of One bytes ≡ Ok t = subst (λ (r : Result TranscriptView ReadError). Gives (λ (t : TranscriptView). t) r (read_of One bytes)) same exact in
    let head : HasHead One t.plan = subst (λ (r : Result TranscriptView ReadError). IfOk r (λ t. HasHead One t.plan)) same headed in
    let text = law t is in (record { transcript = text.0; head = head }, text.1)

-- the text of OLD is refused
pub convert_refused : (old transcript : List ℕ) (v w : View) (outcome : Outcome) (bytes : List ℕ) → IsRead (v.held old) bytes → w ≡ after_fetches (old ∷ []) v → ConvertRefuses old bytes outcome
    → ConvertEnds old transcript v w outcome
convert_refused old transcript v w outcome bytes is after refused = inr (bytes, is, inl (refused, after))
