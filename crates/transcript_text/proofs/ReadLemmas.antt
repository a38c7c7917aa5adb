-- What is read is a transcript.
use Rattle.std.proofs.Common.{◌≡◌, ◌∙◌, ℕ, List, ◌++◌, refl, ap, Ok}
use Rattle.group_plan.specs.Plans.{PlanView}
use Rattle.event_schedule.specs.declared.Entry.{Entry}
use Rattle.event_schedule.specs.Transcripts.{IsPlan, IsTranscript}
use Rattle.transcript_text.specs.declared.version.Version.{Version}
use Rattle.field_texts.specs.Parts.{parts}
use Rattle.transcript_text.specs.Spelling.{head_text, text_of}
use Rattle.transcript_text.specs.Reading.{entries_from}
use Rattle.transcript_text.specs.Heads.{HeadRead, head_of}
use Rattle.field_texts.proofs.TextLaws.{joined_parts}
use Rattle.transcript_text.proofs.HeadText.{head_is}
use Rattle.transcript_text.proofs.EntriesBack.{entries_back, follow_are, follow_fit, follow_rise}

pub entries_are : (version : Version) (plan : PlanView) (n : ℕ) (ps : List (List ℕ)) (es : List Entry) → IsPlan plan → entries_from version plan n 0 0 ps ≡ Ok es → IsTranscript (record { plan = plan; entries = es })
entries_are version plan n ps es is h =
    let read = entries_back version plan is.limits.meters n 0 0 ps es h in
    record { plan = is; fit = follow_fit plan 0 es read.follow; entries = follow_are plan 0 es read.follow; ticks = follow_rise plan 0 es read.follow }

-- what is read has these bytes as its text
pub read_is_written : (version : Version) (bytes : List ℕ) (h : HeadRead) (es : List Entry) → IsPlan h.plan → head_of version (parts 10 bytes) ≡ Ok h → entries_from version h.plan h.line 0 0 h.rest ≡ Ok es
    → bytes ≡ text_of version (record { plan = h.plan; entries = es })
unfolding text_of
read_is_written version bytes h es is hs more =
    let head = head_is version (parts 10 bytes) h hs in
    let read = entries_back version h.plan is.limits.meters h.line 0 0 h.rest es more in
    joined_parts 10 bytes (parts 10 bytes) refl ∙ head.text ∙ ap (λ q. head_text version h.plan ++ q) read.text
