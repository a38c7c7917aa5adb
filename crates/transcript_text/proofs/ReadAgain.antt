-- The text of each transcript is read back.
use Rattle.std.proofs.Common.{◌≡◌, ◌∙◌, ◌<◌, ◌≤◌, ◌^◌, ℕ, true, List, ◌++◌, length, length-append, map, refl, ap, arith, Ok}
use Rattle.group_plan.specs.Plans.{PlanView}
use Rattle.group_plan.specs.NewPlans.{stated}
use Rattle.event_schedule.specs.declared.Entry.{Entry}
use Rattle.transcript_text.specs.declared.version.Version.{Version}
use Rattle.transcript_text.specs.declared.version.Version.TheVariants.{One, Two}
use Rattle.field_texts.specs.Parts.{parts}
use Rattle.event_schedule.specs.Transcripts.{TranscriptView, IsTranscript}
use Rattle.transcript_text.specs.Spelling.{entries_text, head_text, stated_spans, text_of, transcript_text}
use Rattle.transcript_text.specs.Reading.{entries_from}
use Rattle.transcript_text.specs.Heads.{HeadRead, has_version, head_of, read_of}
use Rattle.transcript_text.specs.ReadBack.{HasHead, HasText, ReadsEach}
use Rattle.transcript_text.proofs.EntryAgain.{small}
use Rattle.transcript_text.proofs.EntriesAgain.{entries_again, entries_few, follows}
use Rattle.transcript_text.proofs.HeadAgain.{StatedIn, head_again, old_groups}

told : (version : Version) (plan : PlanView) → HasHead version plan → (has_version version (map stated plan.groups) ≡ true) × StatedIn version (stated_spans plan)
told One plan old = (old_groups plan old.meters, old.spans)
told Two plan new = (refl, tt)

steps : (version : Version) (bytes : List ℕ) (h : HeadRead) (es : List Entry) → head_of version (parts 10 bytes) ≡ Ok h → entries_from version h.plan h.line 0 0 h.rest ≡ Ok es → read_of version bytes ≡ Ok (record { plan = h.plan; entries = es })
unfolding read_of
steps version bytes h es a b = rw a (rw b refl)

pub read_again : (version : Version) (t : TranscriptView) → HasText version t → length t.entries < 2 ^ 64 → read_of version (text_of version t) ≡ Ok t
unfolding text_of
read_again version t is few =
    let plan = is.transcript.plan in
    let text = entries_text version 0 t.entries in
    let form = told version t.plan is.head in
    let head = head_again version t.plan plan form.0 form.1 text in
    let follow = follows t.plan 0 t.entries is.transcript.fit is.transcript.entries is.transcript.ticks in
    let entries = entries_again version t.plan (small t.plan plan) is.head head.0 0 0 t.entries (omega (arith, few)) follow in
    steps version (head_text version t.plan ++ text) (record { plan = t.plan; line = head.0; rest = parts 10 text }) t.entries head.1 entries

few_entries : (version : Version) (t : TranscriptView) → length t.entries ≤ length (text_of version t)
unfolding text_of
few_entries version t =
    let few = entries_few version 0 t.entries in
    let both = length-append (head_text version t.plan) (entries_text version 0 t.entries) in
    omega (arith, few, both)

pub reads_each : (version : Version) (bytes : List ℕ) → length bytes < 2 ^ 64 → ReadsEach version bytes
unfolding ReadsEach
reads_each version bytes few t is e =
    let less = few_entries version t in
    let same = ap length e in
    ap (read_of version) e ∙ read_again version t is (omega (arith, few, less, same))

pub read_back : (bytes : List ℕ) (t : TranscriptView) → length bytes < 2 ^ 64 → IsTranscript t → bytes ≡ transcript_text t → read_of Two bytes ≡ Ok t
unfolding ReadsEach
read_back bytes t few is e = reads_each Two bytes few t (record { transcript = is; head = tt }) e
