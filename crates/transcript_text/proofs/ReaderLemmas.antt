-- What a reader of entries has still to read, and what it has read.
use Rattle.std.proofs.Common.{◌≡◌, ◌∙◌, ℕ, List, refl, sym, ap, subst, Result, Ok, Err}
use Rattle.std.specs.Prelude.{IfOk}
use Rattle.group_plan.specs.Plans.{PlanView}
use Rattle.event_schedule.specs.declared.Entry.{Entry}
use Rattle.event_schedule.specs.Transcripts.{TranscriptView, IsTranscript}
use Rattle.transcript_text.specs.declared.version.Version.{Version}
use Rattle.transcript_text.specs.declared.fault.ReadError.{ReadError}
use Rattle.transcript_text.specs.declared.fault.ReadError.TheVariants as fault
use Rattle.field_texts.specs.Parts.{parts}
use Rattle.transcript_text.specs.Spelling.{text_of}
use Rattle.transcript_text.specs.Reading.{◌>>=◌, Fails, Gives, entries_from}
use Rattle.transcript_text.specs.Heads.{HeadRead, head_of, read_of}
use Rattle.transcript_text.specs.ReadBack.{HasHead}
use Rattle.transcript_text.specs.Readers.{IsTextOfWhatIsRead, with_entries}
use Rattle.transcript_text.proofs.Choices.{bind_ok}
use Rattle.transcript_text.proofs.HeadText.{head_is}
use Rattle.transcript_text.proofs.ReadLemmas.{entries_are, read_is_written}

made_of : (plan : PlanView) (r : Result (List Entry) ReadError) → (r >>= (λ es. Ok (record { plan = plan; entries = es }))) ≡ with_entries plan r
made_of plan (Ok es) = refl
made_of plan (Err f) = refl

-- after the head, the entries are all that is left to read
pub head_then_entries : (version : Version) (bytes : List ℕ) (h : HeadRead) → head_of version (parts 10 bytes) ≡ Ok h
    → read_of version bytes ≡ with_entries h.plan (entries_from version h.plan h.line 0 0 h.rest)
unfolding read_of
head_then_entries version bytes h head = rw head (made_of h.plan (entries_from version h.plan h.line 0 0 h.rest))

head_fault : (version : Version) (bytes : List ℕ) (f : ReadError) → head_of version (parts 10 bytes) ≡ Err f → read_of version bytes ≡ Err f
unfolding read_of
head_fault version bytes f head = rw head refl

pub head_fails : (version : Version) (bytes : List ℕ) (f : ReadError) → Fails f (head_of version (parts 10 bytes)) → Fails f (read_of version bytes)
head_fails version bytes fault.Memory fails = tt
head_fails version bytes (fault.Head n) fails = head_fault version bytes (fault.Head n) fails
head_fails version bytes (fault.Line n) fails = head_fault version bytes (fault.Line n) fails
head_fails version bytes (fault.Field n k) fails = head_fault version bytes (fault.Field n k) fails
head_fails version bytes (fault.NoEnd n) fails = head_fault version bytes (fault.NoEnd n) fails
head_fails version bytes (fault.Count n) fails = head_fault version bytes (fault.Count n) fails
head_fails version bytes (fault.After n) fails = head_fault version bytes (fault.After n) fails

-- what the bytes are read as is a transcript, and they are its text
pub text_is : (version : Version) (bytes : List ℕ) → IsTextOfWhatIsRead version bytes
unfolding IsTextOfWhatIsRead read_of
text_is version bytes t is =
    let head = bind_ok (head_of version (parts 10 bytes)) _ t is in
    let h : HeadRead = head.0 in
    let entries = bind_ok (entries_from version h.plan h.line 0 0 h.rest) _ t head.2 in
    let read = head_is version (parts 10 bytes) h head.1 in
    let made : TranscriptView = record { plan = h.plan; entries = entries.0 } in
    let same : made ≡ t = cc in (
      subst IsTranscript same (entries_are version h.plan h.line h.rest entries.0 read.plan entries.1),
      read_is_written version bytes h entries.0 read.plan head.1 entries.1 ∙ ap (text_of version) same,
    )

-- ---- what is read by a reader that has read no entry

module _ (plan : PlanView) (left : Result (List Entry) ReadError) (all : Result TranscriptView ReadError) (so : all ≡ with_entries plan left) where
  then_fault : (f : ReadError) → left ≡ Err f → all ≡ Err f
  then_fault f is = so ∙ ap (with_entries plan) is

  then_fails : (f : ReadError) → Fails f left → Fails f all
  then_fails fault.Memory fails = tt
  then_fails (fault.Head n) fails = then_fault (fault.Head n) fails
  then_fails (fault.Line n) fails = then_fault (fault.Line n) fails
  then_fails (fault.Field n k) fails = then_fault (fault.Field n k) fails
  then_fails (fault.NoEnd n) fails = then_fault (fault.NoEnd n) fails
  then_fails (fault.Count n) fails = then_fault (fault.Count n) fails
  then_fails (fault.After n) fails = then_fault (fault.After n) fails

  pub gives_all : (r : Result TranscriptView ReadError) → Gives (λ (t : TranscriptView). t.entries) r left → IfOk r (λ t. t.plan ≡ plan) → Gives (λ (t : TranscriptView). t) r all
  gives_all (Ok t) entries plan_is = so ∙ ap (with_entries plan) entries ∙ ap (λ (p : PlanView). Ok (record { plan = p; entries = t.entries })) (sym plan_is)
  gives_all (Err f) fails plan_is = then_fails f fails

pub text_found : (version : Version) (bytes : List ℕ) (r : Result TranscriptView ReadError) → IsTextOfWhatIsRead version bytes → Gives (λ (t : TranscriptView). t) r (read_of version bytes) → IfOk r (λ t. bytes ≡ text_of version t)
unfolding IsTextOfWhatIsRead
text_found version bytes (Ok t) text gives = (text t gives).1
text_found version bytes (Err f) text gives = tt

pub plan_read : (version : Version) (plan : PlanView) (r : Result TranscriptView ReadError) → HasHead version plan → IfOk r (λ t. t.plan ≡ plan) → IfOk r (λ t. HasHead version t.plan)
plan_read version plan (Ok t) has is = subst (HasHead version) (sym is) has
plan_read version plan (Err f) has is = tt
