-- The pass over the text of a transcript: each line is judged as it is read.
use Rattle.std.specs.Prelude.{◌≡◌, ℕ, List, ◌++◌, length, All, Option, Some, None, Result, Ok, Err}
use Rattle.group_plan.specs.Plans.{PlanView}
use Rattle.event_schedule.specs.declared.Entry.{Entry}
use Rattle.event_schedule.specs.Events.{lines_of}
use Rattle.event_schedule.specs.Frames.{IsPossible}
use Rattle.event_schedule.specs.Transcripts.{TranscriptView, Fits, IsTranscript}
use Rattle.transcript_text.specs.declared.version.Version.TheVariants.{Two}
use Rattle.transcript_text.specs.declared.fault.ReadError.{ReadError}
use Rattle.transcript_text.specs.EntryLines.{entry_line}
use Rattle.transcript_text.specs.Heads.{read_of}
use Rattle.transcript_text.specs.Spelling.{transcript_text}
use Rattle.transcript_text.specs.Reading.{Fails}
use Rattle.group_book.specs.Books.{BookView}
use Rattle.audit_check.specs.declared.passing.Pass.{Pass}
use Rattle.audit_check.specs.Audits.{IsFirstImpossible}
use Rattle.audit_check.specs.Ends.{LinesEnd, IsReplayed}
use Rattle.audit_check.specs.Following.{IsReplay}

-- the lines of these entries are possible and replayed
pub record AreReplayed (plan : PlanView) (es : List Entry) (p : Pass) : Type 0 where
  pub count : length es ≡ p.count
  pub plan_is : p.replay.rounds.presence.plan ≡ plan
  pub journal : p.replay.rounds.journal ≡ lines_of es
  pub replay : IsReplay p.replay.rounds.presence p.replay.rounds.journal p.replay.seen p.replay.answered.items
  pub possible : IsPossible plan.groups (lines_of es)

-- these entries are judged: their lines are possible and replayed, or those up to one are possible and no further
abbrev pub AreJudged : PlanView → List Entry → Pass → Option ℕ → Type 0
AreJudged plan es p None = AreReplayed plan es p
AreJudged plan es p (Some k) = LinesEnd plan (lines_of es) (Some k) p.replay.rounds

-- the pass is over these entries
abbrev pub IsPassOver : PlanView → List Entry → Pass → Type 0
IsPassOver plan es p = AreJudged plan es p p.impossible

-- the pass is over some entries, and these may come next
pub record CanJudge (p : Pass) (es : List Entry) : Type 0 where
  pub plan : PlanView
  pub front : List Entry
  pub over : IsPassOver plan front p
  pub fits : All (Fits plan) es

-- the pass is over some entries of this plan
abbrev pub CanJudgeOn : PlanView → Pass → Type 0
CanJudgeOn plan p = (judged : List Entry) × IsPassOver plan judged p

-- the pass is over these entries too
abbrev pub Judges : Pass → List Entry → Pass → Type 0
Judges old es new = (plan : PlanView) (front : List Entry) → IsPassOver plan front old → IsPassOver plan (front ++ es) new

-- all entries that were left are read, and all their lines are possible and replayed, or those up to one are possible and no further
abbrev pub PassEnds : PlanView → Result (List Entry) ReadError → Result Pass ReadError → Type 0
PassEnds plan left (Ok p) = (es : List Entry) × (left ≡ Ok es) × LinesEnd plan (lines_of es) p.impossible p.replay.rounds
PassEnds plan left (Err f) = Fails f left

-- the number of the line of an entry, where there is one
abbrev pub IsLineOf : PlanView → Option ℕ → Option ℕ → Type 0
IsLineOf plan None n = n ≡ None
IsLineOf plan (Some k) n = n ≡ Some (entry_line plan k)

-- what is kept of a text: the rounds by the book of its lines, and the number of the first line that isn't possible, where there is one
pub record ReplayedView : Type 0 where
  pub rounds : BookView
  pub impossible : Option ℕ

-- all lines of a transcript are possible and replayed, or this is the number of the line of the first that isn't
abbrev pub IsJudged : TranscriptView → BookView → Option ℕ → Type 0
IsJudged t b None = IsReplayed t b
IsJudged t b (Some n) = (k : ℕ) × (n ≡ entry_line t.plan k) × IsFirstImpossible t k

abbrev pub IsReplayOf : TranscriptView → ReplayedView → Type 0
IsReplayOf t r = IsJudged t r.rounds r.impossible

-- the text is that of a transcript, of which this is kept
pub record ReadsAs (text : List ℕ) (r : ReplayedView) : Type 0 where
  pub transcript : TranscriptView
  pub read : read_of Two text ≡ Ok transcript
  pub sound : IsTranscript transcript
  pub is : text ≡ transcript_text transcript
  pub kept : IsReplayOf transcript r

-- the text is read, and its lines are judged; or this is the first fault of the text
abbrev pub ReplayedText : List ℕ → Result ReplayedView ReadError → Type 0
ReplayedText text (Ok r) = ReadsAs text r
ReplayedText text (Err f) = Fails f (read_of Two text)
