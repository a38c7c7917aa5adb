-- A transcript's file that is written ahead, while the run goes on.
use Rattle.std.specs.Prelude.{ℕ, List, [], ◌∷◌, ◌++◌, ◌+◌, ◌≤◌, length, take, ◌≡◌, ◌<◌, ◌^◌, drop, Result, IfOk}
use Rattle.group_plan.specs.Plans.{PlanView}
use Rattle.event_schedule.specs.declared.Entry.{Entry}
use Rattle.transcript_text.specs.Writing.{begun_text}
use Rattle.event_schedule.specs.Transcripts.{TranscriptView}
use Rattle.tick_run.specs.Runs.{RunView, MakesTicks, HaveMet, IsOver, told_by}
use Rattle.std.specs.declared.alloc.AllocError.{AllocError}
use Rattle.link_lanes.specs.declared.Post.{Post}
use Rattle.link_lanes.specs.Lanes.{Slot}

-- what is written ahead of these entries: the head and their lines, or nothing where there is none
abbrev pub text_ahead : PlanView → List Entry → List ℕ
text_ahead plan [] = []
text_ahead plan (e ∷ es) = begun_text plan (e ∷ es)

-- the file has the text of the first entries of this transcript, so many of them
pub record IsAhead {B : Type 0} (has : B → List ℕ → Type 0) (file : B) (entries : ℕ) (t : TranscriptView) : Type 0 where
  pub within : entries ≤ length t.entries
  pub text : has file (text_ahead t.plan (take entries t.entries))

-- the part has the entries of this transcript that come behind the first ones, one at least
pub record IsPart (entries : ℕ) (t part : TranscriptView) : Type 0 where
  pub rest : List Entry
  pub is : drop entries t.entries ≡ part.entries ++ rest
  pub plan : part.plan ≡ t.plan
  pub some : 0 < length part.entries

-- these parts come behind the first entries of this transcript, one after another
abbrev pub AreNext : ℕ → TranscriptView → List TranscriptView → Type 0
AreNext entries t [] = Unit {0}
AreNext entries t (part ∷ parts) = IsPart entries t part × AreNext (entries + length part.entries) t parts

-- so many entries there are with those of these parts
abbrev pub reached : ℕ → List TranscriptView → ℕ
reached entries [] = entries
reached entries (part ∷ parts) = reached (entries + length part.entries) parts

-- the parts that were handed over come behind the first entries of this transcript, one after another, and reach so far
pub record AreHanded (entries : ℕ) (t : TranscriptView) (parts : List TranscriptView) (handed : ℕ) : Type 0 where
  pub next : AreNext entries t parts
  pub far : handed ≡ reached entries parts
  pub within : handed ≤ length t.entries

-- of the parts that went in, these have come out: the first ones
pub record CameOut (given came : List TranscriptView) : Type 0 where
  pub left : List TranscriptView
  pub is : came ++ left ≡ given

-- ticks more are made, however many
pub record MakesMore {M : Type 0} (before after : RunView M) : Type 0 where
  pub count : ℕ
  pub makes : MakesTicks count before after

-- all ticks of the run are made, unless memory lacks; its frames met the fates of the lanes, and these parts of it were handed over behind
-- its first entries
pub record Leads {M : Type 0} (first : ℕ) (run : RunView M) (lanes : List Slot) (posts : List Post) (result : Result (RunView M) AllocError) (hung : List Slot) (all : List Post) (given : List TranscriptView) : Type 0 where
  pub over : IfOk result IsOver
  pub makes : IfOk result (MakesMore run)
  pub met : (opening : List Slot) → HaveMet opening run lanes posts → IfOk result (λ led. HaveMet opening led hung all)
  pub next : IfOk result (λ led. AreNext first (told_by led) given)
  pub few : IfOk result (λ led. length led.entries < 2 ^ 64)
