-- What takes the entries of a transcript.
use Rattle.std.specs.Prelude.{◌≡◌, ℕ, List, ◌++◌, All, Result, Ok, Err}
use Rattle.group_plan.specs.Plans.{PlanView}
use Rattle.event_schedule.specs.declared.Entry.{Entry}
use Rattle.event_schedule.specs.Transcripts.{Fits, NeverFalls, last_tick_from}
use Rattle.transcript_text.specs.declared.fault.ReadError.{ReadError}
use Rattle.transcript_text.specs.Reading.{Fails}

-- a sink has taken some entries of a plan; these fit the plan, and their ticks don't fall behind those of the entries before
pub record CanTakeEntries {S : Type 0} (has : S → PlanView → List Entry → Type 0) (sink : S) (es : List Entry) : Type 0 where
  pub plan : PlanView
  pub front : List Entry
  pub taken : has sink plan front
  pub fits : All (Fits plan) es
  pub ticks : NeverFalls (last_tick_from 0 front) es

-- a sink has these entries too, behind those that it had
abbrev pub TakesEntries : {S : Type 0} → (has : S → PlanView → List Entry → Type 0) → (old : S) → (es : List Entry) → (new : S) → Type 0
TakesEntries has old es new = (plan : PlanView) (front : List Entry) → has old plan front → has new plan (front ++ es)

-- a sink has taken some entries of this plan, the last with this tick
abbrev pub HasFront : {S : Type 0} → (has : S → PlanView → List Entry → Type 0) → S → PlanView → ℕ → Type 0
HasFront has sink plan last = (front : List Entry) × has sink plan front × (last ≡ last_tick_from 0 front)

-- a sink has all these entries, or there are none but this fault
abbrev pub SinkEnds : {S : Type 0} → (has : S → PlanView → List Entry → Type 0) → PlanView → Result (List Entry) ReadError → Result S ReadError → Type 0
SinkEnds has plan all (Ok sink) = (es : List Entry) × (all ≡ Ok es) × has sink plan es
SinkEnds has plan all (Err f) = Fails f all
