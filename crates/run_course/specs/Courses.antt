-- What the judge of entries keeps, and what it says of the next one.
use Rattle.std.specs.Prelude.{◌≡◌, ℕ, ◌+◌, ◌*◌, ◌<◌, ◌≤◌, Bool, true, false, ◌⊎◌, List, [], ◌∷◌, ◌++◌, drop, Result, Ok, Err, ⊤}
use Rattle.group_plan.specs.declared.Tag.{Tag}
use Rattle.group_plan.specs.Plans.{PlanView, last_tick, is_member}
use Rattle.event_schedule.specs.declared.Entry.{Entry}
use Rattle.run_rows.specs.Ticks.{moment, NoneBefore}
use Rattle.run_course.specs.declared.course.Phase.{Phase}
use Rattle.run_course.specs.declared.course.Phase.TheVariants.{Takes, Rounds, Sends}
use Rattle.run_course.specs.declared.course.Course.{Course}
use Rattle.run_course.specs.Beginnings.{IsSomeRun, BeginsRun}
use Rattle.run_course.specs.Lists.{IsIn}
use Rattle.run_course.specs.Marks.{AreNoted}
use Rattle.run_course.specs.Sends.{rank}
use Rattle.run_course.specs.Stages.{Stage, Follows, HoldsIn}

abbrev pub phase_number : Phase → ℕ
phase_number Takes = 0
phase_number Rounds = 1
phase_number Sends = 2

-- where the run stands
abbrev pub stage_of : Course → Stage
stage_of c = record {
  tick = c.tick;
  phase = phase_number c.phase;
  due = c.due.items;
  later = c.later.items;
  closing = c.closing.items;
  ending = c.ending.items;
  left = drop c.sent c.owed.items;
  least = c.least;
}

-- both tables are of one plan, and its last tick is not long past
pub record IsSound (c : Course) : Type 0 where
  pub tables : c.heard.plan ≡ c.came.plan
  pub tick : c.tick ≤ last_tick c.came.plan + 1

-- these entries keep to their times, and the judge knows where their run stands
pub record Keeps (plan : PlanView) (entries : List Entry) (c : Course) : Type 0 where
  pub follows : Follows plan entries (stage_of c)
  pub holds : HoldsIn (phase_number c.phase) plan entries (stage_of c)
  pub noted : AreNoted plan entries c.tick c.came c.heard

-- an entry stands in the phase of now, unless it is a tick's first
abbrev pub IsEntered : List Entry → Course → Type 0
IsEntered entries c = (phase_number c.phase ≡ 0) ⊎ ((e : Entry) × IsIn e entries × (moment e ≡ 3 * c.tick + phase_number c.phase))

-- an entry stands in the tick of now, unless it is the first
abbrev pub IsReached : List Entry → Course → Type 0
IsReached entries c = (c.tick ≡ 0) ⊎ ((e : Entry) × IsIn e entries × (e.tick ≡ c.tick))

-- no run goes on from these entries with none before this moment
abbrev pub IsStuck : PlanView → List Entry → ℕ → Type 0
IsStuck plan entries m = (more : List Entry) → IsSomeRun plan (entries ++ more) → NoneBefore m more → ⊥

-- the Sends of the tick begin, or something is still to come before them
abbrev pub SendsBegin : {E : Type 0} → PlanView → List Entry → Course → Result Bool E → Course → Type 0
SendsBegin plan entries old (Ok true) new = Keeps plan entries new × (new.phase ≡ Sends) × (new.tick ≡ old.tick)
SendsBegin plan entries old (Ok false) new = IsStuck plan entries (3 * old.tick + 2)
SendsBegin plan entries old (Err _) new = ⊤

-- the next tick begins, or something is still to come before it
abbrev pub TickBegins : {E : Type 0} → PlanView → List Entry → Course → Result Bool E → Course → Type 0
TickBegins plan entries old (Ok true) new = Keeps plan entries new × (new.phase ≡ Takes) × (new.tick ≡ old.tick + 1)
TickBegins plan entries old (Ok false) new = IsStuck plan entries (3 * (old.tick + 1))
TickBegins plan entries old (Err _) new = ⊤

-- the run stands at this tick, or something is still to come before it
abbrev pub Advances : {E : Type 0} → PlanView → List Entry → ℕ → Result Bool E → Course → Type 0
Advances plan entries tick (Ok true) new = Keeps plan entries new × IsEntered entries new × (new.tick ≡ tick)
Advances plan entries tick (Ok false) new = IsStuck plan entries (3 * tick)
Advances plan entries tick (Err _) new = ⊤

-- the entry keeps to its time too, or no run begins with these entries and this one
abbrev pub Judges : PlanView → List Entry → Entry → Bool → Course → Type 0
Judges plan entries e true new = Keeps plan (entries ++ e ∷ []) new × IsEntered (entries ++ e ∷ []) new × (new.tick ≡ e.tick)
Judges plan entries e false new = ¬ BeginsRun plan (entries ++ e ∷ [])

abbrev pub JudgeEnds : {E : Type 0} → PlanView → List Entry → Entry → Result Bool E → Course → Type 0
JudgeEnds plan entries e (Ok answer) new = Judges plan entries e answer new
JudgeEnds plan entries e (Err _) new = ⊤

-- ---- the next Send

-- the rank is below that of the first of these
abbrev pub IsBelowFirst : ℕ → List Tag → Type 0
IsBelowFirst k [] = Unit {0}
IsBelowFirst k (y ∷ ys) = k < rank y

-- a reading may be sent now
pub record IsReadingNow (plan : PlanView) (st : Stage) (tag : Tag) : Type 0 where
  pub now : tag.round ≡ st.tick
  pub member : is_member plan.groups tag.group tag.round tag.meter ≡ true
  pub onwards : st.least ≤ rank tag
  pub before : IsBelowFirst (rank tag) st.left

-- what a test says
abbrev pub Decides : Type 0 → Bool → Type 0
Decides P true = P
Decides P false = ¬ P

-- rounds may close and end: nothing is still to be taken in this tick, and nothing was sent
abbrev pub MayCall : Course → Type 0
MayCall c = (c.due.items ≡ []) × (phase_number c.phase ≤ 1)

-- frames may be sent: nothing else is still to come in this tick
abbrev pub MaySend : Course → Type 0
MaySend c = (c.due.items ≡ []) × (c.closing.items ≡ []) × (c.ending.items ≡ [])

-- the entries are a run, or no run's
abbrev pub WholeEnds : {E : Type 0} → PlanView → List Entry → Result Bool E → Type 0
WholeEnds plan entries (Ok true) = IsSomeRun plan entries
WholeEnds plan entries (Ok false) = ¬ IsSomeRun plan entries
WholeEnds plan entries (Err _) = ⊤
