-- What workers make of a batch, and what a first pass gains by it.
use Rattle.std.specs.Prelude.{◌≡◌, ◌≢◌, ◌<◌, ◌≤◌, ℕ, ◌+◌, ◌==◌, if◌then◌else◌, List, Vec, [], ◌∷◌, ◌++◌, length, map, slice_index_or, All, Contains, None, Result, Ok, Err, vec_len, vec_capacity}
use Rattle.std.specs.List.{AllZip, range_with_len}
use Rattle.std.specs.declared.alloc.AllocError.{AllocError}
use Rattle.std.specs.declared.alloc.Global.{Global}
use Rattle.group_book.specs.Books.{BookView}
use Rattle.shared_book.specs.declared.parcel.Parcel.{Parcel}
use Rattle.shared_book.specs.declared.turn.Turn.{Turn}
use Rattle.shared_book.specs.declared.parts.SharedBook.{SharedBook}
use Rattle.shared_book.specs.Ends.{opening, view, IsPassOf}
use Rattle.shared_book.specs.Turns.{StartsWith, turns_by, turns_of}
use Rattle.shared_book.specs.Passes.{PassView, new_pass}
use Rattle.collector_workers.specs.declared.worker.Worker.{Worker}
use Rattle.collector_workers.specs.declared.workload.Workload.{Workload}
use Rattle.collector_workers.specs.declared.outcome.Outcome.{Outcome}
use Rattle.collector_workers.specs.Outcomes.{Becomes, lines_told, lines_by, worker_for, parcels_for}

-- ---- workloads

-- a workload on which nothing was done, with room for what becomes of its parcels
pub record IsNewWorkload (workload : Workload) : Type 0 where
  pub none : workload.outcomes.items ≡ []
  pub empty : vec_len workload.outcomes ≡ 0
  pub room : length workload.parcels.items ≤ vec_capacity workload.outcomes
  pub lines : length workload.parcels.items ≤ workload.lines.spare

-- the workload of one of so many workers
abbrev pub IsWorkloadFor : List Parcel → ℕ → ℕ → Workload → Type 0
IsWorkloadFor batch workers k workload = (workload.parcels.items ≡ parcels_for workers k batch) × IsNewWorkload workload

-- the workloads of so many workers, from the first on
abbrev pub AreWorkloads : List Parcel → ℕ → List Workload → Type 0
AreWorkloads batch workers workloads = (k : ℕ) (d : Workload) → k < length workloads → IsWorkloadFor batch workers k (slice_index_or workloads k d)

-- ---- a worker

-- a worker that has done nothing
pub record IsReady (book : SharedBook) (worker : Worker) : Type 0 where
  pub pass : IsPassOf book worker.pass
  pub free : (view worker.pass).held ≡ None
  pub workload : IsNewWorkload worker.workload

-- a worker commits a parcel
pub record Commits (o : BookView) (a : Worker) (parcel : Parcel) (b : Worker) : Type 0 where
  pub outcome : Outcome
  pub outcomes : b.workload.outcomes.items ≡ a.workload.outcomes.items ++ outcome ∷ []
  pub parcels : b.workload.parcels ≡ a.workload.parcels
  pub becomes : Becomes o (view a.pass).seen (view b.pass).seen parcel outcome
  pub seen : StartsWith (view b.pass).seen (view a.pass).seen
  pub mine : (view b.pass).mine ≡ (view a.pass).mine ++ turns_of (view a.pass).number (lines_told (outcome ∷ []))
  pub number : (view b.pass).number ≡ (view a.pass).number
  pub held : (view b.pass).held ≡ None

-- a worker has committed these parcels: each became what it was judged when it was committed, and its turns are those of their lines
pub record Does (o : BookView) (a : Worker) (parcels : List Parcel) (b : Worker) : Type 0 where
  pub parcels_same : b.workload.parcels ≡ a.workload.parcels
  pub told : AllZip (Becomes o (view a.pass).seen (view b.pass).seen) parcels b.workload.outcomes.items
  pub seen : StartsWith (view b.pass).seen (view a.pass).seen
  pub mine : (view b.pass).mine ≡ (view a.pass).mine ++ turns_of (view a.pass).number (lines_told b.workload.outcomes.items)
  pub number : (view b.pass).number ≡ (view a.pass).number
  pub held : (view b.pass).held ≡ None

-- a worker has committed all its parcels
abbrev pub Works : SharedBook → Worker → Worker → Type 0
Works book a b = IsPassOf book b.pass × Does (opening book) a a.workload.parcels.items b

-- ---- all workers

-- so many passes were split off
abbrev pub SplitsAll : PassView → ℕ → PassView → Type 0
SplitsAll v count w = w ≡ record v { made = v.made + count; out = v.out + count }

-- a worker with a new pass of this number and this workload
abbrev pub IsNewWorker : SharedBook → PassView → ℕ → Workload → Worker → Type 0
IsNewWorker book v number workload worker = IsPassOf book worker.pass × (view worker.pass ≡ new_pass number v.seen) × (worker.workload ≡ workload)

-- a worker for each workload, whose passes have the next numbers
abbrev pub AreNewWorkers : SharedBook → PassView → List Workload → List Worker → Type 0
AreNewWorkers book v workloads workers = (length workers ≡ length workloads)
    × ((k : ℕ) (d : Worker) → k < length workers → IsNewWorker book v (v.made + 1 + k) (slice_index_or workloads k d.workload) (slice_index_or workers k d))

-- each worker has committed all its parcels
abbrev pub AllWork : SharedBook → List Worker → List Worker → Type 0
AllWork book workers workers' = (length workers' ≡ length workers) × ((k : ℕ) (d : Worker) → k < length workers → Works book (slice_index_or workers k d) (slice_index_or workers' k d))

-- the workers' passes have the last numbers, in their order, of so many that were made
abbrev pub AreLast : ℕ → List Worker → Type 0
AreLast made workers = (k : ℕ) (d : Worker) → k < length workers → (view (slice_index_or workers k d).pass).number + length workers ≡ made + 1 + k

-- the numbers of some workers' passes
abbrev pub numbers_of : List Worker → List ℕ
numbers_of workers = map (λ worker. (view worker.pass).number) workers

-- a worker's turns are all in the history, which begins with what the worker has seen
abbrev pub IsJoined : List Turn → Worker → Type 0
IsJoined seen worker = StartsWith seen (view worker.pass).seen × (turns_by (view worker.pass).number seen ≡ (view worker.pass).mine)

-- the workers' passes were joined in their order
pub record JoinsAll (v : PassView) (workers : List Worker) (w : PassView) : Type 0 where
  pub seen : StartsWith w.seen v.seen
  pub mine : w.mine ≡ v.mine
  pub number : w.number ≡ v.number
  pub made : w.made ≡ v.made
  pub held : w.held ≡ v.held
  pub out : w.out + length workers ≡ v.out
  pub joined : w.joined ≡ v.joined ++ numbers_of workers
  pub own : 0 < length workers → turns_by v.number w.seen ≡ w.mine
  pub all : All (IsJoined w.seen) workers
  pub others : (n : ℕ) → Contains v.joined n → ((k : ℕ) (d : Worker) → k < length workers → n ≢ (view (slice_index_or workers k d).pass).number) → turns_by n w.seen ≡ turns_by n v.seen

-- ---- what became of the parcels, in the order of the batch

-- what one of so many workers told of these parcels
abbrev pub told_by : ℕ → ℕ → List Parcel → List Outcome → List Outcome
told_by workers k [] xs = []
told_by workers k (p ∷ ps) [] = []
told_by workers k (p ∷ ps) (x ∷ xs) = if worker_for workers p == k then x ∷ told_by workers k ps xs else told_by workers k ps xs

-- each worker has told of all its parcels
abbrev pub AreWhole : List Parcel → List Worker → Type 0
AreWhole batch workers = (k : ℕ) (d : Worker) → k < length workers → length (slice_index_or workers k d).workload.outcomes.items ≡ length (parcels_for (length workers) k batch)

-- what the workers told, in the order of the batch
abbrev pub Merges : List Parcel → List Worker → List Outcome → Type 0
Merges batch workers outcomes = (length outcomes ≡ length batch)
    × ((k : ℕ) (d : Worker) → k < length workers → told_by (length workers) k batch outcomes ≡ (slice_index_or workers k d).workload.outcomes.items)

-- ---- gather

-- a batch was gathered by so many workers. Each had a pass of its own with the next number, all were joined, and the turns of each are the lines of
-- the parcels of its groups, each once and in their order; the passes before them, and the first, made none
pub record Gathers (o : BookView) (v : PassView) (batch : List Parcel) (workers : ℕ) (outcomes : List Outcome) (w : PassView) : Type 0 where
  pub seen : StartsWith w.seen v.seen
  pub mine : w.mine ≡ v.mine
  pub number : w.number ≡ v.number
  pub made : w.made ≡ v.made + workers
  pub out : w.out ≡ 0
  pub held : w.held ≡ None
  pub joined : w.joined ≡ v.joined ++ range_with_len (v.made + 1) workers
  pub told : AllZip (Becomes o v.seen w.seen) batch outcomes
  pub own : turns_by v.number w.seen ≡ w.mine
  pub turns : (k : ℕ) → k < workers → turns_by (v.made + 1 + k) w.seen ≡ turns_of (v.made + 1 + k) (lines_by workers k (lines_told outcomes))
  pub others : (n : ℕ) → Contains v.joined n → n ≤ v.made → turns_by n w.seen ≡ turns_by n v.seen

-- gather of a batch by a first pass
abbrev pub GatherEnds : BookView → PassView → List Parcel → ℕ → Result (Vec Outcome Global) AllocError → PassView → Type 0
GatherEnds o v batch workers (Ok outcomes) w = Gathers o v batch workers outcomes.items w
GatherEnds o v batch workers (Err e) w = w ≡ v
