-- What a first pass gains by workers that are all joined.
use Rattle.std.proofs.Common.{◌≡◌, ◌<◌, ◌+◌, ℕ, suc, List, [], ◌∷◌, ◌++◌, length, take, drop, get_or, append-nil, Ok, Err, Result, refl, sym, ap, ◌∙◌, subst, arith}
use Rattle.std.specs.Prelude.{None}
use Rattle.std.specs.List.{All, AllZip, range_with_len}
use Rattle.std.proofs.lemmas.Nat.{mod_below}
use Rattle.std.proofs.lemmas.List.{take_all, drop_all}
use Rattle.meter_frames.specs.declared.FrameError.{FrameError}
use Rattle.group_book.specs.Books.{BookView}
use Rattle.shared_book.specs.declared.parcel.Parcel.{Parcel}
use Rattle.shared_book.specs.declared.parcel.Request.{Request}
use Rattle.shared_book.specs.declared.parts.SharedBook.{SharedBook}
use Rattle.shared_book.specs.declared.turn.Turn.{Turn}
use Rattle.shared_book.specs.Ends.{opening, view}
use Rattle.shared_book.specs.Parcels.{request_of, group_in}
use Rattle.shared_book.specs.Turns.{turns_by, turns_of}
use Rattle.shared_book.specs.Passes.{PassView}
use Rattle.collector_workers.specs.declared.worker.Worker.{Worker}
use Rattle.collector_workers.specs.declared.workload.Workload.{Workload}
use Rattle.collector_workers.specs.declared.outcome.Outcome.{Outcome}
use Rattle.collector_workers.specs.Outcomes.{Becomes, lines_told, worker_if_read, worker_for, parcels_for}
use Rattle.collector_workers.specs.Gathering.{IsWorkloadFor, AreWorkloads, SplitsAll, IsNewWorker, AreNewWorkers, AllWork, Works, Merges, told_by, AreWhole, numbers_of, JoinsAll, Gathers}
use Rattle.collector_workers.proofs.Told.{all_wider, starts_same}
use Rattle.collector_workers.proofs.Dealing.{all_told, lines_dealt}

pub worker_below : (n : ℕ) (p : Parcel) → 0 < n → worker_for n p < n
worker_below n p some = of_read (request_of p)
  where
    of_read : (r : Result Request FrameError) → worker_if_read n r < n
    of_read (Ok request) = mod_below (group_in request) n some
    of_read (Err e) = some

pub numbers_are : (from : ℕ) (workers : List Worker) → ((k : ℕ) (d : Worker) → k < length workers → (view (get_or workers k d).pass).number ≡ from + k) → numbers_of workers ≡ range_with_len from (length workers)
numbers_are from [] each = refl
numbers_are from (w ∷ ws) each =
    let first : (view w.pass).number ≡ from = each 0 w (omega arith) ∙ omega arith in
    let rest = numbers_are (from + 1) ws (λ k d lt. each (suc k) d (omega arith) ∙ omega arith) in
    (λ i. first i ∷ rest i)

zip_long : (R : Parcel → Outcome → Type 0) (ps : List Parcel) (xs : List Outcome) → AllZip R ps xs → length ps ≡ length xs
zip_long R [] [] all = refl
zip_long R [] (x ∷ xs) all = absurd all
zip_long R (p ∷ ps) [] all = absurd all
zip_long R (p ∷ ps) (x ∷ xs) all = ap suc (zip_long R ps xs all.1)

-- a list that was lent whole
pub written_back : (new old : List Worker) (n : ℕ) → n ≡ length new → length new ≡ length old → take n (new ++ drop (length new) old) ≡ new
written_back new old n long same =
    ap (λ (xs : List Worker). take n (new ++ xs)) (drop_all (length new) old (omega arith)) ∙ ap (take n) (append-nil new) ∙ take_all n new (omega arith)

-- ---- one worker

-- a worker has told of all its parcels, and its turns are the lines of these
pub record HasTold (o : BookView) (v : PassView) (batch : List Parcel) (n k : ℕ) (w : Worker) : Type 0 where
  pub told : AllZip (Becomes o v.seen (view w.pass).seen) (parcels_for n k batch) w.workload.outcomes.items
  pub number : (view w.pass).number ≡ v.made + 1 + k
  pub mine : (view w.pass).mine ≡ turns_of (v.made + 1 + k) (lines_told w.workload.outcomes.items)

has_told : (book : SharedBook) (v : PassView) (batch : List Parcel) (n k : ℕ) (workload : Workload) (a b : Worker) → IsWorkloadFor batch n k workload → IsNewWorker book v (v.made + 1 + k) workload a → Works book a b → HasTold (opening book) v batch n k b
has_told book v batch n k workload a b for new works =
    let number : ℕ = v.made + 1 + k in
    let parcels : a.workload.parcels.items ≡ parcels_for n k batch = ap (λ (x : Workload). x.parcels.items) new.2 ∙ for.0 in
    let seen : (view a.pass).seen ≡ v.seen = ap (λ (x : PassView). x.seen) new.1 in
    let own : (view a.pass).number ≡ number = ap (λ (x : PassView). x.number) new.1 in
    let none : (view a.pass).mine ≡ [] = ap (λ (x : PassView). x.mine) new.1 in
    let xs : List Outcome = b.workload.outcomes.items in record {
      told = subst (λ (x : List Turn × List Parcel). AllZip (Becomes (opening book) x.0 (view b.pass).seen) x.1 xs) (λ i. (seen i, parcels i)) works.1.told;
      number = works.1.number ∙ own;
      mine = works.1.mine ∙ (λ i. none i ++ turns_of (own i) (lines_told xs));
    }

-- ---- all of them

module _ (book : SharedBook) (v : PassView) (batch : List Parcel) (n : ℕ) (workloads : List Workload) (workers0 workers1 : List Worker)
    (many : length workloads ≡ n) (are : AreWorkloads batch n workloads) (new : AreNewWorkers book v workloads workers0) (work : AllWork book workers0 workers1) where
  pub workers_long : length workers1 ≡ n
  workers_long = work.0 ∙ new.0 ∙ many

  pub each_told : (k : ℕ) (d : Worker) → k < n → HasTold (opening book) v batch n k (get_or workers1 k d)
  each_told k d lt =
      let in0 : k < length workers0 = (let e = new.0 in omega arith) in
      has_told book v batch n k (get_or workloads k d.workload) (get_or workers0 k d) (get_or workers1 k d) (are k d.workload (omega arith)) (new.1 k d in0) (work.1 k d in0)

  pub are_whole : AreWhole batch workers1
  are_whole k d lt =
      let t = each_told k d (let e = workers_long in omega arith) in
      sym (zip_long (Becomes (opening book) v.seen (view (get_or workers1 k d).pass).seen) (parcels_for n k batch) (get_or workers1 k d).workload.outcomes.items t.told)
      ∙ ap (λ (m : ℕ). length (parcels_for m k batch)) (sym workers_long)

  pub are_ready : All (λ worker. (view worker.pass).held ≡ None) workers1
  are_ready k d lt = (work.1 k d (let e = work.0 in omega arith)).1.held

  pub gathered : (w1 w2 : PassView) (outs : List Outcome) → 0 < n → v.out ≡ 0 → v.held ≡ None → SplitsAll v n w1 → Merges batch workers1 outs → JoinsAll w1 workers1 w2 → Gathers (opening book) v batch n outs w2
  gathered w1 w2 outs some out held split merges joins1 =
      let o : BookView = opening book in
      let joins : JoinsAll (record v { made = v.made + n; out = v.out + n }) workers1 w2 = subst (λ (x : PassView). JoinsAll x workers1 w2) split joins1 in
      let d : Worker = one_of workers1 (let e = workers_long in omega arith) in
      let at : (k : ℕ) → Worker = λ k. get_or workers1 k d in
      let outs_at : (k : ℕ) → k < n → told_by n k batch outs ≡ (at k).workload.outcomes.items = λ k lt.
      ap (λ (m : ℕ). told_by m k batch outs) (sym workers_long) ∙ merges.1 k d (let e = workers_long in omega arith) in
      let told : AllZip (Becomes o v.seen w2.seen) batch outs = all_told (Becomes o v.seen w2.seen) n batch outs (λ p. worker_below n p some) merges.0 (λ k lt.
      subst (λ (xs : List Outcome). AllZip (Becomes o v.seen w2.seen) (parcels_for n k batch) xs) (sym (outs_at k lt))
      (all_wider o v.seen v.seen (view (at k).pass).seen w2.seen (parcels_for n k batch) (at k).workload.outcomes.items (starts_same v.seen) (joins.all k d (let e = workers_long in omega arith)).0 (each_told k d lt).told)) in record {
        seen = joins.seen;
        mine = joins.mine;
        number = joins.number;
        made = joins.made;
        out = (let x = joins.out in let e = workers_long in omega arith);
        held = joins.held ∙ held;
        joined = joins.joined ∙ ap (λ (ns : List ℕ). v.joined ++ ns) (numbers_are (v.made + 1) workers1 (λ k e lt. (each_told k e (let h = workers_long in omega arith)).number) ∙ ap (range_with_len (v.made + 1)) workers_long);
        told = told;
        own = joins.own (let e = workers_long in omega arith);
        turns = λ k lt.
            let t = each_told k d lt in
            ap (λ (m : ℕ). turns_by m w2.seen) (sym t.number)
            ∙ (joins.all k d (let e = workers_long in omega arith)).1
            ∙ t.mine
            ∙ ap (λ (xs : List Outcome). turns_of (v.made + 1 + k) (lines_told xs)) (sym (outs_at k lt))
            ∙ ap (turns_of (v.made + 1 + k)) (lines_dealt n k o v.seen w2.seen batch outs told);
        others = λ m h le. joins.others m h (λ k e lt same. let q = (each_told k e (let x = workers_long in omega arith)).number in let z = same in absurd (omega arith));
      }
    where
      one_of : (ws : List Worker) → 0 < length ws → Worker
      one_of [] lt = absurd (omega arith)
      one_of (w ∷ ws) lt = w
