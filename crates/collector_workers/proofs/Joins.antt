-- Passes that are split off and joined, one after another.
use Rattle.std.proofs.Common.{◌≡◌, ◌≢◌, ◌<◌, ◌+◌, ℕ, zero, suc, List, [], ◌∷◌, ◌++◌, length, map, get_or, refl, sym, ap, ◌∙◌, subst, append_assoc, append-nil, arith}
use Rattle.std.specs.List.{All, Contains}
use Rattle.std.proofs.lemmas.List.{length_push, get_or_push, get_or_append_left, map-append}
use Rattle.std.proofs.lemmas.List.Elements.{All-nil, All-push, Contains-append_left, Contains-append_right}
use mathlib.Core.Logic.{dite}
use native.Mathlib.Decide.{ℕ_discrete}
use Rattle.shared_book.specs.declared.parcel.Parcel.{Parcel}
use Rattle.shared_book.specs.declared.parts.SharedBook.{SharedBook}
use Rattle.shared_book.specs.Ends.{view}
use Rattle.shared_book.specs.Turns.{turns_by}
use Rattle.shared_book.specs.Passes.{PassView, JoinEnds}
use Rattle.shared_book.proofs.Turning.{starts_on}
use Rattle.collector_workers.specs.declared.worker.Worker.{Worker}
use Rattle.collector_workers.specs.declared.workload.Workload.{Workload}
use Rattle.collector_workers.specs.Gathering.{IsWorkloadFor, AreWorkloads, SplitsAll, IsNewWorker, AreNewWorkers, IsJoined, numbers_of, JoinsAll}
use Rattle.collector_workers.proofs.Told.{starts_same}

abbrev number_of : Worker → ℕ
number_of worker = (view worker.pass).number

-- ---- workloads

-- one workload more
pub workloads_more : (batch : List Parcel) (n : ℕ) (workloads : List Workload) (workload : Workload) → AreWorkloads batch n workloads → IsWorkloadFor batch n (length workloads) workload → AreWorkloads batch n (workloads ++ workload ∷ [])
workloads_more batch n workloads workload old new k d lt =
    let one = length_push workloads workload in
    dite (ℕ_discrete k (length workloads))
    (λ (e : k ≡ length workloads). subst (λ (x : ℕ × Workload). IsWorkloadFor batch n x.0 x.1) (λ i. (sym e i, sym (get_or_push workloads workload d k (sym e)) i)) new)
    (λ (ne : k ≢ length workloads). subst (IsWorkloadFor batch n k) (sym (get_or_append_left workloads (workload ∷ []) d k (omega arith))) (old k d (omega arith)))

-- ---- split

-- one worker more
pub workers_more : (book : SharedBook) (v : PassView) (workloads : List Workload) (workers : List Worker) (workload : Workload) (worker : Worker) → AreNewWorkers book v workloads workers → IsNewWorker book v (v.made + 1 + length workers) workload worker
    → AreNewWorkers book v (workloads ++ workload ∷ []) (workers ++ worker ∷ [])
workers_more book v workloads workers workload worker old new =
    let long = old.0 in
    let one = length_push workers worker in
    let two = length_push workloads workload in (
      omega arith,
      λ k d lt. dite (ℕ_discrete k (length workers))
          (λ (e : k ≡ length workers).
          let at_workload : get_or (workloads ++ workload ∷ []) k d.workload ≡ workload = get_or_push workloads workload d.workload k (omega arith) in
          let at_workers : get_or (workers ++ worker ∷ []) k d ≡ worker = get_or_push workers worker d k (sym e) in
          subst (λ (x : ℕ × Workload × Worker). IsNewWorker book v (v.made + 1 + x.0) x.1 x.2) (λ i. (sym e i, sym at_workload i, sym at_workers i)) new)
          (λ (n : k ≢ length workers).
          let before : k < length workers = omega arith in
          let at_workload : get_or (workloads ++ workload ∷ []) k d.workload ≡ get_or workloads k d.workload = get_or_append_left workloads (workload ∷ []) d.workload k (omega arith) in
          let at_workers : get_or (workers ++ worker ∷ []) k d ≡ get_or workers k d = get_or_append_left workers (worker ∷ []) d k before in
          subst (λ (x : Workload × Worker). IsNewWorker book v (v.made + 1 + k) x.0 x.1) (λ i. (sym at_workload i, sym at_workers i)) (old.1 k d before)),
    )

-- ---- join

pub joins_none : (v : PassView) → JoinsAll v [] v
joins_none v = record {
  seen = starts_same v.seen;
  mine = refl;
  number = refl;
  made = refl;
  held = refl;
  out = omega arith;
  joined = sym (append-nil v.joined);
  own = λ lt. absurd (omega arith);
  all = All-nil (IsJoined v.seen);
  others = λ n h apart. refl;
}

number_in : (workers : List Worker) (k : ℕ) (d : Worker) → k < length workers → Contains (numbers_of workers) (number_of (get_or workers k d))
number_in [] k d lt = absurd (omega arith)
number_in (w ∷ ws) zero d lt = (0, omega arith, refl)
number_in (w ∷ ws) (suc k) d lt = let h = number_in ws k d (omega arith) in let in_rest = h.1 in (suc h.0, omega arith, h.2)

-- one pass more
pub joins_more : (v w w' : PassView) (workers : List Worker) (x : Worker) → JoinsAll v workers w → JoinEnds w (view x.pass) w' → ((k : ℕ) (d : Worker) → k < length workers → number_of (get_or workers k d) ≢ number_of x)
    → JoinsAll v (workers ++ x ∷ []) w'
joins_more v w w' workers x old j apart =
    let more : List Worker = workers ++ x ∷ [] in
    let long = length_push workers x in
    let left : (k : ℕ) (d : Worker) → k < length workers → get_or more k d ≡ get_or workers k d = λ k d lt. get_or_append_left workers (x ∷ []) d k lt in
    let stays : All (IsJoined w'.seen) workers = λ k d lt.
    let was = old.all k d lt in
    let c : Contains w.joined (number_of (get_or workers k d)) = subst (λ (ns : List ℕ). Contains ns (number_of (get_or workers k d))) (sym old.joined) (Contains-append_right v.joined (numbers_of workers) (number_of (get_or workers k d)) (number_in workers k d lt)) in
    (starts_on w'.seen w.seen (view (get_or workers k d).pass).seen j.seen was.0, j.others (number_of (get_or workers k d)) c (apart k d lt) ∙ was.1) in record {
      seen = starts_on w'.seen w.seen v.seen j.seen old.seen;
      mine = j.mine ∙ old.mine;
      number = j.number ∙ old.number;
      made = j.made ∙ old.made;
      held = j.held ∙ old.held;
      out = (let a = j.out in let b = old.out in omega arith);
      joined = j.joined ∙ ap (λ (ns : List ℕ). ns ++ number_of x ∷ []) old.joined ∙ append_assoc v.joined (numbers_of workers) (number_of x ∷ []) ∙ ap (λ (ns : List ℕ). v.joined ++ ns) (sym (map-append number_of workers (x ∷ [])));
      own = λ _. ap (λ (n : ℕ). turns_by n w'.seen) (sym old.number) ∙ j.own;
      all = All-push (IsJoined w'.seen) workers x stays (j.theirs, j.other);
      others = λ n h other.
          let c : Contains w.joined n = subst (λ (ns : List ℕ). Contains ns n) (sym old.joined) (Contains-append_left v.joined (numbers_of workers) n h) in
          let last : n ≢ number_of x = λ e. other (length workers) x (omega arith) (e ∙ ap number_of (sym (get_or_push workers x x (length workers) refl))) in
          j.others n c last ∙ old.others n h (λ k d lt e. other k d (omega arith) (e ∙ ap number_of (sym (left k d lt))));
    }

-- ---- counts

pub splits_more : (v w w' : PassView) (workloads : List Workload) (workload : Workload) → SplitsAll v (length workloads) w → w' ≡ record w { made = w.made + 1; out = w.out + 1 } → SplitsAll v (length (workloads ++ workload ∷ [])) w'
splits_more v w w' workloads workload old new =
    let long = length_push workloads workload in
    let made : v.made + length workloads + 1 ≡ v.made + length (workloads ++ workload ∷ []) = omega arith in
    let out : v.out + length workloads + 1 ≡ v.out + length (workloads ++ workload ∷ []) = omega arith in
    new ∙ ap (λ (x : PassView). record x { made = x.made + 1; out = x.out + 1 }) old ∙ (λ i. record v { made = made i; out = out i })

-- the passes of one worker more
pub last_more : (v : PassView) (n : ℕ) (workers : List Worker) (x : Worker) → ((k : ℕ) (d : Worker) → k < length workers → number_of (get_or workers k d) + n ≡ v.made + 1 + k) → number_of x + n ≡ v.made + 1 + length workers
    → (k : ℕ) (d : Worker) → k < length (workers ++ x ∷ []) → number_of (get_or (workers ++ x ∷ []) k d) + n ≡ v.made + 1 + k
last_more v n workers x old new k d lt =
    let long = length_push workers x in
    dite (ℕ_discrete k (length workers))
    (λ (e : k ≡ length workers). ap (λ (w : Worker). number_of w + n) (get_or_push workers x d k (sym e)) ∙ new ∙ ap (λ (m : ℕ). v.made + 1 + m) (sym e))
    (λ (ne : k ≢ length workers). ap (λ (w : Worker). number_of w + n) (get_or_append_left workers (x ∷ []) d k (omega arith)) ∙ old k d (omega arith))

pub apart_last : (v : PassView) (n : ℕ) (workers : List Worker) (x : Worker) → ((k : ℕ) (d : Worker) → k < length workers → number_of (get_or workers k d) + n ≡ v.made + 1 + k) → number_of x + n ≡ v.made + 1 + length workers
    → (k : ℕ) (d : Worker) → k < length workers → number_of (get_or workers k d) ≢ number_of x
apart_last v n workers x old new k d lt e = let a = old k d lt in let same = e in absurd (omega arith)

pub map-same : {A : Type 0} (xs : List A) → map (λ x. x) xs ≡ xs
map-same [] = refl
map-same (x ∷ xs) = ap (λ l. x ∷ l) (map-same xs)
