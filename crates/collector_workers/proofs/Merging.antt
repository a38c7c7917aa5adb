-- What workers told, put into the order of the batch.
use Rattle.std.proofs.Common.{◌≡◌, ◌≢◌, ◌<◌, ◌≤◌, ◌==◌, ◌+◌, ℕ, Bool, true, false, if◌then◌else◌, List, [], ◌∷◌, ◌++◌, length, take, get_or, set, sym, ap, ◌∙◌, subst, append-nil, arith, eq-eqb, ne_eqb}
use mathlib.Core.Logic.{dite}
use native.Mathlib.Decide.{ℕ_discrete}
use Rattle.std.proofs.lemmas.List.{take_more, take_all, length-take-le, get_or-set_same, get_or-set_other, get_or_default}
use Rattle.shared_book.specs.declared.parcel.Parcel.{Parcel}
use Rattle.collector_workers.specs.declared.worker.Worker.{Worker}
use Rattle.collector_workers.specs.declared.outcome.Outcome.{Outcome}
use Rattle.collector_workers.specs.Outcomes.{worker_for, parcels_for}
use Rattle.collector_workers.specs.Gathering.{told_by, AreWhole, Merges}
use Rattle.collector_workers.proofs.Dealing.{before_one, told_long, told_push}

-- what a worker of the workers told
abbrev pub outs_of : List Worker → ℕ → Worker → List Outcome
outs_of workers k d = (get_or workers k d).workload.outcomes.items

-- each worker told of the parcels so far
abbrev pub HasMerged : List Parcel → List Worker → List ℕ → List Outcome → ℕ → Type 0
HasMerged batch workers taken outs at = (k : ℕ) (d : Worker) → k < length workers → told_by (length workers) k (take at batch) outs ≡ take (get_or taken k 0) (outs_of workers k d)

abbrev pub AreTaken : List Worker → List ℕ → Type 0
AreTaken workers taken = (k : ℕ) (d : Worker) → k < length workers → get_or taken k 0 ≤ length (outs_of workers k d)

-- the worker of the next parcel has told more
pub has_more : (batch : List Parcel) (workers : List Worker) (taken : List ℕ) (outs : List Outcome) (at o : ℕ) (x : Parcel) (d : Worker) → at < length batch → length outs ≡ at → AreWhole batch workers → HasMerged batch workers taken outs at → AreTaken workers taken
    → o ≡ worker_for (length workers) (get_or batch at x) → o < length workers → get_or taken o 0 < length (outs_of workers o d)
has_more batch workers taken outs at o x d lt long whole told within mine lo =
    let n : ℕ = length workers in
    let p : Parcel = get_or batch at x in
    let t : ℕ = get_or taken o 0 in
    let ys : List Outcome = outs_of workers o d in
    let part = length-take-le at batch (omega arith) in
    let a : length (told_by n o (take at batch) outs) ≡ length (parcels_for n o (take at batch)) = told_long n o (take at batch) outs (omega arith) in
    let b : length (told_by n o (take at batch) outs) ≡ t = ap length (told o d lo) ∙ length-take-le t ys (within o d lo) in
    let c : length ys ≡ length (parcels_for n o batch) = whole o d lo in
    let e : length (parcels_for n o (take at batch)) < length (parcels_for n o batch) = before_one n o batch at p lt (get_or_default batch at p x lt) (sym mine) in
    omega arith

pub merge_told : (batch : List Parcel) (workers : List Worker) (taken : List ℕ) (outs : List Outcome) (at o : ℕ) (x : Parcel) (y : Outcome) → at < length batch → length outs ≡ at → length taken ≡ length workers → HasMerged batch workers taken outs at
    → o ≡ worker_for (length workers) (get_or batch at x) → o < length workers → ((d : Worker) → get_or taken o 0 < length (outs_of workers o d)) → ((d : Worker) → get_or (outs_of workers o d) (get_or taken o 0) y ≡ y)
    → HasMerged batch workers (set taken o (get_or taken o 0 + 1)) (outs ++ y ∷ []) (at + 1)
merge_told batch workers taken outs at o x y lt long same told mine lo more is k d lk =
    let n : ℕ = length workers in
    let p : Parcel = get_or batch at x in
    let t : ℕ = get_or taken o 0 in
    let ys : List Outcome = outs_of workers k d in
    let part = length-take-le at batch (omega arith) in
    let pushed : told_by n k (take (at + 1) batch) (outs ++ y ∷ []) ≡ told_by n k (take at batch) outs ++ (if worker_for n p == k then y ∷ [] else []) =
    ap (λ (ps : List Parcel). told_by n k ps (outs ++ y ∷ [])) (take_more batch at x lt) ∙ told_push n k (take at batch) outs p y (omega arith) in
    dite (ℕ_discrete k o)
    (λ (e : k ≡ o).
    let b : (worker_for n p == k) ≡ true = eq-eqb (worker_for n p) k (sym mine ∙ sym e) in
    let now : get_or (set taken o (t + 1)) k 0 ≡ t + 1 = ap (λ (m : ℕ). get_or (set taken o (t + 1)) m 0) e ∙ get_or-set_same taken o (t + 1) 0 (omega arith) in
    let was : get_or taken k 0 ≡ t = ap (λ (m : ℕ). get_or taken m 0) e in
    let there : t < length ys = subst (λ (m : ℕ). t < length (outs_of workers m d)) (sym e) (more d) in
    let here : get_or ys t y ≡ y = subst (λ (m : ℕ). get_or (outs_of workers m d) t y ≡ y) (sym e) (is d) in
    pushed ∙ ap (λ (c : Bool). told_by n k (take at batch) outs ++ (if c then y ∷ [] else [])) b
    ∙ ap (λ (xs : List Outcome). xs ++ y ∷ []) (told k d lk ∙ ap (λ (m : ℕ). take m ys) was)
    ∙ ap (λ (z : Outcome). take t ys ++ z ∷ []) (sym here) ∙ sym (take_more ys t y there) ∙ ap (λ (m : ℕ). take m ys) (sym now))
    (λ (ne : k ≢ o).
    let b : (worker_for n p == k) ≡ false = ne_eqb (worker_for n p) k (λ e. ne (sym e ∙ sym mine)) in
    let now : get_or (set taken o (t + 1)) k 0 ≡ get_or taken k 0 = get_or-set_other taken o k (t + 1) 0 ne in
    pushed ∙ ap (λ (c : Bool). told_by n k (take at batch) outs ++ (if c then y ∷ [] else [])) b
    ∙ append-nil (told_by n k (take at batch) outs) ∙ told k d lk ∙ ap (λ (m : ℕ). take m ys) (sym now))

pub taken_more : (workers : List Worker) (taken : List ℕ) (o : ℕ) → length taken ≡ length workers → o < length workers → AreTaken workers taken → ((d : Worker) → get_or taken o 0 < length (outs_of workers o d)) → AreTaken workers (set taken o (get_or taken o 0 + 1))
taken_more workers taken o same lo within more k d lk =
    let t : ℕ = get_or taken o 0 in
    dite (ℕ_discrete k o)
    (λ (e : k ≡ o).
    let now : get_or (set taken o (t + 1)) k 0 ≡ t + 1 = ap (λ (m : ℕ). get_or (set taken o (t + 1)) m 0) e ∙ get_or-set_same taken o (t + 1) 0 (omega arith) in
    let there : t < length (outs_of workers k d) = subst (λ (m : ℕ). t < length (outs_of workers m d)) (sym e) (more d) in
    omega arith)
    (λ (ne : k ≢ o).
    let now : get_or (set taken o (t + 1)) k 0 ≡ get_or taken k 0 = get_or-set_other taken o k (t + 1) 0 ne in
    let was = within k d lk in
    omega arith)

-- all parcels were told of
pub merged : (batch : List Parcel) (workers : List Worker) (taken : List ℕ) (outs : List Outcome) (at : ℕ) → length batch ≤ at → length outs ≡ at → at ≤ length batch → AreWhole batch workers → HasMerged batch workers taken outs at → AreTaken workers taken → Merges batch workers outs
merged batch workers taken outs at le long fits whole told within =
    let n : ℕ = length workers in
    let all : take at batch ≡ batch = take_all at batch le in (
      omega arith,
      λ k d lk.
          let ys : List Outcome = outs_of workers k d in
          let t : ℕ = get_or taken k 0 in
          let same : told_by n k batch outs ≡ take t ys = ap (λ (ps : List Parcel). told_by n k ps outs) (sym all) ∙ told k d lk in
          let many : length (told_by n k batch outs) ≡ length (parcels_for n k batch) = told_long n k batch outs (omega arith) in
          let part : length (told_by n k batch outs) ≡ t = ap length same ∙ length-take-le t ys (within k d lk) in
          let c : length ys ≡ length (parcels_for n k batch) = whole k d lk in
          same ∙ take_all t ys (omega arith),
    )
