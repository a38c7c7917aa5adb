-- A batch that is dealt to workers by groups, and what they told, put together again.
use Rattle.std.proofs.Common.{◌≡◌, ◌≢◌, ◌<◌, ◌%◌, ◌==◌, ◌+◌, ℕ, zero, suc, Bool, true, false, cond, if◌then◌else◌, List, [], ◌∷◌, ◌++◌, length, take, get_or, Ok, Err, Result, refl, sym, ap, ◌∙◌, subst, ◌⊎◌, inl, inr, ⊎_elim, append-nil, arith, eq-eqb, ne_eqb}
use Rattle.std.specs.Prelude.{Option, Some, None}
use Rattle.std.specs.List.{AllZip}
use Rattle.std.proofs.lemmas.List.{take_more}
use Rattle.std.proofs.lemmas.List.Elements.{filter-append}
use Rattle.group_plan.specs.Plans.{PlanView}
use Rattle.meter_frames.specs.declared.FrameError.{FrameError}
use Rattle.meter_frames.specs.declared.Frame.{Frame}
use Rattle.event_schedule.specs.declared.Line.{Line}
use Rattle.event_schedule.specs.declared.Event.{Event}
use Rattle.event_schedule.specs.declared.Event.TheVariants.{Take as TakeEvent, Close, End}
use Rattle.event_schedule.specs.Events.{event_of}
use Rattle.group_book.specs.Books.{BookView, posted_in}
use Rattle.event_schedule.specs.ByGroup.{group_of}
use Rattle.group_book.specs.Places.{is_round}
use Rattle.group_plan.specs.Plans.{is_place}
use Rattle.shared_book.specs.declared.parcel.Parcel.{Parcel}
use Rattle.shared_book.specs.declared.parcel.Request.{Request}
use Rattle.shared_book.specs.declared.parcel.Request.TheVariants.{Take as TakeRequest, Close as CloseRequest, End as EndRequest}
use Rattle.shared_book.specs.declared.turn.Turn.{Turn}
use Rattle.shared_book.specs.Parcels.{Judged, Accepted, BadFrame, RefusedFrame, Outside, judged_beside, judged_request, judged_if_read, same_frame, request_of, group_in}
use Rattle.shared_book.specs.Turns.{journal_after}
use Rattle.collector_workers.specs.declared.outcome.Outcome.{Outcome}
use Rattle.collector_workers.specs.Outcomes.{IsOutcome, Becomes, lines_told, line_before, worker_if_read, worker_for, parcels_for, lines_by}
use Rattle.collector_workers.specs.Gathering.{told_by}

pub is_bool : (b : Bool) → (b ≡ true) ⊎ (b ≡ false)
is_bool true = inl refl
is_bool false = inr refl

-- ---- a worker's parcels

-- one parcel more, which is the worker's
pub parcels_mine : (n k : ℕ) (batch : List Parcel) (at : ℕ) (p : Parcel) → at < length batch → get_or batch at p ≡ p → worker_for n p ≡ k
    → parcels_for n k (take (at + 1) batch) ≡ parcels_for n k (take at batch) ++ p ∷ []
parcels_mine n k batch at p lt is mine =
    ap (parcels_for n k) (take_more batch at p lt ∙ ap (λ (q : Parcel). take at batch ++ q ∷ []) is)
    ∙ filter-append (λ q. worker_for n q == k) (take at batch) (p ∷ [])
    ∙ ap (λ (b : Bool). parcels_for n k (take at batch) ++ cond b (p ∷ []) []) (eq-eqb (worker_for n p) k mine)

-- one parcel more, which is another's
pub parcels_other : (n k : ℕ) (batch : List Parcel) (at : ℕ) (p : Parcel) → at < length batch → get_or batch at p ≡ p → worker_for n p ≢ k
    → parcels_for n k (take (at + 1) batch) ≡ parcels_for n k (take at batch)
parcels_other n k batch at p lt is other =
    ap (parcels_for n k) (take_more batch at p lt ∙ ap (λ (q : Parcel). take at batch ++ q ∷ []) is)
    ∙ filter-append (λ q. worker_for n q == k) (take at batch) (p ∷ [])
    ∙ ap (λ (b : Bool). parcels_for n k (take at batch) ++ cond b (p ∷ []) []) (ne_eqb (worker_for n p) k other)
    ∙ append-nil (parcels_for n k (take at batch))

-- a worker has more parcels than those before one of them
pub before_one : (n k : ℕ) (batch : List Parcel) (at : ℕ) (p : Parcel) → at < length batch → get_or batch at p ≡ p → worker_for n p ≡ k
    → length (parcels_for n k (take at batch)) < length (parcels_for n k batch)
before_one n k [] at p lt is mine = absurd (omega arith)
before_one n k (q ∷ qs) zero p lt is mine =
    let b : (worker_for n q == k) ≡ true = eq-eqb (worker_for n q) k (ap (worker_for n) is ∙ mine) in
    let one : parcels_for n k (q ∷ qs) ≡ q ∷ parcels_for n k qs = ap (λ (c : Bool). cond c (q ∷ parcels_for n k qs) (parcels_for n k qs)) b in
    let long = ap length one in
    omega arith
before_one n k (q ∷ qs) (suc at) p lt is mine =
    let more = before_one n k qs at p (omega arith) is mine in
    let rest : List Parcel = parcels_for n k (take at qs) in
    ⊎_elim
    (λ (b : (worker_for n q == k) ≡ true).
    let one : length (parcels_for n k (q ∷ take at qs)) ≡ suc (length rest) = ap (λ (c : Bool). length (cond c (q ∷ rest) rest)) b in
    let all : length (parcels_for n k (q ∷ qs)) ≡ suc (length (parcels_for n k qs)) = ap (λ (c : Bool). length (cond c (q ∷ parcels_for n k qs) (parcels_for n k qs))) b in
    omega arith)
    (λ (b : (worker_for n q == k) ≡ false).
    let one : length (parcels_for n k (q ∷ take at qs)) ≡ length rest = ap (λ (c : Bool). length (cond c (q ∷ rest) rest)) b in
    let all : length (parcels_for n k (q ∷ qs)) ≡ length (parcels_for n k qs) = ap (λ (c : Bool). length (cond c (q ∷ parcels_for n k qs) (parcels_for n k qs))) b in
    omega arith)
    (is_bool (worker_for n q == k))

-- ---- what workers told

-- as many as their parcels
pub told_long : (n k : ℕ) (ps : List Parcel) (xs : List Outcome) → length xs ≡ length ps → length (told_by n k ps xs) ≡ length (parcels_for n k ps)
told_long n k [] [] long = refl
told_long n k [] (x ∷ xs) long = absurd (omega arith)
told_long n k (p ∷ ps) [] long = absurd (omega arith)
told_long n k (p ∷ ps) (x ∷ xs) long = step (worker_for n p == k) (told_long n k ps xs (omega arith))
  where
    step : (b : Bool) → length (told_by n k ps xs) ≡ length (parcels_for n k ps)
        → length (if b then x ∷ told_by n k ps xs else told_by n k ps xs) ≡ length (cond b (p ∷ parcels_for n k ps) (parcels_for n k ps))
    step true rest = ap suc rest
    step false rest = rest

-- of one parcel more
pub told_push : (n k : ℕ) (ps : List Parcel) (xs : List Outcome) (p : Parcel) (x : Outcome) → length xs ≡ length ps
    → told_by n k (ps ++ p ∷ []) (xs ++ x ∷ []) ≡ told_by n k ps xs ++ (if worker_for n p == k then x ∷ [] else [])
told_push n k [] [] p x long = refl
told_push n k [] (y ∷ xs) p x long = absurd (omega arith)
told_push n k (q ∷ ps) [] p x long = absurd (omega arith)
told_push n k (q ∷ ps) (y ∷ xs) p x long = step (worker_for n q == k) (told_push n k ps xs p x (omega arith))
  where
    step : (b : Bool) → told_by n k (ps ++ p ∷ []) (xs ++ x ∷ []) ≡ told_by n k ps xs ++ (if worker_for n p == k then x ∷ [] else [])
        → (if b then y ∷ told_by n k (ps ++ p ∷ []) (xs ++ x ∷ []) else told_by n k (ps ++ p ∷ []) (xs ++ x ∷ []))
        ≡ (if b then y ∷ told_by n k ps xs else told_by n k ps xs) ++ (if worker_for n p == k then x ∷ [] else [])
    step true rest = ap (λ (ys : List Outcome). y ∷ ys) rest
    step false rest = rest

-- what holds of each worker's parcels and what it told holds of the batch
pub all_told : (R : Parcel → Outcome → Type 0) (n : ℕ) (ps : List Parcel) (xs : List Outcome) → ((p : Parcel) → worker_for n p < n) → length xs ≡ length ps
    → ((k : ℕ) → k < n → AllZip R (parcels_for n k ps) (told_by n k ps xs)) → AllZip R ps xs
all_told R n [] [] below long all = tt
all_told R n [] (x ∷ xs) below long all = absurd (omega arith)
all_told R n (p ∷ ps) [] below long all = absurd (omega arith)
all_told R n (p ∷ ps) (x ∷ xs) below long all =
    let here : (k : ℕ) → (b : Bool) → (worker_for n p == k) ≡ b → k < n
    → AllZip R (cond b (p ∷ parcels_for n k ps) (parcels_for n k ps)) (if b then x ∷ told_by n k ps xs else told_by n k ps xs) =
    λ k b e lt. subst (λ (c : Bool). AllZip R (cond c (p ∷ parcels_for n k ps) (parcels_for n k ps)) (if c then x ∷ told_by n k ps xs else told_by n k ps xs)) e (all k lt) in
    let mine : ℕ = worker_for n p in (
      (here mine true (eq-eqb mine mine refl) (below p)).0,
      all_told R n ps xs below (omega arith) (λ k lt. ⊎_elim
          (λ (b : (worker_for n p == k) ≡ true). (here k true b lt).1)
          (λ (b : (worker_for n p == k) ≡ false). here k false b lt)
          (is_bool (worker_for n p == k))),
    )

-- ---- lines

-- what becomes of a request is of its group, where it is accepted
abbrev IsOwn : ℕ → Judged → Type 0
IsOwn g (Accepted event) = group_of event ≡ g
IsOwn g _ = Unit {0}

own_if : (g : ℕ) (b : Bool) (x y : Judged) → IsOwn g x → IsOwn g y → IsOwn g (if b then x else y)
own_if g true x y h k = h
own_if g false x y h k = k

own_beside : (found : Option Frame) (f : Frame) → IsOwn f.tag.group (judged_beside found f)
own_beside None f = refl
own_beside (Some q) f = own_if f.tag.group (same_frame q f) (Accepted (TakeEvent f.tag)) _ refl tt

own_request : (plan : PlanView) (lines : List Line) (request : Request) → IsOwn (group_in request) (judged_request plan lines request)
own_request plan lines (TakeRequest f) = own_if f.tag.group (is_place plan f.tag.group f.tag.round f.tag.meter) (judged_beside (posted_in f.tag lines) f) _ (own_beside (posted_in f.tag lines) f) tt
own_request plan lines (CloseRequest g r) = own_if g (is_round plan g r) (Accepted (Close g r)) Outside refl tt
own_request plan lines (EndRequest g r) = own_if g (is_round plan g r) (Accepted (End g r)) Outside refl tt

-- the line of a parcel is of its worker's groups
abbrev OfWorker : ℕ → ℕ → Option Line → Type 0
OfWorker n k None = Unit {0}
OfWorker n k (Some line) = group_of (event_of line) % n ≡ k

of_judged : (n g : ℕ) (j : Judged) (x : Outcome) → IsOwn g j → IsOutcome j x → OfWorker n (g % n) x.line
of_judged n g (Accepted event) x own is = subst (λ (y : Outcome). OfWorker n (g % n) y.line) (sym is.2) (ap (λ (e : Event). group_of e % n) is.3 ∙ ap (λ (h : ℕ). h % n) own)
of_judged n g (BadFrame e) x own is = subst (λ (y : Outcome). OfWorker n (g % n) y.line) (sym is) tt
of_judged n g (RefusedFrame e) x own is = subst (λ (y : Outcome). OfWorker n (g % n) y.line) (sym is) tt
of_judged n g Outside x own is = subst (λ (y : Outcome). OfWorker n (g % n) y.line) (sym is) tt

of_read : (n : ℕ) (plan : PlanView) (lines : List Line) (asked : Result Request FrameError) (x : Outcome) → IsOutcome (judged_if_read plan lines asked) x → OfWorker n (worker_if_read n asked) x.line
of_read n plan lines (Ok request) x is = of_judged n (group_in request) (judged_request plan lines request) x (own_request plan lines request) is
of_read n plan lines (Err e) x is = subst (λ (y : Outcome). OfWorker n 0 y.line) (sym is) tt

of_worker : (n : ℕ) (o : BookView) (from to : List Turn) (p : Parcel) (x : Outcome) → Becomes o from to p x → OfWorker n (worker_for n p) x.line
of_worker n o from to p x b = of_read n o.presence.plan (journal_after o b.at) (request_of p) x b.is

-- the lines that a worker told are those of its groups
pub lines_dealt : (n k : ℕ) (o : BookView) (from to : List Turn) (ps : List Parcel) (xs : List Outcome) → AllZip (Becomes o from to) ps xs → lines_told (told_by n k ps xs) ≡ lines_by n k (lines_told xs)
lines_dealt n k o from to [] [] all = refl
lines_dealt n k o from to [] (x ∷ xs) all = absurd all
lines_dealt n k o from to (p ∷ ps) [] all = absurd all
lines_dealt n k o from to (p ∷ ps) (x ∷ xs) all = step (lines_dealt n k o from to ps xs all.1) (of_worker n o from to p x all.0) (worker_for n p == k) refl
  where
    told : (line : Option Line) (b : Bool) → List Line
    told line true = line_before line (lines_told (told_by n k ps xs))
    told line false = lines_told (told_by n k ps xs)

    is_told : (b : Bool) → lines_told (if b then x ∷ told_by n k ps xs else told_by n k ps xs) ≡ told x.line b
    is_told true = refl
    is_told false = refl

    by_line : lines_told (told_by n k ps xs) ≡ lines_by n k (lines_told xs) → (line : Option Line) → OfWorker n (worker_for n p) line → (b : Bool) → (worker_for n p == k) ≡ b → told line b ≡ lines_by n k (line_before line (lines_told xs))
    by_line rest None of true e = rest
    by_line rest None of false e = rest
    by_line rest (Some line) of true e =
        let c : (group_of (event_of line) % n == k) ≡ true = ap (λ (m : ℕ). m == k) of ∙ e in
        ap (λ (ls : List Line). line ∷ ls) rest ∙ sym (ap (λ (d : Bool). cond d (line ∷ lines_by n k (lines_told xs)) (lines_by n k (lines_told xs))) c)
    by_line rest (Some line) of false e =
        let c : (group_of (event_of line) % n == k) ≡ false = ap (λ (m : ℕ). m == k) of ∙ e in
        rest ∙ sym (ap (λ (d : Bool). cond d (line ∷ lines_by n k (lines_told xs)) (lines_by n k (lines_told xs))) c)

    step : lines_told (told_by n k ps xs) ≡ lines_by n k (lines_told xs) → OfWorker n (worker_for n p) x.line → (b : Bool) → (worker_for n p == k) ≡ b
        → lines_told (if worker_for n p == k then x ∷ told_by n k ps xs else told_by n k ps xs) ≡ lines_by n k (line_before x.line (lines_told xs))
    step rest of b e = ap (λ (c : Bool). lines_told (if c then x ∷ told_by n k ps xs else told_by n k ps xs)) e ∙ is_told b ∙ by_line rest x.line of b e
