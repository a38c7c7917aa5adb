-- Rows taken in turn.
use Rattle.std.proofs.Common.{◌≡◌, ◌≤◌, ◌+◌, ℕ, zero, suc, Bool, true, false, not, List, [], ◌∷◌, length, drop, Option, Result, Ok, Err, refl, sym, ap, arith, IfOk, is_some, if◌then◌else◌, subst, ◌∙◌}
use Rattle.std.proofs.Math.Seq.{drop-nil}
use Rattle.group_plan.specs.Plans.{PlanView}
use Rattle.pair_keys.specs.Ids.{is_key}
use Rattle.pair_keys.specs.Keys.{Keys, with_key}
use Rattle.pair_keys.specs.Keys as pile
use Rattle.pair_keys.specs.declared.KeyError.{KeyError}
use Rattle.pair_keys.specs.declared.KeyError.TheVariants as of_key
use Rattle.pair_keys.specs.declared.KeyId.{KeyId}
use Rattle.group_plan.specs.declared.plan.members.Span.{Span}
use Rattle.group_plan.specs.declared.plan.members.SpanError.{SpanError}
use Rattle.link_lanes.specs.declared.row.LaneRow.{LaneRow}
use Rattle.pair_keys.specs.declared.KeyId.TheVariants as id
use Rattle.plan_files.proofs.FormLemmas.{fails_too}
use Rattle.plan_files.specs.Faults.{◌>>=◌, at_row, in_row}
use Rattle.plan_files.specs.Gathering.{Gathered, HangsLane, TakesEntry, gather, hang_lane, member_fault, put_key, spans_of, take_entry}
use Rattle.plan_files.specs.declared.fault.Failed.{Failed}
use Rattle.plan_files.specs.declared.fault.FileCause.{FileCause}
use Rattle.plan_files.specs.declared.entry.PlanRow.{PlanRow}
use Rattle.plan_files.specs.declared.entry.PlanRow.TheVariants as entry
use Rattle.plan_files.specs.declared.fault.FileCause.TheVariants as cause
use Rattle.plan_files.specs.declared.fault.FileFault.{FileFault}

-- ---- keys

pub key_put : (old new : Keys) (which : KeyId) (key : List ℕ) → pile.PutsKey old which key (Ok tt) new → put_key old which key ≡ Ok new
unfolding put_key
key_put old new which key put = rw (put.0, put.1) (ap Ok (sym put.2))

pub key_refused : (old new : Keys) (which : KeyId) (key : List ℕ) (error : KeyError) → pile.PutsKey old which key (Err error) new → put_key old which key ≡ Err (cause.Key error)
unfolding put_key
key_refused old new which key of_key.Range put = rw put.0 refl
key_refused old new which key (of_key.Twice there) put = rw (put.0, put.1, put.2) refl
key_refused old new which key (of_key.Missing lacking) put = absurd put

-- ---- spans

pub spans_end : (entries : List PlanRow) (i : ℕ) → length entries ≤ i → spans_of (drop i entries) ≡ []
spans_end [] i h = rw (drop-nil i) refl
spans_end (e ∷ es) zero h = absurd (omega arith)
spans_end (e ∷ es) (suc i) h = spans_end es i (omega arith)

-- ---- a row more

pub took_own : (last : ℕ) (fault : Option SpanError) (before : Gathered) (group meter : ℕ) (key : List ℕ) (new : Keys) → put_key before.keys (id.Own group meter) key ≡ Ok new
    → take_entry last fault before (entry.Own group meter key) ≡ Ok (record before { keys = new })
unfolding take_entry
took_own last fault before group meter key new put = rw put refl

pub own_refused : (last : ℕ) (fault : Option SpanError) (before : Gathered) (group meter : ℕ) (key : List ℕ) (what : FileCause) → put_key before.keys (id.Own group meter) key ≡ Err what
    → take_entry last fault before (entry.Own group meter key) ≡ Err what
unfolding take_entry
own_refused last fault before group meter key what wrong = rw wrong refl

pub took_pair : (last : ℕ) (fault : Option SpanError) (before : Gathered) (group low high : ℕ) (key : List ℕ) (new : Keys) → put_key before.keys (id.Pair group low high) key ≡ Ok new
    → take_entry last fault before (entry.Pair group low high key) ≡ Ok (record before { keys = new })
unfolding take_entry
took_pair last fault before group low high key new put = rw put refl

pub pair_refused : (last : ℕ) (fault : Option SpanError) (before : Gathered) (group low high : ℕ) (key : List ℕ) (what : FileCause) → put_key before.keys (id.Pair group low high) key ≡ Err what
    → take_entry last fault before (entry.Pair group low high key) ≡ Err what
unfolding take_entry
pair_refused last fault before group low high key what wrong = rw wrong refl

pub took_lane : (last : ℕ) (fault : Option SpanError) (before : Gathered) (lane : LaneRow) (result : Result (Unit {0}) (Failed FileCause)) (new : List LaneRow)
    → HangsLane before.lanes lane last result new → TakesEntry last fault before (entry.Lane lane) result (record before { lanes = new })
unfolding take_entry
took_lane last fault before lane (Ok done) new hung = rw hung refl
took_lane last fault before lane (Err failed) new hung =
    fails_too (hang_lane last before.lanes lane) (take_entry last fault before (entry.Lane lane)) failed (λ what (refused : hang_lane last before.lanes lane ≡ Err what). rw refused refl) hung

pub took_member : (last : ℕ) (fault : Option SpanError) (before : Gathered) (span : Span) → member_fault fault before.members ≡ Ok tt
    → take_entry last fault before (entry.Member span) ≡ Ok (record before { members = before.members + 1 })
unfolding take_entry
took_member last fault before span right = rw right refl

pub member_refused : (last : ℕ) (fault : Option SpanError) (before : Gathered) (span : Span) (what : FileCause) → member_fault fault before.members ≡ Err what
    → take_entry last fault before (entry.Member span) ≡ Err what
unfolding take_entry
member_refused last fault before span what wrong = rw wrong refl

-- ---- all rows

pub gather_more : (last : ℕ) (fault : Option SpanError) (n : ℕ) (before more : Gathered) (entries rest : List PlanRow) (x : PlanRow) → entries ≡ x ∷ rest → take_entry last fault before x ≡ Ok more
    → gather last fault n before entries ≡ gather last fault (n + 1) more rest
unfolding gather
gather_more last fault n before more entries rest x is took = rw (is, took) refl

pub gather_refused : (last : ℕ) (fault : Option SpanError) (n : ℕ) (before : Gathered) (entries rest : List PlanRow) (x : PlanRow) (what : FileCause) → entries ≡ x ∷ rest → take_entry last fault before x ≡ Err what
    → gather last fault n before entries ≡ Err (in_row n what)
unfolding gather
gather_refused last fault n before entries rest x what is refused = rw (is, refused) refl

pub gather_end : (last : ℕ) (fault : Option SpanError) (n : ℕ) (before : Gathered) (entries : List PlanRow) → length entries ≡ 0 → gather last fault n before entries ≡ Ok before
unfolding gather
gather_end last fault n before [] none = refl
gather_end last fault n before (e ∷ es) none = absurd (omega arith)

-- ---- the plan of the keys stays

bind_ok : {A B E : Type 0} (x : Result A E) (f : A → Result B E) (P : B → Type 0) → IfOk x (λ a. IfOk (f a) P) → IfOk (x >>= f) P
bind_ok (Ok a) f P h = h
bind_ok (Err e) f P h = tt

row_ok : {A : Type 0} (n : ℕ) (x : Result A FileCause) (P : A → Type 0) → IfOk x P → IfOk (at_row n x) P
row_ok n (Ok a) P h = h
row_ok n (Err e) P h = tt

put_keeps : (keys : Keys) (which : KeyId) (key : List ℕ) → IfOk (put_key keys which key) (λ new. new.plan ≡ keys.plan)
unfolding put_key
put_keeps keys which key = by_tests (is_key keys.plan which) (is_some (keys.key which))
  where
    by_tests : (b c : Bool) → IfOk (if not b then Err (cause.Key of_key.Range) else if c then Err (cause.Key (of_key.Twice which)) else Ok (with_key keys which key)) (λ new. new.plan ≡ keys.plan)
    by_tests true true = tt
    by_tests true false = refl
    by_tests false c = tt

ok_always : {A E : Type 0} (x : Result A E) (P : A → Type 0) → ((a : A) → P a) → IfOk x P
ok_always (Ok a) P h = h a
ok_always (Err e) P h = tt

ok_more : {A E : Type 0} (x : Result A E) (P Q : A → Type 0) → ((a : A) → P a → Q a) → IfOk x P → IfOk x Q
ok_more (Ok a) P Q h p = h a p
ok_more (Err e) P Q h p = tt

abbrev HasPlan : PlanView → Gathered → Type 0
HasPlan plan gathered = gathered.keys.plan ≡ plan

take_keeps : (last : ℕ) (fault : Option SpanError) (before : Gathered) (e : PlanRow) → IfOk (take_entry last fault before e) (HasPlan before.keys.plan)
unfolding take_entry
take_keeps last fault before (entry.Own group meter key) =
    bind_ok (put_key before.keys (id.Own group meter) key) (λ keys. Ok (record before { keys = keys })) (HasPlan before.keys.plan) (put_keeps before.keys (id.Own group meter) key)
take_keeps last fault before (entry.Pair group low high key) =
    bind_ok (put_key before.keys (id.Pair group low high) key) (λ keys. Ok (record before { keys = keys })) (HasPlan before.keys.plan) (put_keeps before.keys (id.Pair group low high) key)
take_keeps last fault before (entry.Lane lane) =
    bind_ok (hang_lane last before.lanes lane) (λ lanes. Ok (record before { lanes = lanes })) (HasPlan before.keys.plan) (ok_always (hang_lane last before.lanes lane) (λ lanes. before.keys.plan ≡ before.keys.plan) (λ lanes. refl))
take_keeps last fault before (entry.Member span) =
    bind_ok (member_fault fault before.members) (λ _. Ok (record before { members = before.members + 1 })) (HasPlan before.keys.plan)
    (ok_always (member_fault fault before.members) (λ _. before.keys.plan ≡ before.keys.plan) (λ _. refl))

gather_ok : (last : ℕ) (fault : Option SpanError) (n : ℕ) (before : Gathered) (entries : List PlanRow) → IfOk (gather last fault n before entries) (HasPlan before.keys.plan)
unfolding gather
gather_ok last fault n before [] = refl
gather_ok last fault n before (e ∷ es) =
    bind_ok (at_row n (take_entry last fault before e)) (λ more. gather last fault (n + 1) more es) (HasPlan before.keys.plan)
    (row_ok n (take_entry last fault before e) (λ more. IfOk (gather last fault (n + 1) more es) (HasPlan before.keys.plan))
    (ok_more (take_entry last fault before e) (HasPlan before.keys.plan) (λ more. IfOk (gather last fault (n + 1) more es) (HasPlan before.keys.plan))
    (λ more same. ok_more (gather last fault (n + 1) more es) (HasPlan more.keys.plan) (HasPlan before.keys.plan) (λ after kept. kept ∙ same) (gather_ok last fault (n + 1) more es))
    (take_keeps last fault before e)))

pub gather_keeps : (last : ℕ) (fault : Option SpanError) (n : ℕ) (before after : Gathered) (entries : List PlanRow) → gather last fault n before entries ≡ Ok after → after.keys.plan ≡ before.keys.plan
gather_keeps last fault n before after entries is = subst (λ (r : Result Gathered FileFault). IfOk r (HasPlan before.keys.plan)) is (gather_ok last fault n before entries)
