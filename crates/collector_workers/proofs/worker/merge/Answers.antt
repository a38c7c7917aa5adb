use Rattle.std.proofs.Common.{◌≡◌, ◌<◌, ◌+◌, List, ℕ, length, set, get_or, ap, sym, subst, ◌∙◌, rules, length-set}
use Rattle.std.proofs.lemmas.List.{length_push, get_or_default}
use Rattle.collector_workers.specs.declared.worker.Worker.{Worker}
use Rattle.collector_workers.specs.declared.outcome.Outcome.{Outcome}
use Rattle.collector_workers.proofs.Merging.{outs_of, HasMerged, has_more, merge_told, taken_more, merged}
use Rattle.collector_workers.proofs.worker.merge.Goals as goal

pub outcome_at-outcome-requires : goal.outcome_at-outcome-requires
outcome_at-outcome-requires c =
    let i = c.loop-place.invariant in
    let lt = c.loop-place-test.true in
    let o = c.worker_for-worker.result in
    let same : outs_of c.args.workers.now o c.index-workers-worker.result ≡ c.deref.result.now = sym c.deref.ensures.value in
    subst (λ (xs : List Outcome). get_or c.loop-place.taken o 0 < length xs) same
    (has_more c.args.batch.now c.args.workers.now c.loop-place.taken c.loop-place.outcomes.items c.loop-place.place o _ c.index-workers-worker.result lt i.listed c.requires.whole i.told i.within c.worker_for-worker.ensures.0 c.worker_for-worker.ensures.1)

pub loop-place-preserved : goal.loop-place-preserved
loop-place-preserved c =
    let i = c.loop-place.invariant in
    let lt = c.loop-place-test.true in
    let o = c.worker_for-worker.result in
    let workers : List Worker = c.args.workers.now in
    let taken : List ℕ = c.loop-place.taken in
    let outs : List Outcome = c.loop-place.outcomes.items in
    let y : Outcome = c.outcome_at-outcome.result in
    let e = c.worker_for-worker.ensures in
    let p = c.push_reserved.ensures in
    let more : (d : Worker) → get_or taken o 0 < length (outs_of workers o d) = λ d. has_more c.args.batch.now workers taken outs c.loop-place.place o _ d lt i.listed c.requires.whole i.told i.within e.0 e.1 in
    let at : (d : Worker) → outs_of workers o d ≡ c.deref.result.now = λ d. ap (λ (w : Worker). w.workload.outcomes.items) (get_or_default workers o d c.index-workers-worker.result e.1) ∙ sym c.deref.ensures.value in
    let is : (d : Worker) → get_or (outs_of workers o d) (get_or taken o 0) y ≡ y = λ d. ap (λ (xs : List Outcome). get_or xs (get_or taken o 0) y) (at d) ∙ sym c.outcome_at-outcome.ensures in record {
      same = length-set taken o (get_or taken o 0 + 1) ∙ i.same;
      told = subst (λ (xs : List Outcome). HasMerged c.args.batch.now workers (set taken o (get_or taken o 0 + 1)) xs (c.loop-place.place + 1)) (sym p.items) (merge_told c.args.batch.now workers taken outs c.loop-place.place o _ y lt i.listed i.same i.told e.0 e.1 more is);
      within = taken_more workers taken o i.same e.1 i.within more;
      listed = ap length p.items ∙ length_push outs y ∙ ap (λ k. k + 1) i.listed;
      long = p.len ∙ ap (λ k. k + 1) i.long;
      room = p.capacity ∙ i.room;
    }

pub returns : goal.returns
returns c =
    let i = c.loop-place.invariant in
    let no = c.loop-place-test.false in
    let fits = c.loop-place.auto in
    merged c.args.batch.now c.args.workers.now c.loop-place.taken c.loop-place.outcomes.items c.loop-place.place (search rules) i.listed (search rules) c.requires.whole i.told i.within
