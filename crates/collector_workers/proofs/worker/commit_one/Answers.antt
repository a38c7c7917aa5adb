use Rattle.std.proofs.Common.{◌≡◌, refl, sym, subst, get_or, ◌∙◌}
use Rattle.std.proofs.lemmas.List.{get_or_default}
use Rattle.shared_book.specs.Ends.{opening, view}
use Rattle.shared_book.specs.declared.parcel.Parcel.{Parcel}
use Rattle.collector_workers.specs.Outcomes.{Becomes}
use Rattle.collector_workers.proofs.Told.{Comes, came}
use Rattle.collector_workers.proofs.worker.commit_one.Goals as goal

pub returns-clause-committed : goal.returns-clause-committed
returns-clause-committed g c d =
    let o = opening c.args.shared.now in
    let v = view c.args.worker.now.pass in
    let w = view c.commit-came.new.pass in
    let p : Parcel = c.index.result.now in
    let same : get_or c.args.worker.now.workload.parcels.items c.args.place d ≡ p = get_or_default c.args.worker.now.workload.parcels.items c.args.place d p c.requires.place ∙ sym c.index.ensures in
    let x = c.outcome_of-outcome.result in
    let k : Comes o v p x w = came o v w p x c.args.worker.now.workload.lines.items c.commit-came.new.lines.items c.commit-came.result c.requires.free c.commit-came.ensures.ends c.outcome_of-outcome.ensures in record {
      outcome = x;
      outcomes = c.push_reserved.ensures.items;
      parcels = refl;
      becomes = subst (λ (q : Parcel). Becomes o v.seen w.seen q x) (sym same) k.becomes;
      seen = k.seen;
      mine = k.mine;
      number = k.number;
      held = k.held;
    }
