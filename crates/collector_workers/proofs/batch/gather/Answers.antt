use Rattle.std.proofs.Common.{◌≡◌, ℕ, List, length, subst, sym, ap, ◌∙◌, arith}
use Rattle.shared_book.specs.Ends.{view}
use Rattle.collector_workers.specs.declared.worker.Worker.{Worker}
use Rattle.collector_workers.specs.declared.workload.Workload.{Workload}
use Rattle.collector_workers.specs.Gathering.{AllWork, JoinsAll, SplitsAll}
use Rattle.collector_workers.proofs.Gathered.{are_whole, gathered, written_back}
use Rattle.collector_workers.proofs.batch.gather.Goals as goal

pub merge-requires-clause-whole : goal.merge-requires-clause-whole
merge-requires-clause-whole g c =
    let n = c.args.crew.now.workers.count in
    let v = view c.args.first.now in
    let shared = c.args.shared.now in
    let batch = c.args.batch.now in
    let workloads : List Workload = c.in_ok-workloads.workloads.items in
    let workers0 : List Worker = c.split_all.new.workers.items in
    let workers1 : List Worker = c.as_slice.result.now in
    let lent : c.as_mut_slice.result.now ≡ workers0 = c.as_mut_slice.ensures.value in
    let many : length c.work_all.new.workers ≡ length workers0 = c.work_all.ensures.0 ∙ ap length lent in
    let back : c.work_all.new.workers ≡ workers1 = sym (written_back c.work_all.new.workers workers0 c.split_all.new.workers.len (c.split_all.new.workers.ok.0 ∙ sym many) many) ∙ sym c.as_slice.ensures.value in
    let work : AllWork shared workers0 workers1 = subst (λ (x : List Worker × List Worker). AllWork shared x.0 x.1) (λ i. (lent i, back i)) c.work_all.ensures in
    are_whole shared v batch n workloads workers0 workers1 c.in_ok-workloads.ensures.0 c.in_ok-workloads.ensures.1 c.split_all.ensures.workers work

pub returns-clause-ends : goal.returns-clause-ends
returns-clause-ends g c =
    let n = c.args.crew.now.workers.count in
    let v = view c.args.first.now in
    let shared = c.args.shared.now in
    let batch = c.args.batch.now in
    let w1 = view c.split_all.new.first in
    let w2 = view c.join_all.new.first in
    let workloads : List Workload = c.in_ok-workloads.workloads.items in
    let workers0 : List Worker = c.split_all.new.workers.items in
    let workers1 : List Worker = c.as_slice.result.now in
    let lent : c.as_mut_slice.result.now ≡ workers0 = c.as_mut_slice.ensures.value in
    let many : length c.work_all.new.workers ≡ length workers0 = c.work_all.ensures.0 ∙ ap length lent in
    let back : c.work_all.new.workers ≡ workers1 = sym (written_back c.work_all.new.workers workers0 c.split_all.new.workers.len (c.split_all.new.workers.ok.0 ∙ sym many) many) ∙ sym c.as_slice.ensures.value in
    let work : AllWork shared workers0 workers1 = subst (λ (x : List Worker × List Worker). AllWork shared x.0 x.1) (λ i. (lent i, back i)) c.work_all.ensures in
    let joins : JoinsAll w1 workers1 w2 = subst (λ (ws : List Worker). JoinsAll w1 ws w2) (sym c.as_slice.ensures.value) c.join_all.ensures.joined in
    let split : SplitsAll v n w1 = subst (λ (m : ℕ). SplitsAll v m w1) c.in_ok-workloads.ensures.0 c.split_all.ensures.first in
    let first = c.requires.first in
    let some = c.args.crew.now.workers.within.0 in
    gathered shared v batch n workloads workers0 workers1 c.in_ok-workloads.ensures.0 c.in_ok-workloads.ensures.1 c.split_all.ensures.workers work w1 w2 c.merge.new.outcomes.items (omega arith) first.1 first.2 split c.merge.ensures joins
