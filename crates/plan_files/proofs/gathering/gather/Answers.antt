use Rattle.std.proofs.Common.{◌≡◌, ◌∙◌, ℕ, List, [], Ok, Err, ap, sym, subst, arith, length}
use Rattle.group_plan.specs.Plans.{last_tick}
use Rattle.link_lanes.specs.declared.row.LaneRow.{LaneRow}
use Rattle.pair_keys.specs.Keys.{Keys, keys_of}
use Rattle.plan_files.specs.Faults.{Fails}
use Rattle.plan_files.specs.Gathering.{Gathered, gather, gathered_by, nothing, take_entry}
use Rattle.plan_files.specs.declared.entry.PlanRow.{PlanRow}
use Rattle.plan_files.proofs.FormLemmas.{row_fails}
use Rattle.plan_files.proofs.GatherLemmas.{gather_end, gather_more, gather_refused}
use Rattle.plan_files.proofs.gathering.gather.Goals as goal

pub loop-entry-init : goal.loop-entry-init
loop-entry-init c =
    let last = last_tick c.args.plan.now in
    let rest = c.into_iter-entry-iterator.result.rest.items in
    let gives = c.into_iter-entry-iterator.ensures.into_iter_gives in
    let gathered : Keys → List LaneRow → Gathered = λ keys lanes. record { keys = keys; lanes = lanes; members = 0 } in
    let long = ap length gives.0 in
    record {
      number = omega arith;
      long = omega arith;
      few = omega arith;
      so_far = ap (λ (entries : List PlanRow). gather last c.args.fault c.args.first (nothing c.args.plan.now) entries) (sym gives.0)
          ∙ ap (λ (keys : Keys). gather last c.args.fault c.args.first (gathered keys []) rest) (sym c.in_ok-keys.ensures)
          ∙ ap (λ (lanes : List LaneRow). gather last c.args.fault c.args.first (gathered (keys_of c.in_ok-keys.keys) lanes) rest) (sym c.new-2.ensures.items);
    }

pub returns-in-Err-clause-refused : goal.returns-in-Err-clause-refused
returns-in-Err-clause-refused c =
    let before = gathered_by c.loop-entry.gathering in
    let all = gather (last_tick c.args.plan.now) c.args.fault c.args.first (nothing c.args.plan.now) c.args.entries.items in
    let taken = take_entry c.last_tick-last_tick.result c.args.fault before c.in-Some.entry in
    subst (λ failed. Fails all failed) (sym c.in_row.ensures)
    (row_fails c.loop-entry.number taken all c.in-Err.failed
    (λ what (wrong : taken ≡ Err what).
    c.loop-entry.invariant.so_far
    ∙ gather_refused (last_tick c.args.plan.now) c.args.fault c.loop-entry.number before c.loop-entry.entry-iterator.rest.items c.next.new.self.rest.items c.in-Some.entry what c.in-Some.ensures.steps.0
    (ap (λ (last : ℕ). take_entry last c.args.fault before c.in-Some.entry) (sym c.last_tick-last_tick.ensures) ∙ wrong))
    c.in-Err.ensures.taken)

pub loop-entry-preserved : goal.loop-entry-preserved
loop-entry-preserved c =
    let before = gathered_by c.loop-entry.gathering in
    let steps = c.in-Some.ensures.steps in
    let long = ap length steps.0 in
    let taken : take_entry c.last_tick-last_tick.result c.args.fault before c.in-Some.entry ≡ Ok (gathered_by c.take.new.self) = c.in_default.ensures.taken in
    record {
      number = omega arith;
      long = omega arith;
      few = omega arith;
      so_far = c.loop-entry.invariant.so_far
          ∙ gather_more (last_tick c.args.plan.now) c.args.fault c.loop-entry.number before (gathered_by c.take.new.self) c.loop-entry.entry-iterator.rest.items c.next.new.self.rest.items c.in-Some.entry steps.0
          (ap (λ (last : ℕ). take_entry last c.args.fault before c.in-Some.entry) (sym c.last_tick-last_tick.ensures) ∙ taken);
    }

pub returns-clause-whole : goal.returns-clause-whole
returns-clause-whole c =
    let steps = c.in-None.ensures.steps in
    c.loop-entry.invariant.so_far
    ∙ gather_end (last_tick c.args.plan.now) c.args.fault c.loop-entry.number (gathered_by c.loop-entry.gathering) c.loop-entry.entry-iterator.rest.items (omega arith)
