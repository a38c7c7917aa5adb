use Rattle.std.proofs.Common.{◌≡◌, ◌∙◌, ◌+◌, Ok, Err, sym, subst, rules}
use Rattle.pair_keys.specs.Keys.{keys_of}
use Rattle.plan_files.specs.Gathering.{TakesEntry, gathered_by, member_fault, take_entry}
use Rattle.plan_files.specs.declared.entry.PlanRow.{PlanRow}
use Rattle.plan_files.specs.declared.fault.Failed.TheVariants.{Fault}
use Rattle.plan_files.proofs.GatherLemmas.{member_refused, own_refused, pair_refused, took_lane, took_member, took_own, took_pair}
use Rattle.plan_files.proofs.gathering.Gathering.take.Goals as goal

pub returns-in_ok-put_own-in-Own-clause-taken : goal.returns-in_ok-put_own-in-Own-clause-taken
returns-in_ok-put_own-in-Own-clause-taken c =
    let before = gathered_by c.args.self.now in
    subst (λ (e : PlanRow). take_entry c.args.last_tick c.args.fault before e ≡ Ok (record before { keys = keys_of c.put_own.new.keys })) (sym c.in-Own.is)
    (took_own c.args.last_tick c.args.fault before c.in-Own.group c.in-Own.meter c.in-Own.key (keys_of c.put_own.new.keys) c.in_ok-put_own-in-Own.ensures)

pub returns-in_err-put_own-in-Own-clause-taken : goal.returns-in_err-put_own-in-Own-clause-taken
returns-in_err-put_own-in-Own-clause-taken c =
    let before = gathered_by c.args.self.now in
    let what = c.in_err-put_own-in-Own.field-0.0 in
    let refused : take_entry c.args.last_tick c.args.fault before c.args.entry ≡ Err what =
    subst (λ (e : PlanRow). take_entry c.args.last_tick c.args.fault before e ≡ Err what) (sym c.in-Own.is)
    (own_refused c.args.last_tick c.args.fault before c.in-Own.group c.in-Own.meter c.in-Own.key what c.in_err-put_own-in-Own.ensures) in
    let answered : Err (Fault what) ≡ c.from_residual.result = search rules in
    subst (λ r. TakesEntry c.args.last_tick c.args.fault before c.args.entry r (record before { keys = keys_of c.put_own.new.keys })) answered refused

pub returns-in_ok-put_pair-in-Pair-clause-taken : goal.returns-in_ok-put_pair-in-Pair-clause-taken
returns-in_ok-put_pair-in-Pair-clause-taken c =
    let before = gathered_by c.args.self.now in
    subst (λ (e : PlanRow). take_entry c.args.last_tick c.args.fault before e ≡ Ok (record before { keys = keys_of c.put_pair.new.keys })) (sym c.in-Pair.is)
    (took_pair c.args.last_tick c.args.fault before c.in-Pair.group c.in-Pair.low c.in-Pair.high c.in-Pair.key (keys_of c.put_pair.new.keys) c.in_ok-put_pair-in-Pair.ensures)

pub returns-in_err-put_pair-in-Pair-clause-taken : goal.returns-in_err-put_pair-in-Pair-clause-taken
returns-in_err-put_pair-in-Pair-clause-taken c =
    let before = gathered_by c.args.self.now in
    let what = c.in_err-put_pair-in-Pair.field-0.0 in
    let refused : take_entry c.args.last_tick c.args.fault before c.args.entry ≡ Err what =
    subst (λ (e : PlanRow). take_entry c.args.last_tick c.args.fault before e ≡ Err what) (sym c.in-Pair.is)
    (pair_refused c.args.last_tick c.args.fault before c.in-Pair.group c.in-Pair.low c.in-Pair.high c.in-Pair.key what c.in_err-put_pair-in-Pair.ensures) in
    let answered : Err (Fault what) ≡ c.from_residual-in_err-put_pair-in-Pair.result = search rules in
    subst (λ r. TakesEntry c.args.last_tick c.args.fault before c.args.entry r (record before { keys = keys_of c.put_pair.new.keys })) answered refused

pub returns-in-Lane-clause-taken : goal.returns-in-Lane-clause-taken
returns-in-Lane-clause-taken c =
    let before = gathered_by c.args.self.now in
    subst (λ (e : PlanRow). TakesEntry c.args.last_tick c.args.fault before e c.hang_lane.result (record before { lanes = c.hang_lane.new.lanes.items })) (sym c.in-Lane.is)
    (took_lane c.args.last_tick c.args.fault before c.in-Lane.lane c.hang_lane.result c.hang_lane.new.lanes.items c.hang_lane.ensures)

pub returns-in_err-check_member-in-Member-clause-taken : goal.returns-in_err-check_member-in-Member-clause-taken
returns-in_err-check_member-in-Member-clause-taken c =
    let before = gathered_by c.args.self.now in
    let what = c.in_err-check_member-in-Member.field-0.0 in
    let wrong : member_fault c.args.fault before.members ≡ Err what = sym c.check_member.ensures ∙ c.in_err-check_member-in-Member.was in
    let refused : take_entry c.args.last_tick c.args.fault before c.args.entry ≡ Err what =
    subst (λ (e : PlanRow). take_entry c.args.last_tick c.args.fault before e ≡ Err what) (sym c.in-Member.is)
    (member_refused c.args.last_tick c.args.fault before c.in-Member.field-0 what wrong) in
    let answered : Err (Fault what) ≡ c.from_residual-in_err-check_member-in-Member.result = search rules in
    subst (λ r. TakesEntry c.args.last_tick c.args.fault before c.args.entry r before) answered refused

pub returns-in_ok-check_member-in-Member-clause-taken : goal.returns-in_ok-check_member-in-Member-clause-taken
returns-in_ok-check_member-in-Member-clause-taken c =
    let before = gathered_by c.args.self.now in
    let right : member_fault c.args.fault before.members ≡ Ok tt = sym c.check_member.ensures ∙ c.in_ok-check_member-in-Member.was in
    subst (λ (e : PlanRow). take_entry c.args.last_tick c.args.fault before e ≡ Ok (record before { members = before.members + 1 })) (sym c.in-Member.is)
    (took_member c.args.last_tick c.args.fault before c.in-Member.field-0 right)
