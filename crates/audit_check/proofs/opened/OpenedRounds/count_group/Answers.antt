use Rattle.std.proofs.Common.{◌≡◌, ◌+◌, ◌<◌, ◌∙◌, ap, subst, arith}
use Rattle.std.specs.List.{count_by, range_with_len}
use Rattle.group_plan.specs.Plans.{IsWithinLimits, PlanView}
use Rattle.audit_check.specs.OpenedParts.{lacks_by}
use Rattle.audit_check.proofs.OpenedLemmas.{count_few, round_counted, group_counted}
use Rattle.audit_check.proofs.opened.OpenedRounds.count_group.Goals as goal

pub count-requires-clause-few : goal.count-requires-clause-few
count-requires-clause-few c =
    let b = c.args.rounds.now in
    let limits : IsWithinLimits b.presence.plan = subst IsWithinLimits c.plan.ensures c.rounds-round-end.ensures.limits in
    let rounds = c.rounds-round-end.ensures.rounds ∙ ap (λ (p : PlanView). p.rounds) c.plan.ensures in
    let most = limits.rounds in
    let groups = limits.groups in
    let group = c.requires.group in
    let before = c.requires.few in
    let test = c.loop-round-test.true in
    let here = c.loop-round.invariant.without_total in
    let few = count_few (lacks_by b c.args.group) c.loop-round.round in
    omega (arith, rounds, most, groups, group, before, test, here, few)

pub loop-round-preserved : goal.loop-round-preserved
loop-round-preserved c =
    let b = c.args.rounds.now in
    let rounds = c.rounds-round-end.ensures.rounds ∙ ap (λ (p : PlanView). p.rounds) c.plan.ensures in
    let test = c.loop-round-test.true in
    let inside : c.loop-round.round < b.presence.plan.rounds = omega (arith, rounds, test) in
    let both = round_counted b c.args.group c.loop-round.round c.args.self.now.without_total c.loop-round.self c.count.new.self c.requires.group inside
    c.loop-round.invariant.without_total c.loop-round.invariant.fewest c.count.ensures
    in
    record { without_total = both.0; fewest = both.1 }

pub returns : goal.returns
returns c =
    let b = c.args.rounds.now in
    let limits : IsWithinLimits b.presence.plan = subst IsWithinLimits c.plan.ensures c.rounds-round-end.ensures.limits in
    let rounds = c.rounds-round-end.ensures.rounds ∙ ap (λ (p : PlanView). p.rounds) c.plan.ensures in
    let all : c.loop-round.round ≡ b.presence.plan.rounds = omega (arith, rounds) in
    let most = limits.rounds in
    let here = c.loop-round.invariant.without_total in
    let few = count_few (lacks_by b c.args.group) c.loop-round.round in
    record {
      without_total = here ∙ ap (λ n. c.args.self.now.without_total + count_by (lacks_by b c.args.group) (range_with_len 0 n)) all;
      few = omega (arith, all, most, here, few);
      fewest = group_counted b c.args.group c.loop-round.round c.loop-round.self.fewest (omega (arith, all)) c.loop-round.invariant.fewest;
    }
