use Rattle.std.proofs.Common.{◌≡◌, ◌+◌, ◌∙◌, ℕ, sym, ap, length, arith}
use Rattle.std.specs.List.{count_by, sum_by, range_with_len}
use Rattle.std.proofs.lemmas.List.{length-map}
use Rattle.group_plan.specs.Plans.{PlanView}
use Rattle.group_plan.specs.NewPlans.{stated}
use Rattle.audit_check.specs.OpenedParts.{lacks_by}
use Rattle.audit_check.proofs.OpenedLemmas.{sum_more, all_before}
use Rattle.audit_check.proofs.opened.opened_rounds.Goals as goal

pub loop-group-preserved : goal.loop-group-preserved
loop-group-preserved c =
    let b = c.args.rounds.now in
    let one : ℕ → ℕ = λ g. count_by (lacks_by b g) (range_with_len 0 b.presence.plan.rounds) in
    let is = c.count_group.ensures.few in
    let before = c.loop-group.invariant.few in
    record {
      without_total = c.count_group.ensures.without_total ∙ ap (λ n. n + one c.loop-group.group) c.loop-group.invariant.without_total ∙ sym (sum_more one c.loop-group.group);
      few = omega (arith, is, before);
      fewest = c.count_group.ensures.fewest;
    }

pub returns : goal.returns
returns c =
    let b = c.args.rounds.now in
    let one : ℕ → ℕ = λ g. count_by (lacks_by b g) (range_with_len 0 b.presence.plan.rounds) in
    let long = ap length c.groups-group-end.ensures.groups ∙ length-map c.plan.result.now.groups stated ∙ ap (λ (p : PlanView). length p.groups) c.plan.ensures in
    let all : c.loop-group.group ≡ length b.presence.plan.groups = omega (arith, long) in
    record {
      without_total = c.loop-group.invariant.without_total ∙ ap (λ n. sum_by one (range_with_len 0 n)) all;
      fewest = all_before b c.loop-group.group c.loop-group.opened.fewest (omega (arith, all)) c.loop-group.invariant.fewest;
    }
