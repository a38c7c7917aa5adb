use Rattle.std.proofs.Common.{◌≡◌, ◌++◌, ◌∙◌, ap, length, arith}
use Rattle.std.specs.List.{flat_map, range_with_len}
use Rattle.std.proofs.lemmas.List.{length-map}
use Rattle.group_plan.specs.Plans.{PlanView}
use Rattle.group_plan.specs.NewPlans.{stated}
use Rattle.head_end.specs.Lines.{end_lines}
use Rattle.head_end.proofs.LineLemmas.{lists_more}
use Rattle.head_end.proofs.head.HeadEnd.add_ended.Goals as goal

pub loop-group-preserved : goal.loop-group-preserved
loop-group-preserved c = λ journal after.
    lists_more (end_lines c.args.self.now.plan journal c.args.round) c.loop-group.group c.args.lines.now.items c.loop-group.lines.items c.add_end.new.lines.items (c.loop-group.invariant journal after) (c.in_ok-add_end.ensures journal after)

pub returns : goal.returns
returns c = λ journal after.
    let long = ap length c.groups-group-end.ensures.groups ∙ length-map c.plan.result.now.groups stated ∙ ap (λ (p : PlanView). length p.groups) c.plan.ensures in
    let all : c.loop-group.group ≡ length c.args.self.now.plan.groups = omega (arith, long, c.loop-group-test.false, c.loop-group.auto.group-end) in
    c.loop-group.invariant journal after ∙ ap (λ n. c.args.lines.now.items ++ flat_map (end_lines c.args.self.now.plan journal c.args.round) (range_with_len 0 n)) all
