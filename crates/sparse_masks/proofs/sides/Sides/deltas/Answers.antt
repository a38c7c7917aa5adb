use Rattle.std.proofs.Common.{◌≡◌, ◌++◌, ◌∷◌, [], ℕ, map, sym, ap, ◌∙◌, arith}
use Rattle.std.specs.List.{range_with_len}
use Rattle.group_plan.specs.Plans.{size}
use Rattle.sparse_masks.specs.SideParts.{deltas_of, size_of}
use Rattle.sparse_masks.proofs.MoveLemmas.{deltas-are}
use Rattle.sparse_masks.proofs.RoundLemmas.{table_long, table_more}
use Rattle.sparse_masks.proofs.sides.Sides.deltas.Goals as goal

pub loop-meter-preserved : goal.loop-meter-preserved
loop-meter-preserved c =
    let f : ℕ → ℕ = deltas_of c.args.self.now in
    c.in_ok-push.ensures.items ∙ ap (λ (d : ℕ). c.loop-meter.deltas.items ++ d ∷ []) c.delta.ensures ∙ table_more f c.loop-meter.meter c.loop-meter.deltas.items c.loop-meter.invariant

pub returns : goal.returns
returns c =
    let at = c.args.self.now in
    let meters = c.meters-meter-end.ensures.meters ∙ ap (λ p. size p.groups at.group) c.plan.ensures in
    let test = c.loop-meter-test.false in
    let end = c.loop-meter.auto.meter-end in
    let all : c.loop-meter.meter ≡ size_of at = omega (arith, meters, test, end) in
    let is = c.loop-meter.invariant ∙ ap (λ n. map (deltas_of at) (range_with_len 0 n)) all in
    record {
      long = table_long (deltas_of at) (size_of at) c.loop-meter.deltas.items is;
      are = deltas-are at.first.now at.second.now at.group at.round (size_of at) c.loop-meter.deltas.items c.plan-first.ensures.table c.plan-second.ensures.table
          (sym (ap (λ p. size p.groups at.group) c.requires.plans.first)) (sym (ap (λ p. size p.groups at.group) c.requires.plans.second)) is;
    }
