use Rattle.std.proofs.Common.{◌≡◌, ℕ, true, List, sym, ap, subst, ◌∙◌}
use Rattle.std.specs.Prelude.{nat_lt}
use Rattle.std.specs.List.{list_all}
use Rattle.missing_round.specs.Words.{word}
use Rattle.missing_round.specs.Sets.{is_member}
use Rattle.group_plan.specs.Plans.{size}
use Rattle.group_plan.specs.Tables.{reading}
use Rattle.event_schedule.specs.Tables.{plain_sum}
use Rattle.group_book.specs.Books.{shape_of, past}
use Rattle.sparse_masks.specs.Trees.{component}
use Rattle.sparse_masks.specs.Offsets.{ring_graph}
use Rattle.sparse_masks.specs.SideParts.{one_sum}
use Rattle.sparse_masks.proofs.OpenedLemmas.{graph-is}
use Rattle.sparse_masks.proofs.OrderLemmas.{before-place}
use Rattle.sparse_masks.proofs.RoundLemmas.{component-below}
use Rattle.sparse_masks.proofs.SumLemmas.{sum-exact}
use Rattle.sparse_masks.proofs.sides.Sides.check_meter.Goals as goal

pub sum_of_readings-first-requires-clause-meters : goal.sum_of_readings-first-requires-clause-meters
sum_of_readings-first-requires-clause-meters c =
    let at = c.args.self.now in
    let n : ℕ = size at.first.now.plan.groups at.group in
    let long : n ≡ c.args.ring.now.meters = ap (λ p. size p.groups at.group) c.requires.sides.plans.first ∙ sym c.requires.ring.meters in
    subst (λ (l : List ℕ). list_all (λ i. nat_lt i n) l ≡ true) (sym c.requires.members) (component-below c.args.ring.now c.requires.ring.ring n c.args.meter long)

pub sum_of_readings-second-requires-clause-meters : goal.sum_of_readings-second-requires-clause-meters
sum_of_readings-second-requires-clause-meters c =
    let at = c.args.self.now in
    let n : ℕ = size at.second.now.plan.groups at.group in
    let long : n ≡ c.args.ring.now.meters = ap (λ p. size p.groups at.group) c.requires.sides.plans.second ∙ sym c.requires.ring.meters in
    subst (λ (l : List ℕ). list_all (λ i. nat_lt i n) l ≡ true) (sym c.requires.members) (component-below c.args.ring.now c.requires.ring.ring n c.args.meter long)

pub returns-then-first-second : goal.returns-then-first-second
returns-then-first-second c =
    let at = c.args.self.now in
    let s = shape_of at.book.now in
    let p = past at.book.now in
    let same = graph-is at.width s at.group at.round p c.args.ring.now c.requires.ring in
    let members : c.args.members ≡ component (ring_graph at.width s at.group at.round p) c.args.meter = c.requires.members ∙ ap (λ graph. component graph c.args.meter) same in
    let one = c.sum_of_readings-first.ensures in
    let two = c.sum_of_readings-second.ensures in
    record {
      other = record {
        announced = c.requires.ring.announced;
        survivor = ap (is_member c.args.meter) (sym c.requires.ring.survivors) ∙ sym c.has.ensures ∙ c.if-not-has.false;
        opened =
            ap (list_all (ring_graph at.width s at.group at.round p).answered) (sym members)
            ∙ ap (λ graph. list_all graph.answered c.args.members) (sym same) ∙ sym c.is_opened.ensures ∙ c.if-not-is_opened.false;
        first = sum-exact at.width s at.first.now.plan at.first.now.table p at.group at.round c.args.meter c.sum_of_readings-first.result (ap (λ plan. plan.groups) (sym c.requires.sides.plans.first)) one.limits one.table
            (one.sum ∙ ap (λ l. word (plain_sum (reading at.first.now.table) at.group at.round l)) members);
        second = sum-exact at.width s at.second.now.plan at.second.now.table p at.group at.round c.args.meter c.sum_of_readings-second.result (ap (λ plan. plan.groups) (sym c.requires.sides.plans.second)) two.limits two.table
            (two.sum ∙ ap (λ l. word (plain_sum (reading at.second.now.table) at.group at.round l)) members);
        differ = c.if-first-second.true;
      };
      before = c.requires.before;
    }

pub returns : goal.returns
returns c =
    let at = c.args.self.now in
    let s = shape_of at.book.now in
    let p = past at.book.now in
    let same = graph-is at.width s at.group at.round p c.args.ring.now c.requires.ring in
    let members : c.args.members ≡ component (ring_graph at.width s at.group at.round p) c.args.meter = c.requires.members ∙ ap (λ graph. component graph c.args.meter) same in
    let one = c.sum_of_readings-first.ensures in
    let two = c.sum_of_readings-second.ensures in
    let first = sum-exact at.width s at.first.now.plan at.first.now.table p at.group at.round c.args.meter c.sum_of_readings-first.result (ap (λ plan. plan.groups) (sym c.requires.sides.plans.first)) one.limits one.table
    (one.sum ∙ ap (λ l. word (plain_sum (reading at.first.now.table) at.group at.round l)) members) in
    let second = sum-exact at.width s at.second.now.plan at.second.now.table p at.group at.round c.args.meter c.sum_of_readings-second.result (ap (λ plan. plan.groups) (sym c.requires.sides.plans.second)) two.limits two.table
    (two.sum ∙ ap (λ l. word (plain_sum (reading at.second.now.table) at.group at.round l)) members) in
    before-place (one_sum at) at.group at.round c.args.meter c.requires.before (λ announced within opened. sym first ∙ c.if-first-second.false ∙ second)
