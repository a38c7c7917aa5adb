use Rattle.std.proofs.Common.{ℕ, ◌+◌, IsTrue, nat_lt, List, ◌∷◌, length, subst}
use Rattle.std.specs.List.{list_all}
use Rattle.std.proofs.lemmas.Bool.{and_parts}
use Rattle.group_plan.specs.Plans.{is_place}
use Rattle.blind_core.specs.Blind.{are_places}
use Rattle.blind_core.proofs.ColumnLemmas.{columns_put, put_ends}
use Rattle.blind_core.proofs.rounds.put_owns.Goals as goal

pub loop-meter-preserved : goal.loop-meter-preserved
loop-meter-preserved g c =
    let i = c.in-Some.meter in
    let rest = c.next.new.self in
    let plan = g.M.Masks.plan c.args.masks.now in
    let places : IsTrue (are_places plan c.args.group (c.args.first + 7) (i ∷ rest)) = subst (λ (l : List ℕ). IsTrue (are_places plan c.args.group (c.args.first + 7) l)) c.in-Some.ensures.steps c.loop-meter.invariant.places in
    let within : IsTrue (list_all (λ k. nat_lt k (length c.args.sums.now)) (i ∷ rest)) = subst (λ (l : List ℕ). IsTrue (list_all (λ k. nat_lt k (length c.args.sums.now)) l)) c.in-Some.ensures.steps c.loop-meter.invariant.within in
    record {
      places = (and_parts (is_place plan c.args.group (c.args.first + 7) i) (are_places plan c.args.group (c.args.first + 7) rest) places).1;
      within = (and_parts (nat_lt i (length c.args.sums.now)) (list_all (λ k. nat_lt k (length c.args.sums.now)) rest) within).1;
      put = columns_put (λ j. (g.M.Masks.table c.args.masks.now).own c.args.group (c.args.first + j)) c.args.members.now c.loop-meter.meter-iterator c.args.sums.now c.loop-meter.sums i rest c.own_rounds.result
          c.loop-meter.invariant.put c.in-Some.ensures.steps c.own_rounds.ensures;
    }

pub returns : goal.returns
returns g c j h = put_ends _ _ _ _ _ (c.loop-meter.invariant.put j h) c.in-None.ensures.steps.0
