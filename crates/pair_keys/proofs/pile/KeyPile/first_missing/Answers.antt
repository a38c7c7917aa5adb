use Rattle.std.proofs.Common.{◌<◌, ◌≤◌, refl, ap, length, arith}
use Rattle.std.proofs.lemmas.List.{length-map}
use Rattle.group_plan.specs.NewPlans.{stated}
use Rattle.pair_keys.proofs.PileLemmas.{read_at}
use Rattle.pair_keys.proofs.MissingLemmas.{group_within, few_owns, few_rows, are_rows, one_more_whole, first_missing, is_complete, all_groups}
use Rattle.pair_keys.proofs.pile.KeyPile.first_missing.Goals as goal

pub missing_in-requires-clause-rows : goal.missing_in-requires-clause-rows
missing_in-requires-clause-rows c =
    let within : c.loop-at.at < length c.args.self.now.groups.items = group_within c.args.self.now.plan c.args.self.now.groups.items c.groups-groups.result.now _ c.loop-at.at c.args.self.now.keeps c.groups-groups.ensures.groups refl c.loop-at-test.true in
    are_rows c.args.self.now.plan c.args.self.now.groups.items c.loop-at.at c.index.result.now c.args.self.now.keeps (read_at _ _ c.index.result.now within c.index.ensures)

pub missing_in-requires-clause-few : goal.missing_in-requires-clause-few
missing_in-requires-clause-few c =
    let within : c.loop-at.at < length c.args.self.now.groups.items = group_within c.args.self.now.plan c.args.self.now.groups.items c.groups-groups.result.now _ c.loop-at.at c.args.self.now.keeps c.groups-groups.ensures.groups refl c.loop-at-test.true in
    few_owns c.args.self.now.plan c.args.self.now.groups.items c.loop-at.at c.index.result.now c.args.self.now.keeps c.groups-groups.ensures.limits (read_at _ _ c.index.result.now within c.index.ensures)

pub missing_in-requires-clause-few_rows : goal.missing_in-requires-clause-few_rows
missing_in-requires-clause-few_rows c =
    let within : c.loop-at.at < length c.args.self.now.groups.items = group_within c.args.self.now.plan c.args.self.now.groups.items c.groups-groups.result.now _ c.loop-at.at c.args.self.now.keeps c.groups-groups.ensures.groups refl c.loop-at-test.true in
    few_rows c.args.self.now.plan c.args.self.now.groups.items c.loop-at.at c.index.result.now c.args.self.now.keeps c.groups-groups.ensures.limits (read_at _ _ c.index.result.now within c.index.ensures)

pub returns-in-Some : goal.returns-in-Some
returns-in-Some c =
    let within : c.loop-at.at < length c.args.self.now.groups.items = group_within c.args.self.now.plan c.args.self.now.groups.items c.groups-groups.result.now _ c.loop-at.at c.args.self.now.keeps c.groups-groups.ensures.groups refl c.loop-at-test.true in
    first_missing c.args.self.now.plan c.args.self.now.groups.items c.loop-at.at c.index.result.now c.in-Some.id c.args.self.now.keeps c.loop-at.invariant (read_at _ _ c.index.result.now within c.index.ensures) c.in-Some.ensures

pub loop-at-preserved : goal.loop-at-preserved
loop-at-preserved c =
    let within : c.loop-at.at < length c.args.self.now.groups.items = group_within c.args.self.now.plan c.args.self.now.groups.items c.groups-groups.result.now _ c.loop-at.at c.args.self.now.keeps c.groups-groups.ensures.groups refl c.loop-at-test.true in
    one_more_whole c.args.self.now.groups.items c.loop-at.at c.index.result.now c.loop-at.invariant within (read_at _ _ c.index.result.now within c.index.ensures) c.in-None.ensures

pub returns : goal.returns
returns c =
    let past : length c.args.self.now.groups.items ≤ c.loop-at.at =
    omega (arith, c.loop-at-test.false, ap length c.groups-groups.ensures.groups, length-map c.args.self.now.plan.groups stated, c.args.self.now.keeps.long) in
    is_complete c.args.self.now.plan c.args.self.now.groups.items c.args.self.now.keeps (all_groups c.args.self.now.groups.items c.loop-at.at c.loop-at.invariant past)
