use Rattle.group_plan.proofs.TableLemmas.{HasIt, has_it}
use Rattle.group_plan.proofs.table.Presence.has.Goals as goal

value : (c : goal.After-index) → HasIt c.args.self.now c.args.group c.args.round c.args.meter c.index.result.now
value c =
    has_it c.args.self.now c.self.inside.plan c.self.inside.present.items c.self.invariant c.self.view_is c.args.group c.args.round c.args.meter c.index.result.now c.place_at.result c.requires c.place_at.ensures.at c.index.ensures

pub returns-clause-present : goal.returns-clause-present
returns-clause-present c = (value c).is

pub returns-clause-member : goal.returns-clause-member
returns-clause-member c = (value c).member
