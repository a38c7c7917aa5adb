use Rattle.group_plan.proofs.TableLemmas.{Got, got}
use Rattle.group_plan.proofs.table.Readings.get.Goals as goal

value : (c : goal.After-result-1) → Got c.args.self.now c.args.group c.args.round c.args.meter c.index.result.now
value c =
    got c.args.self.now c.self.inside.plan c.self.inside.values.items c.self.invariant c.self.view_is c.args.group c.args.round c.args.meter c.index.result.now c.place_at.result c.requires c.place_at.ensures.at c.index.ensures

pub returns-clause-reading : goal.returns-clause-reading
returns-clause-reading c = (value c).is

pub returns-clause-small : goal.returns-clause-small
returns-clause-small c = (value c).small

pub returns-clause-member : goal.returns-clause-member
returns-clause-member c = (value c).member
