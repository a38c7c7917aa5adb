use Rattle.std.proofs.Common.{rules}
use Rattle.std.specs.Prelude.{nat_le}
use Rattle.std.proofs.lemmas.Fn.{filter_same}
use Rattle.link_lanes.specs.Lanes.{lasts}
use Rattle.link_lanes.proofs.CountLemmas.{up_to-retired}
use Rattle.link_lanes.proofs.ListLemmas.{map-filtered}
use Rattle.link_lanes.proofs.rack.Rack.retire.Goals as goal

pub returns-clause-lanes : goal.returns-clause-lanes
returns-clause-lanes g c =
    map-filtered _ (lasts c.args.tick) c.args.self.now.hung.items _ (filter_same _ (λ h. nat_le c.args.tick h.to) _ (λ x b f' k. search rules) _ _ c.retain.ensures.filtered)

pub returns-clause-room : goal.returns-clause-room
returns-clause-room g c = λ room. up_to-retired _ _ (lasts c.args.tick) _ _ (returns-clause-lanes g c) room
