use Rattle.std.proofs.Common.{arith, length, ◌+◌, ◌^◌}
use Rattle.std.proofs.lemmas.Grind.{common_steps}
use Rattle.link_lanes.proofs.CountLemmas.{up_to-more, up_to-passed}
use Rattle.link_lanes.proofs.rack.Rack.pass.Goals as goal

pub ask_all-fate-requires : goal.ask_all-fate-requires
ask_all-fate-requires g c = up_to-more (2 ^ 62 + length c.args.self.now.posts.items) _ _ (omega arith) c.requires.room

pub returns-clause-room : goal.returns-clause-room
returns-clause-room g c = up_to-passed _ (2 ^ 62 + length c.args.self.now.posts.items) _ c.args.tick _ _ c.ask_all-fate.ensures.after c.requires.room (grind (arith, common_steps))
