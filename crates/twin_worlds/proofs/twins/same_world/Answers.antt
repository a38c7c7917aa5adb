use Rattle.twin_worlds.proofs.twins.same_world.Goals as goal

pub returns : goal.returns
returns g c = c.same_world_of_read.ensures.ends c.args.text.now c.read_text.ensures
