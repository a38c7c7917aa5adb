use Rattle.twin_worlds.proofs.twins.pooled_twin.Goals as goal

pub returns : goal.returns
returns g c = c.pooled_twin_of_read.ensures c.args.text.now c.read_text.ensures
