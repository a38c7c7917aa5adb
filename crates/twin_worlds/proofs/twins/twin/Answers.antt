use Rattle.twin_worlds.proofs.twins.twin.Goals as goal

pub returns : goal.returns
returns g c = c.twin_of_read.ensures c.args.text.now c.read_text.ensures
