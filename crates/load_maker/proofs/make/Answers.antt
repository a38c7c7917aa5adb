use Rattle.load_maker.proofs.MadeReads.{made_files}
use Rattle.load_maker.proofs.make.Goals as goal

pub returns-clause-read : goal.returns-clause-read
returns-clause-read c =
    let same = c.in-Some.ensures in
    let within = rw (same.0, same.1, same.2) at c.in-Some.size.within in
    made_files c.args.seed c.args.groups c.args.meters c.args.rounds c.ranges.seed.fits within
