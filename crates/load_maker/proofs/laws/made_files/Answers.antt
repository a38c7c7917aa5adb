use Rattle.load_maker.proofs.MadeReads.{made_files}
use Rattle.load_maker.proofs.laws.made_files.Goals as goal

pub returns : goal.returns
returns c = made_files
