use Rattle.load_maker.proofs.MadeLane.{made_lane_fits}
use Rattle.load_maker.proofs.laws.made_lane.Goals as goal

pub returns : goal.returns
returns c = made_lane_fits
