use Rattle.apart_courses.proofs.AgainLemmas.{again_on_disk}
use Rattle.apart_courses.proofs.laws.said_again.Goals as goal

pub returns : goal.returns
returns c = again_on_disk
