use mathlib.Core.List.{reverse}
use Rattle.lying_head_end.proofs.OpenLemmas.{honest-agree}
use Rattle.lying_head_end.proofs.laws.honest.Goals as goal

pub returns : goal.returns
returns c = λ pool groups x y events. honest-agree pool groups x y (reverse events)
