use Rattle.ideal_masks.proofs.TwoWorlds.{unshift-shift, shift-unshift}
use Rattle.apart_isolation.proofs.LineLemmas.{isolated}
use Rattle.apart_isolation.proofs.laws.courses_are_isolated.Goals as goal

pub returns-clause-isolated : goal.returns-clause-isolated
returns-clause-isolated c = isolated

pub returns-clause-undone : goal.returns-clause-undone
returns-clause-undone c = λ o m fits. (unshift-shift o m fits, shift-unshift o m fits)
