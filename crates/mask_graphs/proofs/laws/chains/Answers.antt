use Rattle.std.proofs.Common.{◌≡◌, false}
use Rattle.std.proofs.lemmas.List.Elements.{recursion_from_All}
use Rattle.mask_graphs.specs.Chains.{chain_steps}
use Rattle.mask_graphs.specs.Steps.{stays}
use Rattle.mask_graphs.proofs.ChainSteps.{chains}
use Rattle.mask_graphs.proofs.laws.chains.Goals as goal

pub returns : goal.returns
returns c = λ graph chain d i j once on. chains graph chain d i j once (recursion_from_All (λ s. stays graph s ≡ false) (chain_steps chain) on)
