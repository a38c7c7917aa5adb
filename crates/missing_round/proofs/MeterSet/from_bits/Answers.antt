use Rattle.std.proofs.Common.{◌∙◌, sym, ap, rules, refl, slice_get}
use Rattle.missing_round.specs.Sets.{less, members}
use Rattle.missing_round.proofs.BlockLemmas.{blocks}
use Rattle.missing_round.proofs.SetLemmas.{none-first, less-range}
use Rattle.missing_round.proofs.MeterSet.from_bits.Goals as goal

pub invariant_of-set : goal.invariant_of-set
invariant_of-set c = blocks c.args.bits (search rules) (λ k. search rules)

pub returns-in-None : goal.returns-in-None
returns-in-None c = (refl, none-first _ (ap (λ xs. slice_get xs 0) (sym (less-range c.args.n (members c.args.bits)) ∙ ap (less (members c.args.bits)) (sym c.full.ensures) ∙ sym c.minus.ensures) ∙ sym c.nth.ensures ∙ c.in-None.is))

pub returns-in-Some : goal.returns-in-Some
returns-in-Some c = ap (λ xs. slice_get xs 0) (sym (less-range c.args.n (members c.args.bits)) ∙ ap (less (members c.args.bits)) (sym c.full.ensures) ∙ sym c.minus.ensures) ∙ sym c.nth.ensures ∙ c.in-Some.is
