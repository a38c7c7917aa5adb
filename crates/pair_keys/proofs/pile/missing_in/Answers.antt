use Rattle.std.proofs.Common.{◌∙◌, List, refl, sym, ap, subst, is_none, length}
use Rattle.std.specs.List.{position}
use Rattle.pair_keys.specs.Missing.{LacksPair, HasRowsTo}
use Rattle.pair_keys.proofs.PileLemmas.{Row}
use Rattle.pair_keys.proofs.MissingLemmas.{lacks_own, has_owns}
use Rattle.pair_keys.proofs.pile.missing_in.Goals as goal

pub returns-in-Some : goal.returns-in-Some
returns-in-Some c = (refl, lacks_own c.args.keys.now c.in-Some.meter (ap (position is_none) (sym c.deref.ensures.value) ∙ sym c.missing_own.ensures ∙ c.in-Some.is))

pub returns-in-Some-missing_pair : goal.returns-in-Some-missing_pair
returns-in-Some-missing_pair c = (
  refl,
  has_owns c.args.keys.now (ap (position is_none) (sym c.deref.ensures.value) ∙ sym c.missing_own.ensures ∙ c.in-None.is),
  subst (λ (l : List Row). LacksPair l c.in-Some-missing_pair.low c.in-Some-missing_pair.high) c.deref-in-None.ensures.value c.in-Some-missing_pair.ensures,
)

pub returns-in-None-missing_pair : goal.returns-in-None-missing_pair
returns-in-None-missing_pair c = (
  has_owns c.args.keys.now (ap (position is_none) (sym c.deref.ensures.value) ∙ sym c.missing_own.ensures ∙ c.in-None.is),
  subst (λ (l : List Row). HasRowsTo l (length l)) c.deref-in-None.ensures.value c.in-None-missing_pair.ensures,
)
