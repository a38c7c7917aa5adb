-- What the masks of a register stand for.
use Rattle.group_plan.specs.Plans.{PlanView}
use Rattle.missing_round.specs.Masks.{Masks}
use Rattle.pair_keys.specs.Keys.{table_of}
use Rattle.register_words.specs.declared.masks.RegisterMasks.{RegisterMasks}
use Rattle.register_words.specs.Words.{register_streams}

abbrev pub plan_of : RegisterMasks → PlanView
plan_of masks = (table_of masks.keys.now).plan

abbrev pub table_words : RegisterMasks → Masks
table_words masks = register_streams masks.register (table_of masks.keys.now)
