-- What a table of stream words stands for.
use Rattle.group_plan.specs.Plans.{PlanView}
use Rattle.missing_round.specs.Masks.{Masks}
use Rattle.pair_keys.specs.Keys.{table_of}
use Rattle.mask_stream.specs.declared.cha_masks.ChaMasks.{ChaMasks}
use Rattle.mask_stream.specs.KeyStreams.{streams}

abbrev pub plan_of : ChaMasks → PlanView
plan_of masks = (table_of masks.keys.now).plan

abbrev pub words_of : ChaMasks → Masks
words_of masks = streams (table_of masks.keys.now)
