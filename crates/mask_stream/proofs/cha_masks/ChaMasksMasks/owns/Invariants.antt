use Rattle.std.proofs.Common.{◌≡◌}
use Rattle.group_plan.specs.Plans.{is_place}
use Rattle.mask_stream.specs.ChaMaskTables.{plan_of, words_of}
use Rattle.mask_stream.proofs.RowLoop.{Words}
use Rattle.mask_stream.proofs.cha_masks.ChaMasksMasks.owns.Given as goal

abbrev pub invariant-loop-meter : goal.invariant-loop-meter
invariant-loop-meter l =
    (l.row.round ≡ l.round) × Words (is_place (plan_of l.self) l.group l.round) ((words_of l.self).own l.group l.round) l.meters l.meter-iterator l.row.words
