use Rattle.std.proofs.Common.{◌≡◌}
use Rattle.mask_stream.specs.ChaMaskTables.{plan_of, words_of}
use Rattle.mask_stream.specs.Ends.{is_other, between}
use Rattle.mask_stream.proofs.RowLoop.{Words}
use Rattle.mask_stream.proofs.cha_masks.ChaMasksMasks.pairs.Given as goal

abbrev pub invariant-loop-other : goal.invariant-loop-other
invariant-loop-other l =
    (l.row.round ≡ l.round) × Words (is_other (plan_of l.self) l.group l.round l.meter) (between ((words_of l.self).pair l.group l.round) l.meter) l.others l.other-iterator l.row.words
