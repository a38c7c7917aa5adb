use Rattle.std.proofs.Common.{drop}
use Rattle.mask_stream.specs.Ends.{is_other}
use Rattle.blind_core.proofs.AnswerLoops.{Shared}
use Rattle.blind_core.proofs.answering.add_shares.Given as goal

abbrev pub invariant-loop-meter : goal.invariant-loop-meter
invariant-loop-meter g l =
    Shared ((g.M.Masks.table l.masks).pair l.group l.round) l.missing (is_other (g.M.Masks.plan l.masks) l.group l.round l.missing)
    l.meters l.before l.meter-iterator (drop l.place l.words) (drop l.place l.before) l.after.items
