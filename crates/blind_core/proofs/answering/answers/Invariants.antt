use Rattle.std.proofs.Common.{drop, map, replicate}
use Rattle.missing_round.specs.Words.{word, answer_word}
use Rattle.blind_core.proofs.WordLoops.{Owns}
use Rattle.blind_core.proofs.answering.answers.Given as goal

abbrev pub invariant-loop-meter : goal.invariant-loop-meter
invariant-loop-meter g l =
    Owns (λ i. answer_word ((g.M.Masks.table l.masks).own l.group l.round) ((g.M.Masks.table l.masks).pair l.group l.round) i l.missing)
    l.meters (replicate 256 0) l.meter-iterator l.words (drop l.place (map word l.sums.items))
