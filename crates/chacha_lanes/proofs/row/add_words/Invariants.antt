use Rattle.std.proofs.Common.{◌≡◌, ◌++◌, map, take}
use Rattle.chacha_lanes.specs.Stream.{mask_word}
use Rattle.chacha_lanes.proofs.row.add_words.Given as goal

-- the words of the keys so far are added
abbrev pub invariant-loop-key : goal.invariant-loop-key
invariant-loop-key l = l.words.items ≡ l.fn.words.items ++ map (λ key. mask_word key l.round) (take l.key l.keys)
