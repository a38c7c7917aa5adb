use Rattle.std.proofs.Common.{◌≡◌, ◌++◌, map, take}
use Rattle.std.specs.Prelude.{Some}
use Rattle.register_words.specs.Words.{words_of}
use Rattle.register_words.proofs.blocks.add_blocks.Given as goal

-- the words of the keys so far are added
abbrev pub invariant-loop-key : goal.invariant-loop-key
invariant-loop-key l = l.blocks.items ≡ l.fn.blocks.items ++ map (λ key. words_of (Some key) l.round) (take l.key l.keys)
