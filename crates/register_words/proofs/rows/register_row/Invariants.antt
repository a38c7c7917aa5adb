use Rattle.std.proofs.Common.{◌≡◌, length, map, take}
use Rattle.std.specs.Prelude.{slice_index}
use Rattle.register_words.proofs.rows.register_row.Given as goal

-- the words of the blocks so far
abbrev pub invariant-loop-block : goal.invariant-loop-block
invariant-loop-block l =
    (length l.row.items ≡ l.block-index) × (l.row.items ≡ map (λ block. slice_index block l.register) (take l.block-index l.blocks.items))
