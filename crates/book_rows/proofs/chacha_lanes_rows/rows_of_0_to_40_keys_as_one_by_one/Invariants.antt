use Rattle.std.proofs.Common.{◌≡◌, length}
use Rattle.book_rows.proofs.chacha_lanes_rows.rows_of_0_to_40_keys_as_one_by_one.Given as goal

-- one word for each key so far
abbrev pub invariant-loop-number : goal.invariant-loop-number
invariant-loop-number g l = length l.row.words ≡ l.number
