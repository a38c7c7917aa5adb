use Rattle.std.proofs.Common.{◌≡◌, take}
use Rattle.twin_worlds.specs.MovedRows.{rows_of}
use Rattle.twin_worlds.proofs.moving.moved_rows.Given as goal

abbrev pub invariant-loop-offset : goal.invariant-loop-offset
invariant-loop-offset g l = l.rows.items ≡ rows_of (g.M.Masks.table l.masks) (take l.offset-index l.offsets)
