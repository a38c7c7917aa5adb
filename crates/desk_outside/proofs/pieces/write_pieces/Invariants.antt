use Rattle.std.proofs.Common.{length}
use Rattle.desk_outside.proofs.Written.{Reaches}
use Rattle.desk_outside.proofs.pieces.write_pieces.Given as goal

abbrev pub invariant-loop-piece : goal.invariant-loop-piece
invariant-loop-piece g l = record {
  reaches : Reaches (g.W.Write.contents l.fn.out) (g.W.Write.contents l.out) (g.P.Pieces.rest l.pieces) (g.P.Pieces.rest l.fn.pieces);
  ready : g.P.Pieces.ready l.pieces;
}

abbrev pub decreases-loop-piece : goal.decreases-loop-piece
decreases-loop-piece g l = length (g.P.Pieces.rest l.pieces)
