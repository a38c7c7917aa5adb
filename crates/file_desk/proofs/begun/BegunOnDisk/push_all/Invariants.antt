use Rattle.std.proofs.Common.{◌≡◌, length}
use Rattle.file_desk.specs.Files.{begun_name}
use Rattle.file_desk.proofs.begun.BegunOnDisk.push_all.Given as goal

abbrev pub invariant-loop-piece : goal.invariant-loop-piece
invariant-loop-piece g l = record {
  ready : g.P.Pieces.ready l.pieces;
  name : begun_name l.self ≡ begun_name l.initial.self;
  error : l.self.error ≡ l.initial.self.error;
}

abbrev pub decreases-loop-piece : goal.decreases-loop-piece
decreases-loop-piece g l = length (g.P.Pieces.rest l.pieces)
