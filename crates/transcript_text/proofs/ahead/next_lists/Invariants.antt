use Rattle.std.proofs.Common.{All}
use Rattle.transcript_text.specs.Ahead.{AreNextLists, IsPieceOf}
use Rattle.transcript_text.proofs.ahead.next_lists.Given as goal

abbrev pub invariant-lists : goal.invariant-lists
invariant-lists l = record {
  lists : AreNextLists l.fn.reader l.lists.items l.reader;
  pieces : All (IsPieceOf l.reader.version l.reader.plan l.reader.text) l.pieces.items;
}

abbrev pub decreases-lists : goal.decreases-lists
decreases-lists l = l.reader.bytes
