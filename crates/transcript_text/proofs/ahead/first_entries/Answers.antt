use Rattle.std.proofs.Common.{true, false}
use Rattle.transcript_text.proofs.AheadLemmas.{still_pieces}
use Rattle.transcript_text.proofs.ahead.first_entries.Goals as goal

pub returns-then-skip-clause-pieces : goal.returns-then-skip-clause-pieces
returns-then-skip-clause-pieces c = still_pieces c.args.reader.now c.in_ok-piece.piece c.skip.new.self c.args.pieces.now.items c.pop_front.new.self.items c.in_ok-piece.ensures.items c.requires true c.if-skip.ensures

pub returns-else-skip-clause-pieces : goal.returns-else-skip-clause-pieces
returns-else-skip-clause-pieces c = still_pieces c.args.reader.now c.in_ok-piece.piece c.skip.new.self c.args.pieces.now.items c.pop_front.new.self.items c.in_ok-piece.ensures.items c.requires false c.if-skip.ensures
