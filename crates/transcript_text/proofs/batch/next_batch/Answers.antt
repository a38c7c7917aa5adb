use Rattle.std.proofs.Common.{refl}
use Rattle.transcript_text.proofs.PieceLemmas.{batch_next}
use Rattle.transcript_text.proofs.batch.next_batch.Goals as goal

pub returns : goal.returns
returns g c =
    batch_next c.args.transcript.now c.args.at c.piece_count-count.result c.piece_start.result c.in_ok-pieces.pieces.items _
    c.requires.within c.piece_count-count.ensures.some c.in_ok-pieces.ensures c.from.ensures.0 c.piece_start.ensures refl
