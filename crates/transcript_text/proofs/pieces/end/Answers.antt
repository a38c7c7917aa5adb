use Rattle.rayon.proofs.ListFacts.{IfOk-then}
use Rattle.transcript_text.proofs.PieceLemmas.{end_next}
use Rattle.transcript_text.proofs.pieces.end.Goals as goal

pub returns : goal.returns
returns c =
    IfOk-then c.one.result _ _ c.one.ensures
    (λ made is. end_next c.args.transcript.now c.args.at _ _ _ made c.requires c.len.ensures.len c.new-piece.ensures.items c.in_ok-put_end.ensures is.0 is.1)
