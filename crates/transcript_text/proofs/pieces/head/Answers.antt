use Rattle.rayon.proofs.ListFacts.{IfOk-then}
use Rattle.transcript_text.proofs.PieceLemmas.{head_next}
use Rattle.transcript_text.proofs.pieces.head.Goals as goal

pub returns : goal.returns
returns c =
    IfOk-then c.one.result _ _ c.one.ensures
    (λ made is. head_next c.args.transcript.now _ _ _ made c.plan.ensures c.new-piece.ensures.items c.in_ok-put_head.ensures is.0 is.1)
