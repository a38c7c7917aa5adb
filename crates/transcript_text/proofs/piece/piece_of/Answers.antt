use Rattle.std.proofs.Common.{refl}
use Rattle.transcript_text.proofs.AheadLemmas.{made}
use Rattle.transcript_text.proofs.piece.piece_of.Goals as goal

pub returns : goal.returns
returns c = λ whole front is. made c.args.version c.args.plan.now whole front c.args.text.now _ is c.in_ok-until.ensures refl
