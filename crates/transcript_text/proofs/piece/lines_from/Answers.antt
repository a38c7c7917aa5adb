use Rattle.std.proofs.Common.{◌-◌, append-nil, sym, arith}
use Rattle.transcript_text.proofs.AheadLemmas.{after_cut}
use Rattle.transcript_text.proofs.piece.lines_from.Goals as goal

pub returns-then-at-text : goal.returns-then-at-text
returns-then-at-text c = (c.args.text.now, sym (append-nil c.args.text.now))

pub returns-in-Some : goal.returns-in-Some
returns-in-Some c = after_cut c.args.text.now (c.args.at - 1) c.in-Some.field-0-0.now c.in-Some.after.now (omega (arith, c.if-at-text.false)) c.in-Some.ensures.0

pub returns-in-None : goal.returns-in-None
returns-in-None c = (c.args.text.now, sym (append-nil c.args.text.now))
