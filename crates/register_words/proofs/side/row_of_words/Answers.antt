use Rattle.register_words.proofs.SideLemmas.{row_done}
use Rattle.register_words.proofs.side.row_of_words.Goals as goal

pub returns : goal.returns
returns c =
    row_done c.args.line c.args.registers c.loop-register.register c.args.words.now c.loop-register.further c.requires.0 c.requires.1 c.loop-register-test.false
    (c.loop-register.auto.register-end c.requires.0) c.loop-register.invariant.1
