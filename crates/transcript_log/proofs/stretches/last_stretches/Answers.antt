use Rattle.std.proofs.Common.{◌<◌, ◌-◌, arith}
use Rattle.transcript_log.proofs.StretchLemmas.{no_more, one_before, with_one_before}
use Rattle.transcript_log.proofs.stretches.last_stretches.Goals as goal

pub overflow_add-len : goal.overflow_add-len
overflow_add-len c =
    let ss = c.args.stretches.now in
    let at = c.loop-len.at in
    let some : 0 < at = one_before ss at c.args.wanted c.requires.enough (omega (arith, c.loop-len.invariant.len, c.loop-len-test.true)) in
    let more = with_one_before ss (at - 1) at c.index-stretches-at.result (omega (arith, some, c.loop-len.invariant.place)) (omega (arith, some)) in
    omega (arith, more, c.loop-len.invariant.len, no_more ss (at - 1), c.requires.few)

pub loop-len-preserved : goal.loop-len-preserved
loop-len-preserved c =
    let ss = c.args.stretches.now in
    let at = c.loop-len.at in
    let some : 0 < at = one_before ss at c.args.wanted c.requires.enough (omega (arith, c.loop-len.invariant.len, c.loop-len-test.true)) in
    let more = with_one_before ss (at - 1) at c.index-stretches-at.result (omega (arith, some, c.loop-len.invariant.place)) (omega (arith, some)) in
    record {
      place = omega (arith, c.loop-len.invariant.place);
      len = omega (arith, more, c.loop-len.invariant.len);
    }
