use Rattle.std.proofs.Common.{◌∙◌, sym, ap, arith, length}
use Rattle.lossy_link.specs.Waiting.{copies_of}
use Rattle.lossy_link.proofs.ArrivalLemmas.{length-posted}
use Rattle.lossy_link.proofs.Link.post.Goals as goal

pub invariant_of-self : goal.invariant_of-self
invariant_of-self c = record {
  ordered = c.in_err-add_all.ensures.ordered c.self.invariant.ordered;
  counted = c.self.invariant.counted ∙ ap length (sym c.in_err-add_all.ensures.ends);
}

pub invariant_of-self-2 : goal.invariant_of-self-2
invariant_of-self-2 c =
    let sum = (rw c.in_ok-left.ensures.ok_part at c.checked_add.ensures).1 in
    let grown = ap length c.in_ok-add_all.ensures.ends ∙ length-posted c.args.tick c.args.bytes c.delays-delays.result.now (copies_of c.self.inside.waiting.entries) in
    record { ordered = c.in_ok-add_all.ensures.ordered c.self.invariant.ordered; counted = omega (arith, sum, grown, c.self.invariant.counted) }
