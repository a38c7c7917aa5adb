use Rattle.std.proofs.Common.{◌≡◌, ◌+◌, ◌-◌, ◌<◌, length, take, drop, get_or, sym, ap, ◌∙◌, arith}
use Rattle.tick_run.specs.declared.running.Group.{Group}
use Rattle.tick_run.proofs.PassLemmas.{giving-next, frames-left}
use Rattle.tick_run.proofs.by_groups.give_all_fates.Goals as goal

pub loop-at-preserved : goal.loop-at-preserved
loop-at-preserved c =
    let was = c.loop-at.invariant in
    let k = c.loop-at.at in
    let before = c.args.groups.now in
    let w : Group = get_or c.loop-at.groups k c.index-groups-at.result in
    let at : w ≡ get_or c.loop-at.groups k w = ap (λ (x : Group). get_or c.loop-at.groups k x) c.index-groups-at.is in
    let long = was.giving.long in
    let test = c.loop-at-test.true in
    let lt : k < length c.loop-at.groups = omega (arith, test, long) in
    let inside : k < length before = omega (arith, lt, long) in
    let is = sym (was.giving.rest k w (omega arith)) ∙ sym at in
    let left = frames-left k before w inside is in
    let here = was.here in
    let n = c.len.result in
    let count : n ≡ length w.work.frames.items = omega (arith, c.len.ensures, w.work.frames.ok.0) in
    let part : c.loop-at.from + n - c.loop-at.from ≡ n = omega arith in
    let theirs = c.in_ok-give_fates.ensures.fates ∙ ap (λ m. take m (drop c.loop-at.from c.args.fates.now)) part in
    record {
      here = omega (arith, here, left, count);
      giving = giving-next k before c.loop-at.groups w c.give_fates.new.group c.loop-at.from n c.args.fates.now lt at c.in_ok-give_fates.ensures.same count theirs (omega (arith, here, left, count)) c.requires.delays was.giving;
    }
