use Rattle.std.proofs.Common.{arith}
use Rattle.sparse_masks.specs.Rounds.{graph_of}
use Rattle.sparse_masks.proofs.RoundLemmas.{survivor-below}
use Rattle.sparse_masks.proofs.TreeLoops.{joined-below, look_finds, look_goes_on, look_head, rank-joined}
use Rattle.sparse_masks.proofs.round.Round.survivor_parent.Goals as goal

pub bounds-ranks-meter : goal.bounds-ranks-meter
bounds-ranks-meter c =
    let lt = survivor-below c.args.self.now c.requires.round c.args.meter c.requires.survivor in
    let long = c.requires.ranks.long in
    omega (arith, lt, long)

pub bounds-ranks-other : goal.bounds-ranks-other
bounds-ranks-other c =
    let joint = look_head (graph_of c.args.self.now) c.args.meter c.in-Some.other c.loop-other.other-iterator c.next.new.self c.in-Some.ensures.steps c.loop-other.invariant in
    let lt = joined-below c.args.self.now c.requires.round c.args.meter c.in-Some.other joint in
    let long = c.requires.ranks.long in
    omega (arith, lt, long)

pub returns-then-from : goal.returns-then-from
returns-then-from c =
    let r = c.args.self.now in
    let joint = look_head (graph_of r) c.args.meter c.in-Some.other c.loop-other.other-iterator c.next.new.self c.in-Some.ensures.steps c.loop-other.invariant in
    let other = rank-joined r c.requires.round c.args.ranks.now c.requires.ranks c.args.meter c.in-Some.other c.requires.survivor joint in
    let mine = c.requires.ranks.each c.args.meter (survivor-below r c.requires.round c.args.meter c.requires.survivor) c.requires.survivor in
    let one = c.from.ensures in
    let two = c.from-in-loop-other.ensures in
    let test = c.if-from.true in
    look_finds (graph_of r) c.args.meter c.in-Some.other c.loop-other.other-iterator c.next.new.self c.in-Some.ensures.steps (omega (arith, test, one, two, other, mine)) c.loop-other.invariant

pub loop-other-preserved : goal.loop-other-preserved
loop-other-preserved c =
    let r = c.args.self.now in
    let joint = look_head (graph_of r) c.args.meter c.in-Some.other c.loop-other.other-iterator c.next.new.self c.in-Some.ensures.steps c.loop-other.invariant in
    let other = rank-joined r c.requires.round c.args.ranks.now c.requires.ranks c.args.meter c.in-Some.other c.requires.survivor joint in
    let mine = c.requires.ranks.each c.args.meter (survivor-below r c.requires.round c.args.meter c.requires.survivor) c.requires.survivor in
    let one = c.from.ensures in
    let two = c.from-in-loop-other.ensures in
    look_goes_on (graph_of r) c.args.meter c.in-Some.other c.loop-other.other-iterator c.next.new.self c.in-Some.ensures.steps (λ e. c.if-from.false (omega (arith, e, one, two, other, mine))) c.loop-other.invariant
