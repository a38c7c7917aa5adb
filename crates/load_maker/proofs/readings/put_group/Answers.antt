use Rattle.std.proofs.Common.{◌∙◌, ◌+◌, ◌*◌, ◌++◌, ap, arith}
use Rattle.std.proofs.Math.Nat.{add-mul}
use Rattle.load_maker.specs.Drawing.{ahead}
use Rattle.load_maker.specs.Writing.{row_drawn}
use Rattle.load_maker.proofs.DrawLemmas.{ahead_more, flat_more, written_more}
use Rattle.load_maker.proofs.SizeLemmas.{few_words, limits_of}
use Rattle.load_maker.proofs.readings.put_group.Goals as goal

pub put_row-requires-clause-few : goal.put_row-requires-clause-few
put_row-requires-clause-few c = (limits_of c.args.size.groups c.args.size.meters c.args.size.rounds c.args.size.within).few_meters

pub put_row-requires-clause-room : goal.put_row-requires-clause-room
put_row-requires-clause-room c =
    let size = c.args.size in
    let room = c.requires in
    let lt = c.loop-round-test.true in
    let few = few_words size.groups size.meters size.rounds c.loop-round.round (limits_of size.groups size.meters size.rounds size.within) (omega (arith, lt)) in
    let place = ap (λ s. s.word_pos) c.loop-round.invariant.stream in
    omega (arith, room, few, place)

pub loop-round-preserved : goal.loop-round-preserved
loop-round-preserved c =
    let start = c.args.stream.now in
    let m = c.args.size.meters in
    let r = c.loop-round.round in
    let before = c.loop-round.invariant in
    let turn = add-mul r 1 m in
    record {
      written = written_more _ _ _ _ _ _ before.written (c.in_ok-put_row.ensures.written ∙ ap (λ s. c.loop-round.out.items ++ row_drawn s c.args.group r m) before.stream)
          (flat_more (λ k. row_drawn (ahead start (2 * (k * m))) c.args.group k m) 0 r r (omega arith));
      stream = c.in_ok-put_row.ensures.after ∙ (ap (λ s. ahead s (2 * m)) before.stream ∙ ahead_more start (2 * (r * m)) (2 * m) (2 * ((r + 1) * m)) (omega (arith, turn)));
    }
