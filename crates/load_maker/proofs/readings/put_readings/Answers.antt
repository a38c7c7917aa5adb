use Rattle.std.proofs.Common.{◌∙◌, ◌+◌, ◌*◌, ◌++◌, ap, arith}
use Rattle.load_maker.specs.Drawing.{ahead, reading_drawn}
use Rattle.load_maker.specs.Writing.{field_text}
use Rattle.load_maker.proofs.DrawLemmas.{ahead_more, flat_more, written_more}
use Rattle.load_maker.proofs.readings.put_readings.Goals as goal

pub loop-meter-preserved : goal.loop-meter-preserved
loop-meter-preserved c =
    let start = c.args.stream.now in
    let i = c.loop-meter._meter in
    let before = c.loop-meter.invariant in
    record {
      written = written_more _ _ _ _ _ _ before.written (c.in_ok-put_reading.ensures.written ∙ ap (λ s. c.loop-meter.out.items ++ field_text (reading_drawn s)) before.stream)
          (flat_more (λ k. field_text (reading_drawn (ahead start (2 * k)))) 0 i i (omega arith));
      stream = c.in_ok-put_reading.ensures.after ∙ (ap (λ s. ahead s 2) before.stream ∙ ahead_more start (2 * i) 2 (2 * (i + 1)) (omega arith));
    }
