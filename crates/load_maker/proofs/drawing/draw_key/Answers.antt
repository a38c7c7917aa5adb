use Rattle.std.proofs.Common.{◌∙◌, ap, arith, length}
use Rattle.std.specs.Int.{w32, to_le_bytes}
use Rattle.load_maker.proofs.DrawLemmas.{bytes_all, bytes_more, mid_long, word_drawn}
use Rattle.load_maker.proofs.drawing.draw_key.Goals as goal

pub loop-place-preserved : goal.loop-place-preserved
loop-place-preserved c =
    let room = c.requires in
    let lt = c.loop-place-test.true in
    let drawn = word_drawn c.args.stream.now c.loop-place.stream c.next_word-word.new.self c.next_word-word.result c.loop-place.place room lt c.loop-place.invariant.stream c.next_word-word.ensures in
    let bytes = c.copy_from_slice.ensures.after ∙ (c.to_le_bytes.ensures ∙ ap (to_le_bytes w32) drawn.0) in
    record {
      stream = drawn.1;
      long = mid_long c.loop-place.key _ c.loop-place.place c.next_word-word.array_long lt (ap length bytes);
      bytes = bytes_more c.args.stream.now c.loop-place.key _ c.loop-place.place c.next_word-word.array_long lt bytes c.loop-place.invariant.bytes;
    }

pub returns-clause-key : goal.returns-clause-key
returns-clause-key c = bytes_all c.args.stream.now c.loop-place.key c.loop-place.place c.loop-place.invariant.long (omega arith) c.loop-place.invariant.bytes
