use Rattle.std.proofs.Common.{◌≡◌, ◌∙◌, ◌+◌, ◌*◌, ap, arith}
use Rattle.std.proofs.Math.Nat.{add-mul}
use Rattle.load_maker.specs.Drawing.{ahead, stream_at}
use Rattle.std.specs.List.{flat_map, range_with_len}
use Rattle.load_maker.proofs.MadeReadings.{group_drawn, group_more, readings_written}
use Rattle.load_maker.proofs.SizeLemmas.{few_group_words, limits_of}
use Rattle.load_maker.proofs.readings.readings_text.Goals as goal

pub put_group-requires : goal.put_group-requires
put_group-requires c =
    let size = c.args.size in
    let lt = c.loop-group-test.true in
    let few = few_group_words size.groups size.meters size.rounds c.loop-group.group (limits_of size.groups size.meters size.rounds size.within) (omega (arith, lt)) in
    let place = ap (λ s. s.word_pos) c.loop-group.invariant.stream in
    omega (arith, few, place)

pub loop-group-preserved : goal.loop-group-preserved
loop-group-preserved c =
    let m = c.args.size.meters in
    let n = c.args.size.rounds in
    let g = c.loop-group.group in
    let before = c.loop-group.invariant in
    let turn = add-mul g 1 n in
    let more : (g + 1) * n * m ≡ g * n * m + n * m = ap (λ k. k * m) (turn ∙ ap (λ k. g * n + k) (let e : 1 * n ≡ n = omega arith in e)) ∙ add-mul (g * n) n m in
    record {
      written = group_more c.args.seed m n g _ _ c.loop-group.stream before.written before.stream c.in_ok-put_group.ensures.written;
      stream = c.in_ok-put_group.ensures.after ∙ (ap (λ s. ahead s (2 * (n * m))) before.stream
          ∙ ap (λ p. stream_at c.args.seed 2 p) (let e : 2 * (g * n * m) + 2 * (n * m) ≡ 2 * ((g + 1) * n * m) = omega (arith, more) in e));
    }

pub returns : goal.returns
returns c =
    let size = c.args.size in
    let end : c.loop-group.group ≡ size.groups = omega arith in
    c.loop-group.invariant.written
    ∙ (ap (λ n. flat_map (group_drawn c.args.seed size.meters size.rounds) (range_with_len 0 n)) end ∙ readings_written c.args.seed size.groups size.meters size.rounds)
