use Rattle.std.proofs.Common.{◌∙◌, ap, arith, sym}
use Rattle.std.proofs.lemmas.List.{append-nil}
use Rattle.std.specs.List.{flat_map, range_with_len}
use Rattle.plan_files.specs.MissingKeys.{pairs_above}
use Rattle.load_maker.specs.Writing.{after_keys, keys_text}
use Rattle.load_maker.proofs.DrawLemmas.{after_more, ahead_none, flat_more, keys_more, written_more}
use Rattle.load_maker.proofs.plan.put_pairs.Goals as goal

pub loop-low-init : goal.loop-low-init
unfolding keys_text
loop-low-init c = record { written = sym (append-nil c.args.out.now.items); stream = ahead_none c.args.stream.now; near = omega arith }

pub loop-low-preserved : goal.loop-low-preserved
loop-low-preserved c =
    let start = c.args.stream.now in
    let before = c.loop-low.invariant in
    let rows = pairs_above c.args.group c.args.meters in
    let done = flat_map rows (range_with_len 0 c.loop-low.low) in
    let more = rows c.loop-low.low in
    let ids = flat_more rows 0 c.loop-low.low c.loop-low.low (omega arith) in
    let near = c.in_ok-put_pairs_above.ensures.near in
    let so_far = before.near in
    record {
      written = written_more _ _ _ _ _ _ before.written c.in_ok-put_pairs_above.ensures.written (ap (keys_text start) ids ∙ keys_more start c.loop-low.stream done more before.stream);
      stream = after_more start c.loop-low.stream _ done more before.stream c.in_ok-put_pairs_above.ensures.after ∙ ap (after_keys start) (sym ids);
      near = omega (arith, near, so_far);
    }
