use Rattle.std.proofs.Common.{◌∙◌, ap, arith, map, sym}
use Rattle.std.proofs.lemmas.List.{append-nil}
use Rattle.std.specs.List.{flat_map, range_with_len}
use Rattle.pair_keys.specs.declared.KeyId.TheVariants.{Own}
use Rattle.plan_files.specs.MissingKeys.{group_keys, pairs_above}
use Rattle.load_maker.specs.Writing.{after_keys, keys_text}
use Rattle.load_maker.proofs.DrawLemmas.{after_more, ahead_none, flat_more, keys_more, written_more}
use Rattle.load_maker.proofs.plan.put_keys.Goals as goal

pub loop-group-init : goal.loop-group-init
unfolding keys_text
loop-group-init c =
    let start = c.requires.start in
    record { written = sym (append-nil c.args.out.now.items); stream = ahead_none c.args.stream.now; near = omega (arith, start) }

pub loop-group-preserved : goal.loop-group-preserved
loop-group-preserved c =
    let start = c.args.stream.now in
    let before = c.loop-group.invariant in
    let g = c.loop-group.group in
    let n = c.args.meters in
    let keys = λ (k : _). group_keys k n in
    let done = flat_map keys (range_with_len 0 g) in
    let owns = map (Own g) (range_with_len 0 n) in
    let pairs = flat_map (pairs_above g n) (range_with_len 0 n) in
    let ids = flat_more keys 0 g g (omega arith) in
    let first = c.in_ok-put_owns.ensures in
    let second = c.in_ok-put_pairs.ensures in
    let text = keys_more (c.loop-group.stream) c.put_owns.new.stream owns pairs first.after in
    let group_text = written_more _ _ _ _ _ _ first.written second.written text in
    let group_after = after_more c.loop-group.stream c.put_owns.new.stream _ owns pairs first.after second.after in
    let so_far = before.near in
    let near_first = first.near in
    let near_second = second.near in
    record {
      written = written_more _ _ _ _ _ _ before.written group_text (ap (keys_text start) ids ∙ keys_more start c.loop-group.stream done (group_keys g n) before.stream);
      stream = after_more start c.loop-group.stream _ done (group_keys g n) before.stream group_after ∙ ap (after_keys start) (sym ids);
      near = omega (arith, so_far, near_first, near_second);
    }
