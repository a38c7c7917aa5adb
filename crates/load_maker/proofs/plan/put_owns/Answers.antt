use Rattle.std.proofs.Common.{◌≡◌, ◌+◌, ◌*◌, ◌∙◌, ap, arith, map, sym}
use Rattle.std.proofs.lemmas.List.{append-nil}
use Rattle.std.proofs.lemmas.List.FromFn.{length-map-range_with_len, map-range_with_len_more}
use Rattle.std.specs.List.{range_with_len}
use Rattle.pair_keys.specs.declared.KeyId.TheVariants.{Own}
use Rattle.load_maker.specs.Drawing.{ahead}
use Rattle.load_maker.specs.Writing.{keys_text}
use Rattle.load_maker.proofs.DrawLemmas.{ahead_more, ahead_none, key_more, written_more}
use Rattle.load_maker.proofs.plan.put_owns.Goals as goal

pub loop-meter-init : goal.loop-meter-init
unfolding keys_text
loop-meter-init c = record { written = sym (append-nil c.args.out.now.items); stream = ahead_none c.args.stream.now }

pub loop-meter-preserved : goal.loop-meter-preserved
loop-meter-preserved c =
    let m = c.loop-meter.meter in
    let own = Own c.args.group in
    let start = c.args.stream.now in
    let before = c.loop-meter.invariant in
    let long = length-map-range_with_len own 0 m in
    let here = before.stream ∙ ap (λ n. ahead start (8 * n)) (sym long) in
    let row = key_more start c.loop-meter.stream (map own (range_with_len 0 m)) (own m) here in
    let ids = map-range_with_len_more own 0 m m (omega arith) in
    record {
      written = written_more _ _ _ _ _ _ before.written c.in_ok-put_own.ensures.written (ap (keys_text start) ids ∙ row);
      stream = c.in_ok-put_own.ensures.after ∙ (ap (λ s. ahead s 8) before.stream ∙ ahead_more start (8 * m) 8 (8 * (m + 1)) (omega arith));
    }

pub returns-clause-after : goal.returns-clause-after
returns-clause-after c =
    let long = length-map-range_with_len (Own c.args.group) 0 c.args.meters in
    let end : c.loop-meter.meter ≡ c.args.meters = omega arith in
    c.loop-meter.invariant.stream ∙ ap (λ n. ahead c.args.stream.now (8 * n)) (end ∙ sym long)
