use Rattle.std.proofs.Common.{◌≡◌, ◌+◌, ◌-◌, ◌*◌, ◌++◌, ◌∙◌, ap, arith, map, sym}
use Rattle.std.proofs.lemmas.List.{append-nil}
use Rattle.std.proofs.lemmas.List.FromFn.{length-map-range_with_len, map-range_with_len_more}
use Rattle.std.specs.List.{range_with_len}
use Rattle.pair_keys.specs.declared.KeyId.TheVariants.{Pair}
use Rattle.load_maker.specs.Drawing.{ahead}
use Rattle.load_maker.specs.Writing.{keys_text}
use Rattle.load_maker.proofs.DrawLemmas.{ahead_more, ahead_none, key_more, written_more}
use Rattle.load_maker.proofs.plan.put_pairs_above.Goals as goal

pub loop-high-init : goal.loop-high-init
unfolding keys_text
loop-high-init c =
    let none : c.args.low + 1 - (c.args.low + 1) ≡ 0 = omega arith in
    let pair = Pair c.args.group c.args.low in
    record {
      written = sym (append-nil c.args.out.now.items) ∙ ap (λ n. c.args.out.now.items ++ keys_text c.args.stream.now (map pair (range_with_len (c.args.low + 1) n))) (sym none);
      stream = ahead_none c.args.stream.now ∙ ap (λ n. ahead c.args.stream.now (8 * n)) (sym none);
    }

pub loop-high-preserved : goal.loop-high-preserved
loop-high-preserved c =
    let above = c.args.low + 1 in
    let n = c.loop-high.high - above in
    let pair = Pair c.args.group c.args.low in
    let start = c.args.stream.now in
    let before = c.loop-high.invariant in
    let from = c.loop-high.auto.high in
    let place : above + n ≡ c.loop-high.high = omega (arith, from) in
    let next : c.loop-high.high + 1 - above ≡ n + 1 = omega (arith, from) in
    let long = length-map-range_with_len pair above n in
    let here = before.stream ∙ ap (λ k. ahead start (8 * k)) (sym long) in
    let row = key_more start c.loop-high.stream (map pair (range_with_len above n)) (pair c.loop-high.high) here in
    let ids = map-range_with_len_more pair above n c.loop-high.high place in
    record {
      written = written_more _ _ _ _ _ _ before.written c.in_ok-put_pair.ensures.written (ap (λ k. keys_text start (map pair (range_with_len above k))) next ∙ (ap (keys_text start) ids ∙ row));
      stream = c.in_ok-put_pair.ensures.after ∙ (ap (λ s. ahead s 8) before.stream ∙ ahead_more start (8 * n) 8 (8 * (c.loop-high.high + 1 - above)) (omega (arith, next)));
    }

pub returns-clause-after : goal.returns-clause-after
returns-clause-after c =
    let above = c.args.low + 1 in
    let pair = Pair c.args.group c.args.low in
    let long = length-map-range_with_len pair above (c.args.meters - above) in
    let from = c.loop-high.auto.high in
    let to = c.loop-high.auto.high-end in
    let low = c.requires.low in
    let end : c.loop-high.high - above ≡ c.args.meters - above = omega (arith, low, to, from) in
    c.loop-high.invariant.stream ∙ ap (λ n. ahead c.args.stream.now (8 * n)) (end ∙ sym long)
