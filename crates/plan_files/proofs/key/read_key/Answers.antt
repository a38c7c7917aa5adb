use Rattle.std.proofs.Common.{◌∙◌, ◌+◌, ◌*◌, arith}
use Rattle.std.proofs.lemmas.List.{length-set}
use Rattle.plan_files.proofs.KeyLemmas.{all_read, one_read}
use Rattle.plan_files.proofs.key.read_key.Goals as goal

pub loop-place-preserved : goal.loop-place-preserved
loop-place-preserved c = record {
  long = length-set _ _ _ ∙ c.loop-place.invariant.long;
  so_far = one_read c.args.digits.now c.loop-place.key c.loop-place.place c.loop-place.highest _ _ c.max-highest.result
      (omega arith) c.loop-place.invariant.long (omega arith) (c.digit_values-values.ensures (2 * c.loop-place.place) (omega arith)) (c.digit_values-values.ensures (2 * c.loop-place.place + 1) (omega arith)) (omega arith) c.loop-place.invariant.so_far;
}

pub returns-then-highest-lt16 : goal.returns-then-highest-lt16
returns-then-highest-lt16 c =
    all_read c.args.digits.now c.loop-place.key c.loop-place.place c.loop-place.highest (omega arith) (omega arith) (omega arith) (omega arith) c.loop-place.invariant.so_far
