use Rattle.std.proofs.Common.{◌∙◌, refl}
use Rattle.pair_keys.specs.Keys.{table_of}
use Rattle.register_words.proofs.ShareLoops.{sums_begin, sums_next}
use Rattle.register_words.proofs.shares.answer_words.Goals as goal

pub loop-other-init : goal.loop-other-init
loop-other-init c =
    sums_begin (table_of c.args.keys.now) c.args.group c.args.round c.args.meter c.args.missing.now c.into_iter-other-iterator.result c.as_slice-row.result.now _
    (c.into_iter-other-iterator.ensures.into_iter_gives ∙ c.members-other-items.ensures.members) c.requires.missing (c.as_slice-row.ensures.value ∙ c.answer_blocks.ensures) refl

pub loop-other-preserved : goal.loop-other-preserved
loop-other-preserved c =
    sums_next (table_of c.args.keys.now) c.args.group c.args.round c.args.meter c.in-Some.other c.loop-other.place c.args.missing.now c.loop-other.other-iterator c.next.new.self c.as_slice-row.result.now
    c.loop-other.total c.add_share.new.sums c.loop-other.invariant c.in-Some.ensures.steps c.add_share.ensures
