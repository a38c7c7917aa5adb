use Rattle.std.proofs.Common.{arith, subst}
use Rattle.group_plan.specs.Tables.{ReadingsView}
use Rattle.missing_round.specs.Masks.{Masks}
use Rattle.pair_keys.specs.Keys.{table_of}
use Rattle.plan_meters.specs.Hidden.{AreHidden}
use Rattle.register_words.specs.Words.{register_streams}
use Rattle.register_words.proofs.readings.ReadingWords.new.Goals as goal

pub returns : goal.returns
returns g c = record {
  two = omega (arith, c.count.ensures.count, c.if-count-ne2.false);
  hides = subst (λ (x : ReadingsView). AreHidden x (register_streams 1 (table_of c.args.keys.now)) c.in_ok-hidden.hidden) c.table.ensures
      (subst (λ (m : Masks). AreHidden c.table.result.now m c.in_ok-hidden.hidden) c.new-masks.ensures.words c.in_ok-hidden.ensures);
}
