use Rattle.std.proofs.Common.{◌+◌, ℕ, List, sym, subst, zero-add}
use Rattle.std.specs.List.{AllZip, range_with_len}
use Rattle.plan_meters.proofs.RangeLemmas.{range_push}
use Rattle.tick_run.specs.declared.running.Group.{Group}
use Rattle.tick_run.specs.Whole.{IsFirst}
use Rattle.tick_run.proofs.first.first_groups.Goals as goal

pub loop-number-preserved : goal.loop-number-preserved
loop-number-preserved c =
    let made = c.in_ok-first_group.ensures in
    record {
      pass = made.pass.0;
      leads = made.pass.1;
      first = subst (λ (gs : List Group). AllZip (IsFirst c.args.shared.now c.args.readings.now) (range_with_len 0 (c.loop-number.number + 1)) gs) (sym c.in_ok-push.ensures.items)
          (range_push (IsFirst c.args.shared.now c.args.readings.now) 0 c.loop-number.number c.loop-number.groups.items c.in_ok-first_group.field-0 c.loop-number.invariant.first
          (subst (λ (k : ℕ). IsFirst c.args.shared.now c.args.readings.now k c.in_ok-first_group.field-0) (sym (zero-add c.loop-number.number)) made.group));
    }
