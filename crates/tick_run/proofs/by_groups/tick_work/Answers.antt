use Rattle.std.proofs.Common.{sym, ◌∙◌}
use Rattle.tick_run.proofs.ByGroupsLemmas.{made-ok, made-noted}
use Rattle.tick_run.proofs.by_groups.tick_work.Goals as goal

pub returns : goal.returns
returns g c = λ entries h at none.
    made-noted c.args.shared.now c.args.known.now.readings.now (g.M.Masks.table c.args.known.now.masks.now) c.args.tick entries h c.tick_shared-made.new.group c.is_err-group.result
    (made-ok c.tick_shared-made.result (sym c.is_err-group.ensures.value ∙ none) (c.tick_shared-made.ensures entries h at))
