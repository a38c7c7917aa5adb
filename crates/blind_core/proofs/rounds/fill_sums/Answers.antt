use Rattle.std.proofs.Common.{◌+◌, length, ap, ◌∙◌}
use Rattle.blind_core.specs.Columns.{column}
use Rattle.blind_core.specs.Rows.{with_rows}
use Rattle.blind_core.proofs.ColumnLemmas.{length-column}
use Rattle.blind_core.proofs.GroupLemmas.{places-within, hiding-from_rows}
use Rattle.blind_core.proofs.rounds.fill_sums.Goals as goal

pub put_owns-requires-clause-within : goal.put_owns-requires-clause-within
put_owns-requires-clause-within g c =
    places-within (g.M.Masks.plan c.args.masks.now) c.args.group (c.args.first + 7) (length c.args.sums.now) c.args.members.now c.requires.meters c.requires.places

pub add_rows-requires-clause-within : goal.add_rows-requires-clause-within
add_rows-requires-clause-within g c =
    places-within (g.M.Masks.plan c.args.masks.now) c.args.group (c.args.first + 7) (length c.put_owns.new.sums) c.args.members.now (c.put_owns.auto.sums ∙ c.requires.meters) c.requires.places

pub returns : goal.returns
returns g c j h =
    let own = (g.M.Masks.table c.args.masks.now).own c.args.group (c.args.first + j) in
    let pair = (g.M.Masks.table c.args.masks.now).pair c.args.group (c.args.first + j) in
    hiding-from_rows own pair c.args.members.now (column 0 j c.args.sums.now) _ (length c.args.sums.now) c.add_rows.ensures.set
    (places-within (g.M.Masks.plan c.args.masks.now) c.args.group (c.args.first + 7) (length c.args.sums.now) c.args.members.now c.requires.meters c.requires.places)
    (length-column 0 j c.args.sums.now)
    (c.add_rows.ensures.rows j h ∙ ap (with_rows pair c.args.members.now) (c.put_owns.ensures j h))
