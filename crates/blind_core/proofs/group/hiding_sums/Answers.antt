use Rattle.std.proofs.Common.{rules, ◌≡◌, ◌∙◌, ap, length, replicate}
use Rattle.std.proofs.lemmas.List.{length-replicate}
use Rattle.blind_core.specs.Rows.{with_rows, with_owns}
use Rattle.blind_core.proofs.GroupLemmas.{places-within, hiding-from_rows, length-with_owns, written}
use Rattle.blind_core.proofs.RowLemmas.{length-with_rows}
use Rattle.blind_core.proofs.group.hiding_sums.Goals as goal

pub fill_sums-requires-clause-within : goal.fill_sums-requires-clause-within
fill_sums-requires-clause-within g c =
    let long : length c.as_mut_slice.result.now ≡ c.args.meters = ap length (c.as_mut_slice.ensures.value ∙ c.in_ok-sums.ensures) ∙ length-replicate c.args.meters 0 in
    places-within (g.M.Masks.plan c.args.masks.now) c.args.group c.args.round (length c.as_mut_slice.result.now) c.args.members.now (long ∙ c.requires.meters) c.requires.places

pub returns : goal.returns
returns g c =
    let zeros = c.as_mut_slice.ensures.value in
    let long : length c.in_ok-sums.sums.items ≡ c.in_ok-sums.sums.len = search rules in
    let table = g.M.Masks.table c.args.masks.now in
    let own = table.own c.args.group c.args.round in
    let pair = table.pair c.args.group c.args.round in
    let members = c.args.members.now in
    hiding-from_rows own pair members (replicate c.args.meters 0) _ c.args.meters c.fill_sums.ensures.set
    (places-within (g.M.Masks.plan c.args.masks.now) c.args.group c.args.round c.args.meters members c.requires.meters c.requires.places)
    (length-replicate c.args.meters 0)
    (written c.fill_sums.new.sums c.in_ok-sums.sums.items c.in_ok-sums.sums.len
    (ap length c.fill_sums.ensures.sums ∙ length-with_rows pair members (with_owns own members c.as_mut_slice.result.now) ∙ length-with_owns own members c.as_mut_slice.result.now ∙ ap length zeros ∙ long) long
    ∙ c.fill_sums.ensures.sums ∙ ap (λ l. with_rows pair members (with_owns own members l)) (zeros ∙ c.in_ok-sums.ensures))
