use Rattle.std.proofs.Common.{◌∙◌}
use Rattle.std.proofs.lemmas.Result.{on_ok_weaker}
use Rattle.twin_worlds.proofs.RowTexts.{pair_is}
use Rattle.twin_worlds.proofs.writing.put_place.Goals as goal

pub returns-in_ok-put_two-in-Pair : goal.returns-in_ok-put_two-in-Pair
returns-in_ok-put_two-in-Pair c =
    on_ok_weaker c.put_two-in-Pair-2.result
    (λ more. more ∙ pair_is c.args.id c.in-Pair.group c.in-Pair.low c.in-Pair.high c.args.round c.args.out.now.items c.extend_from_slice-in-Pair.new.self.items c.put_two-in-Pair.new.out.items
    c.in-Pair.is c.in_ok-extend_from_slice-in-Pair.ensures.items c.in_ok-put_two-in-Pair.ensures)
    c.put_two-in-Pair-2.ensures
