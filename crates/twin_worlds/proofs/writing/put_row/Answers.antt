use Rattle.std.proofs.Common.{◌∙◌}
use Rattle.twin_worlds.proofs.RowTexts.{row_is}
use Rattle.twin_worlds.proofs.writing.put_row.Goals as goal

pub returns : goal.returns
returns c =
    c.in_ok-push.ensures.items ∙ row_is c.args.row.now c.args.out.now.items c.put_place.new.out.items c.put_words.new.out.items c.in_ok-put_place.ensures c.in_ok-put_words.ensures
