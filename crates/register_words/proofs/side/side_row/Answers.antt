use Rattle.std.proofs.Common.{◌∙◌, arith}
use Rattle.pair_keys.specs.Keys.{table_of}
use Rattle.register_words.proofs.SideLemmas.{row_is}
use Rattle.register_words.proofs.side.side_row.Goals as goal

pub returns-clause-row : goal.returns-clause-row
returns-clause-row c =
    let least = c.count.ensures.sound.least in
    let same = c.count.ensures.count in
    c.row_of_words.ensures ∙ row_is c.args.tables.now (table_of c.args.keys.now) c.args.line c.args.frame.now c.in_ok-words.words c.count.result same (omega (arith, least, same)) c.in_ok-words.ensures.words
