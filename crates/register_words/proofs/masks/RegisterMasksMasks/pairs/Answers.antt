use Rattle.pair_keys.specs.Keys.{table_of}
use Rattle.register_words.specs.Blocks.{pair_of}
use Rattle.register_words.specs.Words.{words_of}
use Rattle.register_words.proofs.RowLemmas.{pair_row, row_room}
use Rattle.register_words.proofs.masks.RegisterMasksMasks.pairs.Goals as goal

pub register_row-requires-clause-room : goal.register_row-requires-clause-room
register_row-requires-clause-room c =
    row_room (λ j. words_of ((table_of c.args.self.now.keys.now).key (pair_of c.args.group c.args.meter j)) c.args.round) c.args.others.now c.pair_blocks.new.blocks.items c.pair_blocks.ensures.made
    c.pair_blocks.ensures.set

pub returns : goal.returns
returns c =
    pair_row (table_of c.args.self.now.keys.now) c.args.group c.args.round c.args.meter c.args.self.now.register c.args.others.now c.register_row.result.items c.pair_blocks.new.blocks.items
    c.args.self.now.within c.register_row.ensures c.pair_blocks.ensures.made
