use Rattle.pair_keys.specs.Keys.{table_of}
use Rattle.pair_keys.specs.declared.KeyId.TheVariants.{Own}
use Rattle.register_words.specs.Words.{words_of}
use Rattle.register_words.proofs.RowLemmas.{own_row, places_meters, row_room}
use Rattle.register_words.proofs.masks.RegisterMasksMasks.owns.Goals as goal

pub own_blocks-requires : goal.own_blocks-requires
own_blocks-requires c = places_meters (table_of c.args.self.now.keys.now).plan c.args.group c.args.round c.args.meters.now c.requires

pub register_row-requires-clause-room : goal.register_row-requires-clause-room
register_row-requires-clause-room c =
    row_room (λ i. words_of ((table_of c.args.self.now.keys.now).key (Own c.args.group i)) c.args.round) c.args.meters.now c.own_blocks.new.blocks.items c.own_blocks.ensures.made c.own_blocks.ensures.set

pub returns : goal.returns
returns c =
    own_row (table_of c.args.self.now.keys.now) c.args.group c.args.round c.args.self.now.register c.args.meters.now c.register_row.result.items c.own_blocks.new.blocks.items c.args.self.now.within
    c.register_row.ensures c.own_blocks.ensures.made
