use Rattle.std.proofs.Common.{ℕ, length, ap, refl, ◌∙◌}
use Rattle.std.proofs.lemmas.List.{length-map}
use Rattle.blind_core.specs.Columns.{column}
use Rattle.blind_core.specs.Rows.{with_owns, with_rows}
use Rattle.blind_core.proofs.ColumnLemmas.{length-column}
use Rattle.blind_core.proofs.GroupLemmas.{places-within, hiding-from_rows}
use Rattle.group_plan.specs.Plans.{size}
use Rattle.pair_keys.specs.Keys.{table_of}
use Rattle.pair_keys.specs.declared.KeyId.TheVariants.{Own}
use Rattle.register_words.specs.Hidden.{own_words, pair_words}
use Rattle.register_words.specs.Words.{words_of}
use Rattle.register_words.proofs.HidingLemmas.{own_at}
use Rattle.register_words.proofs.sums.fill_sums.Goals as goal

pub own_blocks-requires : goal.own_blocks-requires
own_blocks-requires c = places-within (table_of c.args.keys.now).plan c.args.group c.args.round (size (table_of c.args.keys.now).plan.groups c.args.group) c.args.members.now refl c.requires.places

pub put_owns-requires-clause-row : goal.put_owns-requires-clause-row
put_owns-requires-clause-row c = ap length c.own_blocks.ensures.made ∙ length-map c.args.members.now (λ i. words_of ((table_of c.args.keys.now).key (Own c.args.group i)) c.args.round)

pub put_owns-requires-clause-within : goal.put_owns-requires-clause-within
put_owns-requires-clause-within c = places-within (table_of c.args.keys.now).plan c.args.group c.args.round (length c.args.sums.now) c.args.members.now c.requires.meters c.requires.places

pub add_rows-requires-clause-within : goal.add_rows-requires-clause-within
add_rows-requires-clause-within c = places-within (table_of c.args.keys.now).plan c.args.group c.args.round (length c.put_owns.new.sums) c.args.members.now (c.put_owns.auto.sums ∙ c.requires.meters) c.requires.places

pub returns : goal.returns
returns c k h =
    let keys = table_of c.args.keys.now in
    let g = c.args.group in
    let r = c.args.round in
    let members = c.args.members.now in
    let sums = c.args.sums.now in
    hiding-from_rows (own_words keys g r k) (pair_words keys g r k) members (column 0 k sums) _ (length sums) c.add_rows.ensures.set
    (places-within keys.plan g r (length sums) members c.requires.meters c.requires.places)
    (length-column 0 k sums)
    (c.add_rows.ensures.rows k h ∙ ap (with_rows (pair_words keys g r k) members)
    (c.put_owns.ensures (λ i. words_of (keys.key (Own g i)) r) c.own_blocks.ensures.made k h ∙ ap (λ (own : ℕ → ℕ). with_owns own members (column 0 k sums)) (own_at keys g r k h)))
