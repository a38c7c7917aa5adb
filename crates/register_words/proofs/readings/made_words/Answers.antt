use Rattle.std.proofs.Common.{◌≡◌, ◌∙◌, ℕ, List, [], ◌∷◌, is_some, ap, arith, subst, sym}
use Rattle.std.specs.Prelude.{slice_index}
use Rattle.std.proofs.lemmas.List.{get_or_default}
use Rattle.group_plan.specs.Tables.{ReadingsView, reading}
use Rattle.pair_keys.specs.Keys.{table_of}
use Rattle.plan_files.specs.Registers.{table}
use Rattle.register_words.specs.Sides.{register_contents}
use Rattle.register_words.proofs.ReadingLemmas.{made_row, made_within, made_word}
use Rattle.register_words.proofs.readings.made_words.Goals as goal

pub row-requires : goal.row-requires
row-requires c = made_row c.args.tables.now (table_of c.args.keys.now) c.args.hidden.now c.args.tag c.requires.made c.requires.place

pub bounds-row-tag : goal.bounds-row-tag
bounds-row-tag c = made_within c.args.tables.now (table_of c.args.keys.now) c.args.hidden.now c.args.tag c.row.result.now c.requires.made c.requires.place c.row.ensures

pub returns : goal.returns
returns c k low lt =
    let registers = c.args.tables.now in
    let keys = table_of c.args.keys.now in
    let tag = c.args.tag in
    let one : 1 ≡ k = omega (arith, low, lt, c.requires.made.two) in
    let words : List ℕ = 0 ∷ c.value.result ∷ 0 ∷ 0 ∷ 0 ∷ 0 ∷ 0 ∷ 0 ∷ [] in
    let read : c.get.result ≡ reading (table registers 1) tag.group tag.round tag.meter =
    c.get.ensures.reading ∙ ap (λ (t : ReadingsView). reading t.table tag.group tag.round tag.meter) c.table.ensures in
    let within = made_within registers keys c.args.hidden.now tag c.row.result.now c.requires.made c.requires.place c.row.ensures in
    let value : c.value.result ≡ slice_index c.row.result.now tag.meter =
    c.value.ensures ∙ c.index-row-tag.is ∙ get_or_default c.row.result.now tag.meter c.index-row-tag.result 0 within in
    let first : slice_index words 1 ≡ (register_contents registers keys 1).reading tag.group tag.round tag.meter =
    value ∙ made_word registers keys c.args.hidden.now tag c.row.result.now c.requires.made c.requires.place c.row.ensures (sym (ap is_some read) ∙ c.if-is_none.ensures) in
    subst (λ (m : ℕ). slice_index words m ≡ (register_contents registers keys m).reading tag.group tag.round tag.meter) one first
