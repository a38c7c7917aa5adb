use Rattle.std.proofs.Common.{◌∙◌}
use Rattle.std.proofs.lemmas.List.{get_or_default}
use Rattle.plan_meters.specs.Hidden.{Hide}
use Rattle.twin_worlds.proofs.WorldWords.{has-words, round-hidden, meter-below, hidden-word}
use Rattle.twin_worlds.proofs.world.reading_word.Goals as goal

pub row-words-requires : goal.row-words-requires
row-words-requires g c =
    let w = c.args.known.now in
    has-words w.readings.now (g.M.Masks.table w.masks.now) w.hidden c.args.group c.args.round c.args.meter c.requires.known.hidden c.requires.place

pub bounds-words-meter : goal.bounds-words-meter
bounds-words-meter g c =
    let w = c.args.known.now in
    let m = g.M.Masks.table w.masks.now in
    let hide : Hide w.readings.now m c.args.group c.args.round c.row-words.result.now
    = round-hidden w.readings.now m w.hidden c.args.group c.args.round c.args.meter c.row-words.result.now c.requires.known.hidden c.requires.place c.row-words.ensures in
    meter-below w.readings.now m c.args.group c.args.round c.args.meter c.row-words.result.now hide c.requires.place

pub returns : goal.returns
returns g c present =
    let w = c.args.known.now in
    let m = g.M.Masks.table w.masks.now in
    let hide : Hide w.readings.now m c.args.group c.args.round c.row-words.result.now
    = round-hidden w.readings.now m w.hidden c.args.group c.args.round c.args.meter c.row-words.result.now c.requires.known.hidden c.requires.place c.row-words.ensures in
    c.index-words-meter.is
    ∙ get_or_default c.row-words.result.now c.args.meter c.index-words-meter.result 0 (meter-below w.readings.now m c.args.group c.args.round c.args.meter c.row-words.result.now hide c.requires.place)
    ∙ hidden-word w.readings.now m c.args.group c.args.round c.args.meter c.row-words.result.now hide c.requires.place present
