use Rattle.std.proofs.lemmas.Option.{get_or_from_slice_get, slice_get_within}
use Rattle.twin_worlds.proofs.WorldWords.{has-answers, answer-is}
use Rattle.twin_worlds.proofs.world.answer_word.Goals as goal

pub row-words-requires : goal.row-words-requires
row-words-requires g c =
    let w = c.args.world.now in
    (has-answers (g.M.Masks.table w.known.masks.now) w.book.now w.answers c.args.group c.args.round c.args.meter c.requires.world.groups c.requires.world.answers c.requires.place).0

pub bounds-words-meter : goal.bounds-words-meter
bounds-words-meter g c =
    let w = c.args.world.now in
    slice_get_within c.row-words.result.now c.args.meter _
    (answer-is w.known.readings.now (g.M.Masks.table w.known.masks.now) w.book.now w.answers c.args.group c.args.round c.args.meter c.row-words.result.now c.plan-plan.ensures.table
    c.requires.world.presence c.requires.world.groups c.requires.world.answers c.requires.place c.requires.taken c.row-words.ensures)

pub returns : goal.returns
returns g c =
    let w = c.args.world.now in
    get_or_from_slice_get c.row-words.result.now c.args.meter _ 0
    (answer-is w.known.readings.now (g.M.Masks.table w.known.masks.now) w.book.now w.answers c.args.group c.args.round c.args.meter c.row-words.result.now c.plan-plan.ensures.table
    c.requires.world.presence c.requires.world.groups c.requires.world.answers c.requires.place c.requires.taken c.row-words.ensures)
