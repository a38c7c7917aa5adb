use Rattle.std.proofs.Common.{◌≡◌, ◌++◌, sym, subst, length, OnOk, map, filter, is_some}
use Rattle.group_plan.specs.Plans.{members as members_of}
use Rattle.group_plan.specs.Tables.{reading}
use Rattle.plan_meters.specs.Hidden.{Hide}
use Rattle.plan_meters.specs.TickFrames.{reading_frame, word_frame}
use Rattle.plan_meters.proofs.RowLemmas.{members-are_places, members-below, word-frames, hide-long}
use Rattle.plan_meters.proofs.HiddenLemmas.{has-row, words-hide}
use Rattle.plan_meters.proofs.frames.add_readings.Goals as goal

pub row-words-requires : goal.row-words-requires
row-words-requires g c = has-row c.args.known.now.readings.now (g.M.Masks.table c.args.known.now.masks.now) c.args.known.now.hidden c.args.group c.args.round c.requires.known.hidden c.requires.group c.requires.round

pub add_words-requires-clause-places : goal.add_words-requires-clause-places
add_words-requires-clause-places g c = rw c.requires.members (members-are_places c.args.known.now.readings.now.plan c.args.group c.args.round c.requires.round)

pub add_words-requires-clause-within : goal.add_words-requires-clause-within
add_words-requires-clause-within g c =
    let group = c.args.group in
    let r = c.args.round in
    let readings = c.args.known.now.readings.now in
    let hide : Hide readings (g.M.Masks.table c.args.known.now.masks.now) group r c.row-words.result.now
    = subst (Hide readings (g.M.Masks.table c.args.known.now.masks.now) group r) (sym c.row-words.ensures) (words-hide readings (g.M.Masks.table c.args.known.now.masks.now) c.args.known.now.hidden group r c.requires.known.hidden c.requires.group c.requires.round) in
    rw c.requires.members (members-below readings.plan.groups group r (length c.row-words.result.now) (hide-long readings (g.M.Masks.table c.args.known.now.masks.now) group r c.row-words.result.now hide))

pub returns : goal.returns
returns g c =
    let group = c.args.group in
    let r = c.args.round in
    let readings = c.args.known.now.readings.now in
    let ms = members_of readings.plan.groups group r in
    let m = g.M.Masks.table c.args.known.now.masks.now in
    let hide : Hide readings m group r c.row-words.result.now = subst (Hide readings m group r) (sym c.row-words.ensures) (words-hide readings (g.M.Masks.table c.args.known.now.masks.now) c.args.known.now.hidden group r c.requires.known.hidden c.requires.group c.requires.round) in
    let all : map (word_frame group r c.row-words.result.now) (filter (λ i. is_some (reading readings.table group r i)) c.args.members.now)
    ≡ map (reading_frame readings.plan.groups (reading readings.table) m group r) (filter (λ i. is_some (reading readings.table group r i)) c.args.members.now) = rw c.requires.members (word-frames readings m group r c.row-words.result.now hide) in
    subst (λ l. OnOk c.add_words.result (c.add_words.new.frames.items ≡ c.args.frames.now.items ++ l)) all c.add_words.ensures
