-- The words of readings that are made before.
use Rattle.std.proofs.Common.{◌≡◌, ◌∙◌, ℕ, ◌+◌, ◌<◌, ◌≤◌, true, nat_lt, IsTrue, List, length, refl, sym, ap, subst, arith, Option, Some, None, is_some, unwrap_or}
use Rattle.std.specs.Prelude.{slice_index, slice_index_or}
use Rattle.std.proofs.lemmas.Bool.{and_parts, ltb-true}
use Rattle.blind_core.specs.Blind.{word_or_0}
use Rattle.group_plan.specs.declared.Tag.{Tag}
use Rattle.group_plan.specs.Plans.{PlanView, members, size}
use Rattle.group_plan.specs.Tables.{reading}
use Rattle.group_plan.proofs.MeterNumbers.{group-lt}
use Rattle.missing_round.specs.Words.{reading_word}
use Rattle.pair_keys.specs.Keys.{Keys}
use Rattle.plan_files.specs.Registers.{RegistersView, table}
use Rattle.plan_meters.specs.Hidden.{HasRow, Hide, words_in}
use Rattle.plan_meters.specs.declared.hidden.HiddenReadings.{HiddenReadings}
use Rattle.plan_meters.proofs.HiddenLemmas.{has-row, words-hide}
use Rattle.event_schedule.specs.Transcripts.{HasPlace}
use Rattle.register_words.specs.Readings.{AreMade, readings_in}
use Rattle.register_words.specs.Sides.{register_contents}
use Rattle.register_words.specs.Words.{register_streams}

meter_below : (plan : PlanView) (tag : Tag) → HasPlace plan tag → tag.meter < size plan.groups tag.group
meter_below plan tag place = ltb-true tag.meter (size plan.groups tag.group) (and_parts (nat_lt tag.round plan.rounds) (nat_lt tag.meter (size plan.groups tag.group)) place).1

round_below : (plan : PlanView) (tag : Tag) → HasPlace plan tag → tag.round < plan.rounds
round_below plan tag place = ltb-true tag.round plan.rounds (and_parts (nat_lt tag.round plan.rounds) (nat_lt tag.meter (size plan.groups tag.group)) place).0

group_below : (plan : PlanView) (tag : Tag) → HasPlace plan tag → tag.group < length plan.groups
group_below plan tag place = group-lt plan.groups tag.group tag.meter (meter_below plan tag place)

-- the group has words in the round
pub made_row : (registers : RegistersView) (keys : Keys) (hidden : HiddenReadings) (tag : Tag) → AreMade registers keys hidden → HasPlace registers.plan tag → HasRow hidden tag.group tag.round
made_row registers keys hidden tag made place =
    has-row (readings_in registers 1) (register_streams 1 keys) hidden tag.group tag.round made.hides (group_below registers.plan tag place) (round_below registers.plan tag place)

hides : (registers : RegistersView) (keys : Keys) (hidden : HiddenReadings) (tag : Tag) → AreMade registers keys hidden → HasPlace registers.plan tag
    → Hide (readings_in registers 1) (register_streams 1 keys) tag.group tag.round (words_in hidden tag.group tag.round)
hides registers keys hidden tag made place =
    words-hide (readings_in registers 1) (register_streams 1 keys) hidden tag.group tag.round made.hides (group_below registers.plan tag place) (round_below registers.plan tag place)

-- one of them is the meter's
pub made_within : (registers : RegistersView) (keys : Keys) (hidden : HiddenReadings) (tag : Tag) (words : List ℕ) → AreMade registers keys hidden → HasPlace registers.plan tag
    → words ≡ words_in hidden tag.group tag.round → tag.meter < length words
made_within registers keys hidden tag words made place are =
    let hide = hides registers keys hidden tag made place in
    omega (arith, meter_below registers.plan tag place, ap length are, hide.are.long, hide.is.long)

some_word : (own : ℕ → ℕ) (pair : ℕ → ℕ → ℕ) (ms : List ℕ) (i : ℕ) (x : Option ℕ) → is_some x ≡ true → word_or_0 own pair ms i x ≡ reading_word own pair ms i (unwrap_or x 0)
some_word own pair ms i None there = cc there
some_word own pair ms i (Some x) there = refl

-- which is the word of its reading
pub made_word : (registers : RegistersView) (keys : Keys) (hidden : HiddenReadings) (tag : Tag) (words : List ℕ) → AreMade registers keys hidden → HasPlace registers.plan tag
    → words ≡ words_in hidden tag.group tag.round → is_some (reading (table registers 1) tag.group tag.round tag.meter) ≡ true
    → slice_index words tag.meter ≡ (register_contents registers keys 1).reading tag.group tag.round tag.meter
made_word registers keys hidden tag words made place are there =
    let hide = hides registers keys hidden tag made place in
    let own = (register_streams 1 keys).own tag.group tag.round in
    let pair = (register_streams 1 keys).pair tag.group tag.round in
    let ms = members registers.plan.groups tag.group tag.round in
    let below : tag.meter < length hide.row = omega (arith, meter_below registers.plan tag place, hide.is.long) in
    ap (λ (l : List ℕ). slice_index l tag.meter) are
    ∙ hide.are.each tag.meter below
    ∙ ap (λ (x : Option ℕ). word_or_0 own pair ms tag.meter x) (hide.is.each tag.meter below)
    ∙ some_word own pair ms tag.meter (reading (table registers 1) tag.group tag.round tag.meter) there
