use Rattle.std.proofs.Common.{ℕ, ◌+◌, ◌<◌, List, length, Option, None, sym, subst, ap, ◌∙◌, arith}
use Rattle.group_plan.specs.Plans.{members as members_of}
use Rattle.blind_core.specs.Blind.{AreReadings, AreGroupWords}
use Rattle.blind_core.specs.Columns.{column}
use Rattle.blind_core.proofs.ColumnLemmas.{length-column}
use Rattle.rayon.proofs.ListFacts.{IfOk-then}
use Rattle.plan_meters.specs.TickFrames.{IsRow}
use Rattle.plan_meters.proofs.RowLemmas.{members-are_places, row-are_readings}
use Rattle.plan_meters.proofs.HiddenLemmas.{hide-rounds}
use Rattle.plan_meters.proofs.hidden.words_at_once.Goals as goal

pub masked_rounds-requires-clause-places : goal.masked_rounds-requires-clause-places
masked_rounds-requires-clause-places g c =
    let plan = c.args.readings.now.plan in
    let ms = c.members-members.ensures ∙ ap (λ p. members_of p.groups c.args.group c.args.first) c.plan.ensures.plan in
    rw (c.requires.masks, ms, ← c.requires.same 7 (omega arith)) (members-are_places plan c.args.group (c.args.first + 7) c.requires.rounds)

pub masked_rounds-requires-clause-meters : goal.masked_rounds-requires-clause-meters
masked_rounds-requires-clause-meters g c =
    let rows = c.in_ok-rows.rows.items in
    let first : IsRow c.args.readings.now c.args.group (c.args.first + 0) (column None 0 rows) = c.in_ok-rows.ensures 0 (omega arith) in
    rw c.requires.masks (ap length c.deref.ensures.value ∙ sym (length-column None 0 rows) ∙ first.long)

pub masked_rounds-requires-clause-readings : goal.masked_rounds-requires-clause-readings
masked_rounds-requires-clause-readings g c j h =
    let readings = c.args.readings.now in
    let rows = c.deref.result.now in
    let ms = c.members-members.ensures ∙ ap (λ p. members_of p.groups c.args.group c.args.first) c.plan.ensures.plan in
    let row : IsRow readings c.args.group (c.args.first + j) (column None j rows) =
    subst (λ (l : List (List (Option ℕ))). IsRow readings c.args.group (c.args.first + j) (column None j l)) (sym c.deref.ensures.value) (c.in_ok-rows.ensures j h) in
    let are : AreReadings (members_of readings.plan.groups c.args.group (c.args.first + j)) (column None j rows) =
    row-are_readings readings c.args.group (c.args.first + j) (column None j rows) c.plan.ensures.table row in
    subst (λ (l : List ℕ). AreReadings l (column None j rows)) (c.requires.same j h ∙ sym ms) are

pub returns : goal.returns
returns g c =
    let readings = c.args.readings.now in
    let m = g.M.Masks.table c.args.masks.now in
    let group = c.args.group in
    let first = c.args.first in
    let all = c.members-members.result in
    let rows = c.deref.result.now in
    let ms = c.members-members.ensures ∙ ap (λ p. members_of p.groups group first) c.plan.ensures.plan in
    let are_rows : (j : ℕ) → j < 8 → IsRow readings group (first + j) (column None j rows) =
    λ j h. subst (λ (l : List (List (Option ℕ))). IsRow readings group (first + j) (column None j l)) (sym c.deref.ensures.value) (c.in_ok-rows.ensures j h) in
    let are_words : (j : ℕ) → j < 8 → AreGroupWords (m.own group (first + j)) (m.pair group (first + j)) all (column None j rows) (column 0 j c.deref-2.result.now) =
    λ j h. subst (λ (l : List (List ℕ)). AreGroupWords (m.own group (first + j)) (m.pair group (first + j)) all (column None j rows) (column 0 j l)) (sym c.deref-2.ensures.value) (c.in_ok-words.ensures j h) in
    IfOk-then c.words_by_round.result _ _ c.words_by_round.ensures
    (λ out are. hide-rounds readings m group first all rows c.deref-2.result.now out.items c.requires.same ms are_rows are_words are)
