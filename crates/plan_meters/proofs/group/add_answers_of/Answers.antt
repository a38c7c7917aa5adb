use Rattle.std.proofs.Common.{◌≡◌, ℕ, ◌++◌, List, [], ◌∷◌, length, refl, sym, ap, ◌∙◌, subst, OnOk, true, arith, append-nil}
use Rattle.std.proofs.lemmas.Bool.{false≢true}
use Rattle.missing_round.specs.Sets.{is_member}
use Rattle.group_plan.specs.Plans.{PlanView, members}
use Rattle.group_plan.specs.declared.Kind.TheVariants.{Announcement}
use Rattle.run_rows.specs.Ticks.{tag_of}
use Rattle.plan_meters.specs.TickFrames.{announced_set, CanAnswer}
use Rattle.plan_meters.proofs.CameLemmas.{answers-heard, answers-silent, none-older}
use Rattle.plan_meters.proofs.group.add_answers_of.Goals as goal

pub add_answers-requires-clause-can : goal.add_answers-requires-clause-can
add_answers-requires-clause-can g c = λ i is.
    subst (λ (p : PlanView). CanAnswer p c.args.group c.args.round i (announced_set c.args.came.now (tag_of Announcement c.args.group c.args.round i))) (sym c.requires.known.masks)
    (c.requires.can i (sym (c.hearers_in-hearers.ensures.meters i) ∙ is))

pub returns-then-round-oldest : goal.returns-then-round-oldest
returns-then-round-oldest g c =
    let group = c.args.group in
    let r = c.args.round in
    let came = c.args.came.now in
    sym (append-nil c.args.frames.now.items)
    ∙ ap (λ l. c.args.frames.now.items ++ l) (sym (answers-silent c.args.known.now.readings.now.plan.groups (g.M.Masks.table c.args.known.now.masks.now) came group r
    (λ i told. none-older c.args.oldest group r i came c.requires.oldest c.if-round-oldest.true told)))

nobody : (i : ℕ) (heard : List ℕ) → length heard ≡ 0 → is_member i heard ≡ true → ⊥
nobody i [] none is = false≢true is
nobody i (j ∷ heard) none is = absurd (omega arith)

pub returns-then-len-eq0 : goal.returns-then-len-eq0
returns-then-len-eq0 g c =
    let heard = c.hearers_in-hearers.result.meters in
    let none : length heard ≡ 0 = sym c.len.ensures ∙ c.if-len-eq0.true in
    sym (append-nil c.args.frames.now.items)
    ∙ ap (λ l. c.args.frames.now.items ++ l) (sym (answers-silent c.args.known.now.readings.now.plan.groups (g.M.Masks.table c.args.known.now.masks.now) c.args.came.now c.args.group c.args.round
    (λ i told. nobody i heard none (c.hearers_in-hearers.ensures.meters i ∙ told))))

pub returns : goal.returns
returns g c =
    let groups = c.args.known.now.readings.now.plan.groups in
    subst (λ l. OnOk c.add_answers.result (c.add_answers.new.frames.items ≡ c.args.frames.now.items ++ l))
    (answers-heard groups (g.M.Masks.table c.args.known.now.masks.now) c.args.came.now c.args.group c.args.round c.hearers_in-hearers.result.meters (members groups c.args.group c.args.round) c.hearers_in-hearers.ensures.meters refl)
    c.add_answers.ensures
