use Rattle.std.proofs.Common.{◌≡◌, ◌≤◌, length, sym, ap, ◌∙◌, subst, arith}
use Rattle.group_plan.specs.Plans.{size}
use Rattle.missing_round.specs.Sets.{is_member as is_in}
use Rattle.group_book.specs.Books.{shape_of, past}
use Rattle.rayon.proofs.ListFacts.{IfOk-then}
use Rattle.twin_worlds.specs.Answers.{AreAnswers}
use Rattle.twin_worlds.proofs.AnswerRows.{survivors-places, missing-places, survivor-there, answers-row}
use Rattle.twin_worlds.proofs.answer_words.answers_of_round.Goals as goal

pub answers-words-requires-clause-meters : goal.answers-words-requires-clause-meters
answers-words-requires-clause-meters g c =
    rw c.requires.masks (survivors-places c.args.book.now c.args.group c.args.round c.outcome-survivors.result.survivors c.requires.round (ap (λ o. o.survivors) c.outcome-survivors.ensures.outcome))

pub answers-words-requires-clause-missing : goal.answers-words-requires-clause-missing
answers-words-requires-clause-missing g c =
    rw c.requires.masks (missing-places c.args.book.now c.args.group c.args.round c.in-Some.missing c.requires.round c.in-Some.ensures.1)

pub answers-words-requires-clause-apart : goal.answers-words-requires-clause-apart
answers-words-requires-clause-apart g c i inside =
    let b = c.args.book.now in
    ap (is_in i) c.in-Some.ensures.1
    ∙ survivor-there (shape_of b) c.args.group c.args.round i (past b) (ap (is_in i) (sym (ap (λ o. o.survivors) c.outcome-survivors.ensures.outcome)) ∙ inside)

pub returns-in-Some : goal.returns-in-Some
returns-in-Some g c =
    let b = c.args.book.now in
    let m = g.M.Masks.table c.args.masks.now in
    let n = c.meters-meters.result in
    let words = c.answers-words.result in
    let long : n ≡ size b.presence.plan.groups c.args.group = c.meters-meters.ensures.meters ∙ ap (λ p. size p.groups c.args.group) c.plan.ensures in
    let enough : n ≤ length words = omega (arith, c.meters-meters.ensures.few) in
    IfOk-then c.from_slice.result _ _ c.from_slice.ensures.items
    (λ row is. subst (AreAnswers m b c.args.group c.args.round) (sym is)
    (answers-row m b c.args.group c.args.round n c.in-Some.missing words c.in-Some.ensures.1 long enough
    (λ i inside. c.answers-words.ensures i (ap (is_in i) (ap (λ o. o.survivors) c.outcome-survivors.ensures.outcome) ∙ inside))))
