use Rattle.std.proofs.Common.{◌≡◌, ◌∙◌, ◌&&◌, ℕ, Bool, not, filter, sym, ap, arith}
use Rattle.missing_round.specs.Sets.{is_member}
use Rattle.missing_round.specs.Words.{group}
use Rattle.group_plan.specs.Plans.{size, is_member as is_of}
use Rattle.event_schedule.specs.Schedule.{is_answer_sent, is_reading_taken}
use Rattle.event_schedule.proofs.RoundMembers.{one_more, one_less}
use Rattle.group_book.specs.Books.{shape_of, past}
use Rattle.ideal_masks.proofs.SiftLemmas.{of_part}
use Rattle.ideal_masks.proofs.chain.answered.Goals.{then-has_answered, else-has_answered}
use Rattle.ideal_masks.proofs.chain.answered.Goals as goal

pub loop-meter-preserved : goal.loop-meter-preserved
loop-meter-preserved c =
    let b = c.args.book.now in
    let test : ℕ → Bool = λ i. is_member i c.args.others && is_answer_sent (shape_of b) c.args.group c.args.round i (past b) in
    elim c.if-has_answered.branch [
      | then-has_answered w ↦
          w.answered-is ∙ w.with-answered.ensures ∙ one_more test c.loop-meter.meter c.loop-meter.answered c.loop-meter.invariant (sym c.has_answered.ensures ∙ w.if-has_answered.true)
      | else-has_answered w ↦ w.answered-is ∙ one_less test c.loop-meter.meter c.loop-meter.answered c.loop-meter.invariant (sym c.has_answered.ensures ∙ w.if-has_answered.false)
    ]

pub returns : goal.returns
returns c = λ pool is.
    let b = c.args.book.now in
    let test : ℕ → Bool = λ i. is_member i c.args.others && is_answer_sent (shape_of b) c.args.group c.args.round i (past b) in
    let n : ℕ = size b.presence.plan.groups c.args.group in
    let end : c.meters-meter-end.result ≡ n = c.meters-meter-end.ensures.meters ∙ ap (λ p. size p.groups c.args.group) c.plan.ensures in
    let all : c.loop-meter.meter ≡ n = omega (arith, end, c.loop-meter-test.false, c.loop-meter.auto.meter-end) in
    c.loop-meter.invariant
    ∙ ap (λ m. filter test (group m)) all
    ∙ ap (λ l. filter (λ i. is_member i l && is_answer_sent (shape_of b) c.args.group c.args.round i (past b)) (group n)) is
    ∙ of_part (is_of b.presence.plan.groups c.args.group c.args.round) (λ i. not (pool c.args.group i) && is_reading_taken (shape_of b) c.args.group c.args.round i (past b)) (λ i. is_answer_sent (shape_of b) c.args.group c.args.round i (past b)) (group n)
    ∙ sym (ap (filter (λ i. is_answer_sent (shape_of b) c.args.group c.args.round i (past b))) is)
