use Rattle.std.proofs.Common.{◌≡◌, ◌+◌, ◌-◌, ℕ, ap, ◌∙◌}
use Rattle.std.specs.Prelude.{Option, Some, None, if◌then◌else◌}
use Rattle.run_rows.specs.Ticks.{clock_of}
use Rattle.tick_run.specs.Running.{is_due}
use Rattle.tick_run.proofs.GroupCalls.{closed-and-ended}
use Rattle.tick_run.proofs.group_tick.close_and_end.Goals as goal

pub returns : goal.returns
returns c = λ p j rep.
    let plan = c.args.plan.now in
    let t = c.args.tick in
    let g = c.args.pages.now.group in
    let first = c.close_one.ensures.calls p j rep in
    let due : ℕ → ℕ → Option ℕ = λ n w. if is_due n w t then Some (t - w) else None in
    let one : c.due_round.result ≡ due plan.rounds plan.w1 = c.due_round.ensures ∙ ap (λ n. due n c.w1-closes.result) c.rounds-rounds.ensures.rounds ∙ ap (due plan.rounds) c.w1-closes.ensures in
    let two : c.due_round-2.result ≡ due plan.rounds (plan.w1 + plan.w2)
    = c.due_round-2.ensures ∙ ap (λ n. due n (c.w1-closes.result + c.w2.result)) c.rounds-rounds.ensures.rounds
    ∙ ap (λ w. due plan.rounds (w + c.w2.result)) c.w1-closes.ensures ∙ ap (λ w. due plan.rounds (plan.w1 + w)) c.w2.ensures in
    closed-and-ended p j (clock_of plan) t g c.due_round.result c.due_round-2.result c.args.lines.now c.reserve.new.self c.close_one.new.lines c.end_one.new.lines c.close_one.new.pages c.end_one.new.pages
    c.in_ok-reserve.ensures.items one two first (c.end_one.ensures p _ first.pages)
