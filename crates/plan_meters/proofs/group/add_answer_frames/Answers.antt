use Rattle.std.proofs.Common.{◌≡◌, ◌++◌, ◌-◌, ◌<◌, ◌≤◌, sym, ap, ◌∙◌, min, append_assoc, arith}
use Rattle.std.specs.List.{flat_map, range_with_len}
use Rattle.plan_meters.specs.TickFrames.{answers_to}
use Rattle.plan_meters.proofs.GroupLemmas.{flat_more}
use Rattle.plan_meters.proofs.CameLemmas.{answers-window}
use Rattle.plan_meters.proofs.group.add_answer_frames.Goals as goal

pub add_answers_of-requires-clause-can : goal.add_answers_of-requires-clause-can
add_answers_of-requires-clause-can g c = λ i told. c.requires.came.can c.args.group c.loop-round.round i told

pub loop-round-preserved : goal.loop-round-preserved
loop-round-preserved g c =
    let F = answers_to c.args.known.now.readings.now.plan.groups (g.M.Masks.table c.args.known.now.masks.now) c.args.came.now c.args.group in
    let first = c.min-first.result in
    let r = c.loop-round.round in
    let was = c.loop-round.invariant in
    record {
      from = let le : first ≤ r = was.from in omega arith;
      to = let lt : r < c.min-until.result = c.loop-round-test.true in omega arith;
      frames = c.in_ok-add_answers_of.ensures
          ∙ ap (λ l. l ++ F r) was.frames
          ∙ append_assoc c.args.frames.now.items (flat_map F (range_with_len first (r - first))) (F r)
          ∙ ap (λ l. c.args.frames.now.items ++ l) (sym (flat_more F first r was.from));
    }

pub returns : goal.returns
returns g c =
    let plan = c.args.known.now.readings.now.plan in
    let F = answers_to plan.groups (g.M.Masks.table c.args.known.now.masks.now) c.args.came.now c.args.group in
    let t = c.args.tick in
    let first = c.min-first.result in
    let until = c.min-until.result in
    let was = c.loop-round.invariant in
    let over : until ≤ c.loop-round.round = c.loop-round-test.false in
    let to : c.loop-round.round ≤ until = was.to in
    let at : c.loop-round.round ≡ until = omega arith in
    let w : c.w1.result ≡ plan.w1 = c.w1.ensures ∙ ap (λ p. p.w1) c.plan.ensures.plan in
    let n : c.rounds.result ≡ plan.rounds = c.rounds.ensures.rounds ∙ ap (λ p. p.rounds) c.plan-2.ensures.plan in
    let closed : c.saturating_sub-closed.result ≡ t - plan.w1 = c.saturating_sub-closed.ensures ∙ ap (λ k. t - k) w in
    let ends : until ≡ min (t - plan.w1) plan.rounds = c.min-until.ensures ∙ ap (λ k. min k c.rounds.result) closed ∙ ap (λ k. min (t - plan.w1) k) n in
    let starts : first ≡ min (t - plan.w1 - 16) until = c.min-first.ensures ∙ ap (λ k. min k until) (c.saturating_sub.ensures ∙ ap (λ k. k - 16) closed) in
    was.frames
    ∙ ap (λ k. c.args.frames.now.items ++ flat_map F (range_with_len first (k - first))) at
    ∙ ap (λ l. c.args.frames.now.items ++ l) (answers-window plan (g.M.Masks.table c.args.known.now.masks.now) c.args.came.now t c.args.group first until c.requires.came ends starts)
