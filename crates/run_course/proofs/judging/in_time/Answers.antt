use Rattle.std.proofs.Common.{◌≡◌, ◌<◌, ◌≤◌, ◌+◌, ◌++◌, ◌∷◌, [], List, length, take, arith, sym, subst, Ok}
use Rattle.std.specs.declared.alloc.AllocError.{AllocError}
use Rattle.event_schedule.specs.declared.Entry.{Entry}
use Rattle.run_course.specs.Beginnings.{IsSomeRun, BeginsRun}
use Rattle.run_course.specs.Courses.{Keeps, IsEntered, IsReached, JudgeEnds, WholeEnds}
use Rattle.run_course.proofs.CourseLemmas.{begins_so_far, reached_now, take_next, take_whole}
use Rattle.run_course.proofs.judging.in_time.Goals as goal

pub returns-then-not-branch : goal.returns-then-not-branch
returns-then-not-branch c =
    let t = c.args.transcript.now in
    let at = c.loop-at.at in
    let sound = c.len-at-end.ensures.sound in
    let len = c.len-at-end.ensures.len in
    let below : at < length t.entries = (let h = c.loop-at-test.true in omega (arith, len)) in
    let xs : List Entry = take at t.entries in
    let e : Entry = c.entry-entry.result in
    let judged : BeginsRun t.plan (xs ++ e ∷ []) → ⊥ = subst (λ b. JudgeEnds {E = AllocError} t.plan xs e (Ok b) c.judge.new.self) c.if-not-branch.true
    (c.in_ok-judge.ensures.judges t.plan xs c.loop-at.invariant.keeps c.loop-at.invariant.entered c.loop-at.invariant.reached) in
    record {
      there = below;
      before = begins_so_far t.plan sound.plan.limits xs c.loop-at.course c.loop-at.invariant.keeps c.loop-at.invariant.reached;
      here = λ run. judged (subst (BeginsRun t.plan) (take_next t.entries at e below c.entry-entry.ensures) run);
    }

pub loop-at-preserved : goal.loop-at-preserved
loop-at-preserved c =
    let t = c.args.transcript.now in
    let at = c.loop-at.at in
    let len = c.len-at-end.ensures.len in
    let below : at < length t.entries = (let h = c.loop-at-test.true in omega (arith, len)) in
    let xs : List Entry = take at t.entries in
    let e : Entry = c.entry-entry.result in
    let more : xs ++ e ∷ [] ≡ take (at + 1) t.entries = sym (take_next t.entries at e below c.entry-entry.ensures) in
    let went = subst (λ b. JudgeEnds {E = AllocError} t.plan xs e (Ok b) c.judge.new.self) c.if-not-branch.false
    (c.in_ok-judge.ensures.judges t.plan xs c.loop-at.invariant.keeps c.loop-at.invariant.entered c.loop-at.invariant.reached) in
    record {
      sound = c.in_ok-judge.ensures.sound;
      keeps = subst (λ l. Keeps t.plan l c.judge.new.self) more went.0;
      entered = subst (λ l. IsEntered l c.judge.new.self) more went.1;
      reached = subst (λ l. IsReached l c.judge.new.self) more (reached_now xs e c.judge.new.self went.2);
    }

pub returns-then-branch : goal.returns-then-branch
returns-then-branch c =
    let t = c.args.transcript.now in
    let at = c.loop-at.at in
    let len = c.len-at-end.ensures.len in
    let over : length t.entries ≤ at = (let h = c.loop-at-test.false in omega (arith, len)) in
    let xs : List Entry = take at t.entries in
    let whole : IsSomeRun t.plan xs = subst (λ b. WholeEnds {E = AllocError} t.plan xs (Ok b)) c.if-branch.true (c.in_ok-is_whole.ensures t.plan xs c.loop-at.invariant.keeps c.loop-at.invariant.entered) in
    subst (IsSomeRun t.plan) (take_whole t.entries at over) whole

pub returns : goal.returns
returns c =
    let t = c.args.transcript.now in
    let at = c.loop-at.at in
    let sound = c.len-at-end.ensures.sound in
    let len = c.len-at-end.ensures.len in
    let over : length t.entries ≤ at = (let h = c.loop-at-test.false in omega (arith, len)) in
    let xs : List Entry = take at t.entries in
    let all = take_whole t.entries at over in
    let none : IsSomeRun t.plan xs → ⊥ = subst (λ b. WholeEnds {E = AllocError} t.plan xs (Ok b)) c.if-branch.false (c.in_ok-is_whole.ensures t.plan xs c.loop-at.invariant.keeps c.loop-at.invariant.entered) in
    record {
      begins = subst (BeginsRun t.plan) all (begins_so_far t.plan sound.plan.limits xs c.loop-at.course c.loop-at.invariant.keeps c.loop-at.invariant.reached);
      unfinished = λ run. none (subst (IsSomeRun t.plan) (sym all) run);
    }
