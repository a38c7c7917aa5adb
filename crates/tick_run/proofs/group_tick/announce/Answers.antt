use Rattle.std.proofs.Common.{◌≡◌, ◌++◌, ◌-◌, ◌<◌, ◌≤◌, sym, ap, ◌∙◌, subst, OnOk, append-nil, arith, ℕ, map, List, true}
use Rattle.missing_round.specs.Sets.{less}
use Rattle.group_plan.specs.Plans.{PlanView, members}
use Rattle.group_book.specs.Books.{shape_of, past}
use Rattle.group_book.specs.Replay.{book_at}
use Rattle.event_schedule.specs.Schedule.{missing, is_announced}
use Rattle.tick_run.specs.TickFrames.{announcement_frame}
use Rattle.tick_run.proofs.DueAnnouncements.{announcements-none, announcements-thin, announcements-one}
use Rattle.tick_run.proofs.group_tick.announce.Goals as goal

pub announced-requires-clause-round : goal.announced-requires-clause-round
announced-requires-clause-round c =
    let below : c.in-Some.round < c.rounds.result = c.if-round-rounds.false in
    omega (arith, below, c.rounds.ensures.rounds, c.requires.rounds)

pub returns-in_default : goal.returns-in_default
returns-in_default c = λ p j rep same.
    let b = book_at p j 0 in
    let w : c.w1.result ≡ p.plan.w1 = c.w1.ensures ∙ ap (λ (q : PlanView). q.w1) (sym same) in
    let before : c.w1.result ≤ c.args.tick → ⊥ = c.in_default.ensures in
    sym (ap (λ l. c.args.frames.now.items ++ l) (announcements-none (shape_of b) (past b) c.args.pages.now.group p.plan.w1 c.args.tick p.plan.rounds (λ r _ at. before (omega arith))) ∙ append-nil c.args.frames.now.items)

pub returns-then-round-rounds : goal.returns-then-round-rounds
returns-then-round-rounds c = λ p j rep same.
    let b = book_at p j 0 in
    let w : c.w1.result ≡ p.plan.w1 = c.w1.ensures ∙ ap (λ (q : PlanView). q.w1) (sym same) in
    let n : c.rounds.result ≡ p.plan.rounds = c.rounds.ensures.rounds ∙ ap (λ (q : PlanView). q.rounds) (sym same) in
    let at = c.in-Some.ensures in
    let from : c.w1.result ≤ c.args.tick = at.0 in
    let round : c.in-Some.round ≡ c.args.tick - c.w1.result = at.1 in
    let past_last : c.rounds.result ≤ c.in-Some.round = c.if-round-rounds.true in
    sym (ap (λ l. c.args.frames.now.items ++ l) (announcements-none (shape_of b) (past b) c.args.pages.now.group p.plan.w1 c.args.tick p.plan.rounds (λ r below is. omega arith)) ∙ append-nil c.args.frames.now.items)

pub returns-in_default-announced : goal.returns-in_default-announced
returns-in_default-announced c = λ p j rep same.
    let b = book_at p j 0 in
    let w : c.w1.result ≡ p.plan.w1 = c.w1.ensures ∙ ap (λ (q : PlanView). q.w1) (sym same) in
    let n : c.rounds.result ≡ p.plan.rounds = c.rounds.ensures.rounds ∙ ap (λ (q : PlanView). q.rounds) (sym same) in
    let at = c.in-Some.ensures in
    let from : c.w1.result ≤ c.args.tick = at.0 in
    let round : c.in-Some.round ≡ c.args.tick - c.w1.result = at.1 in
    let below : c.in-Some.round < c.rounds.result = c.if-round-rounds.false in
    sym (ap (λ l. c.args.frames.now.items ++ l) (announcements-thin (shape_of b) (past b) c.args.pages.now.group p.plan.w1 c.args.tick p.plan.rounds c.in-Some.round (omega arith) (omega arith) (c.in_default-announced.ensures p j rep)) ∙ append-nil c.args.frames.now.items)

pub returns : goal.returns
returns c = λ p j rep plan.
    let b = book_at p j 0 in
    let g = c.args.pages.now.group in
    let q = c.in-Some.round in
    let w : c.w1.result ≡ p.plan.w1 = c.w1.ensures ∙ ap (λ (z : PlanView). z.w1) (sym plan) in
    let n : c.rounds.result ≡ p.plan.rounds = c.rounds.ensures.rounds ∙ ap (λ (z : PlanView). z.rounds) (sym plan) in
    let at = c.in-Some.ensures in
    let from : c.w1.result ≤ c.args.tick = at.0 in
    let round : c.in-Some.round ≡ c.args.tick - c.w1.result = at.1 in
    let below : c.in-Some.round < c.rounds.result = c.if-round-rounds.false in
    let found = c.in-Some-announced.ensures p j rep in
    let announced : is_announced (shape_of b) g q (past b) ≡ true = found.0 in
    let set : c.in-Some-announced.missing ≡ missing (shape_of b) g q (past b) = found.1 in
    let ms : c.members-members.result ≡ members p.plan.groups g q = c.members-members.ensures ∙ ap (λ (z : PlanView). members z.groups c.group-group.result q) (sym plan) ∙ ap (λ (h : ℕ). members p.plan.groups h q) c.group-group.ensures in
    let same : map (announcement_frame g q c.in-Some-announced.missing) (less c.members-members.result c.in-Some-announced.missing)
    ≡ map (announcement_frame g q (missing (shape_of b) g q (past b))) (less (members p.plan.groups g q) (missing (shape_of b) g q (past b)))
    = ap (λ (l : List ℕ). map (announcement_frame g q l) (less c.members-members.result l)) set ∙ ap (λ (l : List ℕ). map (announcement_frame g q (missing (shape_of b) g q (past b))) (less l (missing (shape_of b) g q (past b)))) ms in
    subst (λ l. OnOk c.add_announcements.result (c.add_announcements.new.frames.items ≡ c.args.frames.now.items ++ l))
    (same ∙ sym (announcements-one (shape_of b) (past b) g p.plan.w1 c.args.tick p.plan.rounds q (omega arith) (omega arith) announced))
    (subst (λ (h : ℕ). OnOk c.add_announcements.result (c.add_announcements.new.frames.items ≡ c.args.frames.now.items ++ map (announcement_frame h q c.in-Some-announced.missing) (less c.members-members.result c.in-Some-announced.missing)))
    c.group-group.ensures c.add_announcements.ensures)
