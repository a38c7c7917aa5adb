use Rattle.std.proofs.Common.{All, Option, Ok, Vec, [], ◌++◌, ◌∙◌, ap, refl, subst}
use Rattle.std.specs.declared.alloc.Global.{Global}
use Rattle.group_plan.specs.Plans.{PlanView}
use Rattle.event_schedule.specs.declared.Entry.{Entry}
use Rattle.event_schedule.specs.Transcripts.{Fits}
use Rattle.transcript_text.specs.Ahead.{AheadView, BatchEnds, IsNextBatch, entries_of}
use Rattle.transcript_text.specs.Reading.{before}
use Rattle.transcript_feed.proofs.ReadLemmas.{nothing_before, some_more}
use Rattle.audit_check.proofs.PassLemmas.{judges_both, judges_none, pass_ends}
use Rattle.audit_check.proofs.passing.judge_all.Goals as goal

pub batches-init : goal.batches-init
batches-init g c = ([], nothing_before c.args.reader.now.left, refl, judges_none c.args.pass)

pub read_beside-requires-after_bounds : goal.read_beside-requires-after_bounds
read_beside-requires-after_bounds g c κs within =
    let s = c.batches.invariant in
    let es = entries_of c.in-Ok-Some.batch.items in
    let next : IsNextBatch c.batches.reader es c.next_batch.new.self
    = subst (λ (o : Option (Vec (Vec Entry Global) Global)). BatchEnds c.batches.reader (Ok o) c.next_batch.new.self) c.in-Ok-Some.field-0-is c.in-Ok-Some.ensures in
    let front = c.requires in
    record { plan = c.args.reader.now.plan; front = front.0 ++ s.0; over = s.3 c.args.reader.now.plan front.0 front.1; fits = subst (λ (p : PlanView). All (Fits p) es) s.2 next.fits }

pub batches-preserved : goal.batches-preserved
batches-preserved g c =
    let s = c.batches.invariant in
    let es = entries_of c.in-Ok-Some.batch.items in
    let next : IsNextBatch c.batches.reader es c.next_batch.new.self
    = subst (λ (o : Option (Vec (Vec Entry Global) Global)). BatchEnds c.batches.reader (Ok o) c.next_batch.new.self) c.in-Ok-Some.field-0-is c.in-Ok-Some.ensures in
    let same = c.read_beside.ensures.same in (
      s.0 ++ es,
      ap (λ (v : AheadView). before (s.0 ++ es) v.left) same ∙ some_more s.0 c.batches.reader.left _ s.1 es c.next_batch.new.self.left next.left,
      ap (λ (v : AheadView). v.plan) same ∙ next.plan ∙ s.2,
      judges_both c.args.pass _ _ s.0 es s.3 c.in_ok-pass.ensures.done,
    )

pub returns-in-Ok-None-clause-ends : goal.returns-in-Ok-None-clause-ends
returns-in-Ok-None-clause-ends g c =
    let s = c.batches.invariant in
    let none = subst (λ (o : Option (Vec (Vec Entry Global) Global)). BatchEnds c.batches.reader (Ok o) c.next_batch.new.self) c.in-Ok-None.field-0-is c.in-Ok-None.ensures in
    λ judged over. pass_ends c.args.reader.now.plan judged s.0 c.args.reader.now.left c.batches.reader.left s.1 c.args.pass c.batches.pass none.0 s.3 over
