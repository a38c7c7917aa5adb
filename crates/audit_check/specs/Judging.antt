-- The audit of a text that comes piece by piece.
use Rattle.std.specs.Prelude.{◌≡◌, ℕ, List}
use Rattle.group_plan.specs.Plans.{PlanView}
use Rattle.event_schedule.specs.declared.Entry.{Entry}
use Rattle.transcript_text.specs.declared.version.Version.TheVariants.{Two}
use Rattle.transcript_feed.specs.Feeds as feeds
use Rattle.audit_check.specs.declared.judging.EntryJudge.{EntryJudge}
use Rattle.audit_check.specs.declared.judging.TextJudge.{TextJudge}
use Rattle.audit_check.specs.Passes.{IsPassOver}

-- these entries of a transcript of this plan are judged
abbrev pub HasJudged : EntryJudge → PlanView → List Entry → Type 0
HasJudged judge plan es = (judge.plan ≡ plan) × IsPassOver plan es judge.pass

-- these are the bytes that have come
abbrev pub HasTaken : {R : Type 0} → TextJudge R → List ℕ → Type 0
HasTaken judge text = feeds.HasTaken HasJudged Two judge.feed text

-- some bytes have come
abbrev pub CanTake : {R : Type 0} → TextJudge R → Type 0
CanTake judge = (text : List ℕ) × HasTaken judge text
