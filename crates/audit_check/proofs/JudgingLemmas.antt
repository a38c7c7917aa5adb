-- A text that comes piece by piece, and the pass over its entries.
use Rattle.std.proofs.Common.{◌≡◌, ◌∙◌, ℕ, List, Option, Ok, refl, subst}
use Rattle.group_plan.specs.Plans.{PlanView}
use Rattle.event_schedule.specs.declared.Entry.{Entry}
use Rattle.transcript_text.specs.declared.version.Version.TheVariants.{Two}
use Rattle.transcript_text.specs.Readers.{IsTextOfWhatIsRead}
use Rattle.transcript_feed.specs.Sinks.{CanTakeEntries, TakesEntries}
use Rattle.transcript_feed.specs.Feeds.{FeedEnds}
use Rattle.group_book.specs.Books.{BookView}
use Rattle.audit_check.specs.declared.judging.EntryJudge.{EntryJudge}
use Rattle.audit_check.specs.Passes.{CanJudge, IsLineOf, Judges, ReadsAs}
use Rattle.audit_check.specs.Judging.{HasJudged}
use Rattle.audit_check.proofs.PassLemmas.{judged_ends, text_replayed}

pub can_judge : (judge : EntryJudge) (es : List Entry) → CanTakeEntries HasJudged judge es → CanJudge judge.pass es
can_judge judge es can = record { plan = can.plan; front = can.front; over = can.taken.1; fits = can.fits }

pub takes : (old : EntryJudge) (es : List Entry) (new : EntryJudge) → new.plan ≡ old.plan → Judges old.pass es new.pass → TakesEntries HasJudged old es new
takes old es new same judges = λ plan front judged. (same ∙ judged.0, judges plan front judged.1)

-- all entries of a text are judged
pub all_judged : (text : List ℕ) (judge : EntryJudge) (number : Option ℕ) (b : BookView) → FeedEnds HasJudged Two text (Ok judge) → IsTextOfWhatIsRead Two text
    → b ≡ judge.pass.replay.rounds → IsLineOf judge.plan judge.pass.impossible number → ReadsAs text (record { rounds = b; impossible = number })
all_judged text judge number b ends law same line =
    let t = ends.0 in
    text_replayed text t.plan (Ok t.entries) judge.pass number b ends.1 law (t.entries, refl, judged_ends t.plan t.entries judge.pass ends.2.1) same
    (subst (λ (p : PlanView). IsLineOf p judge.pass.impossible number) ends.2.0 line)
