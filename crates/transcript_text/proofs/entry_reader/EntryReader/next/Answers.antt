use Rattle.std.proofs.Common.{◌∙◌, ◌+◌, ap, arith, refl, sym, subst, Ok, Err}
use Rattle.std.proofs.lemmas.Bool.Decides.{nat_tests}
use Rattle.group_plan.specs.Plans.{PlanView}
use Rattle.field_texts.specs.Parts.{parts}
use Rattle.event_schedule.specs.Transcripts.{Fits}
use Rattle.transcript_text.specs.Readers.{ReaderView}
use Rattle.transcript_text.proofs.EntryBack.{row_back}
use Rattle.transcript_text.proofs.NextEntry.{next_breaks, next_ends, next_entry, next_goes_on, next_lacks, next_miscounts}
use Rattle.transcript_text.proofs.entry_reader.EntryReader.next.Goals as goal

pub returns-in_default : goal.returns-in_default
returns-in_default c =
    let r = c.self.inside in
    (ap (λ (v : ReaderView). v.left) (sym c.self.view_is) ∙ next_lacks r.version r.plan r.line r.last r.count r.rest.now (parts 10 r.rest.now) (rw c.in_default.is at c.cut_far.ensures), refl)

pub returns-then-count-self : goal.returns-then-count-self
returns-then-count-self c =
    let r = c.self.inside in (
      ap (λ (v : ReaderView). v.left) (sym c.self.view_is) ∙ next_miscounts r.version r.plan r.line r.last r.count c.in-Some.line.now c.in-Some.after.now (parts 10 r.rest.now) c.in-Some.ensures.0
          c.in-Ok-Last.count (sym (ap Ok c.in-Ok-Last.field-0-is) ∙ c.in-Ok-Last.ensures) (grind (arith, nat_tests)),
      refl,
    )

pub returns-then-not-is_empty : goal.returns-then-not-is_empty
returns-then-not-is_empty c =
    let r = c.self.inside in (
      ap (λ (v : ReaderView). v.left) (sym c.self.view_is) ∙ next_goes_on r.version r.plan r.line r.last r.count c.in-Some.line.now c.in-Some.after.now (parts 10 r.rest.now) c.in-Some.ensures.0
          c.in-Ok-Last.count (sym (ap Ok c.in-Ok-Last.field-0-is) ∙ c.in-Ok-Last.ensures) (grind (arith, nat_tests)) (grind (arith, nat_tests, c.is_empty.ensures)),
      refl,
    )

pub returns-in-Ok-Entry : goal.returns-in-Ok-Entry
returns-in-Ok-Entry c =
    let r = c.self.inside in
    let entry = c.in-Ok-Entry.entry in
    let spelled = sym (ap Ok c.in-Ok-Entry.field-0-is) ∙ c.in-Ok-Entry.ensures in
    let read = row_back r.version r.plan r.last (parts 44 c.in-Some.line.now) entry c.groups-groups.ensures.limits.meters (sym spelled) in
    let cut = c.in-Some.ensures in
    let last = ap (λ (v : ReaderView). v.last) c.self.view_is in
    let bytes = ap (λ (v : ReaderView). v.bytes) c.self.view_is in
    record {
      left = ap (λ (v : ReaderView). v.left) (sym c.self.view_is) ∙ next_entry r.version r.plan r.line r.last r.count c.in-Some.line.now c.in-Some.after.now (parts 10 r.rest.now) cut.0 entry spelled;
      plan = ap (λ (v : ReaderView). v.plan) c.self.view_is;
      line = ap (λ (v : ReaderView). v.line + 1) c.self.view_is;
      last = refl;
      tick = omega (arith, read.after, last);
      fits = subst (λ (p : PlanView). Fits p entry) (ap (λ (v : ReaderView). v.plan) c.self.view_is) read.fits;
      bytes = omega (arith, cut.1, bytes);
    }

pub returns-else-not-is_empty : goal.returns-else-not-is_empty
returns-else-not-is_empty c =
    let r = c.self.inside in (
      ap (λ (v : ReaderView). v.left) (sym c.self.view_is) ∙ next_ends r.version r.plan r.line r.last r.count c.in-Some.line.now c.in-Some.after.now (parts 10 r.rest.now) c.in-Some.ensures.0
          c.in-Ok-Last.count (sym (ap Ok c.in-Ok-Last.field-0-is) ∙ c.in-Ok-Last.ensures) (grind (arith, nat_tests)) (grind (arith, nat_tests, c.is_empty.ensures)),
      refl,
    )

pub returns-in-Err : goal.returns-in-Err
returns-in-Err c =
    let r = c.self.inside in (
      ap (λ (v : ReaderView). v.left) (sym c.self.view_is) ∙ next_breaks r.version r.plan r.line r.last r.count c.in-Some.line.now c.in-Some.after.now (parts 10 r.rest.now) c.in-Some.ensures.0
          c.in-Err.fault c.in-Err.ensures ∙ ap Err (sym c.in_line.ensures),
      refl,
    )
