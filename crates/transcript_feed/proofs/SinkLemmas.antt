-- A sink that takes the entries of a text.
use Rattle.std.proofs.Common.{◌≡◌, ◌∙◌, List, [], ◌++◌, All, Ok, Err, refl, sym, ap, subst, append-nil, append_assoc}
use Rattle.group_plan.specs.Plans.{PlanView}
use Rattle.event_schedule.specs.declared.Entry.{Entry}
use Rattle.event_schedule.specs.Transcripts.{Fits, NeverFalls, last_tick_from}
use Rattle.transcript_text.specs.declared.fault.ReadError.{ReadError}
use Rattle.transcript_text.specs.declared.fault.ReadError.TheVariants as fault
use Rattle.transcript_text.specs.Ahead.{AheadView, IsNextBatch}
use Rattle.transcript_text.specs.Reading.{Fails, before}
use Rattle.transcript_feed.specs.Sinks.{CanTakeEntries, HasFront, SinkEnds, TakesEntries}
use Rattle.transcript_feed.proofs.ReadLemmas.{nothing_before, some_more}
use Rattle.transcript_feed.proofs.TickLemmas.{last_of_both}

module _ (S : Type 0) (has : S → PlanView → List Entry → Type 0) where
  -- a sink has taken these entries of those that a reader had left, and the others are left
  pub record IsOn (first : AheadView) (start : S) (es : List Entry) (r : AheadView) (sink : S) : Type 0 where
    pub so_far : before es r.left ≡ first.left
    pub plan : r.plan ≡ first.plan
    pub last : r.last ≡ last_tick_from first.last es
    pub takes : TakesEntries has start es sink

  pub none_taken : (r : AheadView) (sink : S) → IsOn r sink [] r sink
  none_taken r sink = record {
    so_far = nothing_before r.left;
    plan = refl;
    last = refl;
    takes = λ plan front taken. subst (has sink plan) (sym (append-nil front)) taken;
  }

  module _ (first : AheadView) (start : S) (es : List Entry) (r : AheadView) (sink : S) (on : IsOn first start es r sink) where
    pub can_take : (more : List Entry) (next : AheadView) → HasFront has start first.plan first.last → IsNextBatch r more next → CanTakeEntries has sink more
    can_take more next front is = record {
      plan = first.plan;
      front = front.0 ++ es;
      taken = on.takes first.plan front.0 front.1;
      fits = subst (λ (p : PlanView). All (Fits p) more) on.plan is.fits;
      ticks = subst (λ t. NeverFalls t more) (on.last ∙ ap (λ t. last_tick_from t es) front.2 ∙ sym (last_of_both 0 front.0 es)) is.ticks;
    }

    pub more_taken : (more : List Entry) (next : AheadView) (now : S) → IsNextBatch r more next → TakesEntries has sink more now → IsOn first start (es ++ more) next now
    more_taken more next now is takes = record {
      so_far = some_more es r.left first.left on.so_far more next.left is.left;
      plan = is.plan ∙ on.plan;
      last = is.last ∙ ap (λ t. last_tick_from t more) on.last ∙ sym (last_of_both first.last es more);
      takes = λ plan front taken. subst (has now plan) (append_assoc front es more) (takes plan (front ++ es) (on.takes plan front taken));
    }

    -- none is left
    pub all_taken : r.left ≡ Ok [] → (front : List Entry) → has start first.plan front → SinkEnds has first.plan (before front first.left) (Ok sink)
    all_taken none front taken = (
      front ++ es,
      ap (before front) (sym on.so_far ∙ ap (before es) none) ∙ ap (λ xs. Ok (front ++ xs)) (append-nil es),
      on.takes first.plan front taken,
    )

    -- a fault stands there
    wrong : (front : List Entry) (f : ReadError) → r.left ≡ Err f → before front first.left ≡ Err f
    wrong front f is = ap (before front) (sym on.so_far ∙ ap (before es) is)

    pub reading_fails : (front : List Entry) (f : ReadError) → Fails f r.left → Fails f (before front first.left)
    reading_fails front fault.Memory fails = tt
    reading_fails front (fault.Head n) fails = wrong front (fault.Head n) fails
    reading_fails front (fault.Line n) fails = wrong front (fault.Line n) fails
    reading_fails front (fault.Field n k) fails = wrong front (fault.Field n k) fails
    reading_fails front (fault.NoEnd n) fails = wrong front (fault.NoEnd n) fails
    reading_fails front (fault.Count n) fails = wrong front (fault.Count n) fails
    reading_fails front (fault.After n) fails = wrong front (fault.After n) fails
