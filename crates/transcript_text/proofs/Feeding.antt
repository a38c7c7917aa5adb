-- A text that comes piece by piece.
use Rattle.std.proofs.Common.{◌≡◌, ◌∙◌, ℕ, List, [], ◌++◌, All, Vec, sym, ap, subst, append_assoc}
use Rattle.std.specs.declared.alloc.Global.{Global}
use Rattle.group_plan.specs.Plans.{PlanView}
use Rattle.event_schedule.specs.declared.Entry.{Entry}
use Rattle.event_schedule.specs.Transcripts.{Fits, NeverFalls, last_tick_from}
use Rattle.transcript_text.specs.Reading.{before}
use Rattle.transcript_text.specs.Readers.{ReaderView, left_of, over}
use Rattle.transcript_text.specs.Ahead.{AreNextLists, entries_of}
use Rattle.transcript_text.specs.Feeds.{FeedView, IsFed}

pub fed : (f : FeedView) (bytes all : List ℕ) (first last end : ReaderView) (lists : List (Vec Entry Global)) → all ≡ f.rest ++ bytes → first ≡ over f.reader all → AreNextLists first lists last → end ≡ over last []
    → IsFed f bytes (entries_of lists) (record { reader = end; rest = last.text })
fed f bytes all first last end lists all_is first_is next end_is = record {
  left = λ more.
      ap (left_of f.reader) (sym (append_assoc f.rest bytes more)) ∙ ap (λ q. left_of f.reader (q ++ more)) (sym all_is)
      ∙ ap (λ (r : ReaderView). left_of r (r.text ++ more)) (sym first_is) ∙ next.goes_on more
      ∙ ap (λ (r : ReaderView). before (entries_of lists) (left_of r (last.text ++ more))) (sym end_is);
  plan = ap (λ (r : ReaderView). r.plan) end_is ∙ next.plan ∙ ap (λ (r : ReaderView). r.plan) first_is;
  fits = subst (λ (p : PlanView). All (Fits p) (entries_of lists)) (ap (λ (r : ReaderView). r.plan) first_is) next.fits;
  ticks = subst (λ t. NeverFalls t (entries_of lists)) (ap (λ (r : ReaderView). r.last) first_is) next.ticks;
  last =
      ap (λ (r : ReaderView). r.last) end_is ∙ next.last ∙ ap (λ (r : ReaderView). last_tick_from r.last (entries_of lists)) first_is;
}
