-- A text that comes piece by piece, and the sink of its entries.
use Rattle.std.proofs.Common.{◌≡◌, ◌∙◌, ℕ, List, [], ◌++◌, All, Vec, Result, Ok, Err, sym, ap, subst, append-nil, append_assoc}
use Rattle.std.proofs.lemmas.List.Elements.{All-nil}
use Rattle.std.specs.declared.alloc.Global.{Global}
use Rattle.group_plan.specs.Plans.{PlanView}
use Rattle.event_schedule.specs.declared.Entry.{Entry}
use Rattle.event_schedule.specs.Transcripts.{Fits, NeverFalls, last_tick_from}
use Rattle.transcript_text.specs.declared.version.Version.{Version}
use Rattle.transcript_text.specs.declared.fault.ReadError.{ReadError}
use Rattle.transcript_text.specs.declared.fault.ReadError.TheVariants as fault
use Rattle.transcript_text.specs.Ahead.{AheadView, IsBehind, entries_of}
use Rattle.transcript_text.specs.Feeds.{IsFed, IsFeedOf, left_with}
use Rattle.transcript_text.specs.Heads.{read_of}
use Rattle.transcript_text.specs.ReadBack.{HasHead}
use Rattle.transcript_text.specs.Reading.{Fails, before}
use Rattle.transcript_text.specs.Readers.{ReaderView, left_of, with_entries}
use Rattle.transcript_feed.specs.declared.body.Body.{Body}
use Rattle.transcript_feed.specs.Sinks.{CanTakeEntries, SinkEnds, TakesEntries}
use Rattle.transcript_feed.specs.Feeds.{FeedEnds, IsBodyOf}
use Rattle.transcript_feed.proofs.ReadLemmas.{before_both, nothing_before}
use Rattle.transcript_feed.proofs.TickLemmas.{last_of_both}

-- the head is read, and no entry
pub begun : {R S : Type 0} (has : S → PlanView → List Entry → Type 0) (version : Version) (text : List ℕ) (b : Body R S)
    → IsFeedOf version text b.feed → has b.sink b.feed.reader.plan [] → b.read.items ≡ [] → IsBodyOf has version text b
begun has version text b fed begins none = record {
  taken = [];
  sink = begins;
  fits = subst (λ (xs : List (Vec Entry Global)). All (Fits b.feed.reader.plan) (entries_of xs)) (sym none) (All-nil (Fits b.feed.reader.plan));
  ticks = subst (λ (xs : List (Vec Entry Global)). NeverFalls 0 (entries_of xs)) (sym none) tt;
  head = fed.head;
  last = fed.last ∙ ap (λ (xs : List (Vec Entry Global)). last_tick_from 0 (entries_of xs)) (sym none);
  left = λ more.
      let left : Result (List Entry) ReadError = left_with b.feed more in
      let none_read : before (entries_of b.read.items) left ≡ left = ap (λ (xs : List (Vec Entry Global)). before (entries_of xs) left) none ∙ nothing_before left in
      fed.read more ∙ ap (with_entries b.feed.reader.plan) (sym (nothing_before (before (entries_of b.read.items) left) ∙ none_read));
}

-- what was read is taken, and more is read
pub goes_on : {R S : Type 0} (has : S → PlanView → List Entry → Type 0) (version : Version) (text bytes : List ℕ) (old new : Body R S)
    → IsBodyOf has version text old → IsFed old.feed bytes (entries_of new.read.items) new.feed
    → TakesEntries has old.sink (entries_of old.read.items) new.sink → IsBodyOf has version (text ++ bytes) new
goes_on has version text bytes old new is fed takes = record {
  taken = is.taken ++ entries_of old.read.items;
  sink = subst (λ (p : PlanView). has new.sink p (is.taken ++ entries_of old.read.items)) (sym fed.plan) (takes old.feed.reader.plan is.taken is.sink);
  fits = subst (λ (p : PlanView). All (Fits p) (entries_of new.read.items)) (sym fed.plan) fed.fits;
  ticks = subst (λ t. NeverFalls t (entries_of new.read.items)) is.last fed.ticks;
  head = subst (HasHead version) (sym fed.plan) is.head;
  last =
      fed.last ∙ ap (λ t. last_tick_from t (entries_of new.read.items)) is.last
      ∙ sym (last_of_both 0 (is.taken ++ entries_of old.read.items) (entries_of new.read.items));
  left = λ more.
      let rest : Result (List Entry) ReadError = before (entries_of new.read.items) (left_with new.feed more) in
      ap (read_of version) (append_assoc text bytes more) ∙ is.left (bytes ++ more)
      ∙ ap (λ q. with_entries old.feed.reader.plan (before is.taken (before (entries_of old.read.items) q))) (fed.left more)
      ∙ ap (with_entries old.feed.reader.plan) (before_both is.taken (entries_of old.read.items) rest)
      ∙ ap (λ (p : PlanView). with_entries p (before (is.taken ++ entries_of old.read.items) rest)) (sym fed.plan);
}

pub can_take : {R S : Type 0} (has : S → PlanView → List Entry → Type 0) (version : Version) (text : List ℕ) (b : Body R S) → IsBodyOf has version text b
    → CanTakeEntries has b.sink (entries_of b.read.items)
can_take has version text b is = record { plan = b.feed.reader.plan; front = is.taken; taken = is.sink; fits = is.fits; ticks = is.ticks }

-- what is left where these are the last bytes
pub all_left : {R S : Type 0} (has : S → PlanView → List Entry → Type 0) (version : Version) (text final : List ℕ) (b : Body R S) (is : IsBodyOf has version text b)
    (r : ReaderView) (bytes : List ℕ) (a : AheadView) → r ≡ b.feed.reader → bytes ≡ b.feed.rest ++ final → IsBehind r bytes a
    → read_of version (text ++ final) ≡ with_entries a.plan (before (is.taken ++ entries_of b.read.items) a.left)
all_left has version text final b is r bytes a r_is bytes_is behind =
    let plan : a.plan ≡ b.feed.reader.plan = behind.plan ∙ ap (λ (v : ReaderView). v.plan) r_is in
    let left : left_with b.feed final ≡ a.left = ap (left_of b.feed.reader) (sym bytes_is) ∙ ap (λ (v : ReaderView). left_of v bytes) (sym r_is) ∙ sym behind.left in
    is.left final
    ∙ ap (with_entries b.feed.reader.plan) (before_both is.taken (entries_of b.read.items) (left_with b.feed final) ∙ ap (before (is.taken ++ entries_of b.read.items)) left)
    ∙ ap (λ (p : PlanView). with_entries p (before (is.taken ++ entries_of b.read.items) a.left)) (sym plan)

-- ---- how a text ends

-- the fault of what is left is the text's
module _ (version : Version) (text : List ℕ) (plan : PlanView) (all : Result (List Entry) ReadError) (read : read_of version text ≡ with_entries plan all) where
  is_wrong : (f : ReadError) → all ≡ Err f → read_of version text ≡ Err f
  is_wrong f is = read ∙ ap (with_entries plan) is

  text_fails : (f : ReadError) → Fails f all → Fails f (read_of version text)
  text_fails fault.Memory fails = tt
  text_fails (fault.Head n) fails = is_wrong (fault.Head n) fails
  text_fails (fault.Line n) fails = is_wrong (fault.Line n) fails
  text_fails (fault.Field n k) fails = is_wrong (fault.Field n k) fails
  text_fails (fault.NoEnd n) fails = is_wrong (fault.NoEnd n) fails
  text_fails (fault.Count n) fails = is_wrong (fault.Count n) fails
  text_fails (fault.After n) fails = is_wrong (fault.After n) fails

  pub feed_ends : {S : Type 0} (has : S → PlanView → List Entry → Type 0) (r : Result S ReadError) → HasHead version plan → SinkEnds has plan all r → FeedEnds has version text r
  feed_ends has (Ok sink) head ends = (record { plan = plan; entries = ends.0 }, read ∙ ap (with_entries plan) ends.1, ends.2, head)
  feed_ends has (Err f) head fails = text_fails f fails
