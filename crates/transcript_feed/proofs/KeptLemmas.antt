-- Lists of entries that are put into a transcript, one list after another.
use Rattle.std.proofs.Common.{◌≡◌, ◌∙◌, ◌+◌, ◌<◌, ℕ, suc, List, [], ◌∷◌, ◌++◌, All, IfOk, Vec, Result, Ok, Err, length, drop, drop-cons, get_or, sym, ap, subst, append_assoc, arith}
use Rattle.std.proofs.lemmas.List.Elements.{All-cons, All-head, All-nil, All-tail}
use Rattle.std.specs.declared.alloc.Global.{Global}
use Rattle.group_plan.specs.Plans.{PlanView}
use Rattle.event_schedule.specs.declared.Entry.{Entry}
use Rattle.event_schedule.specs.Transcripts.{TranscriptView, Fits, NeverFalls, last_tick_from}
use Rattle.transcript_text.specs.declared.version.Version.{Version}
use Rattle.transcript_text.specs.declared.fault.ReadError.{ReadError}
use Rattle.transcript_text.specs.Heads.{read_of}
use Rattle.transcript_text.specs.ReadBack.{HasHead}
use Rattle.transcript_text.specs.Reading.{Gives}
use Rattle.transcript_feed.specs.Feeds.{FeedEnds}
use Rattle.transcript_feed.specs.Kept.{IsKept}
use Rattle.transcript_feed.proofs.TickLemmas.{first_rise, last_of_both, others_rise}

-- the list at a place, and those behind it
pub next_of : (lists : List (Vec Entry Global)) (at : ℕ) (es : Vec Entry Global) → at < length lists → get_or lists at es ≡ es → drop at lists ≡ es ∷ drop (at + 1) lists
next_of lists at es within is =
    let one : suc at ≡ at + 1 = omega arith in
    drop-cons lists at es within ∙ ap (λ (x : Vec Entry Global). x ∷ drop (suc at) lists) is ∙ ap (λ n. es ∷ drop n lists) one

all_before : (P : Entry → Type 0) (xs ys : List Entry) → All P (xs ++ ys) → All P xs
all_before P [] ys all = All-nil P
all_before P (x ∷ xs) ys all = All-cons P x xs (All-head P x (xs ++ ys) all) (all_before P xs ys (All-tail P x (xs ++ ys) all))

all_behind : (P : Entry → Type 0) (xs ys : List Entry) → All P (xs ++ ys) → All P ys
all_behind P [] ys all = all
all_behind P (x ∷ xs) ys all = all_behind P xs ys (All-tail P x (xs ++ ys) all)

-- the entries so far are put, and those of the lists behind them follow
pub record IsPut (first : TranscriptView) (all : List Entry) (t : TranscriptView) (left : List Entry) : Type 0 where
  pub plan : t.plan ≡ first.plan
  pub so_far : t.entries ++ left ≡ first.entries ++ all
  pub ticks : NeverFalls (last_tick_from 0 t.entries) left
  pub fits : All (Fits first.plan) left

module _ (first : TranscriptView) (all : List Entry) (t : TranscriptView) (left es more : List Entry) (on : IsPut first all t left) (is : left ≡ es ++ more) where
  pub can_ticks : NeverFalls (last_tick_from 0 t.entries) es
  can_ticks = first_rise (last_tick_from 0 t.entries) es more (subst (NeverFalls (last_tick_from 0 t.entries)) is on.ticks)

  pub can_fit : All (Fits t.plan) es
  can_fit = subst (λ (p : PlanView). All (Fits p) es) (sym on.plan) (all_before (Fits first.plan) es more (subst (All (Fits first.plan)) is on.fits))

  pub goes_on : (now : TranscriptView) → now ≡ record t { entries = t.entries ++ es } → IsPut first all now more
  goes_on now now_is =
      let entries : now.entries ≡ t.entries ++ es = ap (λ (v : TranscriptView). v.entries) now_is in
      let last : last_tick_from (last_tick_from 0 t.entries) es ≡ last_tick_from 0 now.entries = sym (last_of_both 0 t.entries es) ∙ ap (last_tick_from 0) (sym entries) in
      record {
        plan = ap (λ (v : TranscriptView). v.plan) now_is ∙ on.plan;
        so_far = ap (λ xs. xs ++ more) entries ∙ append_assoc t.entries es more ∙ ap (λ xs. t.entries ++ xs) (sym is) ∙ on.so_far;
        ticks = subst (λ n. NeverFalls n more) last (others_rise (last_tick_from 0 t.entries) es more (subst (NeverFalls (last_tick_from 0 t.entries)) is on.ticks));
        fits = all_behind (Fits first.plan) es more (subst (All (Fits first.plan)) is on.fits);
      }

-- what keeps all entries of a text is the transcript that the text is read as
pub is_read : (version : Version) (text : List ℕ) (r : Result TranscriptView ReadError) → FeedEnds IsKept version text r → Gives (λ (t : TranscriptView). t) r (read_of version text)
is_read version text (Ok t) ends = ends.1 ∙ ap Ok (sym ends.2)
is_read version text (Err f) fails = fails

pub has_head : (version : Version) (text : List ℕ) (r : Result TranscriptView ReadError) → FeedEnds IsKept version text r → IfOk r (λ t. HasHead version t.plan)
has_head version text (Ok t) ends = subst (HasHead version) (sym (ap (λ (v : TranscriptView). v.plan) ends.2)) ends.3
has_head version text (Err f) fails = tt
