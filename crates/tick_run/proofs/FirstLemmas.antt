-- A run before its first tick.
use Rattle.std.proofs.Common.{◌≡◌, ℕ, zero, suc, ◌+◌, ◌*◌, ◌<◌, List, [], ◌∷◌, ◌++◌, length, map, get_or, refl, sym, ap, ◌∙◌, subst, append-nil, arith}
use Rattle.std.specs.List.{All, AllZip, flat_map, range_with_len}
use Rattle.std.proofs.lemmas.List.Elements.{All-nil}
use Rattle.missing_round.specs.Masks.{Masks}
use Rattle.group_plan.specs.Tables.{ReadingsView, PresenceView, presence_of}
use Rattle.lossy_link.specs.Arrivals.{Arrival}
use Rattle.meter_frames.specs.declared.Frame.{Frame}
use Rattle.meter_frames.specs.Frames.{FitsKind}
use Rattle.event_schedule.specs.declared.Line.{Line}
use Rattle.event_schedule.specs.declared.Entry.{Entry}
use Rattle.event_schedule.specs.Events.{event_of, lines_of}
use Rattle.event_schedule.specs.Transcripts.{TranscriptView, no_entries}
use Rattle.event_schedule.specs.ByGroup.{group_of, lines_in}
use Rattle.group_book.specs.Replay.{IsLedger}
use Rattle.run_rows.specs.ByGroup.{entries_in}
use Rattle.run_rows.specs.Ticks.{moment, sent_at}
use Rattle.plan_meters.proofs.RangeLemmas.{range_weaker}
use Rattle.shared_book.specs.declared.parts.SharedBook.{SharedBook}
use Rattle.shared_book.specs.Ends.{opening, view}
use Rattle.shared_book.specs.Passes.{PassView, new_pass}
use Rattle.shared_book.specs.Turns.{journal_after}
use Rattle.tick_run.specs.declared.running.Group.{Group}
use Rattle.tick_run.specs.declared.running.Running.{Running}
use Rattle.tick_run.specs.ByGroups.{IsAt, StandsFor, AllStand, AreWhole}
use Rattle.tick_run.specs.GroupRuns.{book_with, script_of, posted_all}
use Rattle.tick_run.specs.Running.{AreRunning, starting}
use Rattle.tick_run.specs.Whole.{IsShared, RunsAt, IsFirst}
use Rattle.tick_run.proofs.StateLemmas.{starts}

-- what a list gives as it is
pub map-same : {A : Type 0} (xs : List A) → map (λ x. x) xs ≡ xs
map-same [] = refl
map-same (x ∷ xs) = ap (λ l. x ∷ l) (map-same xs)

-- ---- the groups before the first tick

module _ (book : SharedBook) (readings : ReadingsView) (presence : (opening book).presence ≡ presence_of readings) (empty : (opening book).journal ≡ []) where
  -- no line of a book without any
  no_lines : (v : PassView) (n : ℕ) → v ≡ new_pass n [] → journal_after (opening book) v.seen ≡ []
  no_lines v n new = ap (λ (u : PassView). journal_after (opening book) u.seen) new ∙ append-nil (opening book).journal ∙ empty

  first_ledger : (g : ℕ) (it : Group) → IsFirst book readings g it → IsLedger (presence_of readings) []
  first_ledger g it first =
      subst (λ (j : List Line). IsLedger (presence_of readings) j) (no_lines (view it.pass) (g + 1) first.new)
      (subst (λ (p : PresenceView). IsLedger p (journal_after (opening book) (view it.pass).seen)) presence first.pass.legal)

  first_stands : (m : Masks) (g : ℕ) (it : Group) → g < length readings.plan.groups → IsFirst book readings g it → IsAt book readings m 0 [] g it
  first_stands m g it lt first = record {
    number = first.number;
    stands = record {
      inside = lt;
      own = All-nil (λ (e : Entry). group_of (event_of e.line) ≡ g);
      long = ap length first.fates ∙ sym (ap length first.frames);
      fits = subst (All (λ (f : Frame). FitsKind f.tag.kind f.missing f.word)) (sym first.frames) (All-nil (λ (f : Frame). FitsKind f.tag.kind f.missing f.word));
      running = subst (λ (fs : List Frame). AreRunning readings m (g ∷ []) (starting 0) (book_with readings []) (script_of readings []) (posted_all 0 fs it.work.fates.items it.work.link)) (sym first.frames)
          (subst (λ (l : List Arrival). AreRunning readings m (g ∷ []) (starting 0) (book_with readings []) (script_of readings []) l) (sym first.link)
          (starts readings m (g ∷ []) (book_with readings []) refl refl));
      ledger = first_ledger g it first;
      meters = record { table = (first_ledger g it first).table; are = first.meters };
    };
    turns = record {
      of = first.pass;
      number = ap (λ (v : PassView). v.number) first.new;
      free = ap (λ (v : PassView). v.held) first.new;
      seen = ap (lines_in g) (no_lines (view it.pass) (g + 1) first.new);
      mine = ap (λ (v : PassView). v.mine) first.new;
    };
  }

-- ---- the run

no_tags : (a n u : ℕ) → flat_map (λ g. sent_at (entries_in g []) u) (range_with_len a n) ≡ []
no_tags a zero u = refl
no_tags a (suc n) u = no_tags (a + 1) n u

pub whole-first : (n : ℕ) → AreWhole n 0 []
whole-first n = record {
  ordered = tt;
  before = All-nil (λ (e : Entry). moment e < 3 * 0);
  of_plan = All-nil (λ (e : Entry). group_of (event_of e.line) < n);
  turns = λ u. sym (no_tags 0 n u);
}

-- a run of groups of which nothing was taken, with no line
pub first-runs : (readings : ReadingsView) (m : Masks) (run : Running) → IsShared readings run.shared run.first → run.journal.items ≡ [] → run.transcript ≡ no_entries readings.plan
    → AllZip (IsFirst run.shared readings) (range_with_len 0 (length readings.plan.groups)) run.groups.items → RunsAt readings m 0 run
first-runs readings m run shared journal transcript all =
    let none : run.transcript.entries ≡ [] = ap (λ (t : TranscriptView). t.entries) transcript in
    record {
      shared = shared;
      plan = ap (λ (t : TranscriptView). t.plan) transcript;
      journal = journal ∙ sym (ap lines_of none);
      whole = subst (AreWhole (length readings.plan.groups) 0) (sym none) (whole-first (length readings.plan.groups));
      stand = subst (λ (es : List Entry). AllStand run.shared readings m 0 es run.groups.items) (sym none)
          (range_weaker (IsFirst run.shared readings) (StandsFor run.shared readings m 0 []) 0 (length readings.plan.groups) run.groups.items
          (λ g it low high first. first_stands run.shared readings shared.presence shared.empty m g it (omega arith) first) all);
    }
