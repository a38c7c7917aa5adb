-- What each group's entries and lines say is said of all.
use Rattle.std.proofs.Common.{◌≡◌, ◌⊎◌, ℕ, ◌+◌, ◌*◌, ◌<◌, ◌≤◌, Bool, true, false, cond, ◌&&◌, ◌||◌, List, [], ◌∷◌, ◌++◌, refl, sym, ap, ◌∙◌, subst, append-nil, arith, ⊎_elim, inl, inr}
use Rattle.std.specs.Prelude.{◌==◌, nat_lt, if◌then◌else◌, Some, None, is_some}
use Rattle.std.specs.List.{All}
use Rattle.std.proofs.lemmas.Bool.{cases_Bool, eq-eqb, eqb-true, ltb-true, lt-ltb, cases_lt}
use Rattle.std.proofs.lemmas.List.Elements.{All-weaker, All-head, All-tail, All-nil, All-cons}
use Rattle.group_plan.specs.Plans.{IsWithinLimits}
use Rattle.group_plan.specs.Tables.{PresenceView, IsPresenceTable}
use Rattle.group_plan.specs.declared.Kind.{Kind}
use Rattle.group_plan.specs.declared.Kind.TheVariants.{Reading, Announcement, Answer}
use Rattle.group_plan.specs.declared.Tag.{Tag}
use Rattle.event_schedule.specs.declared.Event.{Event}
use Rattle.event_schedule.specs.declared.Line.{Line}
use Rattle.event_schedule.specs.declared.Line.TheVariants.{Send as SendLine, Take as TakeLine, Close as CloseLine, End as EndLine}
use Rattle.event_schedule.specs.declared.Entry.{Entry}
use Rattle.event_schedule.specs.Events.{once, event_of, lines_of}
use Rattle.event_schedule.specs.Journal.{past_of, HasFramesOf}
use Rattle.event_schedule.specs.Schedule.{Shape, may_send, shape_of_presence, is_sent}
use Rattle.event_schedule.specs.Transcript.{Contents, set_sent, word_sent, frame}
use Rattle.group_book.specs.Books.{posted}
use Rattle.event_schedule.specs.ByGroup.{group_of, events_in, lines_in}
use Rattle.group_book.specs.Replay.{IsLedger}
use Rattle.event_schedule.proofs.EventsByGroup.{may_send-in, set_sent-in, missing-in, sent-in}
use Rattle.group_book.proofs.LinesByGroup.{past-in, posted-in, push-here, push-elsewhere, journal-whole}
use Rattle.run_rows.specs.ByGroup.{entries_in, IsGroupRun}
use Rattle.run_rows.specs.Ticks.{Clock, last_tick}
use Rattle.tick_run.specs.Progress.{is_round_of, RunsTo}
use Rattle.tick_run.proofs.BatchLemmas.{takes-other, sent-other}
use Rattle.tick_run.proofs.EndLemmas.{no_copies_late, nothing_due, when_in_plan}
use Rattle.tick_run.proofs.PostedLemmas.{next}
use Rattle.tick_run.proofs.StepLemmas.{earlier_ticks}

-- ---- the run of a group

-- a round of the one group
one_round : (c : Clock) (g r : ℕ) → is_round_of (g ∷ []) c g r ≡ nat_lt r c.rounds
one_round c g r = ap (λ b. (b || false) && nat_lt r c.rounds) (eq-eqb g g refl)

-- after the last tick the entries of a group are a run of it
pub is_group_run : (s : Shape) (c : Clock) (g n : ℕ) (xs : List Entry) → n ≡ last_tick c + 1 → RunsTo s c (g ∷ []) (3 * n) n n n xs → IsGroupRun s c g xs
is_group_run s c g n xs whole run =
    let ticks : All (λ e. e.tick < n) xs = earlier_ticks n xs run.before in
    let over : (u : ℕ) → n ≤ u → All (λ e. e.tick ≡ u → ⊥) xs = λ u le. All-weaker (λ e. e.tick < n) (λ e. e.tick ≡ u → ⊥) (λ e h is. omega arith) xs ticks in
    record {
      within = All-weaker (λ e. e.tick < n) (λ e. e.tick ≤ last_tick c) (λ e h. omega arith) xs ticks;
      taken = λ tag u _. ⊎_elim (λ below. run.taken tag u below) (λ above. takes-other xs tag u (over u above) ∙ sym (no_copies_late s c (g ∷ []) (3 * n) n n n xs run tag u (omega arith))) (cases_lt u n);
      closed = λ r. run.closed g r ∙ ap (λ b. cond (b && nat_lt (r + c.w1) n) ((r + c.w1) ∷ []) []) (one_round c g r)
          ∙ ap (λ b. cond b ((r + c.w1) ∷ []) []) (when_in_plan (nat_lt r c.rounds) (nat_lt (r + c.w1) n) (λ h. let r_in : r < c.rounds = ltb-true r c.rounds h in lt-ltb (r + c.w1) n (omega arith)));
      ended = λ r. run.ended g r ∙ ap (λ b. cond (b && nat_lt (r + c.w1 + c.w2) n) ((r + c.w1 + c.w2) ∷ []) []) (one_round c g r)
          ∙ ap (λ b. cond b ((r + c.w1 + c.w2) ∷ []) []) (when_in_plan (nat_lt r c.rounds) (nat_lt (r + c.w1 + c.w2) n) (λ h. let r_in : r < c.rounds = ltb-true r c.rounds h in lt-ltb (r + c.w1 + c.w2) n (omega arith)));
      sent = λ u. ⊎_elim (λ below. run.sent u below ∙ append-nil _) (λ above. sent-other xs u (over u above) ∙ sym (nothing_due s c xs u (omega arith) (λ tag. takes-other xs tag u (over u above)) g)) (cases_lt u n);
      others = run.others;
    }

-- ---- the lines of a group

pub lines-in : (g : ℕ) (xs : List Entry) → lines_of (entries_in g xs) ≡ lines_in g (lines_of xs)
lines-in g [] = refl
lines-in g (x ∷ xs) = step (group_of (event_of x.line) == g) (lines-in g xs)
  where
    step : (b : Bool) → lines_of (entries_in g xs) ≡ lines_in g (lines_of xs) → lines_of (cond b (x ∷ entries_in g xs) (entries_in g xs)) ≡ cond b (x.line ∷ lines_in g (lines_of xs)) (lines_in g (lines_of xs))
    step true rest = ap (λ l. x.line ∷ l) rest
    step false rest = rest

-- no entry is of a group beyond the plan's
pub none-beyond : (n g : ℕ) (xs : List Entry) → All (λ e. group_of (event_of e.line) < n) xs → n ≤ g → entries_in g xs ≡ []
none-beyond n g [] all beyond = refl
none-beyond n g (e ∷ xs) all beyond =
    ap (λ b. cond b (e ∷ entries_in g xs) (entries_in g xs)) (off (cases_Bool (group_of (event_of e.line) == g))) ∙ none-beyond n g xs (All-tail (λ e. group_of (event_of e.line) < n) e xs all) beyond
  where
    off : ((group_of (event_of e.line) == g) ≡ true) ⊎ ((group_of (event_of e.line) == g) ≡ false) → (group_of (event_of e.line) == g) ≡ false
    off (inl here) =
        let is : group_of (event_of e.line) ≡ g = eqb-true (group_of (event_of e.line)) g here in
        let below : group_of (event_of e.line) < n = All-head (λ e. group_of (event_of e.line) < n) e xs all in
        absurd (omega arith)
    off (inr other) = other

-- what holds of each group's part holds of all
pub all-parts : (P : Entry → Type 0) (n : ℕ) (xs : List Entry) → All (λ e. group_of (event_of e.line) < n) xs → ((g : ℕ) → g < n → All P (entries_in g xs)) → All P xs
all-parts P n [] within parts = All-nil P
all-parts P n (e ∷ xs) within parts =
    All-cons P e xs (All-head P e (entries_in k xs) here)
    (all-parts P n xs (All-tail (λ e. group_of (event_of e.line) < n) e xs within) (λ g lt. rest (group_of (event_of e.line) == g) (entries_in g xs) (parts g lt)))
  where
    k : ℕ
    k = group_of (event_of e.line)

    here : All P (e ∷ entries_in k xs)
    here = subst (λ b. All P (cond b (e ∷ entries_in k xs) (entries_in k xs))) (eq-eqb k k refl) (parts k (All-head (λ e. group_of (event_of e.line) < n) e xs within))

    rest : (b : Bool) (ys : List Entry) → All P (cond b (e ∷ ys) ys) → All P ys
    rest true ys all = All-tail P e ys all
    rest false ys all = all

-- ---- the frames of Sends

word-in : (s : Shape) (w : Contents) (g : ℕ) (k : Kind) (r i : ℕ) (p : List Event) → word_sent s w k g r i (events_in g p) ≡ word_sent s w k g r i p
word-in s w g Reading r i p = refl
word-in s w g Announcement r i p = refl
word-in s w g Answer r i p = ap (w.answer g r i) (missing-in s g r p)

-- the frame of a Send, by all events and by those of its group
frame-own : (s : Shape) (w : Contents) (tag : Tag) (p : List Event) → frame s w tag (events_in tag.group p) ≡ frame s w tag p
frame-own s w tag p =
    ap (λ b. if b then Some (record { tag = tag; missing = set_sent s tag.kind tag.group tag.round (events_in tag.group p); word = word_sent s w tag.kind tag.group tag.round tag.meter (events_in tag.group p) }) else None)
    (may_send-in s tag.group tag.kind tag.round tag.meter p)
    ∙ ap (λ set. if may_send s tag.kind tag.group tag.round tag.meter p then Some (record { tag = tag; missing = set; word = word_sent s w tag.kind tag.group tag.round tag.meter (events_in tag.group p) }) else None)
    (set_sent-in s tag.group tag.kind tag.round p)
    ∙ ap (λ v. if may_send s tag.kind tag.group tag.round tag.meter p then Some (record { tag = tag; missing = set_sent s tag.kind tag.group tag.round p; word = v }) else None)
    (word-in s w tag.group tag.kind tag.round tag.meter p)

-- the parts of the lines behind one more
part_after : (s : Shape) (w : Contents) (j : List Line) (l : Line) (rest : List Line) (g : ℕ) → HasFramesOf s w (lines_in g j) (lines_in g (l ∷ rest)) → HasFramesOf s w (lines_in g (j ++ l ∷ [])) (lines_in g rest)
part_after s w j l rest g = step (group_of (event_of l) == g) refl
  where
    step : (b : Bool) → (group_of (event_of l) == g) ≡ b → HasFramesOf s w (lines_in g j) (cond b (l ∷ lines_in g rest) (lines_in g rest)) → HasFramesOf s w (lines_in g (j ++ l ∷ [])) (lines_in g rest)
    step true is has = subst (λ k. HasFramesOf s w k (lines_in g rest)) (sym (push-here g j l is)) (next s w (lines_in g j) l (lines_in g rest) has)
    step false is has = subst (λ k. HasFramesOf s w k (lines_in g rest)) (sym (push-elsewhere g j l is)) has

pub frames-whole : (s : Shape) (w : Contents) (j rest : List Line) → ((g : ℕ) → HasFramesOf s w (lines_in g j) (lines_in g rest)) → HasFramesOf s w j rest
frames-whole s w j [] parts = tt
frames-whole s w j (SendLine tag f ∷ rest) parts =
    let here : HasFramesOf s w (lines_in tag.group j) (SendLine tag f ∷ lines_in tag.group rest)
    = subst (λ b. HasFramesOf s w (lines_in tag.group j) (cond b (SendLine tag f ∷ lines_in tag.group rest) (lines_in tag.group rest))) (eq-eqb tag.group tag.group refl) (parts tag.group) in (
      here.0 ∙ ap (frame s w tag) (past-in tag.group j) ∙ frame-own s w tag (past_of j),
      frames-whole s w (j ++ SendLine tag f ∷ []) rest (λ g. part_after s w j (SendLine tag f) rest g (parts g)),
    )
frames-whole s w j (TakeLine tag v ∷ rest) parts = frames-whole s w (j ++ TakeLine tag v ∷ []) rest (λ g. part_after s w j (TakeLine tag v) rest g (parts g))
frames-whole s w j (CloseLine h r v ∷ rest) parts = frames-whole s w (j ++ CloseLine h r v ∷ []) rest (λ g. part_after s w j (CloseLine h r v) rest g (parts g))
frames-whole s w j (EndLine h r v ∷ rest) parts = frames-whole s w (j ++ EndLine h r v ∷ []) rest (λ g. part_after s w j (EndLine h r v) rest g (parts g))

-- ---- the journal

-- the lines of all groups are a book's, where those of each are
pub ledger-whole : (p : PresenceView) (j : List Line) → ((g : ℕ) → IsLedger p (lines_in g j)) → IsLedger p j
ledger-whole p j parts =
    let s : Shape = shape_of_presence p in
    record {
      limits = (parts 0).limits;
      table = (parts 0).table;
      journal = journal-whole s j (λ g. (parts g).journal);
      framed = λ g r i k.
          ap is_some (sym (posted-in g r i k j)) ∙ (parts g).framed g r i k ∙ ap (is_sent s k g r i) (past-in g j) ∙ sent-in s g k r i (past_of j);
    }

-- a book has no line to begin with
pub ledger-none : (p : PresenceView) → IsWithinLimits p.plan → IsPresenceTable p.plan p.table → IsLedger p []
unfolding posted once
ledger-none p limits table = record { limits = limits; table = table; journal = record { lines = tt; frames = tt }; framed = λ g r i k. none g r i k }
  where
    none : (g r i : ℕ) (k : Kind) → is_some (posted g r i k []) ≡ is_sent (shape_of_presence p) k g r i []
    none g r i Reading = refl
    none g r i Announcement = refl
    none g r i Answer = refl

-- the lines of a group among the group's lines
pub lines-twice : (g : ℕ) (j : List Line) → lines_in g (lines_in g j) ≡ lines_in g j
lines-twice g [] = refl
lines-twice g (l ∷ j) = step (group_of (event_of l) == g) refl (lines-twice g j)
  where
    step : (b : Bool) → (group_of (event_of l) == g) ≡ b → lines_in g (lines_in g j) ≡ lines_in g j → lines_in g (cond b (l ∷ lines_in g j) (lines_in g j)) ≡ cond b (l ∷ lines_in g j) (lines_in g j)
    step true is rest = ap (λ b. cond b (l ∷ lines_in g (lines_in g j)) (lines_in g (lines_in g j))) is ∙ ap (λ x. l ∷ x) rest
    step false is rest = rest
