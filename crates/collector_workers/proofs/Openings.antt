-- What a book gains by a batch that was gathered from its opening on.
use Rattle.std.proofs.Common.{◌≡◌, ◌<◌, ◌≤◌, ◌%◌, ◌==◌, ◌+◌, ◌-◌, ℕ, zero, suc, Bool, true, false, cond, List, [], ◌∷◌, ◌++◌, map, length, get_or, zip, sum_by, count_by, Ok, Err, Result, refl, sym, ap, ◌∙◌, subst, ⊎_elim, append-nil, append_assoc, eq-eqb, eqb-true, arith}
use Rattle.std.specs.Prelude.{Option, Some, if◌then◌else◌}
use Rattle.std.specs.List.{All, AllZip, Contains, list_all, range_with_len}
use Rattle.std.proofs.lemmas.Bool.{and_from}
use Rattle.std.proofs.lemmas.Nat.{mod_below}
use Rattle.std.proofs.lemmas.List.Elements.{All-nil, All-cons, Contains-append_left}
use Rattle.std.proofs.lemmas.List.FromFn.{length-range_with_len, get_or-range_with_len}
use Rattle.std.proofs.lemmas.List.Sums.{sum_by-cons}
use Rattle.meter_frames.specs.declared.Frame.{Frame}
use Rattle.meter_frames.specs.declared.FrameError.{FrameError}
use Rattle.group_plan.specs.Plans.{is_place}
use Rattle.event_schedule.specs.declared.Event.{Event}
use Rattle.event_schedule.specs.declared.Line.{Line}
use Rattle.event_schedule.specs.declared.Line.TheVariants.{Send as SendLine, Take as TakeLine, Close as CloseLine, End as EndLine}
use Rattle.event_schedule.specs.Events.{event_of}
use Rattle.event_schedule.specs.Schedule.{Shape}
use Rattle.transcript_log.specs.Lines.{HasOwnTag}
use Rattle.event_schedule.specs.Journal.{IsJournalAfter}
use Rattle.group_book.specs.declared.book.Parts.{Parts}
use Rattle.group_book.specs.Books.{BookView, shape_of, posted_in, is_plain}
use Rattle.group_book.specs.declared.answers.TakeError.TheVariants.{Unknown}
use Rattle.event_schedule.specs.ByGroup.{group_of, lines_in}
use Rattle.group_book.specs.Replay.{IsLedger, AreReplayed}
use Rattle.group_book.proofs.PlainLines.{posted_in-added}
use Rattle.group_book.proofs.OwnLines.{groups_stay}
use Rattle.shared_book.specs.declared.parcel.Parcel.{Parcel}
use Rattle.shared_book.specs.declared.parcel.Request.{Request}
use Rattle.shared_book.specs.declared.parcel.Request.TheVariants.{Take as TakeRequest, Close as CloseRequest, End as EndRequest}
use Rattle.shared_book.specs.declared.parcel.Reply.{Reply}
use Rattle.shared_book.specs.declared.turn.Turn.{Turn}
use Rattle.shared_book.specs.Ends.{ShutEnds}
use Rattle.shared_book.specs.Parcels.{Judged, Accepted, BadFrame, RefusedFrame, Outside, judged, judged_beside, judged_if_read, request_of, reply_of}
use Rattle.shared_book.specs.Turns.{StartsWith, turn, turns_by, turns_of, lines_of, journal_after}
use Rattle.shared_book.specs.Passes.{PassView, new_pass}
use Rattle.shared_book.proofs.Ledgers.{ledger_of_parts, lines_in-append, lines_of-turns}
use Rattle.collector_workers.specs.declared.mark.Mark.{Mark}
use Rattle.collector_workers.specs.declared.outcome.Outcome.{Outcome}
use Rattle.collector_workers.specs.Outcomes.{IsOutcome, Becomes, lines_told, line_before, lines_by}
use Rattle.collector_workers.specs.Gathering.{Gathers}
use Rattle.collector_workers.specs.Batch.{IsMark, is_accepted, is_made, is_reply, says, Collects}
use Rattle.collector_workers.proofs.Dealing.{is_bool}

-- ---- the lines of outcomes

-- lines that are no Sends
abbrev pub ArePlain : List Line → Type 0
ArePlain lines = All (λ l. is_plain l ≡ true) lines

replied_plain : (l : Line) (reply : Reply) → reply_of l ≡ Some reply → is_plain l ≡ true
replied_plain (SendLine tag f) reply e = absurd (cc)
replied_plain (TakeLine tag v) reply e = refl
replied_plain (CloseLine g r c) reply e = refl
replied_plain (EndLine g r c) reply e = refl

told_plain : (o : BookView) (from to : List Turn) (ps : List Parcel) (xs : List Outcome) → AllZip (Becomes o from to) ps xs → ArePlain (lines_told xs)
told_plain o from to [] [] all = All-nil (λ l. is_plain l ≡ true)
told_plain o from to [] (x ∷ xs) all = absurd all
told_plain o from to (p ∷ ps) [] all = absurd all
told_plain o from to (p ∷ ps) (x ∷ xs) all = one (told_plain o from to ps xs all.1) (judged_if_read o.presence.plan (journal_after o all.0.at) (request_of p)) all.0.is
  where
    one : ArePlain (lines_told xs) → (j : Judged) → IsOutcome j x → ArePlain (line_before x.line (lines_told xs))
    one rest (Accepted event) is = subst (λ (y : Outcome). ArePlain (line_before y.line (lines_told xs))) (sym is.2) (All-cons (λ l. is_plain l ≡ true) is.0 (lines_told xs) (replied_plain is.0 is.1 is.4) rest)
    one rest (BadFrame e) is = subst (λ (y : Outcome). ArePlain (line_before y.line (lines_told xs))) (sym is) rest
    one rest (RefusedFrame e) is = subst (λ (y : Outcome). ArePlain (line_before y.line (lines_told xs))) (sym is) rest
    one rest Outside is = subst (λ (y : Outcome). ArePlain (line_before y.line (lines_told xs))) (sym is) rest

-- ---- whose line a turn has

-- a turn of the worker of its line's group, whose line is no Send
abbrev IsOf : ℕ → Turn → Type 0
IsOf n t = (t.number ≡ 1 + group_of (event_of t.line) % n) × (is_plain t.line ≡ true)

turn_in : (ts : List Turn) (t : Turn) → Contains ts t → Contains (turns_by t.number ts) t
turn_in [] t h = let lt = h.1 in absurd (omega arith)
turn_in (x ∷ ts) t (zero, lt, e) =
    let b : (x.number == t.number) ≡ true = eq-eqb x.number t.number (ap (λ (u : Turn). u.number) e) in
    rw b (zero, omega arith, e)
turn_in (x ∷ ts) t (suc k, lt, e) =
    let rest = turn_in ts t (k, omega arith, e) in
    ⊎_elim
    (λ (b : (x.number == t.number) ≡ true). let a = rest.1 in rw b (suc rest.0, omega arith, rest.2))
    (λ (b : (x.number == t.number) ≡ false). rw b rest)
    (is_bool (x.number == t.number))

-- the turns of one worker's lines
each_of : (n k : ℕ) (lines : List Line) → ArePlain lines → All (IsOf n) (turns_of (1 + k) (lines_by n k lines))
each_of n k [] plain = All-nil (IsOf n)
each_of n k (l ∷ ls) plain =
    let rest = each_of n k ls (λ i d lt. plain (suc i) d (omega arith)) in
    let own : is_plain l ≡ true = plain 0 l (omega arith) in
    ⊎_elim
    (λ (b : (group_of (event_of l) % n == k) ≡ true).
    let e : group_of (event_of l) % n ≡ k = eqb-true (group_of (event_of l) % n) k b in
    rw b (All-cons (IsOf n) (turn (1 + k) l) (turns_of (1 + k) (lines_by n k ls)) (ap (λ (m : ℕ). 1 + m) (sym e), own) rest))
    (λ (b : (group_of (event_of l) % n == k) ≡ false). rw b rest)
    (is_bool (group_of (event_of l) % n == k))

-- the lines of a group are those of its worker's turns
by_worker : (n g : ℕ) (ts : List Turn) → ((t : Turn) → Contains ts t → IsOf n t) → lines_in g (lines_of ts) ≡ lines_in g (lines_of (turns_by (1 + g % n) ts))
by_worker n g [] each = refl
by_worker n g (t ∷ ts) each =
    let rest = by_worker n g ts (λ u h. each u (suc h.0, (let lt = h.1 in omega arith), h.2)) in
    let own : t.number ≡ 1 + group_of (event_of t.line) % n = (each t (0, omega arith, refl)).0 in
    ⊎_elim
    (λ (b : (group_of (event_of t.line) == g) ≡ true).
    let e : group_of (event_of t.line) ≡ g = eqb-true (group_of (event_of t.line)) g b in
    let c : (t.number == 1 + g % n) ≡ true = eq-eqb t.number (1 + g % n) (own ∙ ap (λ (h : ℕ). 1 + h % n) e) in
    rw c (rw b (ap (λ (ls : List Line). t.line ∷ ls) rest)))
    (λ (b : (group_of (event_of t.line) == g) ≡ false).
    ⊎_elim
    (λ (c : (t.number == 1 + g % n) ≡ true). rw c (rw b rest))
    (λ (c : (t.number == 1 + g % n) ≡ false). rw c (rw b rest))
    (is_bool (t.number == 1 + g % n)))
    (is_bool (group_of (event_of t.line) == g))

-- the lines of a group are those of its worker's lines
in_worker : (n g : ℕ) (lines : List Line) → lines_in g (lines_by n (g % n) lines) ≡ lines_in g lines
in_worker n g [] = refl
in_worker n g (l ∷ ls) =
    let rest = in_worker n g ls in
    ⊎_elim
    (λ (b : (group_of (event_of l) == g) ≡ true).
    let c : (group_of (event_of l) % n == g % n) ≡ true = eq-eqb (group_of (event_of l) % n) (g % n) (ap (λ (h : ℕ). h % n) (eqb-true (group_of (event_of l)) g b)) in
    rw c (rw b (ap (λ (ks : List Line). l ∷ ks) rest)))
    (λ (b : (group_of (event_of l) == g) ≡ false).
    ⊎_elim
    (λ (c : (group_of (event_of l) % n == g % n) ≡ true). rw c (rw b rest))
    (λ (c : (group_of (event_of l) % n == g % n) ≡ false). rw c (rw b rest))
    (is_bool (group_of (event_of l) % n == g % n)))
    (is_bool (group_of (event_of l) == g))

in_range : (from n k : ℕ) → Contains (range_with_len from n) k → (from ≤ k) × (k < from + n)
in_range from n k h =
    let lt : h.0 < n = (let a = h.1 in let b = length-range_with_len from n in omega arith) in
    let e : k ≡ from + h.0 = sym h.2 ∙ get_or-range_with_len from n h.0 k lt in
    (omega arith, omega arith)

-- the turns of a part of a history
all_plain : (ts : List Turn) → ((t : Turn) → Contains ts t → is_plain t.line ≡ true) → list_all is_plain (lines_of ts) ≡ true
all_plain [] each = refl
all_plain (t ∷ ts) each = and_from (is_plain t.line) (list_all is_plain (lines_of ts)) (each t (0, omega arith, refl)) (all_plain ts (λ u h. each u (suc h.0, (let lt = h.1 in omega arith), h.2)))

-- ---- counts

count_told : (f : Line → Bool) (h : Judged → Bool) → ((x : Outcome) (j : Judged) (ls : List Line) → IsOutcome j x → sum_by (λ l. cond (f l) 1 0) (line_before x.line ls) ≡ cond (h j) 1 0 + sum_by (λ l. cond (f l) 1 0) ls)
    → (b : BookView) (ps : List Parcel) (xs : List Outcome) → AllZip (λ p x. IsOutcome (judged b p) x) ps xs → count_by f (lines_told xs) ≡ count_by (λ p. h (judged b p)) ps
count_told f h one b [] [] all = refl
count_told f h one b [] (x ∷ xs) all = absurd all
count_told f h one b (p ∷ ps) [] all = absurd all
count_told f h one b (p ∷ ps) (x ∷ xs) all =
    one x (judged b p) (lines_told xs) all.0 ∙ ap (λ (n : ℕ). cond (h (judged b p)) 1 0 + n) (count_told f h one b ps xs all.1) ∙ sym (sum_by-cons (λ (q : Parcel). cond (h (judged b q)) 1 0) p ps)

accepted_one : (these : Event → Bool) (x : Outcome) (j : Judged) (ls : List Line) → IsOutcome j x
    → sum_by (λ l. cond (these (event_of l)) 1 0) (line_before x.line ls) ≡ cond (is_accepted these j) 1 0 + sum_by (λ l. cond (these (event_of l)) 1 0) ls
accepted_one these x (Accepted event) ls is =
    ap (λ (y : Outcome). sum_by (λ l. cond (these (event_of l)) 1 0) (line_before y.line ls)) is.2
    ∙ sum_by-cons (λ l. cond (these (event_of l)) 1 0) is.0 ls ∙ ap (λ (e : Event). cond (these e) 1 0 + sum_by (λ l. cond (these (event_of l)) 1 0) ls) is.3
accepted_one these x (BadFrame e) ls is = ap (λ (y : Outcome). sum_by (λ l. cond (these (event_of l)) 1 0) (line_before y.line ls)) is ∙ omega arith
accepted_one these x (RefusedFrame e) ls is = ap (λ (y : Outcome). sum_by (λ l. cond (these (event_of l)) 1 0) (line_before y.line ls)) is ∙ omega arith
accepted_one these x Outside ls is = ap (λ (y : Outcome). sum_by (λ l. cond (these (event_of l)) 1 0) (line_before y.line ls)) is ∙ omega arith

abbrev pub marks_of : List Outcome → List Mark
marks_of xs = map (λ x. x.mark) xs

made_one : (these : Event → Reply → Bool) (x : Outcome) (j : Judged) (ls : List Line) → IsOutcome j x
    → sum_by (λ l. cond (says these l) 1 0) (line_before x.line ls) ≡ cond (is_made these j x.mark) 1 0 + sum_by (λ l. cond (says these l) 1 0) ls
made_one these x (Accepted event) ls is =
    let f : Line → ℕ = λ l. cond (says these l) 1 0 in
    let same : says these is.0 ≡ these event is.1 = ap (λ (e : Event). is_reply these e (reply_of is.0)) is.3 ∙ ap (is_reply these event) is.4 in
    ap (λ (y : Outcome). sum_by f (line_before y.line ls)) is.2
    ∙ sum_by-cons f is.0 ls
    ∙ ap (λ (c : Bool). cond c 1 0 + sum_by f ls) same
    ∙ ap (λ (y : Outcome). cond (is_made these (Accepted event) y.mark) 1 0 + sum_by f ls) (sym is.2)
made_one these x (BadFrame e) ls is = ap (λ (y : Outcome). sum_by (λ l. cond (says these l) 1 0) (line_before y.line ls)) is ∙ omega arith
made_one these x (RefusedFrame e) ls is = ap (λ (y : Outcome). sum_by (λ l. cond (says these l) 1 0) (line_before y.line ls)) is ∙ omega arith
made_one these x Outside ls is = ap (λ (y : Outcome). sum_by (λ l. cond (says these l) 1 0) (line_before y.line ls)) is ∙ omega arith

count_made : (these : Event → Reply → Bool) (b : BookView) (ps : List Parcel) (xs : List Outcome) → AllZip (λ p x. IsOutcome (judged b p) x) ps xs
    → count_by (says these) (lines_told xs) ≡ count_by (λ made. is_made these (judged b made.0) made.1) (zip ps (marks_of xs))
count_made these b [] [] all = refl
count_made these b [] (x ∷ xs) all = absurd all
count_made these b (p ∷ ps) [] all = absurd all
count_made these b (p ∷ ps) (x ∷ xs) all =
    made_one these x (judged b p) (lines_told xs) all.0
    ∙ ap (λ (n : ℕ). cond (is_made these (judged b p) x.mark) 1 0 + n) (count_made these b ps xs all.1)
    ∙ sym (sum_by-cons (λ (made : Parcel × Mark). cond (is_made these (judged b made.0) made.1) 1 0) (p, x.mark) (zip ps (marks_of xs)))

all_marked : (b : BookView) (ps : List Parcel) (xs : List Outcome) → AllZip (λ p x. IsOutcome (judged b p) x) ps xs → AllZip (λ p mark. IsMark (judged b p) mark) ps (marks_of xs)
all_marked b [] [] all = tt
all_marked b [] (x ∷ xs) all = absurd all
all_marked b (p ∷ ps) [] all = absurd all
all_marked b (p ∷ ps) (x ∷ xs) all = (one (judged b p) all.0, all_marked b ps xs all.1)
  where
    one : (j : Judged) → IsOutcome j x → IsMark j x.mark
    one (Accepted event) is = (is.1, ap (λ (y : Outcome). y.mark) is.2)
    one (BadFrame e) is = ap (λ (y : Outcome). y.mark) is
    one (RefusedFrame e) is = ap (λ (y : Outcome). y.mark) is
    one Outside is = ap (λ (y : Outcome). y.mark) is

-- ---- the journal

after_part : (s : Shape) (j xs ys : List Line) → IsJournalAfter s j (xs ++ ys) → IsJournalAfter s (j ++ xs) ys
after_part s j [] ys h = subst (λ (k : List Line). IsJournalAfter s k ys) (sym (append-nil j)) h
after_part s j (x ∷ xs) ys h = subst (λ (k : List Line). IsJournalAfter s k ys) (append_assoc j (x ∷ []) xs) (after_part s (j ++ x ∷ []) xs ys h.1)

same_judged : (o : BookView) (j : List Line) (asked : Result Request FrameError) → ((f : Frame) → posted_in f.tag j ≡ posted_in f.tag o.journal) → judged_if_read o.presence.plan j asked ≡ judged_if_read o.presence.plan o.journal asked
same_judged o j (Ok (TakeRequest f)) same = ap (λ (x : Option Frame). if is_place o.presence.plan f.tag.group f.tag.round f.tag.meter then judged_beside x f else RefusedFrame Unknown) (same f)
same_judged o j (Ok (CloseRequest g r)) same = refl
same_judged o j (Ok (EndRequest g r)) same = refl
same_judged o j (Err e) same = refl

module _ (o : BookView) (batch : List Parcel) (n : ℕ) (outs : List Outcome) (w : PassView) (parts : Parts) (some : 0 < n)
    (g : Gathers o (new_pass 0 []) batch n outs w) (shut : ShutEnds o w parts) where
  abbrev lines : List Line
  lines = lines_told outs

  each_is : (t : Turn) → Contains w.seen t → IsOf n t
  each_is t h = ⊎_elim
      (λ (z : t.number ≡ 0).
      let none : turns_by t.number w.seen ≡ [] = ap (λ (m : ℕ). turns_by m w.seen) z ∙ g.own ∙ g.mine in
      let is = subst (λ (ts : List Turn). Contains ts t) none (turn_in w.seen t h) in
      let lt = is.1 in absurd (omega arith))
      (λ (c : Contains w.joined t.number).
      let r = in_range 1 n t.number (subst (λ (ns : List ℕ). Contains ns t.number) g.joined c) in
      worker_turn t h r.0 r.1)
      (shut.numbers t h)
    where
      worker_turn : (t : Turn) → Contains w.seen t → 1 ≤ t.number → t.number < 1 + n → IsOf n t
      worker_turn t h lo hi =
          let k : ℕ = t.number - 1 in
          let e : t.number ≡ 0 + 1 + k = omega arith in
          let own : turns_by t.number w.seen ≡ turns_of (1 + k) (lines_by n k lines) = ap (λ (m : ℕ). turns_by m w.seen) e ∙ g.turns k (omega arith) in
          let is = subst (λ (ts : List Turn). Contains ts t) own (turn_in w.seen t h) in
          subst (IsOf n) is.2 (each_of n k lines (told_plain o [] w.seen batch outs g.told) is.0 t is.1)

  same_lines : (h : ℕ) → lines_in h (o.journal ++ lines) ≡ lines_in h (journal_after o w.seen)
  same_lines h =
      let k : ℕ = h % n in
      let own : lines_of (turns_by (1 + k) w.seen) ≡ lines_by n k lines = ap lines_of (g.turns k (mod_below h n some)) ∙ lines_of-turns (1 + k) (lines_by n k lines) in
      let part : lines_in h (lines_of w.seen) ≡ lines_in h lines = by_worker n h w.seen each_is ∙ ap (lines_in h) own ∙ in_worker n h lines in
      lines_in-append h o.journal lines ∙ ap (λ (ls : List Line). lines_in h o.journal ++ ls) (sym part) ∙ sym (lines_in-append h o.journal (lines_of w.seen))

  ledger : IsLedger o.presence (o.journal ++ lines)
  ledger = ledger_of_parts o.presence (o.journal ++ lines) (λ h. (journal_after o w.seen, shut.groups.ledger, same_lines h))

  pub replayed : AreReplayed o.presence (o.journal ++ lines) parts.groups.items
  replayed = record {
    ledger = ledger;
    long = shut.groups.long;
    each = λ h d lt. let x = shut.groups.each h d lt in record {
      group = x.group;
      replays = groups_stay o.presence (journal_after o w.seen) (o.journal ++ lines) (get_or parts.groups.items h d) ledger (same_lines (get_or parts.groups.items h d).group) x.replays;
    };
  }

  same_posted : (at : List Turn) → StartsWith w.seen at → (f : Frame) → posted_in f.tag (journal_after o at) ≡ posted_in f.tag o.journal
  same_posted at s f = posted_in-added f.tag o.journal (lines_of at) (all_plain at (λ t h. (each_is t (subst (λ (ts : List Turn). Contains ts t) (sym s.1) (Contains-append_left at s.0 t h))).1))

  at_opening : (ps : List Parcel) (xs : List Outcome) → AllZip (Becomes o [] w.seen) ps xs → AllZip (λ p x. IsOutcome (judged o p) x) ps xs
  at_opening [] [] all = tt
  at_opening [] (x ∷ xs) all = absurd all
  at_opening (p ∷ ps) [] all = absurd all
  at_opening (p ∷ ps) (x ∷ xs) all =
      let b = all.0 in
      (subst (λ (j : Judged). IsOutcome j x) (same_judged o (journal_after o b.at) (request_of p) (same_posted b.at b.until)) b.is, at_opening ps xs all.1)

  pub collected : (c : BookView) → c.presence ≡ o.presence → c.journal ≡ o.journal ++ lines → Collects o batch (marks_of outs) c
  collected c presence journal =
      let told = at_opening batch outs g.told in record {
        presence = presence;
        added = lines;
        journal = journal;
        legal = after_part (shape_of o) [] o.journal lines ledger.journal.lines;
        in_order = record { outcomes = outs; told = told; lines_are = refl; marks_are = refl };
        marked = all_marked o batch outs told;
        lines = λ these. count_told (λ l. these (event_of l)) (is_accepted these) (accepted_one these) o batch outs told;
        replies = λ these. count_made these o batch outs told;
      }

-- ---- what stands of a gathered batch

zip_long : (R : Parcel → Outcome → Type 0) (ps : List Parcel) (xs : List Outcome) → AllZip R ps xs → length xs ≡ length ps
zip_long R [] [] all = refl
zip_long R [] (x ∷ xs) all = absurd all
zip_long R (p ∷ ps) [] all = absurd all
zip_long R (p ∷ ps) (x ∷ xs) all = ap suc (zip_long R ps xs all.1)

pub outcomes_long : (o : BookView) (v : PassView) (batch : List Parcel) (n : ℕ) (outs : List Outcome) (w : PassView) → Gathers o v batch n outs w → length outs ≡ length batch
outcomes_long o v batch n outs w g = zip_long (Becomes o v.seen w.seen) batch outs g.told

plain_tags : (ls : List Line) → ArePlain ls → All HasOwnTag ls
plain_tags [] plain = All-nil HasOwnTag
plain_tags (l ∷ ls) plain = All-cons HasOwnTag l ls (one l (plain 0 l (omega arith))) (plain_tags ls (λ k d lt. plain (suc k) d (omega arith)))
  where
    one : (l : Line) → is_plain l ≡ true → HasOwnTag l
    one (SendLine tag f) e = absurd (cc)
    one (TakeLine tag v) e = tt
    one (CloseLine g r c) e = tt
    one (EndLine g r c) e = tt

pub own_tags : (o : BookView) (v : PassView) (batch : List Parcel) (n : ℕ) (outs : List Outcome) (w : PassView) → Gathers o v batch n outs w → All HasOwnTag (lines_told outs)
own_tags o v batch n outs w g = plain_tags (lines_told outs) (told_plain o v.seen w.seen batch outs g.told)
