-- The tick of all groups, from the ticks of each.
use Rattle.std.proofs.Common.{◌≡◌, ℕ, zero, suc, ◌+◌, ◌-◌, ◌*◌, ◌<◌, ◌≤◌, Bool, true, false, cond, ◌||◌, List, [], ◌∷◌, ◌++◌, length, map, take, drop, get_or, refl, sym, ap, ◌∙◌, subst, append-nil, append_assoc, zero-add, arith, ⊎_elim}
use Rattle.std.specs.Prelude.{◌==◌, Some, Result, Ok, Err, OnOk, is_err}
use Rattle.std.specs.List.{AllZip, flat_map, range_with_len, list_any, All}
use Rattle.std.proofs.lemmas.Bool.{false≢true, eq-eqb, ne_eqb, cases_eq}
use Rattle.std.proofs.lemmas.List.{map-append}
use Rattle.std.proofs.lemmas.List.Elements.{All-weaker, All-head, All-tail, All-nil, All-cons, All-append, All-map, filter-append}
use Rattle.missing_round.specs.Masks.{Masks}
use Rattle.group_plan.specs.Tables.{ReadingsView, presence_of}
use Rattle.group_plan.specs.declared.Tag.{Tag}
use Rattle.meter_frames.specs.declared.Frame.{Frame}
use Rattle.event_schedule.specs.declared.Line.{Line}
use Rattle.event_schedule.specs.declared.Entry.{Entry}
use Rattle.transcript_log.specs.Drafts.{quiet}
use Rattle.event_schedule.specs.Events.{event_of, lines_of}
use Rattle.event_schedule.specs.ByGroup.{group_of}
use Rattle.group_book.specs.Groups.{GroupView}
use Rattle.run_rows.specs.ByGroup.{entries_in}
use Rattle.run_rows.specs.Ticks.{moment, phase, sent_at, IsOrdered}
use Rattle.plan_meters.proofs.RangeLemmas.{range_item, range_weaker}
use Rattle.plan_meters.specs.GroupMeters.{AreGroupMeters}
use Rattle.shared_book.specs.declared.parts.SharedBook.{SharedBook}
use Rattle.tick_run.specs.declared.group_tick.GroupWork.{GroupWork}
use Rattle.tick_run.specs.declared.running.Group.{Group}
use Rattle.tick_run.specs.GroupRuns.{IsGroupAt, IsWorkAt, GroupTicks, book_with, script_of, posted_all, taken_in, closed_in, sends_in, entries_then, sent_with, past_in}
use Rattle.tick_run.specs.ByGroups.{IsAt, StandsFor, AllStand, CanShare, IsMade, AllMade, Ticked, AllTick, AreWhole, Fated, taken_by, closed_by, sent_by, whole_then}
use Rattle.tick_run.specs.Progress.{sending}
use Rattle.tick_run.specs.Running.{AreRunning, starting}
use Rattle.tick_run.specs.Sharing.{HasTurns}
use Rattle.tick_run.proofs.BatchLemmas.{sent-append, sent-silent, sent-late}
use Rattle.tick_run.proofs.GroupTickLemmas.{ticks-noted}
use Rattle.tick_run.proofs.JournalLemmas.{lines_append, lines_quiet, lines_sent}
use Rattle.tick_run.proofs.OrderLemmas.{ordered-append}

-- ---- the entries of a group among all

pub entries-append : (g : ℕ) (xs ys : List Entry) → entries_in g (xs ++ ys) ≡ entries_in g xs ++ entries_in g ys
entries-append g xs ys = filter-append (λ e. group_of (event_of e.line) == g) xs ys

abbrev Own : ℕ → List Entry → Type 0
Own g xs = All (λ e. group_of (event_of e.line) ≡ g) xs

own-all : (g : ℕ) (xs : List Entry) → Own g xs → entries_in g xs ≡ xs
own-all g [] own = refl
own-all g (x ∷ xs) own =
    ap (λ b. cond b (x ∷ entries_in g xs) (entries_in g xs)) (eq-eqb (group_of (event_of x.line)) g (All-head (λ e. group_of (event_of e.line) ≡ g) x xs own))
    ∙ ap (λ l. x ∷ l) (own-all g xs (All-tail (λ e. group_of (event_of e.line) ≡ g) x xs own))

own-none : (g h : ℕ) (xs : List Entry) → (h ≡ g → ⊥) → Own h xs → entries_in g xs ≡ []
own-none g h [] ne own = refl
own-none g h (x ∷ xs) ne own =
    let is : group_of (event_of x.line) ≡ h = All-head (λ e. group_of (event_of e.line) ≡ h) x xs own in
    ap (λ b. cond b (x ∷ entries_in g xs) (entries_in g xs)) (ne_eqb (group_of (event_of x.line)) g (λ same. ne (sym is ∙ same)))
    ∙ own-none g h xs ne (All-tail (λ e. group_of (event_of e.line) ≡ h) x xs own)

-- what other groups have made is not of group g
pick_none : (F : Group → List Entry) (g a n : ℕ) (works : List Group) → ((h : ℕ) → a ≤ h → h < a + n → h ≡ g → ⊥) → AllZip (λ h w. Own h (F w)) (range_with_len a n) works → entries_in g (flat_map F works) ≡ []
pick_none F g a zero [] off all = refl
pick_none F g a zero (w ∷ works) off all = absurd all
pick_none F g a (suc n) [] off all = absurd all
pick_none F g a (suc n) (w ∷ works) off all =
    entries-append g (F w) (flat_map F works)
    ∙ ap (λ l. l ++ entries_in g (flat_map F works)) (own-none g a (F w) (off a (omega arith) (omega arith)) all.0)
    ∙ pick_none F g (a + 1) n works (λ h above below. off h (omega arith) (omega arith)) all.1

-- of what all groups have made, group g has what it has made itself
pick : (F : Group → List Entry) (g a n : ℕ) (works : List Group) (d : Group) → a ≤ g → g < a + n → (k : ℕ) → g ≡ a + k → AllZip (λ h w. Own h (F w)) (range_with_len a n) works
    → entries_in g (flat_map F works) ≡ F (get_or works k d)
pick F g a zero [] d above below k at all = absurd (omega arith)
pick F g a zero (w ∷ works) d above below k at all = absurd all
pick F g a (suc n) [] d above below k at all = absurd all
pick F g a (suc n) (w ∷ works) d above below zero at all =
    let same : a ≡ g = omega arith in
    entries-append g (F w) (flat_map F works)
    ∙ ap (λ l. l ++ entries_in g (flat_map F works)) (own-all g (F w) (subst (λ h. Own h (F w)) same all.0))
    ∙ ap (λ l. F w ++ l) (pick_none F g (a + 1) n works (λ h from to is. omega arith) all.1)
    ∙ append-nil (F w)
pick F g a (suc n) (w ∷ works) d above below (suc k) at all =
    entries-append g (F w) (flat_map F works)
    ∙ ap (λ l. l ++ entries_in g (flat_map F works)) (own-none g a (F w) (λ is. omega arith) all.0)
    ∙ pick F g (a + 1) n works d (omega arith) (omega arith) k (omega arith) all.1

-- ---- what a tick of each group says

-- what of a group's entries after a tick comes last
own_last : (g : ℕ) (xs ys : List Entry) → Own g (xs ++ ys) → Own g ys
own_last g [] ys own = own
own_last g (x ∷ xs) ys own = own_last g xs ys (All-tail (λ e. group_of (event_of e.line) ≡ g) x (xs ++ ys) own)

own_first : (g : ℕ) (xs ys : List Entry) → Own g (xs ++ ys) → Own g xs
own_first g [] ys own = All-nil (λ e. group_of (event_of e.line) ≡ g)
own_first g (x ∷ xs) ys own =
    All-cons (λ e. group_of (event_of e.line) ≡ g) x xs (All-head (λ e. group_of (event_of e.line) ≡ g) x (xs ++ ys) own) (own_first g xs ys (All-tail (λ e. group_of (event_of e.line) ≡ g) x (xs ++ ys) own))

-- what group g has made of a tick
made_own : (readings : ReadingsView) (m : Masks) (t g : ℕ) (entries : List Entry) (it : Group) → Ticked readings m t entries g it → Fated it
    → Own g (map (quiet t) (taken_in it.work)) × Own g (map (quiet t) (closed_in it.work)) × Own g (sent_with t it.work.frames.items it.work.fates.items)
made_own readings m t g entries it tick fated =
    let next = tick.ticks.next it.work.fates.items fated.delays fated.long in
    let own : Own g (entries_then t (entries_in g entries) (taken_in it.work) (closed_in it.work) it.work.frames.items it.work.fates.items) = subst (λ (h : ℕ). Own h (entries_then t (entries_in g entries) (taken_in it.work) (closed_in it.work) it.work.frames.items it.work.fates.items)) tick.ticks.group next.own in
    let quiets = own_first g ((entries_in g entries ++ map (quiet t) (taken_in it.work)) ++ map (quiet t) (closed_in it.work)) (sent_with t it.work.frames.items it.work.fates.items) own in (
      own_last g (entries_in g entries) (map (quiet t) (taken_in it.work)) (own_first g (entries_in g entries ++ map (quiet t) (taken_in it.work)) (map (quiet t) (closed_in it.work)) quiets),
      own_last g (entries_in g entries ++ map (quiet t) (taken_in it.work)) (map (quiet t) (closed_in it.work)) quiets,
      own_last g ((entries_in g entries ++ map (quiet t) (taken_in it.work)) ++ map (quiet t) (closed_in it.work)) (sent_with t it.work.frames.items it.work.fates.items) own,
    )

-- of each of the works
each_own : (readings : ReadingsView) (m : Masks) (t a n : ℕ) (entries : List Entry) (works : List Group) → AllZip (Ticked readings m t entries) (range_with_len a n) works → All Fated works
    → AllZip (λ h w. Own h (map (quiet t) (taken_in w.work))) (range_with_len a n) works × AllZip (λ h w. Own h (map (quiet t) (closed_in w.work))) (range_with_len a n) works
    × AllZip (λ h w. Own h (sent_with t w.work.frames.items w.work.fates.items)) (range_with_len a n) works
each_own readings m t a zero entries [] all fated = (tt, tt, tt)
each_own readings m t a zero entries (w ∷ works) all fated = absurd all
each_own readings m t a (suc n) entries [] all fated = absurd all
each_own readings m t a (suc n) entries (w ∷ works) all fated =
    let here = made_own readings m t a entries w all.0 (All-head Fated w works fated) in
    let later = each_own readings m t (a + 1) n entries works all.1 (All-tail Fated w works fated) in
    ((here.0, later.0), (here.1, later.1), (here.2, later.2))

map_flat : {X Y Z : Type 0} (f : X → Y) (F : Z → List X) (zs : List Z) → map f (flat_map F zs) ≡ flat_map (λ z. map f (F z)) zs
map_flat f F [] = refl
map_flat f F (z ∷ zs) = map-append f (F z) (flat_map F zs) ∙ ap (λ l. map f (F z) ++ l) (map_flat f F zs)

-- the part of group g of the entries after a tick
pub whole-in : (readings : ReadingsView) (m : Masks) (t n : ℕ) (entries : List Entry) (works : List Group) (g : ℕ) (d : Group) → g < n → AllZip (Ticked readings m t entries) (range_with_len 0 n) works → All Fated works
    → entries_in g (whole_then t entries works)
    ≡ entries_then t (entries_in g entries) (taken_in (get_or works g d).work) (closed_in (get_or works g d).work) (get_or works g d).work.frames.items (get_or works g d).work.fates.items
whole-in readings m t n entries works g d below all fated =
    let own = each_own readings m t 0 n entries works all fated in
    let w : Group = get_or works g d in
    let taken : entries_in g (map (quiet t) (taken_by works)) ≡ map (quiet t) (taken_in w.work)
    = ap (entries_in g) (map_flat (quiet t) (λ it. taken_in it.work) works) ∙ pick (λ it. map (quiet t) (taken_in it.work)) g 0 n works d (omega arith) (omega arith) g (omega arith) own.0 in
    let closed : entries_in g (map (quiet t) (closed_by works)) ≡ map (quiet t) (closed_in w.work)
    = ap (entries_in g) (map_flat (quiet t) (λ it. closed_in it.work) works) ∙ pick (λ it. map (quiet t) (closed_in it.work)) g 0 n works d (omega arith) (omega arith) g (omega arith) own.1 in
    let sent : entries_in g (sent_by t works) ≡ sent_with t w.work.frames.items w.work.fates.items = pick (λ it. sent_with t it.work.frames.items it.work.fates.items) g 0 n works d (omega arith) (omega arith) g (omega arith) own.2 in
    entries-append g ((entries ++ map (quiet t) (taken_by works)) ++ map (quiet t) (closed_by works)) (sent_by t works)
    ∙ ap (λ l. l ++ entries_in g (sent_by t works)) (entries-append g (entries ++ map (quiet t) (taken_by works)) (map (quiet t) (closed_by works))
    ∙ ap (λ l. l ++ entries_in g (map (quiet t) (closed_by works))) (entries-append g entries (map (quiet t) (taken_by works)) ∙ ap (λ l. entries_in g entries ++ l) taken)
    ∙ ap (λ l. (entries_in g entries ++ map (quiet t) (taken_in w.work)) ++ l) closed)
    ∙ ap (λ l. ((entries_in g entries ++ map (quiet t) (taken_in w.work)) ++ map (quiet t) (closed_in w.work)) ++ l) sent

-- ---- the groups stand before the next tick

place_at : {Y : Type 0} (R : ℕ → Y → Type 0) (a n : ℕ) (ys : List Y) (S : ℕ → Y → Type 0) → ((k : ℕ) (d : Y) → k < n → R (a + k) (get_or ys k d) → S (a + k) (get_or ys k d)) → AllZip R (range_with_len a n) ys → AllZip S (range_with_len a n) ys
place_at R a zero [] S each all = tt
place_at R a zero (y ∷ ys) S each all = absurd all
place_at R a (suc n) [] S each all = absurd all
place_at R a (suc n) (y ∷ ys) S each all =
    let here : a + 0 ≡ a = omega arith in (
      subst (λ j. S j y) here (each 0 y (omega arith) (subst (λ j. R j y) (sym here) all.0)),
      place_at R (a + 1) n ys S (λ k d below r. let shift : a + suc k ≡ a + 1 + k = omega arith in subst (λ j. S j (get_or ys k d)) shift (each (suc k) d (omega arith) (subst (λ j. R j (get_or ys k d)) (sym shift) r))) all.1,
    )

-- what holds of each at its place
places : {Y : Type 0} (R S : ℕ → Y → Type 0) (n : ℕ) (ys : List Y) → ((k : ℕ) (d : Y) → k < n → R k (get_or ys k d) → S k (get_or ys k d)) → AllZip R (range_with_len 0 n) ys → AllZip S (range_with_len 0 n) ys
places R S n ys each all =
    place_at R 0 n ys S (λ k d below r. subst (λ j. S j (get_or ys k d)) (sym (zero-add k)) (each k d below (subst (λ j. R j (get_or ys k d)) (zero-add k) r))) all

-- a group that stands with pages stands without
without_pages : (readings : ReadingsView) (m : Masks) (t g : ℕ) (entries : List Entry) (fates : List (List ℕ)) (kept : GroupView) (work : GroupWork) → kept.group ≡ g → IsGroupAt readings m t entries fates kept work → IsWorkAt readings m t entries fates g work
without_pages readings m t g entries fates kept work group at = record {
  inside = subst (λ (h : ℕ). h < length readings.plan.groups) group at.pages.inside;
  own = subst (λ (h : ℕ). Own h entries) group at.own;
  long = at.long;
  fits = at.fits;
  running = subst (λ (h : ℕ). AreRunning readings m (h ∷ []) (starting t) (book_with readings entries) (script_of readings entries) (posted_all (t - 1) work.frames.items fates work.link)) group at.running;
  ledger = at.pages.ledger;
  meters = subst (λ (h : ℕ). AreGroupMeters (presence_of readings) (past_in entries) t h work.meters.meters.items) group at.meters;
}

-- the lines of a group's entries after a tick are those before and those of the tick
lines_then : (readings : ReadingsView) (m : Masks) (t g : ℕ) (entries : List Entry) (fates : List (List ℕ)) (kept : GroupView) (work : GroupWork) → GroupTicks readings m t entries g kept work → length fates ≡ length work.frames.items
    → lines_of (entries_then t entries (taken_in work) (closed_in work) work.frames.items fates) ≡ lines_of entries ++ work.lines.items
lines_then readings m t g entries fates kept work tick long =
    let one : List Entry = entries ++ map (quiet t) (taken_in work) in
    let two : List Entry = one ++ map (quiet t) (closed_in work) in
    lines_append two (sent_with t work.frames.items fates)
    ∙ ap (λ l. l ++ lines_of (sent_with t work.frames.items fates))
    (lines_append one (map (quiet t) (closed_in work))
    ∙ ap (λ l. l ++ lines_of (map (quiet t) (closed_in work))) (lines_append entries (map (quiet t) (taken_in work)) ∙ ap (λ l. lines_of entries ++ l) (lines_quiet t (taken_in work)))
    ∙ ap (λ l. (lines_of entries ++ taken_in work) ++ l) (lines_quiet t (closed_in work)))
    ∙ ap (λ l. ((lines_of entries ++ taken_in work) ++ closed_in work) ++ l) (lines_sent t work.frames.items fates long ∙ sym tick.sends)
    ∙ append_assoc (lines_of entries ++ taken_in work) (closed_in work) (sends_in work)
    ∙ append_assoc (lines_of entries) (taken_in work) (closed_in work ++ sends_in work)
    ∙ ap (λ l. lines_of entries ++ l) (in_three work.lines.items work.closed_from work.sent_from tick.parts.closed)
  where
    in_two : (xs : List Line) (a : ℕ) → take a xs ++ drop a xs ≡ xs
    in_two xs zero = refl
    in_two [] (suc a) = refl
    in_two (x ∷ xs) (suc a) = ap (λ l. x ∷ l) (in_two xs a)

    drops : (xs : List Line) (a b : ℕ) → a ≤ b → drop b xs ≡ drop (b - a) (drop a xs)
    drops xs zero b le = let all : b ≡ b - 0 = omega arith in ap (λ n. drop n xs) all
    drops [] (suc a) zero le = absurd (omega arith)
    drops [] (suc a) (suc b) le = drop_nil (suc b - suc a)
      where
        drop_nil : (n : ℕ) → ◌≡◌ {A = List Line} [] (drop {A = Line} n [])
        drop_nil zero = refl
        drop_nil (suc n) = refl
    drops (x ∷ xs) (suc a) zero le = absurd (omega arith)
    drops (x ∷ xs) (suc a) (suc b) le =
        let less : suc b - suc a ≡ b - a = omega arith in
        drops xs a b (omega arith) ∙ ap (λ n. drop n (drop a xs)) (sym less)

    in_three : (xs : List Line) (a b : ℕ) → a ≤ b → take a xs ++ (take (b - a) (drop a xs) ++ drop b xs) ≡ xs
    in_three xs a b le = ap (λ l. take a xs ++ (take (b - a) (drop a xs) ++ l)) (drops xs a b le) ∙ ap (λ l. take a xs ++ l) (in_two (drop a xs) (b - a)) ∙ in_two xs a

-- the ticks that were made are ticks
pub ticks-of : (book : SharedBook) (readings : ReadingsView) (m : Masks) (t : ℕ) (entries : List Entry) (works : List Group) → AllMade book readings m t entries works → AllTick readings m t entries works
ticks-of book readings m t entries works made =
    range_weaker (λ g it. IsMade book readings m t (entries_in g entries) g it) (Ticked readings m t entries) 0 (length readings.plan.groups) works (λ g it low high one. record { kept = one.kept; ticks = one.ticks }) made

pub all-stand : (book : SharedBook) (readings : ReadingsView) (m : Masks) (t : ℕ) (entries : List Entry) (works : List Group) → AllMade book readings m t entries works → All Fated works → length works ≡ length readings.plan.groups
    → AllStand book readings m (t + 1) (whole_then t entries works) works
all-stand book readings m t entries works made fated long =
    let all = ticks-of book readings m t entries works made in
    places (λ g it. IsMade book readings m t (entries_in g entries) g it) (StandsFor book readings m (t + 1) (whole_then t entries works)) (length readings.plan.groups) works
    (λ k d below one.
    let w : Group = get_or works k d in
    let with_fates : Fated w = fated k d (omega arith) in
    let part : entries_in k (whole_then t entries works) ≡ entries_then t (entries_in k entries) (taken_in w.work) (closed_in w.work) w.work.frames.items w.work.fates.items
    = whole-in readings m t (length readings.plan.groups) entries works k d (omega arith) all fated in
    record {
      number = one.number;
      stands = subst (λ (es : List Entry). IsWorkAt readings m (t + 1) es w.work.fates.items k w.work) (sym part)
          (without_pages readings m (t + 1) k _ w.work.fates.items one.kept w.work one.ticks.group (one.ticks.next w.work.fates.items with_fates.delays with_fates.long));
      turns = subst (λ (ls : List Line). HasTurns book k ls w.pass) (sym (ap lines_of part ∙ lines_then readings m t k (entries_in k entries) w.work.fates.items one.kept w.work one.ticks with_fates.long)) one.turns;
    }) made

-- ---- the whole

all_flat : (P : Line → Type 0) (F : Group → List Line) (works : List Group) → All (λ w. All P (F w)) works → All P (flat_map F works)
all_flat P F [] all = All-nil P
all_flat P F (w ∷ works) all = All-append P (F w) (flat_map F works) (All-head (λ w. All P (F w)) w works all) (all_flat P F works (All-tail (λ w. All P (F w)) w works all))

moment_quiet : (t k : ℕ) (ls : List Line) → All (λ l. phase (event_of l) ≡ k) ls → All (λ e. moment e ≡ 3 * t + k) (map (quiet t) ls)
moment_quiet t k ls all = All-map (λ e. moment e ≡ 3 * t + k) (quiet t) ls (All-weaker (λ l. phase (event_of l) ≡ k) (λ l. moment (quiet t l) ≡ 3 * t + k) (λ l is. omega arith) ls all)

moment_sent : (t : ℕ) (frames : List Frame) (fates : List (List ℕ)) → All (λ e. moment e ≡ 3 * t + 2) (sent_with t frames fates)
moment_sent t [] fates = All-nil (λ e. moment e ≡ 3 * t + 2)
moment_sent t (f ∷ frames) [] = All-nil (λ e. moment e ≡ 3 * t + 2)
moment_sent t (f ∷ frames) (fate ∷ fates) = All-cons (λ e. moment e ≡ 3 * t + 2) (sending t f.tag (Some f) fate) (sent_with t frames fates) refl (moment_sent t frames fates)

moment_sent_by : (t : ℕ) (works : List Group) → All (λ e. moment e ≡ 3 * t + 2) (sent_by t works)
moment_sent_by t [] = All-nil (λ e. moment e ≡ 3 * t + 2)
moment_sent_by t (w ∷ works) = All-append (λ e. moment e ≡ 3 * t + 2) (sent_with t w.work.frames.items w.work.fates.items) (sent_by t works) (moment_sent t w.work.frames.items w.work.fates.items) (moment_sent_by t works)

each_work : (readings : ReadingsView) (m : Masks) (t a n : ℕ) (entries : List Entry) (works : List Group) (P : Group → Type 0) → ((g : ℕ) (it : Group) → Ticked readings m t entries g it → P it)
    → AllZip (Ticked readings m t entries) (range_with_len a n) works → All P works
each_work readings m t a zero entries [] P each all = All-nil P
each_work readings m t a zero entries (w ∷ works) P each all = absurd all
each_work readings m t a (suc n) entries [] P each all = absurd all
each_work readings m t a (suc n) entries (w ∷ works) P each all = All-cons P w works (each a w all.0) (each_work readings m t (a + 1) n entries works P each all.1)

-- entries of one moment behind those before it
then_at : (k : ℕ) (xs ys : List Entry) → IsOrdered xs × All (λ e. moment e < k + 1) xs → All (λ e. moment e ≡ k) ys → IsOrdered (xs ++ ys) × All (λ e. moment e < k + 1) (xs ++ ys)
then_at k xs ys before now = (
  ordered-append k xs ys before.0 before.1 now,
  All-append (λ e. moment e < k + 1) xs ys before.1 (All-weaker (λ e. moment e ≡ k) (λ e. moment e < k + 1) (λ e h. omega arith) ys now),
)

later : (k m : ℕ) (xs : List Entry) → k ≤ m → IsOrdered xs × All (λ e. moment e < k) xs → IsOrdered xs × All (λ e. moment e < m) xs
later k m xs le before = (before.0, All-weaker (λ e. moment e < k) (λ e. moment e < m) (λ e h. omega arith) xs before.1)

pub whole-ordered : (readings : ReadingsView) (m : Masks) (n t : ℕ) (entries : List Entry) (works : List Group) → AreWhole n t entries → AllTick readings m t entries works
    → IsOrdered (whole_then t entries works) × All (λ e. moment e < 3 * (t + 1)) (whole_then t entries works)
whole-ordered readings m n t entries works whole all =
    let groups : ℕ = length readings.plan.groups in
    let takes : All (λ l. phase (event_of l) ≡ 0) (taken_by works) = all_flat (λ l. phase (event_of l) ≡ 0) (λ w. taken_in w.work) works (each_work readings m t 0 groups entries works (λ w. All (λ l. phase (event_of l) ≡ 0) (taken_in w.work)) (λ g w tick. tick.ticks.takes) all) in
    let closes : All (λ l. phase (event_of l) ≡ 1) (closed_by works) = all_flat (λ l. phase (event_of l) ≡ 1) (λ w. closed_in w.work) works (each_work readings m t 0 groups entries works (λ w. All (λ l. phase (event_of l) ≡ 1) (closed_in w.work)) (λ g w tick. tick.ticks.closes) all) in
    let one = then_at (3 * t + 0) entries (map (quiet t) (taken_by works)) (later (3 * t) (3 * t + 0 + 1) entries (omega arith) (whole.ordered, whole.before)) (moment_quiet t 0 (taken_by works) takes) in
    let two = then_at (3 * t + 1) (entries ++ map (quiet t) (taken_by works)) (map (quiet t) (closed_by works)) (later (3 * t + 0 + 1) (3 * t + 1 + 1) (entries ++ map (quiet t) (taken_by works)) (omega arith) one) (moment_quiet t 1 (closed_by works) closes) in
    let three = then_at (3 * t + 2) ((entries ++ map (quiet t) (taken_by works)) ++ map (quiet t) (closed_by works)) (sent_by t works)
    (later (3 * t + 1 + 1) (3 * t + 2 + 1) ((entries ++ map (quiet t) (taken_by works)) ++ map (quiet t) (closed_by works)) (omega arith) two) (moment_sent_by t works) in
    later (3 * t + 2 + 1) (3 * (t + 1)) (whole_then t entries works) (omega arith) three

-- ---- the groups of a plan

own_below : (F : Group → List Entry) (a n top : ℕ) (works : List Group) → a + n ≤ top → AllZip (λ h w. Own h (F w)) (range_with_len a n) works → All (λ e. group_of (event_of e.line) < top) (flat_map F works)
own_below F a zero top [] le all = All-nil (λ e. group_of (event_of e.line) < top)
own_below F a zero top (w ∷ works) le all = absurd all
own_below F a (suc n) top [] le all = absurd all
own_below F a (suc n) top (w ∷ works) le all =
    All-append (λ e. group_of (event_of e.line) < top) (F w) (flat_map F works)
    (All-weaker (λ e. group_of (event_of e.line) ≡ a) (λ e. group_of (event_of e.line) < top) (λ e is. omega arith) (F w) all.0)
    (own_below F (a + 1) n top works (omega arith) all.1)

whole_of_plan : (readings : ReadingsView) (m : Masks) (t : ℕ) (entries : List Entry) (works : List Group) → All (λ e. group_of (event_of e.line) < length readings.plan.groups) entries → AllTick readings m t entries works → All Fated works
    → All (λ e. group_of (event_of e.line) < length readings.plan.groups) (whole_then t entries works)
whole_of_plan readings m t entries works before all fated =
    let n : ℕ = length readings.plan.groups in
    let own = each_own readings m t 0 n entries works all fated in
    let P : Entry → Type 0 = λ e. group_of (event_of e.line) < n in
    All-append P ((entries ++ map (quiet t) (taken_by works)) ++ map (quiet t) (closed_by works)) (sent_by t works)
    (All-append P (entries ++ map (quiet t) (taken_by works)) (map (quiet t) (closed_by works))
    (All-append P entries (map (quiet t) (taken_by works)) before
    (subst (All P) (sym (map_flat (quiet t) (λ it. taken_in it.work) works)) (own_below (λ it. map (quiet t) (taken_in it.work)) 0 n n works (omega arith) own.0)))
    (subst (All P) (sym (map_flat (quiet t) (λ it. closed_in it.work) works)) (own_below (λ it. map (quiet t) (closed_in it.work)) 0 n n works (omega arith) own.1)))
    (own_below (λ it. sent_with t it.work.frames.items it.work.fates.items) 0 n n works (omega arith) own.2)

-- ---- the order of the Sends

silent_quiet : (t k : ℕ) (ls : List Line) → k < 2 → All (λ l. phase (event_of l) ≡ k) ls → All (λ e. phase (event_of e.line) < 2) (map (quiet t) ls)
silent_quiet t k ls small all = All-map (λ e. phase (event_of e.line) < 2) (quiet t) ls (All-weaker (λ l. phase (event_of l) ≡ k) (λ l. phase (event_of l) < 2) (λ l is. omega arith) ls all)

-- of what a tick adds, only its Sends are sent
sent_then : (t u : ℕ) (entries : List Entry) (taken closed : List Line) (sent : List Entry) → All (λ l. phase (event_of l) ≡ 0) taken → All (λ l. phase (event_of l) ≡ 1) closed
    → sent_at (((entries ++ map (quiet t) taken) ++ map (quiet t) closed) ++ sent) u ≡ sent_at entries u ++ sent_at sent u
sent_then t u entries taken closed sent takes closes =
    sent-append ((entries ++ map (quiet t) taken) ++ map (quiet t) closed) sent u
    ∙ ap (λ l. l ++ sent_at sent u) (sent-append (entries ++ map (quiet t) taken) (map (quiet t) closed) u
    ∙ ap (λ l. sent_at (entries ++ map (quiet t) taken) u ++ l) (sent-silent (map (quiet t) closed) u (silent_quiet t 1 closed (omega arith) closes))
    ∙ append-nil (sent_at (entries ++ map (quiet t) taken) u)
    ∙ sent-append entries (map (quiet t) taken) u
    ∙ ap (λ l. sent_at entries u ++ l) (sent-silent (map (quiet t) taken) u (silent_quiet t 0 taken (omega arith) takes))
    ∙ append-nil (sent_at entries u))

flat_sent : (t u : ℕ) (works : List Group) → sent_at (sent_by t works) u ≡ flat_map (λ w. sent_at (sent_with t w.work.frames.items w.work.fates.items) u) works
flat_sent t u [] = refl
flat_sent t u (w ∷ works) = sent-append (sent_with t w.work.frames.items w.work.fates.items) (sent_by t works) u ∙ ap (λ l. sent_at (sent_with t w.work.frames.items w.work.fates.items) u ++ l) (flat_sent t u works)

flat_places : (F : Group → List Tag) (G : ℕ → List Tag) (a n : ℕ) (works : List Group) → AllZip (λ g w. F w ≡ G g) (range_with_len a n) works → flat_map F works ≡ flat_map G (range_with_len a n)
flat_places F G a zero [] all = refl
flat_places F G a zero (w ∷ works) all = absurd all
flat_places F G a (suc n) [] all = absurd all
flat_places F G a (suc n) (w ∷ works) all = ap (λ l. l ++ flat_map F works) all.0 ∙ ap (λ l. G a ++ l) (flat_places F G (a + 1) n works all.1)

in_part : (P : Entry → Type 0) (g : ℕ) (xs : List Entry) → All P xs → All P (entries_in g xs)
in_part P g [] all = All-nil P
in_part P g (x ∷ xs) all = step (group_of (event_of x.line) == g) (in_part P g xs (All-tail P x xs all))
  where
    step : (b : Bool) → All P (entries_in g xs) → All P (cond b (x ∷ entries_in g xs) (entries_in g xs))
    step true rest = All-cons P x (entries_in g xs) (All-head P x xs all) rest
    step false rest = rest

-- nothing is sent at a tick that comes
none_yet : (t : ℕ) (xs : List Entry) → All (λ e. moment e < 3 * t) xs → sent_at xs t ≡ []
none_yet t xs before = sent-late t (3 * t) xs (omega arith) before

-- and what is sent at one is not sent at another
none_else : (t u : ℕ) (frames : List Frame) (fates : List (List ℕ)) → (t ≡ u → ⊥) → sent_at (sent_with t frames fates) u ≡ []
none_else t u [] fates ne = refl
none_else t u (f ∷ frames) [] ne = refl
none_else t u (f ∷ frames) (fate ∷ fates) ne = ap (λ b. cond b (f.tag ∷ []) [] ++ sent_at (sent_with t frames fates) u) (ne_eqb t u ne) ∙ none_else t u frames fates ne

none_by : (t u : ℕ) (works : List Group) → (t ≡ u → ⊥) → sent_at (sent_by t works) u ≡ []
none_by t u [] ne = refl
none_by t u (w ∷ works) ne = sent-append (sent_with t w.work.frames.items w.work.fates.items) (sent_by t works) u ∙ ap (λ l. l ++ sent_at (sent_by t works) u) (none_else t u w.work.frames.items w.work.fates.items ne) ∙ none_by t u works ne

flat_parts : (F G : ℕ → List Tag) (a n : ℕ) (works : List Group) → AllZip (λ g (w : Group). F g ≡ G g) (range_with_len a n) works → flat_map F (range_with_len a n) ≡ flat_map G (range_with_len a n)
flat_parts F G a zero [] all = refl
flat_parts F G a zero (w ∷ works) all = absurd all
flat_parts F G a (suc n) [] all = absurd all
flat_parts F G a (suc n) (w ∷ works) all = ap (λ l. l ++ flat_map F (range_with_len (a + 1) n)) all.0 ∙ ap (λ l. G a ++ l) (flat_parts F G (a + 1) n works all.1)

pub whole-then : (readings : ReadingsView) (m : Masks) (t : ℕ) (entries : List Entry) (works : List Group) → AreWhole (length readings.plan.groups) t entries → AllTick readings m t entries works → All Fated works → length works ≡ length readings.plan.groups
    → AreWhole (length readings.plan.groups) (t + 1) (whole_then t entries works)
whole-then readings m t entries works whole all fated long =
    let n : ℕ = length readings.plan.groups in
    let order = whole-ordered readings m n t entries works whole all in
    let takes : All (λ l. phase (event_of l) ≡ 0) (taken_by works) = all_flat (λ l. phase (event_of l) ≡ 0) (λ w. taken_in w.work) works (each_work readings m t 0 n entries works (λ w. All (λ l. phase (event_of l) ≡ 0) (taken_in w.work)) (λ g w tick. tick.ticks.takes) all) in
    let closes : All (λ l. phase (event_of l) ≡ 1) (closed_by works) = all_flat (λ l. phase (event_of l) ≡ 1) (λ w. closed_in w.work) works (each_work readings m t 0 n entries works (λ w. All (λ l. phase (event_of l) ≡ 1) (closed_in w.work)) (λ g w tick. tick.ticks.closes) all) in
    let last : List Entry = whole_then t entries works in
    -- what group g sends by its part
    let own : (u k : ℕ) (d : Group) → k < n → Ticked readings m t entries k (get_or works k d) → sent_at (entries_in k last) u ≡ sent_at (entries_in k entries) u ++ sent_at (sent_with t (get_or works k d).work.frames.items (get_or works k d).work.fates.items) u
    = λ u k d below tick. ap (λ es. sent_at es u) (whole-in readings m t n entries works k d below all fated)
    ∙ sent_then t u (entries_in k entries) (taken_in (get_or works k d).work) (closed_in (get_or works k d).work) (sent_with t (get_or works k d).work.frames.items (get_or works k d).work.fates.items) tick.ticks.takes tick.ticks.closes in
    record {
      ordered = order.0;
      before = order.1;
      of_plan = whole_of_plan readings m t entries works whole.of_plan all fated;
      turns = λ u.
          sent_then t u entries (taken_by works) (closed_by works) (sent_by t works) takes closes
          ∙ ⊎_elim
          (λ now.
          let at : t ≡ u = now in
          subst (λ v. sent_at entries v ++ sent_at (sent_by t works) v ≡ flat_map (λ g. sent_at (entries_in g last) v) (range_with_len 0 n)) at
          (ap (λ l. l ++ sent_at (sent_by t works) t) (none_yet t entries whole.before)
          ∙ flat_sent t t works
          ∙ flat_places (λ w. sent_at (sent_with t w.work.frames.items w.work.fates.items) t) (λ g. sent_at (entries_in g last) t) 0 n works
          (places (Ticked readings m t entries) (λ g w. sent_at (sent_with t w.work.frames.items w.work.fates.items) t ≡ sent_at (entries_in g last) t) n works
          (λ k d below tick. sym (own t k d below tick ∙ ap (λ l. l ++ sent_at (sent_with t (get_or works k d).work.frames.items (get_or works k d).work.fates.items) t) (none_yet t (entries_in k entries) (in_part (λ e. moment e < 3 * t) k entries whole.before)))) all)))
          (λ other.
          ap (λ l. sent_at entries u ++ l) (none_by t u works other) ∙ append-nil (sent_at entries u) ∙ whole.turns u
          ∙ sym (flat_parts (λ g. sent_at (entries_in g last) u) (λ g. sent_at (entries_in g entries) u) 0 n works
          (places (Ticked readings m t entries) (λ g w. sent_at (entries_in g last) u ≡ sent_at (entries_in g entries) u) n works
          (λ k d below tick. own u k d below tick ∙ ap (λ l. sent_at (entries_in k entries) u ++ l) (none_else t u (get_or works k d).work.frames.items (get_or works k d).work.fates.items other) ∙ append-nil (sent_at (entries_in k entries) u)) all)))
          (cases_eq t u);
    }

-- ---- the tick of each

-- where none failed the first did not, nor the others
none_failed : (w : Group) (works : List Group) → list_any (λ x. x.work.failed) (w ∷ works) ≡ false → (w.work.failed ≡ false) × (list_any (λ x. x.work.failed) works ≡ false)
none_failed w works none = step w.work.failed none
  where
    step : (b : Bool) → (b || list_any (λ x. x.work.failed) works) ≡ false → (b ≡ false) × (list_any (λ x. x.work.failed) works ≡ false)
    step true h = absurd (false≢true (sym h))
    step false h = (refl, h)

-- each that did not fail has made its tick
pub all-tick : (book : SharedBook) (readings : ReadingsView) (m : Masks) (t a n : ℕ) (entries : List Entry) (before after : List Group) → length after ≡ length before → AllZip (StandsFor book readings m t entries) (range_with_len a n) before
    → ((k : ℕ) (d : Group) → k < length before → (es : List Entry) (g : ℕ) → IsAt book readings m t es g (get_or before k d) → (get_or after k d).work.failed ≡ false → IsMade book readings m t es g (get_or after k d))
    → list_any (λ x. x.work.failed) after ≡ false → AllZip (λ g it. IsMade book readings m t (entries_in g entries) g it) (range_with_len a n) after
all-tick book readings m t a zero entries [] [] long stand each none = tt
all-tick book readings m t a zero entries [] (y ∷ after) long stand each none = absurd (cc long)
all-tick book readings m t a zero entries (x ∷ before) after long stand each none = absurd stand
all-tick book readings m t a (suc n) entries [] after long stand each none = absurd stand
all-tick book readings m t a (suc n) entries (x ∷ before) [] long stand each none = absurd (cc long)
all-tick book readings m t a (suc n) entries (x ∷ before) (y ∷ after) long stand each none =
    let parts = none_failed y after none in
    (each 0 x (omega arith) (entries_in a entries) a stand.0 parts.0, all-tick book readings m t (a + 1) n entries before after (omega arith) stand.1 (λ k d lt. each (suc k) d (omega arith)) parts.1)

pub made-ok : {A E P : Type 0} (r : Result A E) → is_err r ≡ false → OnOk r P → P
made-ok (Ok x) none h = h
made-ok (Err e) none h = absurd (false≢true (sym none))

-- a group that stands can tick
pub stand-can : (book : SharedBook) (readings : ReadingsView) (m : Masks) (t : ℕ) (entries : List Entry) (works : List Group) (i : ℕ) (it : Group) → it ≡ get_or works i it → i < length works → AllStand book readings m t entries works
    → CanShare book readings m t it
stand-can book readings m t entries works i it is lt all = record {
  entries = entries_in i entries;
  group = i;
  at = range_item (StandsFor book readings m t entries) (length readings.plan.groups) i works it is lt all;
}

-- what a call says of its argument and of what it leaves is said of these
pub changed : (book : SharedBook) (readings : ReadingsView) (m : Masks) (t : ℕ) (x given y made : Group) → given ≡ x → made ≡ y
    → ((es : List Entry) (g : ℕ) → IsAt book readings m t es g given → made.work.failed ≡ false → IsMade book readings m t es g made)
    → (es : List Entry) (g : ℕ) → IsAt book readings m t es g x → y.work.failed ≡ false → IsMade book readings m t es g y
changed book readings m t x given y made same left call =
    subst (λ (z : Group × Group). (es : List Entry) (g : ℕ) → IsAt book readings m t es g z.0 → z.1.work.failed ≡ false → IsMade book readings m t es g z.1) (λ i. (same i, left i)) call

-- a note of failure leaves what was made
pub made-noted : (book : SharedBook) (readings : ReadingsView) (m : Masks) (t : ℕ) (entries : List Entry) (g : ℕ) (it : Group) (failed : Bool) → IsMade book readings m t entries g it
    → IsMade book readings m t entries g (record it { work = record it.work { failed = failed } })
made-noted book readings m t entries g it failed made = record {
  kept = made.kept;
  number = made.number;
  ticks = ticks-noted readings m t entries g made.kept it.work it.work.fates failed made.ticks;
  turns = made.turns;
}
