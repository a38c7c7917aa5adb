-- The pages of a group in its tick, as a pass checks them out and in.
use Rattle.std.proofs.Common.{◌≡◌, ℕ, ◌+◌, ◌-◌, List, [], ◌∷◌, ◌++◌, sym, ap, ◌∙◌, subst}
use Rattle.std.specs.List.{All}
use Rattle.std.proofs.lemmas.List.{map-append}
use Rattle.missing_round.specs.Masks.{Masks}
use Rattle.group_plan.specs.Tables.{ReadingsView, PresenceView, presence_of}
use Rattle.event_schedule.specs.declared.Line.{Line}
use Rattle.event_schedule.specs.declared.Entry.{Entry}
use Rattle.event_schedule.specs.Events.{event_of, lines_of}
use Rattle.group_book.specs.Books.{BookView}
use Rattle.event_schedule.specs.ByGroup.{group_of, lines_in}
use Rattle.group_book.specs.Groups.{GroupView}
use Rattle.group_book.specs.Replay.{IsLedger, Replays}
use Rattle.group_book.proofs.OwnLines.{groups_stay}
use Rattle.plan_meters.specs.GroupMeters.{AreGroupMeters}
use Rattle.shared_book.specs.declared.parts.SharedBook.{SharedBook}
use Rattle.shared_book.specs.declared.parts.Pass.{Pass}
use Rattle.shared_book.specs.declared.turn.Turn.{Turn}
use Rattle.shared_book.specs.Ends.{opening, view, IsPassOf}
use Rattle.shared_book.specs.Passes.{ChecksOut, ChecksIn, IsUnchanged}
use Rattle.shared_book.specs.Turns.{journal_after, turn, turns_of}
use Rattle.shared_book.specs.Law.{Stands}
use Rattle.shared_book.proofs.Ledgers.{ledger_added, journal-turns, lines_in-append}
use Rattle.tick_run.specs.declared.group_tick.GroupWork.{GroupWork}
use Rattle.tick_run.specs.declared.running.Group.{Group}
use Rattle.tick_run.specs.ByGroups.{IsAt}
use Rattle.tick_run.specs.GroupRuns.{IsGroupAt, IsWorkAt, GroupTicks, book_with, script_of, posted_all, past_in}
use Rattle.tick_run.specs.Running.{AreRunning, starting}
use Rattle.tick_run.specs.Sharing.{HasTurns}

-- the pages stand for what a pass has seen and for the tick's lines, where what it has seen has the group's lines of the entries
stands-ticked : (o : BookView) (seen : List Turn) (n g t : ℕ) (readings : ReadingsView) (m : Masks) (entries : List Entry) (kept : GroupView) (after : GroupWork)
    → presence_of readings ≡ o.presence → IsLedger o.presence (journal_after o seen) → lines_in g (journal_after o seen) ≡ lines_in g (lines_of entries)
    → GroupTicks readings m t entries g kept after → Stands o (seen ++ turns_of n after.lines.items) g kept
stands-ticked o seen n g t readings m entries kept after presence ledger before tick =
    let p : PresenceView = o.presence in
    let lines : List Line = after.lines.items in
    let whole : List Line = journal_after o seen in
    let part : List Line = lines_of entries in
    let rep : Replays p (part ++ lines) kept = subst (λ (q : PresenceView). Replays q (part ++ lines) kept) presence tick.pages in
    let led : IsLedger p (whole ++ lines) = ledger_added p g whole part lines ledger rep.ledger before tick.own in
    let same : lines_in g (whole ++ lines) ≡ lines_in g (part ++ lines)
    = lines_in-append g whole lines ∙ ap (λ (l : List Line). l ++ lines_in g lines) before ∙ sym (lines_in-append g part lines) in
    record {
      group = tick.group;
      replays = subst (λ (j : List Line). Replays p j kept) (sym (journal-turns o seen n lines))
          (groups_stay p (part ++ lines) (whole ++ lines) kept led (subst (λ (h : ℕ). lines_in h (whole ++ lines) ≡ lines_in h (part ++ lines)) (sym tick.group) same) rep);
    }

-- what a pass has seen with the tick's lines has again the same lines of the group as the entries with them
same-then : (o : BookView) (seen : List Turn) (n g : ℕ) (entries : List Entry) (lines : List Line) → lines_in g (journal_after o seen) ≡ lines_in g (lines_of entries)
    → lines_in g (journal_after o (seen ++ turns_of n lines)) ≡ lines_in g (lines_of entries ++ lines)
same-then o seen n g entries lines before =
    ap (lines_in g) (journal-turns o seen n lines) ∙ lines_in-append g (journal_after o seen) lines ∙ ap (λ (l : List Line). l ++ lines_in g lines) before
    ∙ sym (lines_in-append g (lines_of entries) lines)

-- a group stands with pages that stand for what a pass has seen, where this has the group's lines of the entries
pub at-out : (o : BookView) (seen : List Turn) (g t : ℕ) (readings : ReadingsView) (m : Masks) (entries : List Entry) (fates : List (List ℕ)) (pages : GroupView) (work : GroupWork)
    → o.presence ≡ presence_of readings → lines_in g (journal_after o seen) ≡ lines_in g (lines_of entries) → Stands o seen g pages → IsWorkAt readings m t entries fates g work
    → IsGroupAt readings m t entries fates pages work
at-out o seen g t readings m entries fates pages work presence same stands at =
    let own : g ≡ pages.group = sym stands.group in
    record {
      own = subst (λ (h : ℕ). All (λ e. group_of (event_of e.line) ≡ h) entries) own at.own;
      long = at.long;
      fits = at.fits;
      running = subst (λ (h : ℕ). AreRunning readings m (h ∷ []) (starting t) (book_with readings entries) (script_of readings entries) (posted_all (t - 1) work.frames.items fates work.link)) own at.running;
      pages = groups_stay (presence_of readings) (journal_after o seen) (lines_of entries) pages at.ledger (subst (λ (h : ℕ). lines_in h (lines_of entries) ≡ lines_in h (journal_after o seen)) own (sym same))
          (subst (λ (p : PresenceView). Replays p (journal_after o seen) pages) presence stands.replays);
      meters = subst (λ (h : ℕ). AreGroupMeters (presence_of readings) (past_in entries) t h work.meters.meters.items) own at.meters;
    }

-- ---- a tick between check-out and check-in

module _ (book : SharedBook) (readings : ReadingsView) (m : Masks) (t g : ℕ) (entries : List Entry) (before : Group) (out : Pass) (pages : GroupView)
    (presence : (opening book).presence ≡ presence_of readings) (at : IsAt book readings m t entries g before) (pass : IsPassOf book out) (own : IsUnchanged (opening book) (view before.pass) g (view out))
    (checks : ChecksOut (opening book) (view before.pass) g pages (view out)) where
  -- what the pass has seen has the group's lines of the entries
  seen-out : lines_in g (journal_after (opening book) (view out).seen) ≡ lines_in g (lines_of entries)
  seen-out = own ∙ at.turns.seen

  pub group-out : IsGroupAt readings m t entries before.work.fates.items pages before.work
  group-out = at-out (opening book) (view out).seen g t readings m entries before.work.fates.items pages before.work presence seen-out checks.stands at.stands

  -- once it ticked
  module _ (kept : GroupView) (work : GroupWork) (tick : GroupTicks readings m t entries g kept work) where
    pub stands-in : Stands (opening book) ((view out).seen ++ turns_of (view out).number work.lines.items) kept.group kept
    stands-in =
        subst (λ (h : ℕ). Stands (opening book) ((view out).seen ++ turns_of (view out).number work.lines.items) h kept) (sym tick.group)
        (stands-ticked (opening book) (view out).seen (view out).number g t readings m entries kept work (sym presence) checks.stands.replays.ledger seen-out tick)

    pub own-in : All (λ l. group_of (event_of l) ≡ kept.group) work.lines.items
    own-in = subst (λ (h : ℕ). All (λ l. group_of (event_of l) ≡ h) work.lines.items) (sym tick.group) tick.own

    pub turns-in : (last : Pass) → IsPassOf book last → ChecksIn (opening book) (view out) kept.group work.lines.items (view last) → HasTurns book g (lines_of entries ++ work.lines.items) last
    turns-in last whole ends =
        let back : ChecksIn (opening book) (view out) g work.lines.items (view last) = subst (λ (h : ℕ). ChecksIn (opening book) (view out) h work.lines.items (view last)) tick.group ends in
        let number : (view out).number ≡ g + 1 = checks.same.number ∙ at.turns.number in
        record {
          of = whole;
          number = back.same.number ∙ number;
          free = back.held;
          seen = ap (λ (ts : List Turn). lines_in g (journal_after (opening book) ts)) back.seen
              ∙ same-then (opening book) back.before (view out).number g entries work.lines.items (back.group ∙ seen-out);
          mine = back.mine ∙ ap (λ (ts : List Turn). ts ++ turns_of (view out).number work.lines.items) (checks.mine ∙ at.turns.mine)
              ∙ ap (λ (n : ℕ). turns_of (g + 1) (lines_of entries) ++ turns_of n work.lines.items) number
              ∙ sym (map-append (turn (g + 1)) (lines_of entries) work.lines.items);
        }
