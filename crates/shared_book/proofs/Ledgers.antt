-- A history is legal where each group's part of it is that of a legal one.
use Rattle.std.proofs.Common.{◌≡◌, ◌≢◌, ℕ, List, [], ◌∷◌, ◌++◌, refl, sym, ap, ◌∙◌, subst, ne_eqb, append_assoc}
use Rattle.std.specs.Prelude.{◌==◌, is_some}
use Rattle.std.specs.List.{All}
use mathlib.Core.Logic.{dite}
use native.Mathlib.Decide.{ℕ_discrete}
use Rattle.std.proofs.lemmas.List.{map-append}
use Rattle.std.proofs.lemmas.List.Elements.{filter-append}
use Rattle.group_plan.specs.Tables.{PresenceView}
use Rattle.event_schedule.specs.declared.Line.{Line}
use Rattle.event_schedule.specs.Events.{event_of}
use Rattle.event_schedule.specs.Schedule.{Shape, shape_of_presence, is_sent}
use Rattle.event_schedule.specs.Journal.{past_of}
use Rattle.group_book.specs.Books.{BookView, posted}
use Rattle.event_schedule.specs.ByGroup.{group_of, lines_in}
use Rattle.group_book.specs.Groups.{GroupView}
use Rattle.group_book.specs.Replay.{IsJournal, IsLedger}
use Rattle.event_schedule.proofs.EventsByGroup.{sent-in}
use Rattle.group_book.proofs.LinesByGroup.{past-in, posted-in, journal-part, journal-whole, append-elsewhere}
use Rattle.group_book.proofs.OwnLines.{groups_stay}
use Rattle.shared_book.specs.declared.turn.Turn.{Turn}
use Rattle.shared_book.specs.Turns.{IsLegal, lines_of, journal_after, turns_of}
use Rattle.shared_book.specs.Law.{Stands}

-- ---- journals

-- another journal of the plan that has the same lines of this group
abbrev pub HasPart : PresenceView → List Line → ℕ → Type 0
HasPart p j h = (k : List Line) × IsLedger p k × (lines_in h j ≡ lines_in h k)

-- lines are a book's journal where each group's part of them is that of one
pub ledger_of_parts : (p : PresenceView) (j : List Line) → ((h : ℕ) → HasPart p j h) → IsLedger p j
ledger_of_parts p j parts =
    let s : Shape = shape_of_presence p in
    record {
      limits = (parts 0).1.limits;
      table = (parts 0).1.table;
      journal = journal-whole s j (λ h. subst (IsJournal s) (sym (parts h).2) (journal-part s (parts h).0 (parts h).1.journal h));
      framed = λ g r i k.
          let one : List Line = (parts g).0 in
          let same = (parts g).2 in
          ap is_some (sym (posted-in g r i k j) ∙ ap (posted g r i k) same ∙ posted-in g r i k one)
          ∙ (parts g).1.framed g r i k
          ∙ sym (sent-in s g k r i (past_of one))
          ∙ ap (is_sent s k g r i) (sym (past-in g one) ∙ ap past_of (sym same) ∙ past-in g j)
          ∙ sent-in s g k r i (past_of j);
    }

pub lines_in-append : (h : ℕ) (xs ys : List Line) → lines_in h (xs ++ ys) ≡ lines_in h xs ++ lines_in h ys
lines_in-append h xs ys = filter-append (λ l. group_of (event_of l) == h) xs ys

-- lines of one group that may follow one journal may follow another one with the same lines of the group
pub ledger_added : (p : PresenceView) (g : ℕ) (one other own : List Line) → IsLedger p one → IsLedger p (other ++ own) → lines_in g one ≡ lines_in g other → All (λ l. group_of (event_of l) ≡ g) own
    → IsLedger p (one ++ own)
ledger_added p g one other own first next same all = ledger_of_parts p (one ++ own) (λ h. dite (ℕ_discrete g h)
    (λ (e : g ≡ h). let here : lines_in h one ≡ lines_in h other = subst (λ (n : ℕ). lines_in n one ≡ lines_in n other) e same in
    (other ++ own, next, lines_in-append h one own ∙ ap (λ (l : List Line). l ++ lines_in h own) here ∙ sym (lines_in-append h other own)))
    (λ (n : g ≢ h). (one, first, append-elsewhere h g one own (ne_eqb g h n) all)))

-- ---- histories

pub journal-append : (o : BookView) (xs ys : List Turn) → journal_after o (xs ++ ys) ≡ journal_after o xs ++ lines_of ys
journal-append o xs ys = ap (λ (l : List Line). o.journal ++ l) (map-append (λ (t : Turn). t.line) xs ys) ∙ sym (append_assoc o.journal (lines_of xs) (lines_of ys))

pub lines_of-turns : (n : ℕ) (lines : List Line) → lines_of (turns_of n lines) ≡ lines
lines_of-turns n [] = refl
lines_of-turns n (l ∷ lines) = ap (λ (x : List Line). l ∷ x) (lines_of-turns n lines)

pub journal-turns : (o : BookView) (xs : List Turn) (n : ℕ) (lines : List Line) → journal_after o (xs ++ turns_of n lines) ≡ journal_after o xs ++ lines
journal-turns o xs n lines = journal-append o xs (turns_of n lines) ∙ ap (λ (l : List Line). journal_after o xs ++ l) (lines_of-turns n lines)

-- what of two histories is the same of a group
abbrev pub SameOf : BookView → ℕ → List Turn → List Turn → Type 0
SameOf o g xs ys = lines_in g (journal_after o xs) ≡ lines_in g (journal_after o ys)

pub legal_added : (o : BookView) (g n : ℕ) (log seen : List Turn) (own : List Line) → IsLegal o log → IsLegal o (seen ++ turns_of n own) → SameOf o g log seen → All (λ l. group_of (event_of l) ≡ g) own
    → IsLegal o (log ++ turns_of n own)
legal_added o g n log seen own legal next same all =
    subst (IsLedger o.presence) (sym (journal-turns o log n own))
    (ledger_added o.presence g (journal_after o log) (journal_after o seen) own legal (subst (IsLedger o.presence) (journal-turns o seen n own) next) same all)

pub same_added : (o : BookView) (g n : ℕ) (log seen : List Turn) (own : List Line) → SameOf o g log seen → SameOf o g (log ++ turns_of n own) (seen ++ turns_of n own)
same_added o g n log seen own same =
    ap (lines_in g) (journal-turns o log n own) ∙ lines_in-append g (journal_after o log) own ∙ ap (λ (l : List Line). l ++ lines_in g own) same
    ∙ sym (ap (lines_in g) (journal-turns o seen n own) ∙ lines_in-append g (journal_after o seen) own)

-- another group has no line more
pub same_elsewhere : (o : BookView) (g h n : ℕ) (log : List Turn) (own : List Line) → g ≢ h → All (λ l. group_of (event_of l) ≡ g) own → SameOf o h (log ++ turns_of n own) log
same_elsewhere o g h n log own ne all = ap (lines_in h) (journal-turns o log n own) ∙ append-elsewhere h g (journal_after o log) own (ne_eqb g h ne) all

-- pages stand for any legal history that has the same of their group
pub stands_same : (o : BookView) (g : ℕ) (one other : List Turn) (pages : GroupView) → Stands o one g pages → IsLegal o other → SameOf o g other one → Stands o other g pages
stands_same o g one other pages s legal same = record {
  group = s.group;
  replays = groups_stay o.presence (journal_after o one) (journal_after o other) pages legal
      (subst (λ (n : ℕ). lines_in n (journal_after o other) ≡ lines_in n (journal_after o one)) (sym s.group) same) s.replays;
}
