-- What a book keeps of its groups, as its calls find and leave it.
use Rattle.std.proofs.Common.{◌≡◌, ℕ, ◌<◌, true, false, List, ◌++◌, length, set, sym, ap, ◌∙◌, subst, inl, inr, get_or-set_same, get_or-set_other}
use Rattle.std.specs.Prelude.{◌==◌, slice_index_or}
use Rattle.std.specs.List.{All}
use Rattle.std.proofs.Math.ListN.{length-set}
use Rattle.std.proofs.lemmas.Bool.{false≢true, cases_Bool, eqb-true, eq-eqb}
use Rattle.group_plan.specs.declared.Tag.{Tag}
use Rattle.group_plan.specs.Plans.{PlanView, is_place}
use Rattle.group_plan.specs.Tables.{PresenceView}
use Rattle.group_plan.proofs.MeterNumbers.{group-lt, in_place}
use Rattle.event_schedule.specs.declared.Line.{Line}
use Rattle.event_schedule.specs.Events.{event_of}
use Rattle.transcript_log.specs.Lines.{LinesView}
use Rattle.event_schedule.specs.ByGroup.{group_of}
use Rattle.group_book.specs.Books.{BookView}
use Rattle.group_book.specs.Groups.{GroupView}
use Rattle.group_book.specs.Replay.{Replays, IsGroup, AreReplayed, PagesEnd, book_at}
use Rattle.group_book.proofs.LinesByGroup.{append-elsewhere}
use Rattle.group_book.proofs.OwnLines.{groups_stay}

-- the group at its place
pub group_at : (p : PresenceView) (j : List Line) (groups : List GroupView) (g : ℕ) (x : GroupView) → AreReplayed p j groups → g < length p.plan.groups → x ≡ slice_index_or groups g x → IsGroup p j g x
group_at p j groups g x are inside x_is = subst (IsGroup p j g) (sym x_is) (are.each g x inside)

-- a place is one of a group of the plan
pub place_group : (plan : PlanView) (tag : Tag) → is_place plan tag.group tag.round tag.meter ≡ true → tag.group < length plan.groups
place_group plan tag is = group-lt plan.groups tag.group tag.meter (in_place plan tag.group tag.round tag.meter is).1

-- after a call on one group
pub groups_after : (p : PresenceView) (j js added : List Line) (groups : List GroupView) (g : ℕ) (new : GroupView) → AreReplayed p j groups → g < length p.plan.groups
    → new.group ≡ g → Replays p (j ++ added) new → All (λ l. group_of (event_of l) ≡ g) added → js ≡ j ++ added → AreReplayed p js (set groups g new)
groups_after p j js added groups g new are inside own rep all lines = subst (λ x. AreReplayed p x (set groups g new)) (sym lines) (record {
  ledger = rep.ledger;
  long = length-set groups g new ∙ are.long;
  each = λ h d hh. elim (cases_Bool (g == h)) [
    | inl same ↦
        subst (λ n. IsGroup p (j ++ added) n (slice_index_or (set groups g new) n d)) (eqb-true g h same)
        (subst (IsGroup p (j ++ added) g) (sym (get_or-set_same groups g new d lt)) (record { group = own; replays = rep }))
    | inr other ↦
        subst (IsGroup p (j ++ added) h) (sym (get_or-set_other groups g h new d (λ e. false≢true (sym other ∙ eq-eqb g h (sym e))))) (stays h (slice_index_or groups h d) (are.each h d hh) other)
  ];
})
  where
    lt : g < length groups
    lt = rw are.long inside

    stays : (h : ℕ) (x : GroupView) → IsGroup p j h x → (g == h) ≡ false → IsGroup p (j ++ added) h x
    stays h x is other = record {
      group = is.group;
      replays = groups_stay p j (j ++ added) x rep.ledger (append-elsewhere x.group g j added (ap (λ n. g == n) is.group ∙ other) all) is.replays;
    }

-- a call on a group, as the call on its book
pub came_to : (p : PresenceView) (j : List Line) (call : BookView → BookView → Type 0) (before : LinesView) (g : ℕ) (v : GroupView) (after : LinesView) (end : PagesEnd p j call before g v after)
    → before.items ≡ j → call (book_at p j before.spare) (book_at p after.items after.spare)
came_to p j call before g v after end same =
    subst (λ x. call (book_at p j before.spare) (book_at p x after.spare)) (sym (end.lines ∙ ap (λ x. x ++ end.added) same)) end.ends
