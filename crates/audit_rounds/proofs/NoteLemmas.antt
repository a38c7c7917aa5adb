-- What is kept of each round stays when a reading is noted of which no Send came.
use Rattle.std.proofs.Common.{◌≡◌, ℕ, Bool, false, ◌&&◌, List, sym, ap, ◌∙◌, subst, inl, inr}
use Rattle.std.specs.Prelude.{◌==◌, Option}
use Rattle.std.proofs.lemmas.Bool.{false≢true, cases_Bool, and_parts, eqb-true}
use Rattle.group_plan.specs.declared.Kind.{Kind}
use Rattle.group_plan.specs.declared.Kind.TheVariants.{Reading}
use Rattle.group_plan.specs.Plans.{PlanView}
use Rattle.group_plan.specs.Tables.{Table, is_present, is_same_place, IsPresenceTable, PresenceView, NotesReading}
use Rattle.event_schedule.specs.declared.Line.{Line}
use Rattle.event_schedule.specs.Events.{once, is_send}
use Rattle.event_schedule.specs.Schedule.{shape_of_presence}
use Rattle.event_schedule.specs.Journal.{past_of}
use Rattle.event_schedule.proofs.ShapeLemmas.{AgreeOn}
use Rattle.group_book.specs.Groups.{GroupView}
use Rattle.group_book.specs.Pages.{PageView}
use Rattle.group_book.specs.Replay.{IsPage, IsWord, frame_with, IsLedger, Replays, AreReplayed}
use Rattle.audit_rounds.specs.Told.{IsUnsent}
use Rattle.audit_rounds.proofs.ShapeLemmas.{sent_same, takers_same, set_same, journal_same}

module _ (plan : PlanView) (old new : Table Bool) (j : List Line) (table : IsPresenceTable plan new) where
  abbrev p : PresenceView
  p = record { plan = plan; table = old }

  abbrev q : PresenceView
  q = record { plan = plan; table = new }

  module _ (agree : AgreeOn (shape_of_presence p) (shape_of_presence q) (past_of j)) where
    ledger_stays : IsLedger p j → IsLedger q j
    ledger_stays is = record {
      limits = is.limits;
      table = table;
      journal = journal_same plan.groups (is_present old) (is_present new) j agree is.journal;
      framed = λ g r i k. is.framed g r i k ∙ sent_same plan.groups (is_present old) (is_present new) k g r i (past_of j) agree;
    }

    page_stays : (g r : ℕ) (page : PageView) → IsPage (shape_of_presence p) g r page j → IsPage (shape_of_presence q) g r page j
    page_stays g r page is = record {
      members = is.members;
      floor = is.floor;
      closed = is.closed;
      ended = is.ended;
      taken = λ k. is.taken k ∙ takers_same plan.groups (is_present old) (is_present new) k g r (past_of j) agree;
      readings = is.readings;
      answers = is.answers;
    }

    word_stays : (g r i : ℕ) (k : Kind) (w : Option ℕ) → IsWord (shape_of_presence p) g r i k w j → IsWord (shape_of_presence q) g r i k w j
    word_stays g r i k w is =
        ap (λ set. frame_with (record { group = g; round = r; meter = i; kind = k }) set w) (sym (set_same plan.groups (is_present old) (is_present new) k g r (past_of j) agree)) ∙ is

    group_stays : (v : GroupView) → Replays p j v → Replays q j v
    group_stays v is = record {
      ledger = ledger_stays is.ledger;
      inside = is.inside;
      rounds = is.rounds;
      meters = is.meters;
      pages_long = is.pages_long;
      words_long = is.words_long;
      page = λ r d hr. page_stays v.group r _ (is.page r d hr);
      word = λ r i k d hr hi. word_stays v.group r i k _ (is.word r i k d hr hi);
    }

    groups_stay : (groups : List GroupView) → AreReplayed p j groups → AreReplayed q j groups
    groups_stay groups is = record {
      ledger = ledger_stays is.ledger;
      long = is.long;
      each = λ g d inside. let one = is.each g d inside in record { group = one.group; replays = group_stays _ one.replays };
    }

-- a reading that is noted is of no Send that came
agree_noted : (plan : PlanView) (old new : Table Bool) (j : List Line) (g r i : ℕ) → ((a b c : ℕ) → is_same_place g r i a b c ≡ false → is_present new a b c ≡ is_present old a b c) → IsUnsent j g r i
    → AgreeOn (shape_of_presence (record { plan = plan; table = old })) (shape_of_presence (record { plan = plan; table = new })) (past_of j)
unfolding AgreeOn
agree_noted plan old new j g r i elsewhere unsent a b c sent =
    elim (cases_Bool (is_same_place g r i a b c)) [
      | inl same ↦
          let last = and_parts ((a == g) && (b == r)) (c == i) same in
          let first = and_parts (a == g) (b == r) last.0 in
          let came : ℕ → ℕ → ℕ → Bool = λ x y z. once (λ e _. is_send x y z Reading e) (past_of j) in
          absurd (false≢true (sym unsent
          ∙ ap (λ x. came x r i) (sym (eqb-true a g first.0)) ∙ ap (λ y. came a y i) (sym (eqb-true b r first.1)) ∙ ap (λ z. came a b z) (sym (eqb-true c i last.1)) ∙ sent))
      | inr other ↦ sym (elsewhere a b c other)
    ]

pub noted : (p q : PresenceView) (j : List Line) (g r i : ℕ) (groups : List GroupView) → NotesReading p g r i q → IsPresenceTable q.plan q.table → IsUnsent j g r i → AreReplayed p j groups → AreReplayed q j groups
noted p q j g r i groups notes table unsent are =
    subst (λ (x : PlanView). AreReplayed (record { plan = x; table = q.table }) j groups) (sym notes.plan)
    (groups_stay p.plan p.table q.table j (subst (λ (x : PlanView). IsPresenceTable x q.table) notes.plan table) (agree_noted p.plan p.table q.table j g r i notes.elsewhere unsent) groups are)
