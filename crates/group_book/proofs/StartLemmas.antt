-- A book with no line: every round as it begins, and no word.
use Rattle.std.proofs.Common.{◌≡◌, ℕ, ◌<◌, Bool, false, List, [], ◌∷◌, length, map, replicate, refl, sym, ap, ◌∙◌, arith, subst}
use Rattle.std.specs.Prelude.{filter, slice_index_or, if◌then◌else◌, Option, None, is_some}
use Rattle.std.specs.List.{range_with_len}
use Rattle.std.proofs.lemmas.List.{get_or-replicate, length-replicate}
use Rattle.std.proofs.lemmas.List.FromFn.{length-map-range_with_len, get_or-map-range_with_len}
use Rattle.group_plan.specs.declared.Kind.{Kind}
use Rattle.group_plan.specs.declared.Kind.TheVariants.{Reading, Announcement, Answer}
use Rattle.group_plan.specs.Plans.{PlanView, members, size, IsWithinLimits}
use Rattle.group_plan.specs.Tables.{PresenceView, IsPresenceTable}
use Rattle.event_schedule.specs.Events.{once}
use Rattle.event_schedule.specs.Schedule.{Shape, shape_of_presence, is_sent, is_taken}
use Rattle.group_book.specs.Groups.{GroupView, group_tags, word_in, first_group}
use Rattle.group_book.specs.Pages.{PageView, taken_in}
use Rattle.group_book.specs.Start.{first_page}
use Rattle.group_book.specs.Books.{posted}
use Rattle.group_book.specs.Replay.{IsPage, IsWord, IsLedger, Replays, IsGroup, AreReplayed}
use Rattle.group_book.proofs.PlaceLemmas.{word_in-lt}

nothing_passes : (test : ℕ → Bool) (xs : List ℕ) → ((i : ℕ) → test i ≡ false) → filter test xs ≡ []
nothing_passes test [] none = refl
nothing_passes test (x ∷ xs) none = ap (λ b. if b then x ∷ filter test xs else filter test xs) (none x) ∙ nothing_passes test xs none

not_taken : (s : Shape) (k : Kind) (g r i : ℕ) → is_taken s k g r i [] ≡ false
unfolding once
not_taken s Reading g r i = refl
not_taken s Announcement g r i = refl
not_taken s Answer g r i = refl

not_sent : (s : Shape) (k : Kind) (g r i : ℕ) → is_sent s k g r i [] ≡ false
unfolding once
not_sent s Reading g r i = refl
not_sent s Announcement g r i = refl
not_sent s Answer g r i = refl

no_set_yet : (plan : PlanView) (k : Kind) (g r : ℕ) → taken_in k (first_page plan g r) ≡ []
no_set_yet plan Reading g r = refl
no_set_yet plan Announcement g r = refl
no_set_yet plan Answer g r = refl

page_first : (p : PresenceView) (g r : ℕ) → IsPage (shape_of_presence p) g r (first_page p.plan g r) []
unfolding once
page_first p g r = record {
  members = refl;
  floor = refl;
  closed = refl;
  ended = refl;
  taken = λ k. no_set_yet p.plan k g r ∙ sym (nothing_passes (λ i. is_taken (shape_of_presence p) k g r i []) (members p.plan.groups g r) (λ i. not_taken (shape_of_presence p) k g r i));
  readings = refl;
  answers = refl;
}

page-first : (plan : PlanView) (g r : ℕ) (d : PageView) → r < plan.rounds → slice_index_or (map (first_page plan g) (range_with_len 0 plan.rounds)) r d ≡ first_page plan g r
page-first plan g r d hr = get_or-map-range_with_len (first_page plan g) 0 plan.rounds r r d hr (omega arith)

none_posted : (g r i : ℕ) (k : Kind) → posted g r i k [] ≡ None
unfolding posted
none_posted g r i k = refl

no_word : (s : Shape) (g r i : ℕ) (k : Kind) (w : Option ℕ) → w ≡ None → IsWord s g r i k w []
no_word s g r i k w none = subst (λ x. IsWord s g r i k x []) (sym none) (sym (none_posted g r i k))

ledger_none : (p : PresenceView) → IsWithinLimits p.plan → IsPresenceTable p.plan p.table → IsLedger p []
ledger_none p limits table = record {
  limits = limits;
  table = table;
  journal = record { lines = tt; frames = tt };
  framed = λ g r i k. ap is_some (none_posted g r i k) ∙ sym (not_sent (shape_of_presence p) k g r i);
}

replays_none : (p : PresenceView) → IsLedger p [] → (g : ℕ) → g < length p.plan.groups → Replays p [] (first_group p.plan g)
replays_none p led g inside = record {
  ledger = led;
  inside = inside;
  rounds = refl;
  meters = refl;
  pages_long = length-map-range_with_len (first_page p.plan g) 0 p.plan.rounds;
  words_long = length-replicate (group_tags p.plan.rounds (size p.plan.groups g)) None;
  page = λ r d hr. subst (λ x. IsPage (shape_of_presence p) g r x []) (sym (page-first p.plan g r d hr)) (page_first p g r);
  word = λ r i k d hr hi. no_word (shape_of_presence p) g r i k (slice_index_or (replicate (group_tags p.plan.rounds (size p.plan.groups g)) None) (word_in p.plan.rounds (size p.plan.groups g) r i k) d)
      (get_or-replicate (group_tags p.plan.rounds (size p.plan.groups g)) (word_in p.plan.rounds (size p.plan.groups g) r i k) None d (word_in-lt p.plan.rounds (size p.plan.groups g) r i k hr hi));
}

groups_none : (p : PresenceView) → IsWithinLimits p.plan → IsPresenceTable p.plan p.table → AreReplayed p [] (map (first_group p.plan) (range_with_len 0 (length p.plan.groups)))
groups_none p limits table = record {
  ledger = ledger_none p limits table;
  long = length-map-range_with_len (first_group p.plan) 0 (length p.plan.groups);
  each = λ g d inside. subst (IsGroup p [] g) (sym (get_or-map-range_with_len (first_group p.plan) 0 (length p.plan.groups) g g d inside (omega arith)))
      (record { group = refl; replays = replays_none p (ledger_none p limits table) g inside });
}

pub replays_start : (p copy : PresenceView) (plan : PlanView) (groups : List GroupView) → copy ≡ p → p.plan ≡ plan → IsWithinLimits plan → IsPresenceTable p.plan p.table
    → groups ≡ map (first_group plan) (range_with_len 0 (length plan.groups)) → AreReplayed copy [] groups
replays_start p copy plan groups copied same limits table groups_are =
    subst (λ x. AreReplayed x [] groups) (sym copied)
    (subst (AreReplayed p []) (sym (groups_are ∙ ap (λ q. map (first_group q) (range_with_len 0 (length q.groups))) (sym same))) (groups_none p (subst IsWithinLimits (sym same) limits) table))
