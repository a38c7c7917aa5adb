-- What is kept of a group is what any journal says of it that has the group's lines.
use Rattle.std.proofs.Common.{◌≡◌, ℕ, List, sym, ap, ◌∙◌}
use Rattle.std.specs.Prelude.{filter, Option}
use Rattle.std.specs.List.{sum_by}
use mathlib.Core.Path.{fun_ext}
use Rattle.missing_round.specs.Words.{word}
use Rattle.group_plan.specs.declared.Kind.{Kind}
use Rattle.group_plan.specs.declared.Kind.TheVariants.{Reading, Answer}
use Rattle.group_plan.specs.Tables.{PresenceView}
use Rattle.event_schedule.specs.declared.Event.{Event}
use Rattle.event_schedule.specs.declared.Line.{Line}
use Rattle.event_schedule.specs.Schedule.{Shape, shape_of_presence, members_of, is_closed, is_ended, is_taken}
use Rattle.event_schedule.specs.Transcript.{set_sent}
use Rattle.event_schedule.specs.Frames.{first_word}
use Rattle.event_schedule.specs.Journal.{past_of}
use Rattle.group_book.specs.Pages.{PageView}
use Rattle.group_book.specs.Books.{posted}
use Rattle.event_schedule.specs.ByGroup.{events_in, lines_in}
use Rattle.group_book.specs.Groups.{GroupView}
use Rattle.group_book.specs.Replay.{IsPage, IsWord, frame_with, IsLedger, Replays}
use Rattle.event_schedule.proofs.EventsByGroup.{closed-in, ended-in, taken-in, set_sent-in}
use Rattle.group_book.proofs.LinesByGroup.{past-in, posted-in, first_word-in}

module _ (s : Shape) (g : ℕ) (one other : List Line) (same : lines_in g other ≡ lines_in g one) where
  -- what reads the group's events alone is the same of both
  by_events : {X : Type 0} (D : List Event → X) → ((p : List Event) → D (events_in g p) ≡ D p) → D (past_of one) ≡ D (past_of other)
  by_events D own =
      sym (own (past_of one)) ∙ ap D (sym (past-in g one)) ∙ ap (λ j. D (past_of j)) (sym same) ∙ ap D (past-in g other) ∙ own (past_of other)

  words-same : (r : ℕ) (k : Kind) (xs : List ℕ) → sum_by (λ i. first_word g r i k one) xs ≡ sum_by (λ i. first_word g r i k other) xs
  words-same r k xs = ap (λ f. sum_by f xs) (fun_ext (λ i. sym (first_word-in g r i k one) ∙ ap (first_word g r i k) (sym same) ∙ first_word-in g r i k other))

  page-same : (r : ℕ) (page : PageView) → IsPage s g r page one → IsPage s g r page other
  page-same r page is = record {
    members = is.members;
    floor = is.floor;
    closed = is.closed ∙ by_events (is_closed g r) (closed-in s g r);
    ended = is.ended ∙ by_events (is_ended g r) (ended-in s g r);
    taken = λ k. is.taken k ∙ by_events (λ p. filter (λ i. is_taken s k g r i p) (members_of s g r)) (λ p. ap (λ t. filter t (members_of s g r)) (fun_ext (λ i. taken-in s g k r i p)));
    readings = is.readings ∙ ap word (words-same r Reading page.round.taken);
    answers = is.answers ∙ ap word (words-same r Answer page.round.answered);
  }

  word-same : (r i : ℕ) (k : Kind) (w : Option ℕ) → IsWord s g r i k w one → IsWord s g r i k w other
  word-same r i k w is =
      ap (λ set. frame_with (record { group = g; round = r; meter = i; kind = k }) set w) (sym (by_events (set_sent s k g r) (set_sent-in s g k r)))
      ∙ is ∙ sym (posted-in g r i k one) ∙ ap (posted g r i k) (sym same) ∙ posted-in g r i k other

pub groups_stay : (p : PresenceView) (one other : List Line) (v : GroupView) → IsLedger p other → lines_in v.group other ≡ lines_in v.group one → Replays p one v → Replays p other v
groups_stay p one other v led same rep = record {
  ledger = led;
  inside = rep.inside;
  rounds = rep.rounds;
  meters = rep.meters;
  pages_long = rep.pages_long;
  words_long = rep.words_long;
  page = λ r d hr. page-same (shape_of_presence p) v.group one other same r _ (rep.page r d hr);
  word = λ r i k d hr hi. word-same (shape_of_presence p) v.group one other same r i k _ (rep.word r i k d hr hi);
}
