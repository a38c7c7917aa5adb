-- What was said and told stays so in the schedule.
use Rattle.std.proofs.Common.{◌≡◌, ℕ, true, ◌&&◌, List, ◌∷◌, ◌∙◌}
use Rattle.group_plan.specs.declared.Kind.{Kind}
use Rattle.group_plan.specs.declared.Kind.TheVariants.{Reading, Announcement, Answer}
use Rattle.meter_frames.specs.declared.Frame.{Frame}
use Rattle.event_schedule.specs.declared.Event.{Event}
use Rattle.event_schedule.specs.Events.{is_send, is_take}
use Rattle.event_schedule.specs.Schedule.{Shape, is_closed, missing, may_announce, is_reading_sent, is_announcement_sent, is_announcement_taken, is_answer_sent}
use Rattle.event_schedule.proofs.ScheduleLemmas.{once-more, is_closed-more, missing-closed, is_closed-from_taken}
use Rattle.apart_courses.specs.Courses.{and_then}
use Rattle.apart_courses.proofs.PastLemmas.{keeps}

-- a frame of this kind has been sent, an announcement with the missing set that its round has
abbrev pub SentBy : Kind → Shape → Frame → List Event → Type 0
SentBy Reading s f p = is_reading_sent s f.tag.group f.tag.round f.tag.meter p ≡ true
SentBy Announcement s f p = (is_closed f.tag.group f.tag.round p ≡ true) × (missing s f.tag.group f.tag.round p ≡ f.missing) × (is_announcement_sent s f.tag.group f.tag.round f.tag.meter p ≡ true)
SentBy Answer s f p = is_answer_sent s f.tag.group f.tag.round f.tag.meter p ≡ true

sent_more : (k : Kind) (s : Shape) (f : Frame) (e : Event) (p : List Event) → SentBy k s f p → SentBy k s f (e ∷ p)
sent_more Reading s f e p is = once-more (λ e before. is_send f.tag.group f.tag.round f.tag.meter Reading e && s.present f.tag.group f.tag.round f.tag.meter) e p is
sent_more Announcement s f e p is = (
  is_closed-more f.tag.group f.tag.round e p is.0,
  missing-closed s f.tag.group f.tag.round e p is.0 ∙ is.1,
  once-more (λ e before. is_send f.tag.group f.tag.round f.tag.meter Announcement e && may_announce s f.tag.group f.tag.round f.tag.meter before) e p is.2,
)
sent_more Answer s f e p is = once-more (λ e before. is_send f.tag.group f.tag.round f.tag.meter Answer e && is_announcement_taken s f.tag.group f.tag.round f.tag.meter before) e p is

pub sent_then : (k : Kind) (s : Shape) (f : Frame) (p rest : List Event) → SentBy k s f p → SentBy k s f (and_then p rest)
sent_then k s f p rest is = keeps (SentBy k s f) (sent_more k s f) p rest is

-- a meter took the announcement of this set
pub record IsTold (s : Shape) (g i r : ℕ) (set : List ℕ) (p : List Event) : Type 0 where
  pub taken : is_announcement_taken s g r i p ≡ true
  pub set_is : missing s g r p ≡ set

told_more : (s : Shape) (g i r : ℕ) (set : List ℕ) (e : Event) (p : List Event) → IsTold s g i r set p → IsTold s g i r set (e ∷ p)
told_more s g i r set e p is = record {
  taken = once-more (λ e before. is_take g r i Announcement e && is_announcement_sent s g r i before) e p is.taken;
  set_is = missing-closed s g r e p (is_closed-from_taken s g r i p is.taken) ∙ is.set_is;
}

pub told_then : (s : Shape) (g i r : ℕ) (set : List ℕ) (p rest : List Event) → IsTold s g i r set p → IsTold s g i r set (and_then p rest)
told_then s g i r set p rest is = keeps (IsTold s g i r set) (told_more s g i r set) p rest is
