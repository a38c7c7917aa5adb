-- What the meters of a group send, with the announcements to it, is what is due.
use Rattle.std.proofs.Common.{◌≡◌, ℕ, ◌+◌, Bool, List, [], ◌++◌, map, refl, ap, ◌∙◌}
use Rattle.std.specs.Prelude.{◌==◌, if◌then◌else◌}
use mathlib.Core.Path.{fun_ext}
use Rattle.std.specs.List.{filter, flat_map, range_with_len, All}
use Rattle.missing_round.specs.Masks.{Masks}
use Rattle.group_plan.specs.Plans.{size, members}
use Rattle.group_plan.specs.Tables.{PresenceView, ReadingsView, reading, presence_of}
use Rattle.group_plan.specs.declared.Kind.TheVariants.{Announcement}
use Rattle.meter_frames.specs.declared.Frame.{Frame}
use Rattle.event_schedule.specs.declared.Event.{Event}
use Rattle.event_schedule.specs.Schedule.{Shape, shape_of_presence, members_of, missing}
use Rattle.run_rows.specs.Ticks.{clock_of, tag_of}
use Rattle.plan_meters.specs.Came.{tags_of}
use Rattle.group_book.specs.Books.{BookView, past}
use Rattle.plan_meters.specs.TickFrames.{run_shape, was_taken, answer_frame, answer_to, answers_to}
use Rattle.plan_meters.specs.Sent.{readings_at, answers_at}
use Rattle.tick_run.specs.Jobs.{announcements_due}
use Rattle.tick_run.specs.TickFrames.{announcements_at, answers_in, frames_due}
use Rattle.plan_meters.specs.Meters.{is_announcement, announcements, HasSet}
use Rattle.plan_meters.proofs.RowLemmas.{map_filter_same, members-below}
use Rattle.plan_meters.proofs.CameLemmas.{all-filter, set-is, taken-filter}

-- the answers to what came are those to the missing set
pub answers-are : (s : Shape) (m : Masks) (past : List Event) (came : List Frame) (g r : ℕ) → All (HasSet s past) came → answers_to s.groups m came g r ≡ answers_in s m past (tags_of came) g r
answers-are s m past came g r sets =
    let told : ℕ → Bool = λ i. was_taken (tags_of came) (tag_of Announcement g r i) in
    map_filter_same told told (answer_to m came g r) (answer_frame m g r (missing s g r past)) (size s.groups g) (members s.groups g r) (members-below s.groups g r (size s.groups g) refl) (λ i _. refl)
    (λ i _ is. ap (λ set. answer_frame m g r set i) (set-is (λ z. missing s z.group z.round past) (tag_of Announcement g r i) refl came sets is))

-- a group's frames, with the announcements between its readings and its answers, are those that are due
pub frames-merged : (readings : ReadingsView) (m : Masks) (b : BookView) (came : List Frame) (t g : ℕ) → b.presence ≡ presence_of readings → All (HasSet (run_shape readings) (past b)) came
    → readings_at readings m t g ++ announcements_due b t g ++ answers_at readings.plan m (announcements came) g
    ≡ frames_due (run_shape readings) (clock_of readings.plan) (reading readings.table) m (past b) (tags_of came) t g
frames-merged readings m b came t g presence sets =
    let s : Shape = run_shape readings in
    let rounds : List ℕ = range_with_len 0 readings.plan.rounds in
    let first : List Frame = readings_at readings m t g in
    let last : List Frame = answers_at readings.plan m (announcements came) g in
    let more : PresenceView → List Frame = λ p. flat_map (λ r. if r + p.plan.w1 == t then announcements_at (shape_of_presence p) (past b) g r else []) (range_with_len 0 p.plan.rounds) in
    let answer : ℕ → ℕ → Frame = λ r. answer_frame m g r (missing s g r (past b)) in
    ap (λ (p : PresenceView). (first ++ more p) ++ last) presence
    ∙ ap (λ (f : ℕ → List Frame). (first ++ more (presence_of readings)) ++ flat_map f rounds)
    (fun_ext (λ r. answers-are s m (past b) (announcements came) g r (all-filter (HasSet s (past b)) (λ f. is_announcement f.tag) came sets)
    ∙ ap (λ (told : ℕ → Bool). map (answer r) (filter told (members_of s g r))) (fun_ext (λ i. taken-filter is_announcement (tag_of Announcement g r i) refl came))))
