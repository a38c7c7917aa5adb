-- A run between ticks, group by group.
use Rattle.std.specs.Prelude.{◌≡◌, ℕ, ◌*◌, ◌<◌, List, [], ◌∷◌, ◌++◌, length, map, All}
use Rattle.std.specs.List.{AllZip, flat_map, range_with_len}
use Rattle.missing_round.specs.Masks.{Masks}
use Rattle.group_plan.specs.Tables.{ReadingsView}
use Rattle.event_schedule.specs.declared.Line.{Line}
use Rattle.event_schedule.specs.declared.Entry.{Entry}
use Rattle.transcript_log.specs.Drafts.{quiet}
use Rattle.event_schedule.specs.Events.{event_of, lines_of}
use Rattle.event_schedule.specs.ByGroup.{group_of}
use Rattle.group_book.specs.Groups.{GroupView}
use Rattle.run_rows.specs.ByGroup.{entries_in}
use Rattle.run_rows.specs.Ticks.{moment, sent_at, IsOrdered}
use Rattle.tick_run.specs.declared.running.Group.{Group}
use Rattle.link_lanes.specs.declared.Post.{Post}
use Rattle.link_lanes.specs.Lanes.{Slot, after_post}
use Rattle.meter_frames.specs.declared.Frame.{Frame}
use Rattle.tick_run.specs.GroupRuns.{IsWorkAt, GroupTicks, IsInParts, taken_in, closed_in, sends_in, sent_with}
use Rattle.shared_book.specs.declared.parts.SharedBook.{SharedBook}
use Rattle.tick_run.specs.Progress.{IsDelay}
use Rattle.tick_run.specs.Sending.{passed}
use Rattle.tick_run.specs.Sharing.{HasTurns}

-- group g stands before tick t by these entries, and its pass has made their lines
pub record IsAt (book : SharedBook) (readings : ReadingsView) (m : Masks) (t : ℕ) (entries : List Entry) (g : ℕ) (it : Group) : Type 0 where
  pub number : it.number ≡ g
  pub stands : IsWorkAt readings m t entries it.work.fates.items g it.work
  pub turns : HasTurns book g (lines_of entries) it.pass

-- by its part of these entries
abbrev pub StandsFor : SharedBook → ReadingsView → Masks → ℕ → List Entry → ℕ → Group → Type 0
StandsFor book readings m t entries g it = IsAt book readings m t (entries_in g entries) g it

-- so do all groups of the plan, which are these
abbrev pub AllStand : SharedBook → ReadingsView → Masks → ℕ → List Entry → List Group → Type 0
AllStand book readings m t entries groups = AllZip (StandsFor book readings m t entries) (range_with_len 0 (length readings.plan.groups)) groups

-- by some entries a group stands before tick t
pub record CanShare (book : SharedBook) (readings : ReadingsView) (m : Masks) (t : ℕ) (it : Group) : Type 0 where
  pub entries : List Entry
  pub group : ℕ
  pub at : IsAt book readings m t entries group it

-- by some entries all groups do
pub record CanTickAll (book : SharedBook) (readings : ReadingsView) (m : Masks) (t : ℕ) (groups : List Group) : Type 0 where
  pub entries : List Entry
  pub stand : AllStand book readings m t entries groups

-- tick t was made of group g, which stood before it by these entries, and its lines are checked in
pub record IsMade (book : SharedBook) (readings : ReadingsView) (m : Masks) (t : ℕ) (entries : List Entry) (g : ℕ) (it : Group) : Type 0 where
  pub kept : GroupView
  pub number : it.number ≡ g
  pub ticks : GroupTicks readings m t entries g kept it.work
  pub turns : HasTurns book g (lines_of entries ++ it.work.lines.items) it.pass

-- so it was of each group, by its part of these entries
abbrev pub AllMade : SharedBook → ReadingsView → Masks → ℕ → List Entry → List Group → Type 0
AllMade book readings m t entries groups = AllZip (λ g it. IsMade book readings m t (entries_in g entries) g it) (range_with_len 0 (length readings.plan.groups)) groups

-- tick t was made of group g on some pages, by its part of these entries, and of each
pub record Ticked (readings : ReadingsView) (m : Masks) (t : ℕ) (entries : List Entry) (g : ℕ) (it : Group) : Type 0 where
  pub kept : GroupView
  pub ticks : GroupTicks readings m t (entries_in g entries) g kept it.work

abbrev pub AllTick : ReadingsView → Masks → ℕ → List Entry → List Group → Type 0
AllTick readings m t entries groups = AllZip (Ticked readings m t entries) (range_with_len 0 (length readings.plan.groups)) groups

-- the lines of the last tick of each group stand in their parts
abbrev pub AllInParts : List Group → Type 0
AllInParts groups = All (λ it. IsInParts it.work) groups

-- the entries of all groups of n before tick t: in order, and in each tick the Sends of one group after another
pub record AreWhole (n t : ℕ) (entries : List Entry) : Type 0 where
  pub ordered : IsOrdered entries
  pub before : All (λ e. moment e < 3 * t) entries
  pub of_plan : All (λ e. group_of (event_of e.line) < n) entries
  pub turns : (u : ℕ) → sent_at entries u ≡ flat_map (λ g. sent_at (entries_in g entries) u) (range_with_len 0 n)

-- what the groups made of tick t: the lines of their Takes, those of their Closes and Ends, those of their Sends, and these as entries with the fates that they met
abbrev pub taken_by : List Group → List Line
taken_by groups = flat_map (λ it. taken_in it.work) groups

abbrev pub closed_by : List Group → List Line
closed_by groups = flat_map (λ it. closed_in it.work) groups

abbrev pub sends_by : List Group → List Line
sends_by groups = flat_map (λ it. sends_in it.work) groups

abbrev pub sent_by : ℕ → List Group → List Entry
sent_by t groups = flat_map (λ it. sent_with t it.work.frames.items it.work.fates.items) groups

-- the entries after its Takes, Closes and Ends, and after all of it
abbrev pub quiet_then : ℕ → List Entry → List Group → List Entry
quiet_then t entries groups = (entries ++ map (quiet t) (taken_by groups)) ++ map (quiet t) (closed_by groups)

abbrev pub whole_then : ℕ → List Entry → List Group → List Entry
whole_then t entries groups = quiet_then t entries groups ++ sent_by t groups

-- ---- the lanes

-- the lanes after frames passed them at tick t, one after another
abbrev pub hung_after : ℕ → List Slot → List Frame → List Slot
hung_after t lanes [] = lanes
hung_after t lanes (f ∷ frames) = hung_after t (map (after_post t) lanes) frames

-- the fates that they meet
abbrev pub fates_met : ℕ → List Slot → List Frame → List (List ℕ)
fates_met t lanes frames = map (λ p. p.fate) (passed t lanes frames)

-- frames passed the lanes at tick t, and met these fates
pub record Passes (t : ℕ) (frames : List Frame) (lanes hung : List Slot) (posts all : List Post) (fates : List (List ℕ)) : Type 0 where
  pub hung_are : hung ≡ hung_after t lanes frames
  pub posts_are : all ≡ posts ++ passed t lanes frames
  pub fates_are : fates ≡ fates_met t lanes frames
  pub delays : All (All IsDelay) fates

-- the same, and the fates that they met stand behind those before
pub record PassesBehind (t : ℕ) (frames : List Frame) (lanes hung : List Slot) (posts all : List Post) (before after : List (List ℕ)) : Type 0 where
  pub met : List (List ℕ)
  pub passes : Passes t frames lanes hung posts all met
  pub behind : after ≡ before ++ met

-- the frames of groups, one after another, and the fates that these met
abbrev pub frames_by : List Group → List Frame
frames_by groups = flat_map (λ it. it.work.frames.items) groups

abbrev pub fates_by : List Group → List (List ℕ)
fates_by groups = flat_map (λ it. it.work.fates.items) groups

-- each frame of a group has met a fate
pub record Fated (it : Group) : Type 0 where
  pub long : length it.work.fates.items ≡ length it.work.frames.items
  pub delays : All (All IsDelay) it.work.fates.items

-- a group with other fates
abbrev pub IsButFates : Group → Group → Type 0
IsButFates before after = after ≡ record before { work = record before.work { fates = after.work.fates } }
