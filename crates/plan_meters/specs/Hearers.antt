-- The meters of a round to which an announcement came.
use Rattle.std.specs.Prelude.{◌≡◌, ℕ, ◌⊎◌, true, false, List, []}
use Rattle.missing_round.specs.Sets.{is_member, joined}
use Rattle.group_plan.specs.declared.Kind.TheVariants.{Announcement}
use Rattle.meter_frames.specs.declared.Frame.{Frame}
use Rattle.run_rows.specs.Ticks.{tag_of}
use Rattle.plan_meters.specs.Came.{tags_of}
use Rattle.plan_meters.specs.TickFrames.{announced_set, IsHeardIn}
use Rattle.plan_meters.specs.declared.group.Hearers.{Hearers}

-- those to which an announcement came, and some to which this very set came
pub record AreHearers (came : List Frame) (g r : ℕ) (h : Hearers) : Type 0 where
  pub meters : IsHeardIn (tags_of came) g r h.meters
  pub alike : (i : ℕ) → is_member i h.alike ≡ true → (is_member i h.meters ≡ true) × (announced_set came (tag_of Announcement g r i) ≡ h.missing)

-- those that heard the same set stay
pub record StayAlike (h k : Hearers) : Type 0 where
  pub alike : k.alike ≡ h.alike
  pub missing : k.missing ≡ h.missing

-- a meter that had not heard is one of them, by this set
pub record IsAlike (h : Hearers) (meter : ℕ) (set : List ℕ) (k : Hearers) : Type 0 where
  pub new : is_member meter h.meters ≡ false
  pub missing : k.missing ≡ set
  pub alike : k.alike ≡ joined meter h.alike
  pub same : (h.alike ≡ []) ⊎ (h.missing ≡ set)

-- one meter more has heard of a set
pub record HearsToo (h : Hearers) (meter : ℕ) (set : List ℕ) (k : Hearers) : Type 0 where
  pub meters : k.meters ≡ joined meter h.meters
  pub alike : StayAlike h k ⊎ IsAlike h meter set k
