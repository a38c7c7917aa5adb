-- What a meter keeps of its rounds, and what it says to an announcement.
use Rattle.std.specs.Prelude.{◌≡◌, ℕ, ◌-◌, ◌==◌, Bool, false, not, nat_lt, if◌then◌else◌, List, length, slice_index_or, slice_set, replicate, Option, Some, None, is_some, bytes_eq}
use Rattle.missing_round.specs.Sets.{is_member, less}
use Rattle.meter_core.specs.Notes.{Note}
use Rattle.meter_core.specs.declared.Why.{Why}
use Rattle.meter_core.specs.declared.Why.TheVariants.{OutOfPlan, NotRead, SelfMissing, Thin, OtherSet}
use Rattle.meter_core.specs.declared.Heard.{Heard}
use Rattle.meter_core.specs.declared.Heard.TheVariants.{Answer, AnswerAgain, Refused}

-- a meter, as its contracts see it
pub record MeterView : Type 0 where
  pub meter : ℕ
  pub floor : ℕ
  -- a note for each round: its members once it is marked read, and the set that is answered
  pub notes : List Note

-- the note of a round of which nothing is known
abbrev pub blank : Note
blank = record { members = None; kept = None }

-- the note of round r
abbrev pub note_at : MeterView → ℕ → Note
note_at s r = slice_index_or s.notes r blank

-- a meter that has read and heard nothing
abbrev pub new_meter : ℕ → ℕ → ℕ → MeterView
new_meter meter floor rounds = record { meter = meter; floor = floor; notes = replicate rounds blank }

-- ---- reading

-- the meter once round r is marked read over these members; a second mark changes nothing
abbrev pub marked : MeterView → ℕ → List ℕ → MeterView
marked s r members =
    if is_some (note_at s r).members then s
    else record s { notes = slice_set s.notes r (record { members = Some members; kept = (note_at s r).kept }) }

-- ---- hearing

-- whether the set names no meter but the members
abbrev pub is_within : List ℕ → List ℕ → Bool
is_within set members = length (less set members) == 0

-- how many of the members the set leaves
abbrev pub survivors : List ℕ → List ℕ → ℕ
survivors members set = length members - length set

-- the first refusal that applies to a set in a round of these members, where it is marked read
abbrev pub refusal_over : MeterView → List ℕ → Option (List ℕ) → Option Why
refusal_over s set None = Some NotRead
refusal_over s set (Some members) =
    if not (is_within set members) then Some OutOfPlan
    else if is_member s.meter set then Some SelfMissing
    else if nat_lt (survivors members set) s.floor then Some (Thin (survivors members set))
    else None

-- the first refusal that applies to a set in round r, whatever set is kept
abbrev pub refusal : MeterView → ℕ → List ℕ → Option Why
refusal s r set = if nat_lt r (length s.notes) then refusal_over s set (note_at s r).members else Some OutOfPlan

-- the set that is answered in round r, once there is one
abbrev pub kept_set : MeterView → ℕ → Option (List ℕ)
kept_set s r = (note_at s r).kept

-- the meter that keeps the set for round r
abbrev pub keeping : MeterView → ℕ → List ℕ → MeterView
keeping s r set = record s { notes = slice_set s.notes r (record { members = (note_at s r).members; kept = Some set }) }

-- the meter s that hears of the set in round r says this, and is then t
abbrev pub Hears : MeterView → ℕ → List ℕ → Heard → MeterView → Type 0
Hears s r set Answer t = (refusal s r set ≡ None) × (kept_set s r ≡ None) × (t ≡ keeping s r set)
Hears s r set AnswerAgain t = (refusal s r set ≡ None) × (kept_set s r ≡ Some set) × (t ≡ s)
Hears s r set (Refused (OtherSet kept)) t = (refusal s r set ≡ None) × (kept_set s r ≡ Some kept) × (bytes_eq kept set ≡ false) × (t ≡ s)
Hears s r set (Refused why) t = (refusal s r set ≡ Some why) × (t ≡ s)
