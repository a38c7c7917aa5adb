-- The report by fates: the row of each round from the delays of its frames, with no schedule.
use Rattle.std.specs.Prelude.{ℕ, ◌+◌, ◌==◌, nat_lt, nat_le, Bool, ◌&&◌, List, [], ◌∷◌, length, filter, if◌then◌else◌}
use Rattle.std.specs.List.{list_any, list_all}
use Rattle.group_plan.specs.declared.Kind.TheVariants.{Reading, Announcement, Answer}
use Rattle.group_plan.specs.declared.Tag.{Tag}
use Rattle.link_lanes.specs.declared.Post.{Post}
use Rattle.event_schedule.specs.declared.Event.{Event}
use Rattle.event_schedule.specs.Events.{is_tag}
use Rattle.event_schedule.specs.Schedule.{Shape, members_of, floor_of, survivors, Outcome, Running, EndedThin, Published, Unpublished, outcome}
use Rattle.run_rows.specs.Ticks.{Clock, tag_of}

-- F: the fate of the Send of a tag at tick t
abbrev pub fate_at : List Post → ℕ → Tag → List ℕ
fate_at [] t tag = []
fate_at (p ∷ rest) t tag = if (p.tick == t) && is_tag tag.group tag.round tag.meter tag.kind p.tag then p.fate else fate_at rest t tag

-- a delay of the reading, sent at tick r, is at most w1
abbrev pub comes_in_time : Clock → (ℕ → Tag → List ℕ) → ℕ → ℕ → ℕ → Bool
comes_in_time c fate g r i = list_any (λ d. nat_le d c.w1) (fate r (tag_of Reading g r i))

-- A, the survivors: the meters with a present reading that comes in time
abbrev pub report_survivors : Shape → Clock → (ℕ → Tag → List ℕ) → ℕ → ℕ → List ℕ
report_survivors s c fate g r = filter (λ i. s.present g r i && comes_in_time c fate g r i) (members_of s g r)

-- a delay d1 of the announcement, sent at tick r + w1, and a delay d2 of the answer, sent at tick r + w1 + d1, are together at most w2
abbrev pub is_answered_in_time : Clock → (ℕ → Tag → List ℕ) → ℕ → ℕ → ℕ → Bool
is_answered_in_time c fate g r i =
    list_any (λ d1. list_any (λ d2. nat_le (d1 + d2) c.w2) (fate (r + c.w1 + d1) (tag_of Answer g r i))) (fate (r + c.w1) (tag_of Announcement g r i))

-- a row of the report, with the survivors: of a round that has not ended, of a thin one, with the total, and with none
pub data Row : Type 0 where
  OpenRow : (survivors : List ℕ) → Row
  ThinRow : (survivors : List ℕ) → Row
  TotalRow : (survivors : List ℕ) (total : ℕ) → Row
  NoneRow : (survivors : List ℕ) → Row

-- the row of a round by the fates of its frames
abbrev pub row : Shape → Clock → (ℕ → Tag → List ℕ) → (ℕ → ℕ → List ℕ → ℕ) → ℕ → ℕ → Row
row s c fate total g r =
    let a = report_survivors s c fate g r in
    if nat_lt (length a) (floor_of s g) then ThinRow a else
    if list_all (λ i. is_answered_in_time c fate g r i) a then TotalRow a (total g r a) else NoneRow a

-- ---- the row of a round by its outcome in a schedule

abbrev pub row_of : List ℕ → Outcome → Row
row_of a Running = OpenRow a
row_of a EndedThin = ThinRow a
row_of a (Published survivors total) = TotalRow a total
row_of a (Unpublished lacking) = NoneRow a

abbrev pub outcome_row : Shape → (ℕ → ℕ → List ℕ → ℕ) → ℕ → ℕ → List Event → Row
outcome_row s total g r past = row_of (survivors s g r past) (outcome s total g r past)
