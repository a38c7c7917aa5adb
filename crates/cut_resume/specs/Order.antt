-- Entries whose order says nothing: neither of two that stand next to each other says anything of the other.
use Rattle.std.specs.Prelude.{◌≡◌, ◌==◌, Bool, true, false, not, ◌&&◌, List, ◌∷◌, ◌++◌, All}
use Rattle.event_schedule.specs.declared.Event.{Event}
use Rattle.event_schedule.specs.declared.Event.TheVariants.{Take, Close, End}
use Rattle.event_schedule.specs.declared.Entry.{Entry}
use Rattle.event_schedule.specs.Events.{event_of, is_tag}

-- two Takes of other tags, or two of the Closes and Ends, of other rounds
abbrev pub are_apart : Event → Event → Bool
are_apart (Take x) (Take y) = not (is_tag x.group x.round x.meter x.kind y)
are_apart (Close g r) (Close h q) = not ((g == h) && (r == q))
are_apart (Close g r) (End h q) = not ((g == h) && (r == q))
are_apart (End g r) (Close h q) = not ((g == h) && (r == q))
are_apart (End g r) (End h q) = not ((g == h) && (r == q))
are_apart _ _ = false

-- an entry that stands behind another may change places with it: they are of one tick, and apart
abbrev pub may_pass : Entry → Entry → Bool
may_pass e x = (x.tick == e.tick) && are_apart (event_of x.line) (event_of e.line)

-- the entry stands among these, behind entries only with which it may change places; the others are left, in their order
pub record IsPicked (e : Entry) (entries left : List Entry) : Type 0 where
  pub passed : List Entry
  pub after : List Entry
  pub stands : entries ≡ passed ++ e ∷ after
  pub others : left ≡ passed ++ after
  pub may : All (λ x. may_pass e x ≡ true) passed
