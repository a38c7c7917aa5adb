-- What the parts of a book's calls find.
use Rattle.std.specs.Prelude.{◌≡◌, ◌≢◌, true, false, List, [], ℕ, Option, Some, None, unwrap_or}
use Rattle.group_plan.specs.declared.Kind.{Kind}
use Rattle.group_plan.specs.declared.Kind.TheVariants.{Reading}
use Rattle.group_plan.specs.declared.Tag.{Tag}
use Rattle.meter_frames.specs.declared.Frame.{Frame}
use Rattle.event_schedule.specs.Transcript.{set_sent}
use Rattle.group_book.specs.Books.{BookView, shape_of, past, posted_of, was_sent, IsFree, HasSet, HasOtherSet}

-- the word that is kept of a tag: the posted frame has it, and carries the set that a frame of the tag carries now
abbrev pub HasWord : BookView → Tag → Option ℕ → Type 0
HasWord b tag None = (posted_of b tag ≡ None) × (was_sent b tag ≡ false)
HasWord b tag (Some w) =
    (posted_of b tag ≡ Some (record { tag = tag; missing = set_sent (shape_of b) tag.kind tag.group tag.round (past b); word = w })) × (was_sent b tag ≡ true)

-- the missing set that a frame of a kind carries: the announced one, and none in a reading
abbrev pub set_carried : Kind → Option (List ℕ) → List ℕ
set_carried Reading announced = []
set_carried _ announced = unwrap_or announced []

-- the frame that is posted, where it is another one
abbrev pub IsOther : Option Frame → Frame → Option Frame → Type 0
IsOther found f None = IsFree found f
IsOther found f (Some p) = (found ≡ Some p) × (p ≢ f)

-- the announced set, where a frame has another one
abbrev pub HasSetOf : List ℕ → Frame → Option (List ℕ) → Type 0
HasSetOf announced f None = HasSet f.tag.kind announced f.missing
HasSetOf announced f (Some set) = (set ≡ announced) × HasOtherSet f.tag.kind set f.missing

-- the same, where a set was announced
abbrev pub IsOtherSet : Option (List ℕ) → Frame → Option (List ℕ) → Type 0
IsOtherSet None f found = found ≡ None
IsOtherSet (Some announced) f found = HasSetOf announced f found
