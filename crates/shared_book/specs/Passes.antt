-- What a pass knows, and what its calls do to it.
use Rattle.std.specs.Prelude.{◌≡◌, ◌≢◌, ℕ, ◌+◌, Contains, List, [], ◌∷◌, ◌++◌, Option, Some, None, Result, Ok, Err}
use Rattle.event_schedule.specs.declared.Event.{Event}
use Rattle.event_schedule.specs.declared.Line.{Line}
use Rattle.event_schedule.specs.Journal.{core_line}
use Rattle.group_book.specs.Books.{BookView, shape_of}
use Rattle.event_schedule.specs.ByGroup.{lines_in}
use Rattle.group_book.specs.Groups.{GroupView}
use Rattle.meter_frames.specs.declared.FrameError.{FrameError}
use Rattle.shared_book.specs.declared.parcel.Request.{Request}
use Rattle.shared_book.specs.declared.parcel.Reply.{Reply}
use Rattle.shared_book.specs.declared.parcel.CommitError.{CommitError}
use Rattle.shared_book.specs.declared.parcel.CommitError.TheVariants.{Frame, Take, Place}
use Rattle.shared_book.specs.declared.turn.Turn.{Turn}
use Rattle.shared_book.specs.declared.turn.View.{View}
use Rattle.shared_book.specs.Parcels.{Judged, Accepted, RefusedFrame, Outside, judged_if_read, reply_of}
use Rattle.shared_book.specs.Turns.{IsLegal, turn, turns_of, turns_by, journal_after, StartsWith}
use Rattle.shared_book.specs.Law.{Stands}

-- what a pass knows: its number, how many passes were split from it, how many of these are out and which were joined, the group whose pages it has,
-- the history that it has seen, and its own turns in it
pub record PassView : Type 0 where
  pub number : ℕ
  pub made : ℕ
  pub out : ℕ
  pub joined : List ℕ
  pub held : Option ℕ
  pub seen : List Turn
  pub mine : List Turn

-- what the pass knows of its view
abbrev pub known : View → PassView
known v = record { number = v.number; made = v.made; out = v.out; joined = v.joined; held = v.held; seen = v.seen; mine = v.mine }

-- a new pass, which has done nothing
abbrev pub new_pass : ℕ → List Turn → PassView
new_pass number seen = record { number = number; made = 0; out = 0; joined = []; held = None; seen = seen; mine = [] }

-- the first pass with no other beside it
abbrev pub IsAlone : PassView → Type 0
IsAlone v = (v.number ≡ 0) × (v.out ≡ 0)

-- what checking pages out and in leaves as it was
pub record SamePass (v w : PassView) : Type 0 where
  pub number : w.number ≡ v.number
  pub made : w.made ≡ v.made
  pub out : w.out ≡ v.out
  pub joined : w.joined ≡ v.joined

-- ---- pages out and in

-- the pass has the pages of a group. They stand for what it has seen, which begins with what it had seen
pub record ChecksOut (o : BookView) (v : PassView) (g : ℕ) (pages : GroupView) (w : PassView) : Type 0 where
  pub seen : StartsWith w.seen v.seen
  pub mine : w.mine ≡ v.mine
  pub own : turns_by v.number w.seen ≡ w.mine
  pub same : SamePass v w
  pub held : w.held ≡ Some g
  pub stands : Stands o w.seen g pages
  pub alone : IsAlone v → w.seen ≡ v.seen

-- what the pass has seen has no more of a group than what it had seen
abbrev pub IsUnchanged : BookView → PassView → ℕ → PassView → Type 0
IsUnchanged o v g w = lines_in g (journal_after o w.seen) ≡ lines_in g (journal_after o v.seen)

-- the pass has no pages. Its lines are the last ones of a legal history, which begins with what it had seen, and of which nobody else made a commit
-- in the group since
pub record ChecksIn (o : BookView) (v : PassView) (g : ℕ) (lines : List Line) (w : PassView) : Type 0 where
  pub before : List Turn
  pub grew : StartsWith before v.seen
  pub group : lines_in g (journal_after o before) ≡ lines_in g (journal_after o v.seen)
  pub seen : w.seen ≡ before ++ turns_of v.number lines
  pub mine : w.mine ≡ v.mine ++ turns_of v.number lines
  pub own : turns_by v.number w.seen ≡ w.mine
  pub legal : IsLegal o w.seen
  pub same : SamePass v w
  pub held : w.held ≡ None
  pub alone : IsAlone v → before ≡ v.seen

-- ---- commit

-- the pass has seen more of the history, and made no turn
pub record Sees (v w : PassView) : Type 0 where
  pub seen : StartsWith w.seen v.seen
  pub mine : w.mine ≡ v.mine
  pub own : turns_by v.number v.seen ≡ v.mine → turns_by v.number w.seen ≡ w.mine
  pub same : SamePass v w
  pub held : w.held ≡ None
  pub alone : IsAlone v → w.seen ≡ v.seen

-- the history begins with what the pass had seen and ends with its turn, whose line is the core's for the event of what was asked
pub record Commits (o : BookView) (v : PassView) (asked : Result Request FrameError) (reply : Reply) (line : Line) (w : PassView) : Type 0 where
  pub before : List Turn
  pub event : Event
  pub grew : StartsWith before v.seen
  pub seen : w.seen ≡ before ++ turn v.number line ∷ []
  pub mine : w.mine ≡ v.mine ++ turn v.number line ∷ []
  pub own : turns_by v.number w.seen ≡ w.mine
  pub accepted : judged_if_read o.presence.plan (journal_after o before) asked ≡ Accepted event
  pub core : line ≡ core_line (shape_of o) (journal_after o before) event None
  pub replied : reply_of line ≡ Some reply
  pub legal : IsLegal o w.seen
  pub same : SamePass v w
  pub held : w.held ≡ None
  pub alone : IsAlone v → before ≡ v.seen

-- no line was added, for this reason
pub record Refuses (o : BookView) (v : PassView) (asked : Result Request FrameError) (old : List Line) (why : Judged) (new : List Line) (w : PassView) : Type 0 where
  pub judged : judged_if_read o.presence.plan (journal_after o w.seen) asked ≡ why
  pub sees : Sees v w
  pub lines : new ≡ old

-- commit of what was asked, whose line is added to these lines
abbrev pub CommitEnds : BookView → PassView → Result Request FrameError → List Line → Result Reply CommitError → List Line → PassView → Type 0
CommitEnds o v asked lines (Ok reply) lines' w = (line : Line) × (lines' ≡ lines ++ line ∷ []) × Commits o v asked reply line w
CommitEnds o v asked lines (Err (Frame e)) lines' w = (asked ≡ Err e) × (lines' ≡ lines) × (w ≡ v)
CommitEnds o v asked lines (Err (Take e)) lines' w = Refuses o v asked lines (RefusedFrame e) lines' w
CommitEnds o v asked lines (Err Place) lines' w = Refuses o v asked lines Outside lines' w

-- ---- split and join

-- the new pass has the next number, has seen what the first has, and has done nothing
pub record SplitEnds (v w u : PassView) : Type 0 where
  pub first : w ≡ record v { made = v.made + 1; out = v.out + 1 }
  pub second : u ≡ new_pass (v.made + 1) v.seen

-- the history begins with what both had seen, and has all the other's turns, and no more of the passes that were joined before
pub record JoinEnds (v u w : PassView) : Type 0 where
  pub seen : StartsWith w.seen v.seen
  pub theirs : StartsWith w.seen u.seen
  pub other : turns_by u.number w.seen ≡ u.mine
  pub others : (n : ℕ) → Contains v.joined n → n ≢ u.number → turns_by n w.seen ≡ turns_by n v.seen
  pub own : turns_by v.number w.seen ≡ w.mine
  pub mine : w.mine ≡ v.mine
  pub out : w.out + 1 ≡ v.out
  pub joined : w.joined ≡ v.joined ++ u.number ∷ []
  pub number : w.number ≡ v.number
  pub made : w.made ≡ v.made
  pub held : w.held ≡ v.held
