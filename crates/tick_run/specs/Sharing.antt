-- The shared book of a run: its first pass, and the pass of each group.
use Rattle.std.specs.Prelude.{◌≡◌, ℕ, ◌+◌, ◌<◌, List, [], length, slice_index_or, None}
use Rattle.std.specs.List.{range_with_len}
use Rattle.event_schedule.specs.declared.Line.{Line}
use Rattle.event_schedule.specs.ByGroup.{lines_in}
use Rattle.group_book.specs.Replay.{IsLedger}
use Rattle.shared_book.specs.declared.parts.SharedBook.{SharedBook}
use Rattle.shared_book.specs.declared.parts.Pass.{Pass}
use Rattle.shared_book.specs.Ends.{opening, view, IsPassOf}
use Rattle.shared_book.specs.Passes.{PassView, new_pass}
use Rattle.shared_book.specs.Turns.{journal_after, turns_by, turns_of}
use Rattle.tick_run.specs.declared.running.Group.{Group}

-- the first pass, from which so many were split that are all out; it has made no turn
abbrev pub leading : ℕ → PassView
leading n = record (new_pass 0 []) { made = n; out = n }

-- the pass of group g: what it has seen has just these lines of the group, and its own turns are theirs
pub record HasTurns (book : SharedBook) (g : ℕ) (lines : List Line) (pass : Pass) : Type 0 where
  pub of : IsPassOf book pass
  pub number : (view pass).number ≡ g + 1
  pub free : (view pass).held ≡ None
  pub seen : lines_in g (journal_after (opening book) (view pass).seen) ≡ lines_in g lines
  pub mine : (view pass).mine ≡ turns_of (g + 1) lines

-- the pass of group g, without pages
pub record IsSplit (book : SharedBook) (g : ℕ) (pass : Pass) : Type 0 where
  pub of : IsPassOf book pass
  pub number : (view pass).number ≡ g + 1
  pub free : (view pass).held ≡ None

-- of so many passes those of these groups were joined to the first, which has made no turn itself: the history that it has seen has all their turns
pub record JoinsGroups (n : ℕ) (groups : List Group) (w : PassView) : Type 0 where
  pub number : w.number ≡ 0
  pub free : w.held ≡ None
  pub mine : w.mine ≡ []
  pub own : turns_by 0 w.seen ≡ []
  pub out : w.out + length groups ≡ n
  pub joined : w.joined ≡ range_with_len 1 (length groups)
  pub turns : (g : ℕ) (d : Group) → g < length groups → turns_by (g + 1) w.seen ≡ (view (slice_index_or groups g d).pass).mine

-- the groups of a plan have made a journal, which is a book's: in the history of the shared book the turns of each pass are the lines of its group, each
-- once and in their order
pub record HaveMade (book : SharedBook) (first : Pass) (groups : List Group) (journal : List Line) : Type 0 where
  pub empty : (opening book).journal ≡ []
  pub ledger : IsLedger (opening book).presence journal
  pub pass : IsPassOf book first
  pub leads : view first ≡ leading (length groups)
  pub all : length groups ≡ length (opening book).presence.plan.groups
  pub turns : (g : ℕ) (d : Group) → g < length groups → HasTurns book g (lines_in g journal) (slice_index_or groups g d).pass
