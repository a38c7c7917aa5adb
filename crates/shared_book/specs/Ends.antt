-- The opening of a shared book, its passes, and how it ends.
use Rattle.std.specs.Prelude.{◌≡◌, ℕ, ◌⊎◌, List, Contains}
use Rattle.group_book.specs.declared.book.Parts.{Parts}
use Rattle.group_book.specs.Books.{BookView}
use Rattle.group_book.specs.Replay.{AreReplayed}
use Rattle.shared_book.specs.declared.turn.Turn.{Turn}
use Rattle.shared_book.specs.declared.parts.SharedBook.{SharedBook}
use Rattle.shared_book.specs.declared.parts.Pass.{Pass}
use Rattle.shared_book.specs.Turns.{IsLegal, journal_after}
use Rattle.shared_book.specs.Passes.{PassView, known}

-- the book that a shared book was opened with
abbrev pub opening : SharedBook → BookView
opening book = book.table.shared.key.book.value

-- for how many lines the journal of a shared book has room
abbrev pub room_of : SharedBook → ℕ
room_of book = book.lines

-- what a pass knows
abbrev pub view : Pass → PassView
view pass = known pass.seat.me.0

-- a pass of the book: what the pass has seen is a legal history of the book
pub record IsPassOf (book : SharedBook) (pass : Pass) : Type 0 where
  pub table : pass.seat.table_id ≡ book.table.shared.table_id
  pub opens : pass.seat.me.0.opening ≡ opening book
  pub legal : IsLegal (opening book) pass.seat.me.0.seen

-- each turn's number is that of the first pass or of a joined one
abbrev pub AreOfJoined : List Turn → List ℕ → Type 0
AreOfJoined turns joined = (t : Turn) → Contains turns t → (t.number ≡ 0) ⊎ Contains joined t.number

-- shut with a pass that has seen this: the pages of all groups stand for it, beside the journal that the book was opened with
pub record ShutEnds (o : BookView) (v : PassView) (parts : Parts) : Type 0 where
  pub presence : parts.presence ≡ o.presence
  pub journal : parts.journal.items ≡ o.journal
  pub groups : AreReplayed o.presence (journal_after o v.seen) parts.groups.items
  pub numbers : AreOfJoined v.seen v.joined
