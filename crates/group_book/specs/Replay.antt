-- What a book keeps is what its journal says.
use Rattle.std.specs.Prelude.{◌≡◌, ℕ, ◌<◌, All, List, [], ◌∷◌, ◌++◌, length, filter, slice_index_or, sum_by, Option, Some, None, is_some}
use Rattle.missing_round.specs.Words.{word}
use Rattle.group_plan.specs.declared.Kind.{Kind}
use Rattle.group_plan.specs.declared.Kind.TheVariants.{Reading, Answer}
use Rattle.group_plan.specs.declared.Tag.{Tag}
use Rattle.group_plan.specs.Plans.{IsWithinLimits, size}
use Rattle.group_plan.specs.Tables.{PresenceView, IsPresenceTable}
use Rattle.meter_frames.specs.declared.Frame.{Frame}
use Rattle.event_schedule.specs.declared.Line.{Line}
use Rattle.event_schedule.specs.declared.Line.TheVariants.{Send as SendLine}
use Rattle.event_schedule.specs.Schedule.{Shape, shape_of_presence, members_of, floor_of, is_closed, is_ended, is_sent, is_taken}
use Rattle.event_schedule.specs.Transcript.{set_sent, frame}
use Rattle.event_schedule.specs.Frames.{first_word, contents_of_lines}
use Rattle.event_schedule.specs.Journal.{past_of, IsJournalAfter}
use Rattle.transcript_log.specs.Lines.{LinesView}
use Rattle.group_book.specs.Pages.{PageView, taken_in}
use Rattle.event_schedule.specs.ByGroup.{group_of}
use Rattle.event_schedule.specs.Events.{event_of}
use Rattle.group_book.specs.Groups.{GroupView, group_tags, word_in}
use Rattle.group_book.specs.Books.{BookView, posted}

-- each Send of these lines has a frame exactly where it is effective: of its tag, with the announced set, and with the word of the first one under that tag
abbrev pub HasOwnFrames : Shape → List Line → List Line → Type 0
HasOwnFrames s journal [] = Unit {0}
HasOwnFrames s journal (SendLine tag f ∷ rest) =
    (f ≡ frame s (contents_of_lines (journal ++ SendLine tag f ∷ [])) tag (past_of journal)) × HasOwnFrames s (journal ++ SendLine tag f ∷ []) rest
HasOwnFrames s journal (l ∷ rest) = HasOwnFrames s (journal ++ l ∷ []) rest

-- the lines of a book: each the core's, and each Send with its frame
pub record IsJournal (s : Shape) (journal : List Line) : Type 0 where
  pub lines : IsJournalAfter s [] journal
  pub frames : HasOwnFrames s [] journal

-- what is kept of one round
pub record IsPage (s : Shape) (g r : ℕ) (page : PageView) (journal : List Line) : Type 0 where
  pub members : page.round.members ≡ members_of s g r
  pub floor : page.round.floor ≡ floor_of s g
  pub closed : page.round.closed ≡ is_closed g r (past_of journal)
  pub ended : page.round.ended ≡ is_ended g r (past_of journal)
  pub taken : (k : Kind) → taken_in k page ≡ filter (λ i. is_taken s k g r i (past_of journal)) (members_of s g r)
  pub readings : page.round.reading_sum ≡ word (sum_by (λ i. first_word g r i Reading journal) page.round.taken)
  pub answers : page.round.answer_sum ≡ word (sum_by (λ i. first_word g r i Answer journal) page.round.answered)

-- the frame of a tag that carries this set, where there is a word for it
abbrev pub frame_with : Tag → List ℕ → Option ℕ → Option Frame
frame_with tag set None = None
frame_with tag set (Some w) = Some (record { tag = tag; missing = set; word = w })

-- what is kept of one tag: the word of its posted frame, which is the tag's and carries the set that a frame of it carries now
abbrev pub IsWord : Shape → ℕ → ℕ → ℕ → Kind → Option ℕ → List Line → Type 0
IsWord s g r i k w journal = frame_with (record { group = g; round = r; meter = i; kind = k }) (set_sent s k g r (past_of journal)) w ≡ posted g r i k journal

-- the lines of a book of this plan and presence, in which a frame stands exactly where an effective Send of its tag came
pub record IsLedger (p : PresenceView) (j : List Line) : Type 0 where
  pub limits : IsWithinLimits p.plan
  pub table : IsPresenceTable p.plan p.table
  pub journal : IsJournal (shape_of_presence p) j
  pub framed : (g r i : ℕ) (k : Kind) → is_some (posted g r i k j) ≡ is_sent (shape_of_presence p) k g r i (past_of j)

-- what is kept of a group is what the journal says of it
pub record Replays (p : PresenceView) (j : List Line) (v : GroupView) : Type 0 where
  pub ledger : IsLedger p j
  pub inside : v.group < length p.plan.groups
  pub rounds : v.rounds ≡ p.plan.rounds
  pub meters : v.meters ≡ size p.plan.groups v.group
  pub pages_long : length v.pages ≡ v.rounds
  pub words_long : length v.words ≡ group_tags v.rounds v.meters
  pub page : (r : ℕ) (d : PageView) → r < v.rounds → IsPage (shape_of_presence p) v.group r (slice_index_or v.pages r d) j
  pub word : (r i : ℕ) (k : Kind) (d : Option ℕ) → r < v.rounds → i < v.meters →
      IsWord (shape_of_presence p) v.group r i k (slice_index_or v.words (word_in v.rounds v.meters r i k) d) j

-- what is kept of group g is what the journal says of it
pub record IsGroup (p : PresenceView) (j : List Line) (g : ℕ) (v : GroupView) : Type 0 where
  pub group : v.group ≡ g
  pub replays : Replays p j v

-- what a book keeps of each group of its plan is what its journal says
pub record AreReplayed (p : PresenceView) (j : List Line) (groups : List GroupView) : Type 0 where
  pub ledger : IsLedger p j
  pub long : length groups ≡ length p.plan.groups
  pub each : (g : ℕ) (d : GroupView) → g < length p.plan.groups → IsGroup p j g (slice_index_or groups g d)

-- what is kept of a group is what some journal says of it
pub record CanCall (v : GroupView) : Type 0 where
  pub presence : PresenceView
  pub journal : List Line
  pub replays : Replays presence journal v

-- the same, of a journal with this presence
pub record CanSend (presence : PresenceView) (v : GroupView) : Type 0 where
  pub journal : List Line
  pub replays : Replays presence journal v

-- the book with this presence and journal, and with room for so many lines more
abbrev pub book_at : PresenceView → List Line → ℕ → BookView
book_at p j spare = record { presence = p; journal = j; spare = spare }

-- a call on what is kept of group g is that call on its book, and the lines that it adds to the journal are the group's, and are added to these lines
pub record PagesEnd (p : PresenceView) (j : List Line) (call : BookView → BookView → Type 0) (before : LinesView) (g : ℕ) (v : GroupView) (after : LinesView) : Type 0 where
  pub added : List Line
  pub ends : call (book_at p j before.spare) (book_at p (j ++ added) after.spare)
  pub pages : Replays p (j ++ added) v
  pub group : v.group ≡ g
  pub own : All (λ l. group_of (event_of l) ≡ g) added
  pub lines : after.items ≡ before.items ++ added
