-- The rule of the words and of the pages.
use Rattle.std.specs.Prelude.{◌≡◌, ◌≢◌, ℕ, ◌+◌, ◌<◌, ◌≤◌, ◌==◌, ◌⊎◌, true, false, if◌then◌else◌, List, [], ◌∷◌, ◌++◌, length, drop, slice_index, All, MatchBool, Contains, Option, Some, None}
use mathlib.Core.Option.{some}
use lib.ListN.{get_elem?}
use Rattle.atomic_table.specs.Table.{State, Me, Step}
use Rattle.event_schedule.specs.declared.Line.{Line}
use Rattle.event_schedule.specs.Events.{event_of}
use Rattle.group_book.specs.Books.{BookView}
use Rattle.event_schedule.specs.ByGroup.{group_of, lines_in}
use Rattle.group_book.specs.Groups.{GroupView}
use Rattle.group_book.specs.Replay.{IsGroup}
use Rattle.shared_book.specs.declared.turn.Turn.{Turn}
use Rattle.shared_book.specs.declared.turn.View.{View}
use Rattle.shared_book.specs.declared.handed.Handed.{Handed}
use Rattle.shared_book.specs.Turns.{IsLegal, StartsWith, journal_after, turns_by, turns_of}

-- the sum over the passes of what each counts for
abbrev pub total : (View → ℕ) → List View → ℕ
total f [] = 0
total f (v ∷ vs) = f v + total f vs

-- 1 for a pass that is not spent
abbrev pub alive : View → ℕ
alive v = if v.live then 1 else 0

-- the pages of a group stand for a history: they are what its journal says of the group
abbrev pub Stands : BookView → List Turn → ℕ → GroupView → Type 0
Stands o log g pages = IsGroup o.presence (journal_after o log) g pages

-- what a pass that is not spent knows: its number, what it has seen and done, and all that there is of the group whose pages it has
pub record Fits (o : BookView) (log : List Turn) (i : ℕ) (v : View) : Type 0 where
  pub opening : v.opening ≡ o
  pub number : v.number ≡ i
  pub seen : StartsWith log v.seen
  pub mine : turns_by i log ≡ v.mine
  pub held : (g : ℕ) → v.held ≡ Some g → lines_in g (journal_after o log) ≡ lines_in g (journal_after o v.seen)

-- a spent pass has no pages
abbrev pub Holds : BookView → List Turn → ℕ → View → Type 0
Holds o log i v = (v.live ≡ true → Fits o log i v) × (v.live ≡ false → v.held ≡ None)

-- a pass that was joined is spent, and the first has seen all its turns, but where it was told of it and has not learnt it yet
abbrev pub IsGone : List Turn → List View → View → ℕ → Type 0
IsGone log views v n = (x : View) × (get_elem? views n ≡ some x) × (x.live ≡ false) × ((v.pending ≡ true → n ≢ v.told_by) → turns_by n log ≡ turns_by n v.seen)

-- the first pass counts the others, and knows which of them are spent; with none out, and nothing left to learn, it has seen all
pub record Leads (log : List Turn) (views : List View) (v : View) : Type 0 where
  pub live : v.live ≡ true
  pub made : v.made + 1 ≡ length views
  pub out : total alive views ≡ v.out + 1
  pub joined : (i : ℕ) (x : View) → get_elem? views i ≡ some x → x.live ≡ false → Contains v.joined i
  pub gone : (n : ℕ) → Contains v.joined n → IsGone log views v n
  pub whole : v.out ≡ 0 → v.pending ≡ false → v.seen ≡ log

-- the history begins with what a pass was told of, and the pass that told it is spent, with these turns
pub record Tells (log : List Turn) (views : List View) (v : View) : Type 0 where
  pub told : StartsWith log v.told
  pub mine : turns_by v.told_by log ≡ v.told_mine
  pub out : v.told_out ≡ v.out + 1
  pub view : View
  pub at : get_elem? views v.told_by ≡ some view
  pub spent : view.live ≡ false

-- the first pass, which has learnt what it was told, with no other beside it
abbrev pub HasAll : View → Type 0
HasAll v = (v.number ≡ 0) × (v.out ≡ 0) × (v.pending ≡ false)

-- the last pass that has handed the pages of a group back has seen all that there is of the group; where none has, the group has no more than at the opening
abbrev pub HasAllOf : BookView → List Turn → List View → ℕ → Option ℕ → Type 0
HasAllOf o log views g None = lines_in g (journal_after o log) ≡ lines_in g o.journal
HasAllOf o log views g (Some i) = (x : View) × (get_elem? views i ≡ some x) × (x.live ≡ true → lines_in g (journal_after o log) ≡ lines_in g (journal_after o x.seen))

-- the pages of a group are in their place, and stand for the history; it is known who handed them back
abbrev pub AtHome : BookView → List Turn → State (Option Handed) View → ℕ → Type 0
AtHome o log s g = (slice_index s.words g ≡ 0) × (h : Handed) × (get_elem? s.homes g ≡ some (some (Some h))) × Stands o log g h.pages × HasAllOf o log s.views g h.last

-- the pages of a group are out with a pass
abbrev pub IsOut : State (Option Handed) View → ℕ → Type 0
IsOut s g = (i : ℕ) × (v : View) × (get_elem? s.views i ≡ some v) × (v.held ≡ Some g)

-- there is one legal history. The pages of each group stand for it, or are out with one pass, which has seen all that the history has of the group;
-- the group's word says which
pub record Kept (o : BookView) (s : State (Option Handed) View) : Type 0 where
  pub log : List Turn
  pub words : length s.words ≡ length o.presence.plan.groups
  pub homes : length s.homes ≡ length o.presence.plan.groups
  pub legal : IsLegal o log
  pub each : (i : ℕ) (v : View) → get_elem? s.views i ≡ some v → Holds o log i v
  pub out : (i g : ℕ) (v : View) → get_elem? s.views i ≡ some v → v.held ≡ Some g → slice_index s.words g ≡ 1
  pub apart : (i j g : ℕ) (v w : View) → get_elem? s.views i ≡ some v → get_elem? s.views j ≡ some w → v.held ≡ Some g → w.held ≡ Some g → i ≡ j
  pub unmade : (n : ℕ) → length s.views ≤ n → turns_by n log ≡ []
  pub leads : (v : View) → get_elem? s.views 0 ≡ some v → Leads log s.views v
  pub tells : (i : ℕ) (v : View) → get_elem? s.views i ≡ some v → v.pending ≡ true → Tells log s.views v
  pub slot : (g : ℕ) → g < length o.presence.plan.groups → AtHome o log s g ⊎ IsOut s g

-- ---- what the steps tell

-- a pass's own view, with the slot where it has it
abbrev pub Mine : Type 0
Mine = Me (Option Handed) View

-- the pass with the pages of a group, which has seen this history
abbrev pub holding : View → ℕ → List Turn → View
holding v g seen = record v { held = Some g; seen = seen }

-- the pass without pages, which has seen this history
abbrev pub done_with : View → List Turn → View
done_with v seen = record v { held = None; seen = seen; mine = turns_by v.number seen }

-- pages were last handed back by the pass with this number, or by none
abbrev pub IsOwn : ℕ → Option ℕ → Type 0
IsOwn n None = Unit {0}
IsOwn n (Some i) = i ≡ n

-- the pass has the slot of a group, with pages that stand for a history that begins with what it had seen. Where no other pass has handed them back last,
-- the history has no more of the group than what the pass had seen
abbrev pub Takes : Mine → ℕ → Mine → Type 0
Takes m g m' = (seen : List Turn) × (h : Handed) × (m' ≡ (holding m.0 g seen, (g, Some h) ∷ [])) × StartsWith seen m.0.seen × (turns_by m.0.number seen ≡ m.0.mine)
    × Stands m.0.opening seen g h.pages × (HasAll m.0 → seen ≡ m.0.seen)
    × (IsOwn m.0.number h.last → lines_in g (journal_after m.0.opening seen) ≡ lines_in g (journal_after m.0.opening m.0.seen))

-- the pages were at home, and the pass has them; or they were not
abbrev pub Tries : Step (Option Handed) → Mine → ℕ → Mine → Type 0
Tries st m r m' = MatchBool (r == 0) (Takes m st.word m') (m' ≡ m)

-- the lines that were handed back with pages
abbrev pub added : Handed → List Line
added h = drop h.from h.lines.value.items

-- the pages stand for what the pass has seen and for its lines, which are all of the group, and have its number
abbrev pub NextIs : View → ℕ → Handed → Type 0
NextIs v g h = All (λ l. group_of (event_of l) ≡ g) (added h) × Stands v.opening (v.seen ++ turns_of v.number (added h)) g h.pages × (h.last ≡ Some v.number)

-- the pass's lines were added to a history that begins with what it had seen, and has the same of the group
pub record Gives (v : View) (g : ℕ) (lines : List Line) (before : List Turn) : Type 0 where
  pub grew : StartsWith before v.seen
  pub earlier : turns_by v.number before ≡ v.mine
  pub group : lines_in g (journal_after v.opening before) ≡ lines_in g (journal_after v.opening v.seen)
  pub legal : IsLegal v.opening (before ++ turns_of v.number lines)
  pub alone : HasAll v → before ≡ v.seen

-- the pages were handed back, with their lines
abbrev pub GivesBack : Step (Option Handed) → Mine → ℕ → Mine → Type 0
GivesBack st m r m' = (h : Handed) → m.1 ≡ (st.word, Some h) ∷ [] → (before : List Turn) × (m' ≡ (done_with m.0 (before ++ turns_of m.0.number (added h)), [])) × Gives m.0 st.word (added h) before

-- the pass that has seen this history, with nothing left to learn
abbrev pub learnt : View → List Turn → View
learnt v seen = record v { seen = seen; pending = false }

-- the pass has learnt a legal history, which begins with what it had seen and with what it was told; the passes that were joined before made no turn since
abbrev pub Learns : Step (Option Handed) → Mine → ℕ → Mine → Type 0
Learns st m r m' = (seen : List Turn) × (m' ≡ (learnt m.0 seen, m.1)) × StartsWith seen m.0.seen × StartsWith seen m.0.told × (turns_by m.0.told_by seen ≡ m.0.told_mine)
    × (turns_by m.0.number seen ≡ m.0.mine) × IsLegal m.0.opening seen × (m.0.told_out ≡ m.0.out + 1)
    × ((n : ℕ) → Contains m.0.joined n → n ≢ m.0.told_by → turns_by n seen ≡ turns_by n m.0.seen)
