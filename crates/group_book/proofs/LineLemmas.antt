-- One line more: what it does to what a journal says of each tag.
use Rattle.std.proofs.Common.{◌≡◌, ℕ, Bool, true, false, not, ◌&&◌, ◌||◌, List, [], ◌∷◌, ◌++◌, map, refl, sym, ap, ◌∙◌, subst, append-nil, append_assoc}
use Rattle.std.specs.Prelude.{if◌then◌else◌, reverse, Option, Some, None, is_some}
use Rattle.std.proofs.lemmas.List.{reverse-append}
use Rattle.std.proofs.lemmas.Bool.{false≢true}
use Rattle.group_plan.specs.declared.Kind.{Kind}
use Rattle.group_plan.specs.declared.Kind.TheVariants.{Reading, Announcement, Answer}
use Rattle.meter_frames.specs.declared.Frame.{Frame}
use Rattle.event_schedule.specs.declared.Event.{Event}
use Rattle.event_schedule.specs.declared.Line.{Line}
use Rattle.event_schedule.specs.declared.Line.TheVariants.{Send as SendLine, Take as TakeLine, Close as CloseLine, End as EndLine}
use Rattle.event_schedule.specs.Events.{event_of, frame_of, is_send, is_take}
use Rattle.event_schedule.specs.Schedule.{Shape, may_send, is_sent, is_taken, is_late}
use Rattle.event_schedule.specs.Transcript.{frame}
use Rattle.event_schedule.specs.Frames.{word_or_zero, first_word, contents_of_lines}
use Rattle.event_schedule.specs.Journal.{past_of, core_line, IsJournalAfter}
use Rattle.event_schedule.proofs.ScheduleLemmas.{once-cons, is_reading_sent-from_taken, is_announcement_sent-from_taken, is_answer_sent-from_taken}
use Rattle.group_book.specs.Books.{posted}
use Rattle.group_book.specs.Replay.{HasOwnFrames, IsJournal}

-- ---- events

map-append : (xs ys : List Line) → map event_of (xs ++ ys) ≡ map event_of xs ++ map event_of ys
map-append [] ys = refl
map-append (x ∷ xs) ys = ap (λ l. event_of x ∷ l) (map-append xs ys)

pub past_of-push : (j : List Line) (l : Line) → past_of (j ++ l ∷ []) ≡ event_of l ∷ past_of j
past_of-push j l = ap reverse (map-append j (l ∷ [])) ∙ reverse-append (map event_of j) (event_of l ∷ [])

pub is_sent-cons : (s : Shape) (k : Kind) (g r i : ℕ) (e : Event) (p : List Event) → is_sent s k g r i (e ∷ p) ≡ ((is_send g r i k e && may_send s k g r i p) || is_sent s k g r i p)
is_sent-cons s Reading g r i e p = once-cons _ e p
is_sent-cons s Announcement g r i e p = once-cons _ e p
is_sent-cons s Answer g r i e p = once-cons _ e p

pub is_taken-cons : (s : Shape) (k : Kind) (g r i : ℕ) (e : Event) (p : List Event)
    → is_taken s k g r i (e ∷ p) ≡ ((is_take g r i k e && is_sent s k g r i p && not (is_late k g r p)) || is_taken s k g r i p)
is_taken-cons s Reading g r i e p = once-cons _ e p
is_taken-cons s Announcement g r i e p =
    once-cons _ e p ∙ ap (λ q. q || is_taken s Announcement g r i p) (sym (never (is_take g r i Announcement e) (is_sent s Announcement g r i p)))
  where
    never : (a b : Bool) → (a && b && not false) ≡ (a && b)
    never true true = refl
    never true false = refl
    never false b = refl
is_taken-cons s Answer g r i e p = once-cons _ e p

-- what was taken was sent
pub is_sent-from_taken : (s : Shape) (k : Kind) (g r i : ℕ) (p : List Event) → is_taken s k g r i p ≡ true → is_sent s k g r i p ≡ true
is_sent-from_taken s Reading g r i p h = is_reading_sent-from_taken s g r i p h
is_sent-from_taken s Announcement g r i p h = is_announcement_sent-from_taken s g r i p h
is_sent-from_taken s Answer g r i p h = is_answer_sent-from_taken s g r i p h

-- ---- posted frames

-- the first of two
abbrev pub first_of : Option Frame → Option Frame → Option Frame
first_of (Some f) next = Some f
first_of None next = next

-- the frame that a line posts under a tag
abbrev pub posts : ℕ → ℕ → ℕ → Kind → Line → Option Frame
posts g r i k l = if is_send g r i k (event_of l) then frame_of l else None

pub first_of-none : (f : Option Frame) → first_of f None ≡ f
first_of-none (Some f) = refl
first_of-none None = refl

pub posted-push : (g r i : ℕ) (k : Kind) (j : List Line) (l : Line) → posted g r i k (j ++ l ∷ []) ≡ first_of (posted g r i k j) (posts g r i k l)
unfolding posted
posted-push g r i k [] l = start (is_send g r i k (event_of l)) (frame_of l)
  where
    start : (b : Bool) (f : Option Frame) → (if b && is_some f then f else None) ≡ (if b then f else None)
    start true (Some f) = refl
    start true None = refl
    start false f = refl
posted-push g r i k (x ∷ xs) l =
    ap (λ q. if is_send g r i k (event_of x) && is_some (frame_of x) then frame_of x else q) (posted-push g r i k xs l)
    ∙ step (is_send g r i k (event_of x)) (frame_of x) (posted g r i k xs) (posts g r i k l)
  where
    step : (b : Bool) (f rest new : Option Frame) → (if b && is_some f then f else first_of rest new) ≡ first_of (if b && is_some f then f else rest) new
    step true (Some f) rest new = refl
    step true None rest new = refl
    step false f rest new = refl

-- a line that posts nothing under a tag changes nothing there
pub posted-stays : (g r i : ℕ) (k : Kind) (j : List Line) (l : Line) → posts g r i k l ≡ None → posted g r i k (j ++ l ∷ []) ≡ posted g r i k j
posted-stays g r i k j l none = posted-push g r i k j l ∙ ap (first_of (posted g r i k j)) none ∙ first_of-none (posted g r i k j)

pub first_word-posted : (g r i : ℕ) (k : Kind) (j : List Line) → first_word g r i k j ≡ word_or_zero (posted g r i k j)
unfolding posted
first_word-posted g r i k [] = refl
first_word-posted g r i k (l ∷ ls) =
    ap (λ n. if is_send g r i k (event_of l) && is_some (frame_of l) then word_or_zero (frame_of l) else n) (first_word-posted g r i k ls)
    ∙ step (is_send g r i k (event_of l) && is_some (frame_of l)) (frame_of l) (posted g r i k ls)
  where
    step : (b : Bool) (f h : Option Frame) → (if b then word_or_zero f else word_or_zero h) ≡ word_or_zero (if b then f else h)
    step true f h = refl
    step false f h = refl

-- the word of a posted frame stays
pub first_word-stays : (g r i : ℕ) (k : Kind) (j : List Line) (l : Line) → is_some (posted g r i k j) ≡ true → first_word g r i k (j ++ l ∷ []) ≡ first_word g r i k j
first_word-stays g r i k j l there =
    first_word-posted g r i k (j ++ l ∷ []) ∙ ap word_or_zero (posted-push g r i k j l)
    ∙ step (posted g r i k j) (posts g r i k l) there ∙ sym (first_word-posted g r i k j)
  where
    step : (f next : Option Frame) → is_some f ≡ true → word_or_zero (first_of f next) ≡ word_or_zero f
    step (Some f) next h = refl
    step None next h = absurd (false≢true h)

-- ---- journals

-- the line is the core's after the journal
abbrev pub IsCore : Shape → List Line → Line → Type 0
IsCore s j l = l ≡ core_line s j (event_of l) (frame_of l)

-- a Send has its frame
abbrev pub HasOwnFrame : Shape → List Line → Line → Type 0
HasOwnFrame s j (SendLine tag f) = f ≡ frame s (contents_of_lines (j ++ SendLine tag f ∷ [])) tag (past_of j)
HasOwnFrame s j _ = Unit {0}

lines-push : (s : Shape) (j rest : List Line) (l : Line) → IsJournalAfter s j rest → IsCore s (j ++ rest) l → IsJournalAfter s j (rest ++ l ∷ [])
lines-push s j [] l is core = (subst (λ x. IsCore s x l) (append-nil j) core, tt)
lines-push s j (x ∷ rest) l is core =
    (is.0, lines-push s (j ++ x ∷ []) rest l is.1 (subst (λ y. IsCore s y l) (sym (append_assoc j (x ∷ []) rest)) core))

frames_one : (s : Shape) (j : List Line) (l : Line) → HasOwnFrame s j l → HasOwnFrames s j (l ∷ [])
frames_one s j (SendLine tag f) own = (own, tt)
frames_one s j (TakeLine tag v) own = tt
frames_one s j (CloseLine g r v) own = tt
frames_one s j (EndLine g r v) own = tt

frames-push : (s : Shape) (j rest : List Line) (l : Line) → HasOwnFrames s j rest → HasOwnFrame s (j ++ rest) l → HasOwnFrames s j (rest ++ l ∷ [])
frames-push s j [] l has own = frames_one s j l (subst (λ x. HasOwnFrame s x l) (append-nil j) own)
frames-push s j (SendLine tag f ∷ rest) l has own =
    (has.0, frames-push s (j ++ SendLine tag f ∷ []) rest l has.1 (subst (λ y. HasOwnFrame s y l) (sym (append_assoc j (SendLine tag f ∷ []) rest)) own))
frames-push s j (TakeLine tag v ∷ rest) l has own =
    frames-push s (j ++ TakeLine tag v ∷ []) rest l has (subst (λ y. HasOwnFrame s y l) (sym (append_assoc j (TakeLine tag v ∷ []) rest)) own)
frames-push s j (CloseLine g r v ∷ rest) l has own =
    frames-push s (j ++ CloseLine g r v ∷ []) rest l has (subst (λ y. HasOwnFrame s y l) (sym (append_assoc j (CloseLine g r v ∷ []) rest)) own)
frames-push s j (EndLine g r v ∷ rest) l has own =
    frames-push s (j ++ EndLine g r v ∷ []) rest l has (subst (λ y. HasOwnFrame s y l) (sym (append_assoc j (EndLine g r v ∷ []) rest)) own)

pub journal-push : (s : Shape) (j : List Line) (l : Line) → IsJournal s j → IsCore s j l → HasOwnFrame s j l → IsJournal s (j ++ l ∷ [])
journal-push s j l is core own = record { lines = lines-push s [] j l is.lines core; frames = frames-push s [] j l is.frames own }

-- ---- a frame stands exactly where an effective Send of its tag came

-- a Send has a frame exactly where it is effective
abbrev pub IsFramed : Shape → List Line → Line → Type 0
IsFramed s j l = (g r i : ℕ) (k : Kind) → is_some (posts g r i k l) ≡ (is_send g r i k (event_of l) && may_send s k g r i (past_of j))

pub framed-push : (s : Shape) (j : List Line) (l : Line) → ((g r i : ℕ) (k : Kind) → is_some (posted g r i k j) ≡ is_sent s k g r i (past_of j)) → IsFramed s j l
    → (g r i : ℕ) (k : Kind) → is_some (posted g r i k (j ++ l ∷ [])) ≡ is_sent s k g r i (past_of (j ++ l ∷ []))
framed-push s j l framed is g r i k =
    ap is_some (posted-push g r i k j l)
    ∙ step (posted g r i k j) (posts g r i k l)
    ∙ ap (λ q. q || is_some (posted g r i k j)) (is g r i k)
    ∙ ap (λ q. (is_send g r i k (event_of l) && may_send s k g r i (past_of j)) || q) (framed g r i k)
    ∙ sym (is_sent-cons s k g r i (event_of l) (past_of j))
    ∙ ap (λ p. is_sent s k g r i p) (sym (past_of-push j l))
  where
    step : (f h : Option Frame) → is_some (first_of f h) ≡ (is_some h || is_some f)
    step (Some f) (Some h) = refl
    step (Some f) None = refl
    step None (Some h) = refl
    step None None = refl
