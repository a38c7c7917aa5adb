-- What lines say of a group depends on its own lines alone, and lines are a journal exactly where each group's are.
use Rattle.std.proofs.Common.{◌≡◌, ℕ, Bool, true, false, cond, not, ◌&&◌, List, [], ◌∷◌, ◌++◌, map, refl, sym, ap, ◌∙◌, subst, append-nil}
use Rattle.std.specs.Prelude.{◌==◌, ◌↔◌, if◌then◌else◌, Option, Some, None, is_some}
use Rattle.std.specs.List.{filter, All}
use mathlib.Core.Path.{fun_ext}
use mathlib.Core.List.{reverse}
use Rattle.std.proofs.lemmas.Bool.{eq-eqb, eqb-true}
use Rattle.std.proofs.lemmas.List.Elements.{filter-append, All-head, All-tail}
use Rattle.missing_round.specs.Words.{frame_total}
use Rattle.group_plan.specs.declared.Kind.{Kind}
use Rattle.group_plan.specs.declared.Kind.TheVariants.{Reading, Announcement, Answer}
use Rattle.group_plan.specs.declared.Tag.{Tag}
use Rattle.meter_frames.specs.declared.Frame.{Frame}
use Rattle.round_machine.specs.declared.Ending.{Ending}
use Rattle.round_machine.specs.declared.Ending.TheVariants.{Total, Lacking, Thin, Already, NotClosed}
use Rattle.event_schedule.specs.declared.Event.{Event}
use Rattle.event_schedule.specs.declared.Event.TheVariants.{Send, Take, Close, End}
use Rattle.event_schedule.specs.declared.Line.{Line}
use Rattle.event_schedule.specs.declared.Line.TheVariants.{Send as SendLine, Take as TakeLine, Close as CloseLine, End as EndLine}
use Rattle.event_schedule.specs.Events.{event_of, frame_of, is_send}
use Rattle.event_schedule.specs.Schedule.{Shape, is_closed, is_ended, is_announced, all_taken, lacking, survivors, may_send, verdict, closing}
use Rattle.event_schedule.specs.Transcript.{set_sent, word_sent, frame, ending}
use Rattle.event_schedule.specs.Frames.{word_or_zero, first_word, contents_of_lines}
use Rattle.event_schedule.specs.Journal.{past_of, core_line, IsJournalAfter}
use Rattle.group_book.specs.Books.{posted}
use Rattle.group_book.specs.Replay.{HasOwnFrames, IsJournal}
use Rattle.event_schedule.specs.ByGroup.{group_of, events_in, lines_in}
use Rattle.group_book.proofs.LineLemmas.{IsCore, HasOwnFrame, first_word-posted}
use Rattle.event_schedule.proofs.EventsByGroup.{reverse_aux-filter, send-elsewhere, closed-in, ended-in, announced-in, all_taken-in, lacking-in, survivors-in, may_send-in, verdict-in, closing-in, set_sent-in}

-- ---- the events of a group's lines

map-filter : (t : Event → Bool) (ls : List Line) → map event_of (filter (λ l. t (event_of l)) ls) ≡ filter t (map event_of ls)
map-filter t [] = refl
map-filter t (l ∷ ls) = step (t (event_of l)) (map-filter t ls)
  where
    step : (b : Bool) → map event_of (filter (λ l. t (event_of l)) ls) ≡ filter t (map event_of ls)
        → map event_of (cond b (l ∷ filter (λ l. t (event_of l)) ls) (filter (λ l. t (event_of l)) ls)) ≡ cond b (event_of l ∷ filter t (map event_of ls)) (filter t (map event_of ls))
    step true rest = ap (λ es. event_of l ∷ es) rest
    step false rest = rest

pub past-in : (g : ℕ) (j : List Line) → past_of (lines_in g j) ≡ events_in g (past_of j)
past-in g j = ap reverse (map-filter (λ e. group_of e == g) j) ∙ sym (reverse_aux-filter (λ e. group_of e == g) (map event_of j) [])

-- ---- one line more

pub push-here : (g : ℕ) (j : List Line) (l : Line) → (group_of (event_of l) == g) ≡ true → lines_in g (j ++ l ∷ []) ≡ lines_in g j ++ l ∷ []
push-here g j l h = filter-append (λ l. group_of (event_of l) == g) j (l ∷ []) ∙ ap (λ b. lines_in g j ++ cond b (l ∷ []) []) h

pub push-elsewhere : (g : ℕ) (j : List Line) (l : Line) → (group_of (event_of l) == g) ≡ false → lines_in g (j ++ l ∷ []) ≡ lines_in g j
push-elsewhere g j l h = filter-append (λ l. group_of (event_of l) == g) j (l ∷ []) ∙ ap (λ b. lines_in g j ++ cond b (l ∷ []) []) h ∙ append-nil (lines_in g j)

-- ---- posted frames

pub posted-in : (g r i : ℕ) (k : Kind) (j : List Line) → posted g r i k (lines_in g j) ≡ posted g r i k j
unfolding posted
posted-in g r i k [] = refl
posted-in g r i k (l ∷ j) = step (group_of (event_of l) == g) refl (posted-in g r i k j)
  where
    step : (b : Bool) → (group_of (event_of l) == g) ≡ b → posted g r i k (lines_in g j) ≡ posted g r i k j
        → posted g r i k (cond b (l ∷ lines_in g j) (lines_in g j)) ≡ (if is_send g r i k (event_of l) && is_some (frame_of l) then frame_of l else posted g r i k j)
    step true h rest = ap (λ f. if is_send g r i k (event_of l) && is_some (frame_of l) then frame_of l else f) rest
    step false h rest = rest ∙ ap (λ b. if b && is_some (frame_of l) then frame_of l else posted g r i k j) (sym (send-elsewhere g r i k (event_of l) h))

pub first_word-in : (g r i : ℕ) (k : Kind) (j : List Line) → first_word g r i k (lines_in g j) ≡ first_word g r i k j
first_word-in g r i k j = first_word-posted g r i k (lines_in g j) ∙ ap word_or_zero (posted-in g r i k j) ∙ sym (first_word-posted g r i k j)

total-in : (g r : ℕ) (set : List ℕ) (j : List Line) → (contents_of_lines (lines_in g j)).total g r set ≡ (contents_of_lines j).total g r set
total-in g r set j =
    ap (λ f. frame_total f (λ i. first_word g r i Answer (lines_in g j)) set) (fun_ext (λ i. first_word-in g r i Reading j))
    ∙ ap (λ f. frame_total (λ i. first_word g r i Reading j) f set) (fun_ext (λ i. first_word-in g r i Answer j))

word_sent-in : (s : Shape) (k : Kind) (g r i : ℕ) (p : List Event) (j : List Line)
    → word_sent s (contents_of_lines (lines_in g j)) k g r i (events_in g p) ≡ word_sent s (contents_of_lines j) k g r i p
word_sent-in s Reading g r i p j = first_word-in g r i Reading j
word_sent-in s Announcement g r i p j = refl
word_sent-in s Answer g r i p j = first_word-in g r i Answer j

-- ---- the core's line, and the frame of a Send

-- what an End says, from what is asked of its round
abbrev said : Bool → Bool → Bool → Bool → ℕ → List ℕ → Ending
said closed ended announced taken total lacks = if not closed then NotClosed else if ended then Already else if not announced then Thin else if taken then Total total else Lacking lacks

ending-in : (s : Shape) (g r : ℕ) (p : List Event) (j : List Line) → ending s (contents_of_lines (lines_in g j)) g r (events_in g p) ≡ ending s (contents_of_lines j) g r p
ending-in s g r p j =
    ap (λ b. said b (is_ended g r q) (is_announced s g r q) (all_taken s g r q) total_here (lacking s g r q)) (closed-in s g r p)
    ∙ ap (λ b. said (is_closed g r p) b (is_announced s g r q) (all_taken s g r q) total_here (lacking s g r q)) (ended-in s g r p)
    ∙ ap (λ b. said (is_closed g r p) (is_ended g r p) b (all_taken s g r q) total_here (lacking s g r q)) (announced-in s g r p)
    ∙ ap (λ b. said (is_closed g r p) (is_ended g r p) (is_announced s g r p) b total_here (lacking s g r q)) (all_taken-in s g r p)
    ∙ ap (λ n. said (is_closed g r p) (is_ended g r p) (is_announced s g r p) (all_taken s g r p) n (lacking s g r q))
    (ap ((contents_of_lines (lines_in g j)).total g r) (survivors-in s g r p) ∙ total-in g r (survivors s g r p) j)
    ∙ ap (λ l. said (is_closed g r p) (is_ended g r p) (is_announced s g r p) (all_taken s g r p) ((contents_of_lines j).total g r (survivors s g r p)) l) (lacking-in s g r p)
  where
    q : List Event
    q = events_in g p

    total_here : ℕ
    total_here = (contents_of_lines (lines_in g j)).total g r (survivors s g r q)

pub lines_of_groups : (s : Shape) (j : List Line) (e : Event) (given : Option Frame) → core_line s j e given ≡ core_line s (lines_in (group_of e) j) e given
lines_of_groups s j (Send tag) given =
    ap (λ b. SendLine tag (if b then given else None))
    (sym (ap (may_send s tag.kind tag.group tag.round tag.meter) (past-in tag.group j) ∙ may_send-in s tag.group tag.kind tag.round tag.meter (past_of j)))
lines_of_groups s j (Take tag) given =
    ap (TakeLine tag) (sym (ap (λ p. verdict s tag.kind tag.group tag.round tag.meter p) (past-in tag.group j) ∙ verdict-in s tag.group tag.kind tag.round tag.meter (past_of j)))
lines_of_groups s j (Close g r) given =
    ap (CloseLine g r) (sym (ap (λ p. closing s g r p) (past-in g j) ∙ closing-in s g r (past_of j)))
lines_of_groups s j (End g r) given =
    ap (EndLine g r) (sym (ap (ending s (contents_of_lines (lines_in g j)) g r) (past-in g j) ∙ ending-in s g r (past_of j) j))

frame-in : (s : Shape) (tag : Tag) (p : List Event) (j : List Line)
    → frame s (contents_of_lines (lines_in tag.group j)) tag (events_in tag.group p) ≡ frame s (contents_of_lines j) tag p
frame-in s tag p j =
    ap (λ b. if b then Some (made (set_sent s tag.kind tag.group tag.round (events_in tag.group p)) (word_sent s (contents_of_lines (lines_in tag.group j)) tag.kind tag.group tag.round tag.meter (events_in tag.group p))) else None)
    (may_send-in s tag.group tag.kind tag.round tag.meter p)
    ∙ ap (λ set. if may_send s tag.kind tag.group tag.round tag.meter p then Some (made set (word_sent s (contents_of_lines (lines_in tag.group j)) tag.kind tag.group tag.round tag.meter (events_in tag.group p))) else None)
    (set_sent-in s tag.group tag.kind tag.round p)
    ∙ ap (λ w. if may_send s tag.kind tag.group tag.round tag.meter p then Some (made (set_sent s tag.kind tag.group tag.round p) w) else None)
    (word_sent-in s tag.kind tag.group tag.round tag.meter p j)
  where
    made : List ℕ → ℕ → Frame
    made set w = record { tag = tag; missing = set; word = w }

-- ---- lines one after another

-- each line may follow those before it
abbrev Follows : (List Line → Line → Type 0) → List Line → List Line → Type 0
Follows P j [] = Unit {0}
Follows P j (l ∷ rest) = P j l × Follows P (j ++ l ∷ []) rest

-- what follows all lines follows those of its group
abbrev ByOwn : (List Line → Line → Type 0) → Type 0
ByOwn P = (j : List Line) (l : Line) → P j l → P (lines_in (group_of (event_of l)) j) l

-- and what follows those of its group follows all
abbrev FromOwn : (List Line → Line → Type 0) → Type 0
FromOwn P = (j : List Line) (l : Line) → P (lines_in (group_of (event_of l)) j) l → P j l

part : (P : List Line → Line → Type 0) → ByOwn P → (g : ℕ) (j rest : List Line) → Follows P j rest → Follows P (lines_in g j) (lines_in g rest)
part P own g j [] follows = tt
part P own g j (l ∷ rest) follows = step (group_of (event_of l) == g) refl (part P own g (j ++ l ∷ []) rest follows.1)
  where
    step : (b : Bool) → (group_of (event_of l) == g) ≡ b → Follows P (lines_in g (j ++ l ∷ [])) (lines_in g rest) → Follows P (lines_in g j) (cond b (l ∷ lines_in g rest) (lines_in g rest))
    step true h later = (
      subst (λ n. P (lines_in n j) l) (eqb-true (group_of (event_of l)) g h) (own j l follows.0),
      subst (λ x. Follows P x (lines_in g rest)) (push-here g j l h) later,
    )
    step false h later = subst (λ x. Follows P x (lines_in g rest)) (push-elsewhere g j l h) later

whole : (P : List Line → Line → Type 0) → FromOwn P → (j rest : List Line) → ((g : ℕ) → Follows P (lines_in g j) (lines_in g rest)) → Follows P j rest
whole P own j [] parts = tt
whole P own j (l ∷ rest) parts = (own j l here.0, whole P own (j ++ l ∷ []) rest (λ g. later g (n == g) refl (parts g)))
  where
    n : ℕ
    n = group_of (event_of l)

    here : Follows P (lines_in n j) (l ∷ lines_in n rest)
    here = subst (λ b. Follows P (lines_in n j) (cond b (l ∷ lines_in n rest) (lines_in n rest))) (eq-eqb n n refl) (parts n)

    later : (g : ℕ) (b : Bool) → (n == g) ≡ b → Follows P (lines_in g j) (cond b (l ∷ lines_in g rest) (lines_in g rest)) → Follows P (lines_in g (j ++ l ∷ [])) (lines_in g rest)
    later g true h x = subst (λ y. Follows P y (lines_in g rest)) (sym (push-here g j l h)) x.1
    later g false h x = subst (λ y. Follows P y (lines_in g rest)) (sym (push-elsewhere g j l h)) x

-- ---- journals

cores-follow : (s : Shape) (j rest : List Line) → IsJournalAfter s j rest → Follows (IsCore s) j rest
cores-follow s j [] is = tt
cores-follow s j (l ∷ rest) is = (is.0, cores-follow s (j ++ l ∷ []) rest is.1)

cores-from : (s : Shape) (j rest : List Line) → Follows (IsCore s) j rest → IsJournalAfter s j rest
cores-from s j [] is = tt
cores-from s j (l ∷ rest) is = (is.0, cores-from s (j ++ l ∷ []) rest is.1)

frames-follow : (s : Shape) (j rest : List Line) → HasOwnFrames s j rest → Follows (HasOwnFrame s) j rest
frames-follow s j [] is = tt
frames-follow s j (SendLine tag f ∷ rest) is = (is.0, frames-follow s (j ++ SendLine tag f ∷ []) rest is.1)
frames-follow s j (TakeLine tag v ∷ rest) is = (tt, frames-follow s (j ++ TakeLine tag v ∷ []) rest is)
frames-follow s j (CloseLine g r v ∷ rest) is = (tt, frames-follow s (j ++ CloseLine g r v ∷ []) rest is)
frames-follow s j (EndLine g r v ∷ rest) is = (tt, frames-follow s (j ++ EndLine g r v ∷ []) rest is)

frames-from : (s : Shape) (j rest : List Line) → Follows (HasOwnFrame s) j rest → HasOwnFrames s j rest
frames-from s j [] is = tt
frames-from s j (SendLine tag f ∷ rest) is = (is.0, frames-from s (j ++ SendLine tag f ∷ []) rest is.1)
frames-from s j (TakeLine tag v ∷ rest) is = frames-from s (j ++ TakeLine tag v ∷ []) rest is.1
frames-from s j (CloseLine g r v ∷ rest) is = frames-from s (j ++ CloseLine g r v ∷ []) rest is.1
frames-from s j (EndLine g r v ∷ rest) is = frames-from s (j ++ EndLine g r v ∷ []) rest is.1

core-own : (s : Shape) → ByOwn (IsCore s)
core-own s j l is = is ∙ lines_of_groups s j (event_of l) (frame_of l)

core-from_own : (s : Shape) → FromOwn (IsCore s)
core-from_own s j l is = is ∙ sym (lines_of_groups s j (event_of l) (frame_of l))

-- the frame of a Send, by all lines and by those of its group
own-frames : (s : Shape) (j : List Line) (tag : Tag) (f : Option Frame)
    → frame s (contents_of_lines (lines_in tag.group j ++ SendLine tag f ∷ [])) tag (past_of (lines_in tag.group j)) ≡ frame s (contents_of_lines (j ++ SendLine tag f ∷ [])) tag (past_of j)
own-frames s j tag f =
    ap (λ x. frame s (contents_of_lines x) tag (past_of (lines_in tag.group j))) (sym (push-here tag.group j (SendLine tag f) (eq-eqb tag.group tag.group refl)))
    ∙ ap (frame s (contents_of_lines (lines_in tag.group (j ++ SendLine tag f ∷ []))) tag) (past-in tag.group j)
    ∙ frame-in s tag (past_of j) (j ++ SendLine tag f ∷ [])

frame-own : (s : Shape) → ByOwn (HasOwnFrame s)
frame-own s j (SendLine tag f) is = is ∙ sym (own-frames s j tag f)
frame-own s j (TakeLine tag v) is = tt
frame-own s j (CloseLine g r v) is = tt
frame-own s j (EndLine g r v) is = tt

frame-from_own : (s : Shape) → FromOwn (HasOwnFrame s)
frame-from_own s j (SendLine tag f) is = is ∙ own-frames s j tag f
frame-from_own s j (TakeLine tag v) is = tt
frame-from_own s j (CloseLine g r v) is = tt
frame-from_own s j (EndLine g r v) is = tt

pub journal-part : (s : Shape) (j : List Line) → IsJournal s j → (g : ℕ) → IsJournal s (lines_in g j)
journal-part s j is g = record {
  lines = cores-from s [] (lines_in g j) (part (IsCore s) (core-own s) g [] j (cores-follow s [] j is.lines));
  frames = frames-from s [] (lines_in g j) (part (HasOwnFrame s) (frame-own s) g [] j (frames-follow s [] j is.frames));
}

pub journal-whole : (s : Shape) (j : List Line) → ((g : ℕ) → IsJournal s (lines_in g j)) → IsJournal s j
journal-whole s j parts = record {
  lines = cores-from s [] j (whole (IsCore s) (core-from_own s) [] j (λ g. cores-follow s [] (lines_in g j) (parts g).lines));
  frames = frames-from s [] j (whole (HasOwnFrame s) (frame-from_own s) [] j (λ g. frames-follow s [] (lines_in g j) (parts g).frames));
}

pub journals_of_groups : (s : Shape) (j : List Line) → IsJournal s j ↔ ((g : ℕ) → IsJournal s (lines_in g j))
journals_of_groups s j = (journal-part s j, journal-whole s j)

pub merges_are_journals : (s : Shape) (one other : List Line) → ((g : ℕ) → lines_in g other ≡ lines_in g one) → IsJournal s one → IsJournal s other
merges_are_journals s one other same is = journal-whole s other (λ g. subst (IsJournal s) (sym (same g)) (journal-part s one is g))

-- lines of one group have none of another
pub none-in : (h n : ℕ) (ls : List Line) → (n == h) ≡ false → All (λ l. group_of (event_of l) ≡ n) ls → lines_in h ls ≡ []
none-in h n [] off all = refl
none-in h n (l ∷ ls) off all =
    ap (λ b. cond b (l ∷ lines_in h ls) (lines_in h ls)) (ap (λ x. x == h) (All-head (λ l. group_of (event_of l) ≡ n) l ls all) ∙ off)
    ∙ none-in h n ls off (All-tail (λ l. group_of (event_of l) ≡ n) l ls all)

-- other groups keep their lines where lines of one group come
pub append-elsewhere : (h n : ℕ) (j ls : List Line) → (n == h) ≡ false → All (λ l. group_of (event_of l) ≡ n) ls → lines_in h (j ++ ls) ≡ lines_in h j
append-elsewhere h n j ls off all = filter-append (λ l. group_of (event_of l) == h) j ls ∙ ap (λ x. lines_in h j ++ x) (none-in h n ls off all) ∙ append-nil (lines_in h j)
