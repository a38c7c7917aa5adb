-- Rows of side words, frame by frame.
use Rattle.std.proofs.Common.{◌≡◌, ◌∙◌, ℕ, zero, suc, ◌+◌, ◌-◌, ◌<◌, ◌≤◌, ◌==◌, ◌&&◌, Bool, true, false, not, nat_lt, if◌then◌else◌, IsTrue, List, [], ◌∷◌, ◌++◌, length, drop, map, get_or, replicate, Option, Some, None, All, IfSome, refl, sym, ap, ap₂, subst, arith, inl, inr}
use Rattle.std.specs.List.{filter, list_all, range_with_len}
use Rattle.std.specs.Prelude.{slice_index, slice_set}
use Rattle.std.proofs.lemmas.Bool.{and_parts, cases_eq, cases_lt, lt-ltb}
use Rattle.std.proofs.lemmas.List.{append-nil, ext_get_or, get_or_append_left, get_or-append-add, get_or-map, get_or-set_other, get_or-set_same, length-map, length-replicate, length-set}
use Rattle.std.proofs.lemmas.List.Elements.{All-get_or, All-head, All-tail}
use Rattle.std.proofs.lemmas.List.FromFn.{get_or-map-range_with_len, length-map-range_with_len}
use Rattle.std.proofs.Common.{append_assoc, length-append}
use Rattle.group_plan.specs.Plans.{PlanView, is_member, members, size}
use Rattle.meter_frames.specs.declared.Frame.{Frame}
use Rattle.missing_round.specs.Sets.{without}
use Rattle.missing_round.specs.Words.{word, answer_word, reading_word}
use Rattle.blind_core.proofs.ShareLemmas.{shares-without}
use Rattle.pair_keys.specs.Keys.{Keys}
use Rattle.plan_files.specs.Registers.{RegistersView}
use Rattle.plan_files.proofs.ReadingLemmas.{drop_at, drop_end}
use Rattle.event_schedule.specs.declared.Entry.{Entry}
use Rattle.event_schedule.specs.declared.Line.{Line}
use Rattle.event_schedule.specs.declared.Line.TheVariants.{Send, Take, Close, End}
use Rattle.event_schedule.specs.Events.{lines_of}
use Rattle.event_schedule.specs.Transcripts.{FitsLine, IsTranscript, IsWithin, TranscriptView}
use Rattle.register_words.specs.declared.row.SideRow.{SideRow}
use Rattle.register_words.specs.Blocks.{is_end}
use Rattle.register_words.specs.SideParts.{FitsFrame, row_by}
use Rattle.register_words.specs.Sides.{and_rows, has_words, register_contents, side_frame, side_row, side_rows, word_for}

-- ---- the other meters

range_step : (b : Bool) (n a : ℕ) (xs : List ℕ) → nat_lt a n ≡ true → list_all (λ j. nat_lt j n) xs ≡ true → list_all (λ j. nat_lt j n) (if b then a ∷ xs else xs) ≡ true
range_step true n a xs first rest = rw first rest
range_step false n a xs first rest = rest

pub within_range : (n : ℕ) (p : ℕ → Bool) (a m : ℕ) → a + m ≤ n → list_all (λ j. nat_lt j n) (filter p (range_with_len a m)) ≡ true
within_range n p a zero le = refl
within_range n p a (suc m) le =
    range_step (p a) n a (filter p (range_with_len (a + 1) m)) (lt-ltb a n (omega (arith, le))) (within_range n p (a + 1) m (omega (arith, le)))

ends_of : (plan : PlanView) (g i : ℕ) (xs : List ℕ) → list_all (λ j. nat_lt j (size plan.groups g)) xs ≡ true → IsTrue (list_all (is_end plan g i) (without i xs))
ends_of plan g i [] h = refl
ends_of plan g i (x ∷ xs) h =
    let both = and_parts (nat_lt x (size plan.groups g)) (list_all (λ j. nat_lt j (size plan.groups g)) xs) h in
    by (x == i) refl both.0 (ends_of plan g i xs both.1)
  where
    by : (b : Bool) → (x == i) ≡ b → nat_lt x (size plan.groups g) ≡ true → IsTrue (list_all (is_end plan g i) (without i xs))
        → IsTrue (list_all (is_end plan g i) (if not b then x ∷ without i xs else without i xs))
    by true e first rest = rest
    by false e first rest = rw (first, e) rest

pub member_ends : (plan : PlanView) (g r i : ℕ) → IsTrue (list_all (is_end plan g i) (without i (members plan.groups g r)))
member_ends plan g r i = ends_of plan g i (members plan.groups g r) (within_range (size plan.groups g) (is_member plan.groups g r) 0 (size plan.groups g) (omega arith))

all_below : (n : ℕ) (xs : List ℕ) → All (λ i. i < n) xs → list_all (λ j. nat_lt j n) xs ≡ true
all_below n [] all = refl
all_below n (x ∷ xs) all =
    let first = lt-ltb x n (All-head (λ i. i < n) x xs all) in
    rw first (all_below n xs (All-tail (λ i. i < n) x xs all))

pub set_ends : (plan : PlanView) (g i : ℕ) (set : List ℕ) → IsWithin (size plan.groups g) set → IsTrue (list_all (is_end plan g i) (without i set))
set_ends plan g i set within = ends_of plan g i set (all_below (size plan.groups g) set within)

-- ---- words

-- the word of a reading: what the meter adds for the others, and the reading
pub reading_is : (own : ℕ → ℕ) (pair : ℕ → ℕ → ℕ) (members : List ℕ) (i x w : ℕ) → w ≡ answer_word own pair i (without i members) → word (w + x) ≡ reading_word own pair members i x
reading_is own pair members i x w is =
    let shares = shares-without pair i members in
    omega (arith, is, shares)

-- a meter has no share with itself, so a set may have it or not
pub answer_is : (own : ℕ → ℕ) (pair : ℕ → ℕ → ℕ) (i : ℕ) (missing : List ℕ) → answer_word own pair i (without i missing) ≡ answer_word own pair i missing
answer_is own pair i missing = ap (λ n. word (own i + n)) (shares-without pair i missing)

-- ---- a row

abbrev pub made_row : ℕ → ℕ → List ℕ → SideRow
made_row line count words = record { line = line; count = count; words = words }

-- the words so far, and 0 behind them
pub record Further (words : List ℕ) (n : ℕ) (side : List ℕ) : Type 0 where
  pub long : length side ≡ 7
  pub done : (k : ℕ) → k < n → get_or side k 0 ≡ get_or words (k + 1) 0
  pub left : (k : ℕ) → n ≤ k → get_or side k 0 ≡ 0

past_end : (xs : List ℕ) (k : ℕ) → length xs ≤ k → get_or xs k 0 ≡ 0
past_end [] k le = refl
past_end (x ∷ xs) zero le = absurd (omega (arith, le))
past_end (x ∷ xs) (suc k) le = past_end xs k (omega (arith, le))

zero_at : (n k : ℕ) → get_or (replicate {A = ℕ} n 0) k 0 ≡ 0
zero_at zero k = refl
zero_at (suc n) zero = refl
zero_at (suc n) (suc k) = zero_at n k

pub further_is : (words side : List ℕ) (n : ℕ) → 1 ≤ n → n ≤ 8 → Further words (n - 1) side → side ≡ map (slice_index words) (range_with_len 1 (n - 1)) ++ replicate (8 - n) 0
further_is words side n some few is =
    let made = map (slice_index words) (range_with_len 1 (n - 1)) in
    let made_long : length made ≡ n - 1 = length-map-range_with_len (slice_index words) 1 (n - 1) in
    let zeros_long = length-replicate {A = ℕ} (8 - n) 0 in
    let both = length-append made (replicate (8 - n) 0) in
    let long = is.long in
    ext_get_or 0 side (made ++ replicate (8 - n) 0) (omega (arith, long, made_long, zeros_long, both, some, few)) (λ k lt. elim (cases_lt k (n - 1)) [
      | inl early ↦ is.done k early ∙ sym (get_or-map-range_with_len (slice_index words) 1 (n - 1) k (k + 1) 0 early (omega arith))
          ∙ sym (get_or_append_left made (replicate (8 - n) 0) 0 k (omega (arith, early, made_long)))
      | inr late ↦
          let split : k ≡ length made + (k - (n - 1)) = omega (arith, made_long, late) in
          is.left k late ∙ sym (zero_at (8 - n) (k - (n - 1))) ∙ sym (get_or-append-add made (replicate (8 - n) 0) (k - (n - 1)) 0)
          ∙ ap (λ m. get_or (made ++ replicate (8 - n) 0) m 0) (sym split)
    ])

-- words that are the further registers' give the row
pub row_is : (registers : RegistersView) (keys : Keys) (line : ℕ) (f : Frame) (words : List ℕ) (n : ℕ) → n ≡ length registers.tables → 1 ≤ n
    → ((k : ℕ) → 1 ≤ k → k < length registers.tables → slice_index words k ≡ word_for (register_contents registers keys k) f) → row_by line words n ≡ side_row registers keys line f
row_is registers keys line f words n count some is =
    subst (λ (m : ℕ). row_by line words m ≡ side_row registers keys line f) (sym count)
    (ap (λ (l : List ℕ). made_row line (length registers.tables - 1) (l ++ replicate (8 - length registers.tables) 0))
    (same_map (slice_index words) (λ k. word_for (register_contents registers keys k) f) 1 (length registers.tables - 1) (λ k low high. is k low (omega (arith, high, some, count)))))
  where
    same_map : (f h : ℕ → ℕ) (a n : ℕ) → ((k : ℕ) → a ≤ k → k < a + n → f k ≡ h k) → map f (range_with_len a n) ≡ map h (range_with_len a n)
    same_map f h a zero same = refl
    same_map f h a (suc n) same =
        ap₂ (λ (x : ℕ) (l : List ℕ). x ∷ l) (same a (omega arith) (omega arith)) (same_map f h (a + 1) n (λ k low high. same k (omega (arith, low)) (omega (arith, high))))

-- ---- frames of entries

line_fits : (plan : PlanView) (fate : List ℕ) (l : Line) (f : Frame) → FitsLine plan fate l → side_frame l ≡ Some f → FitsFrame plan f
line_fits plan fate (Send tag None) f fits is = cc is
line_fits plan fate (Send tag (Some frame)) f fits is = by (has_words frame.tag.kind) is
  where
    by : (b : Bool) → (if b then Some frame else None) ≡ Some f → FitsFrame plan f
    by true e =
        let same : frame ≡ f = cc in
        subst (FitsFrame plan) same (record {
          place = subst (λ t. IsTrue (nat_lt t.round plan.rounds && nat_lt t.meter (size plan.groups t.group))) (sym fits.1.same) fits.0;
          set = subst (λ t. IsWithin (size plan.groups t.group) frame.missing) (sym fits.1.same) fits.1.set;
        })
    by false e = cc e
line_fits plan fate (Take tag verdict) f fits is = cc is
line_fits plan fate (Close g r c) f fits is = cc is
line_fits plan fate (End g r e) f fits is = cc is

-- the frame of an entry fits the plan
pub frame_fits : (t : TranscriptView) (at : ℕ) (e : Entry) (f : Frame) → IsTranscript t → at < length t.entries → e ≡ get_or t.entries at e → side_frame e.line ≡ Some f → FitsFrame t.plan f
frame_fits t at e f sound lt is some =
    line_fits t.plan e.fate e.line f (subst (λ (x : Entry). FitsLine t.plan x.fate x.line) (sym is) (All-get_or (λ (x : Entry). FitsLine t.plan x.fate x.line) t.entries at e lt sound.fit)) some

-- ---- all rows

pub no_rows : (registers : RegistersView) (keys : Keys) (n : ℕ) (ls : List Line) (rows : List SideRow) → rows ≡ [] → rows ++ side_rows registers keys n (drop 0 ls) ≡ side_rows registers keys n ls
no_rows registers keys n ls rows none = ap (λ (l : List SideRow). l ++ side_rows registers keys n ls) none

line_step : (registers : RegistersView) (keys : Keys) (n at : ℕ) (entries : List Entry) (e : Entry) → at < length entries → e ≡ get_or entries at e
    → side_rows registers keys (n + at) (drop at (lines_of entries)) ≡ and_rows registers keys (n + at) (side_frame e.line) (side_rows registers keys (n + (at + 1)) (drop (at + 1) (lines_of entries)))
unfolding side_rows
line_step registers keys n at entries e lt is =
    let long : length (lines_of entries) ≡ length entries = length-lines entries in
    let here : get_or (lines_of entries) at e.line ≡ e.line = get_or-map (λ (x : Entry). x.line) entries at e e.line lt ∙ ap (λ (x : Entry). x.line) (sym is) in
    let next : n + at + 1 ≡ n + (at + 1) = omega arith in
    ap (side_rows registers keys (n + at)) (drop_at (lines_of entries) at e.line (omega (arith, lt, long)))
    ∙ ap (λ (l : Line). and_rows registers keys (n + at) (side_frame l) (side_rows registers keys (n + at + 1) (drop (at + 1) (lines_of entries)))) here
    ∙ ap (λ m. and_rows registers keys (n + at) (side_frame e.line) (side_rows registers keys m (drop (at + 1) (lines_of entries)))) next
  where
    length-lines : (es : List Entry) → length (lines_of es) ≡ length es
    length-lines [] = refl
    length-lines (e ∷ es) = ap suc (length-lines es)

pub rows_done : (registers : RegistersView) (keys : Keys) (n at : ℕ) (entries : List Entry) (rows all : List SideRow) → length entries ≤ at
    → rows ++ side_rows registers keys (n + at) (drop at (lines_of entries)) ≡ all → rows ≡ all
unfolding side_rows
rows_done registers keys n at entries rows all past so_far =
    let none : drop at (lines_of entries) ≡ [] = drop_end (lines_of entries) at (omega (arith, past, length-map entries (λ (x : Entry). x.line))) in
    sym (append-nil rows) ∙ ap (λ (l : List Line). rows ++ side_rows registers keys (n + at) l) (sym none) ∙ so_far

-- the words of the further registers are done
pub row_done : (line n r : ℕ) (words side : List ℕ) → 1 ≤ n → n ≤ 8 → n ≤ r → r ≤ n → Further words (r - 1) side → made_row line (n - 1) side ≡ row_by line words n
row_done line n r words side some few over under is =
    let same : r ≡ n = omega (arith, over, under) in
    ap (made_row line (n - 1)) (further_is words side n some few (subst (λ m. Further words (m - 1) side) same is))

-- the rows with those of one line more
pub rows_next : (registers : RegistersView) (keys : Keys) (n at : ℕ) (entries : List Entry) (e : Entry) (rows next all : List SideRow) → at < length entries → e ≡ get_or entries at e
    → next ≡ rows ++ and_rows registers keys (n + at) (side_frame e.line) [] → rows ++ side_rows registers keys (n + at) (drop at (lines_of entries)) ≡ all
    → next ++ side_rows registers keys (n + (at + 1)) (drop (at + 1) (lines_of entries)) ≡ all
rows_next registers keys n at entries e rows next all lt is added so_far =
    let rest = side_rows registers keys (n + (at + 1)) (drop (at + 1) (lines_of entries)) in
    ap (λ (l : List SideRow). l ++ rest) added ∙ append_assoc rows (and_rows registers keys (n + at) (side_frame e.line) []) rest
    ∙ ap (λ (l : List SideRow). rows ++ l) (and_rows_append registers keys (n + at) (side_frame e.line) rest ∙ sym (line_step registers keys n at entries e lt is)) ∙ so_far
  where
    and_rows_append : (registers : RegistersView) (keys : Keys) (n : ℕ) (f : Option Frame) (rest : List SideRow) → and_rows registers keys n f [] ++ rest ≡ and_rows registers keys n f rest
    and_rows_append registers keys n None rest = refl
    and_rows_append registers keys n (Some f) rest = refl

-- a frame that is there fits
pub some_fits : (t : TranscriptView) (at : ℕ) (e : Entry) (f : Option Frame) → IsTranscript t → at < length t.entries → e ≡ get_or t.entries at e → f ≡ side_frame e.line → IfSome f (λ x. FitsFrame t.plan x)
some_fits t at e None sound lt is same = tt
some_fits t at e (Some x) sound lt is same = frame_fits t at e x sound lt is (sym same)

-- ---- the registers of a reading

pub set_long : (words : List ℕ) (n v : ℕ) → length words ≡ 8 → length (slice_set words n v) ≡ 8
set_long words n v long = length-set words n v ∙ long

pub set_done : (f : ℕ → ℕ) (words : List ℕ) (n v : ℕ) → n < length words → ((k : ℕ) → k < n → slice_index words k ≡ f k) → v ≡ f n → (k : ℕ) → k < n + 1 → slice_index (slice_set words n v) k ≡ f k
set_done f words n v lt done is k less = elim (cases_eq k n) [
  | inl same ↦ ap (slice_index (slice_set words n v)) same ∙ get_or-set_same words n v 0 lt ∙ is ∙ ap f (sym same)
  | inr other ↦ get_or-set_other words n k v 0 other ∙ done k (omega (arith, less, other))
]

pub set_left : (f : ℕ → ℕ) (words : List ℕ) (n v : ℕ) → ((k : ℕ) → n ≤ k → k < 8 → slice_index words k ≡ f k) → (k : ℕ) → n + 1 ≤ k → k < 8 → slice_index (slice_set words n v) k ≡ f k
set_left f words n v left k le lt = get_or-set_other words n k v 0 (λ e. omega (arith, le, e)) ∙ left k (omega (arith, le)) lt
