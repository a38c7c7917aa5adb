-- Possible lines are the transcript of some readings and some masks.
use Rattle.std.proofs.Common.{◌≡◌, ℕ, zero, suc, ◌+◌, ◌-◌, ◌*◌, ◌^◌, ◌<◌, ◌≤◌, Bool, true, false, cond, not, ◌&&◌, List, [], ◌∷◌, ◌++◌, length, map, min, refl, sym, ap, ◌∙◌, add-zero, zero-add, append-nil, length-append, arith}
use Rattle.std.specs.Prelude.{if◌then◌else◌, slice_get, is_some, Some, None, unwrap_or}
use Rattle.std.specs.List.{sum_by, filter, list_all, range_with_len}
use mathlib.Core.List.{reverse}
use mathlib.Core.Path.{fun_ext}
use Rattle.std.proofs.Math.Nat.{mod-mod, mod-lt, mod-eq_of_lt}
use Rattle.std.proofs.lemmas.Bool.{false≢true, cond_both, and_from}
use Rattle.std.proofs.lemmas.List.Filters.{sum_by-filter_both}
use Rattle.std.proofs.lemmas.List.Elements.{filter-append}
use Rattle.std.proofs.lemmas.List.Sums.{sum_by-cons, sum_by_push}
use Rattle.missing_round.specs.Words.{word, minus, share, group, reading_word, frame_total}
use Rattle.group_plan.specs.declared.Kind.TheVariants.{Reading, Answer}
use Rattle.event_schedule.specs.declared.Event.{Event}
use Rattle.event_schedule.specs.declared.Line.{Line}
use Rattle.group_plan.specs.Plans.{Group, size_or, is_member, members}
use Rattle.event_schedule.specs.Schedule.{Shape, is_answer_sent, is_reading_taken, survivors, missing, is_announced, is_opened, all_answered, answered}
use Rattle.event_schedule.specs.Tables.{Readings, Masks, reading_at}
use Rattle.event_schedule.specs.Transcript.{shape_of_readings, Contents, contents_of_tables, lines_after}
use Rattle.ideal_masks.specs.Pools.{nobody}
use Rattle.ideal_masks.specs.Offsets.{silent, moves, shift}
use Rattle.event_schedule.specs.Events.{event_of}
use Rattle.event_schedule.specs.Frames.{first_frame, first_word, shape_of_lines, contents_of_lines, IsPossible, HasWordsOf64Bits}
use Rattle.ideal_masks.specs.Statements.{IsExplained}
use Rattle.event_schedule.proofs.TranscriptLemmas.{Alike, lines_after-same}
use Rattle.event_schedule.proofs.ScheduleLemmas.{after, after-reverse, present-from_taken}
use Rattle.event_schedule.proofs.ListLemmas.{and_first, and_last, list_all-from_filter, sum_by-filter_same}
use Rattle.ideal_masks.proofs.TwoWorlds.{answer_word-moved, reading_word-moved}
use Rattle.event_schedule.proofs.FrameLemmas.{possible}
use Rattle.ideal_masks.proofs.OffsetLemmas.{sum_share-none}
use Rattle.missing_round.proofs.WordLemmas.{word-add_same, word-same_add, sum_by-add, word-sum_by, word-minus}

-- the most that one reading can be
abbrev pub cap : ℕ
cap = 2 ^ 40 - 1

-- a total that is dealt out to the meters of a set in order, each as much as it can have
abbrev pub dealt : (ℕ → Bool) → ℕ → ℕ → ℕ
dealt t total i = min cap (total - cap * length (filter t (group i)))

range_more : (a n : ℕ) → range_with_len a (suc n) ≡ range_with_len a n ++ (a + n) ∷ []
range_more a zero = ap (λ z. z ∷ []) (sym (add-zero a))
range_more a (suc n) =
    let e : (a + 1) + n ≡ a + suc n = omega arith in
    ap (λ l. a ∷ l) (range_more (a + 1) n ∙ ap (λ z. range_with_len (a + 1) n ++ z ∷ []) e)

group_more : (n : ℕ) → group (suc n) ≡ group n ++ n ∷ []
group_more n = range_more 0 n ∙ ap (λ z. group n ++ z ∷ []) (zero-add n)

filter_group_more : (t : ℕ → Bool) (n : ℕ) → filter t (group (suc n)) ≡ filter t (group n) ++ cond (t n) (n ∷ []) []
filter_group_more t n = ap (filter t) (group_more n) ∙ filter-append t (group n) (n ∷ [])

filter-filter : (t m : ℕ → Bool) (xs : List ℕ) → filter t (filter m xs) ≡ filter (λ i. m i && t i) xs
filter-filter t m [] = refl
filter-filter t m (x ∷ xs) = step (m x) (filter-filter t m xs)
  where
    step : (c : Bool) → filter t (filter m xs) ≡ filter (λ i. m i && t i) xs → filter t (cond c (x ∷ filter m xs) (filter m xs)) ≡ cond (c && t x) (x ∷ filter (λ i. m i && t i) xs) (filter (λ i. m i && t i) xs)
    step true e = ap (λ l. cond (t x) (x ∷ l) l) e
    step false e = e

deal : (total l : ℕ) → min total (cap * l) + min cap (total - cap * l) ≡ min total (cap * (l + 1))
deal total l = omega arith

pub sum_dealt : (t : ℕ → Bool) (total n : ℕ) → sum_by (dealt t total) (filter t (group n)) ≡ min total (cap * length (filter t (group n)))
sum_dealt t total zero = omega arith
sum_dealt t total (suc n) = rw filter_group_more (step (t n) (sum_dealt t total n))
  where
    step : (c : Bool) → sum_by (dealt t total) (filter t (group n)) ≡ min total (cap * length (filter t (group n)))
        → sum_by (dealt t total) (filter t (group n) ++ cond c (n ∷ []) []) ≡ min total (cap * length (filter t (group n) ++ cond c (n ∷ []) []))
    step true e =
        sum_by_push (dealt t total) (filter t (group n)) n
        ∙ ap (λ z. z + dealt t total n) e
        ∙ deal total (length (filter t (group n)))
        ∙ ap (λ l. min total (cap * l)) (sym (length-append (filter t (group n)) (n ∷ [])))
    step false e = rw append-nil e

-- over the members that the test keeps
pub sum_dealt-members : (t m : ℕ → Bool) (total n : ℕ) → sum_by (dealt (λ i. m i && t i) total) (filter t (filter m (group n))) ≡ min total (cap * length (filter t (filter m (group n))))
sum_dealt-members t m total n = rw filter-filter (sum_dealt (λ i. m i && t i) total n)

dealt_le : (t : ℕ → Bool) (total i : ℕ) → dealt t total i ≤ cap
dealt_le t total i = omega arith

-- ---- the two tables: c are the words and totals that the lines say

-- an opened round deals its total out
abbrev pub found_reading : Shape → Contents → List Event → ℕ → ℕ → ℕ → ℕ
found_reading s c whole g r i =
    if is_opened s g r whole then dealt (λ k. is_member s.groups g r k && is_reading_taken s g r k whole) (c.total g r (survivors s g r whole)) i else 0

abbrev pub found : Shape → Contents → List Event → Readings
found s c whole g r i = if s.present g r i then Some (found_reading s c whole g r i) else None

abbrev pub base : Shape → (ℕ → ℕ → ℕ → ℕ) → List Event → Masks
base s answer whole = record { own = λ g r i. if is_answer_sent s g r i whole then answer g r i else 0; pair = λ _ _ _ _. 0 }

abbrev pub wanted : Shape → Contents → (ℕ → ℕ → ℕ → ℕ) → List Event → ℕ → ℕ → ℕ → ℕ
wanted s c answer whole g r i = word (c.reading g r i + minus (found_reading s c whole g r i + (base s answer whole).own g r i))

abbrev pub found_masks : Shape → Contents → (ℕ → ℕ → ℕ → ℕ) → List Event → Masks
found_masks s c answer whole = shift (moves s (wanted s c answer whole) whole) (base s answer whole)

found_word : (w y o sum : ℕ) → word sum ≡ 0 → word ((y + word (w + minus (y + o))) + o + sum) ≡ word w
found_word w y o sum none = omega arith

all_cancel : (w y o : ℕ → ℕ) (xs : List ℕ) → word (sum_by w xs) ≡ word (sum_by y xs + sum_by o xs) → word (sum_by (λ i. word (w i + minus (y i + o i))) xs) ≡ 0
all_cancel w y o xs e =
    word-sum_by (λ i. word (w i + minus (y i + o i))) (λ i. w i + minus (y i + o i)) xs (λ i. mod-mod (w i + minus (y i + o i)) (2 ^ 64))
    ∙ ap word (sum_by-add w (λ i. minus (y i + o i)) xs)
    ∙ word-same_add (sum_by (λ i. minus (y i + o i)) xs) (sum_by w xs) (sum_by y xs + sum_by o xs) e
    ∙ ap word (ap (λ z. z + sum_by (λ i. minus (y i + o i)) xs) (sym (sum_by-add y o xs)) ∙ sym (sum_by-add (λ i. y i + o i) (λ i. minus (y i + o i)) xs))
    ∙ word-sum_by (λ i. (y i + o i) + minus (y i + o i)) (λ _. 0) xs (λ i. word-minus (y i + o i))
    ∙ ap word (sum_by-zero xs)
  where
    sum_by-zero : (ys : List ℕ) → sum_by (λ (_ : ℕ). 0) ys ≡ 0
    sum_by-zero [] = refl
    sum_by-zero (z ∷ ys) = omega (arith, sum_by-cons (λ (_ : ℕ). 0) z ys, sum_by-zero ys)

-- the frame_total and the sum of the answers are the sum of the words
regained : (w a t : ℕ) → t ≡ word (w + minus a) → word w ≡ word (t + a)
regained w a t e = omega arith

-- in a round that all answered the wanted parts cancel
wanted_cancel : (s : Shape) (c : Contents) (answer : ℕ → ℕ → ℕ → ℕ) (whole : List Event) (g r : ℕ)
    → c.total g r (survivors s g r whole) ≡ frame_total (c.reading g r) (answer g r) (survivors s g r whole)
    → (is_opened s g r whole ≡ true → c.total g r (survivors s g r whole) ≤ cap * length (survivors s g r whole))
    → is_announced s g r whole ≡ true → silent s g r whole ≡ [] → word (sum_by (wanted s c answer whole g r) (answered s g r whole)) ≡ 0
wanted_cancel s c answer whole g r is_difference most announced none =
    let b : ℕ → Bool = λ i. is_answer_sent s g r i whole in
    let t : ℕ → Bool = λ i. is_reading_taken s g r i whole in
    let m : ℕ → Bool = is_member s.groups g r in
    let n : ℕ = size_or (slice_get s.groups g) in
    let a : List ℕ = survivors s g r whole in
    let d : ℕ → ℕ = wanted s c answer whole g r in
    let replied : list_all b (filter t (members s.groups g r)) ≡ true = list_all-from_filter b a none in
    let opened : is_opened s g r whole ≡ true = and_from (is_announced s g r whole) (all_answered s g r whole) announced replied in
    let split = sum_by-filter_both b (λ k. not (b k)) (λ _. refl) d a in
    let gone : sum_by d (silent s g r whole) ≡ 0 = ap (sum_by d) none in
    let all : sum_by d (answered s g r whole) ≡ sum_by d a = omega (arith, split, gone) in
    let total : ℕ = c.total g r a in
    let le : total ≤ cap * length a = most opened in
    let given : sum_by (found_reading s c whole g r) a ≡ total
    = ap (λ q. sum_by (λ i. if q then dealt (λ k. m k && t k) total i else 0) a) opened ∙ sum_dealt-members t m total n ∙ omega arith in
    let own : sum_by ((base s answer whole).own g r) a ≡ sum_by (answer g r) a
    = sum_by-filter_same t b ((base s answer whole).own g r) (answer g r) (λ i _ sent. rw sent) (members s.groups g r) replied in
    ap word all
    ∙ all_cancel (c.reading g r) (found_reading s c whole g r) ((base s answer whole).own g r) a
    (regained (sum_by (c.reading g r) a) (sum_by (answer g r) a) total is_difference ∙ ap word (omega (arith, given, own)))

-- what is needed of lines, besides that they are possible: places of the groups, and words below 2^64
pub record IsLinesOf (s : Shape) (c : Contents) (answer : ℕ → ℕ → ℕ → ℕ) : Type 0 where
  pub places : (g r i : ℕ) → s.present g r i ≡ true → is_member s.groups g r i ≡ true
  pub readings : (g r i : ℕ) → c.reading g r i < 2 ^ 64
  pub answers : (g r i : ℕ) → answer g r i < 2 ^ 64
  pub answers_are : (g r i : ℕ) (set : List ℕ) → c.answer g r i set ≡ answer g r i
  pub differences : (g r : ℕ) (set : List ℕ) → c.total g r set ≡ frame_total (c.reading g r) (answer g r) set

found_at : (s : Shape) (c : Contents) (whole : List Event) (g r i : ℕ) → s.present g r i ≡ true → reading_at (found s c whole) g r i ≡ found_reading s c whole g r i
found_at s c whole g r i present = ap (λ q. unwrap_or (cond q (Some (found_reading s c whole g r i)) None) 0) present

explained_alike : (s : Shape) (c : Contents) (answer : ℕ → ℕ → ℕ → ℕ) (whole : List Event) → IsLinesOf s c answer
    → ((g r : ℕ) → is_opened s g r whole ≡ true → c.total g r (survivors s g r whole) ≤ cap * length (survivors s g r whole))
    → Alike s c (contents_of_tables s.groups (found s c whole) (found_masks s c answer whole)) whole
explained_alike s c answer whole fits most =
    let m0 : Masks = base s answer whole in
    let d : ℕ → ℕ → ℕ → ℕ = wanted s c answer whole in
    record {
      readings = λ g r i present.
          let ms : List ℕ = members s.groups g r in
          let y : ℕ = found_reading s c whole g r i in
          sym (
          ap (λ v. reading_word ((found_masks s c answer whole).own g r) ((found_masks s c answer whole).pair g r) ms i v) (found_at s c whole g r i present)
          ∙ reading_word-moved nobody s m0 d whole g r i (y + d g r i) y (fits.places g r i present)
          (wanted_cancel s c answer whole g r (fits.differences g r (survivors s g r whole)) (most g r)) refl (λ inside. absurd (false≢true inside))
          ∙ found_word (c.reading g r i) y (m0.own g r i) (sum_by (share (λ _ _. 0) i) ms) (sum_share-none i ms)
          ∙ mod-eq_of_lt (fits.readings g r i));
      answers = λ g r i sent.
          fits.answers_are g r i (missing s g r whole)
          ∙ sym (
          answer_word-moved nobody s m0 d whole g r i sent
          ∙ word-add_same (m0.own g r i) (sum_by (share (λ _ _. 0) i) (missing s g r whole)) 0 (sum_share-none i (missing s g r whole))
          ∙ ap word (add-zero (m0.own g r i)) ∙ ap (λ q. word (cond q (answer g r i) 0)) sent ∙ mod-eq_of_lt (fits.answers g r i));
      totals = λ g r opened.
          let t : ℕ → Bool = λ k. is_reading_taken s g r k whole in
          let m : ℕ → Bool = is_member s.groups g r in
          let n : ℕ = size_or (slice_get s.groups g) in
          let a : List ℕ = survivors s g r whole in
          let total : ℕ = c.total g r a in
          let le : total ≤ cap * length a = most g r opened in
          sym (
          sum_by-filter_same t (λ k. is_answer_sent s g r k whole) (reading_at (found s c whole) g r) (found_reading s c whole g r)
          (λ i taken _. found_at s c whole g r i (present-from_taken s g r i whole taken)) (members s.groups g r) (and_last (is_announced s g r whole) (all_answered s g r whole) opened)
          ∙ ap (λ q. sum_by (λ i. if q then dealt (λ k. m k && t k) total i else 0) a) opened
          ∙ sum_dealt-members t m total n ∙ omega arith);
    }

found_present : (s : Shape) (c : Contents) (whole : List Event) (g r i : ℕ) → is_some (found s c whole g r i) ≡ s.present g r i
found_present s c whole g r i = by_case (s.present g r i)
  where
    by_case : (q : Bool) → is_some (cond q (Some (found_reading s c whole g r i)) None) ≡ q
    by_case true = refl
    by_case false = refl

found_reading_le : (s : Shape) (c : Contents) (whole : List Event) (g r i : ℕ) → found_reading s c whole g r i < 2 ^ 40
found_reading_le s c whole g r i =
    cond_both (is_opened s g r whole) (dealt (λ k. is_member s.groups g r k && is_reading_taken s g r k whole) (c.total g r (survivors s g r whole)) i) 0 (λ v. v < 2 ^ 40)
    (λ _. let le = dealt_le (λ k. is_member s.groups g r k && is_reading_taken s g r k whole) (c.total g r (survivors s g r whole)) i in omega arith) (λ _. omega arith)

pub explained : (groups : List Group) (ls : List Line) → HasWordsOf64Bits ls → IsPossible groups ls → IsExplained groups ls
explained groups ls words possible =
    let s : Shape = shape_of_lines groups ls in
    let c : Contents = contents_of_lines ls in
    let events : List Event = map event_of ls in
    let answer : ℕ → ℕ → ℕ → ℕ = λ g r i. first_word g r i Answer ls in
    let x : Readings = found s c (reverse events) in
    let m : Masks = found_masks s c answer (reverse events) in
    let same : shape_of_readings groups x ≡ s = λ k. record { groups = groups; present = fun_ext (λ g. fun_ext (λ r. fun_ext (λ i. found_present s c (reverse events) g r i))) k } in
    let alike : Alike s c (contents_of_tables groups x m) (after [] events)
    = rw (after-reverse events) (explained_alike s c answer (reverse events)
    (record {
      places = λ g r i present. and_first (is_member groups g r i) (is_some (first_frame g r i ls)) present;
      readings = λ g r i. words g r i Reading;
      answers = λ g r i. words g r i Answer;
      answers_are = λ g r i set. refl;
      differences = λ g r set. refl;
    }) possible.totals) in (
      x,
      m,
      (λ g r i present. and_first (is_member groups g r i) (is_some (first_frame g r i ls)) (sym (found_present s c (reverse events) g r i) ∙ present)),
      (λ g r i. cond_both (s.present g r i) (Some (found_reading s c (reverse events) g r i)) None (λ o. unwrap_or o 0 < 2 ^ 40) (λ _. found_reading_le s c (reverse events) g r i) (λ _. omega arith)),
      record { own = λ g r i. mod-lt _ (omega arith); pair = λ g r i j. mod-lt _ (omega arith) },
      ap (λ z. lines_after z (contents_of_tables groups x m) [] events) same ∙ sym (lines_after-same s c (contents_of_tables groups x m) [] events alike) ∙ possible.lines,
    )
