-- The lines of entries beside those that a table of readings gives.
use Rattle.std.proofs.Common.{◌≡◌, ℕ, zero, suc, ◌+◌, ◌-◌, ◌^◌, ◌<◌, Bool, true, false, not, List, [], ◌∷◌, length, get_or, map, take, refl, sym, ap, ◌∙◌, subst, arith}
use Rattle.std.specs.Prelude.{if◌then◌else◌, min, slice_get, Option, Some, None, IfSome}
use Rattle.std.specs.List.{AllZip, range_with_len}
use Rattle.std.specs.Option.{option_map}
use Rattle.std.proofs.lemmas.List.{length-map}
use Rattle.rayon.specs.Lists.{first_true}
use Rattle.group_plan.specs.declared.Kind.{Kind}
use Rattle.group_plan.specs.declared.Kind.TheVariants.{Reading, Announcement, Answer}
use Rattle.group_plan.specs.declared.Tag.{Tag}
use Rattle.group_plan.specs.Tables.{ReadingsView}
use Rattle.meter_frames.specs.Frames.{FitsKind}
use Rattle.event_schedule.specs.declared.Entry.{Entry}
use Rattle.event_schedule.specs.declared.Event.{Event}
use Rattle.event_schedule.specs.declared.Event.TheVariants.{Send, Take, Close, End}
use Rattle.event_schedule.specs.declared.Line.{Line}
use Rattle.event_schedule.specs.declared.Line.TheVariants.{Send as SendLine}
use Rattle.event_schedule.specs.Events.{event_of, lines_of, events_of}
use Rattle.event_schedule.specs.Schedule.{Shape, may_send}
use Rattle.event_schedule.specs.Tables.{Masks}
use Rattle.event_schedule.specs.Transcript.{Contents, set_sent, word_sent, frame, line, lines_after}
use Rattle.event_schedule.proofs.EventLemmas.{events-lines}
use Rattle.event_schedule.specs.Transcripts.{TranscriptView}
use Rattle.transcript_text.specs.Writing.{IsWritable}
use Rattle.twin_worlds.specs.Comparing.{Decides, IsOther, DifferAt}
use Rattle.twin_worlds.specs.Twins.{lines_under, IsFirstOther}

-- ---- how many there are

pub lines-long : (x : ReadingsView) (m : Masks) (t : TranscriptView) → length (lines_under x m t) ≡ length t.entries
lines-long x m t = sym (length-map (lines_under x m t) event_of) ∙ ap length (events-lines _ _ [] (events_of t.entries)) ∙ length-map t.entries (λ e. event_of e.line)

-- ---- each can be written

frame-writable : (s : Shape) (c : Contents) (tag : Tag) (p : List Event) → IsWritable (SendLine tag (frame s c tag p))
frame-writable s c tag p = step (may_send s tag.kind tag.group tag.round tag.meter p)
  where
    fits : (k : Kind) (g r i : ℕ) → FitsKind k (set_sent s k g r p) (word_sent s c k g r i p)
    fits Reading g r i = refl
    fits Announcement g r i = refl
    fits Answer g r i = tt

    step : (b : Bool) → IsWritable (SendLine tag (if b then Some (record { tag = tag; missing = set_sent s tag.kind tag.group tag.round p; word = word_sent s c tag.kind tag.group tag.round tag.meter p }) else None))
    step true = (refl, fits tag.kind tag.group tag.round tag.meter)
    step false = tt

line-writable : (s : Shape) (c : Contents) (p : List Event) (e : Event) → IsWritable (line s c p e)
line-writable s c p (Send tag) = frame-writable s c tag p
line-writable s c p (Take tag) = tt
line-writable s c p (Close g r) = tt
line-writable s c p (End g r) = tt

each-writable : (s : Shape) (c : Contents) (p events : List Event) (k : ℕ) (l : Line) → slice_get (lines_after s c p events) k ≡ Some l → IsWritable l
unfolding lines_after
each-writable s c p [] k l is = absurd (cc is)
each-writable s c p (e ∷ events) zero l is = let one : line s c p e ≡ l = cc is in subst IsWritable one (line-writable s c p e)
each-writable s c p (e ∷ events) (suc k) l is = each-writable s c (e ∷ p) events k l is

-- ---- the first that is another

pub found-at : {X : Type 0} (xs : List X) (k : ℕ) (d : X) → k < length xs → d ≡ get_or xs k d → slice_get xs k ≡ Some d
found-at [] k d lt is = absurd (omega (arith, lt))
found-at (x ∷ xs) zero d lt is = ap Some (sym is)
found-at (x ∷ xs) (suc k) d lt is = found-at xs k d (omega (arith, lt)) is

pub get-map : {X Y : Type 0} (f : X → Y) (xs : List X) (k : ℕ) (x : X) → slice_get xs k ≡ Some x → slice_get (map f xs) k ≡ Some (f x)
get-map f [] k x is = absurd (cc is)
get-map f (y ∷ xs) zero x is = let one : y ≡ x = cc is in ap (λ z. Some (f z)) one
get-map f (y ∷ xs) (suc k) x is = get-map f xs k x is

pub within-entries : (x : ReadingsView) (m : Masks) (t : TranscriptView) (k : ℕ) → DifferAt (lines_of t.entries) (lines_under x m t) (Some k) → k < length t.entries
within-entries x m t k differ = subst (λ n. k < n) (length-map t.entries (λ e. e.line)) differ.0

-- and its place is a small number
pub differ-few : (x : ReadingsView) (m : Masks) (t : TranscriptView) (o : Option ℕ) → length t.entries < 2 ^ 63 → DifferAt (lines_of t.entries) (lines_under x m t) o → IfSome o (λ k. k < 2 ^ 63)
differ-few x m t None few differ = tt
differ-few x m t (Some k) few differ = let within = within-entries x m t k differ in omega (arith, within, few)

-- the book whose lines are filled has as many
pub within-journal : (x : ReadingsView) (m : Masks) (t : TranscriptView) (f : Line → Line) (journal : List Line) (k : ℕ) → map f journal ≡ lines_under x m t → k < length t.entries → k < length journal
within-journal x m t f journal k are within = subst (λ n. k < n) (sym (lines-long x m t) ∙ ap length (sym are) ∙ length-map journal f) within

pub first-other : (x : ReadingsView) (m : Masks) (t : TranscriptView) (k : ℕ) (e : Entry) (l : Line) → DifferAt (lines_of t.entries) (lines_under x m t) (Some k)
    → e ≡ get_or t.entries k e → slice_get (lines_under x m t) k ≡ Some l → IsFirstOther m x t k l e.line e.tick e.fate
first-other x m t k e l differ here due =
    let entry : slice_get t.entries k ≡ Some e = found-at t.entries k e (within-entries x m t k differ) here in
    let found : slice_get (lines_of t.entries) k ≡ Some e.line = get-map (λ (z : Entry). z.line) t.entries k e entry in
    record {
      entry = entry;
      before = differ.1;
      expected_is = due;
      other = λ same. differ.2 (found ∙ ap Some (sym same) ∙ sym due);
      writable = each-writable _ _ [] (events_of t.entries) k l due;
    }

-- ---- the entries, compared one by one

-- an entry's line, beside the one that is due
pub is-other : (x : ReadingsView) (m : Masks) (t : TranscriptView) (k : ℕ) (e : Entry) (l : Line) (b : Bool) → k < length t.entries → e ≡ get_or t.entries k e → slice_get (lines_under x m t) k ≡ Some l
    → Decides (e.line ≡ l) b → IsOther (lines_of t.entries) (lines_under x m t) k (not b)
is-other x m t k e l b within here due decided = step b decided
  where
    found : slice_get (lines_of t.entries) k ≡ Some e.line
    found = get-map (λ (z : Entry). z.line) t.entries k e (found-at t.entries k e within here)

    step : (b : Bool) → Decides (e.line ≡ l) b → IsOther (lines_of t.entries) (lines_under x m t) k (not b)
    step true same = found ∙ ap Some same ∙ sym due
    step false other = λ same. let both : Some e.line ≡ Some l = sym found ∙ same ∙ due in other (cc both)

other-later : (x y : Line) (xs ys : List Line) (k : ℕ) (b : Bool) → IsOther (x ∷ xs) (y ∷ ys) (suc k) b → IsOther xs ys k b
other-later x y xs ys k true other = other
other-later x y xs ys k false same = same

-- the first place at which two lists differ, from what is answered at each place
pub first-differ : (xs ys : List Line) (a : ℕ) (R : ℕ → Bool → Type 0) → ((k : ℕ) (b : Bool) → R (a + k) b → IsOther xs ys k b) → length ys ≡ length xs → length xs < 2 ^ 63
    → (bs : List Bool) → AllZip R (range_with_len a (length xs)) bs → DifferAt xs ys (first_true bs)
first-differ [] [] a R each long few [] all = refl
first-differ [] [] a R each long few (b ∷ bs) all = absurd all
first-differ [] (y ∷ ys) a R each long few bs all = absurd (omega arith)
first-differ (x ∷ xs) [] a R each long few bs all = absurd (omega arith)
first-differ (x ∷ xs) (y ∷ ys) a R each long few [] all = absurd all
first-differ (x ∷ xs) (y ∷ ys) a R each long few (true ∷ bs) all =
    let start : a ≡ a + 0 = omega arith in
    (omega arith, refl, each 0 true (subst (λ k. R k true) start all.0))
first-differ (x ∷ xs) (y ∷ ys) a R each long few (false ∷ bs) all =
    let start : a ≡ a + 0 = omega arith in
    let heads : Some x ≡ Some y = each 0 false (subst (λ k. R k false) start all.0) in
    let next : (k : ℕ) → a + 1 + k ≡ a + suc k = λ k. omega arith in
    later (cc heads) (first_true bs)
    (first-differ xs ys (a + 1) R (λ k b is. other-later x y xs ys k b (each (suc k) b (subst (λ j. R j b) (next k) is))) (omega (arith, long)) (omega (arith, few)) bs all.1)
  where
    later : x ≡ y → (o : Option ℕ) → DifferAt xs ys o → DifferAt (x ∷ xs) (y ∷ ys) (option_map (λ k. min (k + 1) (2 ^ 64 - 1)) o)
    later head None same = ap (λ z. z ∷ xs) head ∙ ap (λ zs. y ∷ zs) same
    later head (Some k) differ =
        let below : k < length xs = differ.0 in
        let next : suc k ≡ min (k + 1) (2 ^ 64 - 1) = omega (arith, below, few) in
        let after : DifferAt (x ∷ xs) (y ∷ ys) (Some (suc k)) = (omega (arith, below), ap (λ z. z ∷ take k xs) head ∙ ap (λ zs. y ∷ zs) differ.1, differ.2) in
        subst (λ j. DifferAt (x ∷ xs) (y ∷ ys) (Some j)) next after
