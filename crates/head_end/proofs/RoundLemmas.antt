-- One round: what it is now, and what one more line makes of it.
use Rattle.std.proofs.Common.{◌≡◌, ℕ, ◌+◌, ◌<◌, Bool, true, false, ◌&&◌, ◌||◌, List, [], ◌∷◌, ◌++◌, refl, sym, ap, ◌∙◌, subst, arith}
use Rattle.std.specs.Prelude.{◌==◌, nat_lt, if◌then◌else◌, filter, sum_by}
use mathlib.Core.Path.{fun_ext}
use Rattle.std.proofs.Math.Bool.{and-true, and-false}
use Rattle.std.proofs.lemmas.Bool.{false≢true, or_left, or_right, and_parts, eq-eqb, eqb-true, ltb-true, lt-ltb}
use Rattle.std.proofs.lemmas.List.Sums.{sum_by-cons}
use Rattle.missing_round.specs.Words.{word}
use Rattle.missing_round.specs.Sets.{IsSet, is_member, joined}
use Rattle.missing_round.proofs.SetLemmas.{is_member-filter, joined-filter, sum_by-joined}
use Rattle.missing_round.proofs.WordLemmas.{word-word_add}
use Rattle.group_plan.specs.declared.Kind.{Kind}
use Rattle.group_plan.specs.declared.Kind.TheVariants.{Reading, Answer}
use Rattle.group_plan.specs.Plans.{PlanView, members}
use Rattle.meter_frames.specs.declared.Frame.{Frame}
use Rattle.round_machine.specs.declared.Closing.{Closing}
use Rattle.round_machine.specs.declared.Closing.TheVariants as closings
use Rattle.round_machine.specs.declared.Ending.{Ending}
use Rattle.round_machine.specs.declared.Ending.TheVariants as endings
use Rattle.round_machine.specs.Rounds.{RoundView, has_floor, Closes, Ends, with_reading, with_answer}
use Rattle.event_schedule.specs.Events.{same_kind}
use Rattle.group_book.proofs.Tags.{is_tag-in_round}
use Rattle.head_end.specs.declared.answers.Logged.{Logged}
use Rattle.head_end.specs.declared.answers.Logged.TheVariants.{Took}
use Rattle.head_end.specs.Journal.{passed, is_closed, is_ended, is_frame, is_taken, word_taken}
use Rattle.head_end.specs.Kept.{closed_where, ended_where}
use Rattle.head_end.specs.Head.{IsOf, IsNow, IsKept}
use Rattle.head_end.proofs.JournalLemmas.{is_taken-more, is_taken-same, word_taken-stays, word_taken-first, word_taken-same}

-- ---- the calls on a round

pub closes : (s t : RoundView) (c : Closing) → Closes s c t → t ≡ closed_where true s
closes s t closings.Already h = h.1 ∙ ap (λ b. record s { closed = b }) h.0
closes s t (closings.Thin set) h = h.3
closes s t (closings.Announced set) h = h.3

pub ends : (s t : RoundView) (e : Ending) → Ends s e t → t ≡ ended_where true s
ends s t endings.NotClosed h = h.1 ∙ ap (λ b. record s { ended = b || s.ended }) (sym h.0)
ends s t endings.Already h = h.2 ∙ ap (λ b. record s { ended = b }) (h.1 ∙ sym (ap (λ b. b || s.ended) h.0))
ends s t endings.Thin h = h.3 ∙ ap (λ b. record s { ended = b }) (sym (ap (λ b. b || s.ended) h.0))
ends s t (endings.Lacking set) h = h.4 ∙ ap (λ b. record s { ended = b }) (sym (ap (λ b. b || s.ended) (and_parts s.closed (has_floor s) h.0).0))
ends s t (endings.Total sum) h = h.4 ∙ ap (λ b. record s { ended = b }) (sym (ap (λ b. b || s.ended) (and_parts s.closed (has_floor s) h.0).0))

-- ---- what a kept round is now

closed_members : (b : Bool) (s : RoundView) → (closed_where b s).members ≡ s.members
closed_members true s = refl
closed_members false s = refl

ended_members : (b : Bool) (s : RoundView) → (ended_where b s).members ≡ s.members
ended_members true s = refl
ended_members false s = refl

pub now_members : (c e : Bool) (s : RoundView) → (ended_where e (closed_where c s)).members ≡ s.members
now_members c e s = ended_members e (closed_where c s) ∙ closed_members c s

pub of_closed : (plan : PlanView) (j : List Logged) (g r : ℕ) (b : Bool) (s : RoundView) → IsOf plan j g r s → IsOf plan j g r (closed_where b s)
of_closed plan j g r true s is = record {
  members_are = is.members_are;
  floor = is.floor;
  taken = is.taken;
  answered = is.answered;
  readings = is.readings;
  answers = is.answers;
  asked = is.asked;
}
of_closed plan j g r false s is = is

of_ended : (plan : PlanView) (j : List Logged) (g r : ℕ) (b : Bool) (s : RoundView) → IsOf plan j g r s → IsOf plan j g r (ended_where b s)
of_ended plan j g r true s is = record {
  members_are = is.members_are;
  floor = is.floor;
  taken = is.taken;
  answered = is.answered;
  readings = is.readings;
  answers = is.answers;
  asked = is.asked;
}
of_ended plan j g r false s is = is

-- a round that has ended is closed
pub closed_before_end : (a b c t : ℕ) → nat_lt (a + b + c) t ≡ true → nat_lt (a + b) t ≡ true
closed_before_end a b c t h = let lt : a + b + c < t = ltb-true (a + b + c) t h in lt-ltb (a + b) t (omega arith)

now_closed : (c e : Bool) (s : RoundView) → (s.closed ≡ true → c ≡ true) → (ended_where e (closed_where c s)).closed ≡ c
now_closed true true s up = refl
now_closed true false s up = refl
now_closed false true s up = by_closed s.closed refl
  where
    by_closed : (b : Bool) → s.closed ≡ b → s.closed ≡ false
    by_closed true is = absurd (false≢true (up is))
    by_closed false is = is
now_closed false false s up = by_closed s.closed refl
  where
    by_closed : (b : Bool) → s.closed ≡ b → s.closed ≡ false
    by_closed true is = absurd (false≢true (up is))
    by_closed false is = is

-- a round that is closed where it is to be
pub unclosed_by : (c : Bool) (s : RoundView) → (s.closed ≡ true → c ≡ true) → (closed_where c s).closed ≡ c
unclosed_by true s up = refl
unclosed_by false s up = by_closed s.closed refl
  where
    by_closed : (b : Bool) → s.closed ≡ b → s.closed ≡ false
    by_closed true is = absurd (false≢true (up is))
    by_closed false is = is

now_ended : (c e : Bool) (s : RoundView) → (e ≡ true → c ≡ true) → s.ended ≡ false → (ended_where e (closed_where c s)).ended ≡ e
now_ended true true s down unended = refl
now_ended false true s down unended = absurd (false≢true (down refl))
now_ended true false s down unended = unended
now_ended false false s down unended = unended

pub kept_now : (plan : PlanView) (j : List Logged) (g r : ℕ) (s : RoundView) → IsKept plan j g r s
    → IsNow plan j g r (ended_where (is_ended plan j r) (closed_where (is_closed plan j r) s))
kept_now plan j g r s is = record {
  of = of_ended plan j g r (is_ended plan j r) (closed_where (is_closed plan j r) s) (of_closed plan j g r (is_closed plan j r) s is.of);
  closed = now_closed (is_closed plan j r) (is_ended plan j r) s is.closed;
  ended = now_ended (is_closed plan j r) (is_ended plan j r) s (closed_before_end r plan.w1 plan.w2 (passed j)) is.running;
}

-- ---- a line that is no frame of the round

pub of_other : (plan : PlanView) (j : List Logged) (g r : ℕ) (s : RoundView) (l : Logged) → ((k : Kind) (i : ℕ) → is_frame g r k i l ≡ false) → IsOf plan j g r s → IsOf plan (j ++ l ∷ []) g r s
of_other plan j g r s l other is =
    let ms = members plan.groups g r in
    record {
      members_are = is.members_are;
      floor = is.floor;
      taken = is.taken ∙ ap (λ p. filter p ms) (sym (is_taken-same g r Reading j l (other Reading)));
      answered = is.answered ∙ ap (λ p. filter p ms) (sym (is_taken-same g r Answer j l (other Answer)));
      readings = is.readings ∙ ap (λ w. word (sum_by w s.taken)) (sym (word_taken-same g r Reading j l (other Reading)));
      answers = is.answers ∙ ap (λ w. word (sum_by w s.answered)) (sym (word_taken-same g r Answer j l (other Answer)));
      asked = λ i m a.
          ap (λ p. p i) (is_taken-same g r Reading j l (other Reading)) ∙ is.asked i m (sym (ap (λ p. p i) (is_taken-same g r Answer j l (other Answer))) ∙ a);
    }

-- ---- a frame of the round

pub sum_by-members : (f h : ℕ → ℕ) (xs : List ℕ) → ((i : ℕ) → is_member i xs ≡ true → f i ≡ h i) → sum_by f xs ≡ sum_by h xs
sum_by-members f h [] same = refl
sum_by-members f h (x ∷ xs) same =
    sum_by-cons f x xs
    ∙ ap (λ n. n + sum_by f xs) (same x (or_left (x == x) (is_member x xs) (eq-eqb x x refl)))
    ∙ ap (λ n. h x + n) (sum_by-members f h xs (λ i m. same i (or_right (x == i) (is_member i xs) m)))
    ∙ sym (sum_by-cons h x xs)

-- one more meter was taken, with its word
sum_joined : (f h : ℕ → ℕ) (i w sum : ℕ) (xs : List ℕ) → is_member i xs ≡ false → h i ≡ w → ((n : ℕ) → is_member n xs ≡ true → h n ≡ f n) → sum ≡ word (sum_by f xs)
    → word (sum + w) ≡ word (sum_by h (joined i xs))
sum_joined f h i w sum xs new here others is =
    let swapped : sum_by f xs + w ≡ w + sum_by f xs = omega arith in
    ap (λ n. word (n + w)) is ∙ word-word_add (sum_by f xs) w ∙ ap word swapped
    ∙ ap (λ n. word (w + n)) (sym (sum_by-members h f xs others)) ∙ ap (λ n. word (n + sum_by h xs)) (sym here)
    ∙ ap word (sym (sum_by-joined i xs h new))

-- who is among the meters that were taken
pub taken_who : (p : ℕ → Bool) (i : ℕ) (ms xs : List ℕ) → xs ≡ filter p ms → is_member i ms ≡ true → is_member i xs ≡ p i
taken_who p i ms xs is m = ap (is_member i) is ∙ is_member-filter p i ms ∙ ap (λ b. b && p i) m

taken_only : (p : ℕ → Bool) (i : ℕ) (ms xs : List ℕ) → xs ≡ filter p ms → is_member i xs ≡ true → p i ≡ true
taken_only p i ms xs is m = (and_parts (is_member i ms) (p i) (sym (is_member-filter p i ms) ∙ sym (ap (is_member i) is) ∙ m)).1

-- the frame of a tag is that of its meter and kind
marks : (f : Frame) (j : List Logged) (k : Kind) (i : ℕ)
    → is_taken f.tag.group f.tag.round k (j ++ Took f ∷ []) i ≡ (is_taken f.tag.group f.tag.round k j i || ((f.tag.meter == i) && same_kind f.tag.kind k))
marks f j k i = is_taken-more f.tag.group f.tag.round k j (Took f) i ∙ ap (λ b. is_taken f.tag.group f.tag.round k j i || b) (is_tag-in_round f.tag i k)

or_swap : (a b : Bool) → (a || b) ≡ (b || a)
or_swap true true = refl
or_swap true false = refl
or_swap false true = refl
or_swap false false = refl

-- a meter more of the frame's kind
taken_more : (f : Frame) (j : List Logged) (k : Kind) (ms xs : List ℕ) → same_kind f.tag.kind k ≡ true → IsSet ms → is_member f.tag.meter ms ≡ true
    → xs ≡ filter (is_taken f.tag.group f.tag.round k j) ms → joined f.tag.meter xs ≡ filter (is_taken f.tag.group f.tag.round k (j ++ Took f ∷ [])) ms
taken_more f j k ms xs same set m is =
    ap (joined f.tag.meter) is ∙ joined-filter (is_taken f.tag.group f.tag.round k j) f.tag.meter ms set m
    ∙ ap (λ p. filter p ms) (fun_ext (λ i.
    or_swap (f.tag.meter == i) (is_taken f.tag.group f.tag.round k j i)
    ∙ ap (λ b. is_taken f.tag.group f.tag.round k j i || b) (sym (and-true (f.tag.meter == i)) ∙ ap (λ b. (f.tag.meter == i) && b) (sym same))
    ∙ sym (marks f j k i)))

no_frame : (f : Frame) (k : Kind) → same_kind f.tag.kind k ≡ false → (i : ℕ) → is_frame f.tag.group f.tag.round k i (Took f) ≡ false
no_frame f k other i = is_tag-in_round f.tag i k ∙ ap (λ b. (f.tag.meter == i) && b) other ∙ and-false (f.tag.meter == i)

-- the word of the frame's place
pub word_here : (f : Frame) (j : List Logged) (k : Kind) → same_kind f.tag.kind k ≡ true → is_taken f.tag.group f.tag.round k j f.tag.meter ≡ false
    → word_taken f.tag.group f.tag.round k (j ++ Took f ∷ []) f.tag.meter ≡ f.word
word_here f j k same none =
    word_taken-first f.tag.group f.tag.round k j (Took f) f.tag.meter none
    ∙ ap (λ b. if b then f.word else 0) (is_tag-in_round f.tag f.tag.meter k ∙ ap (λ b. b && same_kind f.tag.kind k) (eq-eqb f.tag.meter f.tag.meter refl) ∙ same)

pub of_reading : (plan : PlanView) (j : List Logged) (f : Frame) (s : RoundView) → f.tag.kind ≡ Reading → IsSet (members plan.groups f.tag.group f.tag.round)
    → is_member f.tag.meter (members plan.groups f.tag.group f.tag.round) ≡ true → is_member f.tag.meter s.taken ≡ false → IsOf plan j f.tag.group f.tag.round s
    → IsOf plan (j ++ Took f ∷ []) f.tag.group f.tag.round (with_reading s f.tag.meter f.word)
of_reading plan j f s kind set m new is =
    let g = f.tag.group in
    let r = f.tag.round in
    let ms = members plan.groups g r in
    let same : same_kind f.tag.kind Reading ≡ true = ap (λ k. same_kind k Reading) kind in
    let other : same_kind f.tag.kind Answer ≡ false = ap (λ k. same_kind k Answer) kind in
    let untaken : is_taken g r Reading j f.tag.meter ≡ false = sym (taken_who (is_taken g r Reading j) f.tag.meter ms s.taken is.taken m) ∙ new in
    record {
      members_are = is.members_are;
      floor = is.floor;
      taken = taken_more f j Reading ms s.taken same set m is.taken;
      answered = is.answered ∙ ap (λ p. filter p ms) (sym (is_taken-same g r Answer j (Took f) (no_frame f Answer other)));
      readings = sum_joined (word_taken g r Reading j) (word_taken g r Reading (j ++ Took f ∷ [])) f.tag.meter f.word s.reading_sum s.taken new
          (word_here f j Reading same untaken)
          (λ n t. word_taken-stays g r Reading j (Took f) n (taken_only (is_taken g r Reading j) n ms s.taken is.taken t)) is.readings;
      answers = is.answers ∙ ap (λ w. word (sum_by w s.answered)) (sym (word_taken-same g r Answer j (Took f) (no_frame f Answer other)));
      asked = λ i i_is a.
          is_taken-more g r Reading j (Took f) i
          ∙ ap (λ b. b || is_frame g r Reading i (Took f)) (is.asked i i_is (sym (ap (λ p. p i) (is_taken-same g r Answer j (Took f) (no_frame f Answer other))) ∙ a));
    }

-- whoever has answered is a survivor, where the one more is
still_asked : (p q : ℕ → Bool) (here i : ℕ) (b : Bool) → (q i ≡ true → p i ≡ true) → p here ≡ true → (q i || ((here == i) && b)) ≡ true → p i ≡ true
still_asked p q here i b before now h = by_before (q i) refl
  where
    by_before : (c : Bool) → q i ≡ c → p i ≡ true
    by_before true is = before is
    by_before false is =
        let this : ((here == i) && b) ≡ true = sym (ap (λ c. c || ((here == i) && b)) is) ∙ h in
        subst (λ n. p n ≡ true) (eqb-true here i (and_parts (here == i) b this).0) now

pub of_answer : (plan : PlanView) (j : List Logged) (f : Frame) (s : RoundView) → f.tag.kind ≡ Answer → IsSet (members plan.groups f.tag.group f.tag.round)
    → is_member f.tag.meter (members plan.groups f.tag.group f.tag.round) ≡ true → is_member f.tag.meter s.answered ≡ false → is_member f.tag.meter s.taken ≡ true
    → IsOf plan j f.tag.group f.tag.round s
    → IsOf plan (j ++ Took f ∷ []) f.tag.group f.tag.round (with_answer s f.tag.meter f.word)
of_answer plan j f s kind set m new asked is =
    let g = f.tag.group in
    let r = f.tag.round in
    let ms = members plan.groups g r in
    let same : same_kind f.tag.kind Answer ≡ true = ap (λ k. same_kind k Answer) kind in
    let other : same_kind f.tag.kind Reading ≡ false = ap (λ k. same_kind k Reading) kind in
    let untaken : is_taken g r Answer j f.tag.meter ≡ false = sym (taken_who (is_taken g r Answer j) f.tag.meter ms s.answered is.answered m) ∙ new in
    record {
      members_are = is.members_are;
      floor = is.floor;
      taken = is.taken ∙ ap (λ p. filter p ms) (sym (is_taken-same g r Reading j (Took f) (no_frame f Reading other)));
      answered = taken_more f j Answer ms s.answered same set m is.answered;
      readings = is.readings ∙ ap (λ w. word (sum_by w s.taken)) (sym (word_taken-same g r Reading j (Took f) (no_frame f Reading other)));
      answers = sum_joined (word_taken g r Answer j) (word_taken g r Answer (j ++ Took f ∷ [])) f.tag.meter f.word s.answer_sum s.answered new
          (word_here f j Answer same untaken)
          (λ n t. word_taken-stays g r Answer j (Took f) n (taken_only (is_taken g r Answer j) n ms s.answered is.answered t)) is.answers;
      asked = λ i i_is a.
          ap (λ p. p i) (is_taken-same g r Reading j (Took f) (no_frame f Reading other))
          ∙ still_asked (is_taken g r Reading j) (is_taken g r Answer j) f.tag.meter i (same_kind f.tag.kind Answer) (is.asked i i_is)
          (taken_only (is_taken g r Reading j) f.tag.meter ms s.taken is.taken asked) (sym (marks f j Answer i) ∙ a);
    }
