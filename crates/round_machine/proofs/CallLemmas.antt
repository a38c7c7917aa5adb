-- What a round keeps, over calls: each Fresh word once.
use Rattle.std.proofs.Common.{◌≡◌, ℕ, ◌+◌, ◌==◌, ◌||◌, Bool, true, false, List, [], ◌∷◌, Option, Some, None, is_some, refl, ap, sym, ◌∙◌, ⊎_elim, arith}
use Rattle.std.specs.Prelude.{if◌then◌else◌}
use Rattle.std.specs.List.{sum_by}
use Rattle.std.proofs.lemmas.Bool.{and_parts, cases_eq, eq-eqb, ne_eqb, false≢true}
use Rattle.std.proofs.lemmas.List.Sums.{sum_by-cons}
use mathlib.Core.Path.{fun_ext}
use Rattle.missing_round.specs.Words.{word, frame_total}
use Rattle.missing_round.specs.Sets.{is_member, joined}
use Rattle.missing_round.proofs.SetLemmas.{is_member-joined, sum_by-joined}
use Rattle.missing_round.proofs.WordLemmas.{sum_by-add}
use Rattle.round_machine.specs.declared.Verdict.TheVariants.{Fresh, Again, Late, Void}
use Rattle.round_machine.specs.declared.Closing.TheVariants as closings
use Rattle.round_machine.specs.declared.Ending.TheVariants as endings
use Rattle.round_machine.specs.Rounds.{RoundView, new_round, is_announced, total}
use Rattle.round_machine.specs.Calls.{Call, TookReading, Closed, TookAnswer, Ended, Step, Run, takes_reading, fresh_reading, takes_answer, fresh_answer, reading_of, answer_of, TotalsAreOfFresh}

-- the word w of meter j, at meter i
abbrev point : ℕ → ℕ → ℕ → ℕ
point j w i = if j == i then w else 0

-- no member stands twice
IsOnce : List ℕ → Type 0
IsOnce xs = (j w : ℕ) → sum_by (point j w) xs ≡ (if is_member j xs then w else 0)

IsOnce-joined : (i : ℕ) (xs : List ℕ) → is_member i xs ≡ false → IsOnce xs → IsOnce (joined i xs)
unfolding IsOnce
IsOnce-joined i xs new once j w =
    sum_by-joined i xs (point j w) new ∙ ⊎_elim
    (λ same.
    let none : is_member j xs ≡ false = ap (λ x. is_member x xs) same ∙ new in
    grind (arith, eq-eqb j i same, eq-eqb i j (sym same), once j w, is_member-joined j i xs, none))
    (λ ne. grind (arith, ne_eqb j i ne, ne_eqb i j (λ e. ne (sym e)), once j w, is_member-joined j i xs))
    (cases_eq j i)

-- ---- one kind of word: its meter and word, where a call takes one Fresh

abbrev took : ℕ → Option (ℕ × ℕ) → Bool
took i None = false
took i (Some p) = p.0 == i

abbrev word_for : ℕ → Option (ℕ × ℕ) → ℕ
word_for i None = 0
word_for i (Some p) = point p.0 p.1 i

abbrev word_in : Option (ℕ × ℕ) → ℕ
word_in None = 0
word_in (Some p) = p.1

-- how a set and a sum grow by what is taken
abbrev Grows : List ℕ → List ℕ → ℕ → ℕ → Option (ℕ × ℕ) → Type 0
Grows xs ys a b None = (ys ≡ xs) × (b ≡ a)
Grows xs ys a b (Some p) = (is_member p.0 xs ≡ false) × (ys ≡ joined p.0 xs) × (b ≡ word (a + p.1))

member-grows : (xs ys : List ℕ) (a b : ℕ) (o : Option (ℕ × ℕ)) (i : ℕ) → Grows xs ys a b o → is_member i xs ≡ true → is_member i ys ≡ true
member-grows xs ys a b None i g m = ap (is_member i) g.0 ∙ m
member-grows xs ys a b (Some p) i g m = ap (is_member i) g.1 ∙ is_member-joined i p.0 xs ∙ ap (λ c. (p.0 == i) || c) m ∙ always (p.0 == i)
  where
    always : (c : Bool) → (c || true) ≡ true
    always true = refl
    always false = refl

-- what is taken is a member from then on
member-taken : (xs ys : List ℕ) (a b : ℕ) (o : Option (ℕ × ℕ)) (p : ℕ × ℕ) → o ≡ Some p → Grows xs ys a b o → is_member p.0 ys ≡ true
member-taken xs ys a b None p is g = absurd (false≢true (ap is_some is))
member-taken xs ys a b (Some q) p is g =
    let same : q ≡ p = some-injective q p is in
    ap (is_member p.0) g.1 ∙ is_member-joined p.0 q.0 xs ∙ ap (λ c. c || is_member p.0 xs) (eq-eqb q.0 p.0 (ap (λ (x : ℕ × ℕ). x.0) same))
  where
    some-injective : (x y : ℕ × ℕ) → Some x ≡ Some y → x ≡ y
    some-injective x y h = cc

once-grows : (xs ys : List ℕ) (a b : ℕ) (o : Option (ℕ × ℕ)) → Grows xs ys a b o → IsOnce xs → IsOnce ys
unfolding IsOnce
once-grows xs ys a b None g once = λ j w. ap (sum_by (point j w)) g.0 ∙ once j w ∙ ap (λ zs. if is_member j zs then w else 0) (sym g.0)
once-grows xs ys a b (Some p) g once = λ j w. ap (sum_by (point j w)) g.1 ∙ IsOnce-joined p.0 xs g.0 once j w ∙ ap (λ zs. if is_member j zs then w else 0) (sym g.1)

word-grows : (xs ys : List ℕ) (a b : ℕ) (o : Option (ℕ × ℕ)) → Grows xs ys a b o → word b ≡ word (a + word_in o)
word-grows xs ys a b None g = omega (arith, g.1)
word-grows xs ys a b (Some p) g = omega (arith, g.2)

abbrev one : Bool → ℕ
one b = if b then 1 else 0

count-grows : (xs ys : List ℕ) (a b : ℕ) (o : Option (ℕ × ℕ)) (i : ℕ) → Grows xs ys a b o → one (took i o) + one (is_member i xs) ≡ one (is_member i ys)
count-grows xs ys a b None i g = omega (arith, ap (λ zs. one (is_member i zs)) g.0)
count-grows xs ys a b (Some p) i g = ⊎_elim
    (λ same.
    let none : is_member i xs ≡ false = ap (λ x. is_member x xs) (sym same) ∙ g.0 in
    let now : is_member i ys ≡ ((p.0 == i) || is_member i xs) = ap (is_member i) g.1 ∙ is_member-joined i p.0 xs in
    grind (arith, eq-eqb p.0 i same, none, now))
    (λ ne.
    let now : is_member i ys ≡ ((p.0 == i) || is_member i xs) = ap (is_member i) g.1 ∙ is_member-joined i p.0 xs in
    grind (arith, ne_eqb p.0 i ne, now))
    (cases_eq p.0 i)

-- ---- the same over calls

-- what calls take is of these meters
Within : (Call → Option (ℕ × ℕ)) → List ℕ → List Call → Type 0
Within get xs [] = Unit {0}
Within get xs (call ∷ rest) = ((p : ℕ × ℕ) → get call ≡ Some p → is_member p.0 xs ≡ true) × Within get xs rest

module _ (get : Call → Option (ℕ × ℕ)) (set : RoundView → List ℕ) (sum : RoundView → ℕ) (grows : (s t : RoundView) (call : Call) → Step s call t → Grows (set s) (set t) (sum s) (sum t) (get call)) where
  member-run : (s t : RoundView) (calls : List Call) (i : ℕ) → Run s calls t → is_member i (set s) ≡ true → is_member i (set t) ≡ true
  unfolding Run
  member-run s t [] i run m = ap (λ x. is_member i (set x)) run ∙ m
  member-run s t (call ∷ rest) i run m = member-run run.0 t rest i run.2 (member-grows (set s) (set run.0) (sum s) (sum run.0) (get call) i (grows s run.0 call run.1) m)

  once-run : (s t : RoundView) (calls : List Call) → Run s calls t → IsOnce (set s) → IsOnce (set t)
  unfolding Run IsOnce
  once-run s t [] run once = λ j w. ap (λ x. sum_by (point j w) (set x)) run ∙ once j w ∙ ap (λ x. if is_member j (set x) then w else 0) (sym run)
  once-run s t (call ∷ rest) run once = once-run run.0 t rest run.2 (once-grows (set s) (set run.0) (sum s) (sum run.0) (get call) (grows s run.0 call run.1) once)

  word-run : (s t : RoundView) (calls : List Call) → Run s calls t → word (sum t) ≡ word (sum s + sum_by (λ call. word_in (get call)) calls)
  unfolding Run
  word-run s t [] run = omega (arith, ap sum run)
  word-run s t (call ∷ rest) run =
      omega (arith, word-run run.0 t rest run.2, word-grows (set s) (set run.0) (sum s) (sum run.0) (get call) (grows s run.0 call run.1), sum_by-cons (λ call. word_in (get call)) call rest)

  count-run : (s t : RoundView) (calls : List Call) (i : ℕ) → Run s calls t → sum_by (λ call. one (took i (get call))) calls + one (is_member i (set s)) ≡ one (is_member i (set t))
  unfolding Run
  count-run s t [] i run = omega (arith, ap (λ x. one (is_member i (set x))) run)
  count-run s t (call ∷ rest) i run =
      omega (arith, count-run run.0 t rest i run.2, count-grows (set s) (set run.0) (sum s) (sum run.0) (get call) i (grows s run.0 call run.1), sum_by-cons (λ call. one (took i (get call))) call rest)

  within-run : (s t : RoundView) (calls : List Call) → Run s calls t → Within get (set t) calls
  unfolding Run Within
  within-run s t [] run = tt
  within-run s t (call ∷ rest) run = (λ p is. member-run run.0 t rest p.0 run.2 (member-taken (set s) (set run.0) (sum s) (sum run.0) (get call) p is (grows s run.0 call run.1)), within-run run.0 t rest run.2)

sum_by-zero : {X : Type 0} (xs : List X) → sum_by (λ _. 0) xs ≡ 0
sum_by-zero [] = refl
sum_by-zero {X} (x ∷ xs) = omega (arith, sum_by-cons (λ (_ : X). 0) x xs, sum_by-zero xs)

sum_by-point : (xs : List ℕ) (o : Option (ℕ × ℕ)) → IsOnce xs → ((p : ℕ × ℕ) → o ≡ Some p → is_member p.0 xs ≡ true) → sum_by (λ i. word_for i o) xs ≡ word_in o
unfolding IsOnce
sum_by-point xs None once within = sum_by-zero xs
sum_by-point xs (Some p) once within = once p.0 p.1 ∙ ap (λ b. if b then p.1 else 0) (within p refl)

-- the words that calls take are, meter by meter, the sums over the meters
sum_by-within : (get : Call → Option (ℕ × ℕ)) (xs : List ℕ) (calls : List Call) → IsOnce xs → Within get xs calls
    → sum_by (λ i. sum_by (λ call. word_for i (get call)) calls) xs ≡ sum_by (λ call. word_in (get call)) calls
unfolding IsOnce Within
sum_by-within get xs [] once within = sum_by-zero xs
sum_by-within get xs (call ∷ rest) once within =
    ap (λ f. sum_by f xs) (fun_ext (λ i. sum_by-cons (λ call. word_for i (get call)) call rest))
    ∙ sum_by-add (λ i. word_for i (get call)) (λ i. sum_by (λ call. word_for i (get call)) rest) xs
    ∙ omega (arith, sum_by-point xs (get call) once within.0, sum_by-within get xs rest once within.1, sum_by-cons (λ call. word_in (get call)) call rest)

-- ---- readings, and answers

abbrev reading_in : Call → Option (ℕ × ℕ)
reading_in (TookReading i w Fresh) = Some (i, w)
reading_in call = None

abbrev answer_in : Call → Option (ℕ × ℕ)
answer_in (TookAnswer i w Fresh) = Some (i, w)
answer_in call = None

-- a call that takes no such word
abbrev KeepsReadings : RoundView → RoundView → Type 0
KeepsReadings s t = (t.taken ≡ s.taken) × (t.reading_sum ≡ s.reading_sum)

abbrev KeepsAnswers : RoundView → RoundView → Type 0
KeepsAnswers s t = (t.answered ≡ s.answered) × (t.answer_sum ≡ s.answer_sum)

readings-same : (s t u : RoundView) → KeepsReadings s u → t ≡ u → KeepsReadings s t
readings-same s t u h e = (ap (λ (x : RoundView). x.taken) e ∙ h.0, ap (λ (x : RoundView). x.reading_sum) e ∙ h.1)

answers-same : (s t u : RoundView) → KeepsAnswers s u → t ≡ u → KeepsAnswers s t
answers-same s t u h e = (ap (λ (x : RoundView). x.answered) e ∙ h.0, ap (λ (x : RoundView). x.answer_sum) e ∙ h.1)

reading-grows : (s t : RoundView) (call : Call) → Step s call t → Grows s.taken t.taken s.reading_sum t.reading_sum (reading_in call)
reading-grows s t (TookReading i w Fresh) h = (h.0, ap (λ (x : RoundView). x.taken) h.2, ap (λ (x : RoundView). x.reading_sum) h.2)
reading-grows s t (TookReading i w Again) h = readings-same s t s (refl, refl) h.1
reading-grows s t (TookReading i w Late) h = readings-same s t s (refl, refl) h.2
reading-grows s t (TookReading i w Void) h = absurd h
reading-grows s t (Closed closings.Already) h = readings-same s t s (refl, refl) h.1
reading-grows s t (Closed (closings.Thin set)) h = readings-same s t _ (refl, refl) h.3
reading-grows s t (Closed (closings.Announced set)) h = readings-same s t _ (refl, refl) h.3
reading-grows s t (TookAnswer i w Fresh) h = readings-same s t _ (refl, refl) h.3
reading-grows s t (TookAnswer i w Again) h = readings-same s t s (refl, refl) h.2
reading-grows s t (TookAnswer i w Late) h = readings-same s t s (refl, refl) h.3
reading-grows s t (TookAnswer i w Void) h = readings-same s t s (refl, refl) h.1
reading-grows s t (Ended endings.NotClosed) h = readings-same s t s (refl, refl) h.1
reading-grows s t (Ended endings.Already) h = readings-same s t s (refl, refl) h.2
reading-grows s t (Ended endings.Thin) h = readings-same s t _ (refl, refl) h.3
reading-grows s t (Ended (endings.Lacking set)) h = readings-same s t _ (refl, refl) h.4
reading-grows s t (Ended (endings.Total sum)) h = readings-same s t _ (refl, refl) h.4

answer-grows : (s t : RoundView) (call : Call) → Step s call t → Grows s.answered t.answered s.answer_sum t.answer_sum (answer_in call)
answer-grows s t (TookReading i w Fresh) h = answers-same s t _ (refl, refl) h.2
answer-grows s t (TookReading i w Again) h = answers-same s t s (refl, refl) h.1
answer-grows s t (TookReading i w Late) h = answers-same s t s (refl, refl) h.2
answer-grows s t (TookReading i w Void) h = absurd h
answer-grows s t (Closed closings.Already) h = answers-same s t s (refl, refl) h.1
answer-grows s t (Closed (closings.Thin set)) h = answers-same s t _ (refl, refl) h.3
answer-grows s t (Closed (closings.Announced set)) h = answers-same s t _ (refl, refl) h.3
answer-grows s t (TookAnswer i w Fresh) h = (h.1, ap (λ (x : RoundView). x.answered) h.3, ap (λ (x : RoundView). x.answer_sum) h.3)
answer-grows s t (TookAnswer i w Again) h = answers-same s t s (refl, refl) h.2
answer-grows s t (TookAnswer i w Late) h = answers-same s t s (refl, refl) h.3
answer-grows s t (TookAnswer i w Void) h = answers-same s t s (refl, refl) h.1
answer-grows s t (Ended endings.NotClosed) h = answers-same s t s (refl, refl) h.1
answer-grows s t (Ended endings.Already) h = answers-same s t s (refl, refl) h.2
answer-grows s t (Ended endings.Thin) h = answers-same s t _ (refl, refl) h.3
answer-grows s t (Ended (endings.Lacking set)) h = answers-same s t _ (refl, refl) h.4
answer-grows s t (Ended (endings.Total sum)) h = answers-same s t _ (refl, refl) h.4

-- an answer that is taken is a survivor's
member-asked : (s t : RoundView) (call : Call) (p : ℕ × ℕ) → answer_in call ≡ Some p → Step s call t → is_member p.0 s.taken ≡ true
member-asked s t (TookAnswer i w Fresh) p is h =
    ap (λ (x : ℕ × ℕ). is_member x.0 s.taken) (sym (some-injective (i, w) p is)) ∙ (and_parts (is_announced s) (is_member i s.taken) h.0).1
  where
    some-injective : (x y : ℕ × ℕ) → Some x ≡ Some y → x ≡ y
    some-injective x y h = cc
member-asked s t call p is h = absurd (false≢true (ap is_some is))

answers-within : (s t : RoundView) (calls : List Call) → Run s calls t → Within answer_in t.taken calls
unfolding Run Within
answers-within s t [] run = tt
answers-within s t (call ∷ rest) run =
    (λ p is. member-run reading_in (λ x. x.taken) (λ x. x.reading_sum) reading-grows s t (call ∷ rest) p.0 run (member-asked s run.0 call p is run.1), answers-within run.0 t rest run.2)

takes_reading-in : (i : ℕ) (call : Call) → takes_reading i call ≡ took i (reading_in call)
takes_reading-in i (TookReading j w Fresh) = refl
takes_reading-in i call = refl

fresh_reading-in : (i : ℕ) (call : Call) → fresh_reading i call ≡ word_for i (reading_in call)
fresh_reading-in i (TookReading j w Fresh) = refl
fresh_reading-in i call = refl

takes_answer-in : (i : ℕ) (call : Call) → takes_answer i call ≡ took i (answer_in call)
takes_answer-in i (TookAnswer j w Fresh) = refl
takes_answer-in i call = refl

fresh_answer-in : (i : ℕ) (call : Call) → fresh_answer i call ≡ word_for i (answer_in call)
fresh_answer-in i (TookAnswer j w Fresh) = refl
fresh_answer-in i call = refl

IsOnce-nil : IsOnce []
unfolding IsOnce
IsOnce-nil = λ j w. refl

pub totals : TotalsAreOfFresh
totals members floor calls s run =
    let start : RoundView = new_round members floor in
    let once : IsOnce s.taken = once-run reading_in (λ x. x.taken) (λ x. x.reading_sum) reading-grows start s calls run IsOnce-nil in
    let readings : sum_by (reading_of calls) s.taken ≡ sum_by (λ call. word_in (reading_in call)) calls =
    ap (λ f. sum_by f s.taken) (fun_ext (λ i. ap (λ f. sum_by f calls) (fun_ext (fresh_reading-in i))))
    ∙ sum_by-within reading_in s.taken calls once (within-run reading_in (λ x. x.taken) (λ x. x.reading_sum) reading-grows start s calls run) in
    let answers : sum_by (answer_of calls) s.taken ≡ sum_by (λ call. word_in (answer_in call)) calls =
    ap (λ f. sum_by f s.taken) (fun_ext (λ i. ap (λ f. sum_by f calls) (fun_ext (fresh_answer-in i))))
    ∙ sum_by-within answer_in s.taken calls once (answers-within start s calls run) in
    let sums : total s ≡ frame_total (reading_of calls) (answer_of calls) s.taken =
    omega (
      arith,
      readings,
      answers,
      word-run reading_in (λ x. x.taken) (λ x. x.reading_sum) reading-grows start s calls run,
      word-run answer_in (λ x. x.answered) (λ x. x.answer_sum) answer-grows start s calls run,
    ) in
    record {
      readings = λ i. ap (λ f. sum_by (λ call. one (f call)) calls) (fun_ext (takes_reading-in i))
          ∙ omega (arith, count-run reading_in (λ x. x.taken) (λ x. x.reading_sum) reading-grows start s calls i run);
      answers = λ i. ap (λ f. sum_by (λ call. one (f call)) calls) (fun_ext (takes_answer-in i))
          ∙ omega (arith, count-run answer_in (λ x. x.answered) (λ x. x.answer_sum) answer-grows start s calls i run);
      sums = sums;
      ends = λ sum t h. (h.2, h.3 ∙ sums);
    }
