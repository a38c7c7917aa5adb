-- One more line of a journal: which frames were taken, their words, and the ticks.
use Rattle.std.proofs.Common.{◌≡◌, ℕ, ◌+◌, Bool, true, false, ◌||◌, List, [], ◌∷◌, ◌++◌, refl, sym, ap, ◌∙◌, arith}
use Rattle.std.specs.Prelude.{if◌then◌else◌}
use Rattle.std.specs.List.{list_any}
use mathlib.Core.Path.{fun_ext}
use Rattle.std.proofs.lemmas.Bool.{false≢true}
use Rattle.std.proofs.lemmas.List.Folds.{list_any-append}
use Rattle.std.proofs.lemmas.List.Sums.{sum_by-append}
use Rattle.group_plan.specs.declared.Kind.{Kind}
use Rattle.meter_frames.specs.declared.Frame.{Frame}
use Rattle.head_end.specs.declared.answers.Logged.{Logged}
use Rattle.head_end.specs.declared.answers.Logged.TheVariants.{Took, Passed}
use Rattle.head_end.specs.Journal.{is_tick, passed, is_frame, is_taken, word_in, word_taken}

or_false : (b : Bool) → (b || false) ≡ b
or_false true = refl
or_false false = refl

-- a line more, and who was taken
pub is_taken-more : (g r : ℕ) (k : Kind) (j : List Logged) (l : Logged) (i : ℕ) → is_taken g r k (j ++ l ∷ []) i ≡ (is_taken g r k j i || is_frame g r k i l)
unfolding is_taken
is_taken-more g r k j l i =
    list_any-append (is_frame g r k i) j (l ∷ []) ∙ ap (λ b. is_taken g r k j i || b) (or_false (is_frame g r k i l))

-- a line that is no frame of the round
pub is_taken-same : (g r : ℕ) (k : Kind) (j : List Logged) (l : Logged) → ((i : ℕ) → is_frame g r k i l ≡ false) → is_taken g r k (j ++ l ∷ []) ≡ is_taken g r k j
is_taken-same g r k j l none =
    fun_ext (λ i. is_taken-more g r k j l i ∙ ap (λ b. is_taken g r k j i || b) (none i) ∙ or_false (is_taken g r k j i))

pub word_taken-none : (g r : ℕ) (k : Kind) (j : List Logged) (i : ℕ) → is_taken g r k j i ≡ false → word_taken g r k j i ≡ 0
unfolding is_taken word_taken
word_taken-none g r k [] i none = refl
word_taken-none g r k (l ∷ ls) i none = by_test (is_frame g r k i l) refl none (word_taken-none g r k ls i)
  where
    by_test : (b : Bool) → is_frame g r k i l ≡ b → (is_frame g r k i l || list_any (is_frame g r k i) ls) ≡ false
        → (list_any (is_frame g r k i) ls ≡ false → word_taken g r k ls i ≡ 0) → (if is_frame g r k i l then word_in l else word_taken g r k ls i) ≡ 0
    by_test true is h later = absurd (false≢true (sym h ∙ ap (λ b. b || list_any (is_frame g r k i) ls) is))
    by_test false is h later = ap (λ b. if b then word_in l else word_taken g r k ls i) is ∙ later (sym (ap (λ b. b || list_any (is_frame g r k i) ls) is) ∙ h)

-- the word that was taken stays
pub word_taken-stays : (g r : ℕ) (k : Kind) (j : List Logged) (l : Logged) (i : ℕ) → is_taken g r k j i ≡ true → word_taken g r k (j ++ l ∷ []) i ≡ word_taken g r k j i
unfolding is_taken word_taken
word_taken-stays g r k [] l i some = absurd (false≢true some)
word_taken-stays g r k (x ∷ xs) l i some = by_test (is_frame g r k i x) refl some (word_taken-stays g r k xs l i)
  where
    by_test : (b : Bool) → is_frame g r k i x ≡ b → (is_frame g r k i x || list_any (is_frame g r k i) xs) ≡ true
        → (list_any (is_frame g r k i) xs ≡ true → word_taken g r k (xs ++ l ∷ []) i ≡ word_taken g r k xs i)
        → (if is_frame g r k i x then word_in x else word_taken g r k (xs ++ l ∷ []) i) ≡ (if is_frame g r k i x then word_in x else word_taken g r k xs i)
    by_test true is h later = rw is refl
    by_test false is h later = rw is (later (sym (ap (λ b. b || list_any (is_frame g r k i) xs) is) ∙ h))

-- the first frame of a place and kind gives its word
pub word_taken-first : (g r : ℕ) (k : Kind) (j : List Logged) (l : Logged) (i : ℕ) → is_taken g r k j i ≡ false → word_taken g r k (j ++ l ∷ []) i ≡ (if is_frame g r k i l then word_in l else 0)
unfolding is_taken word_taken
word_taken-first g r k [] l i none = refl
word_taken-first g r k (x ∷ xs) l i none = by_test (is_frame g r k i x) refl none (word_taken-first g r k xs l i)
  where
    by_test : (b : Bool) → is_frame g r k i x ≡ b → (is_frame g r k i x || list_any (is_frame g r k i) xs) ≡ false
        → (list_any (is_frame g r k i) xs ≡ false → word_taken g r k (xs ++ l ∷ []) i ≡ (if is_frame g r k i l then word_in l else 0))
        → (if is_frame g r k i x then word_in x else word_taken g r k (xs ++ l ∷ []) i) ≡ (if is_frame g r k i l then word_in l else 0)
    by_test true is h later = absurd (false≢true (sym h ∙ ap (λ b. b || list_any (is_frame g r k i) xs) is))
    by_test false is h later = rw is (later (sym (ap (λ b. b || list_any (is_frame g r k i) xs) is) ∙ h))

-- a line that is no frame of the place leaves its word
pub word_taken-other : (g r : ℕ) (k : Kind) (j : List Logged) (l : Logged) (i : ℕ) → is_frame g r k i l ≡ false → word_taken g r k (j ++ l ∷ []) i ≡ word_taken g r k j i
word_taken-other g r k j l i other = by_taken (is_taken g r k j i) refl
  where
    by_taken : (b : Bool) → is_taken g r k j i ≡ b → word_taken g r k (j ++ l ∷ []) i ≡ word_taken g r k j i
    by_taken true some = word_taken-stays g r k j l i some
    by_taken false none =
        word_taken-first g r k j l i none ∙ ap (λ b. if b then word_in l else 0) other ∙ sym (word_taken-none g r k j i none)

pub word_taken-same : (g r : ℕ) (k : Kind) (j : List Logged) (l : Logged) → ((i : ℕ) → is_frame g r k i l ≡ false) → word_taken g r k (j ++ l ∷ []) ≡ word_taken g r k j
word_taken-same g r k j l none = fun_ext (λ i. word_taken-other g r k j l i (none i))

-- ---- ticks

pub passed-took : (j : List Logged) (f : Frame) → passed (j ++ Took f ∷ []) ≡ passed j
unfolding passed
passed-took j f = let more = sum_by-append (λ l. if is_tick l then 1 else 0) j (Took f ∷ []) in more ∙ add_0 (passed j)
  where
    add_0 : (n : ℕ) → n + 0 ≡ n
    add_0 n = omega arith

pub passed-passed : (j : List Logged) → passed (j ++ Passed ∷ []) ≡ passed j + 1
unfolding passed
passed-passed j = sum_by-append (λ l. if is_tick l then 1 else 0) j (Passed ∷ [])
