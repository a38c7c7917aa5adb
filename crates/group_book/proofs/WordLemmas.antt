-- Words that are kept beside their marks.
use Rattle.std.proofs.Common.{◌≡◌, ℕ, zero, suc, ◌<◌, Bool, true, false, List, [], ◌∷◌, length, set, replicate, refl, sym, ap, ◌∙◌, arith, subst}
use Rattle.std.specs.Prelude.{if◌then◌else◌, slice_index_or, Option, Some, None}
use Rattle.group_book.specs.Words.{marked_words}

length_marked : (marks : List Bool) (values : List ℕ) → length marks ≡ length values → length (marked_words marks values) ≡ length values
length_marked [] [] same = refl
length_marked [] (value ∷ values) same = same
length_marked (mark ∷ marks) [] same = refl
length_marked (mark ∷ marks) (value ∷ values) same = ap suc (length_marked marks values (omega arith))

-- a place of the words is one of both lists
pub record IsWithin (marks : List Bool) (values : List ℕ) (at : ℕ) : Type 0 where
  pub in_marks : at < length marks
  pub in_values : at < length values

pub within : (now : List (Option ℕ)) (marks : List Bool) (values : List ℕ) (at : ℕ) → length marks ≡ length values → marked_words marks values ≡ now → at < length now → IsWithin marks values at
within now marks values at same is lt =
    let long : length now ≡ length values = sym (ap length is) ∙ length_marked marks values same in
    record { in_marks = omega arith; in_values = omega arith }

-- a marked word
word_at_mark : (marks : List Bool) (values : List ℕ) (at value : ℕ) → length marks ≡ length values → at < length values → true ≡ slice_index_or marks at true → value ≡ slice_index_or values at value
    → Some value ≡ slice_index_or (marked_words marks values) at (Some value)
word_at_mark [] [] at v same lt mark_is value_is = absurd (omega arith)
word_at_mark [] (value ∷ values) at v same lt mark_is value_is = absurd (omega arith)
word_at_mark (mark ∷ marks) [] at v same lt mark_is value_is = absurd (omega arith)
word_at_mark (mark ∷ marks) (value ∷ values) zero v same lt mark_is value_is = ap Some value_is ∙ ap (λ b. if b then Some value else None) mark_is
word_at_mark (mark ∷ marks) (value ∷ values) (suc at) v same lt mark_is value_is = word_at_mark marks values at v (omega arith) (omega arith) mark_is value_is

pub word_there : (now : List (Option ℕ)) (marks : List Bool) (values : List ℕ) (at : ℕ) (mark : Bool) (value : ℕ) → length marks ≡ length values → marked_words marks values ≡ now → at < length now
    → mark ≡ slice_index_or marks at mark → mark ≡ true → value ≡ slice_index_or values at value → Some value ≡ slice_index_or now at (Some value)
word_there now marks values at mark value same is lt mark_is marked value_is =
    word_at_mark marks values at value same (within now marks values at same is lt).in_values (subst (λ b. b ≡ slice_index_or marks at b) marked mark_is) value_is
    ∙ ap (λ words. slice_index_or words at (Some value)) is

-- no mark, and no word
none_at_mark : (marks : List Bool) (values : List ℕ) (at : ℕ) → length marks ≡ length values → at < length values → false ≡ slice_index_or marks at false
    → None ≡ slice_index_or (marked_words marks values) at None
none_at_mark [] [] at same lt mark_is = absurd (omega arith)
none_at_mark [] (value ∷ values) at same lt mark_is = absurd (omega arith)
none_at_mark (mark ∷ marks) [] at same lt mark_is = absurd (omega arith)
none_at_mark (mark ∷ marks) (value ∷ values) zero same lt mark_is = ap (λ b. if b then Some value else None) mark_is
none_at_mark (mark ∷ marks) (value ∷ values) (suc at) same lt mark_is = none_at_mark marks values at (omega arith) (omega arith) mark_is

pub none_there : (now : List (Option ℕ)) (marks : List Bool) (values : List ℕ) (at : ℕ) (mark : Bool) → length marks ≡ length values → marked_words marks values ≡ now → at < length now
    → mark ≡ slice_index_or marks at mark → mark ≡ false → None ≡ slice_index_or now at None
none_there now marks values at mark same is lt mark_is unmarked =
    none_at_mark marks values at same (within now marks values at same is lt).in_values (subst (λ b. b ≡ slice_index_or marks at b) unmarked mark_is)
    ∙ ap (λ words. slice_index_or words at None) is

-- a word that is put and marked
pub marked_set : (marks : List Bool) (values : List ℕ) (at value : ℕ) → marked_words (set marks at true) (set values at value) ≡ set (marked_words marks values) at (Some value)
marked_set [] values at v = refl
marked_set (mark ∷ marks) [] zero v = refl
marked_set (mark ∷ marks) [] (suc at) v = refl
marked_set (mark ∷ marks) (value ∷ values) zero v = refl
marked_set (mark ∷ marks) (value ∷ values) (suc at) v = ap (λ rest. (if mark then Some value else None) ∷ rest) (marked_set marks values at v)

-- no mark anywhere
none_marked : (n value : ℕ) → marked_words (replicate n false) (replicate n value) ≡ replicate n None
none_marked zero v = refl
none_marked (suc n) v = ap (λ rest. None ∷ rest) (none_marked n v)

pub none_now : (marks : List Bool) (values : List ℕ) (n value : ℕ) → marks ≡ replicate n false → values ≡ replicate n value → marked_words marks values ≡ replicate n None
none_now marks values n value marks_are values_are = rw (marks_are, values_are) (none_marked n value)
