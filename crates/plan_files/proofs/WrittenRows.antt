-- The rows of a readings file as they are written.
use Rattle.std.proofs.Common.{◌≡◌, ℕ, zero, suc, ◌+◌, List, [], ◌∷◌, ◌++◌, map, refl, sym, ap, ◌∙◌, subst, append_assoc, arith}
use Rattle.std.specs.Prelude.{Option, Ok, codes, decimal, length}
use Rattle.std.specs.List.{flat_map, range_with_len}
use Rattle.std.proofs.lemmas.Grind.{flat_map-append}
use Rattle.std.proofs.lemmas.List.{append-nil}
use Rattle.std.proofs.lemmas.List.Folds.{flat_map-map}
use Rattle.group_plan.specs.Plans.{PlanView, IsWithinLimits, size, name_of}
use Rattle.group_plan.specs.Tables.{ReadingsView, Table, reading, IsReadingTable}
use Rattle.plan_files.specs.PlainRows.{rest_text, row_text}
use Rattle.plan_files.specs.Readings.{readings_of}
use Rattle.plan_files.specs.Spelling.{reading_field, readings_row, readings_rows, readings_text}
use Rattle.plan_files.proofs.SpelledReadings.{spelled_readings}

range-push : (a n : ℕ) → range_with_len a (suc n) ≡ range_with_len a n ++ (a + n) ∷ []
range-push a zero = let same : a ≡ a + 0 = omega arith in ap (λ z. z ∷ []) same
range-push a (suc n) = let same : a + 1 + n ≡ a + suc n = omega arith in ap (λ l. a ∷ l) (range-push (a + 1) n ∙ ap (λ z. range_with_len (a + 1) n ++ z ∷ []) same)

-- what is written of each number below n, and of n
pub written_more : {X : Type 0} (f : ℕ → List X) (n : ℕ) (old now next : List X) → now ≡ old ++ flat_map f (range_with_len 0 n) → next ≡ now ++ f n → next ≡ old ++ flat_map f (range_with_len 0 (n + 1))
written_more f n old now next before added =
    let one : n + 1 ≡ suc n = omega arith in
    let last : 0 + n ≡ n = omega arith in
    added ∙ ap (λ l. l ++ f n) before ∙ append_assoc old (flat_map f (range_with_len 0 n)) (f n)
    ∙ ap (λ l. old ++ l)
    (sym (ap (λ k. flat_map f (range_with_len 0 k)) one ∙ ap (flat_map f) (range-push 0 n) ∙ flat_map-append f (range_with_len 0 n) ((0 + n) ∷ [])
    ∙ ap (λ k. flat_map f (range_with_len 0 n) ++ (f k ++ [])) last ∙ ap (λ l. flat_map f (range_with_len 0 n) ++ l) (append-nil (f n))))

rest_fields : (fields : List (List ℕ)) → rest_text fields ≡ flat_map (λ f. 44 ∷ f) fields ++ 10 ∷ []
rest_fields [] = refl
rest_fields (f ∷ fs) = ap (λ l. 44 ∷ (f ++ l)) (rest_fields fs) ∙ ap (λ l. 44 ∷ l) (sym (append_assoc f (flat_map (λ g. 44 ∷ g) fs) (10 ∷ [])))

-- the row of a group in a round, part by part
pub row_written : (plan : PlanView) (table : Table (Option ℕ)) (g r : ℕ) (old place fields : List ℕ) → place ≡ old ++ name_of plan.groups g ++ codes "," ++ decimal r
    → fields ≡ place ++ flat_map (λ i. 44 ∷ reading_field (reading table g r i)) (range_with_len 0 (size plan.groups g))
    → fields ++ codes "\n" ≡ old ++ row_text (readings_row plan table g r)
row_written plan table g r old place fields placed filled =
    let text = flat_map (λ i. 44 ∷ reading_field (reading table g r i)) (range_with_len 0 (size plan.groups g)) in
    let rest : rest_text (map (λ i. reading_field (reading table g r i)) (range_with_len 0 (size plan.groups g))) ≡ text ++ 10 ∷ []
    = rest_fields (map (λ i. reading_field (reading table g r i)) (range_with_len 0 (size plan.groups g)))
    ∙ ap (λ l. l ++ 10 ∷ []) (flat_map-map (λ f. 44 ∷ f) (λ i. reading_field (reading table g r i)) (range_with_len 0 (size plan.groups g))) in
    ap (λ l. l ++ 10 ∷ []) (filled ∙ ap (λ l. l ++ text) placed) ∙ joined old (name_of plan.groups g) (decimal r) text
    ∙ ap (λ l. old ++ (name_of plan.groups g ++ 44 ∷ (decimal r ++ l))) (sym rest)
  where
    joined : (o n d f : List ℕ) → o ++ n ++ (44 ∷ []) ++ d ++ f ++ (10 ∷ []) ≡ o ++ (n ++ 44 ∷ (d ++ (f ++ 10 ∷ [])))
    joined o n d f = simp append_assoc refl

-- the rows of a group, one by one and as a list
pub rounds_written : (x : ReadingsView) (g n : ℕ) → n ≡ x.plan.rounds
    → flat_map (λ r. row_text (readings_row x.plan x.table g r)) (range_with_len 0 n) ≡ flat_map row_text (map (readings_row x.plan x.table g) (range_with_len 0 x.plan.rounds))
rounds_written x g n is =
    ap (λ k. flat_map (λ r. row_text (readings_row x.plan x.table g r)) (range_with_len 0 k)) is ∙ sym (flat_map-map row_text (readings_row x.plan x.table g) (range_with_len 0 x.plan.rounds))

-- the rows of the groups so far, and of one more
pub groups_written : (f : ℕ → List ℕ) (n : ℕ) (now next more : List ℕ) → now ≡ flat_map f (range_with_len 0 n) → next ≡ now ++ more → more ≡ f n → next ≡ flat_map f (range_with_len 0 (n + 1))
groups_written f n now next more before added is = written_more f n [] now next before (added ∙ ap (λ l. now ++ l) is)

-- the rows of all groups are the file
pub file_written : (x : ReadingsView) → flat_map (λ g. flat_map row_text (map (readings_row x.plan x.table g) (range_with_len 0 x.plan.rounds))) (range_with_len 0 (length x.plan.groups)) ≡ readings_text x
unfolding readings_rows
file_written x = sym (flat (λ g. map (readings_row x.plan x.table g) (range_with_len 0 x.plan.rounds)) (range_with_len 0 (length x.plan.groups)))
  where
    flat : (f : ℕ → List (List (List ℕ))) (ks : List ℕ) → flat_map row_text (flat_map f ks) ≡ flat_map (λ k. flat_map row_text (f k)) ks
    flat f [] = refl
    flat f (k ∷ ks) = flat_map-append row_text (f k) (flat_map f ks) ∙ ap (λ l. flat_map row_text (f k) ++ l) (flat f ks)

-- what is written of as many groups as the plan has is the file
pub all_written : (plan : PlanView) (x : ReadingsView) (n groups : ℕ) (out : List ℕ) → x.plan ≡ plan → groups ≡ length plan.groups → n ≡ groups
    → out ≡ flat_map (λ g. flat_map row_text (map (readings_row x.plan x.table g) (range_with_len 0 x.plan.rounds))) (range_with_len 0 n) → out ≡ readings_text x
all_written plan x n groups out same long end is =
    is
    ∙ ap (λ k. flat_map (λ g. flat_map row_text (map (readings_row x.plan x.table g) (range_with_len 0 x.plan.rounds))) (range_with_len 0 k)) (end ∙ long ∙ ap (λ p. length p.groups) (sym same))
    ∙ file_written x

-- and is read again
pub read_again : (plan : PlanView) (x : ReadingsView) (out : List ℕ) → x.plan ≡ plan → IsWithinLimits plan → IsReadingTable x.plan x.table → out ≡ readings_text x → readings_of plan out ≡ Ok x
read_again plan x out same limits fits is =
    ap (λ p. readings_of p out) (sym same) ∙ ap (readings_of x.plan) is ∙ spelled_readings x (subst IsWithinLimits (sym same) limits) fits
