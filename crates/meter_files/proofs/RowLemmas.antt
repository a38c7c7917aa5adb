-- Rows that are written one after another.
use Rattle.std.proofs.Common.{◌≡◌, ℕ, ◌+◌, List, [], ◌∷◌, ◌++◌, refl, sym, ap, ◌∙◌, append_assoc}
use Rattle.std.specs.List.{flat_map, range_with_len}
use Rattle.std.proofs.lemmas.Grind.{flat_map-append}
use Rattle.std.specs.Prelude.{Some, codes}
use Rattle.group_plan.specs.Plans.{PlanView}
use Rattle.pair_keys.specs.Keys.{Keys}
use Rattle.pair_keys.specs.declared.KeyId.TheVariants.{Own}
use Rattle.plan_files.specs.PlainRows.{file_text, row_text}
use Rattle.plan_files.proofs.WrittenRows.{written_more}
use Rattle.meter_files.specs.Spelling.{title_row, part_rows, own_row, pair_rows, member_rows, meter_rows, meter_text}

-- the text of rows that follow other rows
pub text_append : (a b : List (List (List ℕ))) → file_text (a ++ b) ≡ file_text a ++ file_text b
text_append a b = flat_map-append row_text a b

-- the text of the rows of some numbers
text_flat : (f : ℕ → List (List (List ℕ))) (ns : List ℕ) → flat_map (λ n. file_text (f n)) ns ≡ file_text (flat_map f ns)
text_flat f [] = refl
text_flat f (n ∷ ns) = ap (λ t. file_text (f n) ++ t) (text_flat f ns) ∙ sym (text_append (f n) (flat_map f ns))

-- the rows of one number more
pub rows_more : (f : ℕ → List (List (List ℕ))) (n : ℕ) (old now next : List ℕ) → now ≡ old ++ file_text (flat_map f (range_with_len 0 n)) → next ≡ now ++ file_text (f n)
    → next ≡ old ++ file_text (flat_map f (range_with_len 0 (n + 1)))
rows_more f n old now next before added =
    written_more (λ k. file_text (f k)) n old now next (before ∙ ap (λ t. old ++ t) (sym (text_flat f (range_with_len 0 n)))) added
    ∙ ap (λ t. old ++ t) (text_flat f (range_with_len 0 (n + 1)))

-- the text of a whole file, part by part
whole : (title own : List (List ℕ)) (part pairs members : List (List (List ℕ))) (a b c d : List ℕ) → a ≡ row_text title ++ file_text part → b ≡ a ++ row_text own
    → c ≡ b ++ file_text pairs → d ≡ c ++ file_text members → d ≡ file_text (title ∷ (part ++ (own ∷ (pairs ++ members))))
whole title own part pairs members a b c d e f g h =
    let rest : file_text (part ++ (own ∷ (pairs ++ members))) ≡ file_text part ++ (row_text own ++ (file_text pairs ++ file_text members))
    = text_append part (own ∷ (pairs ++ members)) ∙ ap (λ t. file_text part ++ (row_text own ++ t)) (text_append pairs members) in
    let T = row_text title in let P = file_text part in let O = row_text own in let Q = file_text pairs in let M = file_text members in
    h ∙ ap (λ t. t ++ M) (g ∙ ap (λ t. t ++ Q) (f ∙ ap (λ t. t ++ O) e))
    ∙ append_assoc ((T ++ P) ++ O) Q M ∙ append_assoc (T ++ P) O (Q ++ M) ∙ append_assoc T P (O ++ (Q ++ M))
    ∙ ap (λ t. T ++ t) (sym rest)

-- the text of a meter file, part by part
pub text_whole : (keys : Keys) (g i : ℕ) (plan : PlanView) (start first a b c d own : List ℕ) → plan ≡ keys.plan → start ≡ [] → first ≡ start ++ codes "meter,1\n"
    → a ≡ first ++ file_text (part_rows plan g g i) → Some own ≡ keys.key (Own g i) → b ≡ a ++ row_text (own_row (Some own))
    → c ≡ b ++ file_text (pair_rows keys g i) → d ≡ c ++ file_text (member_rows plan g) → d ≡ meter_text keys g i
unfolding meter_rows
text_whole keys g i plan start first a b c d own of none titled part key owned paired last =
    let titled_is : first ≡ row_text title_row = titled ∙ ap (λ t. t ++ codes "meter,1\n") none in
    whole title_row (own_row (keys.key (Own g i))) (part_rows keys.plan g g i) (pair_rows keys g i) (member_rows keys.plan g) a b c d
    (part ∙ ap (λ t. t ++ file_text (part_rows plan g g i)) titled_is ∙ ap (λ p. row_text title_row ++ file_text (part_rows p g g i)) of)
    (owned ∙ ap (λ k. a ++ row_text (own_row k)) key) paired (last ∙ ap (λ p. c ++ file_text (member_rows p g)) of)
