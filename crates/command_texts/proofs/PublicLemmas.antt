-- The text of a public plan: the lines of a transcript's head, behind another title.
use Rattle.std.proofs.Common.{◌≡◌, ◌∙◌, ◌+◌, ◌-◌, ℕ, List, [], ◌∷◌, ◌++◌, refl, sym, ap, append_assoc, length, map, codes, decimal, Bool, arith, length-append, take}
use Rattle.std.specs.List.{join_with_byte, filter, flat_map, range_with_len, slice_range}
use Rattle.plan_files.specs.PlainRows.{row_text, file_text}
use Rattle.group_plan.specs.NewPlans.{stated}
use Rattle.group_plan.specs.Plans.{Group, PlanView, size}
use Rattle.transcript_text.specs.Spelling as head
use Rattle.plan_files.specs.Spelling.{group_fields, member_fields, is_partial, partial_spans, span_at, first_rows, public_rows, public_text}
use Rattle.group_plan.specs.declared.plan.members.Span.{Span}
use Rattle.std.proofs.lemmas.List.Elements.{filter-append}
use Rattle.transcript_text.specs.Spelling.{stated_spans, text_of, head_text, entries_text, transcript_text}
use Rattle.plan_files.specs.declared.form.PlanForm.TheVariants.{Public}
use Rattle.std.proofs.lemmas.Grind.{flat_map-append}
use Rattle.std.proofs.lemmas.Fmt.{decimal_digit}
use Rattle.event_schedule.specs.Transcripts.{no_entries}
use Rattle.std.proofs.Math.Seq.{take-append_seam}

-- a row is its fields joined by commas, and a newline
row_joined : (field : List ℕ) (fields : List (List ℕ)) → row_text (field ∷ fields) ≡ join_with_byte 44 (field ∷ fields) ++ 10 ∷ []
row_joined field [] = refl
row_joined field (next ∷ more) = ap (λ z. field ++ 44 ∷ z) (row_joined next more) ∙ sym (append_assoc field (44 ∷ join_with_byte 44 (next ∷ more)) (10 ∷ []))

groups_same : (groups : List Group) → file_text (map group_fields groups) ≡ head.groups_text (map stated groups)
groups_same [] = refl
groups_same (g ∷ gs) = ap (λ z. row_text (group_fields g) ++ z) (groups_same gs)
    ∙ ap (λ z. z ++ head.groups_text (map stated gs)) (row_joined (codes "group") (g.name ∷ decimal (length g.spans) ∷ decimal g.floor ∷ []))

members_same : (spans : List Span) → file_text (map member_fields spans) ≡ head.members_text spans
members_same [] = refl
members_same (s ∷ ss) = ap (λ z. row_text (member_fields s) ++ z) (members_same ss)
    ∙ ap (λ z. z ++ head.members_text ss) (row_joined (codes "member") (decimal s.group ∷ decimal s.meter ∷ decimal s.from ∷ decimal s.until ∷ []))

filter_flat : {X Y : Type 0} (p : Y → Bool) (f : X → List Y) (xs : List X) → filter p (flat_map f xs) ≡ flat_map (λ x. filter p (f x)) xs
filter_flat p f [] = refl
filter_flat p f (x ∷ xs) = filter-append p (f x) (flat_map f xs) ∙ ap (λ z. filter p (f x) ++ z) (filter_flat p f xs)

spans_same : (plan : PlanView) → partial_spans plan ≡ stated_spans plan
unfolding partial_spans stated_spans
spans_same plan = filter_flat (is_partial plan) (λ g. map (span_at plan g) (range_with_len 0 (size plan.groups g))) (range_with_len 0 (length plan.groups))

-- what both texts have
abbrev pub rows_text : PlanView → List ℕ
rows_text plan =
    head.ended (head.joined (head.rounds_fields plan.rounds))
    ++ (head.ended (head.joined (head.windows_fields plan.w1 plan.w2)) ++ (head.groups_text (map stated plan.groups) ++ head.members_text (stated_spans plan)))

first_text : (plan : PlanView) (rest : List ℕ) → file_text (first_rows Public plan) ++ rest
    ≡ codes "public,1\n" ++ (head.ended (head.joined (head.rounds_fields plan.rounds)) ++ (head.ended (head.joined (head.windows_fields plan.w1 plan.w2)) ++ rest))
first_text plan rest =
    let T : List ℕ = codes "public,1\n" in
    let R = head.ended (head.joined (head.rounds_fields plan.rounds)) in
    let W = head.ended (head.joined (head.windows_fields plan.w1 plan.w2)) in
    ap (λ z. (T ++ (z ++ (row_text (head.windows_fields plan.w1 plan.w2) ++ []))) ++ rest) (row_joined (codes "rounds") (decimal plan.rounds ∷ []))
    ∙ (ap (λ z. (T ++ (R ++ (z ++ []))) ++ rest) (row_joined (codes "windows") (decimal plan.w1 ∷ decimal plan.w2 ∷ []))
    ∙ ap (λ z. T ++ z) (append_assoc R (W ++ []) rest ∙ ap (λ z. R ++ z) (append_assoc W [] rest)))

pub public_is : (plan : PlanView) → public_text plan ≡ codes "public,1\n" ++ rows_text plan
unfolding public_rows
public_is plan =
    let G = map group_fields plan.groups in
    let M = map member_fields (partial_spans plan) in
    let groups_text = head.groups_text (map stated plan.groups) in
    flat_map-append row_text (first_rows Public plan) (G ++ M)
    ∙ (ap (λ z. file_text (first_rows Public plan) ++ z)
    (flat_map-append row_text G M ∙ (ap (λ z. z ++ file_text M) (groups_same plan.groups)
    ∙ ap (λ z. groups_text ++ z) (members_same (partial_spans plan) ∙ ap head.members_text (spans_same plan))))
    ∙ first_text plan (groups_text ++ head.members_text (stated_spans plan)))

abbrev pub transcript_title : List ℕ
transcript_title = codes "meteragg transcript 2\n"

abbrev pub transcript_end : List ℕ
transcript_end = codes "begin\nend,0\n"

end_is : head.ended (codes "end," ++ decimal 0) ≡ codes "end,0\n"
end_is = ap (λ z. head.ended (codes "end," ++ z)) (decimal_digit 0 (omega arith))

pub transcript_is : (plan : PlanView) → transcript_text (no_entries plan) ≡ transcript_title ++ (rows_text plan ++ transcript_end)
unfolding text_of head_text entries_text
transcript_is plan =
    let T : List ℕ = head.ended (codes "meteragg transcript 2") in
    let R = head.ended (head.joined (head.rounds_fields plan.rounds)) in
    let W = head.ended (head.joined (head.windows_fields plan.w1 plan.w2)) in
    let G = head.groups_text (map stated plan.groups) in
    let M = head.members_text (stated_spans plan) in
    let B : List ℕ = head.ended (codes "begin") in
    ap (λ z. (T ++ R ++ W ++ G ++ M ++ B) ++ z) end_is ∙ regroup T R W G M B (codes "end,0\n")
  where
    regroup : (a b c d e f g : List ℕ) → (a ++ b ++ c ++ d ++ e ++ f) ++ g ≡ a ++ ((b ++ (c ++ (d ++ e))) ++ (f ++ g))
    regroup a b c d e f g = simp append_assoc

-- the rows between the title and the end of a transcript without entries
pub long_enough : (text : List ℕ) (plan : PlanView) → text ≡ transcript_text (no_entries plan) → length text ≡ 22 + (length (rows_text plan) + 12)
long_enough text plan is =
    let whole = ap length (is ∙ transcript_is plan) in
    omega (arith, whole, length-append transcript_title (rows_text plan ++ transcript_end), length-append (rows_text plan) transcript_end)

pub cut_out : (text : List ℕ) (plan : PlanView) → text ≡ transcript_text (no_entries plan) → slice_range text 22 (length text - 12) ≡ rows_text plan
cut_out text plan is =
    let n = length text - 12 in
    let long = long_enough text plan is in
    let here : n - 22 ≡ length (rows_text plan) = omega (arith, long) in
    ap (λ t. slice_range t 22 n) (is ∙ transcript_is plan)
    ∙ (ap (λ k. take k (rows_text plan ++ transcript_end)) here ∙ take-append_seam (rows_text plan) transcript_end)

-- behind the title of a public plan they are its text
pub text_made : (plan : PlanView) (start rows text first : List ℕ) → start ≡ [] → first ≡ start ++ codes "public,1\n" → text ≡ first ++ rows → rows ≡ rows_text plan → text ≡ public_text plan
text_made plan start rows text first none first_is is rows_are =
    is ∙ (ap (λ f. f ++ rows) (first_is ∙ ap (λ s. s ++ codes "public,1\n") none) ∙ (ap (λ r. codes "public,1\n" ++ r) rows_are ∙ sym (public_is plan)))
