-- The lines of spans, as they are written one by one.
use Rattle.std.proofs.Common.{◌≡◌, ◌∙◌, ℕ, suc, ◌+◌, Bool, true, false, cond, List, [], ◌∷◌, ◌++◌, map, filter, if◌then◌else◌, refl, sym, ap, arith, append-nil, append_assoc}
use Rattle.std.specs.List.{flat_map, range_with_len}
use Rattle.std.proofs.lemmas.List.Elements.{filter-append}
use Rattle.std.proofs.lemmas.Grind.{flat_map-append}
use Rattle.std.proofs.lemmas.List.FromFn.{map-range_with_len_more}
use Rattle.group_plan.specs.declared.plan.members.Span.{Span}
use Rattle.group_plan.specs.Plans.{PlanView, size}
use Rattle.transcript_text.specs.Spelling.{ended, joined, member_fields, members_text, is_partial, span_at, spans_below}
use Rattle.event_schedule.proofs.RoundMembers.{range_last}

one_line : (rounds : ℕ) (span : Span) → members_text (filter (is_partial rounds) (span ∷ [])) ≡ (if is_partial rounds span then ended (joined (member_fields span)) else [])
one_line rounds span = by_test (is_partial rounds span)
  where
    by_test : (b : Bool) → members_text (cond b (span ∷ []) []) ≡ (if b then ended (joined (member_fields span)) else [])
    by_test true = append-nil (ended (joined (member_fields span)))
    by_test false = refl

one_meter_more : (plan : PlanView) (g i : ℕ) → members_text (spans_below plan g (i + 1)) ≡ members_text (spans_below plan g i) ++ (if is_partial plan.rounds (span_at plan g i) then ended (joined (member_fields (span_at plan g i))) else [])
one_meter_more plan g i =
    ap (λ q. members_text (filter (is_partial plan.rounds) q)) (map-range_with_len_more (span_at plan g) 0 i i (omega arith))
    ∙ ap members_text (filter-append (is_partial plan.rounds) (map (span_at plan g) (range_with_len 0 i)) (span_at plan g i ∷ []))
    ∙ flat_map-append (λ span. ended (joined (member_fields span))) (spans_below plan g i) (filter (is_partial plan.rounds) (span_at plan g i ∷ []))
    ∙ ap (λ q. members_text (spans_below plan g i) ++ q) (one_line plan.rounds (span_at plan g i))

one_group_more : (plan : PlanView) (n : ℕ)
    → members_text (flat_map (λ g. spans_below plan g (size plan.groups g)) (range_with_len 0 (n + 1)))
    ≡ members_text (flat_map (λ g. spans_below plan g (size plan.groups g)) (range_with_len 0 n)) ++ members_text (spans_below plan n (size plan.groups n))
one_group_more plan n =
    let e : n + 1 ≡ suc n = omega arith in
    let f : ℕ → List Span = λ g. spans_below plan g (size plan.groups g) in
    ap (λ k. members_text (flat_map f (range_with_len 0 k))) e
    ∙ ap (λ q. members_text (flat_map f q)) (range_last 0 n n (omega arith))
    ∙ ap members_text (flat_map-append f (range_with_len 0 n) (n ∷ []) ∙ ap (λ q. flat_map f (range_with_len 0 n) ++ q) (append-nil (f n)))
    ∙ flat_map-append (λ span. ended (joined (member_fields span))) (flat_map f (range_with_len 0 n)) (f n)

-- the line of one more meter is written
pub meter_written : (plan : PlanView) (g i : ℕ) (out old more : List ℕ) → out ≡ old ++ members_text (spans_below plan g i)
    → more ≡ out ++ (if is_partial plan.rounds (span_at plan g i) then ended (joined (member_fields (span_at plan g i))) else []) → more ≡ old ++ members_text (spans_below plan g (i + 1))
meter_written plan g i out old more so written =
    written ∙ ap (λ q. q ++ (if is_partial plan.rounds (span_at plan g i) then ended (joined (member_fields (span_at plan g i))) else [])) so
    ∙ append_assoc old (members_text (spans_below plan g i)) (if is_partial plan.rounds (span_at plan g i) then ended (joined (member_fields (span_at plan g i))) else [])
    ∙ ap (λ q. old ++ q) (sym (one_meter_more plan g i))

-- the lines of one more group are written
pub group_written : (plan : PlanView) (n : ℕ) (out old more : List ℕ) → out ≡ old ++ members_text (flat_map (λ g. spans_below plan g (size plan.groups g)) (range_with_len 0 n))
    → more ≡ out ++ members_text (spans_below plan n (size plan.groups n)) → more ≡ old ++ members_text (flat_map (λ g. spans_below plan g (size plan.groups g)) (range_with_len 0 (n + 1)))
group_written plan n out old more so written =
    let before = members_text (flat_map (λ g. spans_below plan g (size plan.groups g)) (range_with_len 0 n)) in
    written ∙ ap (λ q. q ++ members_text (spans_below plan n (size plan.groups n))) so ∙ append_assoc old before (members_text (spans_below plan n (size plan.groups n)))
    ∙ ap (λ q. old ++ q) (sym (one_group_more plan n))
