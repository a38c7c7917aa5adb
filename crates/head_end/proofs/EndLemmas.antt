-- What an end of a round would say, by the frames that were taken.
use Rattle.std.proofs.Common.{◌≡◌, ◌≢◌, ℕ, ◌+◌, ◌-◌, ◌^◌, Bool, true, false, not, ◌&&◌, List, [], ◌∷◌, length, refl, sym, ap, ◌∙◌, subst, arith}
use Rattle.std.specs.Prelude.{◌==◌, nat_le, if◌then◌else◌, filter, sum_by}
use Rattle.std.proofs.Math.Nat.{mod-mod}
use Rattle.std.proofs.Math.Bool.{and-false}
use Rattle.std.proofs.lemmas.Bool.{false≢true, and_parts}
use Rattle.std.proofs.lemmas.Bool.Decides.{nat_tests}
use Rattle.missing_round.specs.Words.{word, minus}
use Rattle.missing_round.specs.Sets.{is_member, less}
use Rattle.missing_round.proofs.SetLemmas.{is_member-filter, same_filter}
use Rattle.missing_round.proofs.WordLemmas.{word-word_add}
use Rattle.group_plan.specs.declared.Kind.TheVariants.{Reading, Answer}
use Rattle.group_plan.specs.Plans.{PlanView, members, floor_of}
use Rattle.round_machine.specs.declared.Ending.{Ending}
use Rattle.round_machine.specs.declared.Ending.TheVariants as endings
use Rattle.round_machine.specs.Rounds.{RoundView, has_floor, Ends}
use Rattle.round_machine.specs.Rounds.{is_announced as round_announced, lacking as lacking_of, total as total_of}
use Rattle.head_end.specs.declared.answers.Logged.{Logged}
use Rattle.head_end.specs.Journal.{is_closed, is_taken, word_taken, survivors, reaches_floor, is_announced, lacking, total}
use Rattle.head_end.specs.Kept.{closed_where}
use Rattle.head_end.specs.Head.{IsOf, IsKept}
use Rattle.head_end.specs.Lines.{ending}
use Rattle.head_end.proofs.RoundLemmas.{of_closed, unclosed_by}

lacking_is : (plan : PlanView) (j : List Logged) (g r : ℕ) (s : RoundView) → IsOf plan j g r s → lacking_of s ≡ lacking plan j g r
lacking_is plan j g r s is =
    let ms = members plan.groups g r in
    let t = is_taken g r Reading j in
    let a = is_taken g r Answer j in
    ap (λ xs. less xs s.answered) is.taken ∙ ap (less (filter t ms)) is.answered
    ∙ same_filter (λ i. not (is_member i (filter a ms))) (λ i. not (a i)) (filter t ms)
    (λ i m. ap not (is_member-filter a i ms ∙ ap (λ b. b && a i) (and_parts (is_member i ms) (t i) (sym (is_member-filter t i ms) ∙ m)).0))

-- where no answer is lacking, every survivor's was taken
taken_by_all : (plan : PlanView) (j : List Logged) (g r : ℕ) (s : RoundView) → IsOf plan j g r s → lacking plan j g r ≡ [] → (i : ℕ) → is_member i (members plan.groups g r) ≡ true
    → is_taken g r Answer j i ≡ is_taken g r Reading j i
taken_by_all plan j g r s is none i m = cases (is_taken g r Answer j i) (is_taken g r Reading j i) (is.asked i m) here
  where
    here : (is_taken g r Reading j i && not (is_taken g r Answer j i)) ≡ false
    here =
        sym (ap (λ b. (b && is_taken g r Reading j i) && not (is_taken g r Answer j i)) m)
        ∙ sym (ap (λ b. b && not (is_taken g r Answer j i)) (is_member-filter (is_taken g r Reading j) i (members plan.groups g r)))
        ∙ sym (is_member-filter (λ n. not (is_taken g r Answer j n)) i (survivors plan j g r))
        ∙ ap (is_member i) none

    cases : (a t : Bool) → (a ≡ true → t ≡ true) → (t && not a) ≡ false → a ≡ t
    cases true t up h = sym (up refl)
    cases false true up h = absurd (false≢true (sym h))
    cases false false up h = refl

word-minus_word : (a b : ℕ) → word (word a + minus (word b)) ≡ word (a + minus b)
word-minus_word a b = word-word_add a (minus (word b)) ∙ ap (λ n. word (a + (2 ^ 64 - n))) (mod-mod b (2 ^ 64))

-- where no answer is lacking, the two sums are the total over the survivors
total_is : (plan : PlanView) (j : List Logged) (g r : ℕ) (s : RoundView) → IsOf plan j g r s → lacking plan j g r ≡ [] → total_of s ≡ total j g r (survivors plan j g r)
total_is plan j g r s is none =
    let ms = members plan.groups g r in
    let answered : s.answered ≡ survivors plan j g r
    = is.answered ∙ same_filter (is_taken g r Answer j) (is_taken g r Reading j) ms (taken_by_all plan j g r s is none) in
    ap (λ n. word (n + minus s.answer_sum)) is.readings ∙ ap (λ n. word (word (sum_by (word_taken g r Reading j) s.taken) + minus n)) is.answers
    ∙ word-minus_word (sum_by (word_taken g r Reading j) s.taken) (sum_by (word_taken g r Answer j) s.answered)
    ∙ ap (λ xs. word (sum_by (word_taken g r Reading j) xs + minus (sum_by (word_taken g r Answer j) s.answered))) is.taken
    ∙ ap (λ xs. word (sum_by (word_taken g r Reading j) (survivors plan j g r) + minus (sum_by (word_taken g r Answer j) xs))) answered

floor_is : (plan : PlanView) (j : List Logged) (g r : ℕ) (s : RoundView) → IsOf plan j g r s → has_floor s ≡ reaches_floor plan j g r
floor_is plan j g r s is = ap (λ f. nat_le f (length s.taken)) is.floor ∙ ap (λ xs. nat_le (floor_of plan.groups g) (length xs)) is.taken

-- a list that has an item is not of length 0
not_empty : (xs : List ℕ) → xs ≢ [] → (length xs == 0) ≡ false
not_empty [] some = absurd (some refl)
not_empty (x ∷ xs) some = grind (arith, nat_tests)

says : Bool → Bool → Bool → ℕ → List ℕ → Ending
says closed announced whole sum set =
    if not closed then endings.NotClosed else if not announced then endings.Thin else if whole then endings.Total sum else endings.Lacking set

-- an end of a round that is closed where it is to be
pub ending_is : (plan : PlanView) (j : List Logged) (g r : ℕ) (s t u : RoundView) (e : Ending) → IsKept plan j g r s → t ≡ closed_where (is_closed plan j r) s → Ends t e u → e ≡ ending plan j g r
unfolding says
ending_is plan j g r s t u e kept t_is ends = by_ending e ends
  where
    still : (b : Bool) → (closed_where b s).ended ≡ false
    still true = kept.running
    still false = kept.running

    of : IsOf plan j g r t
    of = subst (IsOf plan j g r) (sym t_is) (of_closed plan j g r (is_closed plan j r) s kept.of)

    closed : t.closed ≡ is_closed plan j r
    closed = ap (λ x. x.closed) t_is ∙ unclosed_by (is_closed plan j r) s kept.closed

    ended : t.ended ≡ false
    ended = ap (λ x. x.ended) t_is ∙ still (is_closed plan j r)

    line : Bool → Bool → Bool → Ending
    line c a w = says c a w (total j g r (survivors plan j g r)) (lacking plan j g r)

    opened : is_announced plan j g r ≡ true → line (is_closed plan j r) (is_announced plan j g r) (length (lacking plan j g r) == 0) ≡ line true true (length (lacking plan j g r) == 0)
    opened announced =
        ap (λ b. line b (is_announced plan j g r) (length (lacking plan j g r) == 0)) (and_parts (is_closed plan j r) (reaches_floor plan j g r) announced).0
        ∙ ap (λ b. line true b (length (lacking plan j g r) == 0)) announced

    announced_is : round_announced t ≡ is_announced plan j g r
    announced_is = ap (λ b. b && has_floor t) closed ∙ ap (λ b. is_closed plan j r && b) (floor_is plan j g r t of)

    by_ending : (f : Ending) → Ends t f u → f ≡ ending plan j g r
    by_ending endings.NotClosed h = sym (ap (λ b. line b (is_announced plan j g r) (length (lacking plan j g r) == 0)) (sym closed ∙ h.0))
    by_ending endings.Already h = absurd (false≢true (sym ended ∙ h.1))
    by_ending endings.Thin h =
        sym (ap (λ b. line b (is_announced plan j g r) (length (lacking plan j g r) == 0)) (sym closed ∙ h.0)
        ∙ ap (λ b. line true b (length (lacking plan j g r) == 0)) (sym announced_is ∙ ap (λ b. t.closed && b) h.2 ∙ and-false t.closed))
    by_ending (endings.Lacking set) h =
        let lacks : set ≡ lacking plan j g r = h.2 ∙ lacking_is plan j g r t of in
        ap endings.Lacking lacks
        ∙ sym (opened (sym announced_is ∙ h.0) ∙ ap (line true true) (not_empty (lacking plan j g r) (λ none. h.3 (lacks ∙ none))))
    by_ending (endings.Total n) h =
        let none : lacking plan j g r ≡ [] = sym (lacking_is plan j g r t of) ∙ h.2 in
        ap endings.Total (h.3 ∙ total_is plan j g r t of none)
        ∙ sym (opened (sym announced_is ∙ h.0) ∙ ap (λ xs. line true true (length xs == 0)) none)
