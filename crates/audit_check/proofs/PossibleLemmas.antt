-- Possible lines, one line more or less, and what they open.
use Rattle.std.proofs.Common.{◌≡◌, ℕ, zero, suc, ◌+◌, ◌-◌, ◌*◌, ◌^◌, ◌≤◌, Bool, true, List, [], ◌∷◌, ◌++◌, length, map, take, refl, sym, ap, ◌∙◌, subst, inl, inr, append-nil, append_assoc, arith, ⊎_elim}
use Rattle.std.specs.Prelude.{◌⊎◌}
use Rattle.std.proofs.lemmas.Bool.{cases_Bool}
use Rattle.std.proofs.lemmas.List.{take_all}
use Rattle.group_plan.specs.Plans.{Group}
use Rattle.event_schedule.specs.declared.Event.{Event}
use Rattle.event_schedule.specs.declared.Line.{Line}
use Rattle.event_schedule.specs.Events.{event_of}
use Rattle.event_schedule.specs.Schedule.{Shape, is_closed, is_announced, reaches_floor, all_answered, is_opened, survivors}
use Rattle.event_schedule.specs.Transcript.{Contents}
use Rattle.event_schedule.specs.Frames.{shape_of_lines, contents_of_lines, IsPossible, IsPossibleUpTo}
use Rattle.event_schedule.specs.Journal.{past_of}
use Rattle.event_schedule.proofs.ListLemmas.{and_first}
use Rattle.event_schedule.proofs.ScheduleLemmas.{after, is_opened-more, is_opened-after, survivors-closed, survivors-after}
use Rattle.event_schedule.proofs.ShapeLemmas.{AgreeOn, survivors_agree}
use Rattle.group_book.proofs.LineLemmas.{past_of-push}
use Rattle.audit_check.specs.Statements.{PossibleBefore, OpenedRoundsStay}
use Rattle.audit_check.specs.Steps.{IsWithinReadings, MayFollow}
use Rattle.audit_check.proofs.TellLemmas.{Says, Tells, total-opened, opened_agree, tells-push, tells-pop, tells-agree}
use Rattle.audit_check.proofs.PrefixLemmas.{more_agree, agree-sym}

-- ---- an opened round, one line later

closed_from_opened : (s : Shape) (g r : ℕ) (p : List Event) → is_opened s g r p ≡ true → is_closed g r p ≡ true
closed_from_opened s g r p opened = and_first (is_closed g r p) (reaches_floor s g r p) (and_first (is_announced s g r p) (all_answered s g r p) opened)

opened-push : (s : Shape) (j : List Line) (l : Line) (g r : ℕ) → is_opened s g r (past_of j) ≡ true → is_opened s g r (past_of (j ++ l ∷ [])) ≡ true
opened-push s j l g r opened = ap (is_opened s g r) (past_of-push j l) ∙ is_opened-more s g r (event_of l) (past_of j) opened

survivors-push : (s : Shape) (j : List Line) (l : Line) (g r : ℕ) → is_opened s g r (past_of j) ≡ true → survivors s g r (past_of (j ++ l ∷ [])) ≡ survivors s g r (past_of j)
survivors-push s j l g r opened = ap (survivors s g r) (past_of-push j l) ∙ survivors-closed s g r (event_of l) (past_of j) (closed_from_opened s g r (past_of j) opened)

-- whether its total is within the readings stays
bound-push : (s : Shape) (c : Contents) (j : List Line) (l : Line) (g r : ℕ) → Says s c j → is_opened s g r (past_of j) ≡ true
    → (contents_of_lines (j ++ l ∷ [])).total g r (survivors s g r (past_of (j ++ l ∷ []))) ≡ (contents_of_lines j).total g r (survivors s g r (past_of j))
bound-push s c j l g r says opened =
    ap ((contents_of_lines (j ++ l ∷ [])).total g r) (survivors-push s j l g r opened) ∙ total-opened s c j (l ∷ []) says g r opened

within-push : (s : Shape) (c : Contents) (j : List Line) (l : Line) (g r : ℕ) → Says s c j → is_opened s g r (past_of j) ≡ true → IsWithinReadings s j g r → IsWithinReadings s (j ++ l ∷ []) g r
within-push s c j l g r says opened le =
    subst (λ n. n ≤ (2 ^ 40 - 1) * length (survivors s g r (past_of (j ++ l ∷ [])))) (sym (bound-push s c j l g r says opened))
    (subst (λ a. (contents_of_lines j).total g r (survivors s g r (past_of j)) ≤ (2 ^ 40 - 1) * length a) (sym (survivors-push s j l g r opened)) le)

within-pop : (s : Shape) (c : Contents) (j : List Line) (l : Line) (g r : ℕ) → Says s c j → is_opened s g r (past_of j) ≡ true → IsWithinReadings s (j ++ l ∷ []) g r → IsWithinReadings s j g r
within-pop s c j l g r says opened le =
    subst (λ n. n ≤ (2 ^ 40 - 1) * length (survivors s g r (past_of j))) (bound-push s c j l g r says opened)
    (subst (λ a. (contents_of_lines (j ++ l ∷ [])).total g r (survivors s g r (past_of (j ++ l ∷ []))) ≤ (2 ^ 40 - 1) * length a) (survivors-push s j l g r opened) le)

-- ---- in another shape

within-agree : (groups : List Group) (one two : ℕ → ℕ → ℕ → Bool) (j : List Line) (g r : ℕ) →
    let s : Shape = record { groups = groups; present = one } in
    let t : Shape = record { groups = groups; present = two } in
    AgreeOn s t (past_of j) → IsWithinReadings s j g r → IsWithinReadings t j g r
within-agree groups one two j g r agree le =
    subst (λ a. (contents_of_lines j).total g r a ≤ (2 ^ 40 - 1) * length a) (survivors_agree groups one two g r (past_of j) agree) le

-- no round that the lines open has too great a total
abbrev pub AreWithinReadings : Shape → List Line → Type 0
AreWithinReadings s j = (g r : ℕ) → is_opened s g r (past_of j) ≡ true → IsWithinReadings s j g r

-- what possible lines are, in a shape that agrees with theirs
pub record IsSound (s : Shape) (j : List Line) : Type 0 where
  pub tells : Tells s j
  pub within : AreWithinReadings s j

sound-agree : (groups : List Group) (one two : ℕ → ℕ → ℕ → Bool) (j : List Line) →
    let s : Shape = record { groups = groups; present = one } in
    let t : Shape = record { groups = groups; present = two } in
    AgreeOn s t (past_of j) → IsSound s j → IsSound t j
sound-agree groups one two j agree is = record {
  tells = tells-agree groups one two j agree is.tells;
  within = λ g r opened. within-agree groups one two j g r agree (is.within g r (opened_agree groups one two g r (past_of j) agree ∙ opened));
}

sound-push : (s : Shape) (j : List Line) (l : Line) → IsSound s j → MayFollow s j l → IsSound s (j ++ l ∷ [])
sound-push s j l is may = record {
  tells = tells-push s j l is.tells may.told;
  within = λ g r opened.
      elim (cases_Bool (is_opened s g r (past_of j))) [
        | inl before ↦ within-push s (contents_of_lines j) j l g r is.tells before (is.within g r before)
        | inr not_yet ↦ may.opens g r opened not_yet
      ];
}

sound-pop : (s : Shape) (j : List Line) (l : Line) → IsSound s (j ++ l ∷ []) → IsSound s j × MayFollow s j l
sound-pop s j l is =
    let both = tells-pop s j l is.tells in (
      record { tells = both.0; within = λ g r opened. within-pop s (contents_of_lines j) j l g r both.0 opened (is.within g r (opened-push s j l g r opened)) },
      record { told = both.1; opens = λ g r opened not_yet. is.within g r opened },
    )

-- ---- possible lines

pub sound-possible : (groups : List Group) (j : List Line) → IsSound (shape_of_lines groups j) j → IsPossible groups j
sound-possible groups j is = record { lines = is.tells; totals = is.within }

pub possible-sound : (groups : List Group) (j : List Line) → IsPossible groups j → IsSound (shape_of_lines groups j) j
possible-sound groups j is = record { tells = is.lines; within = is.totals }

-- in the shape of more lines
more-sound : (groups : List Group) (j rest : List Line) → IsSound (shape_of_lines groups (j ++ rest)) j → IsPossible groups j
more-sound groups j rest is =
    sound-possible groups j (sound-agree groups (shape_of_lines groups (j ++ rest)).present (shape_of_lines groups j).present j (more_agree groups j rest) is)

possible-more : (groups : List Group) (j rest : List Line) → IsPossible groups j → IsSound (shape_of_lines groups (j ++ rest)) j
possible-more groups j rest is =
    sound-agree groups (shape_of_lines groups j).present (shape_of_lines groups (j ++ rest)).present j
    (agree-sym groups (j ++ rest) j (past_of j) (more_agree groups j rest)) (possible-sound groups j is)

-- of lines of which more follow, one more is possible exactly where it may follow
pub possible-push : (groups : List Group) (j : List Line) (l : Line) (rest : List Line) → IsPossible groups j → MayFollow (shape_of_lines groups ((j ++ l ∷ []) ++ rest)) j l → IsPossible groups (j ++ l ∷ [])
possible-push groups j l rest is may =
    let s : Shape = shape_of_lines groups ((j ++ l ∷ []) ++ rest) in
    let here : IsSound s j = subst (λ x. IsSound (shape_of_lines groups x) j) (sym (append_assoc j (l ∷ []) rest)) (possible-more groups j (l ∷ rest) is) in
    more-sound groups (j ++ l ∷ []) rest (sound-push s j l here may)

pub possible-pop : (groups : List Group) (j : List Line) (l : Line) (rest : List Line) → IsPossible groups (j ++ l ∷ []) → MayFollow (shape_of_lines groups ((j ++ l ∷ []) ++ rest)) j l
possible-pop groups j l rest is = (sound-pop (shape_of_lines groups ((j ++ l ∷ []) ++ rest)) j l (possible-more groups (j ++ l ∷ []) rest is)).1

pub possible-less : (groups : List Group) (j : List Line) (l : Line) → IsPossible groups (j ++ l ∷ []) → IsPossible groups j
possible-less groups j l is = more-sound groups j (l ∷ []) (sound-pop (shape_of_lines groups (j ++ l ∷ [])) j l (possible-sound groups (j ++ l ∷ []) is)).0

-- ---- up to a line

-- the next of some lines, where there is one
next_of : (ls : List Line) (n : ℕ) → (take (suc n) ls ≡ take n ls) ⊎ ((l : Line) × (take (suc n) ls ≡ take n ls ++ l ∷ []))
next_of [] zero = inl refl
next_of [] (suc n) = inl refl
next_of (x ∷ ls) zero = inr (x, refl)
next_of (x ∷ ls) (suc n) =
    ⊎_elim (λ same. inl (ap (λ q. x ∷ q) same)) (λ next. inr (next.0, ap (λ q. x ∷ q) next.1)) (next_of ls n)

pub possible_before : PossibleBefore
possible_before groups ls n is =
    let e : n + 1 ≡ suc n = omega arith in
    let here : IsPossible groups (take (suc n) ls) = subst (λ k. IsPossible groups (take k ls)) e is in
    ⊎_elim (λ same. subst (IsPossible groups) same here) (λ next. possible-less groups (take n ls) next.0 (subst (IsPossible groups) next.1 here)) (next_of ls n)

-- where all lines are possible, they are possible up to each
pub possible_up_to : (groups : List Group) (ls : List Line) (n : ℕ) → IsPossible groups ls → IsPossibleUpTo groups n ls
possible_up_to groups ls n is = down (length ls) (subst (IsPossible groups) (sym (take_all (n + length ls) ls (omega arith))) is)
  where
    down : (d : ℕ) → IsPossibleUpTo groups (n + d) ls → IsPossibleUpTo groups n ls
    down zero is = let e : n + zero ≡ n = omega arith in subst (λ k. IsPossibleUpTo groups k ls) e is
    down (suc d) is = let e : n + suc d ≡ (n + d) + 1 = omega arith in down d (possible_before groups ls (n + d) (subst (λ k. IsPossibleUpTo groups k ls) e is))

-- ---- opened rounds stay

past-append : (j rest : List Line) → past_of (j ++ rest) ≡ after (past_of j) (map event_of rest)
unfolding after
past-append j [] = ap past_of (append-nil j)
past-append j (l ∷ rest) =
    ap past_of (sym (append_assoc j (l ∷ []) rest)) ∙ past-append (j ++ l ∷ []) rest ∙ ap (λ p. after p (map event_of rest)) (past_of-push j l)

pub opened_rounds_stay : OpenedRoundsStay
opened_rounds_stay groups ls more g r possible opened =
    let s : Shape = shape_of_lines groups (ls ++ more) in
    let t : Shape = shape_of_lines groups ls in
    let agree : AgreeOn s t (past_of ls) = more_agree groups ls more in
    let before : is_opened s g r (past_of ls) ≡ true = opened_agree groups s.present t.present g r (past_of ls) agree ∙ opened in
    record {
      opened = ap (is_opened s g r) (past-append ls more) ∙ is_opened-after s g r (past_of ls) (map event_of more) before;
      survivors_stay = ap (survivors s g r) (past-append ls more)
          ∙ survivors-after s g r (past_of ls) (map event_of more) (closed_from_opened s g r (past_of ls) before)
          ∙ survivors_agree groups s.present t.present g r (past_of ls) agree;
      total_stays = total-opened t (contents_of_lines ls) ls more possible.lines g r opened;
    }
