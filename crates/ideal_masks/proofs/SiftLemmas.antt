-- The survivors of a round outside a pool, and those of them that sent their answer.
use Rattle.std.proofs.Common.{◌≡◌, ℕ, Bool, true, false, cond, not, ◌&&◌, List, [], ◌∷◌, refl, sym, ap, ◌∙◌}
use Rattle.std.specs.Prelude.{Option, Some, None, is_some, slice_get, slice_index_or}
use Rattle.std.specs.List.{filter}
use Rattle.std.proofs.lemmas.Bool.{false≢true}
use Rattle.missing_round.specs.Sets.{is_member, less}
use Rattle.missing_round.proofs.SetLemmas.{is_member-filter, less-filter, same_filter}
use Rattle.event_schedule.specs.declared.Event.{Event}
use Rattle.event_schedule.specs.Schedule.{Shape, members_of, is_reading_taken, is_announced, is_answer_sent, survivors}
use Rattle.group_book.specs.Books.{BookView, shape_of, past, IsAnnounced}
use Rattle.ideal_masks.specs.declared.chain.Chain.{Chain}
use Rattle.ideal_masks.specs.Pools.{Pool, pool_of, others, others_answered}
use Rattle.ideal_masks.specs.Chains.{IsChain}

filter-both : (p q : ℕ → Bool) (xs : List ℕ) → filter q (filter p xs) ≡ filter (λ i. p i && q i) xs
filter-both p q [] = refl
filter-both p q (x ∷ xs) = step (p x) (filter-both p q xs)
  where
    step : (c : Bool) → filter q (filter p xs) ≡ filter (λ i. p i && q i) xs → filter q (cond c (x ∷ filter p xs) (filter p xs)) ≡ cond (c && q x) (x ∷ filter (λ i. p i && q i) xs) (filter (λ i. p i && q i) xs)
    step true e = ap (λ l. cond (q x) (x ∷ l) l) e
    step false e = e

-- what a test takes of all that stand in a part of a list
pub of_part : (p t b : ℕ → Bool) (xs : List ℕ) → filter (λ i. is_member i (filter t (filter p xs)) && b i) xs ≡ filter b (filter t (filter p xs))
of_part p t b xs =
    same_filter (λ i. is_member i (filter t (filter p xs)) && b i) (λ i. (p i && t i) && b i) xs
    (λ i inside. ap (λ c. c && b i) (is_member-filter t i (filter p xs) ∙ ap (λ c. c && t i) (is_member-filter p i xs ∙ ap (λ c. c && p i) inside)))
    ∙ sym (filter-both (λ i. p i && t i) b xs)
    ∙ ap (filter b) (sym (filter-both p t xs))

-- those outside the pool, taken away from the survivors
pub outside-filter : (k t : ℕ → Bool) (xs : List ℕ) → filter (λ i. not (k i)) (filter t xs) ≡ filter (λ i. not (k i) && t i) xs
outside-filter k t [] = refl
outside-filter k t (x ∷ xs) = step (t x) (k x) refl (filter t xs) (filter (λ i. not (k i) && t i) xs) (outside-filter k t xs)
  where
    step : (c d : Bool) → k x ≡ d → (a o : List ℕ) → filter (λ i. not (k i)) a ≡ o → filter (λ i. not (k i)) (cond c (x ∷ a) a) ≡ cond (not d && c) (x ∷ o) o
    step true true is a o e = ap (λ b. cond (not b) (x ∷ filter (λ i. not (k i)) a) (filter (λ i. not (k i)) a)) is ∙ e
    step true false is a o e = ap (λ b. cond (not b) (x ∷ filter (λ i. not (k i)) a) (filter (λ i. not (k i)) a)) is ∙ ap (λ l. x ∷ l) e
    step false true is a o e = e
    step false false is a o e = e

pub others-are : (sets : List (List ℕ)) (s : Shape) (g r : ℕ) (p : List Event) (known a o : List ℕ) → known ≡ slice_index_or sets g [] → a ≡ survivors s g r p → o ≡ less a known → o ≡ others (pool_of sets) s g r p
others-are sets s g r p known a o known_is a_is o_is =
    o_is ∙ ap (λ l. less l known) a_is ∙ ap (less (survivors s g r p)) known_is
    ∙ outside-filter (λ i. is_member i (slice_index_or sets g [])) (λ i. is_reading_taken s g r i p) (members_of s g r)

pub chain-is : (pool : Pool) (s : Shape) (g r : ℕ) (p : List Event) (c : Chain) → is_announced s g r p ≡ true → c.others ≡ others pool s g r p
    → c.answered ≡ filter (λ i. is_answer_sent s g r i p) c.others → c.end ≡ slice_get (less c.others c.answered) 0 → IsChain pool s g r p (Some c)
chain-is pool s g r p c announced others_are answered_are end_is =
    let answered_of : c.answered ≡ others_answered pool s g r p = answered_are ∙ ap (filter (λ i. is_answer_sent s g r i p)) others_are in
    record {
      announced = announced;
      others = others_are;
      answered = answered_of;
      end =
          end_is ∙ ap (λ l. slice_get (less l c.answered) 0) others_are ∙ ap (λ l. slice_get (less (others pool s g r p) l) 0) answered_of
          ∙ ap (λ l. slice_get l 0) (less-filter (λ i. is_answer_sent s g r i p) (others pool s g r p));
    }

pub announced_some : (b : BookView) (g r : ℕ) (found : Option (List ℕ)) → IsAnnounced b g r found → is_some found ≡ true → is_announced (shape_of b) g r (past b) ≡ true
announced_some b g r (Some set) is some = is.0
announced_some b g r None is some = absurd (false≢true some)
