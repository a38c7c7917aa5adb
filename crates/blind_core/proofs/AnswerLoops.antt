-- The loops over missing meters, and over the meters that answer.
use Rattle.std.proofs.Common.{◌≡◌, ℕ, ◌+◌, ◌≤◌, Bool, true, false, IsTrue, List, [], ◌∷◌, ◌++◌, ◌<◌, nat_lt, suc, drop, length, map, replicate, set, get_or, sum_by, All, refl, sym, ap, ◌∙◌, ⊎_elim, arith, subst}
use Rattle.std.specs.List.{list_all}
use Rattle.std.specs.List.{filter, range_with_len}
use Rattle.std.proofs.lemmas.Bool.{false≢true, and_parts, and_from, cases_Bool, eq-eqb, lt-ltb, ltb-true}
use Rattle.std.proofs.lemmas.List.{length-map, length-replicate}
use Rattle.std.proofs.Math.ListN.{get_or-map}
use Rattle.std.proofs.lemmas.List.FromFn.{length-range_with_len}
use Rattle.std.proofs.lemmas.List.Sums.{sum_by-cons, length-filter, count_by-le-length}
use Rattle.group_plan.specs.Plans.{PlanView}
use Rattle.missing_round.specs.Sets.{IsSet}
use Rattle.missing_round.proofs.SetLemmas.{picked-set}
use Rattle.missing_round.specs.Sets.{is_member}
use Rattle.missing_round.specs.Words.{word, share}
use Rattle.mask_stream.specs.Ends.{is_other, between}
use Rattle.blind_core.specs.Blind.{are_places}
use Rattle.blind_core.specs.Answers.{with_shares, with_all_shares}
use Rattle.blind_core.proofs.PlaceLemmas.{test-member}
use Rattle.blind_core.proofs.ShareLemmas.{others-are_ends}
use Rattle.blind_core.proofs.GroupLemmas.{with_owns-member}
use Rattle.blind_core.proofs.WordLoops.{Owns, owns_next}
use Rattle.blind_core.specs.Rows.{with_owns}

-- the meters that are left, their words and sums, and the sums that are made
pub record Shared (pair : ℕ → ℕ → ℕ) (missing : ℕ) (is_end : ℕ → Bool) (all sums left words now made : List ℕ) : Type 0 where
  pub ends : IsTrue (list_all is_end left)
  pub of_left : words ≡ map (between pair missing) left
  pub long : length now ≡ length left
  pub made_so_far : made ++ with_shares pair missing left now ≡ with_shares pair missing all sums
  pub few : length made + length left ≤ 256

-- the missing meters that are left, and the sums now
pub record AllShared (pair : ℕ → ℕ → ℕ) (has_place : ℕ → Bool) (meters all own left sums : List ℕ) : Type 0 where
  pub apart : (i : ℕ) → is_member i meters ≡ true → is_member i left ≡ false
  pub places : IsTrue (list_all has_place left)
  pub long : length sums ≡ length meters
  pub shared : with_all_shares pair left meters sums ≡ with_all_shares pair all meters own

-- ---- lengths

length-with_shares : (pair : ℕ → ℕ → ℕ) (j : ℕ) (meters sums : List ℕ) → length sums ≡ length meters → length (with_shares pair j meters sums) ≡ length meters
unfolding with_shares
length-with_shares pair j [] sums e = refl
length-with_shares pair j (i ∷ meters) [] e = absurd (omega (arith, e))
length-with_shares pair j (i ∷ meters) (sum ∷ sums) e = grind (arith, length-with_shares pair j meters sums (omega (arith, e)))

-- ---- the loop over meters

-- a set has at most 256 members
few_of : (n : ℕ) (p : ℕ → Bool) (xs : List ℕ) → filter p (range_with_len 0 n) ≡ xs → length xs ≤ n
few_of n p xs e =
    omega (arith, ap length e, length-filter p (range_with_len 0 n), count_by-le-length p (range_with_len 0 n), length-range_with_len 0 n)

few : (xs : List ℕ) → IsSet xs → length xs ≤ 256
few xs h = few_of 256 (λ i. is_member i xs) xs (picked-set xs h)

-- nothing is made yet
pub shared_begins : (pair : ℕ → ℕ → ℕ) (missing : ℕ) (is_end : ℕ → Bool) (all sums left words made : List ℕ) → left ≡ all → IsSet all → IsTrue (list_all is_end all)
    → words ≡ map (between pair missing) all → length sums ≡ length all → made ≡ [] → Shared pair missing is_end all sums left words sums made
shared_begins pair missing is_end all sums left words made e is_set ends are long none =
    subst (λ (l : List ℕ). Shared pair missing is_end all sums l words sums made) (sym e)
    (subst (λ (m : List ℕ). Shared pair missing is_end all sums all words sums m) (sym none)
    (record { ends = ends; of_left = are; long = long; made_so_far = refl; few = omega (arith, few all is_set) }))

-- ---- the loop over missing meters

pub all_shared_begins : (pair : ℕ → ℕ → ℕ) (own : ℕ → ℕ) (has_place : ℕ → Bool) (meters all left sums : List ℕ) → left ≡ all
    → ((i : ℕ) → is_member i meters ≡ true → is_member i all ≡ false) → IsTrue (list_all has_place all) → sums ≡ map own meters
    → AllShared pair has_place meters all (map own meters) left sums
all_shared_begins pair own has_place meters all left sums e apart places are =
    subst (λ (l : List ℕ). AllShared pair has_place meters all (map own meters) l sums) (sym e)
    (record { apart = apart; places = places; long = ap length are ∙ length-map meters own; shared = ap (with_all_shares pair all meters) are })

-- the first missing meter is the other end of a pair with each of the meters
pub first-is_apart : (plan : PlanView) (g r : ℕ) (meters left rest : List ℕ) (j : ℕ) → left ≡ j ∷ rest
    → ((i : ℕ) → is_member i meters ≡ true → is_member i left ≡ false) → IsTrue (are_places plan g r meters) → IsTrue (list_all (is_other plan g r j) meters)
first-is_apart plan g r meters left rest j e apart places =
    others-are_ends plan g r j meters places (⊎_elim
    (λ member. absurd (false≢true (sym (apart j member) ∙ ap (is_member j) e ∙ grind (arith, eq-eqb j j refl))))
    (λ other. other)
    (cases_Bool (is_member j meters)))

-- its shares are added
pub all_shared_next : (pair : ℕ → ℕ → ℕ) (has_place : ℕ → Bool) (meters all own left rest sums after : List ℕ) (j : ℕ) → left ≡ j ∷ rest
    → AllShared pair has_place meters all own left sums → after ≡ with_shares pair j meters sums → AllShared pair has_place meters all own rest after
unfolding with_all_shares
all_shared_next pair has_place meters all own left rest sums after j e now made =
    let here : AllShared pair has_place meters all own (j ∷ rest) sums = subst (λ (l : List ℕ). AllShared pair has_place meters all own l sums) e now in
    record {
      apart = λ i member. grind (arith, here.apart i member);
      places = (and_parts (has_place j) (list_all has_place rest) here.places).1;
      long = ap length made ∙ length-with_shares pair j meters sums here.long;
      shared = ap (with_all_shares pair rest meters) made ∙ here.shared;
    }

-- ---- what the loops come to

-- the shares with one missing meter
shares-map : (pair : ℕ → ℕ → ℕ) (j : ℕ) (f : ℕ → ℕ) (meters : List ℕ) → with_shares pair j meters (map f meters) ≡ map (λ i. word (f i + share pair i j)) meters
unfolding with_shares
shares-map pair j f [] = refl
shares-map pair j f (i ∷ meters) = ap (λ l. word (f i + share pair i j) ∷ l) (shares-map pair j f meters)

words-map : (f g : ℕ → ℕ) (meters : List ℕ) → ((i : ℕ) → word (f i) ≡ word (g i)) → map word (map f meters) ≡ map (λ i. word (g i)) meters
words-map f g [] same = refl
words-map f g (i ∷ meters) same = grind (arith, same i, words-map f g meters same)

same-map : (f g : ℕ → ℕ) (meters : List ℕ) → ((i : ℕ) → f i ≡ g i) → map f meters ≡ map g meters
same-map f g [] same = refl
same-map f g (i ∷ meters) same = grind (arith, same i, same-map f g meters same)

step : (a s t : ℕ) → word (word (a + s) + t) ≡ word (a + (s + t))
step a s t = omega arith

-- the shares with all missing meters
pub all-shares : (pair : ℕ → ℕ → ℕ) (missing : List ℕ) (f : ℕ → ℕ) (meters : List ℕ)
    → map word (with_all_shares pair missing meters (map f meters)) ≡ map (λ i. word (f i + sum_by (share pair i) missing)) meters
unfolding with_all_shares
all-shares pair [] f meters = words-map f (λ i. f i + 0) meters (λ i. omega arith)
all-shares pair (j ∷ missing) f meters =
    ap (λ l. map word (with_all_shares pair missing meters l)) (shares-map pair j f meters)
    ∙ all-shares pair missing (λ i. word (f i + share pair i j)) meters
    ∙ same-map (λ i. word (word (f i + share pair i j) + sum_by (share pair i) missing)) (λ i. word (f i + sum_by (share pair i) (j ∷ missing))) meters
    (λ i. step (f i) (share pair i j) (sum_by (share pair i) missing) ∙ ap (λ n. word (f i + n)) (sym (sum_by-cons (share pair i) j missing)))

-- ---- each word at its meter's place

-- the members of a set are among 256 places
within_256 : (xs : List ℕ) → All (λ i. i < 256) xs → IsTrue (list_all (λ j. nat_lt j 256) xs)
within_256 [] h = refl
within_256 (x ∷ xs) h = and_from (nat_lt x 256) (list_all (λ j. nat_lt j 256) xs) (lt-ltb x 256 (h 0 0 (omega arith))) (within_256 xs (λ k d l. h (suc k) d (omega (arith, l))))

-- no word stands at its place
pub spread_begins : (f : ℕ → ℕ) (meters left sums : List ℕ) → left ≡ meters → IsSet meters → map word sums ≡ map f meters
    → Owns f meters (replicate 256 0) left (replicate 256 0) (map word sums)
spread_begins f meters left sums e is_set are =
    subst (λ (l : List ℕ). Owns f meters (replicate 256 0) l (replicate 256 0) (map word sums)) (sym e)
    (record {
      within = subst (λ (n : ℕ). IsTrue (list_all (λ j. nat_lt j n) meters)) (sym (length-replicate {A = ℕ} 256 0)) (within_256 meters is_set.small);
      of_left = are;
      put = refl;
    })

-- the next word is put
pub spread_next : (f : ℕ → ℕ) (meters left rest sums now : List ℕ) (place i w : ℕ) → left ≡ i ∷ rest
    → Owns f meters (replicate 256 0) left now (drop place (map word sums)) → w ≡ word (get_or sums place 0)
    → Owns f meters (replicate 256 0) rest (set now i w) (drop (place + 1) (map word sums))
spread_next f meters left rest sums now place i w e owns put =
    subst (λ (n : ℕ). Owns f meters (replicate 256 0) rest (set now i n) (drop (place + 1) (map word sums)))
    (get_or-map word sums place 0 ∙ sym put)
    (owns_next f meters (replicate 256 0) left now (map word sums) place i rest owns e)

-- each word stands at its place
pub spread_ends : (f : ℕ → ℕ) (meters left now words : List ℕ) → left ≡ [] → IsSet meters → Owns f meters (replicate 256 0) left now words
    → (i : ℕ) → is_member i meters ≡ true → get_or now i 0 ≡ f i
unfolding with_owns
spread_ends f meters left now words e is_set owns i member =
    let all : now ≡ with_owns f meters (replicate 256 0) = sym (ap (λ l. with_owns f l now) e) ∙ owns.put in
    let inside : i < 256 = ltb-true i 256 (test-member (λ j. nat_lt j 256) i meters (within_256 meters is_set.small) member) in
    ap (λ l. get_or l i 0) all ∙ with_owns-member f meters (replicate 256 0) i (omega (arith, inside, length-replicate {A = ℕ} 256 0)) member
