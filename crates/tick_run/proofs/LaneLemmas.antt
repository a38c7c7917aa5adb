-- The lanes that hang while a run goes on.
use Rattle.std.proofs.Common.{◌≡◌, ℕ, ◌+◌, ◌≤◌, Bool, true, false, cond, List, [], ◌∷◌, ◌++◌, map, refl, sym, ap, ◌∙◌, arith}
use Rattle.std.specs.Prelude.{nat_le}
use Rattle.std.specs.List.{filter}
use Rattle.std.proofs.lemmas.Bool.Decides.{nat_tests}
use Rattle.group_plan.specs.declared.Tag.{Tag}
use Rattle.link_lanes.specs.Lanes.{Slot, hangs_at, fate_through, fate_after, after_post, after_posts, lasts}
use Rattle.link_lanes.specs.declared.Post.{Post}
use Rattle.link_lanes.proofs.RackLemmas.{racks}
use Rattle.tick_run.specs.OnTheWay.{AreLanesAt}

-- what hangs at first
pub lanes-start : (slots : List Slot) → AreLanesAt slots [] 0 slots
lanes-start slots = record { since = 0; not_later = omega arith; are = all slots ∙ ap (filter (lasts 0)) (sym (mapped slots)) }
  where
    from_zero : (a : ℕ) → nat_le 0 a ≡ true
    from_zero a = grind (arith, nat_tests)

    all : (xs : List Slot) → xs ≡ filter (lasts 0) xs
    all [] = refl
    all (x ∷ xs) = ap (λ l. x ∷ l) (all xs) ∙ sym (ap (λ b. cond b (x ∷ filter (lasts 0) xs) (filter (lasts 0) xs)) (from_zero x.to))

    untouched : (x : Slot) → after_posts [] x ≡ x
    untouched x = let same : x.lane.count + 0 ≡ x.lane.count = omega arith in ap (λ n. record x { lane = record x.lane { count = n } }) same

    mapped : (xs : List Slot) → map (after_posts []) xs ≡ xs
    mapped [] = refl
    mapped (x ∷ xs) = ap (λ y. y ∷ map (after_posts []) xs) (untouched x) ∙ ap (λ l. x ∷ l) (mapped xs)

filter_twice : (t u : ℕ) (xs : List Slot) → u ≤ t → filter (lasts t) (filter (lasts u) xs) ≡ filter (lasts t) xs
filter_twice t u [] le = refl
filter_twice t u (x ∷ xs) le = step (lasts u x) refl (filter_twice t u xs le)
  where
    gone : (a : ℕ) → nat_le u a ≡ false → nat_le t a ≡ false
    gone a h = grind (arith, nat_tests)

    step : (b : Bool) → lasts u x ≡ b → filter (lasts t) (filter (lasts u) xs) ≡ filter (lasts t) xs → filter (lasts t) (cond b (x ∷ filter (lasts u) xs) (filter (lasts u) xs)) ≡ filter (lasts t) (x ∷ xs)
    step true is later = ap (λ l. cond (lasts t x) (x ∷ l) l) later
    step false is later = later ∙ sym (ap (λ b. cond b (x ∷ filter (lasts t) xs) (filter (lasts t) xs)) (gone x.to is))

-- some are let go
pub lanes-retired : (slots : List Slot) (posts : List Post) (t : ℕ) (lanes : List Slot) → AreLanesAt slots posts t lanes → filter (lasts t) lanes ≡ filter (lasts t) (map (after_posts posts) slots)
lanes-retired slots posts t lanes at = ap (filter (lasts t)) at.are ∙ filter_twice t at.since (map (after_posts posts) slots) at.not_later

-- the fate that the lanes that are left give is that of all lanes
pub lanes-fate : (slots : List Slot) (posts : List Post) (t : ℕ) (tag : Tag) (lanes : List Slot) → lanes ≡ filter (lasts t) (map (after_posts posts) slots)
    → fate_through t tag lanes (1 ∷ []) ≡ fate_after slots posts t tag
lanes-fate slots posts t tag lanes are =
    ap (λ l. fate_through t tag l (1 ∷ [])) are ∙ (racks (map (after_posts posts) slots)).lasting t tag (1 ∷ [])

posted_last : (t u : ℕ) (x : Slot) → lasts t (after_post u x) ≡ lasts t x
posted_last t u x = step (hangs_at u x)
  where
    step : (b : Bool) → lasts t (cond b (record x { lane = record x.lane { count = x.lane.count + 1 } }) x) ≡ lasts t x
    step true = refl
    step false = refl

map_filter : (t u : ℕ) (xs : List Slot) → map (after_post u) (filter (lasts t) xs) ≡ filter (lasts t) (map (after_post u) xs)
map_filter t u [] = refl
map_filter t u (x ∷ xs) = step (lasts t x) refl (map_filter t u xs)
  where
    step : (b : Bool) → lasts t x ≡ b → map (after_post u) (filter (lasts t) xs) ≡ filter (lasts t) (map (after_post u) xs)
        → map (after_post u) (cond b (x ∷ filter (lasts t) xs) (filter (lasts t) xs)) ≡ filter (lasts t) (map (after_post u) (x ∷ xs))
    step true is later =
        ap (λ l. after_post u x ∷ l) later
        ∙ sym (ap (λ b. cond b (after_post u x ∷ filter (lasts t) (map (after_post u) xs)) (filter (lasts t) (map (after_post u) xs))) (posted_last t u x ∙ is))
    step false is later =
        later ∙ sym (ap (λ b. cond b (after_post u x ∷ filter (lasts t) (map (after_post u) xs)) (filter (lasts t) (map (after_post u) xs))) (posted_last t u x ∙ is))

-- one more post at this tick
pub lanes-posted : (slots : List Slot) (posts : List Post) (p : Post) (lanes : List Slot) → lanes ≡ filter (lasts p.tick) (map (after_posts posts) slots)
    → map (after_post p.tick) lanes ≡ filter (lasts p.tick) (map (after_posts (posts ++ p ∷ [])) slots)
lanes-posted slots posts p lanes are =
    ap (map (after_post p.tick)) are ∙ map_filter p.tick p.tick (map (after_posts posts) slots) ∙ ap (filter (lasts p.tick)) ((racks slots).counted posts p)
