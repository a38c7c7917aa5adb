-- A rack over many calls.
use Rattle.std.proofs.Common.{◌≡◌, ◌∙◌, sym, ap, refl, ℕ, ◌+◌, ◌≤◌, nat_le, Bool, true, false, cond, ◌&&◌, List, [], ◌∷◌, ◌++◌, map, append_assoc, append-nil, arith}
use Rattle.std.specs.List.{filter}
use Rattle.std.proofs.lemmas.List.{map-append}
use Rattle.std.proofs.lemmas.List.Sums.{sum_by-cons}
use Rattle.std.proofs.lemmas.Bool.Decides.{nat_tests}
use Rattle.group_plan.specs.declared.tag.Tag.{Tag}
use Rattle.link_lanes.specs.declared.Post.{Post}
use Rattle.link_lanes.specs.Lanes.{Slot, counted, hangs_at, answer_at, fate_through, after_post, after_posts, lasts}
use Rattle.link_lanes.specs.Histories.{Step, Passed, Hung, Retired, slots_after, posts_made, hung_since, RetiresBy}

-- a lane that has counted no post more
after_no_posts : (slots : List Slot) → map (after_posts []) slots ≡ slots
after_no_posts [] = refl
after_no_posts (s ∷ slots) =
    let n : s.lane.count + 0 ≡ s.lane.count = omega arith in
    ap (λ (m : ℕ). (record s { lane = record s.lane { count = m } }) ∷ map (after_posts []) slots) n ∙ ap (λ (l : List Slot). s ∷ l) (after_no_posts slots)

-- a post, and then more posts
after_one : (s : Slot) (p : Post) (posts : List Post) → after_posts posts (after_post p.tick s) ≡ after_posts (p ∷ posts) s
after_one s p posts = by_case (hangs_at p.tick s) refl
  where
    by_case : (c : Bool) → hangs_at p.tick s ≡ c → after_posts posts (cond c (record s { lane = counted s.lane }) s) ≡ after_posts (p ∷ posts) s
    by_case true is =
        ap (λ (n : ℕ). record s { lane = record s.lane { count = n } })
        (omega (arith, sum_by-cons (λ (q : Post). cond {A = ℕ} (hangs_at q.tick s) 1 0) p posts, ap (λ b. cond {A = ℕ} b 1 0) is))
    by_case false is =
        ap (λ (n : ℕ). record s { lane = record s.lane { count = n } })
        (omega (arith, sum_by-cons (λ (q : Post). cond {A = ℕ} (hangs_at q.tick s) 1 0) p posts, ap (λ b. cond {A = ℕ} b 1 0) is))

after_one_all : (slots : List Slot) (p : Post) (posts : List Post) → map (after_posts posts) (map (after_post p.tick) slots) ≡ map (after_posts (p ∷ posts)) slots
after_one_all [] p posts = refl
after_one_all (s ∷ slots) p posts =
    ap (λ (x : Slot). x ∷ map (after_posts posts) (map (after_post p.tick) slots)) (after_one s p posts)
    ∙ ap (λ (l : List Slot). after_posts (p ∷ posts) s ∷ l) (after_one_all slots p posts)

fate_through-append : (tick : ℕ) (tag : Tag) (xs ys : List Slot) (coming : List ℕ) → fate_through tick tag (xs ++ ys) coming ≡ fate_through tick tag ys (fate_through tick tag xs coming)
fate_through-append tick tag [] ys coming = refl
fate_through-append tick tag (s ∷ xs) ys coming = fate_through-append tick tag xs ys (answer_at tick tag s coming)

-- a lane whose span ended before an earlier tick has no answer
retired_alike : (t tick : ℕ) (tag : Tag) (posts : List Post) (slots : List Slot) (coming : List ℕ) → t ≤ tick
    → fate_through tick tag (map (after_posts posts) (filter (lasts t) slots)) coming ≡ fate_through tick tag (map (after_posts posts) slots) coming
retired_alike t tick tag posts [] coming le = refl
retired_alike t tick tag posts (s ∷ slots) coming le =
    by_case (lasts t s) refl (λ z. retired_alike t tick tag posts slots z le)
  where
    gone : lasts t s ≡ false → coming ≡ answer_at tick tag (after_posts posts s) coming
    gone ended =
        let late : nat_le tick s.to ≡ false = grind (arith, nat_tests) in
        sym (ap (λ b. cond (nat_le s.from tick && b) (s.lane.answer (after_posts posts s).lane.count tag coming) coming) late ∙ off (nat_le s.from tick))
      where
        off : (b : Bool) → cond (b && false) (s.lane.answer (after_posts posts s).lane.count tag coming) coming ≡ coming
        off true = refl
        off false = refl

    by_case : (c : Bool) → lasts t s ≡ c
        → ((z : List ℕ) → fate_through tick tag (map (after_posts posts) (filter (lasts t) slots)) z ≡ fate_through tick tag (map (after_posts posts) slots) z)
        → fate_through tick tag (map (after_posts posts) (cond c (s ∷ filter (lasts t) slots) (filter (lasts t) slots))) coming ≡ fate_through tick tag (map (after_posts posts) slots) (answer_at tick tag (after_posts posts s) coming)
    by_case true is later = later (answer_at tick tag (after_posts posts s) coming)
    by_case false is later = later coming ∙ ap (fate_through tick tag (map (after_posts posts) slots)) (gone is)

pub fates_by_posts_since : (slots : List Slot) (steps : List Step) (tick : ℕ) (tag : Tag) (coming : List ℕ) → RetiresBy tick steps
    → fate_through tick tag (slots_after slots steps) coming ≡ fate_through tick tag (map (after_posts (posts_made steps)) slots ++ hung_since steps) coming
fates_by_posts_since slots [] tick tag coming by =
    ap (λ (l : List Slot). fate_through tick tag l coming) (sym (append-nil (map (after_posts []) slots) ∙ after_no_posts slots))
fates_by_posts_since slots (Passed p ∷ steps) tick tag coming by =
    fates_by_posts_since (map (after_post p.tick) slots) steps tick tag coming by
    ∙ ap (λ (l : List Slot). fate_through tick tag (l ++ hung_since steps) coming) (after_one_all slots p (posts_made steps))
fates_by_posts_since slots (Hung s ∷ steps) tick tag coming by =
    fates_by_posts_since (slots ++ s ∷ []) steps tick tag coming by
    ∙ ap (λ (l : List Slot). fate_through tick tag l coming)
    (ap (λ (l : List Slot). l ++ hung_since steps) (map-append (after_posts (posts_made steps)) slots (s ∷ []))
    ∙ append_assoc (map (after_posts (posts_made steps)) slots) (after_posts (posts_made steps) s ∷ []) (hung_since steps))
fates_by_posts_since slots (Retired t ∷ steps) tick tag coming by =
    fates_by_posts_since (filter (lasts t) slots) steps tick tag coming by.1
    ∙ fate_through-append tick tag (map (after_posts (posts_made steps)) (filter (lasts t) slots)) (hung_since steps) coming
    ∙ ap (fate_through tick tag (hung_since steps)) (retired_alike t tick tag (posts_made steps) slots coming by.0)
    ∙ sym (fate_through-append tick tag (map (after_posts (posts_made steps)) slots) (hung_since steps) coming)
