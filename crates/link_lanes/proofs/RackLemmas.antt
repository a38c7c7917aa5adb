-- A rack step by step.
use Rattle.std.proofs.Common.{◌≡◌, ℕ, ◌+◌, Bool, true, false, cond, ◌&&◌, List, [], ◌∷◌, ◌++◌, map, refl, sym, ap, ◌∙◌, arith}
use Rattle.std.specs.Prelude.{if◌then◌else◌, nat_le}
use Rattle.std.specs.List.{filter, count_by}
use Rattle.std.proofs.lemmas.List.Sums.{sum_by_push}
use Rattle.group_plan.specs.declared.Tag.{Tag}
use Rattle.link_lanes.specs.Lanes.{Slot, hangs_at, answer_at, fate_through, after_post, after_posts, lasts, RackGoesOn}
use Rattle.link_lanes.specs.declared.Post.{Post}

count_more : (p : Post → Bool) (xs : List Post) (x : Post) → count_by p (xs ++ x ∷ []) ≡ count_by p xs + (if p x then 1 else 0)
count_more p xs x = sum_by_push (λ (y : Post). cond {A = ℕ} (p y) 1 0) xs x

one_more : (s : Slot) (before : List Post) (p : Post) → after_post p.tick (after_posts before s) ≡ after_posts (before ++ p ∷ []) s
one_more s before p = by_case (hangs_at p.tick s) refl
  where
    by_case : (c : Bool) → hangs_at p.tick s ≡ c
        → cond c (record s { lane = record s.lane { count = (s.lane.count + count_by (λ q. hangs_at q.tick s) before) + 1 } }) (after_posts before s) ≡ after_posts (before ++ p ∷ []) s
    by_case true is = ap (λ n. record s { lane = record s.lane { count = n } }) (omega (arith, count_more (λ q. hangs_at q.tick s) before p, ap (λ b. cond {A = ℕ} b 1 0) is))
    by_case false is = ap (λ n. record s { lane = record s.lane { count = n } }) (omega (arith, count_more (λ q. hangs_at q.tick s) before p, ap (λ b. cond {A = ℕ} b 1 0) is))

counted : (slots : List Slot) (before : List Post) (p : Post) → map (after_post p.tick) (map (after_posts before) slots) ≡ map (after_posts (before ++ p ∷ [])) slots
counted [] before p = refl
counted (s ∷ slots) before p = ap (λ x. x ∷ map (after_post p.tick) (map (after_posts before) slots)) (one_more s before p) ∙ ap (λ l. after_posts (before ++ p ∷ []) s ∷ l) (counted slots before p)

lasting : (slots : List Slot) (tick : ℕ) (tag : Tag) (coming : List ℕ) → fate_through tick tag (filter (lasts tick) slots) coming ≡ fate_through tick tag slots coming
lasting [] tick tag coming = refl
lasting (s ∷ slots) tick tag coming = by_case (lasts tick s) refl (lasting slots tick tag)
  where
    gone : lasts tick s ≡ false → coming ≡ answer_at tick tag s coming
    gone none = sym (ap (λ b. cond b (s.lane.answer s.lane.count tag coming) coming) (ap (λ b. nat_le s.from tick && b) none ∙ off (nat_le s.from tick)))
      where
        off : (b : Bool) → (b && false) ≡ false
        off true = refl
        off false = refl

    by_case : (c : Bool) → lasts tick s ≡ c → ((z : List ℕ) → fate_through tick tag (filter (lasts tick) slots) z ≡ fate_through tick tag slots z) → fate_through tick tag (cond c (s ∷ filter (lasts tick) slots) (filter (lasts tick) slots)) coming ≡ fate_through tick tag slots (answer_at tick tag s coming)
    by_case true is later = later (answer_at tick tag s coming)
    by_case false is later = later coming ∙ ap (fate_through tick tag slots) (gone is)

pub racks : (slots : List Slot) → RackGoesOn slots
racks slots = record { counted = counted slots; lasting = lasting slots }
