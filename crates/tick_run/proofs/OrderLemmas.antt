-- Later entries keep the order.
use Rattle.std.proofs.Common.{◌≡◌, ℕ, ◌+◌, ◌<◌, ◌≤◌, List, [], ◌∷◌, ◌++◌, arith}
use Rattle.std.specs.List.{All}
use Rattle.std.proofs.lemmas.List.Elements.{All-head, All-tail}
use Rattle.event_schedule.specs.declared.Entry.{Entry}
use Rattle.run_rows.specs.Ticks.{moment, IsOrdered, NoneBefore}

none_before : (m k : ℕ) (ys : List Entry) → m ≤ k → All (λ e. moment e ≡ k) ys → NoneBefore m ys
none_before m k [] le all = tt
none_before m k (y ∷ ys) le all =
    let here : moment y ≡ k = All-head (λ e. moment e ≡ k) y ys all in
    (omega arith, none_before m k ys le (All-tail (λ e. moment e ≡ k) y ys all))

none_before_append : (m : ℕ) (xs ys : List Entry) → NoneBefore m xs → NoneBefore m ys → NoneBefore m (xs ++ ys)
none_before_append m [] ys a b = b
none_before_append m (x ∷ xs) ys a b = (a.0, none_before_append m xs ys a.1 b)

alike : (k : ℕ) (ys : List Entry) → All (λ e. moment e ≡ k) ys → IsOrdered ys
alike k [] all = tt
alike k (y ∷ ys) all =
    let here : moment y ≡ k = All-head (λ e. moment e ≡ k) y ys all in
    (none_before (moment y) k ys (omega arith) (All-tail (λ e. moment e ≡ k) y ys all), alike k ys (All-tail (λ e. moment e ≡ k) y ys all))

pub ordered-append : (k : ℕ) (xs ys : List Entry) → IsOrdered xs → All (λ e. moment e < k + 1) xs → All (λ e. moment e ≡ k) ys → IsOrdered (xs ++ ys)
ordered-append k [] ys ordered below all = alike k ys all
ordered-append k (x ∷ xs) ys ordered below all =
    let here : moment x < k + 1 = All-head (λ e. moment e < k + 1) x xs below in
    (none_before_append (moment x) xs ys ordered.0 (none_before (moment x) k ys (omega arith) all), ordered-append k xs ys ordered.1 (All-tail (λ e. moment e < k + 1) x xs below) all)
