-- The members of a round, and sums of their readings.
use Rattle.std.proofs.Common.{◌≡◌, ℕ, ◌<◌, true, length, ⊎_elim, subst, arith, List, ◌*◌, ◌^◌, ◌≤◌, Bool, get_or}
use Rattle.std.specs.Prelude.{slice_get, Option, Some, None, nat_le, nat_lt}
use Rattle.std.proofs.lemmas.List.{get_or_past}
use Rattle.std.proofs.lemmas.Bool.{false≢true, cases_lt, ltb-true}
use Rattle.group_plan.specs.Plans.{Group, size_or, holds, is_member_of, is_member, members}
use Rattle.std.specs.List.{filter}
use Rattle.std.proofs.Math.Nat.{mod-eq_of_lt}
use Rattle.std.proofs.lemmas.List.Sums.{sum_by-le, length-filter, count_by-le-length}
use Rattle.std.proofs.lemmas.List.FromFn.{length-range_with_len}
use Rattle.missing_round.specs.Words.{word, group}
use Rattle.event_schedule.specs.Tables.{Readings, reading_at, plain_sum, IsBounded}
use Rattle.event_schedule.proofs.ListLemmas.{and_last}

never_holds : (r : ℕ) → holds (record { from = 0; until = 0 }) r ≡ true → ⊥
never_holds r h = let lt : r < 0 = ltb-true r 0 (and_last (nat_le 0 r) (nat_lt r 0) h) in omega arith

is_member_of-below : (o : Option Group) (r i : ℕ) → is_member_of o r i ≡ true → i < size_or o
is_member_of-below None r i h = absurd (false≢true h)
is_member_of-below (Some g) r i h =
    ⊎_elim (λ lt. lt) (λ past. absurd (never_holds r (subst (λ z. holds z r ≡ true) (get_or_past g.spans i (record { from = 0; until = 0 }) past) h))) (cases_lt i (length g.spans))

pub is_member-below : (groups : List Group) (g r i : ℕ) → is_member groups g r i ≡ true → i < size_or (slice_get groups g)
is_member-below groups g r i h = is_member_of-below (slice_get groups g) r i h

pub plain_sum_fits : (groups : List Group) (x : Readings) (g r : ℕ) (t : ℕ → Bool) → IsBounded groups x
    → word (plain_sum x g r (filter t (members groups g r))) ≡ plain_sum x g r (filter t (members groups g r))
plain_sum_fits groups x g r t bounded =
    let n : ℕ = size_or (slice_get groups g) in
    let ms : List ℕ = members groups g r in
    let a : List ℕ = filter t ms in
    let count : length a ≤ n = omega (arith, length-filter t ms, count_by-le-length t ms, length-filter (is_member groups g r) (group n), count_by-le-length (is_member groups g r) (group n), length-range_with_len 0 n) in
    let few : n ≤ 256 = bounded.meters g in
    let le : plain_sum x g r a ≤ length a * 2 ^ 40 = sum_by-le (reading_at x g r) (2 ^ 40) a (λ k d below. omega (arith, bounded.readings g r (get_or a k d))) in
    mod-eq_of_lt (omega arith)
