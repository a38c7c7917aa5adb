-- What the head end announces: a round that is announced, with its missing set, to a survivor.
use Rattle.std.proofs.Common.{◌≡◌, ℕ, zero, suc, ◌+◌, ◌-◌, ◌<◌, ◌≤◌, Bool, true, false, not, ◌&&◌, List, [], ◌∷◌, ◌++◌, length, map, refl, arith, ⊎_elim}
use Rattle.std.specs.Prelude.{All, ◌==◌, nat_lt, nat_le, filter, if◌then◌else◌, Some, None}
use Rattle.std.specs.List.{flat_map, range_with_len}
use Rattle.std.proofs.lemmas.Bool.{and_from, and_parts, lt-ltb, ltb-true}
use Rattle.std.proofs.lemmas.List.Elements.{All-nil, All-cons, All-append, All-head, All-tail, All-contains}
use Rattle.group_plan.specs.declared.Kind.TheVariants.{Reading, Announcement, Answer}
use Rattle.group_plan.specs.Plans.{PlanView, size, is_member, members}
use Rattle.meter_frames.specs.declared.Frame.{Frame}
use Rattle.round_machine.specs.declared.Ending.TheVariants as endings
use Rattle.head_end.specs.declared.answers.Logged.{Logged}
use Rattle.head_end.specs.declared.answers.TickLine.{TickLine}
use Rattle.head_end.specs.declared.answers.TickLine.TheVariants.{Lacking, Announce}
use Rattle.head_end.specs.Journal.{is_closed, is_ended, is_taken, survivors, missing, is_announced, lacking, total}
use Rattle.head_end.specs.Replies.{is_known}
use Rattle.head_end.specs.Lines.{announcement, lacking_by, lacking_in, lacking_lines, end_lines, closed_line, announced_lines, close_lines, by_groups, round_before, ended_in, closed_in, tick_lines, again_of, again_lines}
use Rattle.apart_courses.specs.Steps.{IsInTick, IsSaidAgain, IsAnnouncing}

-- an announcement that the journal has
pub record IsAnnounced (plan : PlanView) (j : List Logged) (f : Frame) : Type 0 where
  pub kind : f.tag.kind ≡ Announcement
  pub known : is_known plan f.tag ≡ true
  pub announced : is_announced plan j f.tag.group f.tag.round ≡ true
  pub survivor : is_taken f.tag.group f.tag.round Reading j f.tag.meter ≡ true
  pub set : f.missing ≡ missing plan j f.tag.group f.tag.round
  pub word : f.word ≡ 0

-- where a line announces, the journal has it
abbrev IsRight : PlanView → List Logged → TickLine → Type 0
IsRight plan j (Announce f) = IsAnnounced plan j f
IsRight plan j _ = Unit {0}

-- ---- survivors

-- a member of a round whose reading was taken
record IsSurvivor (plan : PlanView) (j : List Logged) (g r i : ℕ) : Type 0 where
  known : is_member plan.groups g r i ≡ true
  below : i < size plan.groups g
  taken : is_taken g r Reading j i ≡ true

-- one element more, where it passes
one_more : (P : ℕ → Type 0) (b : Bool) (x : ℕ) (xs : List ℕ) → (b ≡ true → P x) → All P xs → All P (if b then x ∷ xs else xs)
one_more P true x xs here later = All-cons P x xs (here refl) later
one_more P false x xs here later = later

-- what passes a test of a range
passing : (P : ℕ → Type 0) (test : ℕ → Bool) (k m n : ℕ) → m + k ≤ n → ((i : ℕ) → i < n → test i ≡ true → P i) → All P (filter test (range_with_len m k))
passing P test zero m n le each = All-nil P
passing P test (suc k) m n le each = one_more P (test m) m (filter test (range_with_len (m + 1) k)) (each m (omega (arith, le))) (passing P test k (m + 1) n (omega (arith, le)) each)

-- a test of elements that have P
narrowed : (P Q : ℕ → Type 0) (test : ℕ → Bool) (xs : List ℕ) → ((i : ℕ) → P i → test i ≡ true → Q i) → All P xs → All Q (filter test xs)
narrowed P Q test [] each all = All-nil Q
narrowed P Q test (x ∷ xs) each all = one_more Q (test x) x (filter test xs) (each x (All-head P x xs all)) (narrowed P Q test xs each (All-tail P x xs all))

record IsMember (plan : PlanView) (g r i : ℕ) : Type 0 where
  known : is_member plan.groups g r i ≡ true
  below : i < size plan.groups g

are_survivors : (plan : PlanView) (j : List Logged) (g r : ℕ) → All (IsSurvivor plan j g r) (survivors plan j g r)
are_survivors plan j g r =
    narrowed (IsMember plan g r) (IsSurvivor plan j g r) (is_taken g r Reading j) (members plan.groups g r)
    (λ i member taken. record { known = member.known; below = member.below; taken = taken })
    (passing (IsMember plan g r) (is_member plan.groups g r) (size plan.groups g) 0 (size plan.groups g) (omega arith) (λ i lt is. record { known = is; below = lt }))

are_lacking : (plan : PlanView) (j : List Logged) (g r : ℕ) → All (IsSurvivor plan j g r) (lacking plan j g r)
are_lacking plan j g r =
    narrowed (IsSurvivor plan j g r) (IsSurvivor plan j g r) (λ i. not (is_taken g r Answer j i)) (survivors plan j g r) (λ i survivor passes. survivor) (are_survivors plan j g r)

-- ---- the announcements of a round

announcements : (plan : PlanView) (j : List Logged) (g r : ℕ) (meters : List ℕ) → r < plan.rounds → is_announced plan j g r ≡ true → All (IsSurvivor plan j g r) meters
    → All (IsRight plan j) (map (announcement g r (missing plan j g r)) meters)
announcements plan j g r [] round is all = All-nil (IsRight plan j)
announcements plan j g r (i ∷ meters) round is all =
    All-cons (IsRight plan j) (announcement g r (missing plan j g r) i) (map (announcement g r (missing plan j g r)) meters) (here (All-head (IsSurvivor plan j g r) i meters all))
    (announcements plan j g r meters round is (All-tail (IsSurvivor plan j g r) i meters all))
  where
    here : IsSurvivor plan j g r i → IsRight plan j (announcement g r (missing plan j g r) i)
    here survivor = record {
      kind = refl;
      known = and_from (nat_lt r plan.rounds && nat_lt i (size plan.groups g)) (is_member plan.groups g r i)
          (and_from (nat_lt r plan.rounds) (nat_lt i (size plan.groups g)) (lt-ltb r plan.rounds round) (lt-ltb i (size plan.groups g) survivor.below)) survivor.known;
      announced = is;
      survivor = survivor.taken;
      set = refl;
      word = refl;
    }

closes_right : (plan : PlanView) (j : List Logged) (r g : ℕ) → r < plan.rounds → All (IsRight plan j) (close_lines plan j r g)
closes_right plan j r g round = All-cons (IsRight plan j) (closed_line plan j r g) (announced_lines plan j r g) tt (by (is_announced plan j g r) refl)
  where
    by : (b : Bool) → is_announced plan j g r ≡ b → All (IsRight plan j) (if b then map (announcement g r (missing plan j g r)) (survivors plan j g r) else [])
    by true is = announcements plan j g r (survivors plan j g r) round is (are_survivors plan j g r)
    by false is = All-nil (IsRight plan j)

lacking_right : (plan : PlanView) (j : List Logged) (g r : ℕ) (set : List ℕ) (row : TickLine) → IsRight plan j row → All (IsRight plan j) (lacking_lines g r set ++ row ∷ [])
lacking_right plan j g r [] row right = All-cons (IsRight plan j) row [] right (All-nil (IsRight plan j))
lacking_right plan j g r (i ∷ set) row right = All-cons (IsRight plan j) (Lacking g r (i ∷ set)) (row ∷ []) tt (All-cons (IsRight plan j) row [] right (All-nil (IsRight plan j)))

ends_right : (plan : PlanView) (j : List Logged) (r g : ℕ) → r < plan.rounds → All (IsRight plan j) (end_lines plan j r g)
ends_right plan j r g round = lacking_right plan j g r (lacking_in plan j g r) _ tt

-- those whose answers lack are survivors of an announced round
again_right : (plan : PlanView) (j : List Logged) (r g : ℕ) → r < plan.rounds → All (IsRight plan j) (again_of plan j r g)
again_right plan j r g round = by_end (is_ended plan j r)
  where
    told : List ℕ → Type 0
    told meters = All (IsRight plan j) (map (announcement g r (missing plan j g r)) meters)

    by_length : (b : Bool) → is_announced plan j g r ≡ true → told (lacking_by (if b then endings.Total (total j g r (survivors plan j g r)) else endings.Lacking (lacking plan j g r)))
    by_length true is = All-nil (IsRight plan j)
    by_length false is = announcements plan j g r (lacking plan j g r) round is (are_lacking plan j g r)

    by_announced : (b : Bool) → is_announced plan j g r ≡ b
        → told (lacking_by (if not b then endings.Thin else if length (lacking plan j g r) == 0 then endings.Total (total j g r (survivors plan j g r)) else endings.Lacking (lacking plan j g r)))
    by_announced true is = by_length (length (lacking plan j g r) == 0) is
    by_announced false is = All-nil (IsRight plan j)

    by_closed : (b : Bool)
        → told (lacking_by (if not b then endings.NotClosed else if not (is_announced plan j g r) then endings.Thin else if length (lacking plan j g r) == 0 then endings.Total (total j g r (survivors plan j g r)) else endings.Lacking (lacking plan j g r)))
    by_closed true = by_announced (is_announced plan j g r) refl
    by_closed false = All-nil (IsRight plan j)

    by_end : (b : Bool) → All (IsRight plan j) (if b then [] else map (announcement g r (missing plan j g r)) (lacking_in plan j g r))
    by_end true = All-nil (IsRight plan j)
    by_end false = by_closed (is_closed plan j r)

-- ---- all groups, and all rounds

all_flat : (P : TickLine → Type 0) (lines : ℕ → List TickLine) (k m n : ℕ) → m + k ≤ n → ((i : ℕ) → i < n → All P (lines i)) → All P (flat_map lines (range_with_len m k))
all_flat P lines zero m n le each = All-nil P
all_flat P lines (suc k) m n le each =
    All-append P (lines m) (flat_map lines (range_with_len (m + 1) k)) (each m (omega (arith, le))) (all_flat P lines k (m + 1) n (omega (arith, le)) each)

groups_right : (plan : PlanView) (j : List Logged) (lines : ℕ → ℕ → List TickLine) (r : ℕ) → ((g : ℕ) → All (IsRight plan j) (lines r g)) → All (IsRight plan j) (by_groups plan lines (Some r))
groups_right plan j lines r each = all_flat (IsRight plan j) (lines r) (length plan.groups) 0 (length plan.groups) (omega arith) (λ g lt. each g)

-- the round of a tick is one of the plan
round_right : (plan : PlanView) (j : List Logged) (lines : ℕ → ℕ → List TickLine) (ago t : ℕ) → ((r g : ℕ) → r < plan.rounds → All (IsRight plan j) (lines r g))
    → All (IsRight plan j) (by_groups plan lines (round_before plan.rounds ago t))
round_right plan j lines ago t each = by (nat_le ago t && nat_lt (t - ago) plan.rounds) refl
  where
    by : (b : Bool) → (nat_le ago t && nat_lt (t - ago) plan.rounds) ≡ b → All (IsRight plan j) (by_groups plan lines (if b then Some (t - ago) else None))
    by true is =
        let few : t - ago < plan.rounds = ltb-true (t - ago) plan.rounds (and_parts (nat_le ago t) (nat_lt (t - ago) plan.rounds) is).1 in
        groups_right plan j lines (t - ago) (λ g. each (t - ago) g few)
    by false is = All-nil (IsRight plan j)

tick_right : (plan : PlanView) (j : List Logged) (t : ℕ) → All (IsRight plan j) (tick_lines plan j t)
tick_right plan j t =
    All-append (IsRight plan j) (ended_in plan j t) (closed_in plan j t) (round_right plan j (end_lines plan j) (plan.w1 + plan.w2) t (ends_right plan j)) (round_right plan j (close_lines plan j) plan.w1 t (closes_right plan j))

all_again_right : (plan : PlanView) (j : List Logged) → All (IsRight plan j) (again_lines plan j)
all_again_right plan j =
    all_flat (IsRight plan j) (λ r. by_groups plan (again_of plan j) (Some r)) plan.rounds 0 plan.rounds (omega arith) (λ r lt. groups_right plan j (again_of plan j) r (λ g. again_right plan j r g lt))

-- what the head end announces, its journal has
pub announced : (plan : PlanView) (j : List Logged) (f : Frame) → IsAnnouncing plan j f → IsAnnounced plan j f
announced plan j f said = ⊎_elim
    (λ (tick : IsInTick plan j f). All-contains (IsRight plan j) (tick_lines plan j tick.0) (Announce f) (tick_right plan j tick.0) tick.2)
    (λ (again : IsSaidAgain plan j f). All-contains (IsRight plan j) (again_lines plan j) (Announce f) (all_again_right plan j) again)
    said
