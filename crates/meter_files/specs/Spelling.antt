-- The texts of a meter file and of the head of a meter's journal.
use Rattle.std.specs.Prelude.{ℕ, ◌==◌, nat_lt, if◌then◌else◌, List, [], ◌∷◌, ◌++◌, codes, decimal, Option}
use Rattle.std.specs.List.{flat_map, range_with_len}
use Rattle.group_plan.specs.Plans.{PlanView, size, name_of, floor_of}
use Rattle.group_plan.specs.declared.plan.members.Span.{Span}
use Rattle.pair_keys.specs.Keys.{Keys}
use Rattle.pair_keys.specs.declared.KeyId.{KeyId}
use Rattle.pair_keys.specs.declared.KeyId.TheVariants.{Own, Pair}
use Rattle.plan_files.specs.PlainRows.{file_text}
use Rattle.plan_files.specs.Spelling.{key_text}
use Rattle.transcript_text.specs.Spelling.{is_partial, span_at}

-- ---- what a meter has of its plan

abbrev pub rounds_row : PlanView → List (List ℕ)
rounds_row plan = codes "rounds" ∷ decimal plan.rounds ∷ []

-- the group at place p of the plan, which frames name by g
abbrev pub group_row : PlanView → (p g : ℕ) → List (List ℕ)
group_row plan p g = codes "group" ∷ decimal g ∷ name_of plan.groups p ∷ decimal (size plan.groups p) ∷ decimal (floor_of plan.groups p) ∷ []

-- the meter itself
abbrev pub self_row : ℕ → List (List ℕ)
self_row i = codes "self" ∷ decimal i ∷ []

-- the rounds, the group and the meter itself
abbrev pub part_rows : PlanView → (p g i : ℕ) → List (List (List ℕ))
part_rows plan p g i = rounds_row plan ∷ group_row plan p g ∷ self_row i ∷ []

-- the rounds in which a meter is a member
abbrev pub member_row : Span → List (List ℕ)
member_row span = codes "member" ∷ decimal span.meter ∷ decimal span.from ∷ decimal span.until ∷ []

-- a row for a meter that isn't a member in all rounds
abbrev pub member_rows_of : PlanView → (p j : ℕ) → List (List (List ℕ))
member_rows_of plan p j = if is_partial plan.rounds (span_at plan p j) then member_row (span_at plan p j) ∷ [] else []

-- the rows of these meters of the group at place p
unfoldable pub member_rows : PlanView → ℕ → List (List (List ℕ))
member_rows plan p = flat_map (member_rows_of plan p) (range_with_len 0 (size plan.groups p))

-- ---- its keys

abbrev pub own_row : Option (List ℕ) → List (List ℕ)
own_row key = codes "own" ∷ key_text key ∷ []

-- the key of the pair with meter j
abbrev pub pair_row : ℕ → Option (List ℕ) → List (List ℕ)
pair_row j key = codes "pair" ∷ decimal j ∷ key_text key ∷ []

-- two meters of group g, the lower one first
abbrev pub pair_of : (g i j : ℕ) → KeyId
pair_of g i j = if nat_lt i j then Pair g i j else Pair g j i

-- a row for each other meter
abbrev pub pair_rows_of : Keys → (g i j : ℕ) → List (List (List ℕ))
pair_rows_of keys g i j = if j == i then [] else pair_row j (keys.key (pair_of g i j)) ∷ []

-- the rows of the pairs of meter i with the others of group g
unfoldable pub pair_rows : Keys → (g i : ℕ) → List (List (List ℕ))
pair_rows keys g i = flat_map (pair_rows_of keys g i) (range_with_len 0 (size keys.plan.groups g))

-- ---- the two texts

abbrev pub title_row : List (List ℕ)
title_row = codes "meter" ∷ codes "1" ∷ []

-- the rows of the meter file of meter i of group g
unfoldable pub meter_rows : Keys → (g i : ℕ) → List (List (List ℕ))
meter_rows keys g i = title_row ∷ (part_rows keys.plan g g i ++ (own_row (keys.key (Own g i)) ∷ (pair_rows keys g i ++ member_rows keys.plan g)))

-- the text of this meter file
abbrev pub meter_text : Keys → (g i : ℕ) → List ℕ
meter_text keys g i = file_text (meter_rows keys g i)

-- the head of the journal of meter i of the group at place p of the plan, which frames name by g
unfoldable pub journal_head : PlanView → (p g i : ℕ) → List ℕ
journal_head plan p g i = codes "meteragg meter journal 1\n" ++ (file_text (part_rows plan p g i) ++ (file_text (member_rows plan p) ++ codes "begin\n"))
