-- KNOWN: the meters that share what they know, as a word names them.
use Rattle.std.specs.Prelude.{◌≡◌, ℕ, ◌==◌, nat_lt, Bool, true, false, ◌&&◌, ◌||◌, if◌then◌else◌, List, [], ◌∷◌, Option, None, Some, Vec, slice_index_or, codes}
use Rattle.std.specs.declared.alloc.Global.{Global}
use Rattle.std.specs.List.{list_all, list_any}
use Rattle.std.specs.Str.{bytes_eq}
use Rattle.field_texts.specs.Numbers.{number_of, within}
use Rattle.field_texts.specs.Parts.{parts}
use Rattle.group_plan.specs.Plans.{PlanView, size}
use Rattle.missing_round.specs.Sets.{is_member}
use Rattle.command_words.specs.declared.known.KnownMeter.{KnownMeter}

-- ---- a meter

-- the meter of two numbers
abbrev pub meter_by : (group meter : Option ℕ) → Option KnownMeter
meter_by (Some group) (Some meter) = Some (record { group = group; meter = meter })
meter_by _ _ = None

-- the meter that two parts name: its group, and its number in it, each below 256
abbrev pub meter_in : List (List ℕ) → Option KnownMeter
meter_in (group ∷ meter ∷ []) = meter_by (within 0 256 (number_of group)) (within 0 256 (number_of meter))
meter_in _ = None

-- the meter that a text names: two parts with a point between them
abbrev pub meter_of : List ℕ → Option KnownMeter
meter_of text = meter_in (parts 46 text)

-- ---- all of them

-- by group, and then by number, a meter comes after the last one, where there is one
abbrev pub comes_after : Option KnownMeter → KnownMeter → Bool
comes_after None m = true
comes_after (Some last) m = nat_lt last.group m.group || ((last.group == m.group) && nat_lt last.meter m.meter)

-- a meter, where it comes after the last one
abbrev pub after_last : Option KnownMeter → Option KnownMeter → Option KnownMeter
after_last last None = None
after_last last (Some m) = if comes_after last m then Some m else None

-- a meter in front of others
abbrev pub in_front : KnownMeter → Option (List KnownMeter) → Option (List KnownMeter)
in_front m None = None
in_front m (Some ms) = Some (m ∷ ms)

-- a meter, then what follows it
abbrev pub with_meter : Option KnownMeter → (KnownMeter → Option (List KnownMeter)) → Option (List KnownMeter)
with_meter None rest = None
with_meter (Some m) rest = in_front m (rest m)

-- meters that ascend behind the last one
unfoldable pub ascending : Option KnownMeter → List (List ℕ) → Option (List KnownMeter)
ascending last [] = Some []
ascending last (p ∷ ps) = with_meter (after_last last (meter_of p)) (λ m. ascending (Some m) ps)

-- the meters that a word names: `-` for nobody, or meters that ascend, each once, joined by `+`
unfoldable pub known_of : List ℕ → Option (List KnownMeter)
known_of word = if bytes_eq word (codes "-") then Some [] else ascending None (parts 43 word)

-- these meters, and nobody where there are none
abbrev pub or_nobody : Option (List KnownMeter) → List KnownMeter
or_nobody None = []
or_nobody (Some known) = known

-- the meters that a word names, and nobody where it names none
abbrev pub known_in : List ℕ → List KnownMeter
known_in word = or_nobody (known_of word)

-- the word names meters, or nobody
abbrev pub IsKnown : List ℕ → Type 0
IsKnown word = known_of word ≡ Some (known_in word)

-- ---- who they are

-- whether meter i of group g is this one
abbrev pub is_this : ℕ → ℕ → KnownMeter → Bool
is_this g i m = (m.group == g) && (m.meter == i)

-- whether meter i of group g is one of them
abbrev pub is_known : List KnownMeter → ℕ → ℕ → Bool
is_known known g i = list_any (is_this g i) known

-- whether the plan has the meter
abbrev pub is_in_plan : PlanView → KnownMeter → Bool
is_in_plan plan m = nat_lt m.meter (size plan.groups m.group)

-- whether the plan has each of them
abbrev pub are_in_plan : PlanView → List KnownMeter → Bool
are_in_plan plan known = list_all (is_in_plan plan) known

-- ---- as sets

-- whether meter i is in the set of group g; a group past the last set has nobody
abbrev pub is_in_set : List (List ℕ) → ℕ → ℕ → Bool
is_in_set sets g i = is_member i (slice_index_or sets g [])

-- the sets have exactly these meters
abbrev pub AreSetsOf : List KnownMeter → List (List ℕ) → Type 0
AreSetsOf known sets = (g i : ℕ) → is_in_set sets g i ≡ is_known known g i

-- sets with exactly these meters where the plan has each of them, and none where it doesn't
abbrev pub GivesSets : PlanView → List KnownMeter → Option (Vec (List ℕ) Global) → Type 0
GivesSets plan known None = are_in_plan plan known ≡ false
GivesSets plan known (Some sets) = (are_in_plan plan known ≡ true) × AreSetsOf known sets.items
