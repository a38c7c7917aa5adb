-- A mask table as its callers see it, how it is kept, and what a call changes.
use Rattle.std.specs.Prelude.{◌≡◌, ℕ, ◌+◌, ◌-◌, ◌^◌, ◌<◌, ◌==◌, ◌&&◌, Bool, false, suc, List, [], All, length, map, set, slice_index_or}
use Rattle.group_plan.specs.Plans.{PlanView, size, IsWithinLimits}
use Rattle.group_plan.specs.Tables.{entry, IsTable, is_same_place}
use Rattle.event_schedule.specs.Tables.{Masks}
use Rattle.ideal_masks.specs.ListTables.{tabulate, MaskTable, masks_in}

-- a plan, and its table of mask words
pub record MasksView : Type 0 where
  pub plan : PlanView
  pub words : MaskTable

-- masks whose words are all 0
abbrev pub zero_masks : Masks
zero_masks = record { own = λ g r i. 0; pair = λ g r i j. 0 }

-- ---- how a table is kept

-- the words of a meter in a round: its own, and those of its pairs with the meters above it
pub record MeterView : Type 0 where
  pub own : ℕ
  pub higher : List ℕ

-- a meter without a word
abbrev pub no_words : MeterView
no_words = record { own = 0; higher = [] }

-- the words of meter i of a group of n meters with the meters above it
abbrev pub higher_of : Masks → ℕ → ℕ → ℕ → ℕ → List ℕ
higher_of m g r n i = tabulate (n - suc i) (λ k. m.pair g r i (suc i + k))

-- the words of meter i of a group of n meters
abbrev pub meter_of : Masks → ℕ → ℕ → ℕ → ℕ → MeterView
meter_of m g r n i = record { own = m.own g r i; higher = higher_of m g r n i }

-- the words of a round, by meter, and those of a group, by round
abbrev pub round_of : Masks → ℕ → ℕ → ℕ → List MeterView
round_of m g n r = tabulate n (meter_of m g r n)

abbrev pub group_of : PlanView → Masks → ℕ → List (List MeterView)
group_of plan m g = tabulate plan.rounds (round_of m g (size plan.groups g))

-- the table of the words that are kept by group, round and meter
abbrev pub kept_words : List (List (List MeterView)) → MaskTable
kept_words groups = record { own = map (map (map (λ m. m.own))) groups; pair = map (map (map (λ m. m.higher))) groups }

-- the words of meter i of a group of n meters: as many as there are meters above it, each below 2^64
pub record KeepsMeter (n i : ℕ) (m : MeterView) : Type 0 where
  pub long : length m.higher ≡ n - suc i
  pub own : m.own < 2 ^ 64
  pub higher : (k : ℕ) → slice_index_or m.higher k 0 < 2 ^ 64

-- what is kept is a mask table of the plan
pub record KeepsMasks (plan : PlanView) (groups : List (List (List MeterView))) : Type 0 where
  pub within : IsWithinLimits plan
  pub shape : IsTable plan groups
  pub meters : (g r i : ℕ) → g < length plan.groups → r < plan.rounds → i < size plan.groups g → KeepsMeter (size plan.groups g) i (entry no_words groups g r i)

-- each word of a meter is below 2^64
abbrev pub IsSmall : MeterView → Type 0
IsSmall m = (m.own < 2 ^ 64) × All (λ w. w < 2 ^ 64) m.higher

-- these are the words of meter i in round r of group g
pub record HasWords (t : MasksView) (g r i : ℕ) (m : MeterView) : Type 0 where
  pub own : m.own ≡ (masks_in t.words).own g r i
  pub higher : (j : ℕ) → slice_index_or m.higher (j - suc i) 0 ≡ (masks_in t.words).pair g r i j
  pub long : length m.higher ≡ size t.plan.groups g - suc i

-- a meter with another own word, and with another word with the meter k + 1 above it
abbrev pub with_own : ℕ → MeterView → MeterView
with_own word m = record { own = word; higher = m.higher }

abbrev pub with_pair : ℕ → ℕ → MeterView → MeterView
with_pair k word m = record { own = m.own; higher = set m.higher k word }

-- a round, and a group, in which the words of one meter became others
abbrev pub change_meter : ℕ → (MeterView → MeterView) → List MeterView → List MeterView
change_meter i f meters = set meters i (f (slice_index_or meters i no_words))

abbrev pub change_round : ℕ → ℕ → (MeterView → MeterView) → List (List MeterView) → List (List MeterView)
change_round r i f rounds = set rounds r (change_meter i f (slice_index_or rounds r []))

-- ---- what a call changes

-- the own word of one place becomes this one, and no other word changes
pub record SetsOwn (old : MasksView) (g r i word : ℕ) (new : MasksView) : Type 0 where
  pub plan : new.plan ≡ old.plan
  pub here : (masks_in new.words).own g r i ≡ word
  pub elsewhere : (a b c : ℕ) → is_same_place g r i a b c ≡ false → (masks_in new.words).own a b c ≡ (masks_in old.words).own a b c
  pub pairs : new.words.pair ≡ old.words.pair

-- whether (a, b, c, d) is the pair (i, j) in round r of group g
abbrev pub is_same_pair : ℕ → ℕ → ℕ → ℕ → ℕ → ℕ → ℕ → ℕ → Bool
is_same_pair g r i j a b c d = is_same_place g r i a b c && (d == j)

-- the word of one pair becomes this one, and no other word changes
pub record SetsPair (old : MasksView) (g r i j word : ℕ) (new : MasksView) : Type 0 where
  pub plan : new.plan ≡ old.plan
  pub here : (masks_in new.words).pair g r i j ≡ word
  pub elsewhere : (a b c d : ℕ) → c < d → is_same_pair g r i j a b c d ≡ false → (masks_in new.words).pair a b c d ≡ (masks_in old.words).pair a b c d
  pub owns : new.words.own ≡ old.words.own
