-- The keys of a plan: an own key for each meter, and a pair key for each two meters of a group.
use Rattle.std.specs.Prelude.{Bool, false, ◌==◌, ◌&&◌, ◌||◌, nat_lt}
use Rattle.group_plan.specs.Plans.{PlanView, size}
use Rattle.pair_keys.specs.declared.KeyId.{KeyId}
use Rattle.pair_keys.specs.declared.KeyId.TheVariants.{Own, Pair}

-- whether the plan has this key; a pair has its lower meter first
abbrev pub is_key : PlanView → KeyId → Bool
is_key plan (Own g i) = nat_lt i (size plan.groups g)
is_key plan (Pair g low high) = nat_lt low high && nat_lt high (size plan.groups g)

abbrev pub same_id : KeyId → KeyId → Bool
same_id (Own g i) (Own h j) = (g == h) && (i == j)
same_id (Pair g low high) (Pair h l k) = (g == h) && (low == l) && (high == k)
same_id (Own g i) (Pair h l k) = false
same_id (Pair g low high) (Own h j) = false

-- the order of keys: by group; in a group the own keys by meter, then the pairs by the lower meter and then by the higher
abbrev pub comes_before : KeyId → KeyId → Bool
comes_before (Own g i) (Own h j) = nat_lt g h || ((g == h) && nat_lt i j)
comes_before (Own g i) (Pair h l k) = nat_lt g h || (g == h)
comes_before (Pair g low high) (Own h j) = nat_lt g h
comes_before (Pair g low high) (Pair h l k) = nat_lt g h || ((g == h) && (nat_lt low l || ((low == l) && nat_lt high k)))
