-- The keys of a plan in their order, and the first that is missing.
use Rattle.std.specs.Prelude.{ℕ, ◌+◌, ◌-◌, List, ◌++◌, length, map, Option}
use Rattle.std.specs.List.{find, flat_map, range_with_len}
use Rattle.std.specs.Option.{is_none}
use Rattle.group_plan.specs.Plans.{PlanView, size}
use Rattle.pair_keys.specs.Keys.{Keys}
use Rattle.pair_keys.specs.declared.KeyId.{KeyId}
use Rattle.pair_keys.specs.declared.KeyId.TheVariants.{Own, Pair}

-- the pairs of a meter with the higher ones of n meters
abbrev pub pairs_above : (g n low : ℕ) → List KeyId
pairs_above g n low = map (Pair g low) (range_with_len (low + 1) (n - (low + 1)))

-- the keys of a group of n meters: the own keys by meter, then the pairs by the lower meter and the higher one
abbrev pub group_keys : (g n : ℕ) → List KeyId
group_keys g n = map (Own g) (range_with_len 0 n) ++ flat_map (pairs_above g n) (range_with_len 0 n)

-- the keys of a plan, group by group
unfoldable pub plan_keys : PlanView → List KeyId
plan_keys plan = flat_map (λ g. group_keys g (size plan.groups g)) (range_with_len 0 (length plan.groups))

-- the first key of the plan that is missing
unfoldable pub first_missing : Keys → Option KeyId
first_missing keys = find (λ which. is_none (keys.key which)) (plan_keys keys.plan)
