-- The limits of plans, for groups of one size.
use Rattle.std.specs.Prelude.{ℕ, ◌*◌, nat_le, Bool, ◌&&◌}
use Rattle.group_plan.specs.Plans.{pairs}

-- whether the numbers are within the limits of plans
unfoldable pub is_within : (groups meters rounds : ℕ) → Bool
is_within groups meters rounds =
    nat_le 1 groups && nat_le groups 256 && nat_le 2 meters && nat_le meters 256 && nat_le 1 rounds && nat_le rounds 4096
    && nat_le (groups * meters * rounds) 131072 && nat_le (groups * pairs meters) 1048576
