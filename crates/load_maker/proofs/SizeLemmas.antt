-- What the limits say of a size.
use Rattle.std.proofs.Common.{◌≡◌, ◌≤◌, ◌*◌, ◌&&◌, nat_le, ℕ, true, arith}
use Rattle.std.proofs.Math.Nat.{mul-le-mul}
use Rattle.std.proofs.lemmas.Bool.{and_parts}
use Rattle.std.proofs.lemmas.Bool.Decides.{nat_tests}
use Rattle.group_plan.specs.Plans.{pairs}
use Rattle.load_maker.specs.Sizes.{is_within}

pub record Limits (groups meters rounds : ℕ) : Type 0 where
  pub some_group : 1 ≤ groups
  pub few_groups : groups ≤ 256
  pub two_meters : 2 ≤ meters
  pub few_meters : meters ≤ 256
  pub some_round : 1 ≤ rounds
  pub few_rounds : rounds ≤ 4096
  pub readings : groups * meters * rounds ≤ 131072
  pub pairs : groups * pairs meters ≤ 1048576

le_of : (a b : ℕ) → nat_le a b ≡ true → a ≤ b
le_of a b h = grind (arith, nat_tests, h)

pub limits_of : (groups meters rounds : ℕ) → is_within groups meters rounds ≡ true → Limits groups meters rounds
unfolding is_within
limits_of groups meters rounds is =
    let h = and_parts (nat_le 1 groups && nat_le groups 256 && nat_le 2 meters && nat_le meters 256 && nat_le 1 rounds && nat_le rounds 4096 && nat_le (groups * meters * rounds) 131072) (nat_le (groups * pairs meters) 1048576) is in
    let g = and_parts (nat_le 1 groups && nat_le groups 256 && nat_le 2 meters && nat_le meters 256 && nat_le 1 rounds && nat_le rounds 4096) (nat_le (groups * meters * rounds) 131072) h.0 in
    let f = and_parts (nat_le 1 groups && nat_le groups 256 && nat_le 2 meters && nat_le meters 256 && nat_le 1 rounds) (nat_le rounds 4096) g.0 in
    let e = and_parts (nat_le 1 groups && nat_le groups 256 && nat_le 2 meters && nat_le meters 256) (nat_le 1 rounds) f.0 in
    let d = and_parts (nat_le 1 groups && nat_le groups 256 && nat_le 2 meters) (nat_le meters 256) e.0 in
    let b = and_parts (nat_le 1 groups && nat_le groups 256) (nat_le 2 meters) d.0 in
    let a = and_parts (nat_le 1 groups) (nat_le groups 256) b.0 in
    record {
      some_group = le_of 1 groups a.0;
      few_groups = le_of groups 256 a.1;
      two_meters = le_of 2 meters b.1;
      few_meters = le_of meters 256 d.1;
      some_round = le_of 1 rounds e.1;
      few_rounds = le_of rounds 4096 f.1;
      readings = le_of (groups * meters * rounds) 131072 g.1;
      pairs = le_of (groups * pairs meters) 1048576 h.1;
    }

-- how far the words of some rounds reach
pub few_words : (groups meters rounds r : ℕ) → Limits groups meters rounds → r ≤ rounds → r * meters ≤ 1048576
few_words groups meters rounds r limits le =
    let a = limits.few_rounds in
    let most : r ≤ 4096 = omega (arith, le, a) in
    let p : r * meters ≤ 4096 * 256 = mul-le-mul most limits.few_meters in
    omega (arith, p)

-- and of some groups
pub few_group_words : (groups meters rounds g : ℕ) → Limits groups meters rounds → g ≤ groups → g * rounds * meters ≤ 268435456
few_group_words groups meters rounds g limits le =
    let a = limits.few_groups in
    let most : g ≤ 256 = omega (arith, le, a) in
    let q : g * rounds ≤ 256 * 4096 = mul-le-mul most limits.few_rounds in
    let p : g * rounds * meters ≤ 1048576 * 256 = mul-le-mul q limits.few_meters in
    omega (arith, p)
