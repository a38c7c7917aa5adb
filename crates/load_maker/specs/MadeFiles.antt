-- The files of the load maker are read as what they say.
use Rattle.std.specs.Prelude.{◌≡◌, ℕ, ◌<◌, ◌≤◌, ◌^◌, ◌++◌, true, length, Some, Ok, codes, decimal}
use Rattle.link_lanes.specs.Kinds.{chances_of}
use Rattle.plan_files.specs.PlanFiles.{plan_of}
use Rattle.plan_files.specs.Readings.{readings_of}
use Rattle.plan_files.specs.Spelling.{plan_text, readings_text}
use Rattle.load_maker.specs.Made.{made_file, made_plan, made_readings}
use Rattle.load_maker.specs.Sizes.{is_within}

-- both files are read, and neither is too long to be
pub record AreRead (seed groups meters rounds : ℕ) : Type 0 where
  pub plan : plan_of (plan_text (made_file seed groups meters rounds)) ≡ Ok (made_file seed groups meters rounds)
  pub readings : readings_of (made_plan groups meters rounds) (readings_text (made_readings seed groups meters rounds)) ≡ Ok (made_readings seed groups meters rounds)
  pub short_plan : length (plan_text (made_file seed groups meters rounds)) ≤ 2 ^ 28
  pub short_readings : length (readings_text (made_readings seed groups meters rounds)) ≤ 2 ^ 28

-- so it is for every seed and all numbers within the limits
abbrev pub MadeFilesAreRead : Type 0
MadeFilesAreRead = (seed groups meters rounds : ℕ) → seed < 2 ^ 64 → is_within groups meters rounds ≡ true → AreRead seed groups meters rounds

-- the argument of the made lane row says the seed, and that of 1000 posts 5 are lost and 10 doubled, with delays of 1 and 2
abbrev pub MadeLaneFits : Type 0
MadeLaneFits = (seed : ℕ) → seed < 2 ^ 64 → chances_of (decimal seed ++ codes ":5:10:2") ≡ Some (record { seed = seed; loss = 5; again = 10; spread = 2 })
