-- The parts of a comparison, on the way to what the bytes of its files come to.
use Rattle.std.specs.Prelude.{◌≡◌, ℕ, true, List, Ok}
use Rattle.plan_files.specs.PlanFiles.{PlanFileView, plan_of}
use Rattle.command_words.specs.declared.known.KnownMeter.{KnownMeter}
use Rattle.command_words.specs.Known.{are_in_plan, AreSetsOf}
use Rattle.command_texts.specs.Twins.{TwinBytes}

-- the plan file has this value, and its plan has each known meter; the sets have exactly these
pub record IsPlanFor (known : List KnownMeter) (bytes : TwinBytes) (file : PlanFileView) (sets : List (List ℕ)) : Type 0 where
  pub plan : plan_of bytes.plan ≡ Ok file
  pub within : are_in_plan file.plan known ≡ true
  pub sets_are : AreSetsOf known sets
