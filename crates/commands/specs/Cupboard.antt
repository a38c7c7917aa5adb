-- The lanes that the program has, and that made plans get theirs.
use Rattle.std.specs.Prelude.{List, [], ◌∷◌, ◌++◌, None, ◌≡◌, ◌<◌, ◌^◌, true, Some, ◌≢◌, ℕ, Option, ◌⊎◌}
use Rattle.link_lanes.specs.Lanes.{Meaning}
use Rattle.link_lanes.specs.Kinds.{clear_by, rules_by, seeded_by, every_by, burst_by}
use Rattle.load_maker.specs.Sizes.{is_within}
use Rattle.command_words.specs.Words.{Size, Command, Run, Ring, Resume, Registers, Load}
use Rattle.desk_outside.specs.Desk.{View, Rose}
use Rattle.run_commands.specs.LoadEnds.{made_plan_text, made_readings_text}

-- four boxes of one lane
abbrev pub four : Meaning → List Meaning
four lane = lane ∷ lane ∷ lane ∷ lane ∷ []

-- four boxes each of `clear`, `rules`, `seeded`, `every` and `burst`, in this order, none of which has seen a post or has an argument
abbrev pub full_cupboard : List Meaning
full_cupboard = four (clear_by 0) ++ four (rules_by 0 None) ++ four (seeded_by 0 None) ++ four (every_by 0 None) ++ four (burst_by 0 None)

-- ---- made plans

-- a seed of 64 bits, and numbers within the limits of plans
pub record IsMade (size : Size) : Type 0 where
  pub seed : size.seed < 2 ^ 64
  pub within : is_within size.groups size.meters size.rounds ≡ true

-- a command that runs a made plan: `load`, and `run`, `ring` or `registers` where the desk tells that PLAN holds the plan file that `make` makes
abbrev pub RunsMadePlan : Command → View → Type 0
RunsMadePlan (Load size workers transcript) v = IsMade size
RunsMadePlan (Run names workers) v = (size : Size) × IsMade size × (v.held names.plan ≡ Some (Some (made_plan_text size)))
RunsMadePlan (Ring width names workers) v = (size : Size) × IsMade size × (v.held names.plan ≡ Some (Some (made_plan_text size)))
RunsMadePlan (Resume names workers) v = (size : Size) × IsMade size × (v.held names.plan ≡ Some (Some (made_plan_text size)))
RunsMadePlan (Registers count names workers) v = (size : Size) × IsMade size × (v.held names.plan ≡ Some (Some (made_plan_text size)))
RunsMadePlan _ v = ⊥

-- such a command doesn't end for want of a lane
abbrev pub MadePlansGetLanes : Option Command → View → (status : ℕ) → Type 0
MadePlansGetLanes asked v status = (command : Command) → asked ≡ Some command → RunsMadePlan command v → status ≢ 10

-- a command that runs made files: `load`, and `run` or `ring` where the desk tells that PLAN and READINGS hold the files that `make` makes
abbrev pub RunsMadeFiles : Command → View → Type 0
RunsMadeFiles (Load size workers transcript) v = IsMade size
RunsMadeFiles (Run names workers) v =
    (size : Size) × IsMade size × (v.held names.plan ≡ Some (Some (made_plan_text size))) × (v.held names.readings ≡ Some (Some (made_readings_text size)))
RunsMadeFiles (Ring width names workers) v =
    (size : Size) × IsMade size × (v.held names.plan ≡ Some (Some (made_plan_text size))) × (v.held names.readings ≡ Some (Some (made_readings_text size)))
RunsMadeFiles _ v = ⊥

-- such a command is done, or finds no memory, unless the desk's count of faults rose
abbrev pub MadeFilesAreDone : Option Command → View → (before now status : ℕ) → Type 0
MadeFilesAreDone asked v before now status =
    (command : Command) → asked ≡ Some command → RunsMadeFiles command v → ¬ Rose before now → (status ≡ 0) ⊎ (status ≡ 1)
