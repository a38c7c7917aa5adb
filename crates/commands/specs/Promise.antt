-- What the program promises of a command, over what it found outside and what it leaves there.
use Rattle.std.specs.Prelude.{◌≡◌, ◌⊎◌, ℕ, false, true, List, Option}
use Rattle.desk_outside.specs.Desk.{View, Complained, IsPrefixOf, after_step}
use Rattle.command_words.specs.declared.outcome.Outcome.{Outcome}
use Rattle.command_words.specs.declared.outcome.Outcome.TheVariants.{Done}
use Rattle.command_words.specs.Outcomes.{complaint_of, status_of, IsFault}
use Rattle.link_lanes.specs.Lanes.{Meaning}
use Rattle.command_words.specs.Words.{Command}
use Rattle.commands.specs.Ends.{Ends}
use Rattle.commands.specs.Outside.{OutsideView, FaultsRose, with_wire}

-- the text was complained, or a prefix of it where that call failed, or nothing where no memory was found
abbrev pub Complains : List ℕ → View → View → Type 0
Complains text v w =
    (w ≡ v) ⊎ (w ≡ after_step v (Complained text false))
    ⊎ ((front : List ℕ) × IsPrefixOf front text × (w ≡ after_step v (Complained front true)))

-- nothing follows a command that was done, and one complaint at most any other end
abbrev pub Tells : Outcome → View → View → Type 0
Tells Done v w = w ≡ v
Tells outcome v w = Complains (complaint_of outcome) v w

-- the command ends with an outcome, which is told on the desk and gives the status; an outcome that is a fault comes only where a count of faults rose
abbrev pub EndsAndTells : List Meaning → Option Command → OutsideView → OutsideView → (before now status : ℕ) → Type 0
EndsAndTells cupboard command o p before now status =
    (outcome : Outcome) × (middle : View)
    × Ends cupboard command o (with_wire middle p.wire) outcome
    × Tells outcome middle p.desk
    × (IsFault outcome → FaultsRose command before now o.wire p.wire)
    × (status ≡ status_of outcome)
