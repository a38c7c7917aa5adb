-- What a role brings outside, step by step, and where it stops.
use Rattle.std.specs.Prelude.{◌≡◌, ℕ, false, true, List, [], ◌∷◌, ◌++◌, Result, Ok, Err}
use Rattle.transcript_text.specs.Spelling.{ended}
use Rattle.desk_outside.specs.Desk.{IsPrefixOf}
use Rattle.desk_outside.specs.Wire.{WireView, after_step, after_steps}
use Rattle.desk_outside.specs.declared.wire.WireStep.{WireStep}
use Rattle.desk_outside.specs.declared.wire.WireStep.TheVariants.{Emptied, Trimmed, Appended, Flushed, Heard, Unheard, Said}
use Rattle.apart_roles.specs.declared.outcome.RoleError.{RoleError}
use Rattle.apart_roles.specs.declared.outcome.RoleError.TheVariants.{Input, Journal, Output, Memory}

-- a line of the journal, which is on the disk
abbrev pub noted_steps : List ℕ → List WireStep
noted_steps text = Appended (ended text) false ∷ Flushed false ∷ []

-- a line is said
abbrev pub said_steps : List ℕ → List WireStep
said_steps text = Said (ended text) false ∷ []

-- the next of the steps that are due was not done, for this cause: a front of its bytes, and nothing else, may be outside
abbrev pub FailsAt : RoleError → List WireStep → WireView → WireView → Type 0
FailsAt Memory due v w = w ≡ v
FailsAt Journal (Appended bytes failed ∷ due) v w = (front : List ℕ) × IsPrefixOf front bytes × (w ≡ after_step v (Appended front true))
FailsAt Journal (Flushed failed ∷ due) v w = w ≡ after_step v (Flushed true)
FailsAt Journal (Emptied failed ∷ due) v w = w ≡ after_step v (Emptied true)
FailsAt Journal (Trimmed failed ∷ due) v w = w ≡ after_step v (Trimmed true)
FailsAt Output (Said bytes failed ∷ due) v w = (front : List ℕ) × IsPrefixOf front bytes × (w ≡ after_step v (Said front true))
FailsAt Input (Heard what text ∷ due) v w = w ≡ after_step v Unheard
FailsAt error due v w = ⊥

-- of the steps that are due the first ones were done, and the next one was not, for this cause
pub record Stops (error : RoleError) (due : List WireStep) (v w : WireView) : Type 0 where
  pub first : List WireStep
  pub others : List WireStep
  pub are_due : due ≡ first ++ others
  pub fails : FailsAt error others (after_steps v first) w

-- the steps that are due were done, or stop
abbrev pub Does : {A : Type 0} → List WireStep → WireView → WireView → Result A RoleError → Type 0
Does due v w (Ok done) = w ≡ after_steps v due
Does due v w (Err error) = Stops error due v w
