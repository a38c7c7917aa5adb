-- Lists of calls on a meter, each with what was said, and the law of the one set.
use Rattle.std.specs.Prelude.{◌≡◌, ℕ, ◌<◌, ◌==◌, ◌⊎◌, ◌&&◌, Bool, true, false, if◌then◌else◌, List, [], ◌∷◌, length, Option, Some, None}
use Rattle.meter_core.specs.declared.Why.TheVariants.{OtherSet}
use Rattle.meter_core.specs.declared.Heard.{Heard}
use Rattle.meter_core.specs.declared.Heard.TheVariants.{Answer, AnswerAgain, Refused}
use Rattle.meter_core.specs.Meters.{MeterView, new_meter, marked, kept_set, Hears}

-- a call on a meter: a round marked read, or the set announced for a round and what the meter said
pub data Call : Type 0 where
  Marked : (r : ℕ) (members : List ℕ) → Call
  Announced : (r : ℕ) (set : List ℕ) (said : Heard) → Call

-- the call leads from s to t
abbrev pub Step : MeterView → Call → MeterView → Type 0
Step s (Marked r members) t = (r < length s.notes) × (t ≡ marked s r members)
Step s (Announced r set said) t = Hears s r set said t

-- the calls lead from s to t
unfoldable pub Run : MeterView → List Call → MeterView → Type 0
Run s [] t = t ≡ s
Run s (call ∷ rest) t = (m : MeterView) × Step s call m × Run m rest t

-- the meter answers
abbrev pub IsAnswer : Heard → Type 0
IsAnswer Answer = Unit {0}
IsAnswer AnswerAgain = Unit {0}
IsAnswer (Refused why) = ⊥

-- the call answered the set in round r
abbrev pub Answers : ℕ → List ℕ → Call → Type 0
Answers r set (Marked q members) = ⊥
Answers r set (Announced q other said) = (q ≡ r) × (other ≡ set) × IsAnswer said

-- one of the calls answered the set in round r
unfoldable pub HasAnswered : ℕ → List ℕ → List Call → Type 0
HasAnswered r set [] = ⊥
HasAnswered r set (call ∷ rest) = Answers r set call ⊎ HasAnswered r set rest

-- whether the set passed every refusal before OtherSet
abbrev pub has_passed : Heard → Bool
has_passed Answer = true
has_passed AnswerAgain = true
has_passed (Refused (OtherSet kept)) = true
has_passed (Refused why) = false

-- the first set announced for round r that passed
unfoldable pub first_passed : ℕ → List Call → Option (List ℕ)
first_passed r [] = None
first_passed r (Marked q members ∷ rest) = first_passed r rest
first_passed r (Announced q set said ∷ rest) = if (q == r) && has_passed said then Some set else first_passed r rest

-- after any calls on a new meter: the set that is kept for a round is the first that passed,
-- each answer is to that set, and so no round has two answered sets
pub record IsOneSet (calls : List Call) (t : MeterView) (r : ℕ) : Type 0 where
  pub kept : kept_set t r ≡ first_passed r calls
  pub answered : (set : List ℕ) → HasAnswered r set calls → first_passed r calls ≡ Some set
  pub only : (a b : List ℕ) → HasAnswered r a calls → HasAnswered r b calls → a ≡ b

-- the law
abbrev pub OneSetARound : Type 0
OneSetARound = (meter floor rounds : ℕ) (calls : List Call) (t : MeterView)
    → Run (new_meter meter floor rounds) calls t → (r : ℕ) → IsOneSet calls t r
