-- What a desk shows of the outside, and what each call makes of it.
use Rattle.std.specs.Prelude.{◌≡◌, ◌≤◌, ◌<◌, ◌+◌, ◌-◌, ◌^◌, ℕ, min, Bool, true, false, List, [], ◌∷◌, ◌++◌, length, take, Option, Some, None, Result, Ok, Err, Vec, if◌then◌else◌, ⊤}
use Rattle.std.specs.Option.{option_map}
use Rattle.std.specs.Str.{bytes_eq}
use Rattle.std.specs.declared.alloc.Global.{Global}
use Rattle.desk_outside.specs.declared.desk.FetchError.{FetchError}
use Rattle.desk_outside.specs.declared.desk.FetchError.TheVariants.{Failed as FetchFailed, TooLong as FetchTooLong, Memory as FetchMemory}
use Rattle.desk_outside.specs.declared.desk.DeskError.{DeskError}
use Rattle.desk_outside.specs.declared.desk.DeskError.TheVariants.{Failed, Memory}
use Rattle.desk_outside.specs.declared.desk.DeskKind.{DeskKind}
use Rattle.desk_outside.specs.declared.desk.DeskKind.TheVariants.{Fetch, Put, Say, Complain}
use Rattle.desk_outside.specs.declared.desk.DeskCall.{DeskCall}
use Rattle.desk_outside.specs.Sink.{Takes}

-- what a name holds: None where that is not told, Some None where it holds nothing
abbrev pub Held : Type 0
Held = Option (Option (List ℕ))

-- the outside, each part where it is told
pub record View : Type 0 where
  pub held : List ℕ → Held
  pub said : Option (List ℕ)
  pub complained : Option (List ℕ)
  pub calls : Option (List DeskCall)

-- nothing is told
abbrev pub untold : View
untold = record { held = λ name. None; said = None; complained = None; calls = None }

-- the list with more at its end, where it is told
abbrev pub extended : {X : Type 0} → Option (List X) → List X → Option (List X)
extended None more = None
extended (Some xs) more = Some (xs ++ more)

-- what each name holds once this one holds these bytes, where that is told
abbrev pub stored : (List ℕ → Held) → List ℕ → List ℕ → List ℕ → Held
stored held name bytes other = option_map (λ before. if bytes_eq name other then Some bytes else before) (held other)

-- one entry of the list of calls
abbrev pub call_of : DeskKind → List ℕ → Bool → List DeskCall
call_of kind name failed = record { kind = kind; name = name; failed = failed } ∷ []

-- a call that was not answered `Memory`, and what it left
pub data Step : Type 0 where
  Fetched : (name : List ℕ) (failed : Bool) → Step
  Stored : (name bytes : List ℕ) → Step
  -- a failed put, after which the name holds what it held
  Unstored : (name : List ℕ) → Step
  -- the bytes are those that were appended
  Said : (bytes : List ℕ) (failed : Bool) → Step
  Complained : (bytes : List ℕ) (failed : Bool) → Step

-- the outside after one more call
unfoldable pub after_step : View → Step → View
after_step v (Fetched name failed) = record v { calls = extended v.calls (call_of Fetch name failed) }
after_step v (Stored name bytes) = record v { held = stored v.held name bytes; calls = extended v.calls (call_of Put name false) }
after_step v (Unstored name) = record v { calls = extended v.calls (call_of Put name true) }
after_step v (Said bytes failed) = record v { said = extended v.said bytes; calls = extended v.calls (call_of Say [] failed) }
after_step v (Complained bytes failed) = record v { complained = extended v.complained bytes; calls = extended v.calls (call_of Complain [] failed) }

-- the outside after some more calls, the first of them first
abbrev pub after_steps : View → List Step → View
after_steps v [] = v
after_steps v (step ∷ steps) = after_steps (after_step v step) steps

-- the name holds these bytes, where that is told
abbrev pub Holds : Held → List ℕ → Type 0
Holds None bytes = ⊤
Holds (Some held) bytes = held ≡ Some bytes

-- the name holds more bytes than these many, where that is told
abbrev pub IsLonger : Held → ℕ → Type 0
IsLonger None most = ⊤
IsLonger (Some None) most = ⊥
IsLonger (Some (Some bytes)) most = most < length bytes

-- a prefix of the bytes
abbrev pub IsPrefixOf : List ℕ → List ℕ → Type 0
IsPrefixOf front bytes = (n : ℕ) × (front ≡ take n bytes)

-- a fetch was answered with these bytes; what the names hold is said once more, for the fetches that follow
abbrev pub Fetches : List ℕ → ℕ → View → View → List ℕ → Type 0
Fetches name most v w bytes = (w ≡ after_step v (Fetched name false)) × Holds (v.held name) bytes × (length bytes ≤ most) × (w.held ≡ v.held)

-- what a fetch gives and leaves
abbrev pub FetchEnds : List ℕ → ℕ → View → View → Result (Vec ℕ Global) FetchError → Type 0
FetchEnds name most v w (Ok bytes) = Fetches name most v w bytes.items
FetchEnds name most v w (Err FetchFailed) = w ≡ after_step v (Fetched name true)
FetchEnds name most v w (Err (FetchTooLong seen)) = (w ≡ after_step v (Fetched name false)) × (seen ≡ most + 1) × IsLonger (v.held name) most
FetchEnds name most v w (Err FetchMemory) = w ≡ v

-- what a pour gives and leaves: what a fetch of the same bytes leaves, and a sink that has taken them
abbrev pub PourEnds : {S : Type 0} → (has : S → List ℕ → Type 0) → List ℕ → ℕ → View → View → S → Result S FetchError → Type 0
PourEnds has name most v w sink (Ok full) = (bytes : List ℕ) × Fetches name most v w bytes × Takes has sink bytes full
PourEnds has name most v w sink (Err FetchFailed) = w ≡ after_step v (Fetched name true)
PourEnds has name most v w sink (Err (FetchTooLong seen)) = (w ≡ after_step v (Fetched name false)) × (seen ≡ most + 1) × IsLonger (v.held name) most
PourEnds has name most v w sink (Err FetchMemory) = w ≡ v

-- what a say leaves: the bytes appended, or after a failure a prefix of them
abbrev pub SayEnds : List ℕ → View → View → Result (Unit {0}) DeskError → Type 0
SayEnds bytes v w (Ok done) = w ≡ after_step v (Said bytes false)
SayEnds bytes v w (Err Failed) = (front : List ℕ) × IsPrefixOf front bytes × (w ≡ after_step v (Said front true))
SayEnds bytes v w (Err Memory) = w ≡ v

-- what a complaint leaves, in the same way
abbrev pub ComplainEnds : List ℕ → View → View → Result (Unit {0}) DeskError → Type 0
ComplainEnds bytes v w (Ok done) = w ≡ after_step v (Complained bytes false)
ComplainEnds bytes v w (Err Failed) = (front : List ℕ) × IsPrefixOf front bytes × (w ≡ after_step v (Complained front true))
ComplainEnds bytes v w (Err Memory) = w ≡ v

-- one more, or the end of the u64 once that is reached
abbrev pub one_more : ℕ → ℕ
one_more count = min (count + 1) (2 ^ 64 - 1)

-- the count is greater than before, or is 2^64 - 1
abbrev pub Rose : ℕ → ℕ → Type 0
Rose before now = one_more before ≤ now
