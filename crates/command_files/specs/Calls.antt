-- The calls of a command on the desk: it fetches files, one after the other, then it puts files and says a line.
use Rattle.std.specs.Prelude.{◌≤◌, ℕ, List, length, false, [], ◌∷◌, ◌≡◌, ◌⊎◌, Bool, true, Result, Ok, Err, Vec, map}
use Rattle.desk_outside.specs.Desk.{Held, Holds, View, Fetched, after_step, IsLonger, Stored, Unstored, IsPrefixOf, Said}
use Rattle.desk_outside.specs.Sink.{Takes}
use Rattle.command_words.specs.Limits.{most_bytes}
use Rattle.command_words.specs.declared.outcome.Outcome.TheVariants.{Done, NoMemory, Unwritten}
use Rattle.command_words.specs.declared.outcome.Outcome.TheVariants as outcomes
use Rattle.command_words.specs.declared.unread.Unread.TheVariants as of_unread
use Rattle.command_words.specs.declared.unwritten.Unwritten.TheVariants as of_unwritten
use Rattle.command_words.specs.declared.outcome.Outcome.{Outcome}
use Rattle.std.specs.declared.alloc.Global.{Global}

-- ---- fetches

-- the bytes were read: they are those that the name holds, where the desk tells it, and they are not too many
abbrev pub IsRead : Held → List ℕ → Type 0
IsRead held bytes = Holds held bytes × (length bytes ≤ most_bytes)

-- the desk after the fetch of each of these names was answered with its bytes
abbrev pub after_fetches : List (List ℕ) → View → View
after_fetches [] v = v
after_fetches (name ∷ names) v = after_fetches names (after_step v (Fetched name false))

-- some of the names were fetched, from the first on, and nothing else was done
abbrev pub HasFetched : List (List ℕ) → View → View → Type 0
HasFetched [] v w = w ≡ v
HasFetched (name ∷ names) v w = (w ≡ v) ⊎ HasFetched names (after_step v (Fetched name false)) w

-- the fetch of `last` was the last call: all names before it were fetched, and this one was answered Failed, or else TooLong
abbrev pub EndsAtFetch : List (List ℕ) → Bool → View → View → List ℕ → Type 0
EndsAtFetch [] failed v w last = ⊥
EndsAtFetch (name ∷ names) failed v w last =
    ((last ≡ name) × (w ≡ after_step v (Fetched name failed)))
    ⊎ EndsAtFetch names failed (after_step v (Fetched name false)) w last

-- not all of these names were read, and so the command ends
abbrev pub Unread : List (List ℕ) → View → View → Outcome → Type 0
Unread names v w NoMemory = HasFetched names v w
Unread names v w (outcomes.Unread (of_unread.File name)) = EndsAtFetch names true v w name.now
Unread names v w (outcomes.Unread (of_unread.TooLong name)) = EndsAtFetch names false v w name.now × IsLonger (v.held name.now) most_bytes
Unread names v w _ = ⊥

-- a file was read, or its fetch ends the command
abbrev pub OneFetched : List ℕ → View → View → Result (Vec ℕ Global) Outcome → Type 0
OneFetched name v w (Ok bytes) = IsRead (v.held name) bytes.items × (w ≡ after_fetches (name ∷ []) v)
OneFetched name v w (Err outcome) = Unread (name ∷ []) v w outcome

-- a sink has taken the bytes of a file that was read, or the pour of it, which is a fetch, ends the command
abbrev pub OnePoured : {S : Type 0} → (has : S → List ℕ → Type 0) → List ℕ → S → View → View → Result S Outcome → Type 0
OnePoured has name sink v w (Ok full) =
    (bytes : List ℕ) × IsRead (v.held name) bytes × (w ≡ after_fetches (name ∷ []) v) × Takes has sink bytes full
OnePoured has name sink v w (Err outcome) = Unread (name ∷ []) v w outcome

-- two files were read, or the first fetch that gave none ends the command
abbrev pub TwoFetched : List ℕ → List ℕ → View → View → Result (Vec ℕ Global × Vec ℕ Global) Outcome → Type 0
TwoFetched first second v w (Ok bytes) =
    IsRead (v.held first) bytes.0.items × IsRead (v.held second) bytes.1.items × (w ≡ after_fetches (first ∷ second ∷ []) v)
TwoFetched first second v w (Err outcome) = Unread (first ∷ second ∷ []) v w outcome

-- a sink has taken the bytes of a file that was read, and another file was read; or the first call that gave none ends the command
abbrev pub PouredAndFetched : {S : Type 0} → (has : S → List ℕ → Type 0) → List ℕ → List ℕ → S → View → View → Result (S × Vec ℕ Global) Outcome → Type 0
PouredAndFetched has first second sink v w (Ok read) =
    (bytes : List ℕ) × IsRead (v.held first) bytes × IsRead (v.held second) read.1.items × (w ≡ after_fetches (first ∷ second ∷ []) v) × Takes has sink bytes read.0
PouredAndFetched has first second sink v w (Err outcome) = Unread (first ∷ second ∷ []) v w outcome

-- ---- puts, and what is said

-- a file that is put: its name and its bytes
pub record Putting : Type 0 where
  pub name : List ℕ
  pub bytes : List ℕ

abbrev pub putting : List ℕ → List ℕ → Putting
putting name bytes = record { name = name; bytes = bytes }

-- the desk after these files were put
abbrev pub after_puts : List Putting → View → View
after_puts [] v = v
after_puts (p ∷ ps) v = after_puts ps (after_step v (Stored p.name p.bytes))

-- some of the files were put, from the first on, and nothing else was done
abbrev pub HasPut : List Putting → View → View → Type 0
HasPut [] v w = w ≡ v
HasPut (p ∷ ps) v w = (w ≡ v) ⊎ HasPut ps (after_step v (Stored p.name p.bytes)) w

-- the put of `last` was the last call: all files before it were put, and this one was answered Failed and left what the name held
abbrev pub EndsAtPut : List Putting → View → View → List ℕ → Type 0
EndsAtPut [] v w last = ⊥
EndsAtPut (p ∷ ps) v w last =
    ((last ≡ p.name) × (w ≡ after_step v (Unstored p.name))) ⊎ EndsAtPut ps (after_step v (Stored p.name p.bytes)) w last

-- the name is one of these
abbrev pub IsAmong : List ℕ → List (List ℕ) → Type 0
IsAmong name [] = ⊥
IsAmong name (other ∷ others) = (name ≡ other) ⊎ IsAmong name others

-- none was put: the put of `last`, which is one of these names, was answered Failed, and it holds what it held
abbrev pub NonePut : List (List ℕ) → View → View → List ℕ → Type 0
NonePut names v w last = IsAmong last names × (w ≡ after_step v (Unstored last))

-- one of these names can't be written, so none was put
abbrev pub Unwritable : List (List ℕ) → View → View → Outcome → Type 0
Unwritable names v w NoMemory = w ≡ v
Unwritable names v w (Unwritten (of_unwritten.File name)) = NonePut names v w name.now
Unwritable names v w _ = ⊥

-- the names of files
abbrev pub names_of : List Putting → List (List ℕ)
names_of files = map (λ p. p.name) files

-- the files are put in order and then the line is said, up to this end
abbrev pub PutsEnd : List Putting → List ℕ → View → View → Outcome → Type 0
PutsEnd files line v w Done = w ≡ after_step (after_puts files v) (Said line false)
PutsEnd files line v w NoMemory = HasPut files v w
PutsEnd files line v w (Unwritten (of_unwritten.File name)) = EndsAtPut files v w name.now ⊎ NonePut (names_of files) v w name.now
PutsEnd files line v w (Unwritten of_unwritten.Output) = (front : List ℕ) × IsPrefixOf front line × (w ≡ after_step (after_puts files v) (Said front true))
PutsEnd files line v w _ = ⊥

-- the same, once all bytes of the files are on the disk: each is put, or the first that can't take its name ends the command
abbrev pub CommitsEnd : List Putting → List ℕ → View → View → Outcome → Type 0
CommitsEnd files line v w Done = w ≡ after_step (after_puts files v) (Said line false)
CommitsEnd files line v w NoMemory = HasPut files v w
CommitsEnd files line v w (Unwritten (of_unwritten.File name)) = EndsAtPut files v w name.now
CommitsEnd files line v w (Unwritten of_unwritten.Output) = (front : List ℕ) × IsPrefixOf front line × (w ≡ after_step (after_puts files v) (Said front true))
CommitsEnd files line v w _ = ⊥

-- a begun file was committed, or that ends the command
abbrev pub Committed : (has : List ℕ → Type 0) (has_failed : Bool) (name : List ℕ) → View → View → Result (Unit {0}) Outcome → Type 0
Committed has has_failed name v w (Ok done) = (has_failed ≡ false) × ((bytes : List ℕ) → has bytes → w ≡ after_step v (Stored name bytes))
Committed has has_failed name v w (Err outcome) = Unwritable (name ∷ []) v w outcome
