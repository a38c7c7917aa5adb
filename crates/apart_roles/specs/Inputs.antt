-- What comes to a role, of its journal and of its input, one after another.
use Rattle.std.specs.Prelude.{◌≡◌, ◌^◌, ◌-◌, ◌+◌, ◌==◌, ℕ, min, Bool, true, false, List, [], ◌∷◌, ◌++◌, length, filter, map, Option, Some, None, if◌then◌else◌, ⊤}
use Rattle.std.specs.List.{list_all}
use Rattle.std.specs.Option.{option_map}
use Rattle.desk_outside.specs.Wire.{IsNext, Source, WireView, after_step, passed}
use Rattle.desk_outside.specs.declared.wire.Coming.{Coming}
use Rattle.desk_outside.specs.declared.wire.Coming.TheVariants.{Line, TooLong, Rest, End}
use Rattle.desk_outside.specs.declared.wire.WireStep.{WireStep}
use Rattle.desk_outside.specs.declared.wire.WireStep.TheVariants.{Recalled}

-- ---- what comes

-- what came next, and its text
pub record Came : Type 0 where
  pub what : Coming
  pub text : List ℕ

-- it is a line, behind which more may come
abbrev pub is_line : Coming → Bool
is_line Line = true
is_line TooLong = true
is_line Rest = false
is_line End = false

-- all are
abbrev pub are_lines : List Came → Bool
are_lines lines = list_all (λ came. is_line came.what) lines

-- each came next, where that is told
abbrev pub AreNext : Option Source → List Came → Type 0
AreNext source [] = ⊤
AreNext source (came ∷ others) = IsNext source came.what came.text × AreNext (option_map passed source) others

-- the most lines that a role takes
abbrev pub most_lines : ℕ
most_lines = 2 ^ 64 - 1

-- the last that came is no line; or nothing more was taken behind so many lines
abbrev pub IsEnd : List Came → Option Came → Type 0
IsEnd lines (Some came) = is_line came.what ≡ false
IsEnd lines None = length lines ≡ most_lines

abbrev pub with_last : List Came → Option Came → List Came
with_last lines None = lines
with_last lines (Some came) = lines ++ came ∷ []

-- ---- the input

-- the steps by which all that came is answered: those of each, after the journal that those before it leave
abbrev pub steps_of_all : {J : Type 0} → (J → Came → List WireStep) → (J → Came → J) → J → List Came → List WireStep
steps_of_all steps next journal [] = []
steps_of_all steps next journal (came ∷ others) = steps journal came ++ steps_of_all steps next (next journal came) others

-- the journal that all leave
abbrev pub journal_of_all : {J : Type 0} → (J → Came → J) → J → List Came → J
journal_of_all next journal [] = journal
journal_of_all next journal (came ∷ others) = journal_of_all next (next journal came) others

-- ---- the journal

-- this came next of the journal
pub record Recalls (v w : WireView) (came : Came) : Type 0 where
  pub next : IsNext v.journal came.what came.text
  pub step : w ≡ after_step v (Recalled came.what came.text)

-- the steps by which lines are recalled
abbrev pub recall_steps : List Came → List WireStep
recall_steps lines = map (λ came. Recalled came.what came.text) lines

-- how many lines a text has
abbrev pub lines_in : List ℕ → ℕ
lines_in text = length (filter (λ byte. byte == 10) text)

-- the number of the line behind so many others, the first of which has this number
abbrev pub number_behind : ℕ → ℕ → ℕ
number_behind first count = min (first + count) (2 ^ 64 - 1)

-- what a line of the journal says, by what a text says; one that is too long says nothing
abbrev pub line_by : {L : Type 0} → (List ℕ → Option L) → Coming → List ℕ → Option L
line_by reads Line text = reads text
line_by reads TooLong text = None
line_by reads Rest text = None
line_by reads End text = None

-- the journal with a line that can follow it
abbrev pub if_follows : {L : Type 0} → (List L → L → Bool) → List L → Option L → Option (List L)
if_follows can journal None = None
if_follows can journal (Some line) = if can journal line then Some (journal ++ line ∷ []) else None

-- the journal with what came, where it is a line that can follow
abbrev pub follow_came : {L : Type 0} → (List ℕ → Option L) → (List L → L → Bool) → List L → Came → Option (List L)
follow_came reads can journal came = if_follows can journal (line_by reads came.what came.text)

-- the lines follow this journal, one after another, by which journal each leaves, and come to this one
abbrev pub ComesTo : {J : Type 0} → (J → Came → Option J) → J → List Came → J → Type 0
ComesTo follow journal [] all = all ≡ journal
ComesTo {J} follow journal (came ∷ others) all = (next : J) × (follow journal came ≡ Some next) × ComesTo follow next others all
