-- Fields of a row: where each ends, and what it says.
use Rattle.std.specs.Prelude.{◌≡◌, ◌≤◌, ◌++◌, ◌&&◌, ℕ, ◌==◌, nat_lt, Bool, true, false, if◌then◌else◌, List, [], ◌∷◌, drop, length, take, Option, Some}
use Rattle.csv.specs.Machine.{Read, after_end, field_after, next_record, step}
use Rattle.csv.specs.Reading.{default_config}
use Rattle.csv.specs.declared.parser.Action.{Action}
use Rattle.csv.specs.declared.parser.Action.TheVariants as act
use Rattle.csv.specs.declared.parser.State.{State}
use Rattle.csv.specs.declared.parser.State.TheVariants as st
use Rattle.csv.specs.declared.parser.Terminator.TheVariants as term
use Rattle.plan_files.specs.declared.fields.QuoteState.{QuoteState}
use Rattle.plan_files.specs.declared.fields.QuoteState.TheVariants as place
use Rattle.plan_files.specs.declared.fields.Step.{Step}
use Rattle.plan_files.specs.declared.fields.Step.TheVariants as a_step

-- whether a byte that does this ends a field
abbrev pub ends_field : Action → Bool
ends_field act.EndField = true
ends_field act.EndRecord = true
ends_field act.Skip = false
ends_field act.Copy = false

-- the text of the field at hand, and the bytes from its end on
unfoldable pub field_from : State → List ℕ → List ℕ → List ℕ × List ℕ
field_from s text [] = (text, [])
field_from s text (c ∷ rest) =
    if ends_field (step default_config s c).1 then (text, c ∷ rest)
    else field_from (step default_config s c).0 (field_after (step default_config s c).1 c text) rest

-- the field with which bytes begin
abbrev pub first_field : List ℕ → List ℕ × List ℕ
first_field bytes = field_from st.StartField [] bytes

-- the row whose fields so far are these, where the bytes begin at the end of the last one
abbrev pub behind_fields : List (List ℕ) → List ℕ → Option Read
behind_fields fields [] = Some (fields, st.StartRecord, [])
behind_fields fields (c ∷ rest) =
    if c == 44 then next_record default_config st.StartField fields [] rest else Some (fields, after_end term.CRLF c, rest)

-- where a reader stands in a field
abbrev pub state_of : QuoteState → State
state_of place.Quoted = st.InQuoted
state_of place.Closed = st.AfterQuote
state_of place.Plain = st.InField

-- what a byte does at a place
abbrev pub IsStep : QuoteState → ℕ → Step → Type 0
IsStep at c a_step.End = ends_field (step default_config (state_of at) c).1 ≡ true
IsStep at c (a_step.Within next is_text) = step default_config (state_of at) c ≡ (state_of next, if is_text then act.Copy else act.Skip)

-- a text of at most so many bytes, with a byte more where that belongs to it
abbrev pub cut_text_with : ℕ → List ℕ → Bool → ℕ → List ℕ
cut_text_with most text is_text c = if is_text && nat_lt (length text) most then text ++ (c ∷ []) else text

-- whether the bytes begin with a quote
abbrev pub is_quoted : List ℕ → Bool
is_quoted [] = false
is_quoted (c ∷ cs) = c == 34

-- the first field of the bytes ends at this place, and its first bytes, at most so many, are these
pub record IsCutField (bytes : List ℕ) (end most : ℕ) (kept : List ℕ) : Type 0 where
  pub text : List ℕ
  pub field : first_field bytes ≡ (text, drop end bytes)
  pub cut : kept ≡ take most text
  pub short : length text ≤ length bytes
  pub inside : end ≤ length bytes
