-- Fields byte by byte, and the row that they make.
use Rattle.std.proofs.Common.{◌≡◌, ◌∙◌, ◌<◌, ◌≤◌, ◌+◌, ◌-◌, ◌==◌, ◌||◌, not, if◌then◌else◌, ℕ, zero, suc, Bool, true, false, List, [], ◌∷◌, ◌++◌, length, get_or, take, drop, Some, None, refl, sym, ap, arith, append_assoc, append-nil, take_all, length-drop}
use Rattle.csv.specs.Machine.{Read, after_end, ends_at_end, ends_with, field_after, fields_after, in_field, is_end, next_record, step}
use Rattle.csv.specs.Reading.{default_config}
use Rattle.csv.specs.declared.parser.Action.{Action}
use Rattle.csv.specs.declared.parser.Action.TheVariants as act
use Rattle.csv.specs.declared.parser.State.{State}
use Rattle.csv.specs.declared.parser.State.TheVariants as st
use Rattle.csv.specs.declared.parser.Terminator.TheVariants as term
use Rattle.csv.proofs.RoundTrip.{record-same}
use Rattle.memchr.specs.Find.{is_byte3}
use Rattle.plan_files.specs.Fields.{IsStep, behind_fields, ends_field, field_from, first_field, is_quoted, state_of}
use Rattle.plan_files.specs.KeptRows.{is_at_comma, is_line_end, next_row, starts_row}
use Rattle.plan_files.specs.declared.fields.QuoteState.{QuoteState}
use Rattle.plan_files.specs.declared.fields.Step.TheVariants as a_step
use Rattle.plan_files.proofs.ReadingLemmas.{drop_at, drop_end}

-- ---- what a byte does within a field

-- a state within a field
abbrev is_inside : State → Bool
is_inside st.StartField = true
is_inside st.InField = true
is_inside st.InQuoted = true
is_inside st.AfterQuote = true
is_inside st.StartRecord = false
is_inside st.InEscape = false
is_inside st.InComment = false
is_inside st.AfterCr = false

-- a field ends at a comma or with its row, or goes on
abbrev GoesOn : ℕ → State → Action → Type 0
GoesOn c s act.EndField = ((c == 44) ≡ true) × (s ≡ st.StartField)
GoesOn c s act.EndRecord = ((c == 44) ≡ false) × (s ≡ after_end term.CRLF c)
GoesOn c s act.Skip = is_inside s ≡ true
GoesOn c s act.Copy = is_inside s ≡ true

abbrev Goes : ℕ → State × Action → Type 0
Goes c q = GoesOn c q.0 q.1

goes_by : (a b : Bool) (c : ℕ) → (c == 44) ≡ a → Goes c (if a then (st.StartField, act.EndField) else if b then (after_end term.CRLF c, act.EndRecord) else (st.InField, act.Copy))
goes_by true b c e = (e, refl)
goes_by false true c e = (e, refl)
goes_by false false c e = refl

in_goes : (c : ℕ) → Goes c (in_field default_config c)
in_goes c = goes_by (c == 44) (ends_with term.CRLF c) c refl

goes_if : (b : Bool) (c : ℕ) (x y : State × Action) → Goes c x → Goes c y → Goes c (if b then x else y)
goes_if true c x y p q = p
goes_if false c x y p q = q

goes : (s : State) (c : ℕ) → is_inside s ≡ true → Goes c (step default_config s c)
goes st.StartField c h = goes_if (c == 34) c (st.InQuoted, act.Skip) (in_field default_config c) refl (in_goes c)
goes st.InField c h = in_goes c
goes st.InQuoted c h = goes_if (c == 34) c (st.AfterQuote, act.Skip) (st.InQuoted, act.Copy) refl refl
goes st.AfterQuote c h = goes_if (c == 34) c (st.InQuoted, act.Copy) (in_field default_config c) refl (in_goes c)
goes st.StartRecord c h = cc h
goes st.InEscape c h = cc h
goes st.InComment c h = cc h
goes st.AfterCr c h = cc h

ends_inside : (s : State) → is_inside s ≡ true → ends_at_end s ≡ true
ends_inside st.StartField h = refl
ends_inside st.InField h = refl
ends_inside st.InQuoted h = refl
ends_inside st.AfterQuote h = refl
ends_inside st.StartRecord h = cc h
ends_inside st.InEscape h = cc h
ends_inside st.InComment h = cc h
ends_inside st.AfterCr h = cc h

-- ---- a field and the row behind it

one_byte : (c : ℕ) (s : State) (a : Action) (fields : List (List ℕ)) (text cs : List ℕ) → GoesOn c s a
    → ((t : List ℕ) → is_inside s ≡ true → next_record default_config s fields t cs ≡ behind_fields (fields ++ ((field_from s t cs).0 ∷ [])) (field_from s t cs).1)
    → (if is_end a then Some (fields_after a fields text, s, cs) else next_record default_config s (fields_after a fields text) (field_after a c text) cs)
    ≡ behind_fields (fields ++ ((if ends_field a then (text, c ∷ cs) else field_from s (field_after a c text) cs).0 ∷ [])) (if ends_field a then (text, c ∷ cs) else field_from s (field_after a c text) cs).1
one_byte c s act.EndField fields text cs g ih = rw (g.0, g.1) refl
one_byte c s act.EndRecord fields text cs g ih = rw (g.0, g.1) refl
one_byte c s act.Skip fields text cs g ih = ih text g
one_byte c s act.Copy fields text cs g ih = ih (text ++ (c ∷ [])) g

-- a row goes on behind its field
pub field_row : (s : State) (fields : List (List ℕ)) (text bytes : List ℕ) → is_inside s ≡ true
    → next_record default_config s fields text bytes ≡ behind_fields (fields ++ ((field_from s text bytes).0 ∷ [])) (field_from s text bytes).1
unfolding next_record field_from
field_row s fields text [] h = rw (ends_inside s h) refl
field_row s fields text (c ∷ cs) h =
    let q = step default_config s c in
    one_byte c q.0 q.1 fields text cs (goes s c h) (λ t i. field_row q.0 fields t cs i)

-- the same, of a field that was read
pub row_goes_on : (fields : List (List ℕ)) (text bytes rest : List ℕ) → first_field bytes ≡ (text, rest)
    → next_record default_config st.StartField fields [] bytes ≡ behind_fields (fields ++ (text ∷ [])) rest
row_goes_on fields text bytes rest is =
    field_row st.StartField fields [] bytes refl ∙ ap (λ (f : List ℕ × List ℕ). behind_fields (fields ++ (f.0 ∷ [])) f.1) is

-- a row begins with its first field
pub row_begins : (start text rest : List ℕ) → starts_row start ≡ true → 0 < length start → first_field start ≡ (text, rest) → next_row start ≡ behind_fields (text ∷ []) rest
row_begins [] text rest starts some is = absurd (omega arith)
row_begins (c ∷ cs) text rest starts some is =
    let other = no_end (c == 13) (c == 10) starts in
    record-same [] [] c cs other.0 other.1 ∙ row_goes_on [] text (c ∷ cs) rest is
  where
    no_end : (a b : Bool) → not (a || b) ≡ true → (a ≡ false) × (b ≡ false)
    no_end true b h = cc h
    no_end false true h = cc h
    no_end false false h = (refl, refl)

-- a row is found, and begins with the fields before it
one_more : (c : ℕ) (s : State) (a : Action) (fields : List (List ℕ)) (text cs : List ℕ) → GoesOn c s a
    → ((f : List (List ℕ)) (t : List ℕ) → is_inside s ≡ true → (q : Read) × (next_record default_config s f t cs ≡ Some q) × ((more : List (List ℕ)) × (q.0 ≡ f ++ more)))
    → (q : Read) × ((if is_end a then Some (fields_after a fields text, s, cs) else next_record default_config s (fields_after a fields text) (field_after a c text) cs) ≡ Some q)
    × ((more : List (List ℕ)) × (q.0 ≡ fields ++ more))
one_more c s act.EndField fields text cs g ih =
    let found = ih (fields ++ (text ∷ [])) [] (ap is_inside g.1) in
    (found.0, found.1, (text ∷ found.2.0, found.2.1 ∙ append_assoc fields (text ∷ []) found.2.0))
one_more c s act.EndRecord fields text cs g ih = ((fields ++ (text ∷ []), s, cs), refl, (text ∷ [], refl))
one_more c s act.Skip fields text cs g ih = ih fields text g
one_more c s act.Copy fields text cs g ih = ih fields (text ++ (c ∷ [])) g

pub row_found : (s : State) (fields : List (List ℕ)) (text bytes : List ℕ) → is_inside s ≡ true
    → (q : Read) × (next_record default_config s fields text bytes ≡ Some q) × ((more : List (List ℕ)) × (q.0 ≡ fields ++ more))
unfolding next_record
row_found s fields text [] h = ((fields ++ (text ∷ []), st.StartRecord, []), rw (ends_inside s h) refl, (text ∷ [], refl))
row_found s fields text (c ∷ cs) h =
    let q = step default_config s c in
    one_more c q.0 q.1 fields text cs (goes s c h) (λ f t i. row_found q.0 f t cs i)

-- behind a comma the next field follows
pub behind_comma : (fields : List (List ℕ)) (left : List ℕ) → is_at_comma left ≡ true
    → behind_fields fields left ≡ next_record default_config st.StartField fields [] (drop 1 left)
behind_comma fields [] h = cc h
behind_comma fields (c ∷ cs) h = rw h refl

-- elsewhere the row ends
pub behind_row : (fields : List (List ℕ)) (left : List ℕ) → is_at_comma left ≡ false
    → (s : State) × (behind_fields fields left ≡ Some (fields, s, drop 1 left)) × (ends_at_end s ≡ false)
behind_row fields [] h = (st.StartRecord, refl, refl)
behind_row fields (c ∷ cs) h = (after_end term.CRLF c, rw h refl, between (c == 13))
  where
    between : (b : Bool) → ends_at_end (if b then st.AfterCr else st.StartRecord) ≡ false
    between true = refl
    between false = refl

-- there is a row, and it begins with the fields before it
pub behind_found : (fields : List (List ℕ)) (left : List ℕ) → is_at_comma left ≡ true
    → (q : Read) × (behind_fields fields left ≡ Some q) × ((more : List (List ℕ)) × (q.0 ≡ fields ++ more))
behind_found fields left h =
    let found = row_found st.StartField fields [] (drop 1 left) refl in
    (found.0, behind_comma fields left h ∙ found.1, found.2)

-- ---- plain fields

no_mark : (a b d : Bool) → (a || b || d) ≡ false → (a ≡ false) × (b ≡ false) × (d ≡ false)
no_mark true b d h = cc h
no_mark false true d h = cc h
no_mark false false true h = cc h
no_mark false false false h = (refl, refl, refl)

-- what a byte does in a plain field that is a comma, or else ends a line
abbrev plain_step : (a b : Bool) → State → State × Action
plain_step a b s = if a then (st.StartField, act.EndField) else if b then (s, act.EndRecord) else (st.InField, act.Copy)

mark_ends : (a b d : Bool) (s : State) → (a || b || d) ≡ true → ends_field (plain_step a (d || b) s).1 ≡ true
mark_ends true b d s h = refl
mark_ends false true true s h = refl
mark_ends false true false s h = refl
mark_ends false false true s h = refl
mark_ends false false false s h = cc h

-- a byte that ends no field
pub no_end_byte : (c : ℕ) → ¬ is_byte3 44 10 13 c ≡ true → is_byte3 44 10 13 c ≡ false
no_end_byte c h = by (is_byte3 44 10 13 c) h
  where
    by : (b : Bool) → ¬ b ≡ true → b ≡ false
    by true h = absurd (h refl)
    by false h = refl

plain_from : (text bytes : List ℕ) (n : ℕ) → n ≤ length bytes → (n < length bytes → is_byte3 44 10 13 (get_or bytes n 0) ≡ true)
    → ((k : ℕ) → k < n → is_byte3 44 10 13 (get_or bytes k 0) ≡ false) → field_from st.InField text bytes ≡ (text ++ take n bytes, drop n bytes)
unfolding field_from
plain_from text [] zero h mark none = rw (append-nil text) refl
plain_from text [] (suc n) h mark none = absurd (omega arith)
plain_from text (c ∷ cs) zero h mark none =
    let ends = mark_ends (c == 44) (c == 10) (c == 13) (after_end term.CRLF c) (mark (omega arith)) in
    rw (ends, append-nil text) refl
plain_from text (c ∷ cs) (suc n) h mark none =
    let other = no_mark (c == 44) (c == 10) (c == 13) (none 0 (omega arith)) in
    let more = plain_from (text ++ (c ∷ [])) cs n (omega arith) (λ lt. mark (omega arith)) (λ k lt. none (suc k) (omega arith)) in
    rw (other.0, other.2, other.1) (more ∙ ap (λ (t : List ℕ). (t, drop n cs)) (append_assoc text (c ∷ []) (take n cs)))

-- a field that isn't quoted ends at the first mark
pub plain_field : (bytes : List ℕ) (n : ℕ) → is_quoted bytes ≡ false → n ≤ length bytes → (n < length bytes → is_byte3 44 10 13 (get_or bytes n 0) ≡ true)
    → ((k : ℕ) → k < n → is_byte3 44 10 13 (get_or bytes k 0) ≡ false) → first_field bytes ≡ (take n bytes, drop n bytes)
unfolding field_from
plain_field [] zero plain h mark none = refl
plain_field [] (suc n) plain h mark none = absurd (omega arith)
plain_field (c ∷ cs) n plain h mark none = in_midst c cs plain ∙ plain_from [] (c ∷ cs) n h mark none
  where
    in_midst : (c : ℕ) (cs : List ℕ) → (c == 34) ≡ false → field_from st.StartField [] (c ∷ cs) ≡ field_from st.InField [] (c ∷ cs)
    in_midst c cs q = rw q refl

-- ---- quoted fields

pub quoted_starts : (bytes : List ℕ) → is_quoted bytes ≡ true → first_field bytes ≡ field_from st.InQuoted [] (drop 1 bytes)
unfolding field_from
quoted_starts [] h = cc h
quoted_starts (c ∷ cs) h = rw h refl

-- a byte of the field
pub goes_within : (at next : QuoteState) (is_text : Bool) (text bytes : List ℕ) (n : ℕ) → n < length bytes → IsStep at (get_or bytes n 0) (a_step.Within next is_text)
    → field_from (state_of at) text (drop n bytes) ≡ field_from (state_of next) (if is_text then text ++ (get_or bytes n 0 ∷ []) else text) (drop (n + 1) bytes)
unfolding field_from
goes_within at next is_text text bytes n h is = ap (field_from (state_of at) text) (drop_at bytes n 0 h) ∙ over at next is_text text (get_or bytes n 0) (drop (n + 1) bytes) is
  where
    over : (at next : QuoteState) (is_text : Bool) (text : List ℕ) (c : ℕ) (cs : List ℕ) → IsStep at c (a_step.Within next is_text)
        → field_from (state_of at) text (c ∷ cs) ≡ field_from (state_of next) (if is_text then text ++ (c ∷ []) else text) cs
    over at next true text c cs is = rw is refl
    over at next false text c cs is = rw is refl

-- the byte behind the field
pub goes_out : (at : QuoteState) (text bytes : List ℕ) (n : ℕ) → n < length bytes → IsStep at (get_or bytes n 0) a_step.End
    → field_from (state_of at) text (drop n bytes) ≡ (text, drop n bytes)
unfolding field_from
goes_out at text bytes n h is =
    ap (field_from (state_of at) text) (drop_at bytes n 0 h) ∙ over (state_of at) text (get_or bytes n 0) (drop (n + 1) bytes) is ∙ ap (λ (rest : List ℕ). (text, rest)) (sym (drop_at bytes n 0 h))
  where
    over : (s : State) (text : List ℕ) (c : ℕ) (cs : List ℕ) → ends_field (step default_config s c).1 ≡ true → field_from s text (c ∷ cs) ≡ (text, c ∷ cs)
    over s text c cs is = rw is refl

pub ends_with_bytes : (s : State) (text bytes : List ℕ) (n : ℕ) → length bytes ≤ n → field_from s text (drop n bytes) ≡ (text, drop (length bytes) bytes)
unfolding field_from
ends_with_bytes s text bytes n h = rw (drop_end bytes n h, drop_end bytes (length bytes) (omega arith)) refl

-- ---- rows

-- at the start of a row its ends are skipped
pub skip_one : (bytes : List ℕ) (n : ℕ) → n < length bytes → is_line_end (get_or bytes n 0) ≡ true → next_row (drop n bytes) ≡ next_row (drop (n + 1) bytes)
unfolding next_record
skip_one bytes n h is = rw (drop_at bytes n 0 h, is) refl

pub starts_at : (bytes : List ℕ) (n : ℕ) → (n < length bytes → is_line_end (get_or bytes n 0) ≡ false) → starts_row (drop n bytes) ≡ true
starts_at [] zero h = refl
starts_at [] (suc n) h = refl
starts_at (c ∷ cs) zero h = rw (h (omega arith)) refl
starts_at (c ∷ cs) (suc n) h = starts_at cs n (λ lt. h (omega arith))

pub none_left : (bytes : List ℕ) → length bytes ≡ 0 → next_row bytes ≡ None
unfolding next_record
none_left [] none = refl
none_left (c ∷ cs) none = absurd (omega (arith, none))

-- a slice to the end
pub slice_rest : (n : ℕ) (xs : List ℕ) → take (length xs - n) (drop n xs) ≡ drop n xs
slice_rest n xs = let d = length-drop n xs in take_all _ _ (omega (arith, d))

pub quoted_some : (bytes : List ℕ) → is_quoted bytes ≡ true → 0 < length bytes
quoted_some [] h = cc h
quoted_some (c ∷ cs) h = omega arith
