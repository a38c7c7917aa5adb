-- A text that has an `end` line among its whole lines is not refused for want of one.
use Rattle.std.proofs.Common.{◌≡◌, ℕ, ◌+◌, ◌<◌, ◌≤◌, ◌^◌, ◌==◌, ◌&&◌, Bool, true, false, List, [], ◌∷◌, ◌++◌, length, length-append, ⊎_elim, refl, sym, ap, ◌∙◌, arith, append-nil, subst, Option, Some, None, Result, Ok, Err}
use Rattle.std.specs.Prelude.{bytes_eq, codes, decimal, is_some, if◌then◌else◌}
use Rattle.std.specs.Option.{ok_or}
use Rattle.std.specs.List.{list_any}
use Rattle.std.proofs.lemmas.Bool.{and_parts, both_ways, false≢true, or_cases, or_left, or_right}
use Rattle.std.proofs.lemmas.Grind.{flat_map-append}
use Rattle.group_plan.specs.declared.plan.GroupPlan.{GroupPlan}
use Rattle.group_plan.specs.declared.plan.PlanError.{PlanError}
use Rattle.group_plan.specs.declared.plan.members.Span.{Span}
use Rattle.group_plan.specs.Plans.{PlanView}
use Rattle.field_texts.specs.Parts.{parts}
use Rattle.field_texts.specs.Numbers.{number_of, within}
use Rattle.field_texts.proofs.Choices.{is_word}
use Rattle.field_texts.proofs.Cutting.{parts_some}
use Rattle.field_texts.proofs.TextLaws.{AllClean, clean, clean_append, clean_decimal, parts_at}
use Rattle.event_schedule.specs.declared.Entry.{Entry}
use Rattle.transcript_text.specs.declared.version.Version.TheVariants.{Two}
use Rattle.transcript_text.specs.declared.fault.ReadError.{ReadError}
use Rattle.transcript_text.specs.declared.fault.ReadError.TheVariants as fault
use Rattle.transcript_text.specs.Faults.{lines_text}
use Rattle.transcript_text.specs.Heads.{HeadRead, after_head_row, at_begin, group_row, head_from, head_number, head_of, head_row, is_two, member_row, name_of, next_line, plan_at, read_of, rounds_of, start_of, title_of, two_numbers, unless_fault, windows_of, with_rest}
use Rattle.transcript_text.specs.Parts.{at}
use Rattle.transcript_text.specs.Reading.{◌>>=◌, after_row, as_entry, close_of, end_of, entries_from, in_line, row_of, send_of, take_of, tick_of}
use Rattle.transcript_text.specs.Spelling.{ended}
use Rattle.transcript_text.proofs.WholeLines.{few_parts, front_clean, parts_are_clean, parts_lines}
use Rattle.cut_resume.specs.Cut.{HasEnd, after_begin, but_last, completed, end_line, is_end, whole_lines}
use Rattle.cut_resume.proofs.WholeLines.{last_part, split_last}

-- ---- what went well has this property, and what did not is no want of an `end` line

abbrev is_other : ReadError → Bool
is_other (fault.NoEnd n) = false
is_other _ = true

abbrev Well : {A : Type 0} → Result A ReadError → (A → Type 0) → Type 0
Well (Ok x) P = P x
Well (Err f) P = is_other f ≡ true

abbrev Free : {A : Type 0} → A → Type 0
Free x = Unit {0}

well_step : {A B : Type 0} (r : Result A ReadError) (go : A → Result B ReadError) (P : A → Type 0) (Q : B → Type 0) → Well r P → ((x : A) → P x → Well (go x) Q) → Well (r >>= go) Q
well_step (Ok x) go P Q h goes_on = goes_on x h
well_step (Err f) go P Q h goes_on = h

well_choice : {A : Type 0} (b : Bool) (x y : Result A ReadError) (P : A → Type 0) → (b ≡ true → Well x P) → (b ≡ false → Well y P) → Well (if b then x else y) P
well_choice true x y P first second = first refl
well_choice false x y P first second = second refl

well_where : {A : Type 0} (b : Bool) (x : A) (n : ℕ) → Well (if b then Ok x else Err (fault.Head n)) Free
well_where true x n = tt
well_where false x n = refl

well_some : {A : Type 0} (n : ℕ) (o : Option A) → Well (ok_or o (fault.Head n)) Free
well_some n (Some x) = tt
well_some n None = refl

well_weaker : {A : Type 0} (r : Result A ReadError) (P Q : A → Type 0) → ((x : A) → P x → Q x) → Well r P → Well r Q
well_weaker (Ok x) P Q to h = to x h
well_weaker (Err f) P Q to h = h

well_not : {A : Type 0} (r : Result A ReadError) (m : ℕ) → Well r Free → r ≡ Err (fault.NoEnd m) → ⊥
well_not (Ok x) m h e = absurd cc
well_not (Err f) m h e = let same : f ≡ fault.NoEnd m = cc in false≢true (sym (ap is_other same) ∙ h)

-- ---- lines of the head

number_well : (n : ℕ) (text : List ℕ) → Well (head_number n text) Free
number_well n text = well_some n _

-- where the first field is another word, it is not `end`
other_word : (fs : List (List ℕ)) (b : Bool) (word : List ℕ) → bytes_eq word (codes "end") ≡ false → (b && bytes_eq (at fs 0) word) ≡ true → bytes_eq (at fs 0) (codes "end") ≡ false
other_word fs b word other h = ap (λ f. bytes_eq f (codes "end")) (is_word (at fs 0) word (and_parts b (bytes_eq (at fs 0) word) h).1) ∙ other

module _ (fs : List (List ℕ)) where
  -- the line is no `end` line
  abbrev Other : {A : Type 0} → A → Type 0
  Other x = bytes_eq (at fs 0) (codes "end") ≡ false

  title_well : (n : ℕ) → Well (title_of Two n fs) Other
  unfolding title_of
  title_well n = well_choice _ (Ok tt) (Err (fault.Head n)) Other (other_word fs (length fs == 1) (codes "meteragg transcript 2") refl) (λ no. refl)

  rounds_well : (n : ℕ) → Well (rounds_of n fs) Other
  unfolding rounds_of
  rounds_well n = well_choice _ (head_number n (at fs 1)) (Err (fault.Head n)) Other
      (λ is. well_weaker (head_number n (at fs 1)) Free Other (λ x _. other_word fs (length fs == 2) (codes "rounds") refl is) (number_well n (at fs 1))) (λ no. refl)

  windows_well : (n : ℕ) → Well (windows_of n fs) Other
  unfolding windows_of
  windows_well n = well_choice _ (two_numbers n fs) (Err (fault.Head n)) Other
      (λ is. well_step (head_number n (at fs 1)) _ Free Other (number_well n (at fs 1)) (λ w1 _.
      well_step (head_number n (at fs 2)) _ Free Other (number_well n (at fs 2)) (λ w2 _. other_word fs (length fs == 3) (codes "windows") refl is)))
      (λ no. refl)

  group_well : (n : ℕ) → Well (group_row n fs) Free
  group_well n =
      well_step (ok_or (name_of (at fs 1)) (fault.Head n)) _ Free Free (well_some n (name_of (at fs 1))) (λ name _. well_step (head_number n (at fs 2)) _ Free Free (number_well n (at fs 2)) (λ meters _.
      well_step (head_number n (at fs 3)) _ Free Free (number_well n (at fs 3)) (λ floor _. tt)))

  member_well : (n rounds : ℕ) (groups : List GroupPlan) (last : Option Span) → Well (member_row n rounds groups last fs) Free
  member_well n rounds groups last =
      well_step (head_number n (at fs 1)) _ Free Free (number_well n (at fs 1)) (λ g _.
      well_step (head_number n (at fs 2)) _ Free Free (number_well n (at fs 2)) (λ i _.
      well_step (head_number n (at fs 3)) _ Free Free (number_well n (at fs 3)) (λ from _.
      well_step (head_number n (at fs 4)) _ Free Free (number_well n (at fs 4)) (λ until _.
      well_where _ _ n))))

  row_by : (n rounds : ℕ) (groups : List GroupPlan) (last : Option Span) (is_begin is_group is_member : Bool)
      → ((length fs == 1) && bytes_eq (at fs 0) (codes "begin")) ≡ is_begin → ((length fs == 4) && bytes_eq (at fs 0) (codes "group")) ≡ is_group
      → ((length fs == 5) && bytes_eq (at fs 0) (codes "member") && is_two Two) ≡ is_member → Well (head_row Two n rounds groups last fs) Other
  unfolding head_row
  row_by n rounds groups last true is_group is_member begin group member = rw begin (other_word fs (length fs == 1) (codes "begin") refl begin)
  row_by n rounds groups last false true is_member begin group member =
      rw (begin, group)
      (well_weaker (if is_some last then Err (fault.Head n) else group_row n fs) Free Other (λ x _. other_word fs (length fs == 4) (codes "group") refl group)
      (well_choice (is_some last) (Err (fault.Head n)) (group_row n fs) Free (λ _. refl) (λ _. group_well n)))
  row_by n rounds groups last false false true begin group member =
      rw (begin, group, member)
      (well_weaker (member_row n rounds groups last fs) Free Other
      (λ x _. other_word fs (length fs == 5) (codes "member") refl (and_parts ((length fs == 5) && bytes_eq (at fs 0) (codes "member")) (is_two Two) member).0)
      (member_well n rounds groups last))
  row_by n rounds groups last false false false begin group member = rw (begin, group, member) refl

  row_well : (n rounds : ℕ) (groups : List GroupPlan) (last : Option Span) → Well (head_row Two n rounds groups last fs) Other
  row_well n rounds groups last = row_by n rounds groups last _ _ _ refl refl refl

-- ---- the lines of the head

-- a part that is not the last has the first field `end`
abbrev pub Ends : List (List ℕ) → Type 0
Ends ps = list_any is_end (but_last ps) ≡ true

ends_not : (ps : List (List ℕ)) → but_last ps ≡ [] → Ends ps → ⊥
ends_not ps none h = false≢true (ap (list_any is_end) (sym none) ∙ h)

ends_later : (line next : List ℕ) (more : List (List ℕ)) → Ends (line ∷ next ∷ more) → is_end line ≡ false → Ends (next ∷ more)
ends_later line next more h other =
    ⊎_elim (λ now. absurd (both_ways (is_end line) other now)) (λ later. later) (or_cases (is_end line) (list_any is_end (but_last (next ∷ more))) h)

line_well : {A : Type 0} (n : ℕ) (read : List (List ℕ) → Result A ReadError) (ps : List (List ℕ)) → ((line : List ℕ) → Well (read (parts 44 line)) (λ x. is_end line ≡ false))
    → Ends ps → Well (next_line n read ps) (λ x. Ends x.1)
line_well n read [] well h = absurd (ends_not [] refl h)
line_well n read (rest ∷ []) well h = absurd (ends_not (rest ∷ []) refl h)
line_well {A} n read (line ∷ next ∷ more) well h = by_read (read (parts 44 line)) (well line)
  where
    by_read : (r : Result A ReadError) → Well r (λ x. is_end line ≡ false) → Well (with_rest (next ∷ more) r) (λ x. Ends x.1)
    by_read (Ok x) other = ends_later line next more h other
    by_read (Err f) other = other

start_well : (ps : List (List ℕ)) → Ends ps → Well (start_of Two ps) (λ x. Ends x.1)
unfolding start_of
start_well ps h =
    well_step (next_line 1 (title_of Two 1) ps) _ (λ x. Ends x.1) _ (line_well 1 (title_of Two 1) ps (λ line. title_well (parts 44 line) 1) h) (λ top h1.
    well_step (next_line 2 (rounds_of 2) top.1) _ (λ x. Ends x.1) _ (line_well 2 (rounds_of 2) top.1 (λ line. rounds_well (parts 44 line) 2) h1) (λ rounds h2.
    well_step (next_line 3 (windows_of 3) rounds.1) _ (λ x. Ends x.1) _ (line_well 3 (windows_of 3) rounds.1 (λ line. windows_well (parts 44 line) 3) h2) (λ windows h3. h3)))

-- a head that has been read has an `end` line behind it, and one that was refused was not for want of it
abbrev is_good : Result HeadRead ReadError → Bool
is_good (Ok h) = list_any is_end (but_last h.rest)
is_good (Err f) = is_other f

good_well : (r : Result HeadRead ReadError) → is_good r ≡ true → Well r (λ h. Ends h.rest)
good_well (Ok h) good = good
good_well (Err f) good = good

row_good : (start : _) (n : ℕ) (last : Option Span) (groups : List GroupPlan) (spans : List Span) (zs : List (List ℕ)) (go : Option Span → List GroupPlan → List Span → Result HeadRead ReadError) (x : _)
    → ((l : Option Span) (gs : List GroupPlan) (ss : List Span) → is_good (go l gs ss) ≡ true) → is_good (at_begin n zs (plan_at Two n start groups spans)) ≡ true
    → is_good (after_head_row Two start n last groups spans zs go (Ok x)) ≡ true
row_good start n last groups spans zs go x each begin = grind (arith, each, begin)

begin_good : (start : _) (n : ℕ) (groups : List GroupPlan) (spans : List Span) (zs : List (List ℕ)) → Ends zs → is_good (at_begin n zs (plan_at Two n start groups spans)) ≡ true
unfolding plan_at
begin_good start n groups spans zs h = by_fault _ _
  where
    by_fault : (plan : PlanView) (o : Option PlanError) → is_good (at_begin n zs (unless_fault n plan o)) ≡ true
    by_fault plan None = h
    by_fault plan (Some e) = refl

from_good : (start : _) (n : ℕ) (last : Option Span) (groups : List GroupPlan) (spans : List Span) (ps : List (List ℕ)) → Ends ps → is_good (head_from Two start n last groups spans ps) ≡ true
unfolding head_from
from_good start n last groups spans [] h = absurd (ends_not [] refl h)
from_good start n last groups spans (rest ∷ []) h = absurd (ends_not (rest ∷ []) refl h)
from_good start n last groups spans (line ∷ next ∷ more) h =
    by_row (head_row Two n start.rounds groups last (parts 44 line)) (row_well (parts 44 line) n start.rounds groups last)
    (λ later l gs ss. from_good start (n + 1) l gs ss (next ∷ more) later)
  where
    by_row : (r : Result _ ReadError) → Well r (λ x. is_end line ≡ false)
        → (Ends (next ∷ more) → (l : Option Span) (gs : List GroupPlan) (ss : List Span) → is_good (head_from Two start (n + 1) l gs ss (next ∷ more)) ≡ true)
        → is_good (after_head_row Two start n last groups spans (next ∷ more) (λ l gs ss. head_from Two start (n + 1) l gs ss (next ∷ more)) r) ≡ true
    by_row (Ok x) other go =
        let later : Ends (next ∷ more) = ends_later line next more h other in
        row_good start n last groups spans (next ∷ more) (λ l gs ss. head_from Two start (n + 1) l gs ss (next ∷ more)) x (go later) (begin_good start n groups spans (next ∷ more) later)
    by_row (Err f) other go = other

head_well : (ps : List (List ℕ)) → Ends ps → Well (head_of Two ps) (λ h. Ends h.rest)
unfolding head_of
head_well ps h =
    well_step (start_of Two ps) _ (λ x. Ends x.1) _ (start_well ps h) (λ start ends. good_well (head_from Two start.0 4 None [] [] start.1) (from_good start.0 4 None [] [] start.1 ends))

-- ---- the lines of entries

abbrev is_well : {A : Type 0} → Result A ReadError → Bool
is_well (Ok x) = true
is_well (Err f) = is_other f

well : {A : Type 0} (r : Result A ReadError) → is_well r ≡ true → Well r Free
well (Ok x) h = tt
well (Err f) h = h

abbrev is_refused : {A E : Type 0} → Result A E → Bool
is_refused (Ok x) = false
is_refused (Err f) = true

refused_step : {A B E : Type 0} (r : Result A E) (go : A → Result B E) → is_refused r ≡ true → is_refused (r >>= go) ≡ true
refused_step (Ok x) go h = absurd (false≢true h)
refused_step (Err f) go h = refl

refused_none : {A E : Type 0} (o : Option A) (e : E) → o ≡ None → is_refused (ok_or o e) ≡ true
refused_none (Some x) e h = absurd cc
refused_none None e h = refl

fault_other : (n : ℕ) (f : _) → is_other (in_line n f) ≡ true
fault_other n f = grind arith

end_number : number_of (codes "end") ≡ None
unfolding number_of
end_number = refl

module _ (n count : ℕ) (more : List (List ℕ)) (rest : Entry → Result (List Entry) ReadError) where
  -- a line where the lines after it are well
  row_any : (r : _) → ((e : Entry) → is_well (rest e) ≡ true) → is_well (after_row n count more rest r) ≡ true
  row_any r each = grind (arith, each)

  row_refused : (r : Result Entry _) → is_refused r ≡ true → is_well (after_row n count more rest (as_entry r)) ≡ true
  row_refused (Ok x) h = absurd (false≢true h)
  row_refused (Err f) h = fault_other n f

  -- an `end` line, whatever stands after it
  module _ (plan : PlanView) (last : ℕ) (fs : List (List ℕ)) (is : bytes_eq (at fs 0) (codes "end") ≡ true) where
    no_tick : is_refused (tick_of last fs) ≡ true
    no_tick = refused_none _ _ (ap (λ o. within last (2 ^ 32) o) (ap number_of (is_word (at fs 0) (codes "end") is) ∙ end_number))

    no_send : is_refused (send_of Two plan last fs) ≡ true
    unfolding send_of
    no_send = refused_step (tick_of last fs) _ no_tick

    no_take : is_refused (take_of plan last fs) ≡ true
    unfolding take_of
    no_take = refused_step (tick_of last fs) _ no_tick

    no_close : is_refused (close_of plan last fs) ≡ true
    unfolding close_of
    no_close = refused_step (tick_of last fs) _ no_tick

    no_end : is_refused (end_of plan last fs) ≡ true
    unfolding end_of
    no_end = refused_step (tick_of last fs) _ no_tick

    by_kind : (is_last is_send is_take is_close is_end : Bool) → ((length fs == 2) && bytes_eq (at fs 0) (codes "end")) ≡ is_last
        → ((length fs == 8) && bytes_eq (at fs 1) (codes "s")) ≡ is_send → ((length fs == 7) && bytes_eq (at fs 1) (codes "t")) ≡ is_take
        → ((length fs == 6) && bytes_eq (at fs 1) (codes "c")) ≡ is_close → ((length fs == 6) && bytes_eq (at fs 1) (codes "e")) ≡ is_end
        → is_well (after_row n count more rest (row_of Two plan last fs)) ≡ true
    unfolding row_of
    by_kind true is_send is_take is_close is_end h a b d e = rw h (grind arith)
    by_kind false true is_take is_close is_end h a b d e = rw (h, a) (row_refused (send_of Two plan last fs) no_send)
    by_kind false false true is_close is_end h a b d e = rw (h, a, b) (row_refused (take_of plan last fs) no_take)
    by_kind false false false true is_end h a b d e = rw (h, a, b, d) (row_refused (close_of plan last fs) no_close)
    by_kind false false false false true h a b d e = rw (h, a, b, d, e) (row_refused (end_of plan last fs) no_end)
    by_kind false false false false false h a b d e = rw (h, a, b, d, e) refl

    row_end : is_well (after_row n count more rest (row_of Two plan last fs)) ≡ true
    row_end = by_kind _ _ _ _ _ refl refl refl refl refl

entries_good : (plan : PlanView) (n last count : ℕ) (ps : List (List ℕ)) → Ends ps → is_well (entries_from Two plan n last count ps) ≡ true
unfolding entries_from
entries_good plan n last count [] h = absurd (ends_not [] refl h)
entries_good plan n last count (rest ∷ []) h = absurd (ends_not (rest ∷ []) refl h)
entries_good plan n last count (line ∷ next ∷ more) h =
    ⊎_elim
    (λ now. row_end n count (next ∷ more) (λ e. entries_from Two plan (n + 1) e.tick (count + 1) (next ∷ more)) plan last (parts 44 line) now)
    (λ later. row_any n count (next ∷ more) (λ e. entries_from Two plan (n + 1) e.tick (count + 1) (next ∷ more)) (row_of Two plan last (parts 44 line))
    (λ e. entries_good plan (n + 1) e.tick (count + 1) (next ∷ more) later))
    (or_cases (is_end line) (list_any is_end (but_last (next ∷ more))) h)

reads_well : (text : List ℕ) → Ends (parts 10 text) → Well (read_of Two text) Free
unfolding read_of
reads_well text h =
    well_step (head_of Two (parts 10 text)) _ (λ h. Ends h.rest) Free (head_well (parts 10 text) h) (λ head ends.
    well_step (entries_from Two head.plan head.line 0 0 head.rest) _ Free Free (well (entries_from Two head.plan head.line 0 0 head.rest) (entries_good head.plan head.line 0 0 head.rest ends)) (λ es _. tt))

-- ---- the completed text

after_few : (lines : List (List ℕ)) → after_begin lines ≤ length lines
after_few [] = omega arith
after_few (line ∷ lines) = by_test (bytes_eq line (codes "begin")) (after_few lines)
  where
    by_test : (b : Bool) → after_begin lines ≤ length lines → (if b then length lines else after_begin lines) ≤ length (line ∷ lines)
    by_test true few = omega arith
    by_test false few = omega arith

pub but_last_push : (lines : List (List ℕ)) (last : List ℕ) → but_last (lines ++ last ∷ []) ≡ lines
but_last_push [] last = refl
but_last_push (line ∷ []) last = refl
but_last_push (line ∷ next ∷ more) last = ap (λ l. line ∷ l) (but_last_push (next ∷ more) last)

pub any_push : (lines : List (List ℕ)) (line : List ℕ) → is_end line ≡ true → list_any is_end (lines ++ line ∷ []) ≡ true
any_push [] line h = or_left (is_end line) false h
any_push (first ∷ lines) line h = or_right (is_end first) (list_any is_end (lines ++ line ∷ [])) (any_push lines line h)

clean_push : (lines : List (List ℕ)) (line : List ℕ) → AllClean 10 lines → clean 10 line ≡ true → AllClean 10 (lines ++ line ∷ [])
clean_push [] line all h = (h, tt)
clean_push (first ∷ lines) line all h = (all.0, clean_push lines line all.1 h)

end_is_end : (n : ℕ) → is_end (end_line n) ≡ true
end_is_end n = ap (λ ps. bytes_eq (at ps 0) (codes "end")) (parts_at 44 (codes "end") (decimal n) refl)

has_end : (lines : List (List ℕ)) → AllClean 10 lines → list_any is_end lines ≡ true → HasEnd (lines_text lines)
has_end lines all some m e =
    let cut : parts 10 (lines_text lines) ≡ lines ++ [] ∷ [] = ap (parts 10) (sym (append-nil (lines_text lines))) ∙ parts_lines lines [] all in
    let ends : Ends (lines ++ [] ∷ []) = ap (list_any is_end) (but_last_push lines []) ∙ some in
    well_not (read_of Two (lines_text lines)) m (reads_well (lines_text lines) (subst Ends (sym cut) ends)) e

module _ (text : List ℕ) (long : length text < 2 ^ 63) where
  split : parts 10 text ≡ whole_lines text ++ last_part (parts 10 text) ∷ []
  split = split_last (parts 10 text) (parts_some 10 text)

  whole_clean : AllClean 10 (whole_lines text)
  whole_clean = front_clean 10 (whole_lines text) (last_part (parts 10 text) ∷ []) (subst (AllClean 10) split (parts_are_clean 10 text))

  pub few_after : after_begin (whole_lines text) < 2 ^ 64
  few_after =
      let count = ap length split in
      let all = length-append (whole_lines text) (last_part (parts 10 text) ∷ []) in
      omega (arith, long, count, all, few_parts text, after_few (whole_lines text))

  pub is_ended : list_any is_end (whole_lines text) ≡ true → completed text ≡ lines_text (whole_lines text)
  unfolding completed
  is_ended h = ap (λ b. lines_text (if b then whole_lines text else whole_lines text ++ end_line (after_begin (whole_lines text)) ∷ [])) h

  pub is_more : list_any is_end (whole_lines text) ≡ false → completed text ≡ lines_text (whole_lines text) ++ ended (end_line (after_begin (whole_lines text)))
  unfolding completed
  is_more h =
      let last : List ℕ = end_line (after_begin (whole_lines text)) in
      ap (λ b. lines_text (if b then whole_lines text else whole_lines text ++ last ∷ [])) h
      ∙ flat_map-append ended (whole_lines text) (last ∷ []) ∙ ap (λ l. lines_text (whole_lines text) ++ l) (append-nil (ended last))

  pub completed_ends : HasEnd (completed text)
  unfolding completed
  completed_ends = by_test (list_any is_end (whole_lines text)) refl
    where
      by_test : (b : Bool) → list_any is_end (whole_lines text) ≡ b → HasEnd (lines_text (if b then whole_lines text else whole_lines text ++ end_line (after_begin (whole_lines text)) ∷ []))
      by_test true h = has_end (whole_lines text) whole_clean h
      by_test false h =
          let last : List ℕ = end_line (after_begin (whole_lines text)) in
          has_end (whole_lines text ++ last ∷ [])
          (clean_push (whole_lines text) last whole_clean (clean_append 10 (codes "end,") (decimal (after_begin (whole_lines text))) refl (clean_decimal 10 (after_begin (whole_lines text)) (omega arith) few_after)))
          (any_push (whole_lines text) last (end_is_end (after_begin (whole_lines text))))
