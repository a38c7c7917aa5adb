-- A text that goes on: its head is that of its front.
use Rattle.std.proofs.Common.{◌≡◌, ◌∙◌, ◌<◌, ◌+◌, ◌==◌, ℕ, Bool, true, false, List, [], ◌∷◌, ◌++◌, length, refl, sym, ap, arith, subst, Option, Some, None, Result, Ok, Err}
use Rattle.std.proofs.lemmas.Bool.Decides.{nat_tests}
use Rattle.std.proofs.lemmas.List.Splits.{slice_split-cons_no, slice_split-cons_yes}
use Rattle.std.specs.List.{onto_first}
use Rattle.group_plan.specs.declared.plan.GroupPlan.{GroupPlan}
use Rattle.group_plan.specs.declared.plan.members.Span.{Span}
use Rattle.group_plan.specs.Plans.{PlanView}
use Rattle.transcript_text.specs.declared.version.Version.{Version}
use Rattle.transcript_text.specs.declared.head.Start.{Start}
use Rattle.transcript_text.specs.declared.head.HeadRow.{HeadRow}
use Rattle.transcript_text.specs.declared.head.HeadRow.TheVariants as row
use Rattle.transcript_text.specs.declared.fault.ReadError.{ReadError}
use Rattle.field_texts.specs.Parts.{parts}
use Rattle.field_texts.proofs.Cutting.{parts_some}
use Rattle.field_texts.proofs.TextLaws.{joined_parts}
use Rattle.transcript_text.specs.Reading.{◌>>=◌, entries_from}
use Rattle.transcript_text.specs.Readers.{with_entries}
use Rattle.transcript_text.specs.Heads.{HeadRead, after_head_row, at_begin, head_from, head_of, head_row, next_line, plan_at, read_of, rounds_of, start_of, title_of, windows_of, with_rest}
use Rattle.transcript_text.proofs.Choices.{bind_ok}
use Rattle.transcript_text.proofs.HeadLoop.{head_opens, opens}
use Rattle.transcript_text.proofs.ReaderLemmas.{head_then_entries}

-- ---- the first line of a text

-- a text begins with a line, and this stands behind it, however the text goes on
record BeginsWithLine (text line : List ℕ) (next : List (List ℕ)) : Type 0 where
  after : List ℕ
  rest : parts 10 after ≡ next
  more : (more : List ℕ) → parts 10 (text ++ more) ≡ line ∷ parts 10 (after ++ more)

first_line : (text line x : List ℕ) (xs : List (List ℕ)) → parts 10 text ≡ line ∷ x ∷ xs → BeginsWithLine text line (x ∷ xs)
first_line [] line x xs cut = absurd (let e : [] ∷ [] ≡ line ∷ x ∷ xs = cut in cc)
first_line (c ∷ cs) line x xs cut = by_test (first_line cs) (c == 10) refl
  where
    Ahead : Type 0
    Ahead = (line x : List ℕ) (xs : List (List ℕ)) → parts 10 cs ≡ line ∷ x ∷ xs → BeginsWithLine cs line (x ∷ xs)

    by_parts : Ahead → (c == 10) ≡ false → (ps : List (List ℕ)) → 0 < length ps → parts 10 cs ≡ ps → BeginsWithLine (c ∷ cs) line (x ∷ xs)
    by_parts ahead apart [] some is = absurd (omega arith)
    by_parts ahead apart (p ∷ ps) some is =
        let all : (c ∷ p) ∷ ps ≡ line ∷ x ∷ xs = ap (onto_first c) (sym is) ∙ sym (slice_split-cons_no (λ b. b == 10) c cs apart) ∙ cut in
        let line_is : c ∷ p ≡ line = cc in
        let rest_is : ps ≡ x ∷ xs = cc in
        let ih = ahead p x xs (is ∙ ap (λ q. p ∷ q) rest_is) in
        record {
          after = ih.after;
          rest = ih.rest;
          more = λ more. slice_split-cons_no (λ b. b == 10) c (cs ++ more) apart ∙ ap (onto_first c) (ih.more more) ∙ ap (λ q. q ∷ parts 10 (ih.after ++ more)) line_is;
        }

    by_test : Ahead → (t : Bool) → (c == 10) ≡ t → BeginsWithLine (c ∷ cs) line (x ∷ xs)
    by_test ahead true same =
        let all : [] ∷ parts 10 cs ≡ line ∷ x ∷ xs = sym (slice_split-cons_yes (λ b. b == 10) c cs same) ∙ cut in
        let line_is : [] ≡ line = cc in
        let rest_is : parts 10 cs ≡ x ∷ xs = cc in
        record {
          after = cs;
          rest = rest_is;
          more = λ more. slice_split-cons_yes (λ b. b == 10) c (cs ++ more) same ∙ ap (λ q. q ∷ parts 10 (cs ++ more)) line_is;
        }
    by_test ahead false apart = by_parts ahead apart (parts 10 cs) (parts_some 10 cs) refl

-- ---- the first three lines

-- a line is read, and this stands behind it, however the text goes on
record LineGoesOn {A : Type 0} (n : ℕ) (read : List (List ℕ) → Result A ReadError) (text : List ℕ) (x : A) (rest : List (List ℕ)) : Type 0 where
  after : List ℕ
  rest_is : parts 10 after ≡ rest
  more : (more : List ℕ) → next_line n read (parts 10 (text ++ more)) ≡ Ok (x, parts 10 (after ++ more))

line_goes_on : {A : Type 0} (n : ℕ) (read : List (List ℕ) → Result A ReadError) (text : List ℕ) (lines : List (List ℕ)) (x : A) (rest : List (List ℕ)) → parts 10 text ≡ lines
    → next_line n read lines ≡ Ok (x, rest) → LineGoesOn n read text x rest
line_goes_on n read text [] x rest cut is = absurd (let e = is in cc)
line_goes_on n read text (line ∷ []) x rest cut is = absurd (let e = is in cc)
line_goes_on {A} n read text (line ∷ y ∷ ys) x rest cut is = by_row (read (parts 44 line)) refl is
  where
    by_row : (r : Result A ReadError) → read (parts 44 line) ≡ r → with_rest (y ∷ ys) r ≡ Ok (x, rest) → LineGoesOn n read text x rest
    by_row (Ok z) row_is is =
        let first = first_line text line y ys cut in
        let found : A × List (List ℕ) = (z, y ∷ ys) in
        let wanted : A × List (List ℕ) = (x, rest) in
        let both : found ≡ wanted = cc in
        let same : z ≡ x = ap (λ (p : A × List (List ℕ)). p.0) both in
        let behind : y ∷ ys ≡ rest = ap (λ (p : A × List (List ℕ)). p.1) both in
        record {
          after = first.after;
          rest_is = first.rest ∙ behind;
          more = λ more. ap (next_line n read) (first.more more) ∙ opens n read line (parts 10 (first.after ++ more)) (parts_some 10 (first.after ++ more))
              ∙ ap (with_rest (parts 10 (first.after ++ more))) row_is ∙ ap (λ q. Ok (q, parts 10 (first.after ++ more))) same;
        }
    by_row (Err f) row_is is = absurd (let e = is in cc)

-- the first three lines are read, and this stands behind them, however the text goes on
record StartGoesOn (version : Version) (text : List ℕ) (start : Start) (rest : List (List ℕ)) : Type 0 where
  after : List ℕ
  rest_is : parts 10 after ≡ rest
  more : (more : List ℕ) → start_of version (parts 10 (text ++ more)) ≡ Ok (start, parts 10 (after ++ more))

start_goes_on : (version : Version) (text : List ℕ) (start : Start) (rest : List (List ℕ)) → start_of version (parts 10 text) ≡ Ok (start, rest) → StartGoesOn version text start rest
unfolding start_of
start_goes_on version text start rest is =
    let top = bind_ok (next_line 1 (title_of version 1) (parts 10 text)) _ (start, rest) is in
    let rounds = bind_ok (next_line 2 (rounds_of 2) top.0.1) _ (start, rest) top.2 in
    let windows = bind_ok (next_line 3 (windows_of 3) rounds.0.1) _ (start, rest) rounds.2 in
    let one = line_goes_on 1 (title_of version 1) text (parts 10 text) top.0.0 top.0.1 refl top.1 in
    let two = line_goes_on 2 (rounds_of 2) one.after top.0.1 rounds.0.0 rounds.0.1 one.rest_is rounds.1 in
    let three = line_goes_on 3 (windows_of 3) two.after rounds.0.1 windows.0.0 windows.0.1 two.rest_is windows.1 in
    let stated : Start = record { rounds = rounds.0.0; w1 = windows.0.0.0; w2 = windows.0.0.1 } in
    let found : Start × List (List ℕ) = (stated, windows.0.1) in
    let wanted : Start × List (List ℕ) = (start, rest) in
    let both : found ≡ wanted = (let e = windows.2 in cc) in
    let start_is : stated ≡ start = ap (λ (p : Start × List (List ℕ)). p.0) both in
    let rest_is : windows.0.1 ≡ rest = ap (λ (p : Start × List (List ℕ)). p.1) both in
    record {
      after = three.after;
      rest_is = three.rest_is ∙ rest_is;
      more = λ more.
          let a = one.more more in
          let b = two.more more in
          let c = three.more more in
          rw (a, b, c) (ap (λ (s : Start). Ok (s, parts 10 (three.after ++ more))) start_is);
    }

-- ---- the lines after them

-- the head is read from a line on, and this stands behind it, however the text goes on
record RestGoesOn (version : Version) (start : Start) (n : ℕ) (last : Option Span) (groups : List GroupPlan) (spans : List Span) (text : List ℕ) (h : HeadRead) : Type 0 where
  after : List ℕ
  rest_is : parts 10 after ≡ h.rest
  more : (more : List ℕ) → head_from version start n last groups spans (parts 10 (text ++ more)) ≡ Ok (record { plan = h.plan; line = h.line; rest = parts 10 (after ++ more) })

rest_goes_on : (version : Version) (start : Start) (n : ℕ) (last : Option Span) (groups : List GroupPlan) (spans : List Span) (text : List ℕ) (lines : List (List ℕ)) (h : HeadRead)
    → parts 10 text ≡ lines → head_from version start n last groups spans lines ≡ Ok h → RestGoesOn version start n last groups spans text h
unfolding head_from
rest_goes_on version start n last groups spans text [] h cut is = absurd (let e = is in cc)
rest_goes_on version start n last groups spans text (line ∷ []) h cut is = absurd (let e = is in cc)
rest_goes_on version start n last groups spans text (line ∷ x ∷ xs) h cut is =
    by_row (λ m l gs ss t. rest_goes_on version start m l gs ss t (x ∷ xs) h) (head_row version n start.rounds groups last (parts 44 line)) refl is
  where
    Ahead : Type 0
    Ahead = (m : ℕ) (l : Option Span) (gs : List GroupPlan) (ss : List Span) (t : List ℕ) → parts 10 t ≡ x ∷ xs → head_from version start m l gs ss (x ∷ xs) ≡ Ok h → RestGoesOn version start m l gs ss t h

    first : BeginsWithLine text line (x ∷ xs)
    first = first_line text line x xs cut

    behind : (more : List ℕ) → List (List ℕ)
    behind more = parts 10 (first.after ++ more)

    goes : (more : List ℕ) (r : Result HeadRow ReadError) → head_row version n start.rounds groups last (parts 44 line) ≡ r
        → head_from version start n last groups spans (parts 10 (text ++ more))
        ≡ after_head_row version start n last groups spans (behind more) (λ l gs ss. head_from version start (n + 1) l gs ss (behind more)) r
    goes more r row_is = ap (head_from version start n last groups spans) (first.more more) ∙ head_opens version start n last groups spans line (behind more) (parts_some 10 (first.after ++ more))
        ∙ ap (after_head_row version start n last groups spans (behind more) (λ l gs ss. head_from version start (n + 1) l gs ss (behind more))) row_is

    by_plan : head_row version n start.rounds groups last (parts 44 line) ≡ Ok row.Begin → (p : Result PlanView ReadError) → plan_at version n start groups spans ≡ p → at_begin n (x ∷ xs) p ≡ Ok h
        → RestGoesOn version start n last groups spans text h
    by_plan row_is (Ok plan) plan_is is =
        let same : record { plan = plan; line = n + 1; rest = x ∷ xs } ≡ h = cc in
        record {
          after = first.after;
          rest_is = first.rest ∙ ap (λ (q : HeadRead). q.rest) same;
          more = λ more. goes more (Ok row.Begin) row_is ∙ ap (at_begin n (behind more)) plan_is
              ∙ ap (λ (q : HeadRead). Ok (record { plan = q.plan; line = q.line; rest = behind more })) same;
        }
    by_plan row_is (Err f) plan_is is = absurd (let e = is in cc)

    by_row : Ahead → (r : Result HeadRow ReadError) → head_row version n start.rounds groups last (parts 44 line) ≡ r
        → after_head_row version start n last groups spans (x ∷ xs) (λ l gs ss. head_from version start (n + 1) l gs ss (x ∷ xs)) r ≡ Ok h → RestGoesOn version start n last groups spans text h
    by_row ahead (Ok (row.Group g)) row_is is =
        let ih = ahead (n + 1) last (groups ++ g ∷ []) spans first.after first.rest is in
        record { after = ih.after; rest_is = ih.rest_is; more = λ more. goes more (Ok (row.Group g)) row_is ∙ ih.more more }
    by_row ahead (Ok (row.Member s)) row_is is =
        let ih = ahead (n + 1) (Some s) groups (spans ++ s ∷ []) first.after first.rest is in
        record { after = ih.after; rest_is = ih.rest_is; more = λ more. goes more (Ok (row.Member s)) row_is ∙ ih.more more }
    by_row ahead (Ok row.Begin) row_is is = by_plan row_is (plan_at version n start groups spans) refl is
    by_row ahead (Err f) row_is is = absurd (let e = is in cc)

-- ---- the head, and all entries

same_text : (one other : List ℕ) → parts 10 one ≡ parts 10 other → one ≡ other
same_text one other same = joined_parts 10 one (parts 10 other) same ∙ sym (joined_parts 10 other (parts 10 other) refl)

head_goes_on : (version : Version) (text rest : List ℕ) (plan : PlanView) (line : ℕ) → head_of version (parts 10 text) ≡ Ok (record { plan = plan; line = line; rest = parts 10 rest })
    → (more : List ℕ) → head_of version (parts 10 (text ++ more)) ≡ Ok (record { plan = plan; line = line; rest = parts 10 (rest ++ more) })
unfolding head_of
head_goes_on version text rest plan line is more =
    let h : HeadRead = record { plan = plan; line = line; rest = parts 10 rest } in
    let begun = bind_ok (start_of version (parts 10 text)) _ h is in
    let start = start_goes_on version text begun.0.0 begun.0.1 begun.1 in
    let lines = rest_goes_on version begun.0.0 4 None [] [] start.after begun.0.1 h start.rest_is begun.2 in
    let a = start.more more in
    let end : lines.after ≡ rest = same_text lines.after rest lines.rest_is in
    rw a (lines.more more ∙ ap (λ q. Ok (record { plan = plan; line = line; rest = parts 10 (q ++ more) })) end)

-- what is read of a text that goes on behind its head
pub read_goes_on : (version : Version) (text rest : List ℕ) (plan : PlanView) (line : ℕ) → head_of version (parts 10 text) ≡ Ok (record { plan = plan; line = line; rest = parts 10 rest })
    → (more : List ℕ) → read_of version (text ++ more) ≡ with_entries plan (entries_from version plan line 0 0 (parts 10 (rest ++ more)))
read_goes_on version text rest plan line is more =
    head_then_entries version (text ++ more) (record { plan = plan; line = line; rest = parts 10 (rest ++ more) }) (head_goes_on version text rest plan line is more)
