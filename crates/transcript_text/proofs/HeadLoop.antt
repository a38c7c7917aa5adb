-- The head, one line after the other.
use Rattle.std.proofs.Common.{◌≡◌, ◌∙◌, ◌<◌, ◌+◌, ℕ, List, [], ◌∷◌, ◌++◌, length, refl, ap, arith, sym, Option, Some, None, Result, Ok, Err, subst}
use Rattle.std.specs.Prelude.{IsTrue}
use Rattle.group_plan.specs.declared.plan.GroupPlan.{GroupPlan}
use Rattle.group_plan.specs.declared.plan.PlanError.{PlanError}
use Rattle.group_plan.specs.declared.plan.PlanError.TheVariants as plan_fault
use Rattle.group_plan.specs.declared.plan.members.Span.{Span}
use Rattle.group_plan.specs.Plans.{PlanView}
use Rattle.group_plan.specs.NewPlans.{MakesPlan, first_fault}
use Rattle.transcript_text.specs.declared.version.Version.{Version}
use Rattle.transcript_text.specs.declared.head.Start.{Start}
use Rattle.transcript_text.specs.declared.head.HeadRow.{HeadRow}
use Rattle.transcript_text.specs.declared.head.HeadRow.TheVariants as row
use Rattle.transcript_text.specs.declared.fault.ReadError.{ReadError}
use Rattle.transcript_text.specs.declared.fault.ReadError.TheVariants as fault
use Rattle.field_texts.specs.Parts.{parts}
use Rattle.transcript_text.specs.Reading.{Fails}
use Rattle.transcript_text.specs.Heads.{AreStated, HeadRead, after_head_row, at_begin, head_from, head_row, last_span, next_line, plan_at, refused, rounds_of, span_fits, start_of, title_of, unless_fault, windows_of, with_rest}
use Rattle.field_texts.proofs.Cutting.{parts_some}
use Rattle.transcript_text.proofs.HeadBack.{group_back, member_back}

-- ---- the first three lines

pub opens : {A : Type 0} (n : ℕ) (read : List (List ℕ) → Result A ReadError) (line : List ℕ) (next : List (List ℕ)) → 0 < length next → next_line n read (line ∷ next) ≡ with_rest next (read (parts 44 line))
opens n read line [] some = absurd (omega arith)
opens n read line (x ∷ xs) some = refl

pub line_is : {A : Type 0} (n : ℕ) (read : List (List ℕ) → Result A ReadError) (bytes line after : List ℕ) (r : Result A ReadError) → parts 10 bytes ≡ line ∷ parts 10 after → r ≡ read (parts 44 line)
    → next_line n read (parts 10 bytes) ≡ with_rest (parts 10 after) r
line_is n read bytes line after r cut is = ap (next_line n read) cut ∙ opens n read line (parts 10 after) (parts_some 10 after) ∙ ap (with_rest (parts 10 after)) (sym is)

module _ (version : Version) (bytes line1 rest1 : List ℕ) (cut1 : parts 10 bytes ≡ line1 ∷ parts 10 rest1) where
  pub title_wrong : (f : ReadError) → Err f ≡ title_of version 1 (parts 44 line1) → start_of version (parts 10 bytes) ≡ Err f
  unfolding start_of
  title_wrong f is = let a = line_is 1 (title_of version 1) bytes line1 rest1 (Err f) cut1 is in rw a refl

  module _ (u : Unit {0}) (title_is : Ok u ≡ title_of version 1 (parts 44 line1)) (line2 rest2 : List ℕ) (cut2 : parts 10 rest1 ≡ line2 ∷ parts 10 rest2) where
    pub rounds_wrong : (f : ReadError) → Err f ≡ rounds_of 2 (parts 44 line2) → start_of version (parts 10 bytes) ≡ Err f
    unfolding start_of
    rounds_wrong f is =
        let a = line_is 1 (title_of version 1) bytes line1 rest1 (Ok u) cut1 title_is in
        let b = line_is 2 (rounds_of 2) rest1 line2 rest2 (Err f) cut2 is in
        rw (a, b) refl

    module _ (rounds : ℕ) (rounds_is : Ok rounds ≡ rounds_of 2 (parts 44 line2)) (line3 rest3 : List ℕ) (cut3 : parts 10 rest2 ≡ line3 ∷ parts 10 rest3) where
      pub windows_wrong : (f : ReadError) → Err f ≡ windows_of 3 (parts 44 line3) → start_of version (parts 10 bytes) ≡ Err f
      unfolding start_of
      windows_wrong f is =
          let a = line_is 1 (title_of version 1) bytes line1 rest1 (Ok u) cut1 title_is in
          let b = line_is 2 (rounds_of 2) rest1 line2 rest2 (Ok rounds) cut2 rounds_is in
          let c = line_is 3 (windows_of 3) rest2 line3 rest3 (Err f) cut3 is in
          rw (a, b, c) refl

      pub start_is : (w : ℕ × ℕ) → Ok w ≡ windows_of 3 (parts 44 line3) → start_of version (parts 10 bytes) ≡ Ok (record { rounds = rounds; w1 = w.0; w2 = w.1 }, parts 10 rest3)
      unfolding start_of
      start_is w is =
          let a = line_is 1 (title_of version 1) bytes line1 rest1 (Ok u) cut1 title_is in
          let b = line_is 2 (rounds_of 2) rest1 line2 rest2 (Ok rounds) cut2 rounds_is in
          let c = line_is 3 (windows_of 3) rest2 line3 rest3 (Ok w) cut3 is in
          rw (a, b, c) refl

-- ---- the lines after them

pub head_opens : (version : Version) (start : Start) (n : ℕ) (last : Option Span) (groups : List GroupPlan) (spans : List Span) (line : List ℕ) (next : List (List ℕ)) → 0 < length next
    → head_from version start n last groups spans (line ∷ next)
    ≡ after_head_row version start n last groups spans next (λ l gs ss. head_from version start (n + 1) l gs ss next) (head_row version n start.rounds groups last (parts 44 line))
unfolding head_from
head_opens version start n last groups spans line [] some = absurd (omega arith)
head_opens version start n last groups spans line (x ∷ xs) some = refl

not_last : (s : Span) (ss : List Span) → (t : Span) × (last_span (Some s) ss ≡ Some t)
not_last s [] = (s, refl)
not_last s (t ∷ ts) = not_last t ts

none_yet : (spans : List Span) → None ≡ last_span None spans → spans ≡ []
none_yet [] h = refl
none_yet (s ∷ ss) h = let t = not_last s ss in absurd (let e = t.1 in cc)

pub last_more : (last : Option Span) (spans : List Span) (s : Span) → last_span last (spans ++ s ∷ []) ≡ Some s
last_more last [] s = refl
last_more last (t ∷ ts) s = last_more (Some t) ts s

pub stated_more : (rounds : ℕ) (groups : List GroupPlan) (last : Option Span) (spans : List Span) (s : Span) → AreStated rounds groups last spans → IsTrue (span_fits rounds groups (last_span last spans) s) → AreStated rounds groups last (spans ++ s ∷ [])
stated_more rounds groups last [] s a f = (f, tt)
stated_more rounds groups last (t ∷ ts) s a f = (a.0, stated_more rounds groups (Some t) ts s a.1 f)

module _ (version : Version) (start : Start) (n : ℕ) (last : Option Span) (groups : List GroupPlan) (spans : List Span) (line after rest : List ℕ) (whole : Result HeadRead ReadError)
    (cut : parts 10 rest ≡ line ∷ parts 10 after) (so : head_from version start n last groups spans (parts 10 rest) ≡ whole) where
  goes : (r : Result HeadRow ReadError) → r ≡ head_row version n start.rounds groups last (parts 44 line)
      → whole ≡ after_head_row version start n last groups spans (parts 10 after) (λ l gs ss. head_from version start (n + 1) l gs ss (parts 10 after)) r
  goes r is = sym so ∙ ap (head_from version start n last groups spans) cut ∙ head_opens version start n last groups spans line (parts 10 after) (parts_some 10 after)
      ∙ ap (after_head_row version start n last groups spans (parts 10 after) (λ l gs ss. head_from version start (n + 1) l gs ss (parts 10 after))) (sym is)

  pub group_more : (g : GroupPlan) → Ok (row.Group g) ≡ head_row version n start.rounds groups last (parts 44 line) → head_from version start (n + 1) last (groups ++ g ∷ []) spans (parts 10 after) ≡ whole
  group_more g is = sym (goes (Ok (row.Group g)) is)

  pub member_more : (s : Span) → Ok (row.Member s) ≡ head_row version n start.rounds groups last (parts 44 line) → head_from version start (n + 1) (Some s) groups (spans ++ s ∷ []) (parts 10 after) ≡ whole
  member_more s is = sym (goes (Ok (row.Member s)) is)

  pub begins : Ok row.Begin ≡ head_row version n start.rounds groups last (parts 44 line) → whole ≡ at_begin n (parts 10 after) (plan_at version n start groups spans)
  begins is = goes (Ok row.Begin) is

  pub row_wrong : (f : ReadError) → Err f ≡ head_row version n start.rounds groups last (parts 44 line) → whole ≡ Err f
  row_wrong f is = goes (Err f) is

pub no_newline : (version : Version) (start : Start) (n : ℕ) (last : Option Span) (groups : List GroupPlan) (spans : List Span) (rest : List ℕ) (whole : Result HeadRead ReadError)
    → parts 10 rest ≡ rest ∷ [] → head_from version start n last groups spans (parts 10 rest) ≡ whole → whole ≡ Err (fault.Head n)
unfolding head_from
no_newline version start n last groups spans rest whole cut so = sym so ∙ ap (head_from version start n last groups spans) cut

-- a group comes before any span
pub stated_group : (version : Version) (n rounds : ℕ) (groups : List GroupPlan) (last : Option Span) (spans : List Span) (fs : List (List ℕ)) (g : GroupPlan)
    → Ok (row.Group g) ≡ head_row version n rounds groups last fs → last ≡ last_span None spans → AreStated rounds (groups ++ g ∷ []) None spans
stated_group version n rounds groups last spans fs g is l =
    let b = group_back version n rounds groups last fs g (sym is) in
    let none : spans ≡ [] = none_yet spans (sym b.first ∙ l) in
    subst (λ (ss : List Span). AreStated rounds (groups ++ g ∷ []) None ss) (sym none) tt

pub stated_member : (version : Version) (n rounds : ℕ) (groups : List GroupPlan) (last : Option Span) (spans : List Span) (fs : List (List ℕ)) (s : Span)
    → Ok (row.Member s) ≡ head_row version n rounds groups last fs → last ≡ last_span None spans → AreStated rounds groups None spans → AreStated rounds groups None (spans ++ s ∷ [])
stated_member version n rounds groups last spans fs s is l a =
    let b = member_back version n rounds groups last fs s (sym is) in
    stated_more rounds groups None spans s a (subst (λ (o : Option Span). IsTrue (span_fits rounds groups o s)) l b.fits)

-- ---- the plan

pub refused_is : (groups : List GroupPlan) (rounds w1 w2 n : ℕ) (plan : PlanView) (e : PlanError) → MakesPlan groups rounds w1 w2 (Err e) → Fails (refused n e) (unless_fault n plan (first_fault groups rounds w1 w2))
refused_is groups rounds w1 w2 n plan plan_fault.NoGroup h = ap (unless_fault n plan) h
refused_is groups rounds w1 w2 n plan (plan_fault.TooManyGroups k) h = ap (unless_fault n plan) h
refused_is groups rounds w1 w2 n plan (plan_fault.SameName g k) h = ap (unless_fault n plan) h
refused_is groups rounds w1 w2 n plan (plan_fault.Meters g) h = ap (unless_fault n plan) h
refused_is groups rounds w1 w2 n plan (plan_fault.Floor g) h = ap (unless_fault n plan) h
refused_is groups rounds w1 w2 n plan plan_fault.Rounds h = ap (unless_fault n plan) h
refused_is groups rounds w1 w2 n plan plan_fault.Window h = ap (unless_fault n plan) h
refused_is groups rounds w1 w2 n plan (plan_fault.TooManyReadings k) h = ap (unless_fault n plan) h
refused_is groups rounds w1 w2 n plan plan_fault.Memory h = tt
refused_is groups rounds w1 w2 n plan (plan_fault.TooManyPairs k) h = ap (unless_fault n plan) h
