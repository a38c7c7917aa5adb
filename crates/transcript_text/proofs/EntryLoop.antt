-- The lines after the head, one after the other.
use Rattle.std.proofs.Common.{◌≡◌, ◌<◌, ◌+◌, ℕ, suc, Bool, true, false, List, [], ◌∷◌, ◌++◌, length, drop, drop-cons, get_or, refl, ap, arith, sym, ◌∙◌, None, Result, Ok, Err, append_assoc, append-nil, cond}
use Rattle.std.specs.List.{onto_first}
use Rattle.event_schedule.specs.declared.Entry.{Entry}
use Rattle.group_plan.specs.Plans.{PlanView}
use Rattle.transcript_text.specs.declared.version.Version.{Version}
use Rattle.transcript_text.specs.declared.fault.ReadError.{ReadError}
use Rattle.field_texts.specs.Parts.{parts}
use Rattle.transcript_text.specs.Reading.{after_row, before, entries_from, is_done, row_of}
use Rattle.event_schedule.specs.Transcripts.{last_tick_from}

pub last-push : (last : ℕ) (es : List Entry) (e : Entry) → last_tick_from last (es ++ e ∷ []) ≡ e.tick
last-push last [] e = refl
last-push last (x ∷ es) e = last-push x.tick es e

pub last_behind : (last : ℕ) (front es : List Entry) → last_tick_from last (front ++ es) ≡ last_tick_from (last_tick_from last front) es
last_behind last [] es = refl
last_behind last (x ∷ front) es = last_behind x.tick front es

-- the entry at a place, and those behind it
pub next_of : (es : List Entry) (at : ℕ) (e : Entry) → at < length es → get_or es at e ≡ e → drop at es ≡ e ∷ drop (at + 1) es
next_of es at e within is =
    let one : suc at ≡ at + 1 = omega arith in
    drop-cons es at e within ∙ ap (λ (x : Entry). x ∷ drop (suc at) es) is ∙ ap (λ (n : ℕ). e ∷ drop n es) one

-- one more is put behind others
pub put_next : (front es all : List Entry) (at : ℕ) (e : Entry) → drop at es ≡ e ∷ drop (at + 1) es → front ++ drop at es ≡ all → (front ++ e ∷ []) ++ drop (at + 1) es ≡ all
put_next front es all at e next so = append_assoc front (e ∷ []) (drop (at + 1) es) ∙ ap (λ (q : List Entry). front ++ q) (sym next) ∙ so

pub opens : (version : Version) (plan : PlanView) (n last count : ℕ) (line : List ℕ) (next : List (List ℕ)) → 0 < length next
    → entries_from version plan n last count (line ∷ next) ≡ after_row n count next (λ e. entries_from version plan (n + 1) e.tick (count + 1) next) (row_of version plan last (parts 44 line))
unfolding entries_from
opens version plan n last count line [] some = absurd (omega arith)
opens version plan n last count line (x ∷ xs) some = refl

pub more_parts : (b : Bool) (c : ℕ) (ps : List (List ℕ)) → 0 < length ps → is_done (cond b ([] ∷ ps) (onto_first c ps)) ≡ None
more_parts true c [] h = absurd (omega arith)
more_parts false c [] h = absurd (omega arith)
more_parts true c (p ∷ ps) h = refl
more_parts false c (p ∷ ps) h = refl

-- entries and then more entries
pub before_before : (xs ys : List Entry) (z : Result (List Entry) ReadError) → before xs (before ys z) ≡ before (xs ++ ys) z
before_before xs ys (Ok zs) = ap Ok (sym (append_assoc xs ys zs))
before_before xs ys (Err f) = refl

-- some entries and those that are left are all
module _ (front : List Entry) (left all : Result (List Entry) ReadError) (so : before front left ≡ all) where
  pub some_more : (es : List Entry) (more : Result (List Entry) ReadError) → left ≡ before es more → before (front ++ es) more ≡ all
  some_more es more is = sym (before_before front es more) ∙ ap (before front) (sym is) ∙ so

  pub one_more : (e : Entry) (more : Result (List Entry) ReadError) → left ≡ before (e ∷ []) more → before (front ++ e ∷ []) more ≡ all
  one_more e more is = some_more (e ∷ []) more is

  pub none_left : left ≡ Ok [] → all ≡ Ok front
  none_left is = sym so ∙ ap (before front) is ∙ ap Ok (append-nil front)

  pub fault_left : (f : ReadError) → left ≡ Err f → all ≡ Err f
  fault_left f is = sym so ∙ ap (before front) is
