-- The lists of the pieces that come next, one after another.
use Rattle.std.proofs.Common.{◌≡◌, ◌∙◌, ◌≤◌, ◌+◌, ◌<◌, ℕ, List, [], ◌∷◌, ◌++◌, length, length-append, All, Vec, sym, ap, subst, append_assoc, append-nil, arith, refl}
use Rattle.std.specs.declared.alloc.Global.{Global}
use Rattle.std.proofs.lemmas.List.Elements.{All-append}
use Rattle.group_plan.specs.Plans.{PlanView}
use Rattle.event_schedule.specs.declared.Entry.{Entry}
use Rattle.event_schedule.specs.Transcripts.{Fits, NeverFalls, last_tick_from}
use Rattle.transcript_text.specs.Reading.{before}
use Rattle.transcript_text.specs.Readers.{ReaderView, left_of}
use Rattle.transcript_text.specs.Ahead.{AreNextLists, IsFilled, entries_of}
use Rattle.transcript_text.proofs.EntryLoop.{before_before}

entries_push : (lists : List (Vec Entry Global)) (es : Vec Entry Global) → entries_of (lists ++ es ∷ []) ≡ entries_of lists ++ es.items
entries_push [] es = append-nil es.items
entries_push (first ∷ lists) es = ap (λ q. first.items ++ q) (entries_push lists es) ∙ sym (append_assoc first.items (entries_of lists) es.items)

last_of_both : (last : ℕ) (es fs : List Entry) → last_tick_from last (es ++ fs) ≡ last_tick_from (last_tick_from last es) fs
last_of_both last [] fs = refl
last_of_both last (e ∷ es) fs = last_of_both e.tick es fs

both_rise : (last : ℕ) (es fs : List Entry) → NeverFalls last es → NeverFalls (last_tick_from last es) fs → NeverFalls last (es ++ fs)
both_rise last [] fs rise more = more
both_rise last (e ∷ es) fs rise more = (rise.0, both_rise e.tick es fs rise.1 more)

-- one list more
pub one_more : (old mid new : ReaderView) (lists all : List (Vec Entry Global)) (es : Vec Entry Global) → AreNextLists old lists mid → IsFilled mid es.items new → all ≡ lists ++ es ∷ [] → AreNextLists old all new
one_more old mid new lists all es are filled all_is =
    let so_far = entries_of lists in
    let here : entries_of all ≡ so_far ++ es.items = ap entries_of all_is ∙ entries_push lists es in
    let few = are.fewer in
    let fewer = filled.fewer in
    let some = filled.some in
    let long = ap length all_is ∙ length-append lists (es ∷ []) in
    record {
      left = are.left ∙ ap (before so_far) filled.left ∙ before_before so_far es.items new.left ∙ ap (λ q. before q new.left) (sym here);
      plan = filled.plan ∙ are.plan;
      fits = subst (All (Fits old.plan)) (sym here)
          (All-append (Fits old.plan) so_far es.items are.fits (subst (λ (p : PlanView). All (Fits p) es.items) are.plan filled.fits));
      ticks = subst (NeverFalls old.last) (sym here) (both_rise old.last so_far es.items are.ticks (subst (λ t. NeverFalls t es.items) are.last filled.ticks));
      last = filled.last ∙ ap (λ t. last_tick_from t es.items) are.last ∙ sym (last_of_both old.last so_far es.items) ∙ ap (last_tick_from old.last) (sym here);
      fewer = omega (arith, few, fewer, some, long);
      goes_on = λ more.
          are.goes_on more ∙ ap (before so_far) (filled.goes_on more) ∙ before_before so_far es.items (left_of new (new.text ++ more))
          ∙ ap (λ q. before q (left_of new (new.text ++ more))) (sym here);
    }
