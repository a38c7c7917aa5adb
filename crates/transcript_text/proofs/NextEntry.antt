-- The next of the lines after the head, and what is left to read behind it.
use Rattle.std.proofs.Common.{◌≡◌, ◌<◌, ◌+◌, ◌==◌, ℕ, true, false, List, [], ◌∷◌, length, refl, ap, sym, ◌∙◌, arith, Some, None, Result, Ok, Err}
use Rattle.event_schedule.specs.declared.Entry.{Entry}
use Rattle.group_plan.specs.Plans.{PlanView}
use Rattle.transcript_text.specs.declared.version.Version.{Version}
use Rattle.transcript_text.specs.declared.fault.BodyLine.{BodyLine}
use Rattle.transcript_text.specs.declared.fault.BodyLine.TheVariants as row
use Rattle.transcript_text.specs.declared.fault.RowFault.{RowFault}
use Rattle.transcript_text.specs.declared.fault.ReadError.TheVariants as fault
use Rattle.field_texts.specs.Parts.{parts}
use Rattle.field_texts.proofs.Cutting.{parts_some}
use Rattle.transcript_text.specs.Reading.{after_row, before, entries_from, in_line, is_done, row_of}
use Rattle.transcript_text.proofs.EntryLoop.{more_parts, opens}

-- nothing is left behind the last line exactly where its text is empty
done_none : (after : List ℕ) → 0 < length after → is_done (parts 10 after) ≡ None
done_none [] some = absurd (omega arith)
done_none (c ∷ cs) some = more_parts (c == 10) c (parts 10 cs) (parts_some 10 cs)

done_some : (after : List ℕ) → length after ≡ 0 → is_done (parts 10 after) ≡ Some []
done_some [] none = refl
done_some (c ∷ cs) none = absurd (omega arith)

module _ (version : Version) (plan : PlanView) (n last count : ℕ) (line after : List ℕ) (lines : List (List ℕ)) (cut : lines ≡ line ∷ parts 10 after) where
  reads : (r : Result BodyLine RowFault) → r ≡ row_of version plan last (parts 44 line)
      → entries_from version plan n last count lines ≡ after_row n count (parts 10 after) (λ e. entries_from version plan (n + 1) e.tick (count + 1) (parts 10 after)) r
  reads r is = ap (entries_from version plan n last count) cut ∙ opens version plan n last count line (parts 10 after) (parts_some 10 after)
      ∙ ap (after_row n count (parts 10 after) (λ e. entries_from version plan (n + 1) e.tick (count + 1) (parts 10 after))) (sym is)

  pub next_entry : (e : Entry) → Ok (row.Entry e) ≡ row_of version plan last (parts 44 line)
      → entries_from version plan n last count lines ≡ before (e ∷ []) (entries_from version plan (n + 1) e.tick (count + 1) (parts 10 after))
  next_entry e is = reads (Ok (row.Entry e)) is

  pub next_miscounts : (k : ℕ) → Ok (row.Last k) ≡ row_of version plan last (parts 44 line) → (k == count) ≡ false → entries_from version plan n last count lines ≡ Err (fault.Count n)
  next_miscounts k is t = reads (Ok (row.Last k)) is ∙ (rw t refl)

  pub next_goes_on : (k : ℕ) → Ok (row.Last k) ≡ row_of version plan last (parts 44 line) → (k == count) ≡ true → 0 < length after
      → entries_from version plan n last count lines ≡ Err (fault.After (n + 1))
  next_goes_on k is t some = reads (Ok (row.Last k)) is ∙ (rw (t, done_none after some) refl)

  pub next_ends : (k : ℕ) → Ok (row.Last k) ≡ row_of version plan last (parts 44 line) → (k == count) ≡ true → length after ≡ 0 → entries_from version plan n last count lines ≡ Ok []
  next_ends k is t none = reads (Ok (row.Last k)) is ∙ (rw (t, done_some after none) refl)

  pub next_breaks : (f : RowFault) → Err f ≡ row_of version plan last (parts 44 line) → entries_from version plan n last count lines ≡ Err (in_line n f)
  next_breaks f is = reads (Err f) is

pub next_lacks : (version : Version) (plan : PlanView) (n last count : ℕ) (rest : List ℕ) (lines : List (List ℕ)) → lines ≡ rest ∷ [] → entries_from version plan n last count lines ≡ Err (fault.NoEnd n)
unfolding entries_from
next_lacks version plan n last count rest lines cut = ap (entries_from version plan n last count) cut
