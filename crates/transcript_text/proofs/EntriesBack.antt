-- The lines after the head: what is read is their text.
use Rattle.std.proofs.Common.{◌≡◌, ◌∙◌, ◌≤◌, ◌+◌, ◌==◌, ℕ, suc, Bool, true, false, if◌then◌else◌, List, [], ◌∷◌, ◌++◌, length, All, refl, sym, ap, arith, decimal, Result, Ok, Err, append_assoc, subst}
use Rattle.std.specs.Prelude.{codes}
use Rattle.std.specs.Option.{ok_or}
use Rattle.std.specs.List.{join_with_byte, flat_map}
use Rattle.std.proofs.lemmas.Bool.Decides.{nat_tests}
use Rattle.std.proofs.lemmas.List.Elements.{All-cons, All-nil}
use Rattle.group_plan.specs.Plans.{PlanView, size}
use Rattle.event_schedule.specs.declared.Entry.{Entry}
use Rattle.transcript_text.specs.declared.version.Version.{Version}
use Rattle.transcript_text.specs.declared.fault.BodyLine.{BodyLine}
use Rattle.transcript_text.specs.declared.fault.BodyLine.TheVariants as row
use Rattle.transcript_text.specs.declared.fault.RowFault.{RowFault}
use Rattle.transcript_text.specs.declared.fault.ReadError.{ReadError}
use Rattle.transcript_text.specs.declared.fault.ReadError.TheVariants as fault
use Rattle.field_texts.specs.Parts.{parts}
use Rattle.event_schedule.specs.Transcripts.{Fits, IsEntry, NeverFalls}
use Rattle.transcript_text.specs.Spelling.{ended, entries_text, entry_text, fields_of}
use Rattle.transcript_text.specs.Reading.{after_row, before, entries_from, is_done, row_of}
use Rattle.transcript_text.specs.Ahead.{Follow}
use Rattle.field_texts.proofs.TextLaws.{joined_parts}
use Rattle.transcript_text.proofs.EntryBack.{end_back, row_back}

pub text_cons : (version : Version) (count : ℕ) (e : Entry) (es : List Entry) → entries_text version count (e ∷ es) ≡ entry_text version e ++ 10 ∷ entries_text version (count + 1) es
unfolding entries_text
text_cons version count e es =
    let tail = flat_map (λ (x : Entry). ended (entry_text version x)) es in
    let end = λ (k : ℕ). ended (codes "end," ++ decimal k) in
    let k : count + suc (length es) ≡ count + 1 + length es = omega arith in
    rw k (append_assoc (ended (entry_text version e)) tail (end (count + 1 + length es)) ∙ append_assoc (entry_text version e) (10 ∷ []) (tail ++ end (count + 1 + length es)))

pub follow_fit : (plan : PlanView) (last : ℕ) (es : List Entry) → Follow plan last es → All (Fits plan) es
follow_fit plan last [] f = All-nil (Fits plan)
follow_fit plan last (e ∷ es) f = All-cons (Fits plan) e es f.1 (follow_fit plan e.tick es f.3)

pub follow_are : (plan : PlanView) (last : ℕ) (es : List Entry) → Follow plan last es → All IsEntry es
follow_are plan last [] f = All-nil IsEntry
follow_are plan last (e ∷ es) f = All-cons IsEntry e es f.2 (follow_are plan e.tick es f.3)

pub follow_rise : (plan : PlanView) (last : ℕ) (es : List Entry) → Follow plan last es → NeverFalls last es
follow_rise plan last [] f = tt
follow_rise plan last (e ∷ es) f = (f.0, follow_rise plan e.tick es f.3)

before_back : (e : Entry) (r : Result (List Entry) ReadError) (es : List Entry) → before (e ∷ []) r ≡ Ok es → (more : List Entry) × (r ≡ Ok more) × (es ≡ e ∷ more)
before_back e (Ok more) es h = (more, refl, cc)
before_back e (Err f) es h = absurd cc

done_back : (ps : List (List ℕ)) (f : ReadError) (es : List Entry) → ok_or (is_done ps) f ≡ Ok es → (ps ≡ [] ∷ []) × (es ≡ [])
done_back [] f es h = absurd cc
done_back ([] ∷ []) f es h = (refl, cc)
done_back ([] ∷ p ∷ ps) f es h = absurd cc
done_back ((c ∷ cs) ∷ []) f es h = absurd cc
done_back ((c ∷ cs) ∷ p ∷ ps) f es h = absurd cc

pub line_back : (version : Version) (e : Entry) (line : List ℕ) → parts 44 line ≡ fields_of version e → line ≡ entry_text version e
unfolding entry_text
line_back version e line h = joined_parts 44 line (fields_of version e) h

end_text : (version : Version) (count : ℕ) → entries_text version count [] ≡ ended (codes "end," ++ decimal (count + 0))
unfolding entries_text
end_text version count = refl

-- what is read of these lines
pub record AreRead (version : Version) (plan : PlanView) (last count : ℕ) (ps : List (List ℕ)) (es : List Entry) : Type 0 where
  pub text : join_with_byte 10 ps ≡ entries_text version count es
  pub follow : Follow plan last es

pub entries_back : (version : Version) (plan : PlanView) → ((g : ℕ) → size plan.groups g ≤ 256) → (n last count : ℕ) (ps : List (List ℕ)) (es : List Entry) → entries_from version plan n last count ps ≡ Ok es → AreRead version plan last count ps es
unfolding entries_from
entries_back version plan few n last count [] es is = absurd cc
entries_back version plan few n last count (x ∷ []) es is = absurd cc
entries_back version plan few n last count (line ∷ next ∷ more) es is = by_row (row_of version plan last (parts 44 line)) refl is (λ e. entries_back version plan few (n + 1) e.tick (count + 1) (next ∷ more))
  where
    by_row : (r : Result BodyLine RowFault) → row_of version plan last (parts 44 line) ≡ r → after_row n count (next ∷ more) (λ e. entries_from version plan (n + 1) e.tick (count + 1) (next ∷ more)) r ≡ Ok es
        → ((e : Entry) (xs : List Entry) → entries_from version plan (n + 1) e.tick (count + 1) (next ∷ more) ≡ Ok xs → AreRead version plan e.tick (count + 1) (next ∷ more) xs)
        → AreRead version plan last count (line ∷ next ∷ more) es
    by_row (Ok (row.Entry e)) r is ih =
        let b = before_back e _ es is in
        let read = row_back version plan last (parts 44 line) e few r in
        let text : line ≡ entry_text version e = line_back version e line read.fields in
        let rest = ih e b.0 b.1 in
        subst (λ (xs : List Entry). AreRead version plan last count (line ∷ next ∷ more) xs) (sym b.2) (record {
          text = ap (λ q. q ++ 10 ∷ join_with_byte 10 (next ∷ more)) text ∙ ap (λ q. entry_text version e ++ 10 ∷ q) rest.text ∙ sym (text_cons version count e b.0);
          follow = (read.after, read.fits, read.entry, rest.follow);
        })
    by_row (Ok (row.Last k)) r is ih = by_count (k == count) refl is
      where
        by_count : (b : Bool) → (k == count) ≡ b → (if b then ok_or (is_done (next ∷ more)) (fault.After (n + 1)) else Err (fault.Count n)) ≡ Ok es → AreRead version plan last count (line ∷ next ∷ more) es
        by_count true t is =
            let e = done_back (next ∷ more) _ es is in
            let text : line ≡ codes "end," ++ decimal k = joined_parts 44 line (codes "end" ∷ decimal k ∷ []) (end_back version plan last _ k r) in
            let same : k ≡ count + 0 = grind (arith, nat_tests, t) in
            subst (λ (xs : List Entry). AreRead version plan last count (line ∷ next ∷ more) xs) (sym e.1) (record {
              text = ap (λ q. join_with_byte 10 (line ∷ q)) e.0 ∙ ap (λ q. q ++ 10 ∷ []) text ∙ ap (λ q. ended (codes "end," ++ decimal q)) same ∙ sym (end_text version count);
              follow = tt;
            })
        by_count false t is = absurd cc
    by_row (Err f) r is ih = absurd cc
