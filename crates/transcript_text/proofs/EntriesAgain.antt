-- The lines after the head: what is written is read.
use Rattle.std.proofs.Common.{◌≡◌, ◌∙◌, ◌<◌, ◌≤◌, ◌+◌, ◌^◌, ◌==◌, ℕ, true, List, [], ◌∷◌, ◌++◌, length, length-append, All, refl, ap, arith, decimal, Ok}
use Rattle.std.specs.Prelude.{codes}
use Rattle.std.proofs.lemmas.Bool.Decides.{nat_tests}
use Rattle.std.proofs.lemmas.List.Elements.{All-head, All-tail}
use Rattle.group_plan.specs.Plans.{PlanView}
use Rattle.event_schedule.specs.declared.Entry.{Entry}
use Rattle.transcript_text.specs.declared.version.Version.{Version}
use Rattle.transcript_text.specs.declared.fault.BodyLine.TheVariants as row
use Rattle.field_texts.specs.Parts.{parts}
use Rattle.event_schedule.specs.Transcripts.{Fits, IsEntry, NeverFalls}
use Rattle.transcript_text.specs.Spelling.{ended, entries_text, entry_text, fields_of}
use Rattle.transcript_text.specs.Reading.{after_row, before, entries_from, row_of}
use Rattle.transcript_text.specs.ReadBack.{HasHead}
use Rattle.field_texts.proofs.NumberLaws.{number_again}
use Rattle.field_texts.proofs.TextLaws.{AllClean, clean, clean_append, clean_decimal, clean_joined, parts_at, parts_clean, parts_joined}
use Rattle.field_texts.proofs.Cutting.{parts_some}
use Rattle.transcript_text.proofs.EntryLoop.{opens}
use Rattle.transcript_text.proofs.EntryAgain.{IsSmall}
use Rattle.transcript_text.proofs.LineAgain.{row_again}
use Rattle.transcript_text.proofs.CleanFields.{clean_fields, comma, newline}
use Rattle.transcript_text.specs.Ahead.{Follow}
use Rattle.transcript_text.proofs.EntriesBack.{text_cons}

pub cut_entry : (version : Version) (e : Entry) (rest : List ℕ) → AllClean 44 (fields_of version e) → AllClean 10 (fields_of version e)
    → (parts 10 (entry_text version e ++ 10 ∷ rest) ≡ entry_text version e ∷ parts 10 rest) × (parts 44 (entry_text version e) ≡ fields_of version e)
unfolding entry_text
cut_entry version e rest a b = (parts_at 10 (entry_text version e) rest (clean_joined 10 44 (fields_of version e) refl b), parts_joined 44 _ _ a)

last_row : (version : Version) (plan : PlanView) (last k : ℕ) → k < 2 ^ 64 → row_of version plan last (codes "end" ∷ decimal k ∷ []) ≡ Ok (row.Last k)
unfolding row_of
last_row version plan last k b = let n = number_again k b in rw n refl

pub last_again : (version : Version) (plan : PlanView) (n last count : ℕ) → count < 2 ^ 64 → entries_from version plan n last count (parts 10 (ended (codes "end," ++ decimal count))) ≡ Ok []
last_again version plan n last count b =
    let line : List ℕ = codes "end," ++ decimal count in
    let whole : clean 10 line ≡ true = clean_append 10 (codes "end,") (decimal count) refl (clean_decimal 10 count (omega arith) b) in
    let fields : parts 44 line ≡ codes "end" ∷ decimal count ∷ [] = parts_at 44 (codes "end") (decimal count) refl ∙ ap (λ q. codes "end" ∷ q) (parts_clean 44 (decimal count) (clean_decimal 44 count (omega arith) b)) in
    let same : (count == count) ≡ true = grind (arith, nat_tests) in
    let row : row_of version plan last (parts 44 line) ≡ Ok (row.Last count) = ap (row_of version plan last) fields ∙ last_row version plan last count b in
    ap (entries_from version plan n last count) (parts_at 10 line [] whole) ∙ opens version plan n last count line ([] ∷ []) (omega arith)
    ∙ ap (after_row n count ([] ∷ []) (λ e. entries_from version plan (n + 1) e.tick (count + 1) ([] ∷ []))) row ∙ (rw same refl)

pub entries_again : (version : Version) (plan : PlanView) → IsSmall plan → HasHead version plan → (n last count : ℕ) (es : List Entry) → count + length es < 2 ^ 64 → Follow plan last es
    → entries_from version plan n last count (parts 10 (entries_text version count es)) ≡ Ok es
unfolding entries_text
entries_again version plan s head n last count [] b f =
    let k : count + 0 ≡ count = omega arith in
    rw k (last_again version plan n last count (omega arith))
entries_again version plan s head n last count (e ∷ es) b f =
    let rest = entries_text version (count + 1) es in
    let cut = cut_entry version e rest (clean_fields 44 comma version plan s e f.1 f.2) (clean_fields 10 newline version plan s e f.1 f.2) in
    let ih = entries_again version plan s head (n + 1) e.tick (count + 1) es (omega arith) f.3 in
    let row = row_again version plan last e s head f.0 f.1 f.2 in
    ap (λ q. entries_from version plan n last count (parts 10 q)) (text_cons version count e es) ∙ ap (entries_from version plan n last count) cut.0
    ∙ opens version plan n last count (entry_text version e) (parts 10 rest) (parts_some 10 rest)
    ∙ ap (after_row n count (parts 10 rest) (λ x. entries_from version plan (n + 1) x.tick (count + 1) (parts 10 rest))) (ap (row_of version plan last) cut.1 ∙ row)
    ∙ ap (before (e ∷ [])) ih

-- each entry has a line, so a text is longer than its entries are many
pub entries_few : (version : Version) (count : ℕ) (es : List Entry) → length es ≤ length (entries_text version count es)
entries_few version count [] = omega arith
entries_few version count (e ∷ es) =
    let ih = entries_few version (count + 1) es in
    let text = ap length (text_cons version count e es) in
    let line = length-append (entry_text version e) (10 ∷ entries_text version (count + 1) es) in
    omega (arith, ih, text, line)

-- entries that fit a plan and never fall follow one another
pub follows : (plan : PlanView) (last : ℕ) (es : List Entry) → All (Fits plan) es → All IsEntry es → NeverFalls last es → Follow plan last es
follows plan last [] fit are rise = tt
follows plan last (e ∷ es) fit are rise =
    (rise.0, All-head (Fits plan) e es fit, All-head IsEntry e es are, follows plan e.tick es (All-tail (Fits plan) e es fit) (All-tail IsEntry e es are) rise.1)
