-- The first fault of the lines after the head.
use Rattle.std.proofs.Common.{◌≡◌, ◌<◌, ◌≤◌, ◌+◌, ◌^◌, ◌==◌, ℕ, Bool, true, false, if◌then◌else◌, List, [], ◌∷◌, ◌++◌, length, length-append, refl, sym, ap, ◌∙◌, arith, Option, Result, Ok, Err, Some, None, append_assoc, append-nil, decimal, subst, inl, inr}
use Rattle.std.specs.Prelude.{codes}
use Rattle.std.specs.Option.{ok_or}
use Rattle.group_plan.specs.Plans.{PlanView}
use Rattle.event_schedule.specs.declared.Entry.{Entry}
use Rattle.field_texts.specs.Parts.{parts}
use Rattle.field_texts.proofs.Cutting.{parts_some}
use Rattle.field_texts.proofs.Choices.{pick}
use Rattle.transcript_text.specs.declared.version.Version.{Version}
use Rattle.transcript_text.specs.declared.fault.BodyLine.{BodyLine}
use Rattle.transcript_text.specs.declared.fault.BodyLine.TheVariants as row
use Rattle.transcript_text.specs.declared.fault.RowFault.{RowFault}
use Rattle.transcript_text.specs.declared.fault.RowFault.TheVariants as row_fault
use Rattle.transcript_text.specs.declared.fault.ReadError.{ReadError}
use Rattle.transcript_text.specs.declared.fault.ReadError.TheVariants as fault
use Rattle.event_schedule.specs.Transcripts.{TranscriptView}
use Rattle.transcript_text.specs.Spelling.{ended}
use Rattle.transcript_text.specs.Reading.{◌>>=◌, after_row, before, entries_from, in_line, is_done, row_of}
use Rattle.transcript_text.specs.Faults.{fault_line}
use Rattle.transcript_text.proofs.EntriesAgain.{last_again}
use Rattle.transcript_text.proofs.EntryLoop.{opens}
use Rattle.transcript_text.proofs.Located.{Reading, Starts, Located, behind, here, is_head}

-- the transcript of a plan and the entries that were read
abbrev pub with_plan : PlanView → Result (List Entry) ReadError → Result TranscriptView ReadError
with_plan plan read = read >>= (λ es. Ok (record { plan = plan; entries = es }))

-- the lines from line n on, after these entries, the last with the tick last
unfoldable pub entries_read : Version → PlanView → ℕ → ℕ → List Entry → Reading
entries_read version plan n last front ls = with_plan plan (before front (entries_from version plan n last (length front) ls))

-- what follows a line
abbrev after : Version → PlanView → ℕ → List Entry → List (List ℕ) → Result BodyLine RowFault → Result TranscriptView ReadError
after version plan n front zs (Ok (row.Entry e)) = entries_read version plan (n + 1) e.tick (front ++ e ∷ []) zs
after version plan n front zs (Ok (row.Last k)) = if k == length front then with_plan plan (before front (ok_or (is_done zs) (fault.After (n + 1)))) else Err (fault.Count n)
after version plan n front zs (Err f) = Err (in_line n f)

before_before : (xs ys : List Entry) (z : Result (List Entry) ReadError) → before xs (before ys z) ≡ before (xs ++ ys) z
before_before xs ys (Ok zs) = ap Ok (sym (append_assoc xs ys zs))
before_before xs ys (Err f) = refl

step : (version : Version) (plan : PlanView) (n last : ℕ) (front : List Entry) (line : List ℕ) (zs : List (List ℕ)) (r : Result BodyLine RowFault) → row_of version plan last (parts 44 line) ≡ r → 0 < length zs
    → entries_read version plan n last front (line ∷ zs) ≡ after version plan n front zs r
unfolding entries_read entries_from
step version plan n last front line zs r is some =
    ap (λ q. with_plan plan (before front q)) (opens version plan n last (length front) line zs some ∙ ap (after_row n (length front) zs (λ e. entries_from version plan (n + 1) e.tick (length front + 1) zs)) is)
    ∙ by_row r
  where
    by_count : (b : Bool) (x : Result (List Entry) ReadError) → with_plan plan (before front (if b then x else Err (fault.Count n))) ≡ (if b then with_plan plan (before front x) else Err (fault.Count n))
    by_count true x = refl
    by_count false x = refl

    by_row : (r : Result BodyLine RowFault)
        → with_plan plan (before front (after_row n (length front) zs (λ e. entries_from version plan (n + 1) e.tick (length front + 1) zs) r)) ≡ after version plan n front zs r
    by_row (Ok (row.Entry e)) =
        let long : length (front ++ e ∷ []) ≡ length front + 1 = length-append front (e ∷ []) in
        ap (with_plan plan) (before_before front (e ∷ []) (entries_from version plan (n + 1) e.tick (length front + 1) zs))
        ∙ ap (λ k. with_plan plan (before (front ++ e ∷ []) (entries_from version plan (n + 1) e.tick k zs))) (sym long)
    by_row (Ok (row.Last k)) = by_count (k == length front) (ok_or (is_done zs) (fault.After (n + 1)))
    by_row (Err f) = refl

-- ---- the line of a fault

row_line : (n : ℕ) (f : RowFault) → fault_line (in_line n f) ≡ n
row_line n row_fault.Form = refl
row_line n (row_fault.Field k) = refl

row_later : (n : ℕ) (f : RowFault) → is_head (in_line n f) ≡ false
row_later n row_fault.Form = refl
row_later n (row_fault.Field k) = refl

pub same_fault : {A : Type 0} (f g : ReadError) → (let left : Result A ReadError = Err f in left) ≡ Err g → f ≡ g
same_fault f g e = cc

-- an error is no transcript
pub no_ok : (f : ReadError) (t : TranscriptView) → Err f ≡ Ok t → ⊥
no_ok f t e = absurd cc

-- after the `end` line nothing is wrong but what follows it
done_line : (plan : PlanView) (front : List Entry) (n : ℕ) (zs : List (List ℕ)) (g : ReadError) → with_plan plan (before front (ok_or (is_done zs) (fault.After (n + 1)))) ≡ Err g → g ≡ fault.After (n + 1)
done_line plan front n zs g e = by_done (is_done zs) e
  where
    by_done : (o : Option (List Entry)) → with_plan plan (before front (ok_or o (fault.After (n + 1)))) ≡ Err g → g ≡ fault.After (n + 1)
    by_done (Some es) e = absurd cc
    by_done None e = cc

pub entries_start : (version : Version) (plan : PlanView) (n last : ℕ) (front : List Entry) → Starts (entries_read version plan n last front) n
unfolding entries_read entries_from
entries_start version plan n last front [] g e = let is : g ≡ fault.NoEnd n = cc in rw is (omega arith)
entries_start version plan n last front (x ∷ []) g e = let is : g ≡ fault.NoEnd n = cc in rw is (omega arith)
entries_start version plan n last front (line ∷ next ∷ more) g e =
    by_row (row_of version plan last (parts 44 line)) refl (λ e. entries_start version plan (n + 1) e.tick (front ++ e ∷ []) (next ∷ more) g)
  where
    by_row : (r : Result BodyLine RowFault) → row_of version plan last (parts 44 line) ≡ r
        → ((x : Entry) → entries_read version plan (n + 1) x.tick (front ++ x ∷ []) (next ∷ more) ≡ Err g → n + 1 ≤ fault_line g) → n ≤ fault_line g
    by_row (Ok (row.Entry x)) is later =
        let le = later x (sym (step version plan n last front line (next ∷ more) (Ok (row.Entry x)) is (omega arith)) ∙ e) in
        omega (arith, le)
    by_row (Ok (row.Last k)) is later = elim (pick (k == length front) _ _ _ (sym (step version plan n last front line (next ∷ more) (Ok (row.Last k)) is (omega arith)) ∙ e)) [
      | inl w ↦ let at = done_line plan front n (next ∷ more) g w.1 in rw at (omega arith)
      | inr w ↦ let at : g ≡ fault.Count n = cc in rw at (omega arith)
    ]
    by_row (Err f) is later =
        let at : in_line n f ≡ g = same_fault (in_line n f) g (sym (step version plan n last front line (next ∷ more) (Err f) is (omega arith)) ∙ e) in
        let le = row_line n f ∙ refl in
        omega (arith, le, ap fault_line at)

-- ---- where the fault is

few_more : (front : List Entry) → length front < 2 ^ 64 → length (front ++ []) < 2 ^ 64
few_more front few = let same = append-nil front in rw same few

-- an `end` line with the number of the entries ends them
ends_here : (version : Version) (plan : PlanView) (n last : ℕ) (front : List Entry) → length front < 2 ^ 64 → (more : List ℕ) × (t : TranscriptView) × (length t.entries < 2 ^ 64) × (entries_read version plan n last front (parts 10 more) ≡ Ok t)
unfolding entries_read
ends_here version plan n last front few = (ended (codes "end," ++ decimal (length front)), record { plan = plan; entries = front ++ [] }, few_more front few, ap (λ q. with_plan plan (before front q)) (last_again version plan n last (length front) few))

-- lines after the `end` line
not_done : (plan : PlanView) (front : List Entry) (n : ℕ) (y : List ℕ) (zs : List (List ℕ)) (t : TranscriptView) → 0 < length zs → with_plan plan (before front (ok_or (is_done (y ∷ zs)) (fault.After (n + 1)))) ≡ Ok t → ⊥
not_done plan front n y [] t some e = absurd (omega arith)
not_done plan front n [] (z ∷ zs) t some e = absurd cc
not_done plan front n (c ∷ cs) (z ∷ zs) t some e = absurd cc

pub first_of : (x y : List ℕ) (xs ys : List (List ℕ)) → x ∷ xs ≡ y ∷ ys → x ≡ y
first_of x y xs ys e = cc

-- the fault of lines from line n on
pub entries_located : (version : Version) (plan : PlanView) (n last : ℕ) (front : List Entry) (ls : List (List ℕ)) (f : ReadError) → 0 < length ls → length front + length ls ≤ 2 ^ 64
    → entries_read version plan n last front ls ≡ Err f → Located (entries_read version plan n last front) n ls f
unfolding entries_read entries_from
entries_located version plan n last front [] f some few e = absurd (omega arith)
entries_located version plan n last front (x ∷ []) f some few e =
    let is : fault.NoEnd n ≡ f = cc in
    subst (Located (entries_read version plan n last front) n (x ∷ [])) is
    (here (entries_read version plan n last front) n (x ∷ []) (fault.NoEnd n) some refl (entries_start version plan n last front)
    (λ y more zs t same many _ _. (let l = ap length same in absurd (omega (arith, l, many)))) (λ _. ends_here version plan n last front (omega (arith, few))))
entries_located version plan n last front (line ∷ next ∷ more) f some few e =
    by_row (row_of version plan last (parts 44 line)) refl (λ x. entries_located version plan (n + 1) x.tick (front ++ x ∷ []) (next ∷ more) f (omega arith))
  where
    read : Reading
    read = entries_read version plan n last front

    start : Starts read n
    start = entries_start version plan n last front

    -- the line is wrong whatever follows it
    wrong : (r : Result BodyLine RowFault) → row_of version plan last (parts 44 line) ≡ r → ((zs : List (List ℕ)) (t : TranscriptView) → after version plan n front zs r ≡ Ok t → ⊥) → fault_line f ≡ n → Located read n (line ∷ next ∷ more) f
    wrong r is none at = here read n (line ∷ next ∷ more) f (omega arith) at start
        (λ y ys zs t same many some e. none zs t (sym (step version plan n last front line zs r is some) ∙ (ap (λ q. read (q ∷ zs)) (first_of line y (next ∷ more) ys same) ∙ e)))
        (λ _. ends_here version plan n last front (omega (arith, few)))

    by_count : (k : ℕ) (b : Bool) → row_of version plan last (parts 44 line) ≡ Ok (row.Last k) → (k == length front) ≡ b → after version plan n front (next ∷ more) (Ok (row.Last k)) ≡ Err f → Located read n (line ∷ next ∷ more) f
    by_count k true is same e =
        let go : (zs : List (List ℕ)) → 0 < length zs → read (line ∷ zs) ≡ with_plan plan (before front (ok_or (is_done zs) (fault.After (n + 1))))
        = λ zs some. (step version plan n last front line zs (Ok (row.Last k)) is some ∙ (rw same refl)) in
        let at : f ≡ fault.After (n + 1) = done_line plan front n (next ∷ more) f (rw same at e) in
        let rest : Reading = λ zs. with_plan plan (before front (ok_or (is_done zs) (fault.After (n + 1)))) in
        behind read rest n line (next ∷ more) f go (λ text. parts_some 10 text) (here rest (n + 1) (next ∷ more) f (omega arith) (ap fault_line at)
        (λ zs g e. (let is = ap fault_line (done_line plan front n zs g e) in omega (arith, is)))
        (λ y ys zs t _ _ some e. not_done plan front n y zs t some e)
        (λ _. ([], record { plan = plan; entries = front ++ [] }, few_more front (omega (arith, few)), refl)))
    by_count k false is same e =
        let at : fault.Count n ≡ f = same_fault (fault.Count n) f (rw same at e) in
        wrong (Ok (row.Last k)) is (λ zs t e. no_ok (fault.Count n) t (rw same at e)) (ap fault_line (sym at))

    by_row : (r : Result BodyLine RowFault) → row_of version plan last (parts 44 line) ≡ r
        → ((x : Entry) → length (front ++ x ∷ []) + length (next ∷ more) ≤ 2 ^ 64 → entries_read version plan (n + 1) x.tick (front ++ x ∷ []) (next ∷ more) ≡ Err f
        → Located (entries_read version plan (n + 1) x.tick (front ++ x ∷ [])) (n + 1) (next ∷ more) f)
        → Located read n (line ∷ next ∷ more) f
    by_row (Ok (row.Entry x)) is later =
        let long = length-append front (x ∷ []) in
        behind read (entries_read version plan (n + 1) x.tick (front ++ x ∷ [])) n line (next ∷ more) f (λ zs some. step version plan n last front line zs (Ok (row.Entry x)) is some) (λ text. parts_some 10 text)
        (later x (omega (arith, few, long)) (sym (step version plan n last front line (next ∷ more) (Ok (row.Entry x)) is (omega arith)) ∙ e))
    by_row (Ok (row.Last k)) is later = by_count k (k == length front) is refl (sym (step version plan n last front line (next ∷ more) (Ok (row.Last k)) is (omega arith)) ∙ e)
    by_row (Err g) is later =
        let at : in_line n g ≡ f = same_fault (in_line n g) f (sym (step version plan n last front line (next ∷ more) (Err g) is (omega arith)) ∙ e) in
        wrong (Err g) is (λ zs t e. no_ok (in_line n g) t e) (ap fault_line (sym at) ∙ row_line n g)
