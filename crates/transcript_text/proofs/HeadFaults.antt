-- The first fault of the head.
use Rattle.std.proofs.Common.{◌≡◌, ◌<◌, ◌≤◌, ◌+◌, ◌^◌, ◌==◌, ◌&&◌, ℕ, Bool, true, false, if◌then◌else◌, List, [], ◌∷◌, ◌++◌, length, refl, sym, ap, ◌∙◌, arith, Option, Some, None, Result, Ok, Err}
use Rattle.std.specs.Prelude.{codes, is_some}
use Rattle.std.specs.Option.{ok_or}
use Rattle.std.specs.Str.{bytes_eq}
use Rattle.group_plan.specs.declared.plan.GroupPlan.{GroupPlan}
use Rattle.group_plan.specs.declared.plan.PlanError.{PlanError}
use Rattle.group_plan.specs.declared.plan.members.Span.{Span}
use Rattle.group_plan.specs.Plans.{PlanView}
use Rattle.field_texts.specs.Parts.{parts}
use Rattle.field_texts.proofs.Cutting.{parts_some}
use Rattle.transcript_text.specs.declared.version.Version.{Version}
use Rattle.transcript_text.specs.declared.head.Start.{Start}
use Rattle.transcript_text.specs.declared.head.HeadRow.{HeadRow}
use Rattle.transcript_text.specs.declared.head.HeadRow.TheVariants as row
use Rattle.transcript_text.specs.declared.fault.ReadError.{ReadError}
use Rattle.transcript_text.specs.declared.fault.ReadError.TheVariants as fault
use Rattle.transcript_text.specs.Parts.{at}
use Rattle.event_schedule.specs.Transcripts.{TranscriptView}
use Rattle.transcript_text.specs.Reading.{◌>>=◌}
use Rattle.transcript_text.specs.Heads.{HeadRead, after_head_row, at_begin, group_row, head_from, head_number, head_row, is_two, member_row, next_line, plan_at, rounds_of, title_of, unless_fault, windows_of}
use Rattle.transcript_text.specs.Faults.{fault_line}
use Rattle.transcript_text.proofs.EntryFaults.{entries_located, entries_read, entries_start, first_of, no_ok, same_fault}
use Rattle.transcript_text.proofs.HeadLoop.{head_opens}
use Rattle.transcript_text.proofs.Located.{Reading, Starts, Located, behind, here, is_head}

-- ---- faults of one line

-- a step that can only fail by the head's fault of line n
abbrev IsAt : {A : Type 0} → ℕ → Result A ReadError → Type 0
IsAt n r = (f : ReadError) → r ≡ Err f → f ≡ fault.Head n

at_fault : {A : Type 0} (n : ℕ) → IsAt {A = A} n (Err (fault.Head n))
at_fault n f e = cc

at_ok : {A : Type 0} (n : ℕ) (x : A) → IsAt n (Ok x)
at_ok n x f e = absurd cc

at_some : {A : Type 0} (n : ℕ) (o : Option A) → IsAt n (ok_or o (fault.Head n))
at_some n None f e = cc
at_some n (Some x) f e = absurd cc

at_step : {A B : Type 0} (n : ℕ) (r : Result A ReadError) (go : A → Result B ReadError) → IsAt n r → ((x : A) → IsAt n (go x)) → IsAt n (r >>= go)
at_step n (Ok x) go a b f e = b x f e
at_step n (Err g) go a b f e = a f (ap Err (same_fault g f e))

at_choice : {A : Type 0} (n : ℕ) (b : Bool) (x y : Result A ReadError) → IsAt n x → IsAt n y → IsAt n (if b then x else y)
at_choice n true x y a c = a
at_choice n false x y a c = c

number_at : (n : ℕ) (text : List ℕ) → IsAt n (head_number n text)
number_at n text = at_some n _

title_at : (version : Version) (n : ℕ) (fs : List (List ℕ)) → IsAt n (title_of version n fs)
unfolding title_of
title_at version n fs = at_choice n _ _ _ (at_ok n tt) (at_fault n)

rounds_at : (n : ℕ) (fs : List (List ℕ)) → IsAt n (rounds_of n fs)
unfolding rounds_of
rounds_at n fs = at_choice n _ _ _ (number_at n (at fs 1)) (at_fault n)

windows_at : (n : ℕ) (fs : List (List ℕ)) → IsAt n (windows_of n fs)
unfolding windows_of
windows_at n fs = at_choice n _ _ _
    (at_step n (head_number n (at fs 1)) _ (number_at n (at fs 1)) (λ w1. at_step n (head_number n (at fs 2)) _ (number_at n (at fs 2)) (λ w2. at_ok n (w1, w2))))
    (at_fault n)

group_at : (n : ℕ) (fs : List (List ℕ)) → IsAt n (group_row n fs)
group_at n fs =
    at_step n _ _ (at_some n _) (λ name. at_step n (head_number n (at fs 2)) _ (number_at n (at fs 2)) (λ meters. at_step n (head_number n (at fs 3)) _ (number_at n (at fs 3)) (λ floor. at_ok n _)))

member_at : (n rounds : ℕ) (groups : List GroupPlan) (last : Option Span) (fs : List (List ℕ)) → IsAt n (member_row n rounds groups last fs)
member_at n rounds groups last fs =
    at_step n (head_number n (at fs 1)) _ (number_at n (at fs 1)) (λ g.
    at_step n (head_number n (at fs 2)) _ (number_at n (at fs 2)) (λ i.
    at_step n (head_number n (at fs 3)) _ (number_at n (at fs 3)) (λ from.
    at_step n (head_number n (at fs 4)) _ (number_at n (at fs 4)) (λ until. at_choice n _ _ _ (at_ok n _) (at_fault n)))))

row_at : (version : Version) (n rounds : ℕ) (groups : List GroupPlan) (last : Option Span) (fs : List (List ℕ)) → IsAt n (head_row version n rounds groups last fs)
unfolding head_row
row_at version n rounds groups last fs =
    let is_begin : Bool = (length fs == 1) && bytes_eq (at fs 0) (codes "begin") in
    let is_group : Bool = (length fs == 4) && bytes_eq (at fs 0) (codes "group") in
    let is_member : Bool = (length fs == 5) && bytes_eq (at fs 0) (codes "member") && is_two version in
    let wrong : Result HeadRow ReadError = Err (fault.Head n) in
    let group : Result HeadRow ReadError = if is_some last then wrong else group_row n fs in
    let member : Result HeadRow ReadError = if is_member then member_row n rounds groups last fs else wrong in
    at_choice n is_begin (Ok row.Begin) (if is_group then group else member) (at_ok n row.Begin)
    (at_choice n is_group group member
    (at_choice n (is_some last) wrong (group_row n fs) (at_fault n) (group_at n fs))
    (at_choice n is_member (member_row n rounds groups last fs) wrong (member_at n rounds groups last fs) (at_fault n)))

unless_at : (n : ℕ) (plan : PlanView) (o : Option PlanError) → IsAt n (unless_fault n plan o)
unless_at n plan None = at_ok n plan
unless_at n plan (Some e) = at_fault n

plan_fault_at : (version : Version) (n : ℕ) (start : Start) (groups : List GroupPlan) (spans : List Span) → IsAt n (plan_at version n start groups spans)
unfolding plan_at
plan_fault_at version n start groups spans = at_choice n _ _ _ (unless_at n _ _) (at_fault n)

-- ---- the lines after the first three

-- the entries behind a head
abbrev pub behind_head : Version → Result HeadRead ReadError → Result TranscriptView ReadError
behind_head version head = head >>= (λ h. entries_read version h.plan h.line 0 [] h.rest)

-- the lines from line n on, after these groups and spans
unfoldable pub body_read : Version → Start → ℕ → Option Span → List GroupPlan → List Span → Reading
body_read version start n last groups spans ls = behind_head version (head_from version start n last groups spans ls)

-- what follows a line
abbrev after : Version → Start → ℕ → Option Span → List GroupPlan → List Span → List (List ℕ) → Result HeadRow ReadError → Result TranscriptView ReadError
after version start n last groups spans zs (Ok (row.Group g)) = body_read version start (n + 1) last (groups ++ g ∷ []) spans zs
after version start n last groups spans zs (Ok (row.Member s)) = body_read version start (n + 1) (Some s) groups (spans ++ s ∷ []) zs
after version start n last groups spans zs (Ok row.Begin) = behind_head version (at_begin n zs (plan_at version n start groups spans))
after version start n last groups spans zs (Err f) = Err f

step : (version : Version) (start : Start) (n : ℕ) (last : Option Span) (groups : List GroupPlan) (spans : List Span) (line : List ℕ) (zs : List (List ℕ)) (r : Result HeadRow ReadError)
    → head_row version n start.rounds groups last (parts 44 line) ≡ r → 0 < length zs → body_read version start n last groups spans (line ∷ zs) ≡ after version start n last groups spans zs r
unfolding body_read
step version start n last groups spans line zs r is some =
    ap (behind_head version) (head_opens version start n last groups spans line zs some ∙ ap (after_head_row version start n last groups spans zs (λ l gs ss. head_from version start (n + 1) l gs ss zs)) is) ∙ by_row r
  where
    by_row : (r : Result HeadRow ReadError) → behind_head version (after_head_row version start n last groups spans zs (λ l gs ss. head_from version start (n + 1) l gs ss zs) r) ≡ after version start n last groups spans zs r
    by_row (Ok (row.Group g)) = refl
    by_row (Ok (row.Member s)) = refl
    by_row (Ok row.Begin) = refl
    by_row (Err f) = refl

-- a fault at line n
line_at : (n : ℕ) (f : ReadError) → f ≡ fault.Head n → fault_line f ≡ n
line_at n f e = ap fault_line e

body_start : (version : Version) (start : Start) (n : ℕ) (last : Option Span) (groups : List GroupPlan) (spans : List Span) → Starts (body_read version start n last groups spans) n
unfolding body_read head_from
body_start version start n last groups spans [] g e = let is : g ≡ fault.Head n = cc in rw is (omega arith)
body_start version start n last groups spans (x ∷ []) g e = let is : g ≡ fault.Head n = cc in rw is (omega arith)
body_start version start n last groups spans (line ∷ next ∷ more) g e =
    by_row (head_row version n start.rounds groups last (parts 44 line)) refl (λ l gs ss. body_start version start (n + 1) l gs ss (next ∷ more) g)
  where
    by_plan : (p : Result PlanView ReadError) → plan_at version n start groups spans ≡ p → behind_head version (at_begin n (next ∷ more) p) ≡ Err g → n ≤ fault_line g
    by_plan (Ok plan) is e = let le = entries_start version plan (n + 1) 0 [] (next ∷ more) g e in omega (arith, le)
    by_plan (Err f) is e =
        let same : f ≡ g = same_fault f g e in
        let at = line_at n f (plan_fault_at version n start groups spans f is) in
        omega (arith, at, ap fault_line same)

    by_row : (r : Result HeadRow ReadError) → head_row version n start.rounds groups last (parts 44 line) ≡ r
        → ((l : Option Span) (gs : List GroupPlan) (ss : List Span) → body_read version start (n + 1) l gs ss (next ∷ more) ≡ Err g → n + 1 ≤ fault_line g) → n ≤ fault_line g
    by_row (Ok (row.Group x)) is later =
        let le = later last (groups ++ x ∷ []) spans (sym (step version start n last groups spans line (next ∷ more) (Ok (row.Group x)) is (omega arith)) ∙ e) in
        omega (arith, le)
    by_row (Ok (row.Member s)) is later =
        let le = later (Some s) groups (spans ++ s ∷ []) (sym (step version start n last groups spans line (next ∷ more) (Ok (row.Member s)) is (omega arith)) ∙ e) in
        omega (arith, le)
    by_row (Ok row.Begin) is later =
        by_plan (plan_at version n start groups spans) refl (sym (step version start n last groups spans line (next ∷ more) (Ok row.Begin) is (omega arith)) ∙ e)
    by_row (Err f) is later =
        let same : f ≡ g = same_fault f g (sym (step version start n last groups spans line (next ∷ more) (Err f) is (omega arith)) ∙ e) in
        let at = line_at n f (row_at version n start.rounds groups last (parts 44 line) f is) in
        omega (arith, at, ap fault_line same)

-- a line that is no right one, whatever follows it
pub wrong : (read : Reading) (n : ℕ) (line : List ℕ) (ls : List (List ℕ)) (f : ReadError) → 0 < length ls → f ≡ fault.Head n → Starts read n
    → ((zs : List (List ℕ)) (t : TranscriptView) → 0 < length zs → read (line ∷ zs) ≡ Ok t → ⊥) → Located read n (line ∷ ls) f
wrong read n line ls f some is start none = here read n (line ∷ ls) f (omega arith) (line_at n f is) start
    (λ y ys zs t same many some e. none zs t some (ap (λ q. read (q ∷ zs)) (first_of line y ls ys same) ∙ e))
    (λ later. (let head : is_head f ≡ true = rw is refl in let bad : true ≡ false = sym head ∙ later in absurd cc))

-- the text ends without a newline, or is empty
pub unended : (read : Reading) (n : ℕ) (line : List ℕ) (f : ReadError) → f ≡ fault.Head n → Starts read n → Located read n (line ∷ []) f
unended read n line f is start = here read n (line ∷ []) f (omega arith) (line_at n f is) start
    (λ y more zs t same many _ _. (let l = ap length same in absurd (omega (arith, l, many))))
    (λ later. (let head : is_head f ≡ true = rw is refl in let bad : true ≡ false = sym head ∙ later in absurd cc))

pub body_located : (version : Version) (start : Start) (n : ℕ) (last : Option Span) (groups : List GroupPlan) (spans : List Span) (ls : List (List ℕ)) (f : ReadError) → 0 < length ls → length ls ≤ 2 ^ 64
    → body_read version start n last groups spans ls ≡ Err f → Located (body_read version start n last groups spans) n ls f
unfolding body_read head_from
body_located version start n last groups spans [] f some few e = absurd (omega arith)
body_located version start n last groups spans (x ∷ []) f some few e =
    let is : f ≡ fault.Head n = cc in
    unended (body_read version start n last groups spans) n x f is (body_start version start n last groups spans)
body_located version start n last groups spans (line ∷ next ∷ more) f some few e =
    by_row (head_row version n start.rounds groups last (parts 44 line)) refl (λ l gs ss. body_located version start (n + 1) l gs ss (next ∷ more) f (omega arith) (omega (arith, few)))
  where
    read : Reading
    read = body_read version start n last groups spans

    by_plan : (p : Result PlanView ReadError) → head_row version n start.rounds groups last (parts 44 line) ≡ Ok row.Begin → plan_at version n start groups spans ≡ p
        → behind_head version (at_begin n (next ∷ more) p) ≡ Err f → Located read n (line ∷ next ∷ more) f
    by_plan (Ok plan) begins is e =
        behind read (entries_read version plan (n + 1) 0 []) n line (next ∷ more) f
        (λ zs some. step version start n last groups spans line zs (Ok row.Begin) begins some ∙ ap (λ p. behind_head version (at_begin n zs p)) is)
        (λ text. parts_some 10 text) (entries_located version plan (n + 1) 0 [] (next ∷ more) f (omega arith) (omega (arith, few)) e)
    by_plan (Err g) begins is e =
        let same : g ≡ f = same_fault g f e in
        wrong read n line (next ∷ more) f (omega arith) (sym same ∙ plan_fault_at version n start groups spans g is) (body_start version start n last groups spans)
        (λ zs t some e. no_ok g t (sym (step version start n last groups spans line zs (Ok row.Begin) begins some ∙ ap (λ p. behind_head version (at_begin n zs p)) is) ∙ e))

    by_row : (r : Result HeadRow ReadError) → head_row version n start.rounds groups last (parts 44 line) ≡ r
        → ((l : Option Span) (gs : List GroupPlan) (ss : List Span) → body_read version start (n + 1) l gs ss (next ∷ more) ≡ Err f → Located (body_read version start (n + 1) l gs ss) (n + 1) (next ∷ more) f)
        → Located read n (line ∷ next ∷ more) f
    by_row (Ok (row.Group x)) is later =
        behind read (body_read version start (n + 1) last (groups ++ x ∷ []) spans) n line (next ∷ more) f
        (λ zs some. step version start n last groups spans line zs (Ok (row.Group x)) is some) (λ text. parts_some 10 text)
        (later last (groups ++ x ∷ []) spans (sym (step version start n last groups spans line (next ∷ more) (Ok (row.Group x)) is (omega arith)) ∙ e))
    by_row (Ok (row.Member s)) is later =
        behind read (body_read version start (n + 1) (Some s) groups (spans ++ s ∷ [])) n line (next ∷ more) f
        (λ zs some. step version start n last groups spans line zs (Ok (row.Member s)) is some) (λ text. parts_some 10 text)
        (later (Some s) groups (spans ++ s ∷ []) (sym (step version start n last groups spans line (next ∷ more) (Ok (row.Member s)) is (omega arith)) ∙ e))
    by_row (Ok row.Begin) is later =
        by_plan (plan_at version n start groups spans) is refl (sym (step version start n last groups spans line (next ∷ more) (Ok row.Begin) is (omega arith)) ∙ e)
    by_row (Err g) is later =
        let same : g ≡ f = same_fault g f (sym (step version start n last groups spans line (next ∷ more) (Err g) is (omega arith)) ∙ e) in
        wrong read n line (next ∷ more) f (omega arith) (sym same ∙ row_at version n start.rounds groups last (parts 44 line) g is) (body_start version start n last groups spans)
        (λ zs t some e. no_ok g t (sym (step version start n last groups spans line zs (Err g) is some) ∙ e))

-- ---- the first three lines

-- a step on the next line, and then a reading of the lines after it
abbrev pub line_read : {A : Type 0} → ℕ → (List (List ℕ) → Result A ReadError) → (A → Reading) → Reading
line_read n read rest ls = next_line n read ls >>= (λ x. rest x.0 x.1)

line_step : {A : Type 0} (n : ℕ) (read : List (List ℕ) → Result A ReadError) (rest : A → Reading) (line : List ℕ) (zs : List (List ℕ)) (r : Result A ReadError) → read (parts 44 line) ≡ r → 0 < length zs
    → line_read n read rest (line ∷ zs) ≡ (r >>= (λ x. rest x zs))
line_step n read rest line [] r is some = absurd (omega arith)
line_step n read rest line (z ∷ zs) (Ok x) is some = rw is refl
line_step n read rest line (z ∷ zs) (Err f) is some = rw is refl

line_start : {A : Type 0} (n : ℕ) (read : List (List ℕ) → Result A ReadError) (rest : A → Reading) → ((fs : List (List ℕ)) → IsAt n (read fs)) → ((x : A) → Starts (rest x) (n + 1)) → Starts (line_read n read rest) n
line_start n read rest at later [] g e = let is : g ≡ fault.Head n = cc in rw is (omega arith)
line_start n read rest at later (x ∷ []) g e = let is : g ≡ fault.Head n = cc in rw is (omega arith)
line_start {A} n read rest at later (line ∷ next ∷ more) g e = by_line (read (parts 44 line)) refl
  where
    by_line : (r : Result A ReadError) → read (parts 44 line) ≡ r → n ≤ fault_line g
    by_line (Ok x) is = let le = later x (next ∷ more) g (sym (line_step n read rest line (next ∷ more) (Ok x) is (omega arith)) ∙ e) in omega (arith, le)
    by_line (Err f) is =
        let same : f ≡ g = same_fault f g (sym (line_step n read rest line (next ∷ more) (Err f) is (omega arith)) ∙ e) in
        let at = line_at n f (at (parts 44 line) f is) in
        omega (arith, at, ap fault_line same)

line_located : {A : Type 0} (n : ℕ) (read : List (List ℕ) → Result A ReadError) (rest : A → Reading) → ((fs : List (List ℕ)) → IsAt n (read fs)) → ((x : A) → Starts (rest x) (n + 1))
    → (ls : List (List ℕ)) (f : ReadError) → 0 < length ls → length ls ≤ 2 ^ 64
    → ((x : A) (zs : List (List ℕ)) → 0 < length zs → length zs ≤ 2 ^ 64 → rest x zs ≡ Err f → Located (rest x) (n + 1) zs f)
    → line_read n read rest ls ≡ Err f → Located (line_read n read rest) n ls f
line_located n read rest at starts [] f some few later e = absurd (omega arith)
line_located n read rest at starts (x ∷ []) f some few later e = let is : f ≡ fault.Head n = cc in unended (line_read n read rest) n x f is (line_start n read rest at starts)
line_located {A} n read rest at starts (line ∷ next ∷ more) f some few later e = by_line (read (parts 44 line)) refl
  where
    by_line : (r : Result A ReadError) → read (parts 44 line) ≡ r → Located (line_read n read rest) n (line ∷ next ∷ more) f
    by_line (Ok x) is =
        behind (line_read n read rest) (rest x) n line (next ∷ more) f (λ zs some. line_step n read rest line zs (Ok x) is some) (λ text. parts_some 10 text)
        (later x (next ∷ more) (omega arith) (omega (arith, few)) (sym (line_step n read rest line (next ∷ more) (Ok x) is (omega arith)) ∙ e))
    by_line (Err g) is =
        let same : g ≡ f = same_fault g f (sym (line_step n read rest line (next ∷ more) (Err g) is (omega arith)) ∙ e) in
        wrong (line_read n read rest) n line (next ∷ more) f (omega arith) (sym same ∙ at (parts 44 line) g is) (line_start n read rest at starts)
        (λ zs t some e. no_ok g t (sym (line_step n read rest line zs (Err g) is some) ∙ e))

-- the lines after the windows, after the rounds, after the title, and all
abbrev after_windows : Version → ℕ → (ℕ × ℕ) → Reading
after_windows version rounds w = body_read version (record { rounds = rounds; w1 = w.0; w2 = w.1 }) 4 None [] []

abbrev after_rounds : Version → ℕ → Reading
after_rounds version rounds = line_read 3 (windows_of 3) (after_windows version rounds)

abbrev after_title : Version → Unit {0} → Reading
after_title version u = line_read 2 (rounds_of 2) (after_rounds version)

abbrev pub all_read : Version → Reading
all_read version = line_read 1 (title_of version 1) (after_title version)

windows_start : (version : Version) (rounds : ℕ) (w : ℕ × ℕ) → Starts (after_windows version rounds w) 4
windows_start version rounds w = body_start version (record { rounds = rounds; w1 = w.0; w2 = w.1 }) 4 None [] []

rounds_start : (version : Version) (rounds : ℕ) → Starts (after_rounds version rounds) 3
rounds_start version rounds = line_start 3 (windows_of 3) (after_windows version rounds) (windows_at 3) (windows_start version rounds)

title_start : (version : Version) (u : Unit {0}) → Starts (after_title version u) 2
title_start version u = line_start 2 (rounds_of 2) (after_rounds version) (rounds_at 2) (rounds_start version)

-- the fault of a whole text
pub all_located : (version : Version) (ls : List (List ℕ)) (f : ReadError) → 0 < length ls → length ls ≤ 2 ^ 64 → all_read version ls ≡ Err f → Located (all_read version) 1 ls f
all_located version ls f some few e =
    line_located 1 (title_of version 1) (after_title version) (title_at version 1) (title_start version) ls f some few (λ u ls2 some2 few2 e2.
    line_located 2 (rounds_of 2) (after_rounds version) (rounds_at 2) (rounds_start version) ls2 f some2 few2 (λ rounds ls3 some3 few3 e3.
    line_located 3 (windows_of 3) (after_windows version rounds) (windows_at 3) (windows_start version rounds) ls3 f some3 few3 (λ w ls4 some4 few4 e4.
    body_located version (record { rounds = rounds; w1 = w.0; w2 = w.1 }) 4 None [] [] ls4 f some4 few4 e4) e3) e2) e
