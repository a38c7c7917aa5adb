-- Which row of side words is the first of a tag, and the totals of the first rows.
use Rattle.std.proofs.Common.{◌≡◌, ◌∙◌, ℕ, zero, suc, ◌+◌, ◌<◌, ◌≤◌, ◌==◌, ◌&&◌, Bool, true, false, nat_lt, not, if◌then◌else◌, IsTrue, List, [], ◌∷◌, ◌++◌, length, drop, take, map, get_or, replicate, sum_by, Option, Some, None, is_some, refl, sym, ap, subst, arith}
use Rattle.std.specs.List.{filter, list_all, range_with_len}
use Rattle.std.specs.Prelude.{slice_index, slice_index_or, slice_set}
use Rattle.std.specs.Prelude.{codes, decimal}
use Rattle.std.proofs.Common.{◌/◌, ◌%◌, append_assoc}
use Rattle.std.proofs.lemmas.Grind.{flat_map-append}
use Rattle.std.proofs.lemmas.List.FromFn.{map-range_with_len_more}
use Rattle.std.proofs.lemmas.Bool.{and_from, and_parts, lt-ltb}
use Rattle.std.proofs.lemmas.Bool.Decides.{nat_tests}
use Rattle.std.proofs.lemmas.List.{append-nil, length-replicate, length-set, map_more}
use Rattle.std.proofs.lemmas.List.Elements.{All-get_or}
use Rattle.std.proofs.lemmas.List.Sums.{sum_by-cons}
use Rattle.group_plan.specs.declared.Kind.{Kind}
use Rattle.group_plan.specs.declared.Kind.TheVariants.{Reading, Announcement, Answer}
use Rattle.group_plan.specs.declared.Tag.{Tag}
use Rattle.group_plan.specs.Places.{place_at, places}
use Rattle.group_plan.specs.Plans.{PlanView, is_member as of_round, is_place, members, size}
use Rattle.missing_round.specs.Sets.{is_member, less}
use Rattle.totals_report.specs.declared.row.RowOutcome.{RowOutcome}
use Rattle.totals_report.specs.declared.row.RowOutcome.TheVariants as outcomes
use Rattle.totals_report.specs.Texts.{row_line}
use Rattle.group_plan.specs.Tables.{is_same_place}
use Rattle.group_plan.proofs.TableLemmas.{set_here, set_there}
use Rattle.meter_frames.specs.declared.Frame.{Frame}
use Rattle.missing_round.specs.Words.{word}
use Rattle.mod_word.specs.Word.{negative}
use Rattle.event_schedule.specs.declared.Entry.{Entry}
use Rattle.event_schedule.specs.declared.Line.{Line}
use Rattle.event_schedule.specs.declared.Line.TheVariants.{Send, Take, Close, End}
use Rattle.event_schedule.specs.Events.{event_of, frame_of, is_send, is_tag, lines_of, same_kind}
use Rattle.event_schedule.specs.Transcripts.{FitsLine, IsTranscript, TranscriptView}
use Rattle.register_words.specs.declared.row.SideRow.{SideRow}
use Rattle.register_words.specs.declared.report.Firsts.{Firsts}
use Rattle.register_words.specs.ReportParts.{AreFirsts, KnowsFirsts, first_row, frame_noted, noted, word_from}
use Rattle.plan_files.proofs.ReadingLemmas.{drop_at, drop_end}
use Rattle.totals_report.specs.declared.row.ReportRow.{ReportRow}
use Rattle.transcript_text.specs.Spelling.{ended}
use Rattle.register_words.specs.SideReports.{first_side_word, first_word_of, further_totals, lines_from, register_line, row_count, side_total, totals_text, words_in}
use Rattle.register_words.specs.Sides.{has_words, side_frame}

-- ---- one line more

-- how many rows lines have
abbrev pub rows_in : List Line → ℕ
rows_in [] = 0
rows_in (l ∷ ls) = row_count l + rows_in ls

-- whether a line sends a frame of this tag
abbrev pub is_first : (g r i : ℕ) → Kind → Line → Bool
is_first g r i kind l = is_send g r i kind (event_of l) && is_some (frame_of l)

abbrev pub or_else : Option ℕ → Option ℕ → Option ℕ
or_else None other = other
or_else (Some n) other = Some n

first_step : (b t : Bool) (n m rest : ℕ) (whole part : Option ℕ) → whole ≡ or_else part (if t then Some (n + m + rest) else None)
    → (if b then Some n else whole) ≡ or_else (if b then Some n else part) (if t then Some (n + (m + rest)) else None)
first_step true t n m rest whole part same = refl
first_step false t n m rest whole part same =
    let sum : n + m + rest ≡ n + (m + rest) = omega arith in
    same ∙ ap (λ k. or_else part (if t then Some k else None)) sum

pub first_more : (g r i : ℕ) (kind : Kind) (n : ℕ) (ls : List Line) (l : Line)
    → first_row g r i kind n (ls ++ l ∷ []) ≡ or_else (first_row g r i kind n ls) (if is_first g r i kind l then Some (n + rows_in ls) else None)
first_more g r i kind n [] l = let same : n ≡ n + 0 = omega arith in ap (λ m. if is_first g r i kind l then Some m else None) same
first_more g r i kind n (k ∷ ls) l = first_step (is_first g r i kind k) (is_first g r i kind l) n (row_count k) (rows_in ls) (first_row g r i kind (n + row_count k) (ls ++ l ∷ [])) (first_row g r i kind (n + row_count k) ls)
    (first_more g r i kind (n + row_count k) ls l)

pub rows_more : (ls : List Line) (l : Line) → rows_in (ls ++ l ∷ []) ≡ rows_in ls + row_count l
rows_more [] l = omega arith
rows_more (k ∷ ls) l = let rest = rows_more ls l in omega (arith, rest)

noted_is : (first : Option ℕ) (row : ℕ) → noted first row ≡ or_else first (Some row)
noted_is None row = refl
noted_is (Some n) row = refl

or_none : (first : Option ℕ) → or_else first None ≡ first
or_none None = refl
or_none (Some n) = refl

zero_add : (n : ℕ) → 0 + n ≡ n
zero_add n = omega arith

-- the rows so far are noted
pub record Noted (plan : PlanView) (kind : Kind) (ls : List Line) (row : ℕ) (kept : List (Option ℕ)) : Type 0 where
  pub firsts : AreFirsts plan kind ls kept
  pub counted : row ≡ rows_in ls

pub none_noted : (plan : PlanView) (kind : Kind) (kept : List (Option ℕ)) → kept ≡ replicate (places plan) None → Noted plan kind [] 0 kept
none_noted plan kind kept made = record {
  firsts = record {
    long = ap length made ∙ length-replicate {A = Option ℕ} (places plan) None;
    each = λ g r i is. ap (λ (l : List (Option ℕ)). get_or l (place_at plan g r i) None) made ∙ all_none (places plan) (place_at plan g r i);
  };
  counted = refl;
}
  where
    all_none : (n k : ℕ) → ◌≡◌ {A = Option ℕ} (get_or (replicate n None) k None) None
    all_none zero k = refl
    all_none (suc n) zero = refl
    all_none (suc n) (suc k) = all_none n k

-- a line that sends no frame of the kind changes nothing
pub passed : (plan : PlanView) (kind : Kind) (ls next : List Line) (l : Line) (row new : ℕ) (kept : List (Option ℕ)) → next ≡ ls ++ l ∷ [] → ((g r i : ℕ) → is_first g r i kind l ≡ false)
    → new ≡ row + row_count l → Noted plan kind ls row kept → Noted plan kind next new kept
passed plan kind ls next l row new kept more other count so_far =
    subst (λ (x : List Line). Noted plan kind x new kept) (sym more) (record {
      firsts = record {
        long = so_far.firsts.long;
        each = λ g r i is. so_far.firsts.each g r i is ∙ sym (first_more g r i kind 0 ls l ∙ ap (λ b. or_else (first_row g r i kind 0 ls) (if b then Some (0 + rows_in ls) else None)) (other g r i) ∙ or_none (first_row g r i kind 0 ls));
      };
      counted = count ∙ ap (λ n. n + row_count l) so_far.counted ∙ sym (rows_more ls l);
    })

-- a line that sends one notes its row at its place
pub put : (plan : PlanView) (kind : Kind) (ls next : List Line) (l : Line) (g r i row new : ℕ) (kept changed : List (Option ℕ)) → next ≡ ls ++ l ∷ [] → IsTrue (is_place plan g r i)
    → ((a b c : ℕ) → is_first a b c kind l ≡ is_same_place g r i a b c) → new ≡ row + row_count l
    → changed ≡ slice_set kept (place_at plan g r i) (noted (get_or kept (place_at plan g r i) None) row) → Noted plan kind ls row kept → Noted plan kind next new changed
put plan kind ls next l g r i row new kept changed more place tells count is so_far =
    subst (λ (x : List Line). Noted plan kind x new changed) (sym more) (record {
      firsts = record {
        long = ap length is ∙ length-set kept (place_at plan g r i) (noted (get_or kept (place_at plan g r i) None) row) ∙ so_far.firsts.long;
        each = λ a b c there. ap (λ (x : List (Option ℕ)). get_or x (place_at plan a b c) None) is ∙ at a b c there (is_same_place g r i a b c) refl
            ∙ sym (first_more a b c kind 0 ls l ∙ ap (λ t. or_else (first_row a b c kind 0 ls) (if t then Some (0 + rows_in ls) else None)) (tells a b c) ∙ ap (λ m. or_else (first_row a b c kind 0 ls) (if is_same_place g r i a b c then Some m else None)) (zero_add (rows_in ls)));
      };
      counted = count ∙ ap (λ n. n + row_count l) so_far.counted ∙ sym (rows_more ls l);
    })
  where
    value : Option ℕ
    value = noted (get_or kept (place_at plan g r i) None) row

    at : (a b c : ℕ) → is_place plan a b c ≡ true → (t : Bool) → is_same_place g r i a b c ≡ t
        → get_or (slice_set kept (place_at plan g r i) value) (place_at plan a b c) None ≡ or_else (first_row a b c kind 0 ls) (if t then Some (rows_in ls) else None)
    at a b c there true e =
        let both = and_parts ((a == g) && (b == r)) (c == i) e in
        let two = and_parts (a == g) (b == r) both.0 in
        let same_a : a ≡ g = grind (arith, nat_tests, two.0) in
        let same_b : b ≡ r = grind (arith, nat_tests, two.1) in
        let same_c : c ≡ i = grind (arith, nat_tests, both.1) in
        rw (same_a, same_b, same_c) (set_here None plan kept g r i value so_far.firsts.long place
        ∙ ap (λ x. noted x row) (so_far.firsts.each g r i place) ∙ noted_is (first_row g r i kind 0 ls) row ∙ ap (λ n. or_else (first_row g r i kind 0 ls) (Some n)) so_far.counted)
    at a b c there false e =
        set_there None plan kept g r i value a b c place there e ∙ so_far.firsts.each a b c there ∙ sym (or_none (first_row a b c kind 0 ls))

-- ---- what a line sends

same_sym : (a b : ℕ) → (a == b) ≡ (b == a)
same_sym a b = grind (arith, nat_tests)

and_false : (a : Bool) → (a && false) ≡ false
and_false true = refl
and_false false = refl

tag_at : (t : Tag) (kind : Kind) (a b c : ℕ) → same_kind t.kind kind ≡ true → (is_tag a b c kind t && true) ≡ is_same_place t.group t.round t.meter a b c
tag_at t kind a b c same = rw (same, same_sym t.group a, same_sym t.round b, same_sym t.meter c) (by (a == t.group) (b == t.round) (c == t.meter))
  where
    by : (x y z : Bool) → ((x && y && z && true) && true) ≡ ((x && y) && z)
    by true true true = refl
    by true true false = refl
    by true false z = refl
    by false y z = refl

tag_other : (t : Tag) (kind : Kind) (a b c : ℕ) → same_kind t.kind kind ≡ false → (is_tag a b c kind t && true) ≡ false
tag_other t kind a b c other = rw other (by (t.group == a) (t.round == b) (t.meter == c))
  where
    by : (x y z : Bool) → ((x && y && z && false) && true) ≡ false
    by true true true = refl
    by true true false = refl
    by true false z = refl
    by false y z = refl

-- a line with a frame of the kind sends it at its place
pub sends_at : (plan : PlanView) (fate : List ℕ) (l : Line) (f : Frame) (kind : Kind) → FitsLine plan fate l → side_frame l ≡ Some f → same_kind f.tag.kind kind ≡ true
    → (a b c : ℕ) → is_first a b c kind l ≡ is_same_place f.tag.group f.tag.round f.tag.meter a b c
sends_at plan fate (Send tag None) f kind fits is same a b c = cc is
sends_at plan fate (Send tag (Some frame)) f kind fits is same a b c = by (has_words frame.tag.kind) is
  where
    by : (t : Bool) → (if t then Some frame else None) ≡ Some f → (is_tag a b c kind tag && true) ≡ is_same_place f.tag.group f.tag.round f.tag.meter a b c
    by true e =
        let it : frame ≡ f = cc in
        let tags : tag ≡ f.tag = sym fits.1.same ∙ ap (λ (x : Frame). x.tag) it in
        ap (λ (t : Tag). is_tag a b c kind t && true) tags ∙ tag_at f.tag kind a b c same
    by false e = cc e
sends_at plan fate (Take tag verdict) f kind fits is same a b c = cc is
sends_at plan fate (Close g r x) f kind fits is same a b c = cc is
sends_at plan fate (End g r x) f kind fits is same a b c = cc is

pub sends_other : (plan : PlanView) (fate : List ℕ) (l : Line) (f : Frame) (kind : Kind) → FitsLine plan fate l → side_frame l ≡ Some f → same_kind f.tag.kind kind ≡ false
    → (a b c : ℕ) → is_first a b c kind l ≡ false
sends_other plan fate (Send tag None) f kind fits is other a b c = cc is
sends_other plan fate (Send tag (Some frame)) f kind fits is other a b c = by (has_words frame.tag.kind) is
  where
    by : (t : Bool) → (if t then Some frame else None) ≡ Some f → (is_tag a b c kind tag && true) ≡ false
    by true e =
        let it : frame ≡ f = cc in
        let tags : tag ≡ f.tag = sym fits.1.same ∙ ap (λ (x : Frame). x.tag) it in
        ap (λ (t : Tag). is_tag a b c kind t && true) tags ∙ tag_other f.tag kind a b c other
    by false e = cc e
sends_other plan fate (Take tag verdict) f kind fits is other a b c = cc is
sends_other plan fate (Close g r x) f kind fits is other a b c = cc is
sends_other plan fate (End g r x) f kind fits is other a b c = cc is

no_words : (kind other : Kind) → has_words kind ≡ false → has_words other ≡ true → same_kind kind other ≡ false
no_words Reading other h k = cc h
no_words Answer other h k = cc h
no_words Announcement Reading h k = refl
no_words Announcement Announcement h k = cc k
no_words Announcement Answer h k = refl

-- a line without a row sends no frame of a kind that has words
pub sends_none : (plan : PlanView) (fate : List ℕ) (l : Line) (kind : Kind) → FitsLine plan fate l → side_frame l ≡ None → has_words kind ≡ true → (a b c : ℕ) → is_first a b c kind l ≡ false
sends_none plan fate (Send tag None) kind fits is words a b c = and_false (is_tag a b c kind tag)
sends_none plan fate (Send tag (Some frame)) kind fits is words a b c = by (has_words frame.tag.kind) refl is
  where
    by : (t : Bool) → has_words frame.tag.kind ≡ t → (if t then Some frame else None) ≡ None → (is_tag a b c kind tag && true) ≡ false
    by true e h = cc h
    by false e h =
        ap (λ (t : Tag). is_tag a b c kind t && true) (sym fits.1.same) ∙ tag_other frame.tag kind a b c (no_words frame.tag.kind kind e words)
sends_none plan fate (Take tag verdict) kind fits is words a b c = refl
sends_none plan fate (Close g r x) kind fits is words a b c = refl
sends_none plan fate (End g r x) kind fits is words a b c = refl

-- the entry at a place fits the plan
pub entry_fits : (t : TranscriptView) (at : ℕ) (e : Entry) → IsTranscript t → at < length t.entries → e ≡ get_or t.entries at e → FitsLine t.plan e.fate e.line
entry_fits t at e sound lt is =
    subst (λ (x : Entry). FitsLine t.plan x.fate x.line) (sym is) (All-get_or (λ (x : Entry). FitsLine t.plan x.fate x.line) t.entries at e lt sound.fit)

pub next_line : (entries : List Entry) (at : ℕ) (e : Entry) → at < length entries → e ≡ get_or entries at e → lines_of (take (at + 1) entries) ≡ lines_of (take at entries) ++ e.line ∷ []
next_line entries at e lt is = map_more (λ (x : Entry). x.line) entries at e lt ∙ ap (λ (x : Entry). lines_of (take at entries) ++ x.line ∷ []) (sym is)

pub count_some : (l : Line) (f : Frame) → side_frame l ≡ Some f → row_count l ≡ 1
count_some l f is = ap (λ (x : Option Frame). if is_some x then 1 else 0) is

pub count_none : (l : Line) → side_frame l ≡ None → row_count l ≡ 0
count_none l is = ap (λ (x : Option Frame). if is_some x then 1 else 0) is

-- a line with a row
pub line_noted : (plan given : PlanView) (kind : Kind) (ls next : List Line) (fate : List ℕ) (l : Line) (f : Frame) (row new : ℕ) (kept changed : List (Option ℕ)) → given ≡ plan → next ≡ ls ++ l ∷ []
    → FitsLine plan fate l → side_frame l ≡ Some f → IsTrue (is_place plan f.tag.group f.tag.round f.tag.meter) → new ≡ row + 1 → changed ≡ frame_noted given kind f row kept
    → Noted plan kind ls row kept → Noted plan kind next new changed
line_noted plan given kind ls next fate l f row new kept changed same more fits is place count made so_far =
    by (same_kind f.tag.kind kind) refl (subst (λ (p : PlanView). changed ≡ frame_noted p kind f row kept) same made)
  where
    counted : new ≡ row + row_count l
    counted = count ∙ ap (λ n. row + n) (sym (count_some l f is))

    by : (t : Bool) → same_kind f.tag.kind kind ≡ t → changed ≡ (if t then slice_set kept (place_at plan f.tag.group f.tag.round f.tag.meter) (noted (get_or kept (place_at plan f.tag.group f.tag.round f.tag.meter) None) row) else kept)
        → Noted plan kind next new changed
    by true e set = put plan kind ls next l f.tag.group f.tag.round f.tag.meter row new kept changed more place (sends_at plan fate l f kind fits is e) counted set so_far
    by false e kept_is = subst (Noted plan kind next new) (sym kept_is) (passed plan kind ls next l row new kept more (sends_other plan fate l f kind fits is e) counted so_far)

-- a line without one
pub line_passed : (plan : PlanView) (kind : Kind) (ls next : List Line) (fate : List ℕ) (l : Line) (row : ℕ) (kept : List (Option ℕ)) → next ≡ ls ++ l ∷ []
    → FitsLine plan fate l → side_frame l ≡ None → has_words kind ≡ true → Noted plan kind ls row kept → Noted plan kind next row kept
line_passed plan kind ls next fate l row kept more fits is words so_far =
    passed plan kind ls next l row row kept more (sends_none plan fate l kind fits is words) (let none = count_none l is in omega (arith, none)) so_far

-- ---- the words of the first rows

drop_more : (n m : ℕ) (rows : List SideRow) → drop m (drop n rows) ≡ drop (n + m) rows
drop_more zero m rows = ap (λ n. drop n rows) (sym (zero_add m))
drop_more (suc n) m [] = drop_nil m ∙ sym (drop_nil (suc n + m))
  where
    drop_nil : (k : ℕ) → ◌≡◌ {A = List SideRow} (drop k []) []
    drop_nil zero = refl
    drop_nil (suc k) = refl
drop_more (suc n) m (x ∷ rows) = let more : suc n + m ≡ suc (n + m) = omega arith in drop_more n m rows ∙ ap (λ k. drop k (x ∷ rows)) (sym more)

word_step : (b : Bool) (k n : ℕ) (first : Option ℕ) (word : ℕ) (rows : List SideRow) → word_from k rows first ≡ word
    → word_from k rows (if b then Some n else first) ≡ (if b then first_word_of k (drop n rows) else word)
word_step true k n first word rows same = refl
word_step false k n first word rows same = same

pub first_word_is : (k g r i : ℕ) (kind : Kind) (n : ℕ) (ls : List Line) (rows : List SideRow) → word_from k rows (first_row g r i kind n ls) ≡ first_side_word k g r i kind ls (drop n rows)
first_word_is k g r i kind n [] rows = refl
first_word_is k g r i kind n (l ∷ ls) rows =
    word_step (is_first g r i kind l) k n (first_row g r i kind (n + row_count l) ls) (first_side_word k g r i kind ls (drop (row_count l) (drop n rows))) rows
    (first_word_is k g r i kind (n + row_count l) ls rows ∙ ap (first_side_word k g r i kind ls) (sym (drop_more n (row_count l) rows)))

-- the sums over some meters
sum_same : (f h : ℕ → ℕ) (p : ℕ → Bool) (xs : List ℕ) → IsTrue (list_all p xs) → ((i : ℕ) → p i ≡ true → f i ≡ h i) → sum_by f xs ≡ sum_by h xs
sum_same f h p [] all same = refl
sum_same f h p (x ∷ xs) all same =
    let both = and_parts (p x) (list_all p xs) all in
    let first = same x both.0 in
    let rest = sum_same f h p xs both.1 same in
    let a = sum_by-cons f x xs in
    let b = sum_by-cons h x xs in
    omega (arith, first, rest, a, b)

firsts_sum : (plan : PlanView) (kind : Kind) (ls : List Line) (kept : List (Option ℕ)) (rows : List SideRow) (g r k : ℕ) (meters : List ℕ) → IsTrue (list_all (is_place plan g r) meters) → AreFirsts plan kind ls kept
    → sum_by (λ i. word_from k rows (slice_index_or kept (place_at plan g r i) None)) meters ≡ sum_by (λ i. first_side_word k g r i kind ls rows) meters
firsts_sum plan kind ls kept rows g r k meters places are =
    sum_same (λ i. word_from k rows (slice_index_or kept (place_at plan g r i) None)) (λ i. first_side_word k g r i kind ls rows) (is_place plan g r) meters places
    (λ i is. ap (word_from k rows) (are.each g r i is) ∙ first_word_is k g r i kind 0 ls rows)

-- the frame total by the first rows
pub total_is : (plan : PlanView) (ls : List Line) (firsts : Firsts) (rows : List SideRow) (g r k a b total : ℕ) (meters : List ℕ) → IsTrue (list_all (is_place plan g r) meters) → KnowsFirsts plan ls firsts
    → a ≡ word (sum_by (λ i. word_from k rows (slice_index_or firsts.readings.items (place_at plan g r i) None)) meters)
    → b ≡ word (sum_by (λ i. word_from k rows (slice_index_or firsts.answers.items (place_at plan g r i) None)) meters)
    → total ≡ word (a + negative b) → total ≡ side_total ls rows g r meters k
total_is plan ls firsts rows g r k a b total meters places knows first second is =
    let readings = firsts_sum plan Reading ls firsts.readings.items rows g r k meters places knows.readings in
    let answers = firsts_sum plan Answer ls firsts.answers.items rows g r k meters places knows.answers in
    let x = first ∙ ap word readings in
    let y = second ∙ ap word answers in
    omega (arith, x, y, is)

-- the word of one meter more
pub sum_more : (f : ℕ → ℕ) (sum new w m total : ℕ) (whole rest : List ℕ) → whole ≡ m ∷ rest → w ≡ f m → new ≡ word (sum + w) → word (sum + sum_by f whole) ≡ total → word (new + sum_by f rest) ≡ total
sum_more f sum new w m total whole rest steps is added before =
    let more : sum_by f whole ≡ f m + sum_by f rest = ap (sum_by f) steps ∙ sum_by-cons f m rest in
    let n : ℕ = sum_by f rest in
    let here : word (new + n) ≡ word (sum + (f m + n)) = omega (arith, added, is) in
    here ∙ ap (λ k. word (sum + k)) (sym more) ∙ before

-- a list read from its first item is the one in its place
pub word_from_at : (k n : ℕ) (rows : List SideRow) (row : SideRow) → n < length rows → row ≡ get_or rows n row → first_word_of k (drop n rows) ≡ slice_index row.words k
word_from_at k n [] row lt is = absurd (omega (arith, lt))
word_from_at k zero (x ∷ rows) row lt is = ap (λ (y : SideRow). slice_index y.words k) (sym is)
word_from_at k (suc n) (x ∷ rows) row lt is = word_from_at k n rows row (omega (arith, lt)) is

pub word_from_none : (k n : ℕ) (rows : List SideRow) → length rows ≤ n → first_word_of k (drop n rows) ≡ 0
word_from_none k zero [] le = refl
word_from_none k (suc n) [] le = refl
word_from_none k zero (x ∷ rows) le = absurd (omega (arith, le))
word_from_none k (suc n) (x ∷ rows) le = word_from_none k n rows (omega (arith, le))

-- ---- the texts

-- one total more
pub totals_more : (f : ℕ → ℕ) (n : ℕ) (old now next : List ℕ) → now ≡ old ++ totals_text (map f (range_with_len 0 n)) → next ≡ now ++ (codes "+" ++ decimal (f n))
    → next ≡ old ++ totals_text (map f (range_with_len 0 (n + 1)))
totals_more f n old now next before added =
    added ∙ ap (λ l. l ++ (codes "+" ++ decimal (f n))) before ∙ append_assoc old (totals_text (map f (range_with_len 0 n))) (codes "+" ++ decimal (f n))
    ∙ ap (λ l. old ++ l)
    (ap (λ l. totals_text (map f (range_with_len 0 n)) ++ l) (sym (append-nil (codes "+" ++ decimal (f n))))
    ∙ sym (flat_map-append (λ total. codes "+" ++ decimal total) (map f (range_with_len 0 n)) (f n ∷ []))
    ∙ ap totals_text (sym (map-range_with_len_more f 0 n n (omega arith))))

-- the line of one row more
pub line_more : (plan : PlanView) (ls : List Line) (rows : List SideRow) (n : ℕ) (report : List ReportRow) (row : ReportRow) (out next all : List ℕ) → n < length report → row ≡ get_or report n row
    → next ≡ out ++ ended (register_line plan ls rows (n / plan.rounds) (n % plan.rounds) row)
    → out ++ lines_from plan ls rows n (drop n report) ≡ all → next ++ lines_from plan ls rows (n + 1) (drop (n + 1) report) ≡ all
unfolding lines_from
line_more plan ls rows n report row out next all lt is added so_far =
    let text = ended (register_line plan ls rows (n / plan.rounds) (n % plan.rounds) row) in
    ap (λ l. l ++ lines_from plan ls rows (n + 1) (drop (n + 1) report)) added
    ∙ append_assoc out text (lines_from plan ls rows (n + 1) (drop (n + 1) report))
    ∙ ap (λ l. out ++ l) (sym (ap (lines_from plan ls rows n) (drop_at report n row lt)
    ∙ ap (λ (x : ReportRow). ended (register_line plan ls rows (n / plan.rounds) (n % plan.rounds) x) ++ lines_from plan ls rows (n + 1) (drop (n + 1) report)) (sym is)))
    ∙ so_far

pub lines_end : (plan : PlanView) (ls : List Line) (rows : List SideRow) (n : ℕ) (report : List ReportRow) (out all : List ℕ) → length report ≤ n
    → out ++ lines_from plan ls rows n (drop n report) ≡ all → out ≡ all
unfolding lines_from
lines_end plan ls rows n report out all past so_far =
    sym (append-nil out) ∙ ap (λ (l : List ReportRow). out ++ lines_from plan ls rows n l) (sym (drop_end report n past)) ∙ so_far

-- ---- the survivors

filter_all : (p q : ℕ → Bool) (xs : List ℕ) → list_all p xs ≡ true → list_all p (filter q xs) ≡ true
filter_all p q [] h = refl
filter_all p q (x ∷ xs) h =
    let both = and_parts (p x) (list_all p xs) h in
    step (q x) both.0 (filter_all p q xs both.1)
  where
    step : (b : Bool) → p x ≡ true → list_all p (filter q xs) ≡ true → list_all p (if b then x ∷ filter q xs else filter q xs) ≡ true
    step true first rest = rw first rest
    step false first rest = rest

range_all : (p : ℕ → Bool) (a n : ℕ) → ((k : ℕ) → a ≤ k → k < a + n → p k ≡ true) → list_all p (range_with_len a n) ≡ true
range_all p a zero each = refl
range_all p a (suc n) each = rw (each a (omega arith) (omega arith)) (range_all p (a + 1) n (λ k low high. each k (omega (arith, low)) (omega (arith, high))))

-- the members that are not missing have places
pub survivors_places : (plan : PlanView) (g r : ℕ) (missing : List ℕ) → r < plan.rounds → IsTrue (list_all (is_place plan g r) (less (members plan.groups g r) missing))
survivors_places plan g r missing lt =
    filter_all (is_place plan g r) (λ j. not (is_member j missing)) (members plan.groups g r)
    (filter_all (is_place plan g r) (of_round plan.groups g r) (range_with_len 0 (size plan.groups g))
    (range_all (is_place plan g r) 0 (size plan.groups g) (λ k low high. and_from (nat_lt r plan.rounds) (nat_lt k (size plan.groups g)) (lt-ltb r plan.rounds lt) (lt-ltb k (size plan.groups g) (omega (arith, high))))))

-- ---- a line

no_total : (plan : PlanView) (ls : List Line) (rows : List SideRow) (g r : ℕ) (row : ReportRow) (outcome : RowOutcome) → ((x : ℕ) → outcome ≡ outcomes.Total x → ⊥) → further_totals plan ls rows g r row outcome ≡ []
no_total plan ls rows g r row (outcomes.Total x) none = absurd (none x refl)
no_total plan ls rows g r row outcomes.Lacking none = refl
no_total plan ls rows g r row outcomes.Thin none = refl
no_total plan ls rows g r row outcomes.Running none = refl

line_ends : (line totals out more next : List ℕ) → more ≡ (out ++ line) ++ totals → next ≡ more ++ 10 ∷ [] → next ≡ out ++ ((line ++ totals) ++ 10 ∷ [])
line_ends line totals out more next made ended_by =
    ended_by ∙ ap (λ (l : List ℕ). l ++ 10 ∷ []) (made ∙ append_assoc out line totals) ∙ append_assoc out (line ++ totals) (10 ∷ [])

-- the line of a row with totals
pub total_line : (plan : PlanView) (ls : List Line) (rows : List SideRow) (g r total : ℕ) (row : ReportRow) (survivors out text more next : List ℕ) → row.outcome ≡ outcomes.Total total
    → survivors ≡ less (members plan.groups g r) row.missing → text ≡ out ++ row_line row → more ≡ text ++ totals_text (map (side_total ls rows g r survivors) (range_with_len 0 (words_in rows)))
    → next ≡ more ++ 10 ∷ [] → next ≡ out ++ ended (register_line plan ls rows g r row)
total_line plan ls rows g r total row survivors out text more next is of_row begun added ended_by =
    line_ends (row_line row) (totals_text (further_totals plan ls rows g r row row.outcome)) out more next
    (added ∙ ap (λ (l : List ℕ). l ++ totals_text (map (side_total ls rows g r survivors) (range_with_len 0 (words_in rows)))) begun
    ∙ ap (λ (m : List ℕ). (out ++ row_line row) ++ totals_text (map (side_total ls rows g r m) (range_with_len 0 (words_in rows)))) of_row
    ∙ ap (λ (o : RowOutcome). (out ++ row_line row) ++ totals_text (further_totals plan ls rows g r row o)) (sym is)) ended_by

-- and the line of one without
pub other_line : (plan : PlanView) (ls : List Line) (rows : List SideRow) (g r : ℕ) (row : ReportRow) (out more next : List ℕ) → ((x : ℕ) → row.outcome ≡ outcomes.Total x → ⊥)
    → more ≡ out ++ row_line row → next ≡ more ++ 10 ∷ [] → next ≡ out ++ ended (register_line plan ls rows g r row)
other_line plan ls rows g r row out more next none begun ended_by =
    line_ends (row_line row) (totals_text (further_totals plan ls rows g r row row.outcome)) out more next
    (begun ∙ sym (append-nil (out ++ row_line row)) ∙ ap (λ (l : List ℕ). (out ++ row_line row) ++ totals_text l) (sym (no_total plan ls rows g r row row.outcome none))) ended_by
