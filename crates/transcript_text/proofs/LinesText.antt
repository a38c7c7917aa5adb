-- The lines of entries, one after another.
use Rattle.std.proofs.Common.{◌≡◌, ◌<◌, ◌≤◌, ◌+◌, ℕ, List, [], ◌∷◌, ◌++◌, length, map, drop, drop-cons, get_or, codes, decimal, sym, ap, ◌∙◌, append_assoc, append-nil, length-append, add-one, arith}
use Rattle.std.proofs.lemmas.List.{drop_all}
use Rattle.group_plan.specs.Plans.{PlanView}
use Rattle.group_plan.specs.NewPlans.{stated}
use Rattle.event_schedule.specs.declared.Entry.{Entry}
use Rattle.transcript_text.specs.declared.version.Version.TheVariants.{Two}
use Rattle.transcript_text.specs.Spelling.{ended, entry_text, entries_text, start_text, groups_text, members_text, stated_spans, head_text}
use Rattle.transcript_text.specs.Writing.{lines_text, lines_from}

-- an entry's line, and the lines after it
line_at : (es : List Entry) (at : ℕ) (e : Entry) → at < length es → lines_from es at ≡ ended (entry_text Two (get_or es at e)) ++ lines_from es (at + 1)
line_at es at e lt =
    ap lines_text (drop-cons es at e lt) ∙ ap (λ n. ended (entry_text Two (get_or es at e)) ++ lines_text (drop n es)) (sym (add-one at))

-- one line more is written
pub line_written : (es : List Entry) (from at : ℕ) (e : Entry) (start before out : List ℕ) → at < length es → e ≡ get_or es at e
    → before ++ lines_from es at ≡ start ++ lines_from es from → out ≡ (before ++ entry_text Two e) ++ 10 ∷ [] → out ++ lines_from es (at + 1) ≡ start ++ lines_from es from
line_written es from at e start before out lt is so_far put =
    let line = entry_text Two e in
    ap (λ q. q ++ lines_from es (at + 1)) (put ∙ append_assoc before line (10 ∷ []))
    ∙ append_assoc before (ended line) (lines_from es (at + 1))
    ∙ ap (λ x. before ++ (ended (entry_text Two x) ++ lines_from es (at + 1))) is
    ∙ ap (λ q. before ++ q) (sym (line_at es at e lt)) ∙ so_far

-- behind the last entry no line is left
pub none_left : (es : List Entry) (at : ℕ) → length es ≤ at → lines_from es at ≡ []
none_left es at none = ap lines_text (drop_all at es none)

-- the lines of all entries and the `end` line are the text of entries
pub all_written : (es : List Entry) (at : ℕ) (start before out : List ℕ) → at ≡ length es → before ++ lines_from es at ≡ start ++ lines_from es 0
    → out ≡ before ++ ended (codes "end," ++ decimal at) → out ≡ start ++ entries_text Two 0 es
unfolding entries_text
all_written es at start before out is so_far put =
    let lines : before ≡ start ++ lines_text es = sym (append-nil before) ∙ ap (λ q. before ++ q) (sym (none_left es at (omega (arith, is)))) ∙ so_far in
    let number : at ≡ 0 + length es = omega (arith, is) in
    put ∙ ap (λ q. q ++ ended (codes "end," ++ decimal at)) lines ∙ append_assoc start (lines_text es) (ended (codes "end," ++ decimal at))
    ∙ ap (λ n. start ++ (lines_text es ++ ended (codes "end," ++ decimal n))) number

-- a head is not empty
pub head_some : (plan : PlanView) (start out : List ℕ) → out ≡ start ++ head_text Two plan → 0 < length out
unfolding head_text
head_some plan start out put =
    let front = start_text Two plan ++ groups_text (map stated plan.groups) ++ members_text (stated_spans plan) in
    let same = ap length put in
    let all = length-append start (front ++ ended (codes "begin")) in
    let last = length-append front (ended (codes "begin")) in
    omega (arith, same, all, last)

-- an `end` line is not empty
pub end_some : (n : ℕ) (start out : List ℕ) → out ≡ start ++ ended (codes "end," ++ decimal n) → 0 < length out
end_some n start out put =
    let same = ap length put in
    let all = length-append start (ended (codes "end," ++ decimal n)) in
    let last = length-append (codes "end," ++ decimal n) (10 ∷ []) in
    omega (arith, same, all, last)
