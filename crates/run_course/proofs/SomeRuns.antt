-- A run is one whoever has a reading and whatever becomes of the frames.
use Rattle.std.proofs.Common.{◌≡◌, ◌≤◌, ◌+◌, ℕ, false, List, [], ◌∷◌, length, map, refl, sym, ap, ◌∙◌, arith, length-append, All}
use Rattle.std.specs.Prelude.{cond, Some, None}
use Rattle.std.specs.List.{count_by}
use Rattle.std.proofs.lemmas.List.{length-map}
use Rattle.std.proofs.lemmas.List.Elements.{All-nil, All-cons}
use Rattle.std.proofs.lemmas.List.Sums.{sum_by-cons}
use Rattle.group_plan.specs.declared.Tag.{Tag}
use Rattle.link_lanes.specs.declared.Post.{Post}
use Rattle.event_schedule.specs.declared.Entry.{Entry}
use Rattle.event_schedule.specs.declared.Line.{Line}
use Rattle.event_schedule.specs.declared.Line.TheVariants.{Send as SendLine, Take as TakeLine, Close as CloseLine, End as EndLine}
use Rattle.event_schedule.specs.Events.{event_of, lines_of}
use Rattle.run_rows.specs.Summary.{Summary, is_sending}
use Rattle.run_rows.specs.Ticks.{clock_of, posts_of, tags_of}
use Rattle.run_rows.proofs.SummaryLemmas.{summaries}
use Rattle.run_course.specs.Beginnings.{is_void_send, shape_where}
use Rattle.run_course.specs.Statements.{RunsAreInTime}

-- ---- each Send has a frame

posts_more : (e : Entry) (rest : List Entry) → length (posts_of (e ∷ rest)) ≡ length (tags_of (event_of e.line)) + length (posts_of rest)
posts_more e rest =
    let post : Tag → Post = λ tag. record { tick = e.tick; tag = tag; fate = e.fate } in
    length-append (map post (tags_of (event_of e.line))) (posts_of rest) ∙ ap (λ n. n + length (posts_of rest)) (length-map (tags_of (event_of e.line)) post)

one_less : (l : Line) (c p : ℕ) → c ≤ p → cond (is_sending l) 1 0 + c ≤ length (tags_of (event_of l)) + p
one_less (SendLine tag None) c p le = omega (arith, le)
one_less (SendLine tag (Some f)) c p le = omega (arith, le)
one_less (TakeLine tag v) c p le = omega (arith, le)
one_less (CloseLine g r a) c p le = omega (arith, le)
one_less (EndLine g r a) c p le = omega (arith, le)

one_framed : (l : Line) (c p : ℕ) → c ≤ p → cond (is_sending l) 1 0 + c ≡ length (tags_of (event_of l)) + p → (is_void_send l ≡ false) × (c ≡ p)
one_framed (SendLine tag None) c p le same = absurd (omega (arith, le, same))
one_framed (SendLine tag (Some f)) c p le same = (refl, omega (arith, same))
one_framed (TakeLine tag v) c p le same = (refl, omega (arith, same))
one_framed (CloseLine g r a) c p le same = (refl, omega (arith, same))
one_framed (EndLine g r a) c p le same = (refl, omega (arith, same))

count_more : (e : Entry) (rest : List Entry) → count_by is_sending (lines_of (e ∷ rest)) ≡ cond (is_sending e.line) 1 0 + count_by is_sending (lines_of rest)
count_more e rest = sum_by-cons (λ l. cond (is_sending l) 1 0) e.line (lines_of rest)

few_framed : (entries : List Entry) → count_by is_sending (lines_of entries) ≤ length (posts_of entries)
few_framed [] = omega arith
few_framed (e ∷ rest) =
    let here = one_less e.line (count_by is_sending (lines_of rest)) (length (posts_of rest)) (few_framed rest) in
    let count = count_more e rest in
    let posts = posts_more e rest in
    omega (arith, here, count, posts)

-- where as many Sends have a frame as there are posts, each has one
all_framed : (entries : List Entry) → count_by is_sending (lines_of entries) ≡ length (posts_of entries) → All (λ e. is_void_send e.line ≡ false) entries
all_framed [] same = All-nil (λ (e : Entry). is_void_send e.line ≡ false)
all_framed (e ∷ rest) same =
    let here = one_framed e.line (count_by is_sending (lines_of rest)) (length (posts_of rest)) (few_framed rest) (sym (count_more e rest) ∙ same ∙ posts_more e rest) in
    All-cons (λ (x : Entry). is_void_send x.line ≡ false) e rest here.0 (all_framed rest here.1)

-- ---- the run

pub runs_are_in_time : RunsAreInTime
runs_are_in_time plan present slots words entries can fates is =
    let counts = summaries (shape_where plan present) (clock_of plan) slots entries words can is.delays is.run in
    record {
      present = present;
      slots = slots;
      within = can;
      run = is.run;
      fates = fates;
      posted = all_framed entries (ap (count_by is_sending) is.lines ∙ ap (λ (s : Summary). s.sends) counts);
    }
