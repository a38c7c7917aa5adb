-- What a line does to what is kept of one round.
use Rattle.std.proofs.Common.{◌≡◌, ◌≢◌, ℕ, ◌+◌, ◌-◌, ◌^◌, Bool, true, false, not, ◌&&◌, ◌||◌, List, [], ◌∷◌, ◌++◌, length, refl, sym, ap, ◌∙◌, subst, arith, inl, inr, ◌⊎◌}
use Rattle.std.specs.Prelude.{◌==◌, nat_le, if◌then◌else◌, filter, Some, None, is_some}
use Rattle.std.specs.List.{sum_by, list_all}
use mathlib.Core.Path.{fun_ext}
use Rattle.std.proofs.Math.Bool.{and-true, and-false}
use Rattle.std.proofs.lemmas.Bool.{false≢true, or_left, or_right, and_parts, eq-eqb, false_from_ne_true}
use Rattle.std.proofs.lemmas.List.Sums.{sum_by-cons}
use Rattle.std.proofs.Math.Nat.{mod-mod}
use Rattle.missing_round.specs.Words.{word, minus}
use Rattle.missing_round.specs.Sets.{IsSet, is_member, joined, less}
use Rattle.missing_round.proofs.SetLemmas.{is_member-filter, joined-filter, less-filter, same_filter, sum_by-joined}
use Rattle.missing_round.proofs.WordLemmas.{word-word_add}
use Rattle.group_plan.specs.declared.Kind.{Kind}
use Rattle.group_plan.specs.declared.Kind.TheVariants.{Reading, Announcement, Answer}
use Rattle.group_plan.specs.declared.Tag.{Tag}
use Rattle.round_machine.specs.declared.Verdict.{Verdict}
use Rattle.round_machine.specs.declared.Verdict.TheVariants.{Fresh, Again, Late, Void}
use Rattle.round_machine.specs.declared.Closing.{Closing}
use Rattle.round_machine.specs.declared.Closing.TheVariants as closings
use Rattle.round_machine.specs.declared.Ending.{Ending}
use Rattle.round_machine.specs.declared.Ending.TheVariants as endings
use Rattle.round_machine.specs.Rounds.{RoundView, has_floor, Closes, Ends}
use Rattle.round_machine.specs.Rounds.{missing as missing_in, is_announced as round_announced, lacking as lacking_in, total as total_in}
use Rattle.event_schedule.specs.declared.Event.{Event}
use Rattle.event_schedule.specs.declared.Event.TheVariants.{Send, Take, Close, End}
use Rattle.event_schedule.specs.declared.Line.{Line}
use Rattle.event_schedule.specs.declared.Line.TheVariants.{Take as TakeLine, Close as CloseLine, End as EndLine}
use Rattle.event_schedule.specs.Events.{event_of, is_tag, same_kind, is_close, is_end}
use Rattle.event_schedule.specs.Schedule.{Shape, members_of, floor_of, is_sent, is_taken, is_late, is_closed, is_ended, survivors, missing, reaches_floor, is_announced, is_answer_taken, all_taken, is_opened, is_published, lacking, verdict, closing, Running, EndedThin, Published, Unpublished, outcome}
use Rattle.event_schedule.specs.Transcript.{ending}
use Rattle.event_schedule.specs.Frames.{first_word, word_or_zero, contents_of_lines}
use Rattle.event_schedule.specs.Journal.{past_of}
use Rattle.event_schedule.proofs.ScheduleLemmas.{once-cons, once-gives, is_closed-more, is_opened-from_taken, is_reading_taken-from_answer, is_answer_sent-from_taken}
use Rattle.event_schedule.proofs.ListLemmas.{and_last, list_all-from_filter}
use Rattle.event_schedule.proofs.VerdictLemmas.{verdict-table}
use Rattle.group_book.specs.declared.answers.OutcomeState.{OutcomeState}
use Rattle.group_book.specs.declared.answers.OutcomeState.TheVariants as states
use Rattle.group_book.specs.Pages.{PageView, taken_in, is_past, with_taken, PageTakes, announced_in, total_or_lacking, state_in}
use Rattle.group_book.specs.Books.{posted, state_of}
use Rattle.group_book.specs.Replay.{IsPage}
use Rattle.group_book.proofs.Tags.{everywhere, is_tag-in_round}
use Rattle.group_book.proofs.LineLemmas.{past_of-push, is_taken-cons, is_sent-from_taken, posted-stays, first_word-posted, first_word-stays}

-- ---- sums over the meters that were taken

sum_by-members : (f h : ℕ → ℕ) (xs : List ℕ) → ((i : ℕ) → is_member i xs ≡ true → f i ≡ h i) → sum_by f xs ≡ sum_by h xs
sum_by-members f h [] same = refl
sum_by-members f h (x ∷ xs) same =
    sum_by-cons f x xs
    ∙ ap (λ n. n + sum_by f xs) (same x (or_left (x == x) (is_member x xs) (eq-eqb x x refl)))
    ∙ ap (λ n. h x + n) (sum_by-members f h xs (λ i m. same i (or_right (x == i) (is_member i xs) m)))
    ∙ sym (sum_by-cons h x xs)

-- every frame that was sent is posted
abbrev pub AreFramed : Shape → ℕ → ℕ → List Line → Type 0
AreFramed s g r j = (i : ℕ) (k : Kind) → is_some (posted g r i k j) ≡ is_sent s k g r i (past_of j)

-- who is among the meters whose frame was taken
pub is_member-taken : (s : Shape) (g r i : ℕ) (k : Kind) (page : PageView) (j : List Line) → IsPage s g r page j
    → is_member i (taken_in k page) ≡ (is_member i (members_of s g r) && is_taken s k g r i (past_of j))
is_member-taken s g r i k page j is =
    ap (is_member i) (is.taken k) ∙ is_member-filter (λ i. is_taken s k g r i (past_of j)) i (members_of s g r)

posted_of_taken : (s : Shape) (g r i : ℕ) (k : Kind) (page : PageView) (j : List Line) → IsPage s g r page j → AreFramed s g r j
    → is_member i (taken_in k page) ≡ true → is_some (posted g r i k j) ≡ true
posted_of_taken s g r i k page j is framed m =
    framed i k ∙ is_sent-from_taken s k g r i (past_of j)
    (and_parts (is_member i (members_of s g r)) (is_taken s k g r i (past_of j)) (sym (is_member-taken s g r i k page j is) ∙ m)).1

sum-stays : (s : Shape) (g r : ℕ) (k : Kind) (page : PageView) (j : List Line) (l : Line) → IsPage s g r page j → AreFramed s g r j
    → sum_by (λ i. first_word g r i k (j ++ l ∷ [])) (taken_in k page) ≡ sum_by (λ i. first_word g r i k j) (taken_in k page)
sum-stays s g r k page j l is framed =
    sum_by-members (λ i. first_word g r i k (j ++ l ∷ [])) (λ i. first_word g r i k j) (taken_in k page)
    (λ i m. first_word-stays g r i k j l (posted_of_taken s g r i k page j is framed m))

-- ---- one line more

-- the meters whose frame was taken, after the line's event
abbrev TakenAfter : Shape → ℕ → ℕ → PageView → Event → List Event → Type 0
TakenAfter s g r page e p = (k : Kind) → taken_in k page ≡ filter (λ i. is_taken s k g r i (e ∷ p)) (members_of s g r)

-- the line's event neither closes nor ends the round, and takes nothing of it Fresh
pub record LeavesRound (s : Shape) (g r : ℕ) (e : Event) (p : List Event) : Type 0 where
  pub closes : is_close g r e ≡ false
  pub ends : is_end g r e ≡ false
  pub takes : (i : ℕ) (k : Kind) → is_taken s k g r i (e ∷ p) ≡ is_taken s k g r i p

-- what is kept of a round after a line that takes nothing of it Fresh
page_step : (s : Shape) (g r : ℕ) (page : PageView) (closed ended : Bool) (j : List Line) (l : Line) → IsPage s g r page j → AreFramed s g r j
    → closed ≡ (is_close g r (event_of l) || is_closed g r (past_of j))
    → ended ≡ ((is_end g r (event_of l) && is_closed g r (past_of j)) || is_ended g r (past_of j))
    → ((i : ℕ) (k : Kind) → is_taken s k g r i (event_of l ∷ past_of j) ≡ is_taken s k g r i (past_of j))
    → IsPage s g r (record page { round = record page.round { closed = closed; ended = ended } }) (j ++ l ∷ [])
page_step s g r page closed ended j l is framed closes ends takes = record {
  members = is.members;
  floor = is.floor;
  closed = closes ∙ sym (once-cons _ (event_of l) (past_of j)) ∙ ap (is_closed g r) (sym (past_of-push j l));
  ended = ends ∙ sym (once-cons _ (event_of l) (past_of j)) ∙ ap (is_ended g r) (sym (past_of-push j l));
  taken = λ k. same k ∙ is.taken k
      ∙ ap (λ t. filter t (members_of s g r)) (fun_ext (λ i. sym (takes i k)))
      ∙ ap (λ p. filter (λ i. is_taken s k g r i p) (members_of s g r)) (sym (past_of-push j l));
  readings = is.readings ∙ ap word (sym (sum-stays s g r Reading page j l is framed));
  answers = is.answers ∙ ap word (sym (sum-stays s g r Answer page j l is framed));
}
  where
    same : (k : Kind) → taken_in k (record page { round = record page.round { closed = closed; ended = ended } }) ≡ taken_in k page
    same Reading = refl
    same Announcement = refl
    same Answer = refl

pub page_still : (s : Shape) (g r : ℕ) (page : PageView) (j : List Line) (l : Line) → IsPage s g r page j → AreFramed s g r j
    → LeavesRound s g r (event_of l) (past_of j) → IsPage s g r page (j ++ l ∷ [])
page_still s g r page j l is framed leaves =
    page_step s g r page page.round.closed page.round.ended j l is framed
    (is.closed ∙ ap (λ b. b || is_closed g r (past_of j)) (sym leaves.closes))
    (is.ended ∙ ap (λ b. (b && is_closed g r (past_of j)) || is_ended g r (past_of j)) (sym leaves.ends))
    leaves.takes

-- a Send takes, closes and ends nothing
pub send_leaves : (s : Shape) (g r : ℕ) (tag : Tag) (p : List Event) → LeavesRound s g r (Send tag) p
send_leaves s g r tag p = record { closes = refl; ends = refl; takes = λ i k. is_taken-cons s k g r i (Send tag) p }

-- ---- Takes

-- whether a Take of the tag is Fresh: it was sent, comes in time, and wasn't taken
abbrev pub is_fresh_take : Shape → Tag → List Event → Bool
is_fresh_take s tag p =
    is_sent s tag.kind tag.group tag.round tag.meter p && not (is_late tag.kind tag.group tag.round p) && not (is_taken s tag.kind tag.group tag.round tag.meter p)

pub stale_leaves : (s : Shape) (tag : Tag) (p : List Event) → is_fresh_take s tag p ≡ false → (g r : ℕ) → LeavesRound s g r (Take tag) p
stale_leaves s tag p stale g r = record {
  closes = refl;
  ends = refl;
  takes = everywhere tag (λ g r i k. is_taken s k g r i (Take tag ∷ p) ≡ is_taken s k g r i p)
      (is_taken-cons s tag.kind tag.group tag.round tag.meter (Take tag) p
      ∙ cases (is_tag tag.group tag.round tag.meter tag.kind tag) (is_sent s tag.kind tag.group tag.round tag.meter p) (is_late tag.kind tag.group tag.round p) (is_taken s tag.kind tag.group tag.round tag.meter p) stale)
      (λ g r i k differs. is_taken-cons s k g r i (Take tag) p ∙ ap (λ q. (q && is_sent s k g r i p && not (is_late k g r p)) || is_taken s k g r i p) differs) g r;
}
  where
    cases : (q sent late taken : Bool) → (sent && not late && not taken) ≡ false → ((q && sent && not late) || taken) ≡ taken
    cases true true true taken h = refl
    cases true true false true h = refl
    cases true true false false h = absurd (false≢true (sym h))
    cases true false late taken h = refl
    cases false sent late taken h = refl

-- a Fresh Take marks its tag
is_taken-fresh : (s : Shape) (tag : Tag) (p : List Event) → is_sent s tag.kind tag.group tag.round tag.meter p ≡ true → is_late tag.kind tag.group tag.round p ≡ false
    → (g r i : ℕ) (k : Kind) → is_taken s k g r i (Take tag ∷ p) ≡ (is_tag g r i k tag || is_taken s k g r i p)
is_taken-fresh s tag p sent in_time =
    everywhere tag (λ g r i k. is_taken s k g r i (Take tag ∷ p) ≡ (is_tag g r i k tag || is_taken s k g r i p))
    (is_taken-cons s tag.kind tag.group tag.round tag.meter (Take tag) p
    ∙ cases (is_tag tag.group tag.round tag.meter tag.kind tag) (is_sent s tag.kind tag.group tag.round tag.meter p) (is_late tag.kind tag.group tag.round p) (is_taken s tag.kind tag.group tag.round tag.meter p) sent in_time)
    (λ g r i k differs. is_taken-cons s k g r i (Take tag) p ∙ ap (λ q. (q && is_sent s k g r i p && not (is_late k g r p)) || is_taken s k g r i p) differs ∙ ap (λ q. q || is_taken s k g r i p) (sym differs))
  where
    cases : (q sent late taken : Bool) → sent ≡ true → late ≡ false → ((q && sent && not late) || taken) ≡ (q || taken)
    cases true sent late taken h n = rw (h, n) refl
    cases false sent late taken h n = refl

-- the other rounds
pub fresh_leaves : (s : Shape) (tag : Tag) (p : List Event) → is_sent s tag.kind tag.group tag.round tag.meter p ≡ true → is_late tag.kind tag.group tag.round p ≡ false
    → (g r : ℕ) → ((tag.group == g) && (tag.round == r)) ≡ false → LeavesRound s g r (Take tag) p
fresh_leaves s tag p sent in_time g r other = record {
  closes = refl;
  ends = refl;
  takes = λ i k. is_taken-fresh s tag p sent in_time g r i k ∙ ap (λ b. (b && (tag.meter == i) && same_kind tag.kind k) || is_taken s k g r i p) other;
}

taken_in-with : (k m : Kind) (i w : ℕ) (page : PageView) → taken_in m (with_taken k i w page) ≡ (if same_kind k m then joined i (taken_in m page) else taken_in m page)
taken_in-with Reading Reading i w page = refl
taken_in-with Reading Announcement i w page = refl
taken_in-with Reading Answer i w page = refl
taken_in-with Announcement Reading i w page = refl
taken_in-with Announcement Announcement i w page = refl
taken_in-with Announcement Answer i w page = refl
taken_in-with Answer Reading i w page = refl
taken_in-with Answer Announcement i w page = refl
taken_in-with Answer Answer i w page = refl

-- how a set grows where its kind is that of the tag
grows : (q : Bool) (i : ℕ) (t u : ℕ → Bool) (ms xs : List ℕ) → IsSet ms → is_member i ms ≡ true → xs ≡ filter t ms → ((n : ℕ) → u n ≡ (((i == n) && q) || t n))
    → (if q then joined i xs else xs) ≡ filter u ms
grows true i t u ms xs set m is marks =
    ap (joined i) is ∙ joined-filter t i ms set m
    ∙ ap (λ f. filter f ms) (fun_ext (λ n. ap (λ b. b || t n) (sym (and-true (i == n))) ∙ sym (marks n)))
grows false i t u ms xs set m is marks =
    is ∙ ap (λ f. filter f ms) (fun_ext (λ n. ap (λ b. b || t n) (sym (and-false (i == n))) ∙ sym (marks n)))

-- the sum of the words, with one word more
sum-joined : (g r i : ℕ) (k : Kind) (j : List Line) (l : Line) (xs : List ℕ) (sum w : ℕ) → ((n : ℕ) → first_word g r n k (j ++ l ∷ []) ≡ first_word g r n k j)
    → is_member i xs ≡ false → w ≡ first_word g r i k j → sum ≡ word (sum_by (λ n. first_word g r n k j) xs)
    → word (sum + w) ≡ word (sum_by (λ n. first_word g r n k (j ++ l ∷ [])) (joined i xs))
sum-joined g r i k j l xs sum w same new w_is sum_is =
    let f : ℕ → ℕ = λ n. first_word g r n k j in
    let swapped : sum_by f xs + f i ≡ f i + sum_by f xs = omega arith in
    ap (λ n. word (n + w)) sum_is ∙ word-word_add (sum_by f xs) w
    ∙ ap (λ n. word (sum_by f xs + n)) w_is ∙ ap word swapped
    ∙ ap word (sym (sum_by-joined i xs f new))
    ∙ ap (λ h. word (sum_by h (joined i xs))) (fun_ext (λ n. sym (same n)))

-- what is kept of the round of a Fresh Take
pub page_fresh : (s : Shape) (tag : Tag) (v : Verdict) (w : ℕ) (page : PageView) (j : List Line) → IsPage s tag.group tag.round page j → AreFramed s tag.group tag.round j
    → IsSet (members_of s tag.group tag.round) → is_member tag.meter (members_of s tag.group tag.round) ≡ true
    → is_sent s tag.kind tag.group tag.round tag.meter (past_of j) ≡ true → is_late tag.kind tag.group tag.round (past_of j) ≡ false
    → is_member tag.meter (taken_in tag.kind page) ≡ false → w ≡ first_word tag.group tag.round tag.meter tag.kind j
    → IsPage s tag.group tag.round (with_taken tag.kind tag.meter w page) (j ++ TakeLine tag v ∷ [])
page_fresh s tag v w page j is framed set m sent in_time new w_is = by_kind tag.kind marks new w_is
  where
    g : ℕ
    g = tag.group

    r : ℕ
    r = tag.round

    l : Line
    l = TakeLine tag v

    i : ℕ
    i = tag.meter

    p : List Event
    p = past_of j

    marks : (n : ℕ) (k : Kind) → is_taken s k g r n (Take tag ∷ p) ≡ (((i == n) && same_kind tag.kind k) || is_taken s k g r n p)
    marks n k = is_taken-fresh s tag p sent in_time g r n k ∙ ap (λ b. b || is_taken s k g r n p) (is_tag-in_round tag n k)

    no_word : (n : ℕ) (k : Kind) → first_word g r n k (j ++ l ∷ []) ≡ first_word g r n k j
    no_word n k = first_word-posted g r n k (j ++ l ∷ []) ∙ ap word_or_zero (posted-stays g r n k j l refl) ∙ sym (first_word-posted g r n k j)

    closed : page.round.closed ≡ is_closed g r (past_of (j ++ l ∷ []))
    closed = is.closed ∙ sym (once-cons _ (Take tag) p) ∙ ap (is_closed g r) (sym (past_of-push j l))

    ended : page.round.ended ≡ is_ended g r (past_of (j ++ l ∷ []))
    ended = is.ended ∙ sym (once-cons _ (Take tag) p) ∙ ap (is_ended g r) (sym (past_of-push j l))

    taken : (k : Kind) → ((n : ℕ) (h : Kind) → is_taken s h g r n (Take tag ∷ p) ≡ (((i == n) && same_kind k h) || is_taken s h g r n p))
        → (h : Kind) → taken_in h (with_taken k i w page) ≡ filter (λ n. is_taken s h g r n (past_of (j ++ l ∷ []))) (members_of s g r)
    taken k marks_k h =
        taken_in-with k h i w page
        ∙ grows (same_kind k h) i (λ n. is_taken s h g r n p) (λ n. is_taken s h g r n (Take tag ∷ p)) (members_of s g r) (taken_in h page) set m (is.taken h) (λ n. marks_k n h)
        ∙ ap (λ q. filter (λ n. is_taken s h g r n q) (members_of s g r)) (sym (past_of-push j l))

    by_kind : (k : Kind) → ((n : ℕ) (h : Kind) → is_taken s h g r n (Take tag ∷ p) ≡ (((i == n) && same_kind k h) || is_taken s h g r n p))
        → is_member i (taken_in k page) ≡ false → w ≡ first_word g r i k j → IsPage s g r (with_taken k i w page) (j ++ l ∷ [])
    by_kind Reading marks_k new_k w_k = record {
      members = is.members;
      floor = is.floor;
      closed = closed;
      ended = ended;
      taken = taken Reading marks_k;
      readings = sum-joined g r i Reading j l page.round.taken page.round.reading_sum w (λ n. no_word n Reading) new_k w_k is.readings;
      answers = is.answers ∙ ap word (sym (sum-stays s g r Answer page j l is framed));
    }
    by_kind Announcement marks_k new_k w_k = record {
      members = is.members;
      floor = is.floor;
      closed = closed;
      ended = ended;
      taken = taken Announcement marks_k;
      readings = is.readings ∙ ap word (sym (sum-stays s g r Reading page j l is framed));
      answers = is.answers ∙ ap word (sym (sum-stays s g r Answer page j l is framed));
    }
    by_kind Answer marks_k new_k w_k = record {
      members = is.members;
      floor = is.floor;
      closed = closed;
      ended = ended;
      taken = taken Answer marks_k;
      readings = is.readings ∙ ap word (sym (sum-stays s g r Reading page j l is framed));
      answers = sum-joined g r i Answer j l page.round.answered page.round.answer_sum w (λ n. no_word n Answer) new_k w_k is.answers;
    }

-- what a Take of a frame that was sent says, and what it leaves
pub record Took (s : Shape) (tag : Tag) (v : Verdict) (new : PageView) (j : List Line) : Type 0 where
  pub verdict : v ≡ verdict s tag.kind tag.group tag.round tag.meter (past_of j)
  pub page : IsPage s tag.group tag.round new (j ++ TakeLine tag v ∷ [])
  pub others : (g r : ℕ) → ((tag.group == g) && (tag.round == r)) ≡ false → LeavesRound s g r (Take tag) (past_of j)

is_past-late : (s : Shape) (g r : ℕ) (k : Kind) (page : PageView) (j : List Line) → IsPage s g r page j → is_past k page ≡ is_late k g r (past_of j)
is_past-late s g r Reading page j is = is.closed
is_past-late s g r Announcement page j is = refl
is_past-late s g r Answer page j is = is.ended

verdict_by : (s : Shape) (tag : Tag) (p : List Event) (taken late : Bool) → is_sent s tag.kind tag.group tag.round tag.meter p ≡ true
    → is_taken s tag.kind tag.group tag.round tag.meter p ≡ taken → is_late tag.kind tag.group tag.round p ≡ late
    → verdict s tag.kind tag.group tag.round tag.meter p ≡ (if taken then Again else if late then Late else Fresh)
verdict_by s tag p taken late sent is_t is_l =
    verdict-table s tag.kind tag.group tag.round tag.meter p
    ∙ ap (λ b. if not b then Void else if is_taken s tag.kind tag.group tag.round tag.meter p then Again else if is_late tag.kind tag.group tag.round p then Late else Fresh) sent
    ∙ ap (λ b. if b then Again else if is_late tag.kind tag.group tag.round p then Late else Fresh) is_t
    ∙ ap (λ b. if taken then Again else if b then Late else Fresh) is_l

stale_by : (sent late taken : Bool) → (late ≡ true) ⊎ (taken ≡ true) → (sent && not late && not taken) ≡ false
stale_by true true taken h = refl
stale_by true false true h = refl
stale_by true false false (inl h) = absurd (false≢true h)
stale_by true false false (inr h) = absurd (false≢true h)
stale_by false late taken h = refl

pub page_takes : (s : Shape) (tag : Tag) (v : Verdict) (w : ℕ) (page new : PageView) (j : List Line) → IsPage s tag.group tag.round page j
    → ((g r : ℕ) → AreFramed s g r j) → IsSet (members_of s tag.group tag.round) → is_member tag.meter (members_of s tag.group tag.round) ≡ true
    → is_sent s tag.kind tag.group tag.round tag.meter (past_of j) ≡ true → w ≡ first_word tag.group tag.round tag.meter tag.kind j
    → PageTakes page tag.kind tag.meter w v new → Took s tag v new j
page_takes s tag v w page new j is framed set m sent w_is takes = by_verdict v takes
  where
    p : List Event
    p = past_of j

    here : is_member tag.meter (taken_in tag.kind page) ≡ is_taken s tag.kind tag.group tag.round tag.meter p
    here = is_member-taken s tag.group tag.round tag.meter tag.kind page j is ∙ ap (λ b. b && is_taken s tag.kind tag.group tag.round tag.meter p) m

    late : is_past tag.kind page ≡ is_late tag.kind tag.group tag.round p
    late = is_past-late s tag.group tag.round tag.kind page j is

    stale : (u : Verdict) → (is_late tag.kind tag.group tag.round p ≡ true) ⊎ (is_taken s tag.kind tag.group tag.round tag.meter p ≡ true)
        → u ≡ verdict s tag.kind tag.group tag.round tag.meter p → new ≡ page → Took s tag u new j
    stale u why u_is same =
        let not_fresh : is_fresh_take s tag p ≡ false = stale_by (is_sent s tag.kind tag.group tag.round tag.meter p) (is_late tag.kind tag.group tag.round p) (is_taken s tag.kind tag.group tag.round tag.meter p) why in
        record {
          verdict = u_is;
          page = subst (λ x. IsPage s tag.group tag.round x (j ++ TakeLine tag u ∷ [])) (sym same)
              (page_still s tag.group tag.round page j (TakeLine tag u) is (framed tag.group tag.round) (stale_leaves s tag p not_fresh tag.group tag.round));
          others = λ g r _. stale_leaves s tag p not_fresh g r;
        }

    by_verdict : (u : Verdict) → PageTakes page tag.kind tag.meter w u new → Took s tag u new j
    by_verdict Again t =
        stale Again (inr (sym here ∙ t.0)) (sym (verdict_by s tag p true (is_late tag.kind tag.group tag.round p) sent (sym here ∙ t.0) refl)) t.1
    by_verdict Late t =
        stale Late (inl (sym late ∙ t.1)) (sym (verdict_by s tag p false true sent (sym here ∙ t.0) (sym late ∙ t.1))) t.2
    by_verdict Fresh t = record {
      verdict = sym (verdict_by s tag p false false sent (sym here ∙ t.0) (sym late ∙ t.1));
      page = subst (λ x. IsPage s tag.group tag.round x (j ++ TakeLine tag Fresh ∷ [])) (sym t.2)
          (page_fresh s tag Fresh w page j is (framed tag.group tag.round) set m sent (sym late ∙ t.1) t.0 w_is);
      others = fresh_leaves s tag p sent (sym late ∙ t.1);
    }
    by_verdict Void t = absurd t

-- ---- a Close

-- a Close leaves the other rounds
pub close_leaves : (s : Shape) (a b : ℕ) (p : List Event) (g r : ℕ) → ((a == g) && (b == r)) ≡ false → LeavesRound s g r (Close a b) p
close_leaves s a b p g r other = record { closes = other; ends = refl; takes = λ i k. is_taken-cons s k g r i (Close a b) p }

this_round : (g r : ℕ) → ((g == g) && (r == r)) ≡ true
this_round g r = rw (eq-eqb g g refl, eq-eqb r r refl) refl

round_closed : (round after : RoundView) (c : Closing) → Closes round c after → after ≡ record round { closed = true }
round_closed round after closings.Already h = h.1 ∙ ap (λ b. record round { closed = b }) h.0
round_closed round after (closings.Thin set) h = h.3
round_closed round after (closings.Announced set) h = h.3

pub page_closed : (s : Shape) (g r : ℕ) (c v : Closing) (page new : PageView) (j : List Line) → IsPage s g r page j → AreFramed s g r j
    → Closes page.round c new.round → new.told ≡ page.told → IsPage s g r new (j ++ CloseLine g r v ∷ [])
page_closed s g r c v page new j is framed closes told =
    let after : record page { round = record page.round { closed = true } } ≡ new = λ k. record { round = sym (round_closed page.round new.round c closes) k; told = sym told k } in
    subst (λ x. IsPage s g r x (j ++ CloseLine g r v ∷ [])) after
    (page_step s g r page true page.round.ended j (CloseLine g r v) is framed
    (sym (ap (λ b. b || is_closed g r (past_of j)) (this_round g r))) is.ended (λ i k. is_taken-cons s k g r i (Close g r) (past_of j)))

-- ---- what a round says

has_floor-is : (s : Shape) (g r : ℕ) (page : PageView) (j : List Line) → IsPage s g r page j → has_floor page.round ≡ reaches_floor s g r (past_of j)
has_floor-is s g r page j is = ap (λ f. nat_le f (length page.round.taken)) is.floor ∙ ap (λ xs. nat_le (floor_of s g) (length xs)) (is.taken Reading)

missing-is : (s : Shape) (g r : ℕ) (page : PageView) (j : List Line) → IsPage s g r page j → missing_in page.round ≡ missing s g r (past_of j)
missing-is s g r page j is =
    ap (λ ms. less ms page.round.taken) is.members ∙ ap (less (members_of s g r)) (is.taken Reading)
    ∙ less-filter (λ i. is_taken s Reading g r i (past_of j)) (members_of s g r)

pub closing-is : (s : Shape) (g r : ℕ) (c : Closing) (page new : PageView) (j : List Line) → IsPage s g r page j → Closes page.round c new.round → c ≡ closing s g r (past_of j)
closing-is s g r closings.Already page new j is h =
    sym (ap (λ b. if b then closings.Already else if reaches_floor s g r (past_of j) then closings.Announced (missing s g r (past_of j)) else closings.Thin (missing s g r (past_of j))) (sym is.closed ∙ h.0))
closing-is s g r (closings.Thin set) page new j is h =
    ap closings.Thin (h.2 ∙ missing-is s g r page j is)
    ∙ sym (cases (is_closed g r (past_of j)) (reaches_floor s g r (past_of j)) (sym is.closed ∙ h.0) (sym (has_floor-is s g r page j is) ∙ h.1))
  where
    cases : (closed floor : Bool) → closed ≡ false → floor ≡ false
        → (if closed then closings.Already else if floor then closings.Announced (missing s g r (past_of j)) else closings.Thin (missing s g r (past_of j))) ≡ closings.Thin (missing s g r (past_of j))
    cases closed floor c f = rw (c, f) refl
closing-is s g r (closings.Announced set) page new j is h =
    ap closings.Announced (h.2 ∙ missing-is s g r page j is)
    ∙ sym (cases (is_closed g r (past_of j)) (reaches_floor s g r (past_of j)) (sym is.closed ∙ h.0) (sym (has_floor-is s g r page j is) ∙ h.1))
  where
    cases : (closed floor : Bool) → closed ≡ false → floor ≡ true
        → (if closed then closings.Already else if floor then closings.Announced (missing s g r (past_of j)) else closings.Thin (missing s g r (past_of j))) ≡ closings.Announced (missing s g r (past_of j))
    cases closed floor c f = rw (c, f) refl

pub is_announced-is : (s : Shape) (g r : ℕ) (page : PageView) (j : List Line) → IsPage s g r page j → round_announced page.round ≡ is_announced s g r (past_of j)
is_announced-is s g r page j is = ap (λ b. b && has_floor page.round) is.closed ∙ ap (λ b. is_closed g r (past_of j) && b) (has_floor-is s g r page j is)

-- the missing set, where it was announced
pub announced-is : (s : Shape) (g r : ℕ) (page : PageView) (j : List Line) → IsPage s g r page j
    → announced_in page.round ≡ (if is_announced s g r (past_of j) then Some (missing s g r (past_of j)) else None)
announced-is s g r page j is =
    ap (λ b. if b then Some (missing_in page.round) else None) (is_announced-is s g r page j is)
    ∙ ap (λ ms. if is_announced s g r (past_of j) then Some ms else None) (missing-is s g r page j is)

-- ---- an End

-- an End leaves the other rounds
pub end_leaves : (s : Shape) (a b : ℕ) (p : List Event) (g r : ℕ) → ((a == g) && (b == r)) ≡ false → LeavesRound s g r (End a b) p
end_leaves s a b p g r other = record { closes = refl; ends = other; takes = λ i k. is_taken-cons s k g r i (End a b) p }

round_ended : (round after : RoundView) (e : Ending) → Ends round e after → after ≡ record round { ended = round.closed || round.ended }
round_ended round after endings.NotClosed h = h.1 ∙ ap (λ b. record round { ended = b || round.ended }) (sym h.0)
round_ended round after endings.Already h = h.2 ∙ ap (λ b. record round { ended = b }) (h.1 ∙ sym (ap (λ b. b || round.ended) h.0))
round_ended round after endings.Thin h = h.3 ∙ ap (λ b. record round { ended = b }) (sym (ap (λ b. b || round.ended) h.0))
round_ended round after (endings.Lacking set) h = h.4 ∙ ap (λ b. record round { ended = b }) (sym (ap (λ b. b || round.ended) (and_parts round.closed (has_floor round) h.0).0))
round_ended round after (endings.Total sum) h = h.4 ∙ ap (λ b. record round { ended = b }) (sym (ap (λ b. b || round.ended) (and_parts round.closed (has_floor round) h.0).0))

pub page_ended : (s : Shape) (g r : ℕ) (e v : Ending) (page new : PageView) (j : List Line) → IsPage s g r page j → AreFramed s g r j
    → Ends page.round e new.round → new.told ≡ page.told → IsPage s g r new (j ++ EndLine g r v ∷ [])
page_ended s g r e v page new j is framed ends told =
    let after : record page { round = record page.round { ended = page.round.closed || page.round.ended } } ≡ new = λ k. record { round = sym (round_ended page.round new.round e ends) k; told = sym told k } in
    subst (λ x. IsPage s g r x (j ++ EndLine g r v ∷ [])) after
    (page_step s g r page page.round.closed (page.round.closed || page.round.ended) j (EndLine g r v) is framed is.closed
    (ap (λ b. b || page.round.ended) is.closed ∙ ap (λ b. is_closed g r (past_of j) || b) is.ended
    ∙ sym (ap (λ b. (b && is_closed g r (past_of j)) || is_ended g r (past_of j)) (this_round g r)))
    (λ i k. is_taken-cons s k g r i (End g r) (past_of j)))

-- ---- what a round comes to

lacking-is : (s : Shape) (g r : ℕ) (page : PageView) (j : List Line) → IsPage s g r page j → lacking_in page.round ≡ lacking s g r (past_of j)
lacking-is s g r page j is =
    let t : ℕ → Bool = λ i. is_taken s Reading g r i (past_of j) in
    let a : ℕ → Bool = λ i. is_taken s Answer g r i (past_of j) in
    ap (λ xs. less xs page.round.answered) (is.taken Reading) ∙ ap (less (filter t (members_of s g r))) (is.taken Answer)
    ∙ same_filter (λ i. not (is_member i (filter a (members_of s g r)))) (λ i. not (a i)) (filter t (members_of s g r))
    (λ i m. ap not (is_member-filter a i (members_of s g r)
    ∙ ap (λ b. b && a i) (and_parts (is_member i (members_of s g r)) (t i) (sym (is_member-filter t i (members_of s g r)) ∙ m)).0))

-- where no answer is lacking, every survivor's was taken
taken_by_all : (s : Shape) (g r : ℕ) (p : List Event) → lacking s g r p ≡ [] → (i : ℕ) → is_member i (members_of s g r) ≡ true → is_taken s Answer g r i p ≡ is_taken s Reading g r i p
taken_by_all s g r p none i m = cases (is_taken s Answer g r i p) (is_taken s Reading g r i p) (λ h. is_reading_taken-from_answer s g r i p (is_answer_sent-from_taken s g r i p h)) here
  where
    here : (is_taken s Reading g r i p && not (is_taken s Answer g r i p)) ≡ false
    here =
        sym (ap (λ b. (b && is_taken s Reading g r i p) && not (is_taken s Answer g r i p)) m)
        ∙ sym (ap (λ b. b && not (is_taken s Answer g r i p)) (is_member-filter (λ n. is_taken s Reading g r n p) i (members_of s g r)))
        ∙ sym (is_member-filter (λ n. not (is_taken s Answer g r n p)) i (survivors s g r p))
        ∙ ap (is_member i) none

    cases : (a t : Bool) → (a ≡ true → t ≡ true) → (t && not a) ≡ false → a ≡ t
    cases true t up h = sym (up refl)
    cases false true up h = absurd (false≢true (sym h))
    cases false false up h = refl

word-minus_word : (a b : ℕ) → word (word a + minus (word b)) ≡ word (a + minus b)
word-minus_word a b = word-word_add a (minus (word b)) ∙ ap (λ n. word (a + (2 ^ 64 - n))) (mod-mod b (2 ^ 64))

-- where no answer is lacking, the two sums are the frame total over the survivors
pub total-is : (s : Shape) (g r : ℕ) (page : PageView) (j : List Line) → IsPage s g r page j → lacking_in page.round ≡ []
    → total_in page.round ≡ (contents_of_lines j).total g r (survivors s g r (past_of j))
total-is s g r page j is none =
    let answered : page.round.answered ≡ survivors s g r (past_of j)
    = is.taken Answer ∙ same_filter (λ i. is_taken s Answer g r i (past_of j)) (λ i. is_taken s Reading g r i (past_of j)) (members_of s g r)
    (taken_by_all s g r (past_of j) (sym (lacking-is s g r page j is) ∙ none)) in
    ap (λ n. word (n + minus page.round.answer_sum)) is.readings ∙ ap (λ n. word (word (sum_by (λ i. first_word g r i Reading j) page.round.taken) + minus n)) is.answers
    ∙ word-minus_word (sum_by (λ i. first_word g r i Reading j) page.round.taken) (sum_by (λ i. first_word g r i Answer j) page.round.answered)
    ∙ ap (λ xs. word (sum_by (λ i. first_word g r i Reading j) xs + minus (sum_by (λ i. first_word g r i Answer j) page.round.answered))) (is.taken Reading)
    ∙ ap (λ xs. word (sum_by (λ i. first_word g r i Reading j) (survivors s g r (past_of j)) + minus (sum_by (λ i. first_word g r i Answer j) xs))) answered

all_none : (b : ℕ → Bool) (xs : List ℕ) → list_all b xs ≡ true → filter (λ k. not (b k)) xs ≡ []
all_none b [] h = refl
all_none b (x ∷ xs) h =
    let both = and_parts (b x) (list_all b xs) h in
    ap (λ q. if not q then x ∷ filter (λ k. not (b k)) xs else filter (λ k. not (b k)) xs) both.0 ∙ all_none b xs both.1

-- an answer is lacking
not_all : (s : Shape) (g r : ℕ) (p : List Event) → lacking s g r p ≢ [] → all_taken s g r p ≡ false
not_all s g r p some = false_from_ne_true (all_taken s g r p) (λ all. some (all_none (λ i. is_answer_taken s g r i p) (survivors s g r p) all))

all_by : (s : Shape) (g r : ℕ) (p : List Event) → lacking s g r p ≡ [] → all_taken s g r p ≡ true
all_by s g r p none = list_all-from_filter (λ i. is_answer_taken s g r i p) (survivors s g r p) none

-- what an End says, by what the round has come to
said : Bool → Bool → Bool → Bool → ℕ → List ℕ → Ending
said closed ended announced taken sum set =
    if not closed then endings.NotClosed else if ended then endings.Already else if not announced then endings.Thin else if taken then endings.Total sum else endings.Lacking set

pub ending-is : (s : Shape) (g r : ℕ) (e : Ending) (page new : PageView) (j : List Line) → IsPage s g r page j → Ends page.round e new.round → e ≡ ending s (contents_of_lines j) g r (past_of j)
unfolding said
ending-is s g r e page new j is ends = by_ending e ends
  where
    p : List Event
    p = past_of j

    sum : ℕ
    sum = (contents_of_lines j).total g r (survivors s g r p)

    line : Bool → Bool → Bool → Bool → Ending
    line closed ended announced taken = said closed ended announced taken sum (lacking s g r p)

    opened : is_announced s g r p ≡ true → is_ended g r p ≡ false → line (is_closed g r p) (is_ended g r p) (is_announced s g r p) (all_taken s g r p) ≡ line true false true (all_taken s g r p)
    opened announced ended =
        ap (λ b. line b (is_ended g r p) (is_announced s g r p) (all_taken s g r p)) (and_parts (is_closed g r p) (reaches_floor s g r p) announced).0
        ∙ ap (λ b. line true b (is_announced s g r p) (all_taken s g r p)) ended
        ∙ ap (λ b. line true false b (all_taken s g r p)) announced

    by_ending : (f : Ending) → Ends page.round f new.round → f ≡ ending s (contents_of_lines j) g r p
    by_ending endings.NotClosed h =
        sym (ap (λ b. line b (is_ended g r p) (is_announced s g r p) (all_taken s g r p)) (sym is.closed ∙ h.0))
    by_ending endings.Already h =
        sym (ap (λ b. line b (is_ended g r p) (is_announced s g r p) (all_taken s g r p)) (sym is.closed ∙ h.0)
        ∙ ap (λ b. line true b (is_announced s g r p) (all_taken s g r p)) (sym is.ended ∙ h.1))
    by_ending endings.Thin h =
        sym (ap (λ b. line b (is_ended g r p) (is_announced s g r p) (all_taken s g r p)) (sym is.closed ∙ h.0)
        ∙ ap (λ b. line true b (is_announced s g r p) (all_taken s g r p)) (sym is.ended ∙ h.1)
        ∙ ap (λ b. line true false b (all_taken s g r p)) (sym (is_announced-is s g r page j is) ∙ ap (λ b. page.round.closed && b) h.2 ∙ and-false page.round.closed))
    by_ending (endings.Lacking set) h =
        let lacks : set ≡ lacking s g r p = h.2 ∙ lacking-is s g r page j is in
        ap endings.Lacking lacks
        ∙ sym (opened (sym (is_announced-is s g r page j is) ∙ h.0) (sym is.ended ∙ h.1)
        ∙ ap (line true false true) (not_all s g r p (λ none. h.3 (lacks ∙ none))))
    by_ending (endings.Total n) h =
        ap endings.Total (h.3 ∙ total-is s g r page j is h.2)
        ∙ sym (opened (sym (is_announced-is s g r page j is) ∙ h.0) (sym is.ended ∙ h.1)
        ∙ ap (line true false true) (all_by s g r p (sym (lacking-is s g r page j is) ∙ h.2)))

is_closed-from_ended : (g r : ℕ) (p : List Event) → is_ended g r p ≡ true → is_closed g r p ≡ true
is_closed-from_ended g r p h =
    once-gives (λ e q. is_end g r e && is_closed g r q) (λ q. is_closed g r q ≡ true) (λ e q t. and_last (is_end g r e) (is_closed g r q) t) (is_closed-more g r) p h

-- the state of a round that has ended, by whether it is announced and which answers are lacking
ended_state : Bool → List ℕ → ℕ → OutcomeState
ended_state announced set sum = if not announced then states.Thin else total_or_lacking set sum

-- the same of its outcome
outcome_state : (s : Shape) (sum : ℕ → ℕ → List ℕ → ℕ) (g r : ℕ) (p : List Event) → is_ended g r p ≡ true
    → state_of (outcome s sum g r p) ≡ ended_state (is_announced s g r p) (lacking s g r p) (sum g r (survivors s g r p))
unfolding ended_state
outcome_state s sum g r p ended =
    ap (λ b. state_of (if not b then Running else if not (is_announced s g r p) then EndedThin else if is_opened s g r p && b && all_taken s g r p then Published (survivors s g r p) (sum g r (survivors s g r p)) else Unpublished (lacking s g r p))) ended
    ∙ cases (is_announced s g r p) (is_opened s g r p) (all_taken s g r p) (lacking s g r p) (is_opened-from_taken s g r p) (all_by s g r p) (not_all s g r p)
  where
    cases : (announced opened taken : Bool) (set : List ℕ) → (announced ≡ true → taken ≡ true → opened ≡ true) → (set ≡ [] → taken ≡ true) → (set ≢ [] → taken ≡ false)
        → state_of (if not announced then EndedThin else if opened && true && taken then Published (survivors s g r p) (sum g r (survivors s g r p)) else Unpublished set)
        ≡ (if not announced then states.Thin else total_or_lacking set (sum g r (survivors s g r p)))
    cases false opened taken set opens all some = refl
    cases true opened taken [] opens all some = rw (opens refl (all refl), all refl) refl
    cases true opened taken (i ∷ rest) opens all some = last opened taken (some (λ e. nothing e))
      where
        nothing : ◌≡◌ {A = List ℕ} (i ∷ rest) [] → ⊥
        nothing e = cc

        last : (o t : Bool) → t ≡ false → state_of (if o && true && t then Published (survivors s g r p) (sum g r (survivors s g r p)) else Unpublished (i ∷ rest)) ≡ states.Lacking (i ∷ rest)
        last true t h = rw h refl
        last false t h = refl

-- what the round has come to is its outcome
pub state-is : (s : Shape) (g r : ℕ) (page : PageView) (j : List Line) → IsPage s g r page j → state_in page.round ≡ state_of (outcome s (contents_of_lines j).total g r (past_of j))
unfolding ended_state
state-is s g r page j is = by_end (page.round.ended) refl
  where
    p : List Event
    p = past_of j

    sum : ℕ
    sum = (contents_of_lines j).total g r (survivors s g r p)

    announced : is_ended g r p ≡ true → has_floor page.round ≡ is_announced s g r p
    announced ended =
        has_floor-is s g r page j is ∙ sym (ap (λ b. b && reaches_floor s g r p) (is_closed-from_ended g r p ended))

    totals : (xs : List ℕ) → lacking_in page.round ≡ xs → total_or_lacking xs (total_in page.round) ≡ total_or_lacking xs sum
    totals [] none = ap states.Total (total-is s g r page j is none)
    totals (i ∷ rest) some = refl

    by_end : (q : Bool) → page.round.ended ≡ q → state_in page.round ≡ state_of (outcome s (contents_of_lines j).total g r p)
    by_end false h =
        ap (λ b. if not b then states.Running else if not (has_floor page.round) then states.Thin else total_or_lacking (lacking_in page.round) (total_in page.round)) h
        ∙ sym (ap (λ b. state_of (if not b then Running else if not (is_announced s g r p) then EndedThin else if is_published s g r p then Published (survivors s g r p) ((contents_of_lines j).total g r (survivors s g r p)) else Unpublished (lacking s g r p))) (sym is.ended ∙ h))
    by_end true h =
        ap (λ b. if not b then states.Running else if not (has_floor page.round) then states.Thin else total_or_lacking (lacking_in page.round) (total_in page.round)) h
        ∙ ap (λ b. if not b then states.Thin else total_or_lacking (lacking_in page.round) (total_in page.round)) (announced (sym is.ended ∙ h))
        ∙ ap (λ x. if not (is_announced s g r p) then states.Thin else x) (totals (lacking_in page.round) refl)
        ∙ ap (λ xs. if not (is_announced s g r p) then states.Thin else total_or_lacking xs sum) (lacking-is s g r page j is)
        ∙ sym (outcome_state s (contents_of_lines j).total g r p (sym is.ended ∙ h))
