-- What a head end says again is among the lines of a tick that is on the disk.
use Rattle.std.proofs.Common.{◌≡◌, ℕ, zero, suc, ◌+◌, ◌<◌, ◌≤◌, Bool, true, false, not, ◌&&◌, List, [], ◌∷◌, ◌++◌, length, map, refl, sym, ap, ◌∙◌, subst, arith, inl, inr, ⊎_elim, append_assoc, append-nil}
use Rattle.std.specs.Prelude.{◌⊎◌, Contains, nat_lt, nat_le, filter, if◌then◌else◌, Option, Some, None, is_some}
use Rattle.std.specs.List.{flat_map, range_with_len}
use Rattle.std.proofs.lemmas.Bool.{false≢true, and_parts, ltb-true, lt-ltb, cases_eq}
use Rattle.std.proofs.lemmas.List.Elements.{Contains-append_left, Contains-append_right, Contains-append_cases}
use Rattle.group_plan.specs.declared.Kind.TheVariants.{Reading}
use Rattle.group_plan.specs.declared.Tag.{Tag}
use Rattle.group_plan.specs.Plans.{PlanView, size, is_place, is_member, members, floor_of}
use Rattle.meter_frames.specs.declared.Frame.{Frame}
use Rattle.event_schedule.specs.Events.{is_tag}
use Rattle.head_end.specs.declared.answers.Logged.{Logged}
use Rattle.head_end.specs.declared.answers.Logged.TheVariants.{Took, Passed}
use Rattle.head_end.specs.declared.answers.TickLine.{TickLine}
use Rattle.head_end.specs.declared.answers.TickLine.TheVariants.{Announce}
use Rattle.head_end.specs.Journal.{passed, is_closed, is_frame, is_taken, survivors, missing, reaches_floor}
use Rattle.head_end.specs.Replies.{can_follow, first_wrong}
use Rattle.head_end.specs.Lines.{announcement, closed_line, announced_lines, close_lines, by_groups, ended_in, closed_in}
use Rattle.head_end.proofs.JournalLemmas.{is_taken-same, passed-took, passed-passed}
use Rattle.apart_courses.specs.Steps.{IsInTick}
use Rattle.apart_courses.specs.Statements.{AgainIsOnDisk}
use Rattle.apart_courses.proofs.SaidLemmas.{IsAnnounced, announced}
use Rattle.apart_courses.proofs.ReplyLemmas.{place_known, FreshOf, fresh_by}
use Rattle.apart_courses.proofs.SameLemmas.{tag_is}
use Rattle.apart_courses.proofs.TickLemmas.{round_is}

-- ---- elements

here : {X : Type 0} (x : X) (xs : List X) → Contains (x ∷ xs) x
here x xs = (0, omega arith, refl)

later : {X : Type 0} (y x : X) (xs : List X) → Contains xs x → Contains (y ∷ xs) x
later y x xs in_rest = Contains-append_right (y ∷ []) xs x in_rest

alone : {X : Type 0} (x y : X) → Contains (x ∷ []) y → x ≡ y
alone x y (zero, lt, is) = is
alone x y (suc k, lt, is) = absurd (omega (arith, lt))

in_range : (k m i : ℕ) → m ≤ i → i < m + k → Contains (range_with_len m k) i
in_range zero m i le lt = absurd (omega (arith, le, lt))
in_range (suc k) m i le lt = ⊎_elim
    (λ same. subst (λ n. Contains (m ∷ range_with_len (m + 1) k) n) (sym same) (here m (range_with_len (m + 1) k)))
    (λ other. later m i (range_with_len (m + 1) k) (in_range k (m + 1) i (omega (arith, le, other)) (omega (arith, lt))))
    (cases_eq i m)

passes_first : (test : ℕ → Bool) (b : Bool) (x i : ℕ) (xs : List ℕ) → test x ≡ b → (x ≡ i) ⊎ Contains xs i → test i ≡ true → Contains (if b then x ∷ xs else xs) i
passes_first test true x i xs is found passes = ⊎_elim (λ same. subst (λ n. Contains (x ∷ xs) n) same (here x xs)) (λ rest. later x i xs rest) found
passes_first test false x i xs is found passes = ⊎_elim (λ same. absurd (false≢true (sym is ∙ ap test same ∙ passes))) (λ rest. rest) found

in_filter : (test : ℕ → Bool) (xs : List ℕ) (i : ℕ) → Contains xs i → test i ≡ true → Contains (filter test xs) i
in_filter test [] i (k, lt, is) passes = absurd (omega (arith, lt))
in_filter test (x ∷ xs) i found passes =
    passes_first test (test x) x i (filter test xs) refl
    (⊎_elim (λ first. inl (alone x i first)) (λ rest. inr (in_filter test xs i rest passes)) (Contains-append_cases (x ∷ []) xs i found)) passes

in_map : (f : ℕ → TickLine) (xs : List ℕ) (i : ℕ) → Contains xs i → Contains (map f xs) (f i)
in_map f [] i (k, lt, is) = absurd (omega (arith, lt))
in_map f (x ∷ xs) i found = ⊎_elim
    (λ first. subst (λ n. Contains (f x ∷ map f xs) (f n)) (alone x i first) (here (f x) (map f xs)))
    (λ rest. later (f x) (f i) (map f xs) (in_map f xs i rest))
    (Contains-append_cases (x ∷ []) xs i found)

in_flat : (f : ℕ → List TickLine) (xs : List ℕ) (g : ℕ) (line : TickLine) → Contains xs g → Contains (f g) line → Contains (flat_map f xs) line
in_flat f [] g line (k, lt, is) inside = absurd (omega (arith, lt))
in_flat f (x ∷ xs) g line found inside = ⊎_elim
    (λ first. Contains-append_left (f x) (flat_map f xs) line (subst (λ n. Contains (f n) line) (sym (alone x g first)) inside))
    (λ rest. Contains-append_right (f x) (flat_map f xs) line (in_flat f xs g line rest inside))
    (Contains-append_cases (x ∷ []) xs g found)

-- ---- an announcement is in the lines of the tick in which its round closed

in_lines : (plan : PlanView) (j : List Logged) (f : Frame) → IsAnnounced plan j f → Contains (close_lines plan j f.tag.round f.tag.group) (Announce f)
in_lines plan j f is =
    let g = f.tag.group in
    let r = f.tag.round in
    let i = f.tag.meter in
    let known = and_parts (is_place plan g r i) (is_member plan.groups g r i) is.known in
    let below = ltb-true i (size plan.groups g) (and_parts (nat_lt r plan.rounds) (nat_lt i (size plan.groups g)) known.0).1 in
    let member : Contains (members plan.groups g r) i
    = in_filter (is_member plan.groups g r) (range_with_len 0 (size plan.groups g)) i (in_range (size plan.groups g) 0 i (omega arith) (omega (arith, below))) known.1 in
    let survivor : Contains (survivors plan j g r) i = in_filter (is_taken g r Reading j) (members plan.groups g r) i member is.survivor in
    let told = in_map (announcement g r (missing plan j g r)) (survivors plan j g r) i survivor in
    let same : announcement g r (missing plan j g r) i ≡ Announce f
    = λ k. Announce (record { tag = record { group = g; round = r; meter = i; kind = (sym is.kind) k }; missing = (sym is.set) k; word = (sym is.word) k }) in
    later (closed_line plan j r g) (Announce f) (announced_lines plan j r g)
    (subst (λ b. Contains (if b then map (announcement g r (missing plan j g r)) (survivors plan j g r) else []) (Announce f)) (sym is.announced)
    (subst (λ (line : TickLine). Contains (map (announcement g r (missing plan j g r)) (survivors plan j g r)) line) same told))

in_tick : (plan : PlanView) (j : List Logged) (f : Frame) → IsAnnounced plan j f → IsInTick plan j f
in_tick plan j f is =
    let g = f.tag.group in
    let r = f.tag.round in
    let place = place_known plan f.tag is.known in
    let closed = ltb-true (r + plan.w1) (passed j) (and_parts (is_closed plan j r) (reaches_floor plan j g r) is.announced).0 in (
      r + plan.w1,
      closed,
      Contains-append_right (ended_in plan j (r + plan.w1)) (closed_in plan j (r + plan.w1)) (Announce f)
          (subst (λ o. Contains (by_groups plan (close_lines plan j) o) (Announce f)) (sym (round_is plan.rounds plan.w1 (r + plan.w1) r place.round refl))
          (in_flat (close_lines plan j r) (range_with_len 0 (length plan.groups)) g (Announce f) (in_range (length plan.groups) 0 g (omega arith) (let lt = place.group in omega (arith, lt))) (in_lines plan j f is))),
    )

-- ---- lines that came since

no_reading : (plan : PlanView) (j : List Logged) (line : Logged) (g r : ℕ) → can_follow plan j line ≡ true → r + plan.w1 < passed j → (i : ℕ) → is_frame g r Reading i line ≡ false
no_reading plan j Passed g r can over i = refl
no_reading plan j (Took f) g r can over i = by (is_tag g r i Reading f.tag) refl
  where
    by : (b : Bool) → is_tag g r i Reading f.tag ≡ b → is_tag g r i Reading f.tag ≡ false
    by false other = other
    by true same =
        let at = tag_is g r i Reading f.tag same in
        let new : FreshOf Reading plan j f = subst (λ k. FreshOf k plan j f) (ap (λ (t : Tag). t.kind) at) (fresh_by f.tag.kind plan j f refl can) in
        absurd (false≢true (sym new.2 ∙ ap (λ (t : Tag). is_closed plan j t.round) at ∙ lt-ltb (r + plan.w1) (passed j) over))

still_passed : (j : List Logged) (line : Logged) (n : ℕ) → n < passed j → n < passed (j ++ line ∷ [])
still_passed j (Took f) n lt = let same = passed-took j f in omega (arith, lt, same)
still_passed j Passed n lt = let more = passed-passed j in omega (arith, lt, more)

followed : (b : Bool) (n : ℕ) (o : Option ℕ) → (if b then o else Some n) ≡ None → (b ≡ true) × (o ≡ None)
followed true n o is = (refl, is)
followed false n o is = absurd (false≢true (sym (ap is_some is)))

taken_stays : (plan : PlanView) (j more : List Logged) (g r : ℕ) → first_wrong plan j more ≡ None → r + plan.w1 < passed j → is_taken g r Reading (j ++ more) ≡ is_taken g r Reading j
unfolding first_wrong
taken_stays plan j [] g r right over = ap (is_taken g r Reading) (append-nil j)
taken_stays plan j (line ∷ more) g r right over =
    let both = followed (can_follow plan j line) (length j) (first_wrong plan (j ++ line ∷ []) more) right in
    ap (is_taken g r Reading) (sym (append_assoc j (line ∷ []) more))
    ∙ taken_stays plan (j ++ line ∷ []) more g r both.1 (still_passed j line (r + plan.w1) over)
    ∙ is_taken-same g r Reading j line (no_reading plan j line g r both.0 over)

-- what the whole journal announces, its first lines announce, where they have all its ticks
announced_before : (plan : PlanView) (j more : List Logged) (f : Frame) → first_wrong plan j more ≡ None → passed (j ++ more) ≡ passed j → IsAnnounced plan (j ++ more) f → IsAnnounced plan j f
announced_before plan j more f right ticks is =
    let g = f.tag.group in
    let r = f.tag.round in
    let closed = ltb-true (r + plan.w1) (passed (j ++ more)) (and_parts (is_closed plan (j ++ more) r) (reaches_floor plan (j ++ more) g r) is.announced).0 in
    let over : r + plan.w1 < passed j = omega (arith, closed, ticks) in
    let same = taken_stays plan j more g r right over in
    record {
      kind = is.kind;
      known = is.known;
      announced = sym (ap (λ n. nat_lt (r + plan.w1) n && reaches_floor plan (j ++ more) g r) ticks
          ∙ ap (λ (t : ℕ → Bool). nat_lt (r + plan.w1) (passed j) && nat_le (floor_of plan.groups g) (length (filter t (members plan.groups g r)))) same)
          ∙ is.announced;
      survivor = ap (λ (t : ℕ → Bool). t f.tag.meter) (sym same) ∙ is.survivor;
      set = is.set ∙ ap (λ (t : ℕ → Bool). filter (λ i. not (t i)) (members plan.groups g r)) same;
      word = is.word;
    }

pub again_on_disk : AgainIsOnDisk
again_on_disk plan j more f right ticks said = in_tick plan j f (announced_before plan j more f right ticks (announced plan (j ++ more) f (inr said)))
