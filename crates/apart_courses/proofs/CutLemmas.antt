-- A course whose journals lose lines that aren't on the disk is a course.
use Rattle.std.proofs.Common.{◌≡◌, ℕ, zero, suc, ◌<◌, ◌≤◌, Bool, true, false, not, ◌&&◌, List, [], ◌∷◌, ◌++◌, length, take, refl, sym, ap, ◌∙◌, subst, arith, inl, inr, ⊎_elim, length-append}
use Rattle.std.specs.Prelude.{◌==◌, nat_lt, if◌then◌else◌}
use Rattle.std.proofs.lemmas.Bool.{false≢true, and_from, and_parts, eqb-true, eq-eqb, ltb-true, lt-ltb, cases_lt}
use Rattle.std.proofs.lemmas.List.{take_all, take-append-le}
use Rattle.missing_round.specs.Masks.{Masks}
use Rattle.group_plan.specs.Plans.{PlanView}
use Rattle.meter_frames.specs.declared.Frame.{Frame}
use Rattle.head_end.specs.declared.answers.Logged.{Logged}
use Rattle.head_end.specs.declared.answers.Logged.TheVariants.{Took, Passed}
use Rattle.head_end.specs.Replies.{reply, can_pass}
use Rattle.meter_apart.specs.declared.answers.Noted.{Noted}
use Rattle.meter_apart.specs.declared.answers.Noted.TheVariants.{Read, Kept}
use Rattle.meter_apart.specs.Journal.{marked, kept}
use Rattle.meter_apart.specs.Replies.{to_reading, to_frame, is_first_reading, is_first_answer}
use Rattle.apart_courses.specs.Courses.{Happening, Headed, Noticed, Said, WasSaid, head_journal, meter_journal}
use Rattle.apart_courses.specs.Steps.{Disk, IsAnnouncing, IsAnnouncedOn, IsReadingOf, IsAnswerOf, MayHappen, IsCourse}
use Rattle.apart_courses.specs.Losses.{Step, Happens, HeadFlushes, MeterFlushes, HeadLoses, MeterLoses, head_cut, meter_cut, log_of, disk_of, IsCourseWithLosses}

-- ---- first lines

first_of_first : (k n : ℕ) (j : List Noted) → k ≤ n → take k (take n j) ≡ take k j
first_of_first zero n j le = refl
first_of_first (suc k) zero j le = absurd (omega (arith, le))
first_of_first (suc k) (suc n) [] le = refl
first_of_first (suc k) (suc n) (line ∷ j) le = ap (λ l. line ∷ l) (first_of_first k n j (omega (arith, le)))

first_logged : (k n : ℕ) (j : List Logged) → k ≤ n → take k (take n j) ≡ take k j
first_logged zero n j le = refl
first_logged (suc k) zero j le = absurd (omega (arith, le))
first_logged (suc k) (suc n) [] le = refl
first_logged (suc k) (suc n) (line ∷ j) le = ap (λ l. line ∷ l) (first_logged k n j (omega (arith, le)))

-- ---- what may happen still may

-- each frame that was said before was said in the other log too
abbrev KeepsSaid : List Happening → List Happening → Type 0
KeepsSaid before other = (f : Frame) → WasSaid f before → WasSaid f other

headed_still : (plan : PlanView) (m : Masks) (disk : Disk) (before other : List Happening) (line : Logged) → head_journal other ≡ head_journal before → KeepsSaid before other
    → MayHappen plan m disk before (Headed line) → MayHappen plan m disk other (Headed line)
headed_still plan m disk before other (Took f) same said may = (said f may.0, ap (λ j. reply plan j f) same ∙ may.1)
headed_still plan m disk before other Passed same said may = ap (can_pass plan) same ∙ may

noticed_still : (plan : PlanView) (m : Masks) (disk : Disk) (before other : List Happening) (g i : ℕ) (line : Noted) → meter_journal g i other ≡ meter_journal g i before → KeepsSaid before other
    → MayHappen plan m disk before (Noticed g i line) → MayHappen plan m disk other (Noticed g i line)
noticed_still plan m disk before other g i (Read r v) same said may = (may.0, may.1, ap (λ j. is_first_reading may.0 j r v) same ∙ may.2)
noticed_still plan m disk before other g i (Kept r set) same said may = (may.0, may.1, said _ may.2, ap (λ j. is_first_answer may.0 j r set) same ∙ may.3)

said_still : (plan : PlanView) (m : Masks) (disk more : Disk) (before other : List Happening) (f : Frame) → disk.head ≤ more.head → disk.meter f.tag.group f.tag.meter ≤ more.meter f.tag.group f.tag.meter
    → ((k : ℕ) → k ≤ disk.head → take k (head_journal other) ≡ take k (head_journal before))
    → ((k : ℕ) → k ≤ disk.meter f.tag.group f.tag.meter → take k (meter_journal f.tag.group f.tag.meter other) ≡ take k (meter_journal f.tag.group f.tag.meter before))
    → MayHappen plan m disk before (Said f) → MayHappen plan m more other (Said f)
said_still plan m disk more before other f head meter heads meters may = ⊎_elim
    (λ (a : IsAnnouncedOn plan disk before f). inl (a.0, omega (arith, a.1, head), subst (λ (j : List Logged). IsAnnouncing plan j f) (sym (heads a.0 a.1)) a.2))
    (λ other_kind. inr (⊎_elim
    (λ (r : IsReadingOf plan m disk before f). inl (record {
      part = r.part;
      own = r.own;
      reading = r.reading;
      lines = r.lines;
      on_disk = (let a = r.on_disk in omega (arith, a, meter));
      is_part = r.is_part;
      has_own = r.has_own;
      is_marked = ap (λ j. marked j f.tag.round) (meters r.lines r.on_disk) ∙ r.is_marked;
      says = ap (λ j. to_reading r.part r.own j f.tag.round r.reading) (meters r.lines r.on_disk) ∙ r.says;
    }))
    (λ (a : IsAnswerOf plan m disk before f). inr (record {
      part = a.part;
      own = a.own;
      heard = a.heard;
      lines = a.lines;
      on_disk = (let b = a.on_disk in omega (arith, b, meter));
      is_part = a.is_part;
      has_own = a.has_own;
      is_kept = ap (λ j. kept j a.heard.tag.round) (meters a.lines a.on_disk) ∙ a.is_kept;
      says = ap (λ j. to_frame a.part a.own j a.heard) (meters a.lines a.on_disk) ∙ a.says;
    }))
    other_kind))
    may

-- ---- more is on the disk

more_disk : (plan : PlanView) (m : Masks) (disk more : Disk) (log : List Happening) → disk.head ≤ more.head → ((g i : ℕ) → disk.meter g i ≤ more.meter g i) → IsCourse plan m disk log → IsCourse plan m more log
more_disk plan m disk more [] head meter course = tt
more_disk plan m disk more (Headed line ∷ log) head meter course = (more_headed line course.0, more_disk plan m disk more log head meter course.1)
  where
    more_headed : (line : Logged) → MayHappen plan m disk log (Headed line) → MayHappen plan m more log (Headed line)
    more_headed (Took f) may = may
    more_headed Passed may = may
more_disk plan m disk more (Noticed g i line ∷ log) head meter course = (more_noticed line course.0, more_disk plan m disk more log head meter course.1)
  where
    more_noticed : (line : Noted) → MayHappen plan m disk log (Noticed g i line) → MayHappen plan m more log (Noticed g i line)
    more_noticed (Read r v) may = may
    more_noticed (Kept r set) may = may
more_disk plan m disk more (Said f ∷ log) head meter course =
    (said_still plan m disk more log log f head (meter f.tag.group f.tag.meter) (λ k le. refl) (λ k le. refl) course.0, more_disk plan m disk more log head meter course.1)

-- ---- the head end loses lines

-- a longer journal, cut
cut_longer : (n : ℕ) (j : List Logged) (line : Logged) (shorter : List Logged) (b : Bool) → nat_lt (length j) n ≡ b → shorter ≡ take n j → (if b then shorter ++ line ∷ [] else shorter) ≡ take n (j ++ line ∷ [])
cut_longer n j line shorter true is same =
    let lt : length j < n = ltb-true (length j) n is in
    let more = length-append j (line ∷ []) in
    ap (λ l. l ++ line ∷ []) (same ∙ take_all n j (omega (arith, lt))) ∙ sym (take_all n (j ++ line ∷ []) (omega (arith, lt, more)))
cut_longer n j line shorter false is same = same ∙ sym (take-append-le n j (line ∷ []) (⊎_elim
    (λ lt. absurd (false≢true (sym is ∙ lt-ltb (length j) n lt)))
    (λ le. le)
    (cases_lt (length j) n)))

chosen : {A B : Type 0} (f : A → B) (b : Bool) (x y : A) → f (if b then x else y) ≡ (if b then f x else f y)
chosen f true x y = refl
chosen f false x y = refl

head_left : (n : ℕ) (log : List Happening) → head_journal (head_cut n log) ≡ take n (head_journal log)
head_left n [] = sym (take_all n [] (omega arith))
head_left n (Headed line ∷ log) =
    chosen head_journal (nat_lt (length (head_journal log)) n) (Headed line ∷ head_cut n log) (head_cut n log)
    ∙ cut_longer n (head_journal log) line (head_journal (head_cut n log)) (nat_lt (length (head_journal log)) n) refl (head_left n log)
head_left n (Noticed g i line ∷ log) = head_left n log
head_left n (Said f ∷ log) = head_left n log

same_either : {A B : Type 0} (f : A → B) (b : Bool) (x y : A) (z : B) → f x ≡ z → f y ≡ z → f (if b then x else y) ≡ z
same_either f true x y z first second = first
same_either f false x y z first second = second

meters_left : (n g i : ℕ) (log : List Happening) → meter_journal g i (head_cut n log) ≡ meter_journal g i log
meters_left n g i [] = refl
meters_left n g i (Headed line ∷ log) =
    same_either (meter_journal g i) (nat_lt (length (head_journal log)) n) (Headed line ∷ head_cut n log) (head_cut n log) (meter_journal g i log) (meters_left n g i log) (meters_left n g i log)
meters_left n g i (Noticed h k line ∷ log) = ap (λ j. if (h == g) && (k == i) then j ++ line ∷ [] else j) (meters_left n g i log)
meters_left n g i (Said f ∷ log) = meters_left n g i log

abbrev is_saying : Happening → Bool
is_saying (Headed line) = false
is_saying (Noticed g i line) = false
is_saying (Said f) = true

silent : (f : Frame) (h : Happening) (before : List Happening) → is_saying h ≡ false → WasSaid f (h ∷ before) → WasSaid f before
silent f h before is was = ⊎_elim (λ now. absurd (false≢true (sym is ∙ ap is_saying now))) (λ earlier. earlier) was

in_either : (f : Frame) (b : Bool) (x y : List Happening) → WasSaid f x → WasSaid f y → WasSaid f (if b then x else y)
in_either f true x y first second = first
in_either f false x y first second = second

said_left : (n : ℕ) (log : List Happening) → KeepsSaid log (head_cut n log)
said_left n [] f was = was
said_left n (Headed line ∷ log) f was =
    let before = said_left n log f (silent f (Headed line) log refl was) in
    in_either f (nat_lt (length (head_journal log)) n) (Headed line ∷ head_cut n log) (head_cut n log) (inr before) before
said_left n (Noticed g i line ∷ log) f was = inr (said_left n log f (silent f (Noticed g i line) log refl was))
said_left n (Said h ∷ log) f was = ⊎_elim (λ now. inl now) (λ earlier. inr (said_left n log f earlier)) was

kept_or_lost : (plan : PlanView) (m : Masks) (disk : Disk) (b : Bool) (h : Happening) (log : List Happening) → (b ≡ true → MayHappen plan m disk log h) → IsCourse plan m disk log → IsCourse plan m disk (if b then h ∷ log else log)
kept_or_lost plan m disk true h log may course = (may refl, course)
kept_or_lost plan m disk false h log may course = course

cut_head : (plan : PlanView) (m : Masks) (disk : Disk) (n : ℕ) (log : List Happening) → disk.head ≤ n → IsCourse plan m disk log → IsCourse plan m disk (head_cut n log)
cut_head plan m disk n [] le course = tt
cut_head plan m disk n (Headed line ∷ log) le course =
    kept_or_lost plan m disk (nat_lt (length (head_journal log)) n) (Headed line) (head_cut n log)
    (λ short.
    let lt = ltb-true (length (head_journal log)) n short in
    headed_still plan m disk log (head_cut n log) line (head_left n log ∙ take_all n (head_journal log) (omega (arith, lt))) (said_left n log) course.0)
    (cut_head plan m disk n log le course.1)
cut_head plan m disk n (Noticed g i line ∷ log) le course =
    (noticed_still plan m disk log (head_cut n log) g i line (meters_left n g i log) (said_left n log) course.0, cut_head plan m disk n log le course.1)
cut_head plan m disk n (Said f ∷ log) le course = (
  said_still plan m disk disk log (head_cut n log) f (omega arith) (omega arith)
      (λ k few. ap (take k) (head_left n log) ∙ first_logged k n (head_journal log) (omega (arith, few, le)))
      (λ k few. ap (take k) (meters_left n f.tag.group f.tag.meter log))
      course.0,
  cut_head plan m disk n log le course.1,
)

-- ---- a meter loses lines

noted_longer : (n : ℕ) (j : List Noted) (line : Noted) → length j < n → take n (j ++ line ∷ []) ≡ take n j ++ line ∷ []
noted_longer n j line lt =
    let more = length-append j (line ∷ []) in
    take_all n (j ++ line ∷ []) (omega (arith, lt, more)) ∙ sym (ap (λ l. l ++ line ∷ []) (take_all n j (omega (arith, lt))))

-- the journal that is cut, by whether the line is of this meter, and fits
cut_by : (n : ℕ) (j cut : List Noted) (line : Noted) (mine fits : Bool) → nat_lt (length j) n ≡ fits → cut ≡ take n j
    → (if mine && not fits then cut else if mine then cut ++ line ∷ [] else cut) ≡ take n (if mine then j ++ line ∷ [] else j)
cut_by n j cut line true true is same = ap (λ l. l ++ line ∷ []) same ∙ sym (noted_longer n j line (ltb-true (length j) n is))
cut_by n j cut line true false is same = same ∙ sym (take-append-le n j (line ∷ []) (⊎_elim (λ lt. absurd (false≢true (sym is ∙ lt-ltb (length j) n lt))) (λ le. le) (cases_lt (length j) n)))
cut_by n j cut line false fits is same = same

meter_left : (g i n : ℕ) (log : List Happening) → meter_journal g i (meter_cut g i n log) ≡ take n (meter_journal g i log)
meter_left g i n [] = sym (take_all n [] (omega arith))
meter_left g i n (Headed line ∷ log) = meter_left g i n log
meter_left g i n (Said f ∷ log) = meter_left g i n log
meter_left g i n (Noticed h k line ∷ log) =
    let mine : Bool = (h == g) && (k == i) in
    let fits : Bool = nat_lt (length (meter_journal g i log)) n in
    chosen (meter_journal g i) (mine && not fits) (meter_cut g i n log) (Noticed h k line ∷ meter_cut g i n log)
    ∙ cut_by n (meter_journal g i log) (meter_journal g i (meter_cut g i n log)) line mine fits refl (meter_left g i n log)

-- two meters that are one, and one that differs from it
differs : (g i h k a b : ℕ) → ((h == g) && (k == i)) ≡ true → ((a == g) && (b == i)) ≡ false → ((h == a) && (k == b)) ≡ false
differs g i h k a b is other = by ((h == a) && (k == b)) refl
  where
    by : (c : Bool) → ((h == a) && (k == b)) ≡ c → ((h == a) && (k == b)) ≡ false
    by false e = e
    by true e =
        let one = and_parts (h == g) (k == i) is in
        let two = and_parts (h == a) (k == b) e in
        absurd (false≢true (sym other
        ∙ and_from (a == g) (b == i) (eq-eqb a g (sym (eqb-true h a two.0) ∙ eqb-true h g one.0)) (eq-eqb b i (sym (eqb-true k b two.1) ∙ eqb-true k i one.1))))

-- the journal of another meter is as before, by whether the line is cut, and whether it is that meter's
other_by : (j cut : List Noted) (line : Noted) (mine fits its : Bool) → (mine ≡ true → its ≡ false) → cut ≡ j
    → (if mine && not fits then cut else if its then cut ++ line ∷ [] else cut) ≡ (if its then j ++ line ∷ [] else j)
other_by j cut line true true its apart same = ap (λ l. if its then l ++ line ∷ [] else l) same
other_by j cut line true false its apart same = same ∙ sym (ap (λ c. if c then j ++ line ∷ [] else j) (apart refl))
other_by j cut line false fits its apart same = ap (λ l. if its then l ++ line ∷ [] else l) same

others_left : (g i n a b : ℕ) (log : List Happening) → ((a == g) && (b == i)) ≡ false → meter_journal a b (meter_cut g i n log) ≡ meter_journal a b log
others_left g i n a b [] other = refl
others_left g i n a b (Headed line ∷ log) other = others_left g i n a b log other
others_left g i n a b (Said f ∷ log) other = others_left g i n a b log other
others_left g i n a b (Noticed h k line ∷ log) other =
    let mine : Bool = (h == g) && (k == i) in
    let fits : Bool = nat_lt (length (meter_journal g i log)) n in
    chosen (meter_journal a b) (mine && not fits) (meter_cut g i n log) (Noticed h k line ∷ meter_cut g i n log)
    ∙ other_by (meter_journal a b log) (meter_journal a b (meter_cut g i n log)) line mine fits ((h == a) && (k == b)) (λ is. differs g i h k a b is other) (others_left g i n a b log other)

heads_left : (g i n : ℕ) (log : List Happening) → head_journal (meter_cut g i n log) ≡ head_journal log
heads_left g i n [] = refl
heads_left g i n (Headed line ∷ log) = ap (λ j. j ++ line ∷ []) (heads_left g i n log)
heads_left g i n (Said f ∷ log) = heads_left g i n log
heads_left g i n (Noticed h k line ∷ log) =
    same_either head_journal (((h == g) && (k == i)) && not (nat_lt (length (meter_journal g i log)) n)) (meter_cut g i n log) (Noticed h k line ∷ meter_cut g i n log) (head_journal log)
    (heads_left g i n log) (heads_left g i n log)

said_by_all : (g i n : ℕ) (log : List Happening) → KeepsSaid log (meter_cut g i n log)
said_by_all g i n [] f was = was
said_by_all g i n (Headed line ∷ log) f was = inr (said_by_all g i n log f (silent f (Headed line) log refl was))
said_by_all g i n (Said h ∷ log) f was = ⊎_elim (λ now. inl now) (λ earlier. inr (said_by_all g i n log f earlier)) was
said_by_all g i n (Noticed h k line ∷ log) f was =
    let before = said_by_all g i n log f (silent f (Noticed h k line) log refl was) in
    in_either f (((h == g) && (k == i)) && not (nat_lt (length (meter_journal g i log)) n)) (meter_cut g i n log) (Noticed h k line ∷ meter_cut g i n log) before (inr before)

-- the first lines of any meter's journal, where few of this meter's are asked for
any_left : (g i n a b q : ℕ) (log : List Happening) → (((a == g) && (b == i)) ≡ true → q ≤ n) → take q (meter_journal a b (meter_cut g i n log)) ≡ take q (meter_journal a b log)
any_left g i n a b q log few = by ((a == g) && (b == i)) refl
  where
    by : (c : Bool) → ((a == g) && (b == i)) ≡ c → take q (meter_journal a b (meter_cut g i n log)) ≡ take q (meter_journal a b log)
    by false other = ap (take q) (others_left g i n a b log other)
    by true is =
        let both = and_parts (a == g) (b == i) is in
        let group : a ≡ g = eqb-true a g both.0 in
        let meter : b ≡ i = eqb-true b i both.1 in
        ap (λ h. take q (meter_journal h b (meter_cut g i n log))) group
        ∙ ap (λ k. take q (meter_journal g k (meter_cut g i n log))) meter
        ∙ ap (take q) (meter_left g i n log)
        ∙ first_of_first q n (meter_journal g i log) (few is)
        ∙ sym (ap (λ h. take q (meter_journal h b log)) group ∙ ap (λ k. take q (meter_journal g k log)) meter)

lost_or_kept : (plan : PlanView) (m : Masks) (disk : Disk) (b : Bool) (h : Happening) (log : List Happening) → (b ≡ false → MayHappen plan m disk log h) → IsCourse plan m disk log → IsCourse plan m disk (if b then log else h ∷ log)
lost_or_kept plan m disk true h log may course = course
lost_or_kept plan m disk false h log may course = (may refl, course)

-- a line that is left has the journal before it whole
whole_before : (g i n h k : ℕ) (log : List Happening) → (((h == g) && (k == i)) && not (nat_lt (length (meter_journal g i log)) n)) ≡ false → meter_journal h k (meter_cut g i n log) ≡ meter_journal h k log
whole_before g i n h k log left = by ((h == g) && (k == i)) refl (nat_lt (length (meter_journal g i log)) n) refl left
  where
    by : (mine : Bool) → ((h == g) && (k == i)) ≡ mine → (fits : Bool) → nat_lt (length (meter_journal g i log)) n ≡ fits → (mine && not fits) ≡ false → meter_journal h k (meter_cut g i n log) ≡ meter_journal h k log
    by false other fits is left = others_left g i n h k log other
    by true here false is left = absurd (false≢true (sym left))
    by true here true is left =
        let lt = ltb-true (length (meter_journal g i log)) n is in
        let both = and_parts (h == g) (k == i) here in
        let group : h ≡ g = eqb-true h g both.0 in
        let meter : k ≡ i = eqb-true k i both.1 in
        ap (λ a. meter_journal a k (meter_cut g i n log)) group
        ∙ ap (λ b. meter_journal g b (meter_cut g i n log)) meter
        ∙ meter_left g i n log
        ∙ take_all n (meter_journal g i log) (omega (arith, lt))
        ∙ sym (ap (λ a. meter_journal a k log) group ∙ ap (λ b. meter_journal g b log) meter)

cut_meter : (plan : PlanView) (m : Masks) (disk : Disk) (g i n : ℕ) (log : List Happening) → disk.meter g i ≤ n → IsCourse plan m disk log → IsCourse plan m disk (meter_cut g i n log)
cut_meter plan m disk g i n [] le course = tt
cut_meter plan m disk g i n (Headed line ∷ log) le course =
    (headed_still plan m disk log (meter_cut g i n log) line (heads_left g i n log) (said_by_all g i n log) course.0, cut_meter plan m disk g i n log le course.1)
cut_meter plan m disk g i n (Noticed h k line ∷ log) le course =
    lost_or_kept plan m disk (((h == g) && (k == i)) && not (nat_lt (length (meter_journal g i log)) n)) (Noticed h k line) (meter_cut g i n log)
    (λ left. noticed_still plan m disk log (meter_cut g i n log) h k line (whole_before g i n h k log left) (said_by_all g i n log) course.0)
    (cut_meter plan m disk g i n log le course.1)
cut_meter plan m disk g i n (Said f ∷ log) le course = (
  said_still plan m disk disk log (meter_cut g i n log) f (omega arith) (omega arith)
      (λ q few. ap (take q) (heads_left g i n log))
      (λ q few. any_left g i n f.tag.group f.tag.meter q log (λ is.
      let both = and_parts (f.tag.group == g) (f.tag.meter == i) is in
      let same : disk.meter f.tag.group f.tag.meter ≡ disk.meter g i = ap (λ a. disk.meter a f.tag.meter) (eqb-true f.tag.group g both.0) ∙ ap (disk.meter g) (eqb-true f.tag.meter i both.1) in
      omega (arith, few, same, le)))
      course.0,
  cut_meter plan m disk g i n log le course.1,
)

-- ---- step by step

pub course_of : (plan : PlanView) (m : Masks) (steps : List Step) → IsCourseWithLosses plan m steps → IsCourse plan m (disk_of steps) (log_of steps)
course_of plan m [] course = tt
course_of plan m (Happens h ∷ before) course = (course.0, course_of plan m before course.1)
course_of plan m (HeadFlushes n ∷ before) course =
    more_disk plan m (disk_of before) (disk_of (HeadFlushes n ∷ before)) (log_of before) course.0.0 (λ g i. omega arith) (course_of plan m before course.1)
course_of plan m (MeterFlushes g i n ∷ before) course =
    more_disk plan m (disk_of before) (disk_of (MeterFlushes g i n ∷ before)) (log_of before) (omega arith) more (course_of plan m before course.1)
  where
    by : (h k : ℕ) (mine : Bool) → ((h == g) && (k == i)) ≡ mine → (disk_of before).meter h k ≤ (if mine then n else (disk_of before).meter h k)
    by h k false other = omega arith
    by h k true is =
        let both = and_parts (h == g) (k == i) is in
        let same : (disk_of before).meter h k ≡ (disk_of before).meter g i
        = ap (λ a. (disk_of before).meter a k) (eqb-true h g both.0) ∙ ap ((disk_of before).meter g) (eqb-true k i both.1) in
        let le = course.0.0 in
        omega (arith, same, le)

    more : (h k : ℕ) → (disk_of before).meter h k ≤ (if (h == g) && (k == i) then n else (disk_of before).meter h k)
    more h k = by h k ((h == g) && (k == i)) refl
course_of plan m (HeadLoses n ∷ before) course = cut_head plan m (disk_of before) n (log_of before) course.0 (course_of plan m before course.1)
course_of plan m (MeterLoses g i n ∷ before) course = cut_meter plan m (disk_of before) g i n (log_of before) course.0 (course_of plan m before course.1)
