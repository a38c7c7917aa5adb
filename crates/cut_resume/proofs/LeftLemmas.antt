-- Picking entries out of those that are left of a run.
use Rattle.std.proofs.Common.{◌≡◌, ℕ, zero, suc, ◌+◌, ◌<◌, Bool, true, false, not, List, [], ◌∷◌, ◌++◌, length, take, drop, get_or, refl, sym, ap, ◌∙◌, subst, arith, append-nil, append_assoc}
use Rattle.std.specs.Prelude.{◌==◌, ◌≢◌}
use Rattle.std.specs.List.{remove, All}
use Rattle.std.proofs.lemmas.Bool.{true≢false, eq-eqb, and_from}
use Rattle.std.proofs.lemmas.List.{take_more, drop_more, take-append-drop}
use Rattle.std.proofs.lemmas.List.Elements.{All-head, All-tail}
use Rattle.std.proofs.lemmas.Grind.{flat_map-append}
use Rattle.event_schedule.specs.declared.Event.{Event}
use Rattle.event_schedule.specs.declared.Event.TheVariants.{Send, Take, Close, End}
use Rattle.event_schedule.specs.declared.Entry.{Entry}
use Rattle.event_schedule.specs.Events.{event_of}
use Rattle.event_schedule.proofs.EventLemmas.{is_send-itself}
use Rattle.run_course.proofs.Members.{all_more}
use Rattle.cut_resume.specs.Left.{Decides, IsNoneOf, IsNotThere, Leaves, Picks, at_places}
use Rattle.cut_resume.specs.Order.{IsPicked, are_apart, may_pass}
use Rattle.cut_resume.proofs.OnCourse.{first, rest}
use Rattle.cut_resume.proofs.Picks.{right_of, same_entry}

-- ---- entries that are compared

pub decides_entry : (x e : Entry) (answer : Bool) → x.tick ≡ e.tick → x.fate ≡ e.fate → Decides (x.line ≡ e.line) answer → Decides (x ≡ e) answer
decides_entry x e true tick fate same = same_entry x e tick fate same
decides_entry x e false tick fate other = λ same. other (ap (λ (z : Entry). z.line) same)

-- no entry may pass itself
apart_itself : (v : Event) → are_apart v v ≡ true → ⊥
apart_itself (Take tag) apart = true≢false (sym apart ∙ ap not (is_send-itself tag.group tag.round tag.meter tag.kind))
apart_itself (Send tag) apart = true≢false (sym apart)
apart_itself (Close g r) apart = true≢false (sym apart ∙ ap not (and_from (g == g) (r == r) (eq-eqb g g refl) (eq-eqb r r refl)))
apart_itself (End g r) apart = true≢false (sym apart ∙ ap not (and_from (g == g) (r == r) (eq-eqb g g refl) (eq-eqb r r refl)))

passes_itself : (e : Entry) → may_pass e e ≡ true → ⊥
passes_itself e may = apart_itself (event_of e.line) (right_of (e.tick == e.tick) (are_apart (event_of e.line) (event_of e.line)) may)

-- ---- what is not there

no_picks : (e x : Entry) (passed others more after : List Entry) → passed ++ x ∷ after ≡ others ++ e ∷ more → All (λ z. may_pass e z ≡ true) passed → All (λ z. may_pass e z ≡ true) others
    → may_pass e x ≡ false → x ≢ e → ⊥
no_picks e x [] [] more after same all may off other = other (first x x e after more same)
no_picks e x [] (o ∷ others) more after same all may off other =
    true≢false (sym (All-head (λ z. may_pass e z ≡ true) o others may) ∙ sym (ap (may_pass e) (first x x o after (others ++ e ∷ more) same)) ∙ off)
no_picks e x (p ∷ passed) [] more after same all may off other =
    passes_itself e (subst (λ z. may_pass e z ≡ true) (first x p e (passed ++ x ∷ after) more same) (All-head (λ z. may_pass e z ≡ true) p passed all))
no_picks e x (p ∷ passed) (o ∷ others) more after same all may off other =
    no_picks e x passed others more after (rest p o (passed ++ x ∷ after) (others ++ e ∷ more) same) (All-tail (λ z. may_pass e z ≡ true) p passed all) (All-tail (λ z. may_pass e z ≡ true) o others may) off other

-- behind one that it may not pass, an entry is not picked
pub stopped : (e x : Entry) (passed after : List Entry) → All (λ z. may_pass e z ≡ true) passed → may_pass e x ≡ false → x ≢ e → IsNotThere e (passed ++ x ∷ after)
stopped e x passed after all off other others picked = no_picks e x passed picked.passed picked.after after picked.stands all picked.may off other

none_among : (e : Entry) (entries others more : List Entry) → entries ≡ others ++ e ∷ more → All (λ z. may_pass e z ≡ true) entries → ⊥
none_among e [] [] more same all = omega (arith, ap length same)
none_among e [] (o ∷ others) more same all = omega (arith, ap length same)
none_among e (x ∷ entries) [] more same all =
    passes_itself e (subst (λ z. may_pass e z ≡ true) (first x x e entries more same) (All-head (λ z. may_pass e z ≡ true) x entries all))
none_among e (x ∷ entries) (o ∷ others) more same all = none_among e entries others more (rest x o entries (others ++ e ∷ more) same) (All-tail (λ z. may_pass e z ≡ true) x entries all)

-- among those that it may pass it is not
pub none_there : (e : Entry) (entries : List Entry) → All (λ z. may_pass e z ≡ true) entries → IsNotThere e entries
none_there e entries all others picked = none_among e entries picked.passed picked.after picked.stands all

-- ---- places

pub one_place : (run : List Entry) (k : ℕ) (x : Entry) → k < length run → at_places run (k ∷ []) ≡ get_or run k x ∷ []
one_place run k x within = append-nil (take 1 (drop k run)) ∙ ap (take 1) (drop_more run k x within)

pub places-append : (run : List Entry) (ks ls : List ℕ) → at_places run (ks ++ ls) ≡ at_places run ks ++ at_places run ls
places-append run ks ls = flat_map-append (λ k. take 1 (drop k run)) ks ls

-- one more place
pub passed_more : (e x : Entry) (run : List Entry) (ks ls : List ℕ) (k : ℕ) → ls ≡ ks ++ k ∷ [] → k < length run → x ≡ get_or run k x → may_pass e x ≡ true
    → All (λ z. may_pass e z ≡ true) (at_places run ks) → All (λ z. may_pass e z ≡ true) (at_places run ls)
passed_more e x run ks ls k more within is may all =
    subst (All (λ z. may_pass e z ≡ true)) (sym (ap (at_places run) more ∙ places-append run ks (k ∷ []) ∙ ap (λ l. at_places run ks ++ l) (one_place run k x within ∙ ap (λ z. z ∷ []) (sym is))))
    (all_more (λ z. may_pass e z ≡ true) (at_places run ks) x all may)

pub stop_more : (e x : Entry) (run : List Entry) (places : List ℕ) (at d : ℕ) → at < length places → All (λ k. k < length run) places → x ≡ get_or run (get_or places at d) x → may_pass e x ≡ true
    → All (λ z. may_pass e z ≡ true) (at_places run (take at places)) → All (λ z. may_pass e z ≡ true) (at_places run (take (at + 1) places))
stop_more e x run places at d lt within is may all = passed_more e x run (take at places) (take (at + 1) places) (get_or places at d) (take_more places at d lt) (within at d lt) is may all

-- the entry at a place among those that were passed
pub places_at : (run : List Entry) (places : List ℕ) (at d : ℕ) (x : Entry) (more : List Entry) → at < length places → All (λ k. k < length run) places → x ≡ get_or run (get_or places at d) x
    → at_places run places ++ more ≡ at_places run (take at places) ++ x ∷ (at_places run (drop (at + 1) places) ++ more)
places_at run places at d x more lt within is =
    ap (λ ks. at_places run ks ++ more) (cut places at d lt)
    ∙ ap (λ l. l ++ more) (places-append run (take at places) (get_or places at d ∷ drop (at + 1) places))
    ∙ ap (λ l. (at_places run (take at places) ++ (l ++ at_places run (drop (at + 1) places))) ++ more) (ap (take 1) (drop_more run (get_or places at d) x (within at d lt)) ∙ ap (λ z. z ∷ []) (sym is))
    ∙ append_assoc (at_places run (take at places)) (x ∷ at_places run (drop (at + 1) places)) more
  where
    cut : (ks : List ℕ) (n d : ℕ) → n < length ks → ks ≡ take n ks ++ get_or ks n d ∷ drop (n + 1) ks
    cut ks n d lt = sym (take-append-drop n ks) ∙ ap (λ l. take n ks ++ l) (drop_more ks n d lt)

pub passed_picked : (e x : Entry) (run more : List Entry) (places new : List ℕ) (at d : ℕ) → at < length places → All (λ k. k < length run) places → x ≡ get_or run (get_or places at d) x → x ≡ e
    → new ≡ remove places at → All (λ z. may_pass e z ≡ true) (at_places run (take at places))
    → IsPicked e (at_places run places ++ more) (at_places run new ++ more)
passed_picked e x run more places new at d lt within is same was_removed may = let removed : new ≡ take at places ++ drop (at + 1) places = (let next : suc at ≡ at + 1 = omega arith in was_removed ∙ ap (λ n. take at places ++ drop n places) next) in record {
  passed = at_places run (take at places);
  after = at_places run (drop (at + 1) places) ++ more;
  stands = places_at run places at d x more lt within is ∙ ap (λ z. at_places run (take at places) ++ z ∷ (at_places run (drop (at + 1) places) ++ more)) same;
  others = ap (λ ks. at_places run ks ++ more) removed ∙ ap (λ l. l ++ more) (places-append run (take at places) (drop (at + 1) places)) ∙ append_assoc (at_places run (take at places)) (at_places run (drop (at + 1) places)) more;
  may = may;
}

pub passed_not : (e x : Entry) (run more : List Entry) (places : List ℕ) (at d : ℕ) → at < length places → All (λ k. k < length run) places → x ≡ get_or run (get_or places at d) x → x ≢ e
    → may_pass e x ≡ false → All (λ z. may_pass e z ≡ true) (at_places run (take at places)) → IsNotThere e (at_places run places ++ more)
passed_not e x run more places at d lt within is other off may =
    subst (IsNotThere e) (sym (places_at run places at d x more lt within is)) (stopped e x (at_places run (take at places)) (at_places run (drop (at + 1) places) ++ more) may off other)

-- the run's next entry
pub next_picked : (e x : Entry) (run before : List Entry) (n : ℕ) → n < length run → x ≡ get_or run n x → x ≡ e → All (λ z. may_pass e z ≡ true) before → IsPicked e (before ++ drop n run) (before ++ drop (n + 1) run)
next_picked e x run before n lt is same may = record {
  passed = before;
  after = drop (n + 1) run;
  stands = ap (λ l. before ++ l) (drop_more run n x lt ∙ ap (λ z. z ∷ drop (n + 1) run) (sym is ∙ same));
  others = refl;
  may = may;
}

pub next_not : (e x : Entry) (run before : List Entry) (n : ℕ) → n < length run → x ≡ get_or run n x → x ≢ e → may_pass e x ≡ false → All (λ z. may_pass e z ≡ true) before → IsNotThere e (before ++ drop n run)
next_not e x run before n lt is other off may =
    subst (λ l. IsNotThere e (before ++ l)) (sym (drop_more run n x lt ∙ ap (λ z. z ∷ drop (n + 1) run) (sym is))) (stopped e x before (drop (n + 1) run) may off other)

-- ---- one entry of the cut after another

pub leaves_more : (xs run left others : List Entry) (e : Entry) → Leaves xs run left → IsPicked e left others → Leaves (xs ++ e ∷ []) run others
leaves_more [] run left others e is picked = (others, subst (λ l. IsPicked e l others) (sym is) picked, refl)
leaves_more (x ∷ xs) run left others e is picked = (is.0, is.1, leaves_more xs is.0 left others e is.2 picked)

-- ---- what a pick answers

pub picks_when : (e : Entry) (old new : List Entry) (answer : Bool) → answer ≡ true → IsPicked e old new → Picks e old answer new
picks_when e old new answer on picked = subst (λ a. Picks e old a new) (sym on) picked

pub picks_not : (e : Entry) (old new : List Entry) (answer : Bool) → answer ≡ false → IsNotThere e old → Picks e old answer new
picks_not e old new answer off none = subst (λ a. Picks e old a new) (sym off) none

pub stop_is : (e x : Entry) (run : List Entry) (places : List ℕ) (at d : ℕ) → x ≡ get_or run (get_or places at d) x
    → ((d : ℕ) (x : Entry) → may_pass e (get_or run (get_or places at d) x) ≡ false) → may_pass e x ≡ false
stop_is e x run places at d is stops = ap (may_pass e) is ∙ stops d x

-- one more entry of the cut is picked
pub leaves_next : (cut run left others : List Entry) (at : ℕ) (e : Entry) (answer : Bool) → at < length cut → e ≡ get_or cut at e → answer ≡ true → Leaves (take at cut) run left
    → Picks e left answer others → Leaves (take (at + 1) cut) run others
leaves_next cut run left others at e answer lt is on leaves picks =
    subst (λ xs. Leaves xs run others) (sym (take_more cut at e lt ∙ ap (λ z. take at cut ++ z ∷ []) (sym is)))
    (leaves_more (take at cut) run left others e leaves (subst (λ a. Picks e left a others) on picks))

-- the entry at this place is not there
pub none_of : (cut run left others : List Entry) (at : ℕ) (e : Entry) (answer : Bool) → at < length cut → e ≡ get_or cut at e → answer ≡ false → Leaves (take at cut) run left
    → Picks e left answer others → IsNoneOf cut run at
none_of cut run left others at e answer lt is off leaves picks = record {
  there = lt;
  left = left;
  before = leaves;
  here = λ d. subst (λ z. IsNotThere z left) (is ∙ same_default cut at lt e d) (subst (λ a. Picks e left a others) off picks);
}
  where
    same_default : (xs : List Entry) (k : ℕ) → k < length xs → (d f : Entry) → get_or xs k d ≡ get_or xs k f
    same_default [] k lt d f = absurd (omega (arith, lt))
    same_default (x ∷ xs) zero lt d f = refl
    same_default (x ∷ xs) (suc k) lt d f = same_default xs k (omega (arith, lt)) d f
