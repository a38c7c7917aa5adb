-- The lines of a journal, one after another.
use Rattle.std.proofs.Common.{◌≡◌, ℕ, ◌+◌, ◌-◌, ◌^◌, Bool, List, [], ◌∷◌, ◌++◌, length, refl, sym, ap, ◌∙◌, subst, length-append, arith, ⊎_elim}
use Rattle.std.specs.Prelude.{◌⊎◌, Option, Some, None, Result, Ok, Err}
use Rattle.desk_outside.specs.Wire.{RecallEnds, WireView, after_steps}
use Rattle.desk_outside.specs.declared.wire.Coming.{Coming}
use Rattle.desk_outside.specs.declared.wire.Coming.TheVariants.{Line, TooLong, Rest, End}
use Rattle.apart_lines.specs.declared.heads.HeadFound.{HeadFound}
use Rattle.apart_lines.specs.declared.heads.HeadFound.TheVariants.{Whole, Begun, Other}
use Rattle.apart_lines.specs.Heads.{head_found}
use Rattle.apart_roles.specs.declared.outcome.Recollection.{Recollection}
use Rattle.apart_roles.specs.declared.outcome.Recollection.TheVariants.{Followed, Wrong, Over, Unreadable}
use Rattle.apart_roles.specs.declared.outcome.Start.{Start}
use Rattle.apart_roles.specs.declared.outcome.Start.TheVariants.{Ready}
use Rattle.apart_roles.specs.declared.outcome.RoleError.{RoleError}
use Rattle.apart_roles.specs.declared.outcome.RoleError.TheVariants.{Input, Journal, Output, Memory}
use Rattle.apart_roles.specs.Inputs.{AreNext, Came, ComesTo, Recalls, follow_came, if_follows, number_behind, recall_steps}
use Rattle.apart_roles.specs.Starts.{FollowsLine, GoesOn, GoesOnBy, GoesThrough, IsBroken, IsPart, IsReady, IsWrong, Opens}
use Rattle.apart_roles.proofs.InputLemmas.{all_recalled, came_of, comes_join, recall_steps_join}

-- ---- the next line

pub line_recalled : {L R : Type 0} (reads : List ℕ → Option L) (can : List L → L → Bool) (is : List L → R → Type 0) (journal : List L) (what : Coming) (text told : List ℕ) (v w : WireView)
    (result : Recollection) (new : R) → what ≡ Line → RecallEnds v w text (Ok what) → told ≡ text → FollowsLine is (if_follows can journal (reads told)) result new
    → GoesOn (follow_came reads can) is journal v w (Ok result) new
line_recalled reads can is journal what text told v w result new what_is recalled told_is follows =
    let line = subst (λ k. RecallEnds v w text (Ok k)) what_is recalled in
    by result (subst (λ t. FollowsLine is (if_follows can journal (reads t)) result new) told_is follows) (record { next = line.1; step = line.0 })
  where
    by : (result : Recollection) → FollowsLine is (if_follows can journal (reads text)) result new → Recalls v w (came_of Line text) → GoesOn (follow_came reads can) is journal v w (Ok result) new
    by Followed follows recalls = (came_of Line text, recalls, follows)
    by Wrong follows recalls = (came_of Line text, recalls, refl, follows)
    by Over follows recalls = absurd follows
    by Unreadable follows recalls = absurd follows

pub long_recalled : {L R : Type 0} (reads : List ℕ → Option L) (can : List L → L → Bool) (is : List L → R → Type 0) (journal : List L) (what : Coming) (text : List ℕ) (v w : WireView) (new : R)
    → what ≡ TooLong → RecallEnds v w text (Ok what) → GoesOn (follow_came reads can) is journal v w (Ok Wrong) new
long_recalled reads can is journal what text v w new what_is recalled =
    let line = subst (λ k. RecallEnds v w text (Ok k)) what_is recalled in
    (came_of TooLong text, record { next = line.1; step = line.0 }, refl, refl)

pub none_recalled : {L R : Type 0} (follow : List L → Came → Option (List L)) (is : List L → R → Type 0) (journal : List L) (what : Coming) (text : List ℕ) (v w : WireView) (new : R)
    → is journal new → (what ≡ Rest) ⊎ (what ≡ End) → RecallEnds v w text (Ok what) → GoesOn follow is journal v w (Ok Over) new
none_recalled follow is journal what text v w new after what_is recalled = ⊎_elim
    (λ rest. let line = subst (λ k. RecallEnds v w text (Ok k)) rest recalled in (came_of Rest text, record { next = line.1; step = line.0 }, refl, after))
    (λ end. let line = subst (λ k. RecallEnds v w text (Ok k)) end recalled in (came_of End text, record { next = line.1; step = line.0 }, refl, after))
    what_is

-- ---- all lines

-- so many lines were followed
pub record HasFollowed {L R : Type 0} (follow : List L → Came → Option (List L)) (is : List L → R → Type 0) (v : WireView) (count : ℕ) (w : WireView) (new : R) : Type 0 where
  pub lines : List Came
  pub journal : List L
  pub count_is : count ≡ length lines
  pub comes : ComesTo follow [] lines journal
  pub next : AreNext v.journal lines
  pub steps : w ≡ after_steps v (recall_steps lines)
  pub after : is journal new

pub nothing_followed : {L R : Type 0} (follow : List L → Came → Option (List L)) (is : List L → R → Type 0) (v : WireView) (new : R) → is [] new → HasFollowed follow is v 0 v new
nothing_followed follow is v new after = record { lines = []; journal = []; count_is = refl; comes = refl; next = tt; steps = refl; after = after }

pub one_more : {L R : Type 0} (follow : List L → Came → Option (List L)) (is : List L → R → Type 0) (v : WireView) (count : ℕ) (u w : WireView) (mid new : R) (what : Recollection)
    (has : HasFollowed follow is v count u mid) → what ≡ Followed → GoesOn follow is has.journal u w (Ok what) new → HasFollowed follow is v (count + 1) w new
one_more {L} {R} follow is v count u w mid new what has what_is on = by (subst (λ k. GoesOn follow is has.journal u w (Ok k) new) what_is on)
  where
    by : GoesOn follow is has.journal u w (Ok Followed) new → HasFollowed follow is v (count + 1) w new
    by (came, recalls, followed) = record {
      lines = has.lines ++ came ∷ [];
      journal = followed.next;
      count_is = let before = has.count_is in let longer = length-append has.lines (came ∷ []) in omega (arith, before, longer);
      comes = comes_join follow [] has.lines came has.journal followed.next has.comes followed.follows;
      next = all_recalled has.lines came v u w has.steps has.next recalls;
      steps = recall_steps_join has.lines came v u w has.steps recalls;
      after = followed.after;
    }

pub one_wrong : {L R : Type 0} (follow : List L → Came → Option (List L)) (is : List L → R → Type 0) (from : ℕ) (v : WireView) (count : ℕ) (u w : WireView) (mid new : R) (what : Recollection) (number : ℕ)
    (has : HasFollowed follow is v count u mid) → what ≡ Wrong → GoesOn follow is has.journal u w (Ok what) new → number ≡ number_behind from count → IsWrong follow from v w number
one_wrong follow is from v count u w mid new what number has what_is on number_is = by (subst (λ k. GoesOn follow is has.journal u w (Ok k) new) what_is on)
  where
    by : GoesOn follow is has.journal u w (Ok Wrong) new → IsWrong follow from v w number
    by (came, recalls, line, wrong) = record {
      lines = has.lines;
      came = came;
      journal = has.journal;
      comes = has.comes;
      line = line;
      wrong = wrong;
      next = all_recalled has.lines came v u w has.steps has.next recalls;
      steps = recall_steps_join has.lines came v u w has.steps recalls;
      number_is = number_is ∙ ap (number_behind from) has.count_is;
    }

pub all_followed : {L R : Type 0} (follow : List L → Came → Option (List L)) (is : List L → R → Type 0) (v : WireView) (count : ℕ) (u w : WireView) (mid new : R) (what : Recollection)
    (has : HasFollowed follow is v count u mid) → what ≡ Over → GoesOn follow is has.journal u w (Ok what) new → IsReady follow is v w new
all_followed follow is v count u w mid new what has what_is on = by (subst (λ k. GoesOn follow is has.journal u w (Ok k) new) what_is on)
  where
    by : GoesOn follow is has.journal u w (Ok Over) new → IsReady follow is v w new
    by (came, recalls, over, after) = record {
      lines = has.lines;
      last = Some came;
      journal = has.journal;
      comes = has.comes;
      ends = over;
      next = all_recalled has.lines came v u w has.steps has.next recalls;
      steps = recall_steps_join has.lines came v u w has.steps recalls;
      after = after;
    }

pub most_followed : {L R : Type 0} (follow : List L → Came → Option (List L)) (is : List L → R → Type 0) (v : WireView) (count : ℕ) (w : WireView) (mid : R)
    → HasFollowed follow is v count w mid → count ≡ 2 ^ 64 - 1 → IsReady follow is v w mid
most_followed follow is v count w mid has full = record {
  lines = has.lines;
  last = None;
  journal = has.journal;
  comes = has.comes;
  ends = sym has.count_is ∙ full;
  next = has.next;
  steps = has.steps;
  after = has.after;
}

pub some_followed : {L R : Type 0} (follow : List L → Came → Option (List L)) (is : List L → R → Type 0) (v : WireView) (count : ℕ) (w : WireView) (mid : R)
    → HasFollowed follow is v count w mid → IsPart follow v w
some_followed follow is v count w mid has = record { lines = has.lines; journal = has.journal; comes = has.comes; next = has.next; steps = has.steps }

pub part_followed : {L R : Type 0} (follow : List L → Came → Option (List L)) (is : List L → R → Type 0) (from : ℕ) (v : WireView) (count : ℕ) (u w : WireView) (mid new : R) (error : RoleError)
    (result : Result (Start R) RoleError) (has : HasFollowed follow is v count u mid) → result ≡ Err error → GoesOn follow is has.journal u w (Err error) new → GoesThrough follow is from v w result
part_followed {L} {R} follow is from v count u w mid new error result has result_is on =
    subst (λ (r : Result (Start R) RoleError). GoesThrough follow is from v w r) (sym result_is) (by error on)
  where
    by : (error : RoleError) → GoesOn follow is has.journal u w (Err error) new → GoesThrough follow is from v w (Err error)
    by Memory on = record { lines = has.lines; journal = has.journal; comes = has.comes; next = has.next; steps = on ∙ has.steps }
    by Input on = absurd on
    by Journal on = absurd on
    by Output on = absurd on

pub then_broken : {L R : Type 0} (follow : List L → Came → Option (List L)) (is : List L → R → Type 0) (v : WireView) (count : ℕ) (u w : WireView) (mid new : R) (what : Recollection)
    (has : HasFollowed follow is v count u mid) → what ≡ Unreadable → GoesOn follow is has.journal u w (Ok what) new → IsBroken follow v w
then_broken follow is v count u w mid new what has what_is on = record {
  view = u;
  part = some_followed follow is v count u mid has;
  step = subst (λ k. GoesOn follow is has.journal u w (Ok k) new) what_is on;
}

-- ---- a role that is ready

-- it is in the state that some journal gives
pub record HasState {L R : Type 0} (is : List L → R → Type 0) (role : R) : Type 0 where
  pub journal : List L
  pub after : is journal role

pub ready_has : {L R : Type 0} (follow : List L → Came → Option (List L)) (is : List L → R → Type 0) (name head : List ℕ) (v w : WireView) (new : R)
    → Opens follow is name head v w (Ok (Ready new)) → HasState is new
ready_has follow is name head v w new opens = ⊎_elim (λ none. absurd none) (λ opened. by opened.view (head_found 1 head opened.front) opened.goes_on) opens
  where
    by : (u : WireView) (found : HeadFound) → GoesOnBy found follow is head u w (Ok (Ready new)) → HasState is new
    by u Whole read = record { journal = read.ready.journal; after = read.ready.after }
    by u Begun begun = record { journal = []; after = begun.after }
    by u (Other line) (is, left) = absurd cc
