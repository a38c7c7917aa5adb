-- The lines of a journal, one after another.
use Rattle.std.proofs.Common.{◌≡◌, ℕ, ◌+◌, ◌<◌, ◌≤◌, Bool, true, false, List, [], ◌∷◌, ◌++◌, length, take, drop, get_or, refl, sym, ap, ◌∙◌, subst, arith, length-take-le}
use Rattle.std.specs.Prelude.{if◌then◌else◌, Some, None}
use Rattle.std.proofs.lemmas.List.{drop_more, drop_all, take_more, take_all}
use Rattle.group_plan.specs.Plans.{PlanView}
use Rattle.head_end.specs.declared.answers.Logged.{Logged}
use Rattle.head_end.specs.declared.head.HeadEnd.{HeadEnd}
use Rattle.head_end.specs.Replies.{can_follow, first_wrong}
use Rattle.head_end.specs.Head.{IsAfter, Follows}
use Rattle.head_end.specs.Replay.{IsReplayed}

wrong_more : (plan : PlanView) (lines : List Logged) (at : ℕ) (d : Logged) → at < length lines → can_follow plan (take at lines) (get_or lines at d) ≡ true
    → first_wrong plan (take at lines) (drop at lines) ≡ first_wrong plan (take (at + 1) lines) (drop (at + 1) lines)
unfolding first_wrong
wrong_more plan lines at d lt can = rw (drop_more lines at d lt, take_more lines at d lt, can) refl

wrong_here : (plan : PlanView) (lines : List Logged) (at : ℕ) (d : Logged) → at < length lines → can_follow plan (take at lines) (get_or lines at d) ≡ false → first_wrong plan (take at lines) (drop at lines) ≡ Some at
unfolding first_wrong
wrong_here plan lines at d lt cannot =
    let long : length (take at lines) ≡ at = length-take-le at lines (omega (arith, lt)) in
    rw (drop_more lines at d lt, cannot, long) refl

wrong_end : (plan : PlanView) (lines : List Logged) (at : ℕ) → length lines ≤ at → first_wrong plan (take at lines) (drop at lines) ≡ None
unfolding first_wrong
wrong_end plan lines at le = rw (drop_all at lines le) refl

-- the first lines have been followed
pub record Followed (plan : PlanView) (lines : List Logged) (at : ℕ) (h : HeadEnd) : Type 0 where
  pub plan_is : h.plan ≡ plan
  pub after : IsAfter (take at lines) h
  pub rest : first_wrong plan [] lines ≡ first_wrong plan (take at lines) (drop at lines)

pub followed_more : (plan : PlanView) (lines : List Logged) (at : ℕ) (line : Logged) (h new : HeadEnd) (can : Bool) → at < length lines → Followed plan lines at h → can ≡ true
    → line ≡ get_or lines at line → Follows h (take at lines) line can new → Followed plan lines (at + 1) new
followed_more plan lines at line h new can lt so yes_can line_is follows_line =
    let follows : Follows h (take at lines) (get_or lines at line) can new = subst (λ x. Follows h (take at lines) x can new) line_is follows_line in
    let now : can_follow plan (take at lines) (get_or lines at line) ≡ true
    = ap (λ p. can_follow p (take at lines) (get_or lines at line)) (sym so.plan_is) ∙ sym follows.follows_is ∙ yes_can in
    record {
      plan_is = follows.plan ∙ so.plan_is;
      after = subst (λ ls. IsAfter ls new) (sym (take_more lines at line lt))
          (subst (λ b. IsAfter (if b then take at lines ++ get_or lines at line ∷ [] else take at lines) new) yes_can follows.after);
      rest = so.rest ∙ wrong_more plan lines at line lt now;
    }

pub followed_not : (plan : PlanView) (lines : List Logged) (at : ℕ) (line : Logged) (h new : HeadEnd) (can : Bool) → at < length lines → Followed plan lines at h → can ≡ false
    → line ≡ get_or lines at line → Follows h (take at lines) line can new → first_wrong plan [] lines ≡ Some at
followed_not plan lines at line h new can lt so not_can line_is follows_line =
    let follows : Follows h (take at lines) (get_or lines at line) can new = subst (λ x. Follows h (take at lines) x can new) line_is follows_line in
    so.rest
    ∙ wrong_here plan lines at line lt (ap (λ p. can_follow p (take at lines) (get_or lines at line)) (sym so.plan_is) ∙ sym follows.follows_is ∙ not_can)

pub followed_all : (plan : PlanView) (lines : List Logged) (at : ℕ) (h : HeadEnd) → length lines ≤ at → Followed plan lines at h → IsReplayed plan lines h
followed_all plan lines at h le so = record {
  plan_is = so.plan_is;
  journal = so.rest ∙ wrong_end plan lines at le;
  after = subst (λ ls. IsAfter ls h) (take_all at lines le) so.after;
}
