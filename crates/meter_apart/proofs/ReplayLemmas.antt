-- The lines of a journal, one after another.
use Rattle.std.proofs.Common.{◌≡◌, ℕ, ◌+◌, ◌<◌, ◌≤◌, Bool, true, false, List, [], ◌∷◌, ◌++◌, length, take, drop, get_or, refl, sym, ap, ◌∙◌, subst, arith, length-take-le}
use Rattle.std.specs.Prelude.{if◌then◌else◌, Some, None}
use Rattle.std.proofs.lemmas.List.{drop_more, drop_all, take_more, take_all}
use Rattle.meter_apart.specs.declared.answers.Noted.{Noted}
use Rattle.meter_apart.specs.declared.part.Part.{Part}
use Rattle.meter_apart.specs.declared.keys.MeterKeys.{MeterKeys}
use Rattle.meter_apart.specs.declared.meter.MeterApart.{MeterApart}
use Rattle.meter_apart.specs.Replies.{can_follow, first_wrong}
use Rattle.meter_apart.specs.Meter.{IsAfter, Follows}
use Rattle.meter_apart.specs.Replay.{IsReplayed}

wrong_more : (part : Part) (lines : List Noted) (at : ℕ) (d : Noted) → at < length lines → can_follow part (take at lines) (get_or lines at d) ≡ true
    → first_wrong part (take at lines) (drop at lines) ≡ first_wrong part (take (at + 1) lines) (drop (at + 1) lines)
unfolding first_wrong
wrong_more part lines at d lt can = rw (drop_more lines at d lt, take_more lines at d lt, can) refl

wrong_here : (part : Part) (lines : List Noted) (at : ℕ) (d : Noted) → at < length lines → can_follow part (take at lines) (get_or lines at d) ≡ false → first_wrong part (take at lines) (drop at lines) ≡ Some at
unfolding first_wrong
wrong_here part lines at d lt cannot =
    let long : length (take at lines) ≡ at = length-take-le at lines (omega (arith, lt)) in
    rw (drop_more lines at d lt, cannot, long) refl

wrong_end : (part : Part) (lines : List Noted) (at : ℕ) → length lines ≤ at → first_wrong part (take at lines) (drop at lines) ≡ None
unfolding first_wrong
wrong_end part lines at le = rw (drop_all at lines le) refl

-- the first lines have been followed
pub record Followed (keys : MeterKeys) (lines : List Noted) (at : ℕ) (m : MeterApart) : Type 0 where
  pub keys_are : m.keys ≡ keys
  pub after : IsAfter (take at lines) m
  pub rest : first_wrong keys.part [] lines ≡ first_wrong keys.part (take at lines) (drop at lines)

pub followed_more : (keys : MeterKeys) (lines : List Noted) (at : ℕ) (line : Noted) (m new : MeterApart) (can : Bool) → at < length lines → Followed keys lines at m → can ≡ true
    → line ≡ get_or lines at line → new.keys ≡ m.keys → Follows m (take at lines) line can new → Followed keys lines (at + 1) new
followed_more keys lines at line m new can lt so yes_can line_is same_keys follows_line =
    let follows : Follows m (take at lines) (get_or lines at line) can new = subst (λ x. Follows m (take at lines) x can new) line_is follows_line in
    let now : can_follow keys.part (take at lines) (get_or lines at line) ≡ true
    = ap (λ (k : MeterKeys). can_follow k.part (take at lines) (get_or lines at line)) (sym so.keys_are) ∙ sym follows.follows_is ∙ yes_can in
    record {
      keys_are = same_keys ∙ so.keys_are;
      after = subst (λ ls. IsAfter ls new) (sym (take_more lines at line lt))
          (subst (λ b. IsAfter (if b then take at lines ++ get_or lines at line ∷ [] else take at lines) new) yes_can follows.after);
      rest = so.rest ∙ wrong_more keys.part lines at line lt now;
    }

pub followed_not : (keys : MeterKeys) (lines : List Noted) (at : ℕ) (line : Noted) (m new : MeterApart) (can : Bool) → at < length lines → Followed keys lines at m → can ≡ false
    → line ≡ get_or lines at line → Follows m (take at lines) line can new → first_wrong keys.part [] lines ≡ Some at
followed_not keys lines at line m new can lt so not_can line_is follows_line =
    let follows : Follows m (take at lines) (get_or lines at line) can new = subst (λ x. Follows m (take at lines) x can new) line_is follows_line in
    so.rest
    ∙ wrong_here keys.part lines at line lt (ap (λ (k : MeterKeys). can_follow k.part (take at lines) (get_or lines at line)) (sym so.keys_are) ∙ sym follows.follows_is ∙ not_can)

pub followed_all : (keys : MeterKeys) (lines : List Noted) (at : ℕ) (m : MeterApart) → length lines ≤ at → Followed keys lines at m → IsReplayed keys lines m
followed_all keys lines at m le so = record {
  keys_are = so.keys_are;
  journal = so.rest ∙ wrong_end keys.part lines at le;
  after = subst (λ ls. IsAfter ls m) (take_all at lines le) so.after;
}
