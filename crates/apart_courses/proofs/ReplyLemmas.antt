-- What it says of a frame that it is taken fresh.
use Rattle.std.proofs.Common.{◌≡◌, ℕ, ◌<◌, Bool, true, false, not, List, length, refl, sym, ap, ◌∙◌}
use Rattle.std.specs.Prelude.{◌==◌, nat_lt, if◌then◌else◌, Some, None}
use Rattle.std.proofs.lemmas.Bool.{false≢true, and_parts, ltb-true}
use Rattle.group_plan.specs.declared.Kind.{Kind}
use Rattle.group_plan.specs.declared.Kind.TheVariants.{Reading, Announcement, Answer}
use Rattle.group_plan.specs.declared.Tag.{Tag}
use Rattle.group_plan.specs.Plans.{PlanView, size, is_place, is_member}
use Rattle.group_plan.proofs.MeterNumbers.{group-lt}
use Rattle.meter_frames.specs.declared.Frame.{Frame}
use Rattle.head_end.specs.declared.answers.Logged.{Logged}
use Rattle.head_end.specs.declared.answers.Refusal.TheVariants as refusals
use Rattle.head_end.specs.declared.answers.Reply.TheVariants.{Fresh, Again, Differs, Late, Void}
use Rattle.head_end.specs.Journal.{is_closed, is_ended, is_taken, word_taken}
use Rattle.head_end.specs.Replies.{is_known, has_other_set, repeated_by, is_asked, refusal_by, verdict_by, reply_by, reply, is_fresh}

-- a known place
pub record IsPlaceOf (plan : PlanView) (tag : Tag) : Type 0 where
  pub group : tag.group < length plan.groups
  pub round : tag.round < plan.rounds

pub place_known : (plan : PlanView) (tag : Tag) → is_known plan tag ≡ true → IsPlaceOf plan tag
place_known plan tag known =
    let place = (and_parts (is_place plan tag.group tag.round tag.meter) (is_member plan.groups tag.group tag.round tag.meter) known).0 in
    let parts = and_parts (nat_lt tag.round plan.rounds) (nat_lt tag.meter (size plan.groups tag.group)) place in
    record {
      group = group-lt plan.groups tag.group tag.meter (ltb-true tag.meter (size plan.groups tag.group) parts.1);
      round = ltb-true tag.round plan.rounds parts.0;
    }

stale : (a b : ℕ) → is_fresh (repeated_by a b) ≡ false
stale a b = by (a == b)
  where
    by : (c : Bool) → is_fresh (if c then Again else Differs) ≡ false
    by true = refl
    by false = refl

-- what a fresh frame of each kind is
abbrev pub FreshOf : Kind → PlanView → List Logged → Frame → Type 0
FreshOf Reading plan j f = (is_known plan f.tag ≡ true) × (is_taken f.tag.group f.tag.round Reading j f.tag.meter ≡ false) × (is_closed plan j f.tag.round ≡ false)
FreshOf Announcement plan j f = ⊥
FreshOf Answer plan j f = (is_known plan f.tag ≡ true) × (is_taken f.tag.group f.tag.round Answer j f.tag.meter ≡ false) × (is_ended plan j f.tag.round ≡ false)

fresh_reading : (known taken over : Bool) (a b : ℕ) → is_fresh (reply_by (if known then None else Some refusals.Plan) (if taken then repeated_by a b else if over then Late else Fresh)) ≡ true
    → (known ≡ true) × (taken ≡ false) × (over ≡ false)
fresh_reading false taken over a b is = absurd (false≢true is)
fresh_reading true true over a b is = absurd (false≢true (sym (stale a b) ∙ is))
fresh_reading true false true a b is = absurd (false≢true is)
fresh_reading true false false a b is = (refl, refl, refl)

fresh_answer : (known other asked taken over : Bool) (a b : ℕ)
    → is_fresh (reply_by (if known then (if other then Some refusals.Set else None) else Some refusals.Plan) (if not asked then Void else if taken then repeated_by a b else if over then Late else Fresh)) ≡ true
    → (known ≡ true) × (taken ≡ false) × (over ≡ false)
fresh_answer false other asked taken over a b is = absurd (false≢true is)
fresh_answer true true asked taken over a b is = absurd (false≢true is)
fresh_answer true false false taken over a b is = absurd (false≢true is)
fresh_answer true false true true over a b is = absurd (false≢true (sym (stale a b) ∙ is))
fresh_answer true false true false true a b is = absurd (false≢true is)
fresh_answer true false true false false a b is = (refl, refl, refl)

pub fresh_by : (k : Kind) (plan : PlanView) (j : List Logged) (f : Frame) → f.tag.kind ≡ k → is_fresh (reply_by (refusal_by k plan j f) (verdict_by k plan j f)) ≡ true → FreshOf k plan j f
fresh_by Reading plan j f kind is =
    fresh_reading (is_known plan f.tag) (is_taken f.tag.group f.tag.round Reading j f.tag.meter) (is_closed plan j f.tag.round) (word_taken f.tag.group f.tag.round f.tag.kind j f.tag.meter) f.word is
fresh_by Announcement plan j f kind is = absurd (false≢true is)
fresh_by Answer plan j f kind is =
    fresh_answer (is_known plan f.tag) (has_other_set plan j f) (is_asked plan j f.tag) (is_taken f.tag.group f.tag.round Answer j f.tag.meter) (is_ended plan j f.tag.round)
    (word_taken f.tag.group f.tag.round f.tag.kind j f.tag.meter) f.word is

pub fresh_is : (plan : PlanView) (j : List Logged) (f : Frame) → reply plan j f ≡ Fresh → FreshOf f.tag.kind plan j f
fresh_is plan j f is = fresh_by f.tag.kind plan j f refl (ap is_fresh is)
