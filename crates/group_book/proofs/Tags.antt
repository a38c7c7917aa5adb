-- Tags: one by its place and kind, and all others.
use Rattle.std.proofs.Common.{◌≡◌, ℕ, true, false, subst, inl, inr, refl, ap, ◌∙◌}
use Rattle.std.specs.Prelude.{◌==◌, ◌&&◌}
use Rattle.std.proofs.lemmas.Bool.{cases_Bool, eq-eqb}
use Rattle.group_plan.specs.declared.Kind.{Kind}
use Rattle.group_plan.specs.declared.Tag.{Tag}
use Rattle.event_schedule.specs.declared.Event.{Event}
use Rattle.event_schedule.specs.declared.Event.TheVariants.{Send, Take, Close, End}
use Rattle.event_schedule.specs.Events.{is_tag, same_kind}
use Rattle.event_schedule.proofs.EventLemmas.{is_send-true, is_send-itself}

OfTag : (ℕ → ℕ → ℕ → Kind → Type 0) → Event → Type 0
OfTag P (Send tag) = P tag.group tag.round tag.meter tag.kind
OfTag P (Take tag) = Unit {0}
OfTag P (Close g r) = Unit {0}
OfTag P (End g r) = Unit {0}

-- what holds at a tag, and wherever the tag is another, holds everywhere
pub everywhere : (tag : Tag) (P : ℕ → ℕ → ℕ → Kind → Type 0) → P tag.group tag.round tag.meter tag.kind
    → ((g r i : ℕ) (k : Kind) → is_tag g r i k tag ≡ false → P g r i k)
    → (g r i : ℕ) (k : Kind) → P g r i k
unfolding OfTag
everywhere tag P here elsewhere g r i k =
    elim (cases_Bool (is_tag g r i k tag)) [
      | inl is ↦ subst (OfTag P) (is_send-true g r i k (Send tag) is) here
      | inr isnt ↦ elsewhere g r i k isnt
    ]

pub is_tag-itself : (tag : Tag) → is_tag tag.group tag.round tag.meter tag.kind tag ≡ true
is_tag-itself tag = is_send-itself tag.group tag.round tag.meter tag.kind

-- within the round of a tag
pub is_tag-in_round : (tag : Tag) (i : ℕ) (k : Kind) → is_tag tag.group tag.round i k tag ≡ ((tag.meter == i) && same_kind tag.kind k)
is_tag-in_round tag i k =
    ap (λ b. b && (tag.round == tag.round) && (tag.meter == i) && same_kind tag.kind k) (eq-eqb tag.group tag.group refl)
    ∙ ap (λ b. b && (tag.meter == i) && same_kind tag.kind k) (eq-eqb tag.round tag.round refl)
