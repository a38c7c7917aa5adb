-- Where rounds and words are kept: within the room for them, and no two at one place.
use Rattle.std.proofs.Common.{◌≡◌, ℕ, ◌<◌, ◌≤◌, ◌/◌, ◌%◌, Bool, true, false, List, length, set, refl, sym, ap, ◌∙◌, subst, inl, inr, arith, get_or-set_same, get_or-set_other}
use Rattle.std.specs.Prelude.{◌==◌, ◌&&◌, slice_index_or}
use Rattle.std.proofs.lemmas.Nat.{div-mul-add, mod-mul-add, mul-add-lt}
use Rattle.std.proofs.lemmas.Bool.{and_parts, and_from, cases_Bool, eqb-true, eq-eqb, false≢true}
use Rattle.missing_round.specs.Sets.{IsSet}
use Rattle.missing_round.specs.Sets.{is_member as is_in}
use Rattle.missing_round.proofs.SetLemmas.{set-picked, is_member-picked}
use Rattle.group_plan.specs.declared.Tag.{Tag}
use Rattle.group_plan.specs.Plans.{PlanView, is_place, is_member, members, size, IsWithinLimits}
use Rattle.group_plan.specs.Places.{place_at, places}
use Rattle.group_plan.proofs.MeterNumbers.{in_place, group-lt, place_at-lt, same_place}
use Rattle.round_machine.specs.Rounds.{RoundView}
use Rattle.group_book.specs.Places.{is_round, all_rounds, page_at}
use Rattle.group_book.proofs.PlaceLemmas.{is_round-from_place}
use Rattle.head_end.specs.Kept.{KeepsRounds}
use Rattle.head_end.specs.Replies.{is_known}

-- ---- a tag that is known

-- its group, round and meter are the plan's, and the meter is a member
pub record KnownTag (plan : PlanView) (tag : Tag) : Type 0 where
  pub place : is_place plan tag.group tag.round tag.meter ≡ true
  pub is_round_of : is_round plan tag.group tag.round ≡ true
  pub group : tag.group < length plan.groups
  pub round : tag.round < plan.rounds
  pub meter : tag.meter < size plan.groups tag.group
  pub is_in_round : is_in tag.meter (members plan.groups tag.group tag.round) ≡ true

pub known_tag : (plan : PlanView) (tag : Tag) → is_known plan tag ≡ true → KnownTag plan tag
known_tag plan tag known =
    let parts = and_parts (is_place plan tag.group tag.round tag.meter) (is_member plan.groups tag.group tag.round tag.meter) known in
    let both = in_place plan tag.group tag.round tag.meter parts.0 in
    record {
      place = parts.0;
      is_round_of = is_round-from_place plan tag.group tag.round tag.meter parts.0;
      group = group-lt plan.groups tag.group tag.meter both.1;
      round = both.0;
      meter = both.1;
      is_in_round = is_member-picked (is_member plan.groups tag.group tag.round) 0 (size plan.groups tag.group) tag.meter (omega arith) (omega (arith, both.1)) ∙ parts.1;
    }

pub members-set : (plan : PlanView) (g r : ℕ) → IsWithinLimits plan → IsSet (members plan.groups g r)
members-set plan g r limits =
    let few : size plan.groups g ≤ 256 = limits.meters g in
    set-picked (is_member plan.groups g r) 0 (size plan.groups g) (omega (arith, few))

-- ---- a round that is set

pub page_at-lt : (plan : PlanView) (g r : ℕ) → g < length plan.groups → r < plan.rounds → page_at plan g r < all_rounds plan
page_at-lt plan g r hg hr = mul-add-lt g plan.rounds r (length plan.groups) hg hr

-- after one round was set
pub rounds_after : (plan : PlanView) (rounds : List RoundView) (a b : ℕ) (new : RoundView) (P : ℕ → ℕ → RoundView → Type 0)
    → a < length plan.groups → b < plan.rounds → length rounds ≡ all_rounds plan → P a b new
    → ((g r : ℕ) (d : RoundView) → g < length plan.groups → r < plan.rounds → ((a == g) && (b == r)) ≡ false → P g r (slice_index_or rounds (page_at plan g r) d))
    → (g r : ℕ) (d : RoundView) → g < length plan.groups → r < plan.rounds → P g r (slice_index_or (set rounds (page_at plan a b) new) (page_at plan g r) d)
rounds_after plan rounds a b new P ha hb long here others g r d hg hr =
    elim (cases_Bool ((a == g) && (b == r))) [
      | inl same ↦
          let both = and_parts (a == g) (b == r) same in
          let eg : a ≡ g = eqb-true a g both.0 in
          let er : b ≡ r = eqb-true b r both.1 in
          subst (λ x. P x r (slice_index_or (set rounds (page_at plan a b) new) (page_at plan x r) d)) eg
          (subst (λ x. P a x (slice_index_or (set rounds (page_at plan a b) new) (page_at plan a x) d)) er
          (subst (P a b) (sym (get_or-set_same rounds (page_at plan a b) new d lt)) here))
      | inr other ↦
          subst (P g r) (sym (get_or-set_other rounds (page_at plan a b) (page_at plan g r) new d (λ e. clash other (sym e)))) (others g r d hg hr other)
    ]
  where
    lt : page_at plan a b < length rounds
    lt = rw long (page_at-lt plan a b ha hb)

    clash : ((a == g) && (b == r)) ≡ false → page_at plan a b ≡ page_at plan g r → ⊥
    clash other e =
        let groups : a ≡ g = sym (div-mul-add a plan.rounds b hb) ∙ ap (λ n. n / plan.rounds) e ∙ div-mul-add g plan.rounds r hr in
        let numbers : b ≡ r = sym (mod-mul-add a plan.rounds b hb) ∙ ap (λ n. n % plan.rounds) e ∙ mod-mul-add g plan.rounds r hr in
        false≢true (sym other ∙ rw (eq-eqb a g groups, eq-eqb b r numbers) refl)

-- ---- a word that is set

abbrev pub is_here : Tag → ℕ → ℕ → ℕ → Bool
is_here tag g r i = (tag.group == g) && (tag.round == r) && (tag.meter == i)

-- after the word of one place was set
pub words_after : (plan : PlanView) (words : List ℕ) (tag : Tag) (w : ℕ) (P : ℕ → ℕ → ℕ → ℕ → Type 0)
    → is_place plan tag.group tag.round tag.meter ≡ true → length words ≡ places plan → P tag.group tag.round tag.meter w
    → ((g r i d : ℕ) → is_place plan g r i ≡ true → is_here tag g r i ≡ false → P g r i (slice_index_or words (place_at plan g r i) d))
    → (g r i d : ℕ) → is_place plan g r i ≡ true → P g r i (slice_index_or (set words (place_at plan tag.group tag.round tag.meter) w) (place_at plan g r i) d)
words_after plan words tag w P inside long here others g r i d is =
    elim (cases_Bool (is_here tag g r i)) [
      | inl same ↦
          let both = and_parts ((tag.group == g) && (tag.round == r)) (tag.meter == i) same in
          let pair = and_parts (tag.group == g) (tag.round == r) both.0 in
          let eg : tag.group ≡ g = eqb-true tag.group g pair.0 in
          let er : tag.round ≡ r = eqb-true tag.round r pair.1 in
          let ei : tag.meter ≡ i = eqb-true tag.meter i both.1 in
          subst (λ x. P x r i (slice_index_or (set words at w) (place_at plan x r i) d)) eg
          (subst (λ x. P tag.group x i (slice_index_or (set words at w) (place_at plan tag.group x i) d)) er
          (subst (λ x. P tag.group tag.round x (slice_index_or (set words at w) (place_at plan tag.group tag.round x) d)) ei
          (subst (P tag.group tag.round tag.meter) (sym (get_or-set_same words at w d lt)) here)))
      | inr other ↦
          subst (P g r i) (sym (get_or-set_other words at (place_at plan g r i) w d (λ e. clash other (sym e)))) (others g r i d is other)
    ]
  where
    at : ℕ
    at = place_at plan tag.group tag.round tag.meter

    lt : at < length words
    lt = let both = in_place plan tag.group tag.round tag.meter inside in rw long (place_at-lt plan tag.group tag.round tag.meter both.0 both.1)

    clash : is_here tag g r i ≡ false → at ≡ place_at plan g r i → ⊥
    clash other e =
        let h = in_place plan tag.group tag.round tag.meter inside in
        let t = in_place plan g r i is in
        let one = same_place plan tag.group tag.round tag.meter g r i h.0 h.1 t.0 t.1 e in
        false≢true (sym other ∙ and_from ((tag.group == g) && (tag.round == r)) (tag.meter == i)
        (and_from (tag.group == g) (tag.round == r) (eq-eqb tag.group g one.group) (eq-eqb tag.round r one.round)) (eq-eqb tag.meter i one.meter))

-- what is kept after a round and a word were set
pub keeps_after : (plan : PlanView) (rounds : List RoundView) (readings answers : List ℕ) (g r : ℕ) (new : RoundView) → KeepsRounds plan rounds readings answers
    → g < length plan.groups → r < plan.rounds → new.members ≡ members plan.groups g r
    → (a b : ℕ) (d : RoundView) → a < length plan.groups → b < plan.rounds → (slice_index_or (set rounds (page_at plan g r) new) (page_at plan a b) d).members ≡ members plan.groups a b
keeps_after plan rounds readings answers g r new keeps hg hr is =
    rounds_after plan rounds g r new (λ a b s. s.members ≡ members plan.groups a b) hg hr keeps.rounds_long is (λ a b d ha hb other. keeps.members_are a b d ha hb)
