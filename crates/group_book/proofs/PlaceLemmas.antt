-- Where the words of a group are kept: within the room for them, and no two at one place.
use Rattle.std.proofs.Common.{◌≡◌, ℕ, ◌<◌, ◌/◌, ◌%◌, ◌+◌, ◌*◌, true, false, List, length, set, refl, sym, ap, ◌∙◌, subst, inl, inr, arith, get_or-set_same, get_or-set_other}
use Rattle.std.specs.Prelude.{◌==◌, nat_lt, if◌then◌else◌, slice_index_or, Option}
use Rattle.std.proofs.lemmas.Nat.{div-mul-add, mod-mul-add, mul-add-lt}
use Rattle.std.proofs.lemmas.Bool.{and_parts, ltb-true, lt-ltb, cases_Bool, eqb-true, eq-eqb, false≢true}
use Rattle.group_plan.specs.declared.Kind.{Kind}
use Rattle.group_plan.specs.declared.Kind.TheVariants.{Reading, Announcement, Answer}
use Rattle.group_plan.specs.declared.Tag.{Tag}
use Rattle.group_plan.specs.Plans.{PlanView, is_place}
use Rattle.group_plan.proofs.MeterNumbers.{group-lt, in_place}
use Rattle.event_schedule.specs.Events.{is_tag}
use Rattle.group_book.specs.Places.{is_round, kind_number}
use Rattle.group_book.specs.Pages.{PageView}
use Rattle.group_book.specs.Groups.{GroupView, holds, group_tags, word_in}
use Rattle.group_book.proofs.Tags.{everywhere, is_tag-itself}

-- ---- rounds

pub in_round : (plan : PlanView) (g r : ℕ) → is_round plan g r ≡ true → (g < length plan.groups) × (r < plan.rounds)
in_round plan g r h =
    let both = and_parts (nat_lt g (length plan.groups)) (nat_lt r plan.rounds) h in
    (ltb-true g (length plan.groups) both.0, ltb-true r plan.rounds both.1)

-- a place lies in its round
pub is_round-from_place : (plan : PlanView) (g r i : ℕ) → is_place plan g r i ≡ true → is_round plan g r ≡ true
is_round-from_place plan g r i is =
    let both = in_place plan g r i is in
    rw (lt-ltb g (length plan.groups) (group-lt plan.groups g i both.1), lt-ltb r plan.rounds both.0) refl

-- a tag that a group holds is within its rounds and meters
pub in_group : (v : GroupView) (tag : Tag) → holds v tag ≡ true → (tag.round < v.rounds) × (tag.meter < v.meters)
in_group v tag h =
    let both = and_parts (nat_lt tag.round v.rounds) (nat_lt tag.meter v.meters) h in
    (ltb-true tag.round v.rounds both.0, ltb-true tag.meter v.meters both.1)

-- after the page of one round was set
pub pages_after : (pages : List PageView) (rounds at : ℕ) (new : PageView) (P : ℕ → PageView → Type 0) → at < length pages → P at new
    → ((r : ℕ) (d : PageView) → r < rounds → (at == r) ≡ false → P r (slice_index_or pages r d))
    → (r : ℕ) (d : PageView) → r < rounds → P r (slice_index_or (set pages at new) r d)
pages_after pages rounds at new P lt here others r d hr =
    elim (cases_Bool (at == r)) [
      | inl same ↦
          subst (λ n. P n (slice_index_or (set pages at new) n d)) (eqb-true at r same)
          (subst (P at) (sym (get_or-set_same pages at new d lt)) here)
      | inr other ↦
          subst (P r) (sym (get_or-set_other pages at r new d (λ e. false≢true (sym other ∙ eq-eqb at r (sym e))))) (others r d hr other)
    ]

-- ---- tags

kind_number-lt : (k : Kind) → kind_number k < 3
kind_number-lt Reading = omega arith
kind_number-lt Announcement = omega arith
kind_number-lt Answer = omega arith

abbrev kind_of : ℕ → Kind
kind_of n = if n == 0 then Reading else if n == 1 then Announcement else Answer

kind_of-number : (k : Kind) → kind_of (kind_number k) ≡ k
kind_of-number Reading = refl
kind_of-number Announcement = refl
kind_of-number Answer = refl

pub word_in-lt : (rounds meters r i : ℕ) (k : Kind) → r < rounds → i < meters → word_in rounds meters r i k < group_tags rounds meters
word_in-lt rounds meters r i k hr hi =
    mul-add-lt (kind_number k * rounds + r) meters i (rounds * 3) (mul-add-lt (kind_number k) rounds r 3 (kind_number-lt k) hr) hi

-- no two tags of a group at one number
same_tag : (rounds meters : ℕ) (tag : Tag) (r i : ℕ) (k : Kind) → tag.round < rounds → tag.meter < meters → r < rounds → i < meters
    → word_in rounds meters tag.round tag.meter tag.kind ≡ word_in rounds meters r i k → is_tag tag.group r i k tag ≡ true
same_tag rounds meters tag r i k in_rounds in_meters hr hi e =
    let a : ℕ = kind_number tag.kind * rounds + tag.round in
    let b : ℕ = kind_number k * rounds + r in
    let spots : a ≡ b = sym (div-mul-add a meters tag.meter in_meters) ∙ ap (λ n. n / meters) e ∙ div-mul-add b meters i hi in
    let same_meters : tag.meter ≡ i = sym (mod-mul-add a meters tag.meter in_meters) ∙ ap (λ n. n % meters) e ∙ mod-mul-add b meters i hi in
    let numbers : kind_number tag.kind ≡ kind_number k = sym (div-mul-add (kind_number tag.kind) rounds tag.round in_rounds) ∙ ap (λ n. n / rounds) spots ∙ div-mul-add (kind_number k) rounds r hr in
    let same_rounds : tag.round ≡ r = sym (mod-mul-add (kind_number tag.kind) rounds tag.round in_rounds) ∙ ap (λ n. n % rounds) spots ∙ mod-mul-add (kind_number k) rounds r hr in
    let kinds : tag.kind ≡ k = sym (kind_of-number tag.kind) ∙ ap kind_of numbers ∙ kind_of-number k in
    subst (λ x. is_tag tag.group x i k tag ≡ true) same_rounds (subst (λ x. is_tag tag.group tag.round x k tag ≡ true) same_meters
    (subst (λ x. is_tag tag.group tag.round tag.meter x tag ≡ true) kinds (is_tag-itself tag)))

-- after the word of one tag was set
pub words_after : (v : GroupView) (tag : Tag) (new : Option ℕ) (P : ℕ → ℕ → ℕ → Kind → Option ℕ → Type 0)
    → tag.group ≡ v.group → tag.round < v.rounds → tag.meter < v.meters → length v.words ≡ group_tags v.rounds v.meters → P tag.group tag.round tag.meter tag.kind new
    → ((r i : ℕ) (k : Kind) (d : Option ℕ) → r < v.rounds → i < v.meters → is_tag v.group r i k tag ≡ false → P v.group r i k (slice_index_or v.words (word_in v.rounds v.meters r i k) d))
    → (r i : ℕ) (k : Kind) (d : Option ℕ) → r < v.rounds → i < v.meters
    → P v.group r i k (slice_index_or (set v.words (word_in v.rounds v.meters tag.round tag.meter tag.kind) new) (word_in v.rounds v.meters r i k) d)
words_after v tag new P own in_rounds in_meters long here others r i k d hr hi =
    everywhere tag (λ g r i k. g ≡ v.group → r < v.rounds → i < v.meters → P g r i k (slice_index_or (set v.words at new) (word_in v.rounds v.meters r i k) d))
    (λ e x y. subst (P tag.group tag.round tag.meter tag.kind) (sym (get_or-set_same v.words at new d lt)) here)
    (λ g r i k differs e x y.
    subst (λ g. P g r i k (slice_index_or (set v.words at new) (word_in v.rounds v.meters r i k) d)) (sym e)
    (subst (P v.group r i k) (sym (get_or-set_other v.words at (word_in v.rounds v.meters r i k) new d (λ same. false≢true (sym differs ∙ ap (λ n. is_tag n r i k tag) (e ∙ sym own) ∙ same_tag v.rounds v.meters tag r i k in_rounds in_meters x y (sym same)))))
    (others r i k d x y (ap (λ n. is_tag n r i k tag) (sym e) ∙ differs))))
    v.group r i k refl hr hi
  where
    at : ℕ
    at = word_in v.rounds v.meters tag.round tag.meter tag.kind

    lt : at < length v.words
    lt = rw long (word_in-lt v.rounds v.meters tag.round tag.meter tag.kind in_rounds in_meters)
