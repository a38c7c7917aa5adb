-- Events and their tags.
use Rattle.std.proofs.Common.{◌≡◌, ℕ, true, List, [], ◌∷◌, refl, ap, ◌∙◌, ◌&&◌, map}
use Rattle.std.proofs.lemmas.Bool.{and_from, eq-eqb, false≢true, and_parts, eqb-true}
use Rattle.group_plan.specs.declared.Kind.{Kind}
use Rattle.group_plan.specs.declared.Kind.TheVariants.{Reading, Announcement, Answer}
use Rattle.event_schedule.specs.declared.Event.{Event}
use Rattle.event_schedule.specs.declared.Event.TheVariants.{Send, Take, Close, End}
use Rattle.event_schedule.specs.Schedule.{Shape}
use Rattle.event_schedule.specs.Events.{same_kind, is_send, event_of}
use Rattle.event_schedule.specs.Transcript.{Contents, line, lines_after}
use Rattle.std.specs.Prelude.{◌==◌}

same_kind-same : (k : Kind) → same_kind k k ≡ true
same_kind-same Reading = refl
same_kind-same Announcement = refl
same_kind-same Answer = refl

pub is_send-itself : (g r i : ℕ) (k : Kind) → is_send g r i k (Send (record { group = g; round = r; meter = i; kind = k })) ≡ true
is_send-itself g r i k =
    and_from _ _ (and_from _ _ (and_from _ _ (eq-eqb g g refl) (eq-eqb r r refl)) (eq-eqb i i refl)) (same_kind-same k)

same_kind-true : (k l : Kind) → same_kind k l ≡ true → k ≡ l
same_kind-true Reading Reading h = refl
same_kind-true Announcement Announcement h = refl
same_kind-true Answer Answer h = refl
same_kind-true Reading Announcement h = absurd (false≢true h)
same_kind-true Reading Answer h = absurd (false≢true h)
same_kind-true Announcement Reading h = absurd (false≢true h)
same_kind-true Announcement Answer h = absurd (false≢true h)
same_kind-true Answer Reading h = absurd (false≢true h)
same_kind-true Answer Announcement h = absurd (false≢true h)

pub is_send-true : (g r i : ℕ) (k : Kind) (e : Event) → is_send g r i k e ≡ true → e ≡ Send (record { group = g; round = r; meter = i; kind = k })
is_send-true g r i k (Send tag) h =
    let all = and_parts ((tag.group == g) && (tag.round == r) && (tag.meter == i)) (same_kind tag.kind k) h in
    let places = and_parts ((tag.group == g) && (tag.round == r)) (tag.meter == i) all.0 in
    let rounds = and_parts (tag.group == g) (tag.round == r) places.0 in
    let same_group : tag.group ≡ g = eqb-true tag.group g rounds.0 in
    let same_round : tag.round ≡ r = eqb-true tag.round r rounds.1 in
    let same_meter : tag.meter ≡ i = eqb-true tag.meter i places.1 in
    let same_kinds : tag.kind ≡ k = same_kind-true tag.kind k all.1 in
    λ j. Send (record { group = same_group j; round = same_round j; meter = same_meter j; kind = same_kinds j })
is_send-true g r i k (Take tag) h = absurd (false≢true h)
is_send-true g r i k (Close a b) h = absurd (false≢true h)
is_send-true g r i k (End a b) h = absurd (false≢true h)

-- ---- what the lines of a transcript say

pub event_of-line : (s : Shape) (c : Contents) (p : List Event) (e : Event) → event_of (line s c p e) ≡ e
event_of-line s c p (Send tag) = refl
event_of-line s c p (Take tag) = refl
event_of-line s c p (Close g r) = refl
event_of-line s c p (End g r) = refl

pub events-lines : (s : Shape) (c : Contents) (p rest : List Event) → map event_of (lines_after s c p rest) ≡ rest
unfolding lines_after
events-lines s c p [] = refl
events-lines s c p (e ∷ rest) = ap (λ z. z ∷ map event_of (lines_after s c (e ∷ p) rest)) (event_of-line s c p e) ∙ ap (λ l. e ∷ l) (events-lines s c (e ∷ p) rest)
