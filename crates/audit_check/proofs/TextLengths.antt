-- How long the texts of a run are: a transcript and a report of a plan within the limits have fewer than 2^28 bytes.
use Rattle.std.proofs.Common.{◌≡◌, ℕ, ◌+◌, ◌*◌, ◌^◌, ◌<◌, ◌≤◌, nat_lt, true, List, [], ◌∷◌, length, map, All, Some, None, refl, arith, get_or, length-append, decimal}
use Rattle.std.specs.List.{sum_by, join_with_byte, list_all}
use Rattle.std.proofs.lemmas.Bool.{and_parts}
use Rattle.std.proofs.lemmas.Bool.Decides.{nat_tests}
use Rattle.std.proofs.lemmas.Fmt.{length-decimal-le}
use Rattle.std.proofs.lemmas.List.Elements.{All-nil, All-cons}
use Rattle.std.proofs.lemmas.List.Sums.{sum_by-cons, sum_by-le}
use Rattle.hex.specs.Hex.{encode_lower, lower_digits}
use Rattle.hex.proofs.HexLemmas.{length-encode_with}
use Rattle.missing_round.specs.Sets.{IsSet}
use Rattle.group_plan.specs.declared.Kind.{Kind}
use Rattle.group_plan.specs.declared.Kind.TheVariants.{Reading, Announcement, Answer}
use Rattle.group_plan.specs.declared.Tag.{Tag}
use Rattle.group_plan.specs.Plans.{PlanView, IsWithinLimits, size}
use Rattle.group_plan.proofs.MeterNumbers.{group-lt}
use Rattle.meter_frames.specs.declared.Frame.{Frame}
use Rattle.meter_frames.specs.Frames.{spelling}
use Rattle.round_machine.specs.declared.Verdict.{Verdict}
use Rattle.round_machine.specs.declared.Verdict.TheVariants.{Fresh, Again, Late, Void}
use Rattle.round_machine.specs.declared.Closing.{Closing}
use Rattle.round_machine.specs.declared.Closing.TheVariants as closing
use Rattle.round_machine.specs.declared.Ending.{Ending}
use Rattle.round_machine.specs.declared.Ending.TheVariants as ending
use Rattle.field_texts.specs.Sets.{numbers_text}
use Rattle.field_texts.proofs.SetLaws.{Rising, set_rising}
use Rattle.link_lanes.specs.Fates.{is_delay, IsFate}
use Rattle.event_schedule.specs.declared.Line.{Line}
use Rattle.event_schedule.specs.declared.Line.TheVariants.{Send, Take, Close, End}
use Rattle.event_schedule.specs.Transcripts.{HasPlace, HasRound, IsWithin, FitsLine, IsLine}
use Rattle.event_schedule.proofs.ListLemmas.{sum_by-map}
use Rattle.transcript_text.specs.declared.version.Version.TheVariants.{Two}
use Rattle.transcript_text.specs.Spelling.{joined, kind_text, verdict_text, line_fields}

-- ---- joined texts

-- each piece with its mark
pub join_le : (c : ℕ) (fs : List (List ℕ)) → length (join_with_byte c fs) ≤ sum_by (λ f. length f + 1) fs
join_le c [] = omega arith
join_le c (f ∷ []) = omega (arith, sum_by-cons (λ (f : List ℕ). length f + 1) f [])
join_le c (f ∷ g ∷ gs) =
    omega (arith, length-append f (c ∷ join_with_byte c (g ∷ gs)), join_le c (g ∷ gs), sum_by-cons (λ (f : List ℕ). length f + 1) f (g ∷ gs))

pub numbers_le : (m : ℕ) (xs : List ℕ) → All (λ x. length (decimal x) + 1 ≤ m) xs → length (numbers_text xs) ≤ 1 + length xs * m
numbers_le m [] few = omega arith
numbers_le m (x ∷ xs) few =
    let joined = join_le 43 (map decimal (x ∷ xs)) in
    let mapped = sum_by-map (λ (f : List ℕ). length f + 1) decimal (x ∷ xs) in
    let each = sum_by-le (λ x. length (decimal x) + 1) m (x ∷ xs) few in
    omega (arith, joined, mapped, each)

-- ---- numbers

digits : (k n : ℕ) → 0 < k → n < 10 ^ k → n < 2 ^ 64 → length (decimal n) ≤ k
digits k n some few small = length-decimal-le k n some few small

pub two : (n : ℕ) → n ≤ 16 → length (decimal n) ≤ 2
two n few = digits 2 n (omega arith) (omega (arith, few)) (omega (arith, few))

pub three : (n : ℕ) → n < 256 → length (decimal n) ≤ 3
three n few = digits 3 n (omega arith) (omega (arith, few)) (omega (arith, few))

pub four : (n : ℕ) → n ≤ 4096 → length (decimal n) ≤ 4
four n few = digits 4 n (omega arith) (omega (arith, few)) (omega (arith, few))

pub ten : (n : ℕ) → n < 2 ^ 32 → length (decimal n) ≤ 10
ten n few = digits 10 n (omega arith) (omega (arith, few)) (omega (arith, few))

pub twenty : (n : ℕ) → n < 2 ^ 64 → length (decimal n) ≤ 20
twenty n few = digits 20 n (omega arith) (omega (arith, few)) few

-- ---- sets and fates

set_few : (low high : ℕ) (xs : List ℕ) → Rising low high xs → low ≤ high → length xs + low ≤ high
set_few low high [] rising le = omega (arith, le)
set_few low high (x ∷ xs) rising le =
    let at = rising.0 in
    let below = rising.1 in
    let rest = set_few (x + 1) high xs rising.2 (omega (arith, below)) in
    omega (arith, at, rest)

pub set_le : (n : ℕ) (xs : List ℕ) → n ≤ 256 → IsSet xs → IsWithin n xs → length (numbers_text xs) ≤ 1 + n * 4
set_le n xs few set within =
    let small : All (λ x. length (decimal x) + 1 ≤ 4) xs = λ k d lt. let here = set.small k d lt in let long = three (get_or xs k d) here in omega (arith, long) in
    let count = set_few 0 n xs (set_rising n xs set within) (omega arith) in
    omega (arith, numbers_le 4 xs small, count)

delays_small : (fate : List ℕ) → list_all is_delay fate ≡ true → All (λ d. length (decimal d) + 1 ≤ 3) fate
delays_small [] all = All-nil (λ d. length (decimal d) + 1 ≤ 3)
delays_small (d ∷ ds) all =
    let both = and_parts (is_delay d) (list_all is_delay ds) all in
    let few : d ≤ 16 = grind (arith, nat_tests, both.0) in
    let long = two d few in
    All-cons (λ d. length (decimal d) + 1 ≤ 3) d ds (omega (arith, long)) (delays_small ds both.1)

fate_le : (fate : List ℕ) → IsFate fate → length (numbers_text fate) ≤ 10
fate_le fate is = let few = is.few in omega (arith, numbers_le 3 fate (delays_small fate is.delays), few)

-- ---- the lines of entries

kind_le : (kind : Kind) → length (kind_text kind) ≤ 1
kind_le Reading = omega arith
kind_le Announcement = omega arith
kind_le Answer = omega arith

verdict_le : (verdict : Verdict) → length (verdict_text verdict) ≤ 5
verdict_le Fresh = omega arith
verdict_le Again = omega arith
verdict_le Late = omega arith
verdict_le Void = omega arith

spelling_long : (f : Frame) → length (spelling f) ≡ 52
unfolding spelling
spelling_long f = refl

frame_le : (f : Frame) → length (encode_lower (spelling f)) ≤ 104
frame_le f = omega (arith, length-encode_with lower_digits (spelling f), spelling_long f)

-- a place of the plan is a small one
pub record IsSmallPlace (g r i : ℕ) : Type 0 where
  pub group : g < 256
  pub round : r ≤ 4096
  pub meter : i < 256

place_small : (plan : PlanView) → IsWithinLimits plan → (tag : Tag) → HasPlace plan tag → IsSmallPlace tag.group tag.round tag.meter
place_small plan limits tag is =
    let both = and_parts (nat_lt tag.round plan.rounds) (nat_lt tag.meter (size plan.groups tag.group)) is in
    let round : tag.round < plan.rounds = grind (arith, nat_tests, both.0) in
    let meter : tag.meter < size plan.groups tag.group = grind (arith, nat_tests, both.1) in
    let group = group-lt plan.groups tag.group tag.meter meter in
    let groups = limits.groups in
    let rounds = limits.rounds in
    let meters = limits.meters tag.group in
    record { group = omega (arith, group, groups); round = omega (arith, round, rounds); meter = omega (arith, meter, meters) }

-- the most bytes that a line takes, with its newline
abbrev pub most : PlanView → Line → ℕ
most plan (Send tag frame) = 150
most plan (Take tag verdict) = 40
most plan (Close g r c) = size plan.groups g * 25
most plan (End g r e) = size plan.groups g * 25

module _ (plan : PlanView) (limits : IsWithinLimits plan) (tick : ℕ) (fate : List ℕ) (when : tick < 2 ^ 32) (is : IsFate fate) where
  abbrev line : Line → List ℕ
  line l = joined (decimal tick ∷ line_fields Two fate l)

  rounds_meters : (g r : ℕ) → HasRound plan g r → (g < 256) × (r ≤ 4096) × (2 ≤ size plan.groups g) × (size plan.groups g ≤ 256)
  rounds_meters g r there =
      let group = there.group in
      let round = there.round in
      let groups = limits.groups in
      let rounds = limits.rounds in
      (omega (arith, group, groups), omega (arith, round, rounds), limits.two_meters g group, limits.meters g)

  closing_le : (g r : ℕ) (c : Closing) → FitsLine plan fate (Close g r c) → IsLine (Close g r c) → length (line (Close g r c)) + 1 ≤ size plan.groups g * 25
  closing_le g r (closing.Announced set) fits right =
      let there = rounds_meters g r fits.0 in
      let some = there.2 in
      omega (arith, join_le 44 (decimal tick ∷ line_fields Two fate (Close g r (closing.Announced set))), ten tick when, three g there.0, four r there.1, some, set_le (size plan.groups g) set there.3 right fits.1)
  closing_le g r (closing.Thin set) fits right =
      let there = rounds_meters g r fits.0 in
      let some = there.2 in
      omega (arith, join_le 44 (decimal tick ∷ line_fields Two fate (Close g r (closing.Thin set))), ten tick when, three g there.0, four r there.1, some, set_le (size plan.groups g) set there.3 right fits.1)
  closing_le g r closing.Already fits right =
      let there = rounds_meters g r fits.0 in
      let some = there.2 in
      omega (arith, join_le 44 (decimal tick ∷ line_fields Two fate (Close g r closing.Already)), ten tick when, three g there.0, four r there.1, some)

  ending_le : (g r : ℕ) (e : Ending) → FitsLine plan fate (End g r e) → IsLine (End g r e) → length (line (End g r e)) + 1 ≤ size plan.groups g * 25
  ending_le g r (ending.Total total) fits right =
      let there = rounds_meters g r fits.0 in
      let some = there.2 in
      omega (arith, join_le 44 (decimal tick ∷ line_fields Two fate (End g r (ending.Total total))), ten tick when, three g there.0, four r there.1, some, twenty total right)
  ending_le g r (ending.Lacking set) fits right =
      let there = rounds_meters g r fits.0 in
      let some = there.2 in
      omega (arith, join_le 44 (decimal tick ∷ line_fields Two fate (End g r (ending.Lacking set))), ten tick when, three g there.0, four r there.1, some, set_le (size plan.groups g) set there.3 right fits.1)
  ending_le g r ending.Thin fits right =
      let there = rounds_meters g r fits.0 in
      let some = there.2 in
      omega (arith, join_le 44 (decimal tick ∷ line_fields Two fate (End g r ending.Thin)), ten tick when, three g there.0, four r there.1, some)
  ending_le g r ending.Already fits right =
      let there = rounds_meters g r fits.0 in
      let some = there.2 in
      omega (arith, join_le 44 (decimal tick ∷ line_fields Two fate (End g r ending.Already)), ten tick when, three g there.0, four r there.1, some)
  ending_le g r ending.NotClosed fits right =
      let there = rounds_meters g r fits.0 in
      let some = there.2 in
      omega (arith, join_le 44 (decimal tick ∷ line_fields Two fate (End g r ending.NotClosed)), ten tick when, three g there.0, four r there.1, some)

  pub line_le : (l : Line) → FitsLine plan fate l → IsLine l → length (line l) + 1 ≤ most plan l
  line_le (Send tag (Some f)) fits right =
      let small = place_small plan limits tag fits.0 in
      omega (
        arith,
        join_le 44 (decimal tick ∷ line_fields Two fate (Send tag (Some f))),
        ten tick when,
        three tag.group small.group,
        four tag.round small.round,
        kind_le tag.kind,
        three tag.meter small.meter,
        fate_le fate is,
        frame_le f,
      )
  line_le (Send tag None) fits right =
      let small = place_small plan limits tag fits.0 in
      omega (
        arith,
        join_le 44 (decimal tick ∷ line_fields Two fate (Send tag None)),
        ten tick when,
        three tag.group small.group,
        four tag.round small.round,
        kind_le tag.kind,
        three tag.meter small.meter,
      )
  line_le (Take tag verdict) fits right =
      let small = place_small plan limits tag fits.0 in
      omega (
        arith,
        join_le 44 (decimal tick ∷ line_fields Two fate (Take tag verdict)),
        ten tick when,
        three tag.group small.group,
        four tag.round small.round,
        kind_le tag.kind,
        three tag.meter small.meter,
        verdict_le verdict,
      )
  line_le (Close g r c) fits right = closing_le g r c fits right
  line_le (End g r e) fits right = ending_le g r e fits right
