-- An entry that is written is read.
use Rattle.std.proofs.Common.{◌≡◌, ◌<◌, ◌≤◌, ◌^◌, ℕ, List, [], ◌∷◌, length, refl, arith, decimal, Some, None, Ok}
use Rattle.std.specs.Prelude.{codes}
use Rattle.std.proofs.lemmas.Bool.Decides.{nat_tests}
use Rattle.hex.specs.Hex.{encode_lower}
use Rattle.group_plan.specs.declared.tag.Kind.{Kind}
use Rattle.group_plan.specs.declared.tag.Kind.TheVariants.{Reading, Announcement, Answer}
use Rattle.group_plan.specs.declared.tag.Tag.{Tag}
use Rattle.group_plan.specs.Plans.{PlanView, size}
use Rattle.group_plan.proofs.MeterNumbers.{group-lt}
use Rattle.meter_frames.specs.declared.Frame.{Frame}
use Rattle.round_machine.specs.declared.Verdict.{Verdict}
use Rattle.round_machine.specs.declared.Verdict.TheVariants.{Fresh, Again, Late, Void}
use Rattle.round_machine.specs.declared.Closing.{Closing}
use Rattle.round_machine.specs.declared.Closing.TheVariants as closing
use Rattle.event_schedule.specs.declared.Line.TheVariants.{Send, Take, Close}
use Rattle.transcript_text.specs.declared.version.Version.{Version}
use Rattle.transcript_text.specs.declared.fault.BodyLine.TheVariants as row
use Rattle.field_texts.specs.Numbers.{number_of, within}
use Rattle.link_lanes.specs.Fates.{IsFate}
use Rattle.event_schedule.specs.Transcripts.{FitsClosing, HasPlace, IsLine, IsPlan}
use Rattle.field_texts.specs.Sets.{numbers_text}
use Rattle.transcript_text.specs.Spelling.{closing_fields, fields_of, frame_bytes, kind_text, verdict_text}
use Rattle.link_lanes.specs.Texts.{fate_of}
use Rattle.transcript_text.specs.Reading.{closing_of, kind_of, row_of, send_of, sent_of, tag_of, take_of, verdict_of}
use Rattle.field_texts.proofs.NumberLaws.{within_again}
use Rattle.field_texts.proofs.SetLaws.{set_again, set_rising}
use Rattle.transcript_text.proofs.FateTexts.{fate_again}

kind_again : (k : Kind) → kind_of (kind_text k) ≡ Some k
kind_again Reading = refl
kind_again Announcement = refl
kind_again Answer = refl

verdict_again : (v : Verdict) → verdict_of (verdict_text v) ≡ Some v
verdict_again Fresh = refl
verdict_again Again = refl
verdict_again Late = refl
verdict_again Void = refl

-- the numbers of a plan are small
pub record IsSmall (plan : PlanView) : Type 0 where
  pub groups : length plan.groups ≤ 256
  pub meters : (g : ℕ) → size plan.groups g ≤ 256
  pub rounds : plan.rounds ≤ 4096

pub small : (plan : PlanView) → IsPlan plan → IsSmall plan
small plan is = record { groups = is.limits.groups; meters = is.limits.meters; rounds = is.limits.rounds }

-- a tag's numbers are read
record TagAgain (plan : PlanView) (tag : Tag) : Type 0 where
  group : within 0 (length plan.groups) (number_of (decimal tag.group)) ≡ Some tag.group
  round : within 0 plan.rounds (number_of (decimal tag.round)) ≡ Some tag.round
  kind : kind_of (kind_text tag.kind) ≡ Some tag.kind
  meter : within 0 (size plan.groups tag.group) (number_of (decimal tag.meter)) ≡ Some tag.meter

group_exists : (plan : PlanView) (g i : ℕ) → i < size plan.groups g → g < length plan.groups
group_exists plan g i h = group-lt plan.groups g i h

tag_again : (plan : PlanView) (tag : Tag) → IsSmall plan → HasPlace plan tag → TagAgain plan tag
tag_again plan tag s p =
    let r : tag.round < plan.rounds = grind (arith, nat_tests, p) in
    let i : tag.meter < size plan.groups tag.group = grind (arith, nat_tests, p) in
    record {
      group = within_again 0 (length plan.groups) tag.group (omega arith) (group_exists plan tag.group tag.meter i) (let a = s.groups in omega (arith, a));
      round = within_again 0 plan.rounds tag.round (omega arith) r (let a = s.rounds in omega (arith, a));
      kind = kind_again tag.kind;
      meter = within_again 0 (size plan.groups tag.group) tag.meter (omega arith) i (let a = s.meters tag.group in omega (arith, a));
    }

pub take_again : (version : Version) (plan : PlanView) (last tick : ℕ) (tag : Tag) (v : Verdict) → IsSmall plan → HasPlace plan tag → last ≤ tick → tick < 2 ^ 32
    → row_of version plan last (fields_of version (record { tick = tick; fate = []; line = Take tag v })) ≡ Ok (row.Entry (record { tick = tick; fate = []; line = Take tag v }))
unfolding row_of take_of tag_of
take_again version plan last tick tag v s p a b =
    let t = within_again last (2 ^ 32) tick a b (omega arith) in
    let g = tag_again plan tag s p in
    rw (t, g.group, g.round, g.kind, g.meter, verdict_again v) refl

pub send_again : (version : Version) (plan : PlanView) (last tick : ℕ) (tag : Tag) (fate : List ℕ) (f : Frame) → IsSmall plan → HasPlace plan tag → last ≤ tick → tick < 2 ^ 32 → IsFate fate
    → sent_of version (size plan.groups tag.group) tag fate (encode_lower (frame_bytes version f)) ≡ Some (Some f)
    → row_of version plan last (fields_of version (record { tick = tick; fate = fate; line = Send tag (Some f) })) ≡ Ok (row.Entry (record { tick = tick; fate = fate; line = Send tag (Some f) }))
unfolding row_of send_of tag_of
send_again version plan last tick tag fate f s p a b is sent =
    let t = within_again last (2 ^ 32) tick a b (omega arith) in
    let g = tag_again plan tag s p in
    rw (t, g.group, g.round, g.kind, g.meter, fate_again fate is, sent) refl

void_again : (version : Version) (n : ℕ) (tag : Tag) → sent_of version n tag [] (codes "void") ≡ Some None
unfolding sent_of
void_again version n tag = refl

pub void_send_again : (version : Version) (plan : PlanView) (last tick : ℕ) (tag : Tag) → IsSmall plan → HasPlace plan tag → last ≤ tick → tick < 2 ^ 32
    → row_of version plan last (fields_of version (record { tick = tick; fate = []; line = Send tag None })) ≡ Ok (row.Entry (record { tick = tick; fate = []; line = Send tag None }))
unfolding row_of send_of tag_of
void_send_again version plan last tick tag s p a b =
    let t = within_again last (2 ^ 32) tick a b (omega arith) in
    let g = tag_again plan tag s p in
    let f : fate_of (codes "-") ≡ Some [] = fate_again [] (record { few = omega arith; delays = refl; order = refl }) in
    let v = void_again version (size plan.groups tag.group) tag in
    rw (t, g.group, g.round, g.kind, g.meter, f, v) refl

pub closing_again : (n : ℕ) (c : Closing) (g r : ℕ) → n ≤ 256 → FitsClosing n c → IsLine (Close g r c) → (word text : List ℕ) → word ∷ text ∷ [] ≡ closing_fields c → closing_of n word text ≡ Ok c
unfolding closing_of
closing_again n (closing.Announced set) g r few fits is word text e =
    let s = set_again n set few (set_rising n set is fits) in
    let w : word ≡ codes "announced" = cc in
    let t : text ≡ numbers_text set = cc in
    rw (w, t, s) refl
closing_again n (closing.Thin set) g r few fits is word text e =
    let s = set_again n set few (set_rising n set is fits) in
    let w : word ≡ codes "thin" = cc in
    let t : text ≡ numbers_text set = cc in
    rw (w, t, s) refl
closing_again n closing.Already g r few fits is word text e =
    let w : word ≡ codes "already" = cc in
    let t : text ≡ codes "-" = cc in
    rw (w, t) refl
