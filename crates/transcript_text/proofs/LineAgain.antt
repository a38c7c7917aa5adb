-- A line that is written is read, whatever it says.
use Rattle.std.proofs.Common.{◌≡◌, ◌∙◌, ◌<◌, ◌≤◌, ◌^◌, ◌==◌, nat_lt, ℕ, true, List, [], ◌∷◌, length, refl, sym, ap, arith, decimal, Some, None, Ok, subst}
use Rattle.std.specs.Prelude.{codes}
use Rattle.std.proofs.lemmas.Bool.Decides.{nat_tests}
use Rattle.std.proofs.lemmas.List.Elements.{All-head, All-tail}
use Rattle.hex.specs.Hex.{encode_lower}
use Rattle.missing_round.specs.Sets.{beyond}
use Rattle.group_plan.specs.declared.tag.Kind.{Kind}
use Rattle.group_plan.specs.declared.tag.Kind.TheVariants.{Reading, Announcement, Answer}
use Rattle.group_plan.specs.declared.tag.Tag.{Tag}
use Rattle.group_plan.specs.Plans.{PlanView, size}
use Rattle.group_plan.proofs.MeterNumbers.{group-lt}
use Rattle.meter_frames.specs.declared.Frame.{Frame}
use Rattle.round_machine.specs.declared.Closing.{Closing}
use Rattle.round_machine.specs.declared.Closing.TheVariants as closing
use Rattle.round_machine.specs.declared.Ending.{Ending}
use Rattle.round_machine.specs.declared.Ending.TheVariants as ending
use Rattle.event_schedule.specs.declared.Line.{Line}
use Rattle.event_schedule.specs.declared.Line.TheVariants.{Send, Take, Close, End}
use Rattle.event_schedule.specs.declared.Entry.{Entry}
use Rattle.event_schedule.specs.Events.{is_tag, same_kind}
use Rattle.transcript_text.specs.declared.version.Version.{Version}
use Rattle.transcript_text.specs.declared.version.Version.TheVariants.{One, Two}
use Rattle.transcript_text.specs.declared.fault.BodyLine.TheVariants as row
use Rattle.link_lanes.specs.Fates.{IsFate}
use Rattle.event_schedule.specs.Transcripts.{Fits, FitsClosing, FitsEnding, FitsLine, FitsTag, HasPlace, HasRound, IsEntry, IsLine, IsWithin}
use Rattle.field_texts.specs.Sets.{numbers_text}
use Rattle.transcript_text.specs.Spelling.{closing_fields, ending_fields, fields_of, frame_bytes}
use Rattle.transcript_text.specs.Reading.{close_of, closing_of, end_of, ending_of, fitting, frame_of, frame_of_bytes, frame_of_some, frame_size, row_of, sent_of}
use Rattle.transcript_text.specs.ReadBack.{HasHead}
use Rattle.field_texts.proofs.NumberLaws.{number_again, within_again}
use Rattle.field_texts.proofs.SetLaws.{set_again, set_rising}
use Rattle.transcript_text.proofs.FateTexts.{all_within}
use Rattle.transcript_text.proofs.FrameTexts.{bytes_again, frame_again, old_frame_again}
use Rattle.transcript_text.proofs.FrameBytes.{not_void, spelled_bytes, spelled_length}
use Rattle.transcript_text.proofs.EntryAgain.{IsSmall, closing_again, send_again, take_again, void_send_again}

-- an entry's fields are read as the entry
abbrev pub Again : Version → PlanView → ℕ → Entry → Type 0
Again version plan last e = row_of version plan last (fields_of version e) ≡ Ok (row.Entry e)

-- ---- closings and endings

two_closing : (c : Closing) → (word : List ℕ) × (text : List ℕ) × (word ∷ text ∷ [] ≡ closing_fields c)
two_closing (closing.Announced set) = (codes "announced", numbers_text set, refl)
two_closing (closing.Thin set) = (codes "thin", numbers_text set, refl)
two_closing closing.Already = (codes "already", codes "-", refl)

close_read : (version : Version) (plan : PlanView) (last tick g r : ℕ) (c : Closing) (word text : List ℕ) → IsSmall plan → HasRound plan g r → last ≤ tick → tick < 2 ^ 32 → closing_of (size plan.groups g) word text ≡ Ok c
    → row_of version plan last (decimal tick ∷ codes "c" ∷ decimal g ∷ decimal r ∷ word ∷ text ∷ []) ≡ Ok (row.Entry (record { tick = tick; fate = []; line = Close g r c }))
unfolding row_of close_of
close_read version plan last tick g r c word text s p a b read =
    let t = within_again last (2 ^ 32) tick a b (omega arith) in
    let group = within_again 0 (length plan.groups) g (omega arith) p.group (let m = s.groups in omega (arith, m)) in
    let round = within_again 0 plan.rounds r (omega arith) p.round (let m = s.rounds in omega (arith, m)) in
    rw (t, group, round, read) refl

pub close_again : (version : Version) (plan : PlanView) (last tick g r : ℕ) (c : Closing) → IsSmall plan → HasRound plan g r → FitsClosing (size plan.groups g) c → IsLine (Close g r c) → last ≤ tick → tick < 2 ^ 32
    → Again version plan last (record { tick = tick; fate = []; line = Close g r c })
close_again version plan last tick g r c s p fits is a b =
    let two = two_closing c in
    let read = closing_again (size plan.groups g) c g r (s.meters g) fits is two.0 two.1 two.2 in
    ap (λ q. row_of version plan last (decimal tick ∷ codes "c" ∷ decimal g ∷ decimal r ∷ q)) (sym two.2) ∙ close_read version plan last tick g r c two.0 two.1 s p a b read

two_ending : (e : Ending) → (word : List ℕ) × (text : List ℕ) × (word ∷ text ∷ [] ≡ ending_fields e)
two_ending (ending.Total total) = (codes "total", decimal total, refl)
two_ending (ending.Lacking set) = (codes "none", numbers_text set, refl)
two_ending ending.Thin = (codes "thin", codes "-", refl)
two_ending ending.Already = (codes "already", codes "-", refl)
two_ending ending.NotClosed = (codes "notclosed", codes "-", refl)

ending_again : (n : ℕ) (e : Ending) (g r : ℕ) → n ≤ 256 → FitsEnding n e → IsLine (End g r e) → ending_of n (two_ending e).0 (two_ending e).1 ≡ Ok e
unfolding ending_of two_ending
ending_again n (ending.Total total) g r few fits is = let t = number_again total is in rw t refl
ending_again n (ending.Lacking set) g r few fits is = let s = set_again n set few (set_rising n set is fits) in rw s refl
ending_again n ending.Thin g r few fits is = refl
ending_again n ending.Already g r few fits is = refl
ending_again n ending.NotClosed g r few fits is = refl

end_read : (version : Version) (plan : PlanView) (last tick g r : ℕ) (e : Ending) (word text : List ℕ) → IsSmall plan → HasRound plan g r → last ≤ tick → tick < 2 ^ 32 → ending_of (size plan.groups g) word text ≡ Ok e
    → row_of version plan last (decimal tick ∷ codes "e" ∷ decimal g ∷ decimal r ∷ word ∷ text ∷ []) ≡ Ok (row.Entry (record { tick = tick; fate = []; line = End g r e }))
unfolding row_of end_of
end_read version plan last tick g r e word text s p a b read =
    let t = within_again last (2 ^ 32) tick a b (omega arith) in
    let group = within_again 0 (length plan.groups) g (omega arith) p.group (let m = s.groups in omega (arith, m)) in
    let round = within_again 0 plan.rounds r (omega arith) p.round (let m = s.rounds in omega (arith, m)) in
    rw (t, group, round, read) refl

pub end_again : (version : Version) (plan : PlanView) (last tick g r : ℕ) (e : Ending) → IsSmall plan → HasRound plan g r → FitsEnding (size plan.groups g) e → IsLine (End g r e) → last ≤ tick → tick < 2 ^ 32
    → Again version plan last (record { tick = tick; fate = []; line = End g r e })
end_again version plan last tick g r e s p fits is a b =
    let two = two_ending e in
    let read = ending_again (size plan.groups g) e g r (s.meters g) fits is in
    ap (λ q. row_of version plan last (decimal tick ∷ codes "e" ∷ decimal g ∷ decimal r ∷ q)) (sym two.2) ∙ end_read version plan last tick g r e two.0 two.1 s p a b read

-- ---- the frame of a Send

-- a plan has the place's group, and a meter below its size
record IsPlace (plan : PlanView) (tag : Tag) : Type 0 where
  group : tag.group < length plan.groups
  round : tag.round < plan.rounds
  meter : tag.meter < size plan.groups tag.group

place_of : (plan : PlanView) (tag : Tag) → HasPlace plan tag → IsPlace plan tag
place_of plan tag p =
    let r : tag.round < plan.rounds = grind (arith, nat_tests, p) in
    let i : tag.meter < size plan.groups tag.group = grind (arith, nat_tests, p) in
    record { group = group-lt plan.groups tag.group tag.meter i; round = r; meter = i }

kind_same : (k : Kind) → same_kind k k ≡ true
kind_same Reading = refl
kind_same Announcement = refl
kind_same Answer = refl

tag_same : (tag : Tag) → is_tag tag.group tag.round tag.meter tag.kind tag ≡ true
tag_same tag =
    let g : (tag.group == tag.group) ≡ true = grind (arith, nat_tests) in
    let r : (tag.round == tag.round) ≡ true = grind (arith, nat_tests) in
    let i : (tag.meter == tag.meter) ≡ true = grind (arith, nat_tests) in
    rw (g, r, i, kind_same tag.kind) refl

fitting_again : (n : ℕ) (tag : Tag) (f : Frame) → f.tag ≡ tag → IsWithin n f.missing → fitting n tag (Some f) ≡ Some (Some f)
fitting_again n tag f same set =
    let t : is_tag tag.group tag.round tag.meter tag.kind f.tag ≡ true = ap (is_tag tag.group tag.round tag.meter tag.kind) same ∙ tag_same tag in
    let w = all_within n f.missing set in
    rw (t, w) refl

none_beyond : (n : ℕ) (set : List ℕ) → n ≤ 64 → IsWithin n set → beyond 64 set ≡ []
none_beyond n [] few w = refl
none_beyond n (x ∷ xs) few w =
    let below = All-head (λ i. i < n) x xs w in
    let t : nat_lt x 64 ≡ true = grind (arith, nat_tests, below, few) in
    rw t (none_beyond n xs few (All-tail (λ i. i < n) x xs w))

read_frame : (version : Version) (f : Frame) → f.tag.meter < 256 → frame_of_bytes version (frame_bytes version f) ≡ Some f → frame_of version (encode_lower (frame_bytes version f)) ≡ Some f
read_frame version f m again = ap (frame_of_some version) (bytes_again (frame_size version) (frame_bytes version f) (spelled_length version f) (spelled_bytes version f m)) ∙ again

frame_again_of : (version : Version) (plan : PlanView) (f : Frame) → IsSmall plan → HasHead version plan → IsPlace plan f.tag → FitsTag plan f.tag f → IsLine (Send f.tag (Some f)) → frame_of version (encode_lower (frame_bytes version f)) ≡ Some f
frame_again_of One plan f s old p fits is =
    let few = old.meters f.tag.group in
    read_frame One f (let b = p.meter in omega (arith, few, b)) (old_frame_again f (record {
      group = (let a = s.groups in let b = p.group in omega (arith, a, b));
      round = (let a = s.rounds in let b = p.round in omega (arith, a, b));
      meter = (let b = p.meter in omega (arith, few, b));
      set = is.0;
      within = none_beyond (size plan.groups f.tag.group) f.missing few fits.set;
      word = is.1;
      fits = fits.fits;
    }))
frame_again_of Two plan f s old p fits is =
    let few = s.meters f.tag.group in
    read_frame Two f (let b = p.meter in omega (arith, few, b)) (frame_again f (record {
      group = (let a = s.groups in let b = p.group in omega (arith, a, b));
      round = (let a = s.rounds in let b = p.round in omega (arith, a, b));
      meter = (let b = p.meter in omega (arith, few, b));
      set = is.0;
      word = is.1;
      fits = fits.fits;
    }))

sent_read : (version : Version) (n : ℕ) (tag : Tag) (fate : List ℕ) (f : Frame) → frame_of version (encode_lower (frame_bytes version f)) ≡ Some f → f.tag ≡ tag → IsWithin n f.missing → sent_of version n tag fate (encode_lower (frame_bytes version f)) ≡ Some (Some f)
unfolding sent_of
sent_read version n tag fate f read same set = let v = not_void version f in rw v (ap (fitting n tag) read ∙ fitting_again n tag f same set)

pub sent_again : (version : Version) (plan : PlanView) (tag : Tag) (fate : List ℕ) (f : Frame) → IsSmall plan → HasHead version plan → HasPlace plan tag → FitsTag plan tag f → IsLine (Send tag (Some f))
    → sent_of version (size plan.groups tag.group) tag fate (encode_lower (frame_bytes version f)) ≡ Some (Some f)
sent_again version plan tag fate f s head p fits is =
    sent_read version (size plan.groups tag.group) tag fate f
    (frame_again_of version plan f s head (subst (λ (t : Tag). IsPlace plan t) (sym fits.same) (place_of plan tag p)) (subst (λ (t : Tag). FitsTag plan t f) (sym fits.same) fits) is)
    fits.same fits.set

-- ---- each line

pub row_again : (version : Version) (plan : PlanView) (last : ℕ) (e : Entry) → IsSmall plan → HasHead version plan → last ≤ e.tick → Fits plan e → IsEntry e → Again version plan last e
row_again version plan last e s head a fits is = by_line e.tick e.fate e.line a is.tick fits is.fate is.line
  where
    by_line : (tick : ℕ) (fate : List ℕ) (line : Line) → last ≤ tick → tick < 2 ^ 32 → FitsLine plan fate line → IsFate fate → IsLine line → Again version plan last (record { tick = tick; fate = fate; line = line })
    by_line tick fate (Send tag (Some f)) a b fits copies is = send_again version plan last tick tag fate f s fits.0 a b copies (sent_again version plan tag fate f s head fits.0 fits.1 is)
    by_line tick fate (Send tag None) a b fits copies is =
        subst (λ (q : List ℕ). Again version plan last (record { tick = tick; fate = q; line = Send tag None })) (sym fits.1) (void_send_again version plan last tick tag s fits.0 a b)
    by_line tick fate (Take tag v) a b fits copies is =
        subst (λ (q : List ℕ). Again version plan last (record { tick = tick; fate = q; line = Take tag v })) (sym fits.1) (take_again version plan last tick tag v s fits.0 a b)
    by_line tick fate (Close g r c) a b fits copies is =
        subst (λ (q : List ℕ). Again version plan last (record { tick = tick; fate = q; line = Close g r c })) (sym fits.2) (close_again version plan last tick g r c s fits.0 fits.1 is a b)
    by_line tick fate (End g r e) a b fits copies is =
        subst (λ (q : List ℕ). Again version plan last (record { tick = tick; fate = q; line = End g r e })) (sym fits.2) (end_again version plan last tick g r e s fits.0 fits.1 is a b)
