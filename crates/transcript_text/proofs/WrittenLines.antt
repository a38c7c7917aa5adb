-- Lines as they are written, read at once.
use Rattle.std.proofs.Common.{◌≡◌, ◌∙◌, ◌<◌, ◌≤◌, ◌^◌, ℕ, List, [], ◌∷◌, ◌++◌, refl, sym, ap, decimal, Option, Some, Ok}
use Rattle.group_plan.specs.declared.tag.Tag.{Tag}
use Rattle.group_plan.specs.Plans.{PlanView, size, IsWithinLimits}
use Rattle.meter_frames.specs.declared.Frame.{Frame}
use Rattle.round_machine.specs.declared.Verdict.{Verdict}
use Rattle.event_schedule.specs.declared.Line.TheVariants.{Send, Take}
use Rattle.event_schedule.specs.declared.Entry.{Entry}
use Rattle.event_schedule.specs.Transcripts.{HasPlace}
use Rattle.field_texts.specs.Parts.{parts}
use Rattle.field_texts.specs.Sets.{numbers_text}
use Rattle.transcript_text.specs.declared.version.Version.{Version}
use Rattle.transcript_text.specs.declared.fault.BodyLine.TheVariants as row
use Rattle.transcript_text.specs.Spelling.{entry_text, joined, sent_fields, tag_fields, verdict_text}
use Rattle.link_lanes.specs.Texts.{fate_of}
use Rattle.transcript_text.specs.Reading.{row_of, sent_of}
use Rattle.transcript_text.specs.ReadBack.{HasHead}
use Rattle.transcript_text.specs.Written.{ahead_of, IsWritten}
use Rattle.field_texts.proofs.TextLaws.{parts_joined}
use Rattle.transcript_text.proofs.CleanFields.{clean_fields, comma}
use Rattle.transcript_text.proofs.EntryAgain.{IsSmall}
use Rattle.transcript_text.proofs.EntryBack.{no_copies, sent_back, sent_fits, sent_line, sent_spelled}
use Rattle.transcript_text.proofs.FateTexts.{fate_back}
use Rattle.transcript_text.proofs.LineAgain.{row_again}
use Rattle.transcript_text.proofs.WrittenFields.{cut_text, joined_ahead}

-- the text of a field that is its own, up to `s` or `t`
abbrev begun : ℕ → ℕ → List ℕ → List ℕ
begun tick letter text = ahead_of (decimal tick ∷ (letter ∷ []) ∷ []) text

pub take_written : (version : Version) (plan : PlanView) (tick : ℕ) (tag : Tag) (v : Verdict) (text last : List ℕ) → tick < 2 ^ 32 → text ≡ ahead_of (tag_fields tag) last → HasPlace plan tag → last ≡ verdict_text v
    → IsWritten version plan (begun tick 116 text) (record { tick = tick; fate = []; line = Take tag v })
unfolding entry_text
take_written version plan tick tag v text last few tag_is place end = record {
  line = ap (begun tick 116) (tag_is ∙ ap (ahead_of (tag_fields tag)) end) ∙ sym (joined_ahead (decimal tick ∷ (116 ∷ []) ∷ tag_fields tag) (verdict_text v));
  fits = (place, refl);
  entry = record { tick = few; fate = no_copies; line = tt };
}

sent_text : (version : Version) (tick : ℕ) (tag : Tag) (fate digits : List ℕ) (sent : Option Frame) → numbers_text fate ∷ digits ∷ [] ≡ sent_fields version fate sent
    → begun tick 115 (ahead_of (tag_fields tag) (numbers_text fate ++ 44 ∷ digits)) ≡ entry_text version (record { tick = tick; fate = fate; line = Send tag sent })
unfolding entry_text
sent_text version tick tag fate digits sent is =
    let front : List (List ℕ) = decimal tick ∷ (115 ∷ []) ∷ tag_fields tag in
    sym (joined_ahead (front ++ numbers_text fate ∷ []) digits) ∙ ap (λ q. joined (front ++ q)) is

pub send_written : (version : Version) (plan : PlanView) (tick : ℕ) (tag : Tag) (fate delays digits : List ℕ) (sent : Option Frame) (text behind : List ℕ) → tick < 2 ^ 32
    → text ≡ ahead_of (tag_fields tag) behind → HasPlace plan tag → parts 44 behind ≡ delays ∷ parts 44 digits → Some fate ≡ fate_of delays
    → Some sent ≡ sent_of version (size plan.groups tag.group) tag fate digits
    → IsWritten version plan (begun tick 115 text) (record { tick = tick; fate = fate; line = Send tag sent })
send_written version plan tick tag fate delays digits sent text behind few tag_is place fields copies read =
    let is = sent_back version (size plan.groups tag.group) tag fate digits sent (sym read) in
    let fate_is = fate_back delays fate (sym copies) in
    let end : behind ≡ numbers_text fate ++ 44 ∷ digits = cut_text 44 behind delays digits fields ∙ ap (λ q. q ++ 44 ∷ digits) fate_is.0 in
    record {
      line = ap (begun tick 115) (tag_is ∙ ap (ahead_of (tag_fields tag)) end) ∙ sent_text version tick tag fate digits sent (sent_spelled version (size plan.groups tag.group) tag fate digits sent is);
      fits = sent_fits version plan tag fate digits sent place is;
      entry = record { tick = few; fate = fate_is.1; line = sent_line version (size plan.groups tag.group) tag fate digits sent is };
    }

-- what is written is the row of its fields
pub row_written : (version : Version) (plan : PlanView) (last : ℕ) (line : List ℕ) (e : Entry) → IsWithinLimits plan → HasHead version plan → last ≤ e.tick → IsWritten version plan line e
    → Ok (row.Entry e) ≡ row_of version plan last (parts 44 line)
unfolding entry_text
row_written version plan last line e limits head after w =
    let s : IsSmall plan = record { groups = limits.groups; meters = limits.meters; rounds = limits.rounds } in
    let fields = parts_joined 44 _ _ (clean_fields 44 comma version plan s e w.fits w.entry) in
    sym (ap (row_of version plan last) (ap (parts 44) w.line ∙ fields) ∙ row_again version plan last e s head after w.fits w.entry)
