-- The fields of an entry have no comma and no newline.
use Rattle.std.proofs.Common.{◌≡◌, ◌<◌, ◌^◌, ◌==◌, nat_le, ℕ, true, false, List, [], ◌∷◌, refl, arith, decimal, Some, None}
use Rattle.std.specs.Prelude.{codes}
use Rattle.std.specs.List.{list_all}
use Rattle.std.proofs.lemmas.Bool.Decides.{nat_tests}
use Rattle.hex.specs.Hex.{encode_lower, lower_digits}
use Rattle.group_plan.specs.declared.tag.Kind.{Kind}
use Rattle.group_plan.specs.declared.tag.Kind.TheVariants.{Reading, Announcement, Answer}
use Rattle.group_plan.specs.declared.tag.Tag.{Tag}
use Rattle.group_plan.specs.Plans.{PlanView, size}
use Rattle.group_plan.proofs.MeterNumbers.{group-lt}
use Rattle.missing_round.specs.Sets.{IsSet}
use Rattle.round_machine.specs.declared.Verdict.{Verdict}
use Rattle.round_machine.specs.declared.Verdict.TheVariants.{Fresh, Again, Late, Void}
use Rattle.round_machine.specs.declared.Closing.{Closing}
use Rattle.round_machine.specs.declared.Closing.TheVariants as closing
use Rattle.round_machine.specs.declared.Ending.{Ending}
use Rattle.round_machine.specs.declared.Ending.TheVariants as ending
use Rattle.event_schedule.specs.declared.Line.{Line}
use Rattle.event_schedule.specs.declared.Line.TheVariants.{Send, Take, Close, End}
use Rattle.event_schedule.specs.declared.Entry.{Entry}
use Rattle.transcript_text.specs.declared.version.Version.{Version}
use Rattle.link_lanes.specs.Fates.{IsFate}
use Rattle.event_schedule.specs.Transcripts.{Fits, FitsLine, HasPlace, HasRound, IsEntry, IsLine}
use Rattle.field_texts.specs.Sets.{numbers_text}
use Rattle.transcript_text.specs.Spelling.{closing_fields, ending_fields, fields_of, frame_bytes, kind_text, line_fields, verdict_text}
use Rattle.transcript_text.proofs.Choices.{test_of}
use Rattle.field_texts.proofs.TextLaws.{AllClean, clean, clean_decimal}
use Rattle.field_texts.proofs.SetLaws.{clean_text}
use Rattle.transcript_text.proofs.FateTexts.{fate_small}
use Rattle.transcript_text.proofs.FrameBytes.{clean_digits}
use Rattle.transcript_text.proofs.EntryAgain.{IsSmall}

-- a byte below the digits, other than `+` and `-`
pub record IsStop (stop : ℕ) : Type 0 where
  pub below : stop < 48
  pub zero : (0 == stop) ≡ false
  pub plus : (43 == stop) ≡ false
  pub dash : (45 == stop) ≡ false

pub comma : IsStop 44
comma = record { below = omega arith; zero = refl; plus = refl; dash = refl }

pub newline : IsStop 10
newline = record { below = omega arith; zero = refl; plus = refl; dash = refl }

module _ (stop : ℕ) (is : IsStop stop) where
  -- digits and letters are clean
  pub clean_word : (word : List ℕ) → list_all (nat_le 48) word ≡ true → clean stop word ≡ true
  clean_word [] h = refl
  clean_word (c ∷ cs) h =
      let t = test_of (nat_le 48 c) (list_all (nat_le 48) cs) h in
      let b = is.below in
      let first : (c == stop) ≡ false = grind (arith, nat_tests, t.0, b) in
      rw first (clean_word cs t.1)

  clean_dash : clean stop (codes "-") ≡ true
  clean_dash = let d = is.dash in rw d refl

  clean_number : (n : ℕ) → n < 2 ^ 64 → clean stop (decimal n) ≡ true
  clean_number n b = clean_decimal stop n is.below b

  clean_set : (set : List ℕ) → IsSet set → clean stop (numbers_text set) ≡ true
  clean_set set s = clean_text stop 256 set is.below is.plus is.dash (omega arith) s.small

  clean_fate : (fate : List ℕ) → IsFate fate → clean stop (numbers_text fate) ≡ true
  clean_fate fate f = clean_text stop 17 fate is.below is.plus is.dash (omega arith) (fate_small fate f)

  clean_kind : (k : Kind) → clean stop (kind_text k) ≡ true
  clean_kind Reading = clean_word (codes "r") refl
  clean_kind Announcement = clean_word (codes "m") refl
  clean_kind Answer = clean_word (codes "a") refl

  clean_verdict : (v : Verdict) → clean stop (verdict_text v) ≡ true
  clean_verdict Fresh = clean_word (codes "fresh") refl
  clean_verdict Again = clean_word (codes "again") refl
  clean_verdict Late = clean_word (codes "late") refl
  clean_verdict Void = clean_word (codes "void") refl

  clean_closing : (g r : ℕ) (c : Closing) → IsLine (Close g r c) → AllClean stop (closing_fields c)
  clean_closing g r (closing.Announced set) s = (clean_word (codes "announced") refl, (clean_set set s, tt))
  clean_closing g r (closing.Thin set) s = (clean_word (codes "thin") refl, (clean_set set s, tt))
  clean_closing g r closing.Already s = (clean_word (codes "already") refl, (clean_dash, tt))

  clean_ending : (g r : ℕ) (e : Ending) → IsLine (End g r e) → AllClean stop (ending_fields e)
  clean_ending g r (ending.Total total) s = (clean_word (codes "total") refl, (clean_number total s, tt))
  clean_ending g r (ending.Lacking set) s = (clean_word (codes "none") refl, (clean_set set s, tt))
  clean_ending g r ending.Thin s = (clean_word (codes "thin") refl, (clean_dash, tt))
  clean_ending g r ending.Already s = (clean_word (codes "already") refl, (clean_dash, tt))
  clean_ending g r ending.NotClosed s = (clean_word (codes "notclosed") refl, (clean_dash, tt))

  module _ (version : Version) (plan : PlanView) (small : IsSmall plan) where
    clean_tag : (tag : Tag) (rest : List (List ℕ)) → HasPlace plan tag → AllClean stop rest → AllClean stop (decimal tag.group ∷ decimal tag.round ∷ kind_text tag.kind ∷ decimal tag.meter ∷ rest)
    clean_tag tag rest p more =
        let r : tag.round < plan.rounds = grind (arith, nat_tests, p) in
        let i : tag.meter < size plan.groups tag.group = grind (arith, nat_tests, p) in
        let g = group-lt plan.groups tag.group tag.meter i in
        let groups = small.groups in
        let meters = small.meters tag.group in
        let rounds = small.rounds in
        (clean_number tag.group (omega (arith, g, groups)), (clean_number tag.round (omega (arith, r, rounds)), (clean_kind tag.kind, (clean_number tag.meter (omega (arith, i, meters)), more))))

    clean_round : (g r : ℕ) (rest : List (List ℕ)) → HasRound plan g r → AllClean stop rest → AllClean stop (decimal g ∷ decimal r ∷ rest)
    clean_round g r rest p more =
        let a = p.group in
        let b = p.round in
        let groups = small.groups in
        let rounds = small.rounds in
        (clean_number g (omega (arith, a, groups)), (clean_number r (omega (arith, b, rounds)), more))

    pub clean_fields : (e : Entry) → Fits plan e → IsEntry e → AllClean stop (fields_of version e)
    clean_fields e fits entry = (clean_number e.tick (let t = entry.tick in omega (arith, t)), by_line e.fate e.line fits entry.fate entry.line)
      where
        by_line : (fate : List ℕ) (line : Line) → FitsLine plan fate line → IsFate fate → IsLine line → AllClean stop (line_fields version fate line)
        by_line fate (Send tag (Some f)) fits copies line =
            (clean_word (codes "s") refl, clean_tag tag (numbers_text fate ∷ encode_lower (frame_bytes version f) ∷ []) fits.0 (clean_fate fate copies, (clean_digits stop (frame_bytes version f) is.zero (clean_word lower_digits refl), tt)))
        by_line fate (Send tag None) fits copies line = (clean_word (codes "s") refl, clean_tag tag (codes "-" ∷ codes "void" ∷ []) fits.0 (clean_dash, (clean_word (codes "void") refl, tt)))
        by_line fate (Take tag v) fits copies line = (clean_word (codes "t") refl, clean_tag tag (verdict_text v ∷ []) fits.0 (clean_verdict v, tt))
        by_line fate (Close g r c) fits copies line = (clean_word (codes "c") refl, clean_round g r (closing_fields c) fits.0 (clean_closing g r c line))
        by_line fate (End g r e) fits copies line = (clean_word (codes "e") refl, clean_round g r (ending_fields e) fits.0 (clean_ending g r e line))
