-- An entry that is read was written so, and fits the plan.
use Rattle.std.proofs.Common.{◌≡◌, ◌∙◌, ◌<◌, ◌≤◌, ◌==◌, ◌&&◌, if◌then◌else◌, ℕ, Bool, true, false, List, [], ◌∷◌, length, refl, sym, ap, arith, decimal, Option, Some, None, Result, Ok, Err, ◌⊎◌, inl, inr, subst}
use Rattle.std.specs.Prelude.{codes}
use Rattle.std.specs.Option.{ok_or}
use Rattle.std.specs.Str.{bytes_eq}
use Rattle.std.proofs.lemmas.Bool.Decides.{nat_tests}
use Rattle.hex.specs.Hex.{encode_lower}
use Rattle.group_plan.specs.declared.tag.Kind.{Kind}
use Rattle.group_plan.specs.declared.tag.Kind.TheVariants.{Reading, Announcement, Answer}
use Rattle.group_plan.specs.declared.tag.Tag.{Tag}
use Rattle.group_plan.specs.Plans.{PlanView, is_place, size}
use Rattle.meter_frames.specs.declared.Frame.{Frame}
use Rattle.meter_frames.specs.Frames.{IsFrame}
use Rattle.round_machine.specs.declared.Verdict.{Verdict}
use Rattle.round_machine.specs.declared.Verdict.TheVariants.{Fresh, Again, Late, Void}
use Rattle.round_machine.specs.declared.Closing.{Closing}
use Rattle.round_machine.specs.declared.Closing.TheVariants as closing
use Rattle.round_machine.specs.declared.Ending.{Ending}
use Rattle.round_machine.specs.declared.Ending.TheVariants as ending
use Rattle.event_schedule.specs.declared.Line.TheVariants.{Send, Take, Close, End}
use Rattle.event_schedule.specs.declared.Entry.{Entry}
use Rattle.event_schedule.specs.Events.{is_tag, same_kind}
use Rattle.transcript_text.specs.declared.version.Version.{Version}
use Rattle.transcript_text.specs.declared.fault.BodyLine.TheVariants as row
use Rattle.transcript_text.specs.declared.fault.RowFault.{RowFault}
use Rattle.transcript_text.specs.declared.fault.RowFault.TheVariants.{Field}
use Rattle.field_texts.specs.Numbers.{number_of, within}
use Rattle.transcript_text.specs.Parts.{at}
use Rattle.link_lanes.specs.Fates.{IsFate}
use Rattle.event_schedule.specs.Transcripts.{Fits, FitsClosing, FitsEnding, FitsLine, HasPlace, IsEntry, IsLine, IsWithin}
use Rattle.field_texts.specs.Sets.{numbers_text}
use Rattle.transcript_text.specs.Spelling.{closing_fields, ending_fields, fields_of, frame_bytes, kind_text, sent_fields, verdict_text}
use Rattle.field_texts.specs.Sets.{set_of}
use Rattle.link_lanes.specs.Texts.{fate_of}
use Rattle.transcript_text.specs.Reading.{as_entry, close_of, closing_of, dash_of, end_of, ending_of, fitting, frame_of, group_of, is_within, kind_of, round_of, row_of, send_of, sent_of, tag_of, take_of, tick_of, verdict_of}
use Rattle.field_texts.proofs.NumberLaws.{number_back, within_back}
use Rattle.field_texts.proofs.Choices.{is_word, pick}
use Rattle.transcript_text.proofs.Choices.{bind_ok, long_of, mapped, ok_some, pair, spell_eight, spell_seven, spell_six, spell_two, test_of}
use Rattle.field_texts.proofs.SetLaws.{rising_set, rising_within, set_back}
use Rattle.transcript_text.proofs.FateTexts.{delays_fate, fate_back, within_all}
use Rattle.transcript_text.proofs.FrameTexts.{text_back}

-- what an entry's line says
pub record IsRead (version : Version) (plan : PlanView) (last : ℕ) (fs : List (List ℕ)) (e : Entry) : Type 0 where
  pub fields : fs ≡ fields_of version e
  pub after : last ≤ e.tick
  pub fits : Fits plan e
  pub entry : IsEntry e

-- ---- words

word_back : {A : Type 0} (text word : List ℕ) (x y : A) (rest : Option A) (b : Bool) → bytes_eq text word ≡ b → (if b then Some x else rest) ≡ Some y → ((text ≡ word) × (x ≡ y)) ⊎ (rest ≡ Some y)
word_back text word x y rest true t h = inl (is_word text word t, cc)
word_back text word x y rest false t h = inr h

kind_back : (text : List ℕ) (k : Kind) → kind_of text ≡ Some k → text ≡ kind_text k
kind_back text k h =
    elim (word_back text (codes "r") Reading k _ _ refl h) [
      | inl w ↦ w.0 ∙ ap kind_text w.1
      | inr h ↦ elim (word_back text (codes "m") Announcement k _ _ refl h) [
        | inl w ↦ w.0 ∙ ap kind_text w.1
        | inr h ↦ elim (word_back text (codes "a") Answer k _ _ refl h) [
          | inl w ↦ w.0 ∙ ap kind_text w.1
          | inr h ↦ absurd cc
        ]
      ]
    ]

verdict_back : (text : List ℕ) (v : Verdict) → verdict_of text ≡ Some v → text ≡ verdict_text v
verdict_back text v h =
    elim (word_back text (codes "fresh") Fresh v _ _ refl h) [
      | inl w ↦ w.0 ∙ ap verdict_text w.1
      | inr h ↦ elim (word_back text (codes "again") Again v _ _ refl h) [
        | inl w ↦ w.0 ∙ ap verdict_text w.1
        | inr h ↦ elim (word_back text (codes "late") Late v _ _ refl h) [
          | inl w ↦ w.0 ∙ ap verdict_text w.1
          | inr h ↦ elim (word_back text (codes "void") Void v _ _ refl h) [
            | inl w ↦ w.0 ∙ ap verdict_text w.1
            | inr h ↦ absurd cc
          ]
        ]
      ]
    ]

dash_back : {A : Type 0} (x y : A) (text : List ℕ) (f : RowFault) → ok_or (dash_of x text) f ≡ Ok y → (text ≡ codes "-") × (x ≡ y)
dash_back x y text f h = elim (pick (bytes_eq text (codes "-")) (Some x) None (Some y) (ok_some _ _ _ h)) [
  | inl w ↦ (is_word text (codes "-") w.0, cc)
  | inr w ↦ absurd cc
]

-- ---- places

-- the place that a tag was read at
record IsTag (plan : PlanView) (fs : List (List ℕ)) (tag : Tag) : Type 0 where
  group : at fs 2 ≡ decimal tag.group
  round : at fs 3 ≡ decimal tag.round
  kind : at fs 4 ≡ kind_text tag.kind
  meter : at fs 5 ≡ decimal tag.meter
  place : HasPlace plan tag

placed : (plan : PlanView) (g r i : ℕ) → r < plan.rounds → i < size plan.groups g → is_place plan g r i ≡ true
placed plan g r i a b = grind (arith, nat_tests)

tag_back : (plan : PlanView) (fs : List (List ℕ)) (tag : Tag) → tag_of plan fs ≡ Ok tag → IsTag plan fs tag
unfolding tag_of
tag_back plan fs tag is =
    let g = bind_ok (group_of plan fs) _ tag is in
    let r = bind_ok (round_of plan fs) _ tag g.2 in
    let k = bind_ok (ok_or (kind_of (at fs 4)) (Field 5)) _ tag r.2 in
    let i = bind_ok (ok_or (within 0 (size plan.groups g.0) (number_of (at fs 5))) (Field 6)) _ tag k.2 in
    let gb = within_back _ _ _ _ (ok_some _ _ _ g.1) in
    let rb = within_back _ _ _ _ (ok_some _ _ _ r.1) in
    let kb = kind_back _ _ (ok_some _ _ _ k.1) in
    let ib = within_back _ _ _ _ (ok_some _ _ _ i.1) in
    let made : Tag = record { group = g.0; round = r.0; meter = i.0; kind = k.0 } in
    let same : made ≡ tag = (let e = i.2 in cc) in
    subst (λ (t : Tag). IsTag plan fs t) same (record { group = gb.0; round = rb.0; kind = kb; meter = ib.0; place = placed plan g.0 r.0 i.0 rb.2 ib.2 })

same_kinds : (a b : Kind) → same_kind a b ≡ true → a ≡ b
same_kinds Reading Reading h = refl
same_kinds Announcement Announcement h = refl
same_kinds Answer Answer h = refl
same_kinds Reading Announcement h = absurd cc
same_kinds Reading Answer h = absurd cc
same_kinds Announcement Reading h = absurd cc
same_kinds Announcement Answer h = absurd cc
same_kinds Answer Reading h = absurd cc
same_kinds Answer Announcement h = absurd cc

same_tag : (tag other : Tag) → is_tag tag.group tag.round tag.meter tag.kind other ≡ true → other ≡ tag
same_tag tag other h =
    let a = test_of ((other.group == tag.group) && (other.round == tag.round) && (other.meter == tag.meter)) (same_kind other.kind tag.kind) h in
    let b = test_of ((other.group == tag.group) && (other.round == tag.round)) (other.meter == tag.meter) a.0 in
    let c = test_of (other.group == tag.group) (other.round == tag.round) b.0 in
    let g : other.group ≡ tag.group = grind (arith, nat_tests, c.0) in
    let r : other.round ≡ tag.round = grind (arith, nat_tests, c.1) in
    let i : other.meter ≡ tag.meter = grind (arith, nat_tests, b.1) in
    let k : other.kind ≡ tag.kind = same_kinds other.kind tag.kind a.1 in
    let made : ℕ → ℕ → ℕ → Kind → Tag = λ g r i k. record { group = g; round = r; meter = i; kind = k } in
    ap (λ g. made g other.round other.meter other.kind) g ∙ ap (λ r. made tag.group r other.meter other.kind) r ∙ ap (λ i. made tag.group tag.round i other.kind) i ∙ ap (λ k. made tag.group tag.round tag.meter k) k

-- ---- what was sent

abbrev pub IsSent : Version → ℕ → Tag → List ℕ → List ℕ → Option Frame → Type 0
IsSent version n tag fate text None = (text ≡ codes "void") × (fate ≡ [])
IsSent version n tag fate text (Some frame) = (text ≡ encode_lower (frame_bytes version frame)) × IsFrame frame × (frame.tag ≡ tag) × IsWithin n frame.missing

no_length : (xs : List ℕ) → (length xs == 0) ≡ true → xs ≡ []
no_length [] h = refl
no_length (x ∷ xs) h = absurd (grind (arith, nat_tests, h))

fitting_back : (n : ℕ) (tag : Tag) (o : Option Frame) (sent : Option Frame) → fitting n tag o ≡ Some sent → (f : Frame) × (o ≡ Some f) × (sent ≡ Some f) × (f.tag ≡ tag) × IsWithin n f.missing
fitting_back n tag None sent h = absurd cc
fitting_back n tag (Some f) sent h = elim (pick (is_tag tag.group tag.round tag.meter tag.kind f.tag && is_within n f.missing) (Some (Some f)) None (Some sent) h) [
  | inl w ↦
      let t = test_of (is_tag tag.group tag.round tag.meter tag.kind f.tag) (is_within n f.missing) w.0 in
      let e : sent ≡ Some f = (let o = w.1 in cc) in
      (f, refl, e, same_tag tag f.tag t.0, within_all n f.missing t.1)
  | inr w ↦ absurd (let o = w.1 in cc)
]

pub sent_back : (version : Version) (n : ℕ) (tag : Tag) (fate text : List ℕ) (sent : Option Frame) → sent_of version n tag fate text ≡ Some sent → IsSent version n tag fate text sent
unfolding sent_of
sent_back version n tag fate text sent h =
    elim (pick (bytes_eq text (codes "void")) (if length fate == 0 then Some None else None) (fitting n tag (frame_of version text)) (Some sent) h) [
      | inl w ↦ elim (pick (length fate == 0) (Some None) None (Some sent) w.1) [
        | inl v ↦ let e : None ≡ sent = (let o = v.1 in cc) in subst (λ (s : Option Frame). IsSent version n tag fate text s) e (is_word text (codes "void") w.0, no_length fate v.0)
        | inr v ↦ absurd (let o = v.1 in cc)
      ]
      | inr w ↦
          let f = fitting_back n tag (frame_of version text) sent w.1 in
          let t = text_back version text f.0 f.1 in
          subst (λ (s : Option Frame). IsSent version n tag fate text s) (sym f.2) (t.0, t.1, f.3, f.4)
    ]

pub sent_spelled : (version : Version) (n : ℕ) (tag : Tag) (fate text : List ℕ) (sent : Option Frame) → IsSent version n tag fate text sent → numbers_text fate ∷ text ∷ [] ≡ sent_fields version fate sent
sent_spelled version n tag fate text None s = pair (ap numbers_text s.1) s.0
sent_spelled version n tag fate text (Some frame) s = pair refl s.0

pub sent_fits : (version : Version) (plan : PlanView) (tag : Tag) (fate text : List ℕ) (sent : Option Frame) → HasPlace plan tag → IsSent version (size plan.groups tag.group) tag fate text sent → FitsLine plan fate (Send tag sent)
sent_fits version plan tag fate text None p s = (p, s.1)
sent_fits version plan tag fate text (Some frame) p s = (p, record { same = s.2; fits = s.1.fits; set = s.3 })

pub sent_line : (version : Version) (n : ℕ) (tag : Tag) (fate text : List ℕ) (sent : Option Frame) → IsSent version n tag fate text sent → IsLine (Send tag sent)
sent_line version n tag fate text None s = tt
sent_line version n tag fate text (Some frame) s = (s.1.set, s.1.word)

-- ---- closings and endings

record IsClosing (n : ℕ) (word text : List ℕ) (g r : ℕ) (c : Closing) : Type 0 where
  fields : word ∷ text ∷ [] ≡ closing_fields c
  fits : FitsClosing n c
  line : IsLine (Close g r c)

closing_back : (n : ℕ) (word text : List ℕ) (g r : ℕ) (c : Closing) → n ≤ 256 → closing_of n word text ≡ Ok c → IsClosing n word text g r c
unfolding closing_of
closing_back n word text g r c few h = elim (pick (bytes_eq word (codes "announced")) _ _ _ h) [
  | inl w ↦
      let m = mapped closing.Announced (set_of n text) (Field 6) c w.1 in
      let s = set_back n text m.0 m.1 in
      subst (λ (x : Closing). IsClosing n word text g r x) m.2 (record { fields = pair (is_word word (codes "announced") w.0) s.0; fits = rising_within 0 n m.0 s.1; line = rising_set n m.0 few s.1 })
  | inr w ↦ elim (pick (bytes_eq word (codes "thin")) _ _ _ w.1) [
    | inl w ↦
        let m = mapped closing.Thin (set_of n text) (Field 6) c w.1 in
        let s = set_back n text m.0 m.1 in
        subst (λ (x : Closing). IsClosing n word text g r x) m.2 (record { fields = pair (is_word word (codes "thin") w.0) s.0; fits = rising_within 0 n m.0 s.1; line = rising_set n m.0 few s.1 })
    | inr w ↦ elim (pick (bytes_eq word (codes "already")) _ _ _ w.1) [
      | inl w ↦
          let d = dash_back closing.Already c text (Field 6) w.1 in
          subst (λ (x : Closing). IsClosing n word text g r x) d.1 (record { fields = pair (is_word word (codes "already") w.0) d.0; fits = tt; line = tt })
      | inr w ↦ absurd (let o = w.1 in cc)
    ]
  ]
]

record IsEnding (n : ℕ) (word text : List ℕ) (g r : ℕ) (e : Ending) : Type 0 where
  fields : word ∷ text ∷ [] ≡ ending_fields e
  fits : FitsEnding n e
  line : IsLine (End g r e)

ending_back : (n : ℕ) (word text : List ℕ) (g r : ℕ) (e : Ending) → n ≤ 256 → ending_of n word text ≡ Ok e → IsEnding n word text g r e
unfolding ending_of
ending_back n word text g r e few h = elim (pick (bytes_eq word (codes "total")) _ _ _ h) [
  | inl w ↦
      let m = mapped ending.Total (number_of text) (Field 6) e w.1 in
      let s = number_back text m.0 m.1 in
      subst (λ (x : Ending). IsEnding n word text g r x) m.2 (record { fields = pair (is_word word (codes "total") w.0) s.0; fits = tt; line = s.1 })
  | inr w ↦ elim (pick (bytes_eq word (codes "none")) _ _ _ w.1) [
    | inl w ↦
        let m = mapped ending.Lacking (set_of n text) (Field 6) e w.1 in
        let s = set_back n text m.0 m.1 in
        subst (λ (x : Ending). IsEnding n word text g r x) m.2 (record { fields = pair (is_word word (codes "none") w.0) s.0; fits = rising_within 0 n m.0 s.1; line = rising_set n m.0 few s.1 })
    | inr w ↦ elim (pick (bytes_eq word (codes "thin")) _ _ _ w.1) [
      | inl w ↦
          let d = dash_back ending.Thin e text (Field 6) w.1 in
          subst (λ (x : Ending). IsEnding n word text g r x) d.1 (record { fields = pair (is_word word (codes "thin") w.0) d.0; fits = tt; line = tt })
      | inr w ↦ elim (pick (bytes_eq word (codes "already")) _ _ _ w.1) [
        | inl w ↦
            let d = dash_back ending.Already e text (Field 6) w.1 in
            subst (λ (x : Ending). IsEnding n word text g r x) d.1 (record { fields = pair (is_word word (codes "already") w.0) d.0; fits = tt; line = tt })
        | inr w ↦ elim (pick (bytes_eq word (codes "notclosed")) _ _ _ w.1) [
          | inl w ↦
              let d = dash_back ending.NotClosed e text (Field 6) w.1 in
              subst (λ (x : Ending). IsEnding n word text g r x) d.1 (record { fields = pair (is_word word (codes "notclosed") w.0) d.0; fits = tt; line = tt })
          | inr w ↦ absurd (let o = w.1 in cc)
        ]
      ]
    ]
  ]
]

-- ---- lines

pub no_copies : IsFate []
no_copies = delays_fate [] tt

send_back : (version : Version) (plan : PlanView) (last : ℕ) (fs : List (List ℕ)) (e : Entry) → length fs ≡ 8 → at fs 1 ≡ codes "s" → send_of version plan last fs ≡ Ok e → IsRead version plan last fs e
unfolding send_of
send_back version plan last fs e l k is =
    let t = bind_ok (tick_of last fs) _ e is in
    let g = bind_ok (tag_of plan fs) _ e t.2 in
    let f = bind_ok (ok_or (fate_of (at fs 6)) (Field 7)) _ e g.2 in
    let s = bind_ok (ok_or (sent_of version (size plan.groups g.0.group) g.0 f.0 (at fs 7)) (Field 8)) _ e f.2 in
    let made : Entry = record { tick = t.0; fate = f.0; line = Send g.0 s.0 } in
    let same : made ≡ e = (let o = s.2 in cc) in
    let a = within_back _ _ _ _ (ok_some _ _ _ t.1) in
    let b = tag_back plan fs g.0 g.1 in
    let c = fate_back (at fs 6) f.0 (ok_some _ _ _ f.1) in
    let d = sent_back version (size plan.groups g.0.group) g.0 f.0 (at fs 7) s.0 (ok_some _ _ _ s.1) in
    let two : at fs 6 ∷ at fs 7 ∷ [] ≡ sent_fields version f.0 s.0 = ap (λ q. q ∷ at fs 7 ∷ []) c.0 ∙ sent_spelled version (size plan.groups g.0.group) g.0 f.0 (at fs 7) s.0 d in
    subst (λ (x : Entry). IsRead version plan last fs x) same (record {
      fields = spell_eight fs l a.0 k b.group b.round b.kind b.meter two;
      after = a.1;
      fits = sent_fits version plan g.0 f.0 (at fs 7) s.0 b.place d;
      entry = record { tick = a.2; fate = c.1; line = sent_line version (size plan.groups g.0.group) g.0 f.0 (at fs 7) s.0 d };
    })

take_back : (version : Version) (plan : PlanView) (last : ℕ) (fs : List (List ℕ)) (e : Entry) → length fs ≡ 7 → at fs 1 ≡ codes "t" → take_of plan last fs ≡ Ok e → IsRead version plan last fs e
unfolding take_of
take_back version plan last fs e l k is =
    let t = bind_ok (tick_of last fs) _ e is in
    let g = bind_ok (tag_of plan fs) _ e t.2 in
    let v = bind_ok (ok_or (verdict_of (at fs 6)) (Field 7)) _ e g.2 in
    let made : Entry = record { tick = t.0; fate = []; line = Take g.0 v.0 } in
    let same : made ≡ e = (let o = v.2 in cc) in
    let a = within_back _ _ _ _ (ok_some _ _ _ t.1) in
    let b = tag_back plan fs g.0 g.1 in
    let c = verdict_back _ _ (ok_some _ _ _ v.1) in
    subst (λ (x : Entry). IsRead version plan last fs x) same (record {
      fields = spell_seven fs l a.0 k b.group b.round b.kind b.meter c;
      after = a.1;
      fits = (b.place, refl);
      entry = record { tick = a.2; fate = no_copies; line = tt };
    })

close_back : (version : Version) (plan : PlanView) (last : ℕ) (fs : List (List ℕ)) (e : Entry) → ((g : ℕ) → size plan.groups g ≤ 256) → length fs ≡ 6 → at fs 1 ≡ codes "c" → close_of plan last fs ≡ Ok e → IsRead version plan last fs e
unfolding close_of
close_back version plan last fs e few l k is =
    let t = bind_ok (tick_of last fs) _ e is in
    let g = bind_ok (group_of plan fs) _ e t.2 in
    let r = bind_ok (round_of plan fs) _ e g.2 in
    let v = bind_ok (closing_of (size plan.groups g.0) (at fs 4) (at fs 5)) _ e r.2 in
    let made : Entry = record { tick = t.0; fate = []; line = Close g.0 r.0 v.0 } in
    let same : made ≡ e = (let o = v.2 in cc) in
    let a = within_back _ _ _ _ (ok_some _ _ _ t.1) in
    let b = within_back _ _ _ _ (ok_some _ _ _ g.1) in
    let c = within_back _ _ _ _ (ok_some _ _ _ r.1) in
    let d = closing_back (size plan.groups g.0) (at fs 4) (at fs 5) g.0 r.0 v.0 (few g.0) v.1 in
    subst (λ (x : Entry). IsRead version plan last fs x) same (record {
      fields = spell_six fs l a.0 k b.0 c.0 d.fields;
      after = a.1;
      fits = (record { group = b.2; round = c.2 }, d.fits, refl);
      entry = record { tick = a.2; fate = no_copies; line = d.line };
    })

end_line_back : (version : Version) (plan : PlanView) (last : ℕ) (fs : List (List ℕ)) (e : Entry) → ((g : ℕ) → size plan.groups g ≤ 256) → length fs ≡ 6 → at fs 1 ≡ codes "e" → end_of plan last fs ≡ Ok e → IsRead version plan last fs e
unfolding end_of
end_line_back version plan last fs e few l k is =
    let t = bind_ok (tick_of last fs) _ e is in
    let g = bind_ok (group_of plan fs) _ e t.2 in
    let r = bind_ok (round_of plan fs) _ e g.2 in
    let v = bind_ok (ending_of (size plan.groups g.0) (at fs 4) (at fs 5)) _ e r.2 in
    let made : Entry = record { tick = t.0; fate = []; line = End g.0 r.0 v.0 } in
    let same : made ≡ e = (let o = v.2 in cc) in
    let a = within_back _ _ _ _ (ok_some _ _ _ t.1) in
    let b = within_back _ _ _ _ (ok_some _ _ _ g.1) in
    let c = within_back _ _ _ _ (ok_some _ _ _ r.1) in
    let d = ending_back (size plan.groups g.0) (at fs 4) (at fs 5) g.0 r.0 v.0 (few g.0) v.1 in
    subst (λ (x : Entry). IsRead version plan last fs x) same (record {
      fields = spell_six fs l a.0 k b.0 c.0 d.fields;
      after = a.1;
      fits = (record { group = b.2; round = c.2 }, d.fits, refl);
      entry = record { tick = a.2; fate = no_copies; line = d.line };
    })

entry_back : (r : Result Entry RowFault) (e : Entry) → as_entry r ≡ Ok (row.Entry e) → r ≡ Ok e
entry_back (Ok x) e h = cc
entry_back (Err f) e h = absurd cc

not_last : (r : Result Entry RowFault) (k : ℕ) → as_entry r ≡ Ok (row.Last k) → ⊥
not_last (Ok x) k h = absurd cc
not_last (Err f) k h = absurd cc

pub row_back : (version : Version) (plan : PlanView) (last : ℕ) (fs : List (List ℕ)) (e : Entry) → ((g : ℕ) → size plan.groups g ≤ 256) → row_of version plan last fs ≡ Ok (row.Entry e) → IsRead version plan last fs e
unfolding row_of
row_back version plan last fs e few is = elim (pick ((length fs == 2) && bytes_eq (at fs 0) (codes "end")) _ _ _ is) [
  | inl w ↦ let m = mapped row.Last (number_of (at fs 1)) (Field 2) (row.Entry e) w.1 in absurd (let no : row.Last m.0 ≡ row.Entry e = m.2 in cc)
  | inr w ↦ elim (pick ((length fs == 8) && bytes_eq (at fs 1) (codes "s")) _ _ _ w.1) [
    | inl w ↦ let t = test_of _ _ w.0 in send_back version plan last fs e (long_of fs 8 t.0) (is_word _ _ t.1) (entry_back _ e w.1)
    | inr w ↦ elim (pick ((length fs == 7) && bytes_eq (at fs 1) (codes "t")) _ _ _ w.1) [
      | inl w ↦ let t = test_of _ _ w.0 in take_back version plan last fs e (long_of fs 7 t.0) (is_word _ _ t.1) (entry_back _ e w.1)
      | inr w ↦ elim (pick ((length fs == 6) && bytes_eq (at fs 1) (codes "c")) _ _ _ w.1) [
        | inl w ↦ let t = test_of _ _ w.0 in close_back version plan last fs e few (long_of fs 6 t.0) (is_word _ _ t.1) (entry_back _ e w.1)
        | inr w ↦ elim (pick ((length fs == 6) && bytes_eq (at fs 1) (codes "e")) _ _ _ w.1) [
          | inl w ↦ let t = test_of _ _ w.0 in end_line_back version plan last fs e few (long_of fs 6 t.0) (is_word _ _ t.1) (entry_back _ e w.1)
          | inr w ↦ absurd (let o = w.1 in cc)
        ]
      ]
    ]
  ]
]

pub end_back : (version : Version) (plan : PlanView) (last : ℕ) (fs : List (List ℕ)) (k : ℕ) → row_of version plan last fs ≡ Ok (row.Last k) → fs ≡ codes "end" ∷ decimal k ∷ []
unfolding row_of
end_back version plan last fs k is = elim (pick ((length fs == 2) && bytes_eq (at fs 0) (codes "end")) _ _ _ is) [
  | inl w ↦
      let t = test_of _ _ w.0 in
      let m = mapped row.Last (number_of (at fs 1)) (Field 2) (row.Last k) w.1 in
      let same : m.0 ≡ k = (let e : row.Last m.0 ≡ row.Last k = m.2 in cc) in
      spell_two fs (long_of fs 2 t.0) (is_word _ _ t.1) ((number_back (at fs 1) m.0 m.1).0 ∙ ap decimal same)
  | inr w ↦ elim (pick ((length fs == 8) && bytes_eq (at fs 1) (codes "s")) _ _ _ w.1) [
    | inl w ↦ absurd (not_last _ k w.1)
    | inr w ↦ elim (pick ((length fs == 7) && bytes_eq (at fs 1) (codes "t")) _ _ _ w.1) [
      | inl w ↦ absurd (not_last _ k w.1)
      | inr w ↦ elim (pick ((length fs == 6) && bytes_eq (at fs 1) (codes "c")) _ _ _ w.1) [
        | inl w ↦ absurd (not_last _ k w.1)
        | inr w ↦ elim (pick ((length fs == 6) && bytes_eq (at fs 1) (codes "e")) _ _ _ w.1) [
          | inl w ↦ absurd (not_last _ k w.1)
          | inr w ↦ absurd (let o = w.1 in cc)
        ]
      ]
    ]
  ]
]
