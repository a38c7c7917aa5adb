-- A line of the head that is read was written so.
use Rattle.std.proofs.Common.{◌≡◌, ◌<◌, ◌^◌, ◌==◌, ◌&&◌, ℕ, true, false, List, [], ◌∷◌, length, refl, decimal, Option, Some, None, Ok, Err, inl, inr, subst}
use Rattle.std.specs.Prelude.{codes, IsTrue, is_some}
use Rattle.std.specs.Option.{ok_or}
use Rattle.std.specs.Str.{bytes_eq}
use Rattle.group_plan.specs.declared.plan.GroupPlan.{GroupPlan}
use Rattle.group_plan.specs.declared.plan.members.Span.{Span}
use Rattle.group_plan.specs.Names.{is_name}
use Rattle.transcript_text.specs.declared.version.Version.{Version}
use Rattle.transcript_text.specs.declared.head.HeadRow.{HeadRow}
use Rattle.transcript_text.specs.declared.head.HeadRow.TheVariants as row
use Rattle.transcript_text.specs.declared.fault.ReadError.TheVariants as fault
use Rattle.transcript_text.specs.Parts.{at}
use Rattle.transcript_text.specs.Spelling.{group_fields, member_fields}
use Rattle.transcript_text.specs.Heads.{group_row, head_number, head_row, is_two, member_row, name_of, span_fits}
use Rattle.field_texts.proofs.NumberLaws.{within_back}
use Rattle.field_texts.proofs.Choices.{is_word, pick}
use Rattle.transcript_text.proofs.Choices.{bind_ok, long_of, ok_some, spell_five, spell_four, spell_one, test_of}

pub number_back : (n m : ℕ) (text : List ℕ) → head_number n text ≡ Ok m → (text ≡ decimal m) × (m < 2 ^ 32)
number_back n m text h = let w = within_back 0 (2 ^ 32) m text (ok_some _ _ _ h) in (w.0, w.2)

name_back : (text name : List ℕ) → name_of text ≡ Some name → (text ≡ name) × (is_name name ≡ true)
name_back text name h = elim (pick (is_name text) (Some text) None (Some name) h) [
  | inl w ↦ let e : text ≡ name = cc in (e, subst (λ (t : List ℕ). is_name t ≡ true) e w.0)
  | inr w ↦ absurd cc
]

-- what a group line says
pub record IsGroupLine (last : Option Span) (fs : List (List ℕ)) (g : GroupPlan) : Type 0 where
  pub first : last ≡ None
  pub fields : fs ≡ group_fields g
  pub name : IsTrue (is_name g.name)
  pub meters : g.meters < 2 ^ 32
  pub floor : g.floor < 2 ^ 32

-- what a member line says
pub record IsMemberLine (version : Version) (rounds : ℕ) (groups : List GroupPlan) (last : Option Span) (fs : List (List ℕ)) (s : Span) : Type 0 where
  pub version_2 : is_two version ≡ true
  pub fields : fs ≡ member_fields s
  pub fits : IsTrue (span_fits rounds groups last s)
  pub group : s.group < 2 ^ 32

row_of_group : (n : ℕ) (last : Option Span) (fs : List (List ℕ)) (g : GroupPlan) → last ≡ None → length fs ≡ 4 → at fs 0 ≡ codes "group" → group_row n fs ≡ Ok (row.Group g) → IsGroupLine last fs g
row_of_group n last fs g none l w is =
    let name = bind_ok (ok_or (name_of (at fs 1)) (fault.Head n)) _ (row.Group g) is in
    let meters = bind_ok (head_number n (at fs 2)) _ (row.Group g) name.2 in
    let floor = bind_ok (head_number n (at fs 3)) _ (row.Group g) meters.2 in
    let made : GroupPlan = record { name = name.0; meters = meters.0; floor = floor.0 } in
    let same : made ≡ g = (let e : row.Group made ≡ row.Group g = (let o = floor.2 in cc) in cc) in
    let a = name_back (at fs 1) name.0 (ok_some _ _ _ name.1) in
    let b = number_back n meters.0 (at fs 2) meters.1 in
    let c = number_back n floor.0 (at fs 3) floor.1 in
    subst (λ (x : GroupPlan). IsGroupLine last fs x) same (record {
      first = none;
      fields = spell_four fs l w a.0 b.0 c.0;
      name = a.1;
      meters = b.1;
      floor = c.1;
    })

not_member : (n : ℕ) (fs : List (List ℕ)) (s : Span) → group_row n fs ≡ Ok (row.Member s) → ⊥
not_member n fs s is =
    let name = bind_ok (ok_or (name_of (at fs 1)) (fault.Head n)) _ (row.Member s) is in
    let meters = bind_ok (head_number n (at fs 2)) _ (row.Member s) name.2 in
    let floor = bind_ok (head_number n (at fs 3)) _ (row.Member s) meters.2 in
    absurd (let e = floor.2 in cc)

not_begin : (n : ℕ) (fs : List (List ℕ)) → group_row n fs ≡ Ok row.Begin → ⊥
not_begin n fs is =
    let name = bind_ok (ok_or (name_of (at fs 1)) (fault.Head n)) _ row.Begin is in
    let meters = bind_ok (head_number n (at fs 2)) _ row.Begin name.2 in
    let floor = bind_ok (head_number n (at fs 3)) _ row.Begin meters.2 in
    absurd (let e = floor.2 in cc)

-- the span of a member line, where it is one
read_member : (n rounds : ℕ) (groups : List GroupPlan) (last : Option Span) (fs : List (List ℕ)) (r : HeadRow) → member_row n rounds groups last fs ≡ Ok r
    → (s : Span) × (r ≡ row.Member s) × (at fs 1 ≡ decimal s.group) × (at fs 2 ≡ decimal s.meter) × (at fs 3 ≡ decimal s.from) × (at fs 4 ≡ decimal s.until) × (span_fits rounds groups last s ≡ true) × (s.group < 2 ^ 32)
read_member n rounds groups last fs r is =
    let g = bind_ok (head_number n (at fs 1)) _ r is in
    let i = bind_ok (head_number n (at fs 2)) _ r g.2 in
    let from = bind_ok (head_number n (at fs 3)) _ r i.2 in
    let until = bind_ok (head_number n (at fs 4)) _ r from.2 in
    let s : Span = record { group = g.0; meter = i.0; from = from.0; until = until.0 } in
    elim (pick (span_fits rounds groups last s) (Ok (row.Member s)) (Err (fault.Head n)) (Ok r) until.2) [
      | inl w ↦
          let e : r ≡ row.Member s = (let o = w.1 in cc) in
          let a = number_back n g.0 (at fs 1) g.1 in
          (s, e, a.0, (number_back n i.0 (at fs 2) i.1).0, (number_back n from.0 (at fs 3) from.1).0, (number_back n until.0 (at fs 4) until.1).0, w.0, a.1)
      | inr w ↦ absurd (let o = w.1 in cc)
    ]

row_of_member : (version : Version) (n rounds : ℕ) (groups : List GroupPlan) (last : Option Span) (fs : List (List ℕ)) (s : Span) → is_two version ≡ true → length fs ≡ 5 → at fs 0 ≡ codes "member"
    → member_row n rounds groups last fs ≡ Ok (row.Member s) → IsMemberLine version rounds groups last fs s
row_of_member version n rounds groups last fs s two l w is =
    let m = read_member n rounds groups last fs (row.Member s) is in
    let same : m.0 ≡ s = (let e = m.1 in cc) in
    subst (λ (x : Span). IsMemberLine version rounds groups last fs x) same (record {
      version_2 = two;
      fields = spell_five fs l w m.2 m.3 m.4 m.5;
      fits = m.6;
      group = m.7;
    })

no_span : (last : Option Span) → is_some last ≡ false → last ≡ None
no_span None h = refl
no_span (Some s) h = absurd cc

module _ (version : Version) (n rounds : ℕ) (groups : List GroupPlan) (last : Option Span) (fs : List (List ℕ)) where
  pub group_back : (g : GroupPlan) → head_row version n rounds groups last fs ≡ Ok (row.Group g) → IsGroupLine last fs g
  unfolding head_row
  group_back g is = elim (pick ((length fs == 1) && bytes_eq (at fs 0) (codes "begin")) _ _ _ is) [
    | inl w ↦ absurd (let e = w.1 in cc)
    | inr w ↦ elim (pick ((length fs == 4) && bytes_eq (at fs 0) (codes "group")) _ _ _ w.1) [
      | inl w ↦
          let t = test_of _ _ w.0 in
          elim (pick (is_some last) _ _ _ w.1) [
            | inl v ↦ absurd (let e = v.1 in cc)
            | inr v ↦ row_of_group n last fs g (no_span last v.0) (long_of fs 4 t.0) (is_word _ _ t.1) v.1
          ]
      | inr w ↦ elim (pick ((length fs == 5) && bytes_eq (at fs 0) (codes "member") && is_two version) _ _ _ w.1) [
        | inl w ↦ let m = read_member n rounds groups last fs (row.Group g) w.1 in absurd (let e = m.1 in cc)
        | inr w ↦ absurd (let e = w.1 in cc)
      ]
    ]
  ]

  pub member_back : (s : Span) → head_row version n rounds groups last fs ≡ Ok (row.Member s) → IsMemberLine version rounds groups last fs s
  unfolding head_row
  member_back s is = elim (pick ((length fs == 1) && bytes_eq (at fs 0) (codes "begin")) _ _ _ is) [
    | inl w ↦ absurd (let e = w.1 in cc)
    | inr w ↦ elim (pick ((length fs == 4) && bytes_eq (at fs 0) (codes "group")) _ _ _ w.1) [
      | inl w ↦
          elim (pick (is_some last) _ _ _ w.1) [
            | inl v ↦ absurd (let e = v.1 in cc)
            | inr v ↦ absurd (not_member n fs s v.1)
          ]
      | inr w ↦ elim (pick ((length fs == 5) && bytes_eq (at fs 0) (codes "member") && is_two version) _ _ _ w.1) [
        | inl w ↦
            let t = test_of _ _ w.0 in
            let u = test_of _ _ t.0 in
            row_of_member version n rounds groups last fs s t.1 (long_of fs 5 u.0) (is_word _ _ u.1) w.1
        | inr w ↦ absurd (let e = w.1 in cc)
      ]
    ]
  ]

  pub begin_back : head_row version n rounds groups last fs ≡ Ok row.Begin → fs ≡ codes "begin" ∷ []
  unfolding head_row
  begin_back is = elim (pick ((length fs == 1) && bytes_eq (at fs 0) (codes "begin")) _ _ _ is) [
    | inl w ↦ let t = test_of _ _ w.0 in spell_one fs (long_of fs 1 t.0) (is_word _ _ t.1)
    | inr w ↦ elim (pick ((length fs == 4) && bytes_eq (at fs 0) (codes "group")) _ _ _ w.1) [
      | inl w ↦
          elim (pick (is_some last) _ _ _ w.1) [
            | inl v ↦ absurd (let e = v.1 in cc)
            | inr v ↦ absurd (not_begin n fs v.1)
          ]
      | inr w ↦ elim (pick ((length fs == 5) && bytes_eq (at fs 0) (codes "member") && is_two version) _ _ _ w.1) [
        | inl w ↦ let m = read_member n rounds groups last fs row.Begin w.1 in absurd (let e = m.1 in cc)
        | inr w ↦ absurd (let e = w.1 in cc)
      ]
    ]
  ]
