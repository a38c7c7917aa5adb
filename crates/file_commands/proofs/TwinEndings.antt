-- How `twin`, `pooled` and `ringtwin` end, from how their parts do.
use Rattle.std.proofs.Common.{List, ℕ, ◌≡◌, inl, inr, [], ◌∷◌, subst, length, ap, ◌∙◌, refl}
use Rattle.command_words.specs.declared.outcome.Outcome.{Outcome}
use Rattle.command_words.specs.Words.{TwinNames}
use Rattle.desk_outside.specs.Desk.{View}
use Rattle.command_files.specs.Calls.{IsRead, after_fetches, putting, PutsEnd}
use Rattle.command_texts.specs.Lines.{counted_line, moved_line}
use Rattle.file_commands.specs.TwinEnds.{AreReadBy, compared_by, MovedAreSaid, ComparedEndsAs, TwinCommandEnds, PooledEndsAs}
use Rattle.command_files.proofs.CallLemmas.{read_after}
use Rattle.twin_worlds.specs.declared.rows.MovedRow.{MovedRow}
use Rattle.twin_worlds.specs.MasksText.{masks_text}
use Rattle.command_texts.specs.Twins.{TwinBytes}
use Rattle.std.specs.Prelude.{codes}
use Rattle.command_words.specs.Known.{known_of, IsKnown}
use Rattle.command_texts.proofs.TwinLemmas.{refuses-nobody}

-- the bytes of four files that were read one after the other
pub four_read : (names : TwinNames) (v u w : View) (p r o t : List ℕ) → IsRead (v.held names.plan) p → IsRead (v.held names.readings) r
    → u ≡ after_fetches (names.plan ∷ names.readings ∷ []) v → IsRead (u.held names.other) o → IsRead (u.held names.transcript) t → w ≡ after_fetches (names.other ∷ names.transcript ∷ []) u
    → AreReadBy names v (record { plan = p; readings = r; other = o; transcript = t }) × (w ≡ after_fetches (compared_by names) v)
four_read names v u w p r o t p_read r_read first o_read t_read second = (
  record {
    plan = p_read;
    readings = r_read;
    other = read_after (names.plan ∷ names.readings ∷ []) names.other o v u first o_read;
    transcript = read_after (names.plan ∷ names.readings ∷ []) names.transcript t v u first t_read;
  },
  second ∙ ap (after_fetches (names.other ∷ names.transcript ∷ [])) first,
)

-- the file of the moved words is put
pub moved_are_said : (verb name : List ℕ) (rows : List MovedRow) (count : ℕ) (v w : View) (outcome : Outcome) (text line : List ℕ) → text ≡ masks_text rows → line ≡ counted_line verb count
    → count ≡ length rows → PutsEnd (putting name text ∷ []) line v w outcome → MovedAreSaid verb name rows v w outcome
moved_are_said verb name rows count v w outcome text line text_is line_is count_is ends =
    subst (λ line. PutsEnd (putting name (masks_text rows) ∷ []) line v w outcome) (line_is ∙ ap (counted_line verb) count_is)
    (subst (λ text. PutsEnd (putting name text ∷ []) line v w outcome) text_is ends)

-- what the files say is refused
pub twin_refused : (verb : List ℕ) (refuses : TwinBytes → Outcome → Type 0) (compares : TwinBytes → List MovedRow → Type 0) (names : TwinNames) (v u : View) (outcome : Outcome) (bytes : TwinBytes)
    → AreReadBy names v bytes → u ≡ after_fetches (compared_by names) v → refuses bytes outcome → ComparedEndsAs verb refuses compares names v u outcome
twin_refused verb refuses compares names v u outcome bytes read after refused = inr (bytes, read, inl (refused, after))

pub twin_ends : (verb : List ℕ) (refuses : TwinBytes → Outcome → Type 0) (compares : TwinBytes → List MovedRow → Type 0) (names : TwinNames) (v u w : View) (outcome : Outcome) (rows : List MovedRow) (bytes : TwinBytes)
    → AreReadBy names v bytes → u ≡ after_fetches (compared_by names) v → compares bytes rows → MovedAreSaid verb names.masks rows u w outcome → ComparedEndsAs verb refuses compares names v w outcome
twin_ends verb refuses compares names v u w outcome rows bytes read after compared ends =
    inr (bytes, read, inr (rows, compared, subst (λ u. MovedAreSaid verb names.masks rows u w outcome) after ends))

-- ---- `twin`

-- `-` names nobody
pub nobody_named : IsKnown (codes "-")
unfolding known_of
nobody_named = refl

line-of-twin : (rows : ℕ) → counted_line (codes "twin") rows ≡ moved_line rows
unfolding counted_line moved_line
line-of-twin rows = refl

-- so `twin` ends as it does against nobody
pub ends_of_nobody : (names : TwinNames) (v w : View) (outcome : Outcome) → PooledEndsAs (codes "twin") [] names v w outcome → TwinCommandEnds names v w outcome
ends_of_nobody names v w outcome (inl unread) = inl unread
ends_of_nobody names v w outcome (inr (bytes, read, inl (refused, after))) = inr (bytes, read, inl (refuses-nobody names bytes outcome refused, after))
ends_of_nobody names v w outcome (inr (bytes, read, inr (rows, (values, are, within, ends), put))) =
    inr (
      bytes,
      read,
      inr (
        rows,
        (values, are, ends),
        subst (λ line. PutsEnd (putting names.masks (masks_text rows) ∷ []) line (after_fetches (compared_by names) v) w outcome) (line-of-twin (length rows)) put,
      ),
    )
