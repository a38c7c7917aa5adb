-- The text of side words, piece by piece.
use Rattle.std.proofs.Common.{◌≡◌, ◌∙◌, ℕ, ◌+◌, ◌-◌, List, ◌++◌, sym, ap, arith, drop, drop-drop, take, length, append_assoc, ◌<◌, [], ◌∷◌, length-append, ◌≤◌, length-drop, length-take, refl, append-nil}
use Rattle.std.specs.List.{flat_map}
use Rattle.std.specs.Prelude.{slice_range}
use Rattle.std.proofs.lemmas.Grind.{flat_map-append}
use Rattle.std.proofs.lemmas.List.{take-append-drop}
use Rattle.register_words.specs.declared.row.SideRow.{SideRow}
use Rattle.register_words.specs.SideText.{row_text, rows_text, side_end, side_head, side_text}
use Rattle.transcript_text.specs.Spelling.{ended}
use Rattle.command_files.specs.declared.source.WordsStage.{WordsStage}
use Rattle.command_files.specs.declared.source.WordsStage.TheVariants.{Head, Rows}
use Rattle.command_files.specs.Sources.{words_after}

rows_split : (from n : ℕ) (rows : List SideRow) → rows_text (drop from rows) ≡ rows_text (slice_range rows from (from + n)) ++ rows_text (drop (from + n) rows)
unfolding rows_text
rows_split from n rows =
    let same : from + n - from ≡ n = omega arith in
    let after : drop n (drop from rows) ≡ drop (from + n) rows = drop-drop n from rows ∙ ap (λ m. drop m rows) (omega arith) in
    ap (flat_map (λ row. ended (row_text row))) (sym (take-append-drop n (drop from rows)))
    ∙ flat_map-append (λ row. ended (row_text row)) (take n (drop from rows)) (drop n (drop from rows))
    ∙ ap (λ l. flat_map (λ row. ended (row_text row)) (take n (drop from rows)) ++ flat_map (λ row. ended (row_text row)) l) after
    ∙ ap (λ m. flat_map (λ row. ended (row_text row)) (take m (drop from rows)) ++ flat_map (λ row. ended (row_text row)) (drop (from + n) rows)) (sym same)

-- the first line
pub head_piece : (words : List SideRow) (stage : WordsStage) (piece : List ℕ) → stage ≡ Head → piece ≡ ended side_head → words_after words stage ≡ piece ++ (rows_text words ++ ended (side_end (length words)))
unfolding side_text
head_piece words stage piece is made = ap (words_after words) is ∙ ap (λ l. l ++ (rows_text words ++ ended (side_end (length words)))) (sym made)

-- the lines of some rows
pub rows_piece : (words : List SideRow) (stage : WordsStage) (from n : ℕ) (piece : List ℕ) → stage ≡ Rows from → piece ≡ rows_text (slice_range words from (from + n))
    → words_after words stage ≡ piece ++ (rows_text (drop (from + n) words) ++ ended (side_end (length words)))
rows_piece words stage from n piece is made =
    ap (words_after words) is ∙ ap (λ l. l ++ ended (side_end (length words))) (rows_split from n words)
    ∙ append_assoc (rows_text (slice_range words from (from + n))) (rows_text (drop (from + n) words)) (ended (side_end (length words)))
    ∙ ap (λ l. l ++ (rows_text (drop (from + n) words) ++ ended (side_end (length words)))) (sym made)

-- some rows have some text
some_text : (rows : List SideRow) → 0 < length rows → rows_text rows ≡ [] → ⊥
unfolding rows_text
some_text [] some none = absurd (omega (arith, some))
some_text (row ∷ rows) some none =
    let long = length-append (row_text row) (10 ∷ []) in
    let all = length-append (ended (row_text row)) (flat_map (λ row. ended (row_text row)) rows) in
    let nothing = ap length none in
    omega (arith, long, all, nothing)

pub rows_piece_is_some : (words : List SideRow) (from n : ℕ) (piece : List ℕ) → from + n ≤ length words → 0 < n → piece ≡ rows_text (slice_range words from (from + n)) → piece ≡ [] → ⊥
rows_piece_is_some words from n piece within some made none =
    let long = length-take (from + n - from) (drop from words) in
    let left = length-drop from words in
    some_text (slice_range words from (from + n)) (omega (arith, long, left, within, some)) (sym made ∙ none)

-- the last line, once no row is left
pub end_piece : (words : List SideRow) (stage : WordsStage) (from : ℕ) (piece : List ℕ) → stage ≡ Rows from → length words ≤ from → piece ≡ ended (side_end (length words)) → words_after words stage ≡ piece ++ []
unfolding rows_text
end_piece words stage from piece is over made =
    let none : drop from words ≡ [] = drop_all from words over in
    ap (words_after words) is ∙ ap (λ l. flat_map (λ row. ended (row_text row)) l ++ ended (side_end (length words))) none ∙ sym made ∙ sym (append-nil piece)
  where
    drop_all : (n : ℕ) (l : List SideRow) → length l ≤ n → drop n l ≡ []
    drop_all n l over =
        let long = length-drop n l in
        empty (drop n l) (omega (arith, long, over))
      where
        empty : (l : List SideRow) → length l ≡ 0 → l ≡ []
        empty [] h = refl
        empty (x ∷ l) h = absurd (omega (arith, h))
