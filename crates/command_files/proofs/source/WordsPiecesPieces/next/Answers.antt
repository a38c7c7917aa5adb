use Rattle.std.proofs.Common.{◌∙◌, ◌+◌, ◌++◌, List, ℕ, ap, arith, length}
use Rattle.std.specs.Prelude.{slice_range}
use Rattle.register_words.specs.declared.row.SideRow.{SideRow}
use Rattle.register_words.specs.SideText.{rows_text}
use Rattle.command_files.proofs.WordsPieces.{end_piece, head_piece, rows_piece, rows_piece_is_some}
use Rattle.command_files.proofs.source.WordsPiecesPieces.next.Goals as goal

pub returns-in_ok-extend_from_slice-in-Head-clause-next : goal.returns-in_ok-extend_from_slice-in-Head-clause-next
returns-in_ok-extend_from_slice-in-Head-clause-next c =
    head_piece _ _ _ c.in-Head.is
    (c.in_ok-extend_from_slice-in-Head.ensures.items ∙ ap (λ (l : List ℕ). l ++ c.side_head.result.now) c.clear.ensures.items ∙ c.side_head.ensures)

pub returns-in_ok-extend_from_slice-in-Rows-clause-next : goal.returns-in_ok-extend_from_slice-in-Rows-clause-next
returns-in_ok-extend_from_slice-in-Rows-clause-next c =
    rows_piece c.args.self.now.words.now _ c.in-Rows.from c.min.result _ c.in-Rows.is
    (c.in_ok-extend_from_slice-in-Rows.ensures.items ∙ ap (λ (l : List ℕ). l ++ c.deref.result.now) c.clear.ensures.items ∙ c.deref.ensures.value ∙ c.in_ok-side_lines-in-Rows.ensures
    ∙ ap (λ (rows : List SideRow). rows_text (slice_range rows c.in-Rows.from (c.in-Rows.from + c.min.result))) c.rows-rows.ensures)

pub returns-in_ok-extend_from_slice-in-Rows-clause-end : goal.returns-in_ok-extend_from_slice-in-Rows-clause-end
returns-in_ok-extend_from_slice-in-Rows-clause-end c none =
    let more = c.if-from-rows.true in
    let n = c.min.ensures in
    absurd (rows_piece_is_some c.rows-rows.result.now c.in-Rows.from c.min.result _ (omega (arith, more, n)) (omega (arith, more, n))
    (c.in_ok-extend_from_slice-in-Rows.ensures.items ∙ ap (λ (l : List ℕ). l ++ c.deref.result.now) c.clear.ensures.items ∙ c.deref.ensures.value ∙ c.in_ok-side_lines-in-Rows.ensures) none)

pub returns-in_ok-extend_from_slice-in-Rows-2-clause-next : goal.returns-in_ok-extend_from_slice-in-Rows-2-clause-next
returns-in_ok-extend_from_slice-in-Rows-2-clause-next c =
    let over = c.if-from-rows.false in
    let long = ap (λ (l : List _). length l) c.rows-rows.ensures in
    end_piece _ _ c.in-Rows.from _ c.in-Rows.is (omega (arith, over, long))
    (c.in_ok-extend_from_slice-in-Rows-2.ensures.items ∙ ap (λ (l : List ℕ). l ++ c.deref-else-from-rows.result.now) c.clear.ensures.items ∙ c.deref-else-from-rows.ensures.value ∙ c.in_ok-side_end-in-Rows.ensures)
