use Rattle.std.proofs.Common.{◌≡◌, ◌++◌, take}
use Rattle.std.specs.List.{flat_map}
use Rattle.transcript_text.specs.Spelling.{ended}
use Rattle.register_words.specs.SideText.{row_text}
use Rattle.register_words.proofs.text.put_rows.Given as goal

abbrev pub invariant-loop-row : goal.invariant-loop-row
invariant-loop-row l = l.out.items ≡ l.fn.out.items ++ flat_map (λ row. ended (row_text row)) (take l.row-index l.rows)
