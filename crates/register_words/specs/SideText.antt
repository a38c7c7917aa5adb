-- The file of the side words.
use Rattle.std.specs.Prelude.{ℕ, List, ◌++◌, codes, decimal, length, take}
use Rattle.std.specs.Int.{to_be_bytes, w64}
use Rattle.std.specs.List.{flat_map}
use Rattle.hex.specs.Hex.{encode_lower}
use Rattle.transcript_text.specs.Spelling.{ended}
use Rattle.register_words.specs.declared.row.SideRow.{SideRow}

-- a word as 16 hexadecimal digits, behind a comma
abbrev pub word_text : ℕ → List ℕ
word_text word = codes "," ++ encode_lower (to_be_bytes w64 word)

-- the line of a row: its line's number and its words
abbrev pub row_text : SideRow → List ℕ
row_text row = decimal row.line ++ flat_map word_text (take row.count row.words)

-- the lines of rows, each with its newline
unfoldable pub rows_text : List SideRow → List ℕ
rows_text rows = flat_map (λ row. ended (row_text row)) rows

-- the first line
abbrev pub side_head : List ℕ
side_head = codes "meteragg words 1"

-- the last line, with the number of rows
abbrev pub side_end : ℕ → List ℕ
side_end count = codes "end," ++ decimal count

-- the text of all rows
unfoldable pub side_text : List SideRow → List ℕ
side_text rows = ended side_head ++ (rows_text rows ++ ended (side_end (length rows)))
