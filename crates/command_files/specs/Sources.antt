-- The bytes of a new file.
use Rattle.std.specs.Prelude.{ℕ, List, [], ◌++◌, drop, length}
use Rattle.register_words.specs.SideText.{side_text, rows_text, side_end}
use Rattle.transcript_text.specs.Spelling.{transcript_text, ended}
use Rattle.command_files.specs.declared.source.Source.{Source}
use Rattle.command_files.specs.declared.source.Source.TheVariants.{Bytes, Transcript, Words}
use Rattle.register_words.specs.declared.row.SideRow.{SideRow}
use Rattle.command_files.specs.declared.source.WordsStage.{WordsStage}
use Rattle.command_files.specs.declared.source.WordsStage.TheVariants.{Head, Rows, Over}

-- those that are given, or the text of a transcript or of side words
abbrev pub source_bytes : Source → List ℕ
source_bytes (Bytes bytes) = bytes.now
source_bytes (Transcript transcript) = transcript_text transcript.now
source_bytes (Words words) = side_text words.now

-- what is left of the text of side words at a stage
abbrev pub words_after : List SideRow → WordsStage → List ℕ
words_after rows Head = side_text rows
words_after rows (Rows from) = rows_text (drop from rows) ++ ended (side_end (length rows))
words_after rows Over = []
