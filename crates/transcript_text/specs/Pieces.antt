-- A text that is made in pieces.
use Rattle.std.specs.Prelude.{◌≡◌, ◌<◌, ℕ, List, Vec, [], ◌++◌, length, All, codes, decimal}
use Rattle.std.specs.List.{flat_map}
use Rattle.std.specs.declared.alloc.Global.{Global}
use Rattle.event_schedule.specs.Transcripts.{TranscriptView}
use Rattle.transcript_text.specs.declared.made.MadePieces.{MadePieces}
use Rattle.transcript_text.specs.declared.made.TextPlace.{TextPlace}
use Rattle.transcript_text.specs.declared.made.TextPlace.TheVariants.{Head, Entry, End}
use Rattle.transcript_text.specs.declared.made.Until.{Until}
use Rattle.transcript_text.specs.declared.made.Until.TheVariants.{LastEntry, EndLine}
use Rattle.transcript_text.specs.Spelling.{ended}
use Rattle.transcript_text.specs.Writing.{lines_from, begun_text}

-- the bytes behind the lines of all entries: none, or the `end` line
abbrev pub behind_lines : TranscriptView → Until → List ℕ
behind_lines t LastEntry = []
behind_lines t EndLine = ended (codes "end," ++ decimal (length t.entries))

-- the bytes that are still to come at a place, of a text that goes so far
abbrev pub rest_at : TranscriptView → Until → TextPlace → List ℕ
rest_at t until Head = begun_text t.plan t.entries ++ behind_lines t until
rest_at t until (Entry at) = lines_from t.entries at ++ behind_lines t until
rest_at t until End = []

-- the bytes of pieces, one piece after another
abbrev pub bytes_of : List (Vec ℕ Global) → List ℕ
bytes_of pieces = flat_map (λ piece. piece.items) pieces

-- the bytes of the pieces that are made, and then those at the place after them
abbrev pub to_come : TranscriptView → Until → MadePieces → List ℕ
to_come t until made = bytes_of made.pieces.items ++ rest_at t until made.after

-- no piece is empty
abbrev pub AreFilled : List (Vec ℕ Global) → Type 0
AreFilled pieces = All (λ piece. 0 < length piece.items) pieces

-- pieces that come next at a place, none of them empty, and what comes after them; there is none only where nothing is to come
pub record AreNext (t : TranscriptView) (until : Until) (place : TextPlace) (made : MadePieces) : Type 0 where
  pub text : to_come t until made ≡ rest_at t until place
  pub filled : AreFilled made.pieces.items
  pub end : made.pieces.items ≡ [] → rest_at t until place ≡ []

-- pieces that come next at a place, however far the text goes
abbrev pub AreNextOfBoth : TranscriptView → TextPlace → MadePieces → Type 0
AreNextOfBoth t place made = (until : Until) → AreNext t until place made
