-- Entries as stamps and lines.
use Rattle.std.proofs.Common.{◌≡◌, ℕ, zero, suc, ◌<◌, List, [], ◌∷◌, ◌++◌, length, get_or, refl, ap, arith}
use Rattle.event_schedule.specs.declared.Line.{Line}
use Rattle.event_schedule.specs.declared.Entry.{Entry}
use Rattle.transcript_log.specs.declared.transcript.Stamp.{Stamp}
use Rattle.transcript_log.specs.Stamps.{entries_of}

pub length-entries_of : (ss : List Stamp) (ls : List Line) → length ss ≡ length ls → length (entries_of ss ls) ≡ length ls
length-entries_of [] [] long = refl
length-entries_of [] (l ∷ ls) long = absurd (omega arith)
length-entries_of (s ∷ ss) [] long = absurd (omega arith)
length-entries_of (s ∷ ss) (l ∷ ls) long = ap suc (length-entries_of ss ls (omega arith))

pub entries_of-push : (ss : List Stamp) (ls : List Line) (s : Stamp) (l : Line) → length ss ≡ length ls
    → entries_of (ss ++ s ∷ []) (ls ++ l ∷ []) ≡ entries_of ss ls ++ record { tick = s.tick; fate = s.fate; line = l } ∷ []
entries_of-push [] [] s l long = refl
entries_of-push [] (y ∷ ls) s l long = absurd (omega arith)
entries_of-push (x ∷ ss) [] s l long = absurd (omega arith)
entries_of-push (x ∷ ss) (y ∷ ls) s l long = ap (λ es. record { tick = x.tick; fate = x.fate; line = y } ∷ es) (entries_of-push ss ls s l (omega arith))

pub get_or-entries_of : (ss : List Stamp) (ls : List Line) (k : ℕ) (s : Stamp) (l : Line) (e : Entry) → length ss ≡ length ls → k < length ls
    → get_or (entries_of ss ls) k e ≡ record { tick = (get_or ss k s).tick; fate = (get_or ss k s).fate; line = get_or ls k l }
get_or-entries_of [] ls k s l e long lt = absurd (omega arith)
get_or-entries_of (x ∷ ss) [] k s l e long lt = absurd (omega arith)
get_or-entries_of (x ∷ ss) (y ∷ ls) zero s l e long lt = refl
get_or-entries_of (x ∷ ss) (y ∷ ls) (suc k) s l e long lt = get_or-entries_of ss ls k s l e (omega arith) (omega arith)
