-- The bytes of pieces, one piece after another.
use Rattle.std.proofs.Common.{◌≡◌, ◌<◌, ◌≤◌, ◌+◌, ◌*◌, ℕ, zero, suc, List, Vec, [], ◌∷◌, ◌++◌, length, min, map, codes, decimal, sym, ap, ◌∙◌, append_assoc, append-nil, subst, arith, Result, Ok, Err, IfOk}
use Rattle.std.specs.Prelude.{MatchResult}
use Rattle.std.specs.List.{AllZip, range_with_len, Contains}
use Rattle.std.specs.declared.alloc.AllocError.{AllocError}
use Rattle.std.specs.declared.alloc.Global.{Global}
use Rattle.std.proofs.lemmas.List.Elements.{All-nil, All-cons}
use Rattle.group_plan.specs.Plans.{PlanView}
use Rattle.event_schedule.specs.declared.Entry.{Entry}
use Rattle.event_schedule.specs.Transcripts.{TranscriptView}
use Rattle.transcript_text.specs.declared.version.Version.TheVariants.{Two}
use Rattle.transcript_text.specs.Spelling.{ended, head_text}
use Rattle.transcript_text.specs.Writing.{lines_text, lines_from}
use Rattle.transcript_text.specs.Batches.{piece_start, IsPiece}
use Rattle.transcript_text.specs.Pieces.{behind_lines, rest_at, bytes_of, AreFilled, AreNext, AreNextOfBoth}
use Rattle.transcript_text.specs.declared.made.MadePieces.{MadePieces}
use Rattle.transcript_text.specs.declared.made.TextPlace.{TextPlace}
use Rattle.transcript_text.specs.declared.made.TextPlace.TheVariants.{Head, Entry as EntryAt, End}
use Rattle.transcript_text.specs.declared.made.Until.{Until}
use Rattle.transcript_text.specs.declared.made.Until.TheVariants.{LastEntry, EndLine}
use Rattle.transcript_text.proofs.LinesText.{none_left, head_some, end_some}

-- the pieces from k on
abbrev ArePieces : List Entry → ℕ → ℕ → ℕ → List (Vec ℕ Global) → Type 0
ArePieces es at k n pieces = AllZip (λ i (piece : Vec ℕ Global). IsPiece es at i piece.items) (range_with_len k n) pieces

-- the bytes of pieces are the lines up to the place at which the piece after them begins
joined : (es : List Entry) (at k n : ℕ) (pieces : List (Vec ℕ Global)) → ArePieces es at k n pieces
    → bytes_of pieces ++ lines_from es (piece_start es at (k + n)) ≡ lines_from es (piece_start es at k)
joined es at k zero [] are = ap (λ i. lines_from es (piece_start es at i)) (omega arith)
joined es at k zero (p ∷ ps) are = absurd are
joined es at k (suc n) [] are = absurd are
joined es at k (suc n) (p ∷ ps) are =
    let same : k + suc n ≡ k + 1 + n = omega arith in
    ap (λ i. (p.items ++ bytes_of ps) ++ lines_from es (piece_start es at i)) same
    ∙ append_assoc p.items (bytes_of ps) (lines_from es (piece_start es at (k + 1 + n)))
    ∙ ap (λ rest. p.items ++ rest) (joined es at (k + 1) n ps are.1)
    ∙ are.0.lines

filled : (es : List Entry) (at k n : ℕ) (pieces : List (Vec ℕ Global)) → ArePieces es at k n pieces → AreFilled pieces
filled es at k n [] are = All-nil (λ (piece : Vec ℕ Global). 0 < length piece.items)
filled es at k zero (p ∷ ps) are = absurd are
filled es at k (suc n) (p ∷ ps) are = All-cons (λ (piece : Vec ℕ Global). 0 < length piece.items) p ps are.0.some (filled es at (k + 1) n ps are.1)

some : (es : List Entry) (at k n : ℕ) (pieces : List (Vec ℕ Global)) → 0 < n → ArePieces es at k n pieces → pieces ≡ [] → ⊥
some es at k zero pieces lt are none = omega (arith, lt)
some es at k (suc n) [] lt are none = absurd are
some es at k (suc n) (p ∷ ps) lt are none = let long = ap length none in omega (arith, long)

-- the bytes of the first n pieces are the lines up to the place at which the piece after them begins
batch_lines : (es : List Entry) (at n start : ℕ) (pieces : List (Vec ℕ Global)) → at < length es → ArePieces es at 0 n pieces → start ≡ piece_start es at n
    → bytes_of pieces ++ lines_from es start ≡ lines_from es at
batch_lines es at n start pieces within are starts =
    let here : min (length es) (at + 0 * 512) ≡ at = omega (arith, within) in
    let first : 0 + n ≡ n = omega arith in
    ap (λ i. bytes_of pieces ++ lines_from es i) (starts ∙ ap (piece_start es at) (sym first)) ∙ joined es at 0 n pieces are ∙ ap (lines_from es) here

-- the first n pieces of the entries from a place on come next
pub batch_next : (t : TranscriptView) (at n start : ℕ) (pieces : List (Vec ℕ Global)) (made : MadePieces) → at < length t.entries → 0 < n → ArePieces t.entries at 0 n pieces
    → made.pieces.items ≡ pieces → start ≡ piece_start t.entries at n → made.after ≡ EntryAt start → AreNextOfBoth t (EntryAt at) made
batch_next t at n start pieces made within lt are is starts after until =
    record {
      text =
          ap (λ l. bytes_of l ++ rest_at t until made.after) is ∙ ap (λ place. bytes_of pieces ++ rest_at t until place) after
          ∙ sym (append_assoc (bytes_of pieces) (lines_from t.entries start) (behind_lines t until))
          ∙ ap (λ lines. lines ++ behind_lines t until) (batch_lines t.entries at n start pieces within are starts);
      filled = subst AreFilled (sym is) (filled t.entries at 0 n pieces are);
      end = λ none. absurd (some t.entries at 0 n pieces lt are (sym is ∙ none));
    }

-- what each result has that is there, they all have where all are there
there : {Y : Type 0} (R : ℕ → Y → Type 0) (ks : List ℕ) (ys : List Y) → AllZip (λ k (y : Result Y AllocError). IfOk y (R k)) ks (map Ok ys) → AllZip R ks ys
there R [] [] all = tt
there R [] (y ∷ ys) all = absurd all
there R (k ∷ ks) [] all = absurd all
there R (k ∷ ks) (y ∷ ys) all = (all.0, there R ks ys all.1)

pub all_there : {Y : Type 0} (R : ℕ → Y → Type 0) (ks : List ℕ) (all : List (Result Y AllocError)) (r : Result (Vec Y Global) AllocError)
    → MatchResult r (λ (v : Vec Y Global). (ys : List Y) × (all ≡ map Ok ys) × (v.items ≡ ys)) (λ e. Contains all (Err e))
    → AllZip (λ k (y : Result Y AllocError). IfOk y (R k)) ks all → IfOk r (λ v. AllZip R ks v.items)
all_there {Y} R ks all (Ok v) gives each =
    subst (λ (ys : List Y). AllZip R ks ys) (sym gives.2)
    (there R ks gives.0 (subst (λ (xs : List (Result Y AllocError)). AllZip (λ k (y : Result Y AllocError). IfOk y (R k)) ks xs) gives.1 each))
all_there R ks all (Err e) gives each = tt

-- one piece, which is not empty, comes next
one_next : (t : TranscriptView) (until : Until) (place after : TextPlace) (piece : Vec ℕ Global) (made : MadePieces) → piece.items ++ rest_at t until after ≡ rest_at t until place
    → 0 < length piece.items → made.pieces.items ≡ piece ∷ [] → made.after ≡ after → AreNext t until place made
one_next t until place after piece made text long is goes = record {
  text =
      ap (λ l. bytes_of l ++ rest_at t until made.after) is ∙ ap (λ q. (piece.items ++ []) ++ rest_at t until q) goes
      ∙ ap (λ l. l ++ rest_at t until after) (append-nil piece.items) ∙ text;
  filled = subst AreFilled (sym is) (All-cons (λ (p : Vec ℕ Global). 0 < length p.items) piece [] long (All-nil (λ (p : Vec ℕ Global). 0 < length p.items)));
  end = λ none. let long_is = ap length (sym is ∙ none) in absurd (omega (arith, long_is));
}

-- the head comes first, and the lines come next
pub head_next : (t : TranscriptView) (plan : PlanView) (start : List ℕ) (piece : Vec ℕ Global) (made : MadePieces) → plan ≡ t.plan → start ≡ [] → piece.items ≡ start ++ head_text Two plan
    → made.pieces.items ≡ piece ∷ [] → made.after ≡ EntryAt 0 → AreNextOfBoth t Head made
head_next t plan start piece made same none put is goes until =
    let head : piece.items ≡ head_text Two t.plan = put ∙ ap (λ s. s ++ head_text Two plan) none ∙ ap (head_text Two) same in
    let text : piece.items ++ rest_at t until (EntryAt 0) ≡ rest_at t until Head =
    ap (λ h. h ++ rest_at t until (EntryAt 0)) head ∙ sym (append_assoc (head_text Two t.plan) (lines_text t.entries) (behind_lines t until)) in
    one_next t until Head (EntryAt 0) piece made text (head_some plan start piece.items put) is goes

-- behind the last entry the `end` line comes next
pub end_next : (t : TranscriptView) (at n : ℕ) (start : List ℕ) (piece : Vec ℕ Global) (made : MadePieces) → length t.entries ≤ at → n ≡ length t.entries → start ≡ []
    → piece.items ≡ start ++ ended (codes "end," ++ decimal n) → made.pieces.items ≡ piece ∷ [] → made.after ≡ End → AreNext t EndLine (EntryAt at) made
end_next t at n start piece made all number none put is goes =
    let line : piece.items ≡ behind_lines t EndLine = put ∙ ap (λ s. s ++ ended (codes "end," ++ decimal n)) none ∙ ap (λ k. ended (codes "end," ++ decimal k)) number in
    let text : piece.items ++ [] ≡ rest_at t EndLine (EntryAt at) =
    append-nil piece.items ∙ line ∙ ap (λ l. l ++ behind_lines t EndLine) (sym (none_left t.entries at all)) in
    one_next t EndLine (EntryAt at) End piece made text (end_some n start piece.items put) is goes

-- behind the last entry nothing comes next where the text stops there
pub nothing_next : (t : TranscriptView) (at : ℕ) (made : MadePieces) → length t.entries ≤ at → made.pieces.items ≡ [] → made.after ≡ End → AreNext t LastEntry (EntryAt at) made
nothing_next t at made all none goes =
    let left : rest_at t LastEntry (EntryAt at) ≡ [] = append-nil (lines_from t.entries at) ∙ none_left t.entries at all in
    record {
      text = ap (λ l. bytes_of l ++ rest_at t LastEntry made.after) none ∙ ap (rest_at t LastEntry) goes ∙ sym left;
      filled = subst AreFilled (sym none) (All-nil (λ (p : Vec ℕ Global). 0 < length p.items));
      end = λ empty. left;
    }
