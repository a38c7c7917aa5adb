-- A reading of lines whose fault is at a line, whatever follows it.
use Rattle.std.proofs.Common.{◌≡◌, ◌<◌, ◌≤◌, ◌+◌, ◌^◌, ℕ, Bool, true, false, List, [], ◌∷◌, ◌++◌, length, length-append, refl, sym, ap, ◌∙◌, arith, Result, Ok, Err}
use Rattle.field_texts.specs.Parts.{parts}
use Rattle.transcript_text.specs.declared.fault.ReadError.{ReadError}
use Rattle.transcript_text.specs.declared.fault.ReadError.TheVariants as fault
use Rattle.event_schedule.specs.Transcripts.{TranscriptView}
use Rattle.transcript_text.specs.Faults.{fault_line}

-- what lines are read as
abbrev pub Reading : Type 0
Reading = List (List ℕ) → Result TranscriptView ReadError

-- a fault of the head
abbrev pub is_head : ReadError → Bool
is_head (fault.Head n) = true
is_head _ = false

-- no fault of a reading from line n on is before this line
abbrev pub Starts : Reading → ℕ → Type 0
Starts read n = (zs : List (List ℕ)) (g : ReadError) → read zs ≡ Err g → n ≤ fault_line g

-- lines from line n on have this fault at the line of `ys`, and the lines before it say so
pub record Located (read : Reading) (n : ℕ) (ls : List (List ℕ)) (f : ReadError) : Type 0 where
  pub xs : List (List ℕ)
  pub ys : List (List ℕ)
  pub is : ls ≡ xs ++ ys
  pub some : 0 < length ys
  pub at : fault_line f ≡ n + length xs
  pub earlier : (zs : List (List ℕ)) (g : ReadError) → 0 < length zs → read (xs ++ zs) ≡ Err g → fault_line f ≤ fault_line g
  pub later : (y : List ℕ) (more zs : List (List ℕ)) (t : TranscriptView) → ys ≡ y ∷ more → 0 < length more → 0 < length zs → read (xs ++ y ∷ zs) ≡ Ok t → ⊥
  pub start : is_head f ≡ false → (more : List ℕ) × (t : TranscriptView) × (length t.entries < 2 ^ 64) × (read (xs ++ parts 10 more) ≡ Ok t)

-- the first line is faulty
pub here : (read : Reading) (n : ℕ) (ls : List (List ℕ)) (f : ReadError) → 0 < length ls → fault_line f ≡ n → Starts read n
    → ((y : List ℕ) (more zs : List (List ℕ)) (t : TranscriptView) → ls ≡ y ∷ more → 0 < length more → 0 < length zs → read (y ∷ zs) ≡ Ok t → ⊥)
    → (is_head f ≡ false → (more : List ℕ) × (t : TranscriptView) × (length t.entries < 2 ^ 64) × (read (parts 10 more) ≡ Ok t)) → Located read n ls f
here read n ls f some at starts later start = record {
  xs = [];
  ys = ls;
  is = refl;
  some = some;
  at = omega (arith, at);
  earlier = λ zs g _ e. (let le = starts zs g e in omega (arith, at, le));
  later = later;
  start = start;
}

-- the first line is read, and a later one is faulty
pub behind : (read rest : Reading) (n : ℕ) (line : List ℕ) (ls : List (List ℕ)) (f : ReadError) → ((zs : List (List ℕ)) → 0 < length zs → read (line ∷ zs) ≡ rest zs)
    → ((more : List ℕ) → 0 < length (parts 10 more)) → Located rest (n + 1) ls f → Located read n (line ∷ ls) f
behind read rest n line ls f step long l = record {
  xs = line ∷ l.xs;
  ys = l.ys;
  is = ap (λ q. line ∷ q) l.is;
  some = l.some;
  at = omega (arith, l.at);
  earlier = λ zs g some e. l.earlier zs g some (sym (step (l.xs ++ zs) (longer l.xs zs some)) ∙ e);
  later = λ y more zs t is many some e. l.later y more zs t is many some (sym (step (l.xs ++ y ∷ zs) (longer l.xs (y ∷ zs) (omega (arith, some)))) ∙ e);
  start = λ is. (let s = l.start is in (s.0, s.1, s.2, step (l.xs ++ parts 10 s.0) (longer l.xs (parts 10 s.0) (long s.0)) ∙ s.3));
}
  where
    longer : (xs zs : List (List ℕ)) → 0 < length zs → 0 < length (xs ++ zs)
    longer xs zs some = let both = length-append xs zs in omega (arith, both, some)
