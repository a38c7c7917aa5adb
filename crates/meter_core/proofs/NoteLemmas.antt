-- Small notes over a list of blocks that grows.
use Rattle.std.proofs.Common.{◌≡◌, ℕ, zero, suc, ◌+◌, ◌<◌, ◌≤◌, List, [], ◌∷◌, length, map, All, Some, None, refl, sym, ap, ◌∙◌, subst, arith, get_or, set, replicate}
use Rattle.std.specs.List.{sum_by}
use Rattle.std.proofs.lemmas.List.{map-set, get_or-map, get_or_default, length-map}
use Rattle.std.proofs.lemmas.List.Elements.{All-head, All-tail, All-set, All-weaker, All-get_or}
use Rattle.std.proofs.lemmas.List.Sums.{sum_by-set}
use Rattle.missing_round.specs.Sets.{IsSet, members, blocks_of}
use Rattle.missing_round.proofs.BlockLemmas.{members-blocks_of}
use Rattle.meter_core.specs.Notes.{Note}
use Rattle.meter_core.specs.declared.notes.SetPlace.{SetPlace}
use Rattle.meter_core.specs.declared.notes.SetPlace.TheVariants.{Nowhere, One, Four}
use Rattle.meter_core.specs.declared.notes.SmallNote.{SmallNote}
use Rattle.meter_core.specs.Meters.{blank}
use Rattle.meter_core.specs.SmallNotes.{bits_at, set_of, set_at, note_in, IsPlaced, IsNotePlaced, StandsAt, Grows, blocks_for, blocks_to_come, AreKept}

-- the small note of a round of which nothing is known
abbrev pub nothing : SmallNote
nothing = record { members = Nowhere; kept = Nowhere }

-- ---- a longer list of blocks has the same sets, where their places are in the shorter one

bits-grown : (xs ys : List ℕ) (p : SetPlace) → Grows xs ys → IsPlaced (length xs) p → bits_at ys p ≡ bits_at xs p
bits-grown xs ys Nowhere grows lt = refl
bits-grown xs ys (One at) grows lt = ap (λ (b : ℕ). Some (b ∷ 0 ∷ 0 ∷ 0 ∷ [])) (grows.same at lt)
bits-grown xs ys (Four at) grows lt =
    let a = grows.same at (omega (arith, lt)) in
    let b = grows.same (at + 1) (omega (arith, lt)) in
    let c = grows.same (at + 2) (omega (arith, lt)) in
    let d = grows.same (at + 3) lt in
    λ k. Some (a k ∷ b k ∷ c k ∷ d k ∷ [])

set-grown : (xs ys : List ℕ) (p : SetPlace) → Grows xs ys → IsPlaced (length xs) p → set_at ys p ≡ set_at xs p
set-grown xs ys p grows lt = ap set_of (bits-grown xs ys p grows lt)

notes-grown : (xs ys : List ℕ) (ns : List SmallNote) → Grows xs ys → All (IsNotePlaced (length xs)) ns → map (note_in ys) ns ≡ map (note_in xs) ns
notes-grown xs ys [] grows placed = refl
notes-grown xs ys (n ∷ ns) grows placed =
    let is = All-head (IsNotePlaced (length xs)) n ns placed in
    let members = set-grown xs ys n.members grows is.0 in
    let kept = set-grown xs ys n.kept grows is.1 in
    let rest = notes-grown xs ys ns grows (All-tail (IsNotePlaced (length xs)) n ns placed) in
    λ k. record { members = members k; kept = kept k } ∷ rest k

-- ---- a place among n blocks is one among more

placed-more : (n m : ℕ) (p : SetPlace) → n ≤ m → IsPlaced n p → IsPlaced m p
placed-more n m Nowhere le lt = tt
placed-more n m (One at) le lt = omega (arith, le, lt)
placed-more n m (Four at) le lt = omega (arith, le, lt)

note_placed-more : (n m : ℕ) (x : SmallNote) → n ≤ m → IsNotePlaced n x → IsNotePlaced m x
note_placed-more n m x le is = (placed-more n m x.members le is.0, placed-more n m x.kept le is.1)

-- ---- room

-- where there is no set, four blocks may be needed
pub none-blocks : (blocks : List ℕ) (p : SetPlace) → set_at blocks p ≡ None → blocks_for p ≡ 4
none-blocks blocks Nowhere h = refl
none-blocks blocks (One at) h = cc
none-blocks blocks (Four at) h = cc

-- where a set stands, none are
stands-blocks : (blocks bits : List ℕ) (p : SetPlace) → StandsAt blocks bits p → blocks_for p ≡ 0
stands-blocks blocks bits Nowhere h = cc
stands-blocks blocks bits (One at) h = refl
stands-blocks blocks bits (Four at) h = refl

-- a note needs no more blocks than all notes
needed-within : (ns : List SmallNote) (r : ℕ) (x : SmallNote) → r < length ns → blocks_to_come (get_or ns r x) ≤ sum_by blocks_to_come ns
needed-within ns r x lt = omega (arith, sum_by-set blocks_to_come ns r (record { members = One 0; kept = One 0 }) x lt)

-- ---- one note

long : (xs : List ℕ) (ns : List SmallNote) (view : List Note) (r : ℕ) → map (note_in xs) ns ≡ view → r < length view → r < length ns
long xs ns view r is lt = omega (arith, lt, ap (λ (v : List Note). length v) is, length-map ns (note_in xs))

-- the note that is seen is the small one's
pub note-is : (xs : List ℕ) (ns : List SmallNote) (view : List Note) (r : ℕ) (x : SmallNote) → map (note_in xs) ns ≡ view → r < length view → x ≡ get_or ns r x → note_in xs x ≡ get_or view r blank
note-is xs ns view r x is lt at =
    ap (note_in xs) at ∙ sym (get_or-map (note_in xs) ns r x blank (long xs ns view r is lt)) ∙ ap (λ (v : List Note). get_or v r blank) is

note-placed : (n : ℕ) (ns : List SmallNote) (r : ℕ) (x : SmallNote) → All (IsNotePlaced n) ns → r < length ns → x ≡ get_or ns r x → IsNotePlaced n x
note-placed n ns r x placed lt at = subst (IsNotePlaced n) (sym at) (All-get_or (IsNotePlaced n) ns r x lt placed)

-- the set whose bits stand at a place stands there
pub set-stands : (ys bits named : List ℕ) (p : SetPlace) → StandsAt ys bits p → bits ≡ blocks_of named → IsSet named → set_at ys p ≡ Some named
set-stands ys bits named p stands is ok = ap set_of stands.1 ∙ ap Some (ap members is ∙ members-blocks_of named ok)

-- a note that may need four blocks has room for them
has-room : (xs : List ℕ) (capacity : ℕ) (ns : List SmallNote) (r : ℕ) (x : SmallNote) → AreKept xs capacity ns → r < length ns → 4 ≤ blocks_to_come (get_or ns r x) → length xs + 4 ≤ capacity
has-room xs capacity ns r x kept lt least = omega (arith, kept.room, least, needed-within ns r x lt)

-- what is kept is so with one note changed
change_kept : (xs ys : List ℕ) (capacity : ℕ) (ns : List SmallNote) (r : ℕ) (x y : SmallNote) → AreKept xs capacity ns → Grows xs ys → r < length ns → x ≡ get_or ns r x → blocks_to_come x ≡ blocks_to_come y + 4 → IsNotePlaced (length ys) y → AreKept ys capacity (set ns r y)
change_kept xs ys capacity ns r x y kept grows lt at fewer is = record {
  placed = All-set (IsNotePlaced (length ys)) ns r y is (All-weaker (IsNotePlaced (length xs)) (IsNotePlaced (length ys)) (λ (n : SmallNote) (p : IsNotePlaced (length xs) n). note_placed-more (length xs) (length ys) n grows.least p) ns kept.placed);
  room = omega (arith, kept.room, grows.most, fewer, ap blocks_to_come at, sum_by-set blocks_to_come ns r y x lt);
  few = kept.few;
}

-- what is seen with one note changed
change-seen : (xs ys : List ℕ) (ns : List SmallNote) (view : List Note) (r : ℕ) (y : SmallNote) (n : Note) → Grows xs ys → All (IsNotePlaced (length xs)) ns → map (note_in xs) ns ≡ view → note_in ys y ≡ n → map (note_in ys) (set ns r y) ≡ set view r n
change-seen xs ys ns view r y n grows placed is new =
    map-set (note_in ys) ns r y
    ∙ ap (λ (v : List Note). set v r (note_in ys y)) (notes-grown xs ys ns grows placed ∙ is)
    ∙ ap (λ (m : Note). set view r m) new

-- ---- a round marked read

pub room-to_mark : (xs : List ℕ) (capacity : ℕ) (ns : List SmallNote) (view : List Note) (r : ℕ) → AreKept xs capacity ns → map (note_in xs) ns ≡ view → r < length view → (get_or view r blank).members ≡ None → length xs + 4 ≤ capacity
room-to_mark xs capacity ns view r kept is lt none =
    let x : SmallNote = get_or ns r nothing in
    let at : x ≡ get_or ns r x = get_or_default ns r nothing x (long xs ns view r is lt) in
    let needs : blocks_for x.members ≡ 4 = none-blocks xs x.members (ap (λ (n : Note). n.members) (note-is xs ns view r x is lt at) ∙ none) in
    has-room xs capacity ns r nothing kept (long xs ns view r is lt) (omega (arith, needs))

pub kept-marked : (xs ys bits : List ℕ) (capacity : ℕ) (ns : List SmallNote) (view : List Note) (r : ℕ) (x : SmallNote) (p : SetPlace) → AreKept xs capacity ns → Grows xs ys → map (note_in xs) ns ≡ view → r < length view → x ≡ get_or ns r x → (get_or view r blank).members ≡ None → StandsAt ys bits p → AreKept ys capacity (set ns r (record { members = p; kept = x.kept }))
kept-marked xs ys bits capacity ns view r x p kept grows is lt at none stands =
    let within = long xs ns view r is lt in
    let needs : blocks_for x.members ≡ 4 = none-blocks xs x.members (ap (λ (n : Note). n.members) (note-is xs ns view r x is lt at) ∙ none) in
    let old : IsNotePlaced (length xs) x = note-placed (length xs) ns r x kept.placed within at in
    change_kept xs ys capacity ns r x (record { members = p; kept = x.kept }) kept grows within at
    (omega (arith, needs, stands-blocks ys bits p stands)) (stands.0, placed-more (length xs) (length ys) x.kept grows.least old.1)

pub seen-marked : (xs ys named : List ℕ) (ns : List SmallNote) (view : List Note) (r : ℕ) (x : SmallNote) (p : SetPlace) → Grows xs ys → All (IsNotePlaced (length xs)) ns → map (note_in xs) ns ≡ view → r < length view → x ≡ get_or ns r x → set_at ys p ≡ Some named
    → map (note_in ys) (set ns r (record { members = p; kept = x.kept })) ≡ set view r (record { members = Some named; kept = (get_or view r blank).kept })
seen-marked xs ys named ns view r x p grows placed is lt at stands =
    let old : IsNotePlaced (length xs) x = note-placed (length xs) ns r x placed (long xs ns view r is lt) at in
    let same : set_at ys x.kept ≡ (get_or view r blank).kept = set-grown xs ys x.kept grows old.1 ∙ ap (λ (n : Note). n.kept) (note-is xs ns view r x is lt at) in
    change-seen xs ys ns view r (record { members = p; kept = x.kept }) (record { members = Some named; kept = (get_or view r blank).kept }) grows placed is (λ k. record { members = stands k; kept = same k })

-- ---- an answered set that is kept

pub room-to_keep : (xs : List ℕ) (capacity : ℕ) (ns : List SmallNote) (view : List Note) (r : ℕ) → AreKept xs capacity ns → map (note_in xs) ns ≡ view → r < length view → (get_or view r blank).kept ≡ None → length xs + 4 ≤ capacity
room-to_keep xs capacity ns view r kept is lt none =
    let x : SmallNote = get_or ns r nothing in
    let at : x ≡ get_or ns r x = get_or_default ns r nothing x (long xs ns view r is lt) in
    let needs : blocks_for x.kept ≡ 4 = none-blocks xs x.kept (ap (λ (n : Note). n.kept) (note-is xs ns view r x is lt at) ∙ none) in
    has-room xs capacity ns r nothing kept (long xs ns view r is lt) (omega (arith, needs))

pub kept-keeping : (xs ys bits : List ℕ) (capacity : ℕ) (ns : List SmallNote) (view : List Note) (r : ℕ) (x : SmallNote) (p : SetPlace) → AreKept xs capacity ns → Grows xs ys → map (note_in xs) ns ≡ view → r < length view → x ≡ get_or ns r x → (get_or view r blank).kept ≡ None → StandsAt ys bits p → AreKept ys capacity (set ns r (record { members = x.members; kept = p }))
kept-keeping xs ys bits capacity ns view r x p kept grows is lt at none stands =
    let within = long xs ns view r is lt in
    let needs : blocks_for x.kept ≡ 4 = none-blocks xs x.kept (ap (λ (n : Note). n.kept) (note-is xs ns view r x is lt at) ∙ none) in
    let old : IsNotePlaced (length xs) x = note-placed (length xs) ns r x kept.placed within at in
    change_kept xs ys capacity ns r x (record { members = x.members; kept = p }) kept grows within at
    (omega (arith, needs, stands-blocks ys bits p stands)) (placed-more (length xs) (length ys) x.members grows.least old.0, stands.0)

pub seen-keeping : (xs ys named : List ℕ) (ns : List SmallNote) (view : List Note) (r : ℕ) (x : SmallNote) (p : SetPlace) → Grows xs ys → All (IsNotePlaced (length xs)) ns → map (note_in xs) ns ≡ view → r < length view → x ≡ get_or ns r x → set_at ys p ≡ Some named
    → map (note_in ys) (set ns r (record { members = x.members; kept = p })) ≡ set view r (record { members = (get_or view r blank).members; kept = Some named })
seen-keeping xs ys named ns view r x p grows placed is lt at stands =
    let old : IsNotePlaced (length xs) x = note-placed (length xs) ns r x placed (long xs ns view r is lt) at in
    let same : set_at ys x.members ≡ (get_or view r blank).members = set-grown xs ys x.members grows old.0 ∙ ap (λ (n : Note). n.members) (note-is xs ns view r x is lt at) in
    change-seen xs ys ns view r (record { members = x.members; kept = p }) (record { members = (get_or view r blank).members; kept = Some named }) grows placed is (λ k. record { members = same k; kept = stands k })

-- ---- blank notes

pub blank-seen : (blocks : List ℕ) (ns : List SmallNote) (rounds : ℕ) → ns ≡ replicate rounds nothing → map (note_in blocks) ns ≡ replicate rounds blank
blank-seen blocks ns rounds are = ap (map (note_in blocks)) are ∙ blanks rounds
  where
    blanks : (n : ℕ) → map (note_in blocks) (replicate n nothing) ≡ replicate n blank
    blanks zero = refl
    blanks (suc n) = ap (λ (rest : List Note). blank ∷ rest) (blanks n)
