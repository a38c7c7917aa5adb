-- Small lines under a list of extras that grows.
use Rattle.std.proofs.Common.{◌≡◌, ℕ, ◌<◌, ◌≤◌, List, [], ◌∷◌, ◌++◌, length, map, get_or, All, zero, suc, refl, sym, subst, ap, ap₂, ◌∙◌, arith}
use Rattle.std.proofs.lemmas.List.{map-append, length-map}
use Rattle.std.proofs.lemmas.List.Elements.{All-head, All-tail, All-push, All-weaker, All-get_or}
use Rattle.group_plan.specs.declared.Kind.TheVariants.{Reading, Announcement, Answer}
use Rattle.round_machine.specs.declared.Closing.TheVariants as closing
use Rattle.round_machine.specs.declared.Ending.TheVariants as ending
use Rattle.event_schedule.specs.declared.Line.{Line}
use Rattle.event_schedule.specs.declared.Line.TheVariants.{Close, End}
use Rattle.transcript_log.specs.declared.extras.Extra.{Extra}
use Rattle.transcript_log.specs.declared.small.SmallLine.{SmallLine}
use Rattle.transcript_log.specs.declared.small.SmallLine.TheVariants as small
use Rattle.transcript_log.specs.Extras.{extra_at, Grows}
use Rattle.transcript_log.specs.SmallLines.{sent, line_in, IsPlaced, IsKept, AreKept}
use Rattle.event_schedule.specs.Transcripts.{IsLine}

-- ---- a longer list gives the same line, where the line's place is one of the shorter list

extra-same : (xs ys : List Extra) (at : ℕ) → Grows xs ys → at < length xs → extra_at ys at ≡ extra_at xs at
extra-same xs ys at grows lt = grows.same at (record { set = []; word = 0 }) lt

line-grown : (xs ys : List Extra) (l : SmallLine) → Grows xs ys → IsPlaced (length xs) l → line_in ys l ≡ line_in xs l
line-grown xs ys (small.SentReading m g r at) grows lt = ap (sent (record { group = g; round = r; meter = m; kind = Reading })) (extra-same xs ys at grows lt)
line-grown xs ys (small.SentAnnouncement m g r at) grows lt = ap (sent (record { group = g; round = r; meter = m; kind = Announcement })) (extra-same xs ys at grows lt)
line-grown xs ys (small.SentAnswer m g r at) grows lt = ap (sent (record { group = g; round = r; meter = m; kind = Answer })) (extra-same xs ys at grows lt)
line-grown xs ys (small.NotSent tag) grows lt = refl
line-grown xs ys (small.Took verdict tag) grows lt = refl
line-grown xs ys (small.Announced g r at) grows lt = ap (λ (x : Extra). Close g r (closing.Announced x.set)) (extra-same xs ys at grows lt)
line-grown xs ys (small.ClosedThin g r at) grows lt = ap (λ (x : Extra). Close g r (closing.Thin x.set)) (extra-same xs ys at grows lt)
line-grown xs ys (small.ClosedAlready g r) grows lt = refl
line-grown xs ys (small.Total g r at) grows lt = ap (λ (x : Extra). End g r (ending.Total x.word)) (extra-same xs ys at grows lt)
line-grown xs ys (small.Lacking g r at) grows lt = ap (λ (x : Extra). End g r (ending.Lacking x.set)) (extra-same xs ys at grows lt)
line-grown xs ys (small.EndedThin g r) grows lt = refl
line-grown xs ys (small.EndedAlready g r) grows lt = refl
line-grown xs ys (small.NotClosed g r) grows lt = refl

lines-grown : (xs ys : List Extra) (ls : List SmallLine) → Grows xs ys → All (IsPlaced (length xs)) ls → map (line_in ys) ls ≡ map (line_in xs) ls
lines-grown xs ys [] grows placed = refl
lines-grown xs ys (l ∷ ls) grows placed =
    ap₂ (λ (x : Line) (rest : List Line). x ∷ rest)
    (line-grown xs ys l grows (All-head (IsPlaced (length xs)) l ls placed))
    (lines-grown xs ys ls grows (All-tail (IsPlaced (length xs)) l ls placed))

-- ---- a place among n is one among more

placed-more : (n m : ℕ) (l : SmallLine) → n ≤ m → IsPlaced n l → IsPlaced m l
placed-more n m (small.SentReading _ g r at) le lt = omega (arith, le, lt)
placed-more n m (small.SentAnnouncement _ g r at) le lt = omega (arith, le, lt)
placed-more n m (small.SentAnswer _ g r at) le lt = omega (arith, le, lt)
placed-more n m (small.NotSent tag) le lt = tt
placed-more n m (small.Took verdict tag) le lt = tt
placed-more n m (small.Announced g r at) le lt = omega (arith, le, lt)
placed-more n m (small.ClosedThin g r at) le lt = omega (arith, le, lt)
placed-more n m (small.ClosedAlready g r) le lt = tt
placed-more n m (small.Total g r at) le lt = omega (arith, le, lt)
placed-more n m (small.Lacking g r at) le lt = omega (arith, le, lt)
placed-more n m (small.EndedThin g r) le lt = tt
placed-more n m (small.EndedAlready g r) le lt = tt
placed-more n m (small.NotClosed g r) le lt = tt

-- ---- one line more

pub one_line_more : (xs ys : List Extra) (ls : List SmallLine) (l : SmallLine) (line : Line) → AreKept xs ls → Grows xs ys → IsKept ys line l → map (line_in ys) (ls ++ l ∷ []) ≡ map (line_in xs) ls ++ line ∷ []
one_line_more xs ys ls l line kept grows is =
    map-append (line_in ys) ls (l ∷ [])
    ∙ ap₂ (λ (front : List Line) (x : Line). front ++ x ∷ []) (lines-grown xs ys ls grows kept.placed) is.1

pub still_kept : (xs ys : List Extra) (ls : List SmallLine) (l : SmallLine) (line : Line) → AreKept xs ls → Grows xs ys → IsKept ys line l → IsLine line → AreKept ys (ls ++ l ∷ [])
still_kept xs ys ls l line kept grows is one = record {
  placed = All-push (IsPlaced (length ys)) ls l (All-weaker (IsPlaced (length xs)) (IsPlaced (length ys)) (λ (x : SmallLine) (p : IsPlaced (length xs) x). placed-more (length xs) (length ys) x grows.least p) ls kept.placed) is.0;
  sound = subst (All IsLine) (sym (one_line_more xs ys ls l line kept grows is)) (All-push IsLine (map (line_in xs) ls) line kept.sound one);
}

-- ---- the line at a place

pub line_at : (xs : List Extra) (ls : List SmallLine) (at : ℕ) (l : SmallLine) (line : Line) → at < length ls → l ≡ get_or ls at l → get_or (map (line_in xs) ls) at line ≡ line_in xs l
line_at xs [] at l line lt is = absurd (omega arith)
line_at xs (k ∷ ls) zero l line lt is = ap (line_in xs) (sym is)
line_at xs (k ∷ ls) (suc at) l line lt is = line_at xs ls at l line (omega arith) is

pub line_at_is : (xs : List Extra) (ls : List SmallLine) (at : ℕ) (l : SmallLine) → AreKept xs ls → at < length ls → l ≡ get_or ls at l → IsLine (line_in xs l)
line_at_is xs ls at l kept lt is =
    subst IsLine (line_at xs ls at l (line_in xs l) lt is)
    (All-get_or IsLine (map (line_in xs) ls) at (line_in xs l) (omega (arith, lt, length-map ls (line_in xs))) kept.sound)
