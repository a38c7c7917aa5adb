-- What crates above a book use: lines that are no Sends change no posted frame, and take no given one.
use Rattle.std.proofs.Common.{◌≡◌, ℕ, true, List, [], ◌∷◌, ◌++◌, refl, sym, ap, ◌∙◌, append-nil, append_assoc}
use Rattle.std.specs.Prelude.{Option}
use Rattle.std.specs.List.{list_all}
use Rattle.std.proofs.lemmas.Bool.{and_parts, false≢true}
use Rattle.group_plan.specs.declared.Tag.{Tag}
use Rattle.meter_frames.specs.declared.Frame.{Frame}
use Rattle.event_schedule.specs.declared.Event.TheVariants.{Take, Close, End}
use Rattle.event_schedule.specs.declared.Line.{Line}
use Rattle.event_schedule.specs.declared.Line.TheVariants.{Send as SendLine, Take as TakeLine, Close as CloseLine, End as EndLine}
use Rattle.event_schedule.specs.Schedule.{Shape}
use Rattle.event_schedule.specs.Journal.{core_line}
use Rattle.group_book.specs.Books.{posted_in, is_plain}
use Rattle.group_book.proofs.LineLemmas.{posted-stays}

-- a line that is no Send leaves each posted frame
pub posted_in-plain : (tag : Tag) (j : List Line) (l : Line) → is_plain l ≡ true → posted_in tag (j ++ l ∷ []) ≡ posted_in tag j
posted_in-plain tag j (SendLine t f) plain = absurd (false≢true plain)
posted_in-plain tag j (TakeLine t v) plain = posted-stays tag.group tag.round tag.meter tag.kind j (TakeLine t v) refl
posted_in-plain tag j (CloseLine g r v) plain = posted-stays tag.group tag.round tag.meter tag.kind j (CloseLine g r v) refl
posted_in-plain tag j (EndLine g r v) plain = posted-stays tag.group tag.round tag.meter tag.kind j (EndLine g r v) refl

-- and so do many
pub posted_in-added : (tag : Tag) (j added : List Line) → list_all is_plain added ≡ true → posted_in tag (j ++ added) ≡ posted_in tag j
posted_in-added tag j [] plain = ap (posted_in tag) (append-nil j)
posted_in-added tag j (l ∷ added) plain =
    let both = and_parts (is_plain l) (list_all is_plain added) plain in
    ap (posted_in tag) (sym (append_assoc j (l ∷ []) added)) ∙ posted_in-added tag (j ++ l ∷ []) added both.1 ∙ posted_in-plain tag j l both.0

-- what is given counts at a Send alone
pub core_line-take : (s : Shape) (j : List Line) (tag : Tag) (given other : Option Frame) → core_line s j (Take tag) given ≡ core_line s j (Take tag) other
core_line-take s j tag given other = refl

pub core_line-close : (s : Shape) (j : List Line) (g r : ℕ) (given other : Option Frame) → core_line s j (Close g r) given ≡ core_line s j (Close g r) other
core_line-close s j g r given other = refl

pub core_line-end : (s : Shape) (j : List Line) (g r : ℕ) (given other : Option Frame) → core_line s j (End g r) given ≡ core_line s j (End g r) other
core_line-end s j g r given other = refl
