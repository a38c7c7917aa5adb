use Rattle.std.proofs.Common.{◌≡◌, ℕ, ◌++◌, IsTrue, List, map, filter, length}
use Rattle.std.specs.Prelude.{nat_lt, is_some}
use Rattle.std.specs.List.{list_all}
use Rattle.group_plan.specs.Tables.{ReadingsView, reading}
use Rattle.blind_core.specs.Blind.{are_places}
use Rattle.meter_frames.specs.declared.Frame.{Frame}
use Rattle.plan_meters.specs.TickFrames.{word_frame}
use Rattle.plan_meters.proofs.frames.add_words.Given as goal

-- the members that are left have places and words, and what they still add
pub record Adding (readings : ReadingsView) (g r : ℕ) (words all left : List ℕ) (before now : List Frame) : Type 0 where
  pub places : IsTrue (are_places readings.plan g r left)
  pub within : IsTrue (list_all (λ i. nat_lt i (length words)) left)
  pub frames : now ++ map (word_frame g r words) (filter (λ i. is_some (reading readings.table g r i)) left)
      ≡ before ++ map (word_frame g r words) (filter (λ i. is_some (reading readings.table g r i)) all)

abbrev pub invariant-loop-meter : goal.invariant-loop-meter
invariant-loop-meter l = Adding l.readings l.group l.round l.words l.members l.meter-iterator l.fn.frames.items l.frames.items
