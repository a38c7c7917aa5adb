-- What the laws of this crate say. Each is proved for every plan, table, pool and list of acts.
use Rattle.std.specs.Prelude.{◌≡◌, ℕ, ◌+◌, ◌≤◌, Bool, true, ◌&&◌, List, filter, length, reverse, is_some}
use Rattle.group_plan.specs.Plans.{Group}
use Rattle.event_schedule.specs.Schedule.{floor_of, members_of}
use Rattle.event_schedule.specs.Tables.{Readings, Masks, IsOfPlan, IsBounded, IsMasks}
use Rattle.event_schedule.specs.Transcript.{shape_of_readings}
use Rattle.ideal_masks.specs.Pools.{Pool, ShareWords}
use Rattle.ideal_masks.specs.Offsets.{shift}
use Rattle.mask_graphs.specs.Graphs.{IsPart, IsBare}
use Rattle.lying_head_end.specs.Acts.{Act}
use Rattle.lying_head_end.specs.Frames.{frames, TellSets}
use Rattle.lying_head_end.specs.Graphs.{graph_for, stands}
use Rattle.lying_head_end.specs.Offsets.{AgreeTold, offsets_told}

-- two worlds: whatever the meters are told, tables that agree have the same frames under the shift
abbrev pub TwoWorldsTold : Type 0
TwoWorldsTold = (pool : Pool) (groups : List Group) (x y : Readings) (m : Masks) (acts : List Act) → IsOfPlan groups x → TellSets acts →
    AgreeTold pool groups x y (reverse acts) →
    frames groups y (shift (offsets_told pool groups x y (reverse acts)) m) acts ≡ frames groups x m acts

-- and the shift moves no word of the pool
abbrev pub PoolWordsStayTold : Type 0
PoolWordsStayTold = (pool : Pool) (groups : List Group) (x y : Readings) (m : Masks) (acts : List Act) → IsMasks m →
    ShareWords pool m (shift (offsets_told pool groups x y (reverse acts)) m)

-- the converse: tables of one presence, with the same readings and words of the pool, and with the same frames, agree
abbrev pub ConverseTold : Type 0
ConverseTold = (pool : Pool) (groups : List Group) (x y : Readings) (m k : Masks) (acts : List Act) →
    ((g r i : ℕ) → is_some (x g r i) ≡ is_some (y g r i)) → ((g r i : ℕ) → pool g i ≡ true → x g r i ≡ y g r i) →
    IsOfPlan groups x → IsBounded groups x → IsBounded groups y → TellSets acts → ShareWords pool m k →
    frames groups x m acts ≡ frames groups y k acts → AgreeTold pool groups x y (reverse acts)

-- a bare part has at least as many meters as the floor, less those of the pool that one of its meters left standing
abbrev pub BarePartsReachFloor : Type 0
BarePartsReachFloor = (pool : Pool) (groups : List Group) (x : Readings) (acts : List Act) (g r : ℕ) (p : ℕ → Bool) →
    TellSets acts →
    IsPart (graph_for pool (shape_of_readings groups x) (reverse acts) g r) p → IsBare (graph_for pool (shape_of_readings groups x) (reverse acts) g r) p →
    (i : ℕ) → p i ≡ true →
    floor_of (shape_of_readings groups x) g
    ≤ length (filter p (members_of (shape_of_readings groups x) g r))
    + length (filter (λ j. pool g j && stands (shape_of_readings groups x) g r (reverse acts) i j) (members_of (shape_of_readings groups x) g r))
