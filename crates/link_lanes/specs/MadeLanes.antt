-- What each lane of this crate means.
use Rattle.std.specs.Option.{option_map}
use Rattle.link_lanes.specs.declared.clear.Clear.{Clear}
use Rattle.link_lanes.specs.declared.every.EveryNth.{EveryNth}
use Rattle.link_lanes.specs.declared.burst.Burst.{Burst}
use Rattle.link_lanes.specs.declared.rules.Rules.{Rules}
use Rattle.link_lanes.specs.declared.seeded.Seeded.{Seeded}
use Rattle.link_lanes.specs.Lanes.{Meaning}
use Rattle.link_lanes.specs.Kinds.{clear_by, every_by, burst_by, rules_by, seeded_by}

-- a `Clear`
abbrev pub clear_lane : Clear → Meaning
clear_lane lane = clear_by lane.count

-- a `EveryNth`
abbrev pub every_lane : EveryNth → Meaning
every_lane lane = every_by lane.count lane.nth

-- a `Burst`
abbrev pub burst_lane : Burst → Meaning
burst_lane lane = burst_by lane.count lane.turns

-- a `Rules`
abbrev pub rules_lane : Rules → Meaning
rules_lane lane = rules_by lane.count (option_map (λ v. v.items) lane.rules)

-- a `Seeded`
abbrev pub seeded_lane : Seeded → Meaning
seeded_lane lane = seeded_by lane.count (option_map (λ draw. draw.chances) lane.draw)
