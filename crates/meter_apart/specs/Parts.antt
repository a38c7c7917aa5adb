-- What a meter has of its plan.
use Rattle.std.specs.Prelude.{◌≡◌, ℕ, ◌==◌, nat_lt, ◌&&◌, Bool, true, false, List, length, Option, Some, None}
use Rattle.group_plan.specs.declared.Kind.{Kind}
use Rattle.group_plan.specs.declared.Kind.TheVariants.{Announcement}
use Rattle.group_plan.specs.declared.Tag.{Tag}
use Rattle.group_plan.specs.Plans.{PlanView, is_member, members, size}
use Rattle.meter_apart.specs.declared.part.Part.{Part}

-- a plan of one group that has this meter, and no other plan, makes a part
abbrev pub MakesPart : PlanView → ℕ → ℕ → Option Part → Type 0
MakesPart home g i None = ((length home.groups == 1) && nat_lt i (size home.groups 0)) ≡ false
MakesPart home g i (Some part) = (((length home.groups == 1) && nat_lt i (size home.groups 0)) ≡ true) × (part.home ≡ home) × (part.group ≡ g) × (part.meter ≡ i)

-- the meter's group as a plan of one group, and the number by which frames name it
abbrev pub home_of : Part → PlanView
home_of part = part.home

abbrev pub group_of : Part → ℕ
group_of part = part.group

-- the members of the meter's group in round r
abbrev pub members_in : Part → ℕ → List ℕ
members_in part r = members part.home.groups 0 r

-- whether the plan has the round, and the meter is a member of it
abbrev pub takes_part : Part → ℕ → Bool
takes_part part r = nat_lt r part.home.rounds && is_member part.home.groups 0 r part.meter

-- the tag of this kind under which the meter's frames go
abbrev pub own_tag : Part → Kind → ℕ → Tag
own_tag part kind r = record { group = part.group; round = r; meter = part.meter; kind = kind }

abbrev pub is_announcement : Kind → Bool
is_announcement Announcement = true
is_announcement kind = false

-- whether a tag is that of an announcement to the meter
abbrev pub is_to_me : Part → Tag → Bool
is_to_me part tag = (tag.group == part.group) && (tag.meter == part.meter) && is_announcement tag.kind
