-- What lies in the slots of groups.
use Rattle.std.specs.Prelude.{◌≡◌, ℕ, List, map, All, Option, Some, None}
use Rattle.group_book.specs.Groups.{GroupView}
use Rattle.shared_book.specs.declared.handed.Handed.{Handed}

-- the pages in a slot
abbrev pub pages_in : Option Handed → Option GroupView
pages_in None = None
pages_in (Some h) = Some h.pages

-- the slots have the pages of these groups
abbrev pub HavePages : List (Option Handed) → List GroupView → Type 0
HavePages slots groups = map pages_in slots ≡ map Some groups

-- the number of the pass that has handed back what lies in a slot
abbrev pub last_in : Option Handed → Option ℕ
last_in None = None
last_in (Some h) = h.last

-- no pass has handed anything back
abbrev pub AreNew : List (Option Handed) → Type 0
AreNew slots = All (λ slot. last_in slot ≡ None) slots
