-- How a role goes on by its journal, and starts. A role is known by which journal the next line leaves, where it can follow, and by the
-- state that a journal gives it.
use Rattle.std.specs.Prelude.{◌≡◌, ◌⊎◌, ℕ, true, false, List, [], ◌∷◌, ◌++◌, length, Option, Some, None, Result, Ok, Err}
use Rattle.apart_lines.specs.declared.heads.HeadFound.{HeadFound}
use Rattle.apart_lines.specs.declared.heads.HeadFound.TheVariants.{Whole, Begun, Other}
use Rattle.apart_lines.specs.Heads.{head_found}
use Rattle.desk_outside.specs.Wire.{IsFront, WireView, after_step, after_steps}
use Rattle.desk_outside.specs.declared.wire.WireStep.{WireStep}
use Rattle.desk_outside.specs.declared.wire.WireStep.TheVariants.{Appended, Emptied, Opened, Trimmed, Unopened, Unrecalled}
use Rattle.apart_roles.specs.declared.outcome.Recollection.{Recollection}
use Rattle.apart_roles.specs.declared.outcome.Recollection.TheVariants.{Followed, Wrong, Over, Unreadable}
use Rattle.apart_roles.specs.declared.outcome.Start.{Start}
use Rattle.apart_roles.specs.declared.outcome.Start.TheVariants as starts
use Rattle.apart_roles.specs.declared.outcome.RoleError.{RoleError}
use Rattle.apart_roles.specs.declared.outcome.RoleError.TheVariants.{Memory}
use Rattle.apart_roles.specs.Inputs.{AreNext, Came, ComesTo, IsEnd, Recalls, is_line, lines_in, number_behind, recall_steps, with_last}
use Rattle.apart_roles.specs.Steps.{Stops}

-- ---- the next line of a journal

-- the role has gone on by a line
pub record IsFollowed {L R : Type 0} (is : List L → R → Type 0) (left : Option (List L)) (new : R) : Type 0 where
  pub next : List L
  pub follows : left ≡ Some next
  pub after : is next new

-- a line that leaves this journal was followed, or it leaves none
abbrev pub FollowsLine : {L R : Type 0} → (List L → R → Type 0) → Option (List L) → Recollection → R → Type 0
FollowsLine is left Followed new = IsFollowed is left new
FollowsLine is left Wrong new = left ≡ None
FollowsLine is left Over new = ⊥
FollowsLine is left Unreadable new = ⊥

-- the next line was recalled and followed, or why not
abbrev pub GoesOn : {L R : Type 0} → (List L → Came → Option (List L)) → (List L → R → Type 0) → List L → WireView → WireView → Result Recollection RoleError → R → Type 0
GoesOn follow is journal v w (Ok Followed) new = (came : Came) × Recalls v w came × IsFollowed is (follow journal came) new
GoesOn follow is journal v w (Ok Wrong) new = (came : Came) × Recalls v w came × (is_line came.what ≡ true) × (follow journal came ≡ None)
GoesOn follow is journal v w (Ok Over) new = (came : Came) × Recalls v w came × (is_line came.what ≡ false) × is journal new
GoesOn follow is journal v w (Ok Unreadable) new = w ≡ after_step v Unrecalled
GoesOn follow is journal v w (Err Memory) new = w ≡ v
GoesOn follow is journal v w (Err error) new = ⊥

-- ---- the lines of a journal, up to its end or to the first that is wrong

-- all lines were followed, and then the journal ended: by a rest, by its end, or after as many lines as are recalled
pub record IsReady {L R : Type 0} (follow : List L → Came → Option (List L)) (is : List L → R → Type 0) (v w : WireView) (new : R) : Type 0 where
  pub lines : List Came
  pub last : Option Came
  pub journal : List L
  pub comes : ComesTo follow [] lines journal
  pub ends : IsEnd lines last
  pub next : AreNext v.journal (with_last lines last)
  pub steps : w ≡ after_steps v (recall_steps (with_last lines last))
  pub after : is journal new

-- these lines were followed, and the one with this number is wrong
pub record IsWrong {L : Type 0} (follow : List L → Came → Option (List L)) (from : ℕ) (v w : WireView) (number : ℕ) : Type 0 where
  pub lines : List Came
  pub came : Came
  pub journal : List L
  pub comes : ComesTo follow [] lines journal
  pub line : is_line came.what ≡ true
  pub wrong : follow journal came ≡ None
  pub next : AreNext v.journal (lines ++ came ∷ [])
  pub steps : w ≡ after_steps v (recall_steps (lines ++ came ∷ []))
  pub number_is : number ≡ number_behind from (length lines)

-- these lines were followed
pub record IsPart {L : Type 0} (follow : List L → Came → Option (List L)) (v w : WireView) : Type 0 where
  pub lines : List Came
  pub journal : List L
  pub comes : ComesTo follow [] lines journal
  pub next : AreNext v.journal lines
  pub steps : w ≡ after_steps v (recall_steps lines)

-- they were, and then the journal could not be read
pub record IsBroken {L : Type 0} (follow : List L → Came → Option (List L)) (v w : WireView) : Type 0 where
  pub view : WireView
  pub part : IsPart follow v view
  pub step : w ≡ after_step view Unrecalled

-- a journal whose lines have numbers from this one on
abbrev pub GoesThrough : {L R : Type 0} → (List L → Came → Option (List L)) → (List L → R → Type 0) → ℕ → WireView → WireView → Result (Start R) RoleError → Type 0
GoesThrough follow is from v w (Ok (starts.Ready new)) = IsReady follow is v w new
GoesThrough follow is from v w (Ok (starts.Line number)) = IsWrong follow from v w number
GoesThrough follow is from v w (Ok starts.Unreadable) = IsBroken follow v w
GoesThrough follow is from v w (Ok (starts.Head number)) = ⊥
GoesThrough follow is from v w (Err Memory) = IsPart follow v w
GoesThrough follow is from v w (Err error) = ⊥

-- ---- a journal with its head

-- the lines were followed, and the rest is cut off
pub record IsRead {L R : Type 0} (follow : List L → Came → Option (List L)) (is : List L → R → Type 0) (v w : WireView) (new : R) : Type 0 where
  pub view : WireView
  pub ready : IsReady follow is v view new
  pub trimmed : w ≡ after_step view (Trimmed false)

-- they were, and the rest is not cut off
pub record StopsAtRest {L R : Type 0} (follow : List L → Came → Option (List L)) (is : List L → R → Type 0) (error : RoleError) (v w : WireView) : Type 0 where
  pub role : R
  pub view : WireView
  pub ready : IsReady follow is v view role
  pub stops : Stops error (Trimmed false ∷ []) view w

-- a journal whose lines behind its head have numbers from this one on
abbrev pub ReadsOn : {L R : Type 0} → (List L → Came → Option (List L)) → (List L → R → Type 0) → ℕ → WireView → WireView → Result (Start R) RoleError → Type 0
ReadsOn follow is from v w (Ok (starts.Ready new)) = IsRead follow is v w new
ReadsOn follow is from v w (Ok (starts.Line number)) = IsWrong follow from v w number
ReadsOn follow is from v w (Ok starts.Unreadable) = IsBroken follow v w
ReadsOn follow is from v w (Ok (starts.Head number)) = ⊥
ReadsOn follow is from v w (Err error) = ((error ≡ Memory) × IsPart follow v w) ⊎ StopsAtRest follow is error v w

-- ---- a journal without it

-- the steps by which a journal is begun anew
abbrev pub begin_steps : List ℕ → List WireStep
begin_steps head = Emptied false ∷ Appended head false ∷ []

pub record IsBegun {L R : Type 0} (is : List L → R → Type 0) (head : List ℕ) (v w : WireView) (new : R) : Type 0 where
  pub steps : w ≡ after_steps v (begin_steps head)
  pub after : is [] new

abbrev pub Begins : {L R : Type 0} → (List L → R → Type 0) → List ℕ → WireView → WireView → Result (Start R) RoleError → Type 0
Begins is head v w (Ok (starts.Ready new)) = IsBegun is head v w new
Begins is head v w (Ok (starts.Line number)) = ⊥
Begins is head v w (Ok starts.Unreadable) = ⊥
Begins is head v w (Ok (starts.Head number)) = ⊥
Begins is head v w (Err error) = Stops error (begin_steps head) v w

-- ---- a journal that is open

-- by how it begins: it goes on, or is begun anew, or this line is not its head's
abbrev pub GoesOnBy : {L R : Type 0} → HeadFound → (List L → Came → Option (List L)) → (List L → R → Type 0) → List ℕ → WireView → WireView → Result (Start R) RoleError → Type 0
GoesOnBy Whole follow is head v w result = ReadsOn follow is (number_behind (lines_in head) 1) v w result
GoesOnBy Begun follow is head v w result = Begins is head v w result
GoesOnBy (Other line) follow is head v w result = (result ≡ Ok (starts.Head line)) × (w ≡ v)

-- it was opened, and judged by the head that it should have
pub record IsOpened {L R : Type 0} (follow : List L → Came → Option (List L)) (is : List L → R → Type 0) (name head : List ℕ) (v w : WireView) (result : Result (Start R) RoleError) : Type 0 where
  pub front : List ℕ
  pub view : WireView
  pub is_front : IsFront v.journal (length head) front
  pub step : view ≡ after_step v (Opened name front)
  pub goes_on : GoesOnBy (head_found 1 head front) follow is head view w result

-- it was not
abbrev pub NotOpened : {R : Type 0} → List ℕ → WireView → WireView → Result (Start R) RoleError → Type 0
NotOpened name v w (Ok starts.Unreadable) = w ≡ after_step v (Unopened name)
NotOpened name v w (Err Memory) = w ≡ v
NotOpened name v w result = ⊥

abbrev pub Opens : {L R : Type 0} → (List L → Came → Option (List L)) → (List L → R → Type 0) → (name head : List ℕ) → WireView → WireView → Result (Start R) RoleError → Type 0
Opens follow is name head v w result = NotOpened name v w result ⊎ IsOpened follow is name head v w result
