-- How the two commands end, by how their parts do.
use Rattle.std.proofs.Common.{◌≡◌, ◌≤◌, ℕ, List, [], ◌∷◌, refl, inl, inr, sym, subst, arith, ⊎_elim}
use Rattle.std.specs.Prelude.{◌⊎◌, Result, Ok, Err}
use Rattle.group_plan.specs.Plans.{PlanView}
use Rattle.head_end.specs.declared.answers.Logged.{Logged}
use Rattle.head_end.specs.declared.head.HeadEnd.{HeadEnd}
use Rattle.meter_apart.specs.declared.answers.Noted.{Noted}
use Rattle.meter_apart.specs.declared.keys.MeterKeys.{MeterKeys}
use Rattle.meter_apart.specs.declared.meter.MeterApart.{MeterApart}
use Rattle.desk_outside.specs.Desk.{Rose, View}
use Rattle.desk_outside.specs.Wire.{WireView}
use Rattle.apart_roles.specs.declared.outcome.RoleError.{RoleError}
use Rattle.apart_roles.specs.declared.outcome.Start.TheVariants.{Ready}
use Rattle.apart_roles.specs.HeadEndStarts.{HeadEndStarts}
use Rattle.apart_roles.specs.HeadEndTurns.{IsHeadEnd}
use Rattle.apart_roles.specs.MeterStarts.{IsMeter, MeterStarts}
use Rattle.command_files.specs.Calls.{after_fetches}
use Rattle.command_texts.specs.Inspecting.{PublicTextRefuses}
use Rattle.command_words.specs.Words.{CollectNames}
use Rattle.command_words.specs.declared.outcome.Outcome.{Outcome}
use Rattle.role_commands.specs.CollectEnds.{CollectEnds, IsCourse, place}
use Rattle.role_commands.specs.MeterEnds.{MeterEnds, MeterRefuses, RunEnds}
use Rattle.role_commands.specs.Parts.{FileEnds, SaysKeys, SaysPlan}
use Rattle.role_commands.specs.Told.{NotStarted}

-- ---- counts of faults

pub rose_behind : (a b c : ℕ) → a ≤ b → Rose b c → Rose a c
rose_behind a b c le rose = omega (arith, le, rose)

pub rose_before : (a b c : ℕ) → Rose a b → b ≤ c → Rose a c
rose_before a b c rose le = omega (arith, le, rose)

-- ---- collect

pub plan_unread : (names : CollectNames) (v w : View) (x : WireView) (outcome : Outcome) → FileEnds names.public SaysPlan (PublicTextRefuses names.public) v w (Err outcome) → CollectEnds names v w x x outcome
plan_unread names v w x outcome ends = ⊎_elim (λ unread. inl (unread, refl)) (λ refused. inr (refused.0, refused.1, inl (refused.2, refused.3, refl))) ends

pub not_collected : (names : CollectNames) (v w : View) (x y : WireView) (plan : PlanView) (outcome : Outcome) → FileEnds names.public SaysPlan (PublicTextRefuses names.public) v w (Ok plan)
    → NotStarted names.journal (HeadEndStarts plan names.journal x y) outcome → CollectEnds names v w x y outcome
not_collected names v w x y plan outcome file not = inr (file.0, file.1, inr (plan, file.2, inl (not, file.3)))

pub collected : (names : CollectNames) (v u w : View) (x m y : WireView) (plan : PlanView) (head : HeadEnd) (outcome : Outcome) → FileEnds names.public SaysPlan (PublicTextRefuses names.public) v u (Ok plan)
    → HeadEndStarts plan names.journal x m (Ok (Ready head)) → ((journal : List Logged) → IsHeadEnd plan journal head → IsCourse plan names (place journal u m) w y outcome) → CollectEnds names v w x y outcome
collected names v u w x m y plan head outcome file starts course =
    inr (
      file.0,
      file.1,
      inr (
        plan,
        file.2,
        inr (record {
          head = head;
          started = m;
          starts = starts;
          course = λ journal after. subst (λ d. IsCourse plan names (place journal d m) w y outcome) file.3 (course journal after);
        }),
      ),
    )

-- ---- meter

pub keys_unread : (meter journal : List ℕ) (v w : View) (x : WireView) (outcome : Outcome) → FileEnds meter SaysKeys (MeterRefuses meter) v w (Err outcome) → MeterEnds meter journal v w x x outcome
keys_unread meter journal v w x outcome ends = ⊎_elim (λ unread. inl (unread, refl)) (λ refused. inr (refused.0, refused.1, refused.3, inl (refused.2, refl))) ends

pub not_metered : (meter journal : List ℕ) (v w : View) (x y : WireView) (keys : MeterKeys) (outcome : Outcome) → FileEnds meter SaysKeys (MeterRefuses meter) v w (Ok keys)
    → NotStarted journal (MeterStarts keys journal x y) outcome → MeterEnds meter journal v w x y outcome
not_metered meter journal v w x y keys outcome file not = inr (file.0, file.1, file.3, inr (file.2.0, file.2.1, keys, file.2.2, inl not))

pub metered : (meter journal : List ℕ) (v w : View) (x m y : WireView) (keys : MeterKeys) (role : MeterApart) (outcome : Outcome) → FileEnds meter SaysKeys (MeterRefuses meter) v w (Ok keys)
    → MeterStarts keys journal x m (Ok (Ready role)) → ((lines : List Noted) → IsMeter keys lines role → RunEnds role lines journal m y outcome) → MeterEnds meter journal v w x y outcome
metered meter journal v w x m y keys role outcome file starts runs =
    inr (file.0, file.1, file.3, inr (file.2.0, file.2.1, keys, file.2.2, inr (record { meter = role; started = m; starts = starts; runs = runs })))
