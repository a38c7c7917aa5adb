-- How `public` ends, from how its parts do.
use Rattle.std.proofs.Common.{◌≡◌, ◌∙◌, ℕ, List, length, map, ap, [], ◌∷◌, sym, subst, inr, Ok, inl}
use Rattle.std.proofs.lemmas.List.{length-map}
use Rattle.group_plan.specs.declared.plan.GroupPlan.{GroupPlan}
use Rattle.group_plan.specs.NewPlans.{stated}
use Rattle.group_plan.specs.Plans.{Group}
use Rattle.command_texts.specs.Lines.{public_line}
use Rattle.plan_files.specs.Spelling.{public_text}
use Rattle.plan_files.specs.PlanFiles.{PlanFileView, plan_of}
use Rattle.plan_files.proofs.AcceptedFiles.{accepted_plans}
use Rattle.plan_files.proofs.SpelledPlan.{spelled_public}
use Rattle.desk_outside.specs.Desk.{View}
use Rattle.command_words.specs.declared.outcome.Outcome.{Outcome}
use Rattle.command_files.specs.Calls.{IsRead, after_fetches, putting, PutsEnd}
use Rattle.file_commands.specs.PublicEnds.{PublicEnds}
use Rattle.command_texts.specs.Refusals.{PublicRefuses}

pub line_is : (groups : List Group) (named : List GroupPlan) (n r rounds : ℕ) (line : List ℕ) → line ≡ public_line n r → n ≡ length named → named ≡ map stated groups → r ≡ rounds
    → line ≡ public_line (length groups) rounds
line_is groups named n r rounds line is count named_is rounds_is =
    is ∙ (ap (λ m. public_line m r) (count ∙ (ap length named_is ∙ length-map groups stated)) ∙ ap (public_line (length groups)) rounds_is)

-- the public plan is put
pub public_ends : (plan public : List ℕ) (v u w : View) (file : PlanFileView) (outcome : Outcome) (bytes given text line : List ℕ)
    → IsRead (v.held plan) bytes → u ≡ after_fetches (plan ∷ []) v → given ≡ bytes → plan_of given ≡ Ok file → text ≡ public_text file.plan
    → line ≡ public_line (length file.plan.groups) file.plan.rounds → PutsEnd (putting public text ∷ []) line u w outcome → PublicEnds plan public v w outcome
public_ends plan public v u w file outcome bytes given text line is after given_is value text_is line_is ends =
    let said : plan_of bytes ≡ Ok file = ap plan_of (sym given_is) ∙ value in
    let by_text : PutsEnd (putting public (public_text file.plan) ∷ []) line u w outcome = subst (λ x. PutsEnd (putting public x ∷ []) line u w outcome) text_is ends in
    let by_line : PutsEnd (putting public (public_text file.plan) ∷ []) (public_line (length file.plan.groups) file.plan.rounds) u w outcome =
    subst (λ x. PutsEnd (putting public (public_text file.plan) ∷ []) x u w outcome) line_is by_text
    in
    inr (
      bytes,
      is,
      inr (
        file,
        said,
        spelled_public file.plan (accepted_plans bytes file said).limits,
        subst (λ u. PutsEnd (putting public (public_text file.plan) ∷ []) (public_line (length file.plan.groups) file.plan.rounds) u w outcome) after by_line,
      ),
    )

-- the plan file is refused
pub public_refused : (plan public : List ℕ) (v w : View) (outcome : Outcome) (bytes given : List ℕ) → IsRead (v.held plan) bytes → w ≡ after_fetches (plan ∷ []) v → given ≡ bytes
    → PublicRefuses plan given outcome → PublicEnds plan public v w outcome
public_refused plan public v w outcome bytes given is after given_is refused = inr (bytes, is, inl (subst (λ b. PublicRefuses plan b outcome) given_is refused, after))
