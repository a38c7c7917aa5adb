-- How `audit` ends, from how its parts do.
use Rattle.std.proofs.Common.{List, ℕ, ◌≡◌, inl, inr, [], ◌∷◌, subst, Ok}
use Rattle.command_words.specs.declared.outcome.Outcome.{Outcome}
use Rattle.file_commands.specs.AuditEnds.{AuditCommandEnds}
use Rattle.desk_outside.specs.Desk.{View}
use Rattle.command_files.specs.Calls.{IsRead, after_fetches, PutsEnd}
use Rattle.command_texts.specs.Lines.{audited_line}
use Rattle.command_texts.specs.Audits.{AuditRefuses, Audited}
use Rattle.audit_check.specs.declared.answers.AuditCounts.{AuditCounts}

-- what the files say is refused
pub audit_refused : (transcript report : List ℕ) (v w : View) (outcome : Outcome) (tb rb given other : List ℕ)
    → IsRead (v.held transcript) tb → IsRead (v.held report) rb → w ≡ after_fetches (transcript ∷ report ∷ []) v → given ≡ tb → other ≡ rb
    → AuditRefuses transcript report given other outcome → AuditCommandEnds transcript report v w outcome
audit_refused transcript report v w outcome tb rb given other t_read r_read after given_is other_is refused =
    let here : AuditRefuses transcript report tb rb outcome =
    subst (λ bytes. AuditRefuses transcript report tb bytes outcome) other_is (subst (λ bytes. AuditRefuses transcript report bytes other outcome) given_is refused)
    in
    inr (tb, rb, t_read, r_read, inl (here, after))

-- a report is confirmed
pub audit_ends : (transcript report : List ℕ) (v u w : View) (counts : AuditCounts) (outcome : Outcome) (tb rb given other line : List ℕ)
    → IsRead (v.held transcript) tb → IsRead (v.held report) rb → u ≡ after_fetches (transcript ∷ report ∷ []) v → given ≡ tb → other ≡ rb
    → Audited given other (Ok counts) → line ≡ audited_line counts.rows counts.totals
    → PutsEnd [] line u w outcome → AuditCommandEnds transcript report v w outcome
audit_ends transcript report v u w counts outcome tb rb given other line t_read r_read after given_is other_is audited line_is ends =
    let here : Audited tb rb (Ok counts) = subst (λ bytes. Audited tb bytes (Ok counts)) other_is (subst (λ bytes. Audited bytes other (Ok counts)) given_is audited)
    in
    let by_line : PutsEnd [] (audited_line counts.rows counts.totals) u w outcome = subst (λ x. PutsEnd [] x u w outcome) line_is ends in
    inr (tb, rb, t_read, r_read, inr (counts, here, subst (λ u. PutsEnd [] (audited_line counts.rows counts.totals) u w outcome) after by_line))
