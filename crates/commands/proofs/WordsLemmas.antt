-- Only words that are no command have status 2.
use Rattle.std.proofs.Common.{◌≡◌, ◌∙◌, ℕ, List, ap, arith, inl, inr, refl, subst, sym}
use Rattle.std.specs.Prelude.{◌↔◌, None, Some, Option}
use Rattle.link_lanes.specs.Lanes.{Meaning}
use Rattle.command_words.specs.declared.outcome.Outcome.{Outcome}
use Rattle.command_words.specs.declared.outcome.Outcome.TheVariants.{BadWords}
use Rattle.command_words.specs.Outcomes.{status_of}
use Rattle.command_words.specs.Words.{Command, Run, Ring, RingTwin, Audit, Twin, Pooled, Make, Load, Convert, Public, Parts, Collect, Meter, Inspect, Help, Version, Bill, Hide, Registers, Resume}
use Rattle.commands.specs.Ends.{Ends}
use Rattle.commands.specs.Outside.{OutsideView}
use Rattle.commands.proofs.RoleEndings.{collect_of_role, meter_of_role}

-- no command has bad words
no_bad_words : (cupboard : List Meaning) (command : Command) (o p : OutsideView) → Ends cupboard (Some command) o p BadWords → ⊥
no_bad_words cupboard (Run names workers) o p (inl unread, kept) = absurd unread
no_bad_words cupboard (Run names workers) o q (inr (p, r, p_read, r_read, inl refused), kept) = absurd refused.0
no_bad_words cupboard (Run names workers) o q (inr (p, r, p_read, r_read, inr (inl (values, ends))), kept) = absurd ends
no_bad_words cupboard (Run names workers) o q (inr (p, r, p_read, r_read, inr (inr (texts, made, only, ends))), kept) = absurd ends
no_bad_words cupboard (Ring width names workers) o p (inl unread, kept) = absurd unread
no_bad_words cupboard (Ring width names workers) o q (inr (p, r, p_read, r_read, inl refused), kept) = absurd refused.0
no_bad_words cupboard (Ring width names workers) o q (inr (p, r, p_read, r_read, inr (inl (values, ends))), kept) = absurd ends
no_bad_words cupboard (Ring width names workers) o q (inr (p, r, p_read, r_read, inr (inr (texts, made, only, ends))), kept) = absurd ends
no_bad_words cupboard (Resume names workers) o p (inl unread, kept) = absurd unread
no_bad_words cupboard (Resume names workers) o p (inr (bytes, read, inl refused), kept) = absurd refused.0
no_bad_words cupboard (Resume names workers) o p (inr (bytes, read, inr (inl (values, ends))), kept) = absurd ends
no_bad_words cupboard (Resume names workers) o p (inr (bytes, read, inr (inr (texts, make, only, ends))), kept) = absurd ends
no_bad_words cupboard (Registers count names workers) o p (inl unread, kept) = absurd unread
no_bad_words cupboard (Registers count names workers) o q (inr (p, r, p_read, r_read, inl refused), kept) = absurd refused.0
no_bad_words cupboard (Registers count names workers) o q (inr (p, r, p_read, r_read, inr (inl (values, ends))), kept) = absurd ends
no_bad_words cupboard (Registers count names workers) o q (inr (p, r, p_read, r_read, inr (inr (texts, make, ends))), kept) = absurd ends
no_bad_words cupboard (Audit transcript report) o p (inl unread, kept) = absurd unread
no_bad_words cupboard (Audit transcript report) o p (inr (tb, rb, t_read, r_read, inl refused), kept) = absurd refused.0
no_bad_words cupboard (Audit transcript report) o p (inr (tb, rb, t_read, r_read, inr (counts, audited, ends)), kept) = absurd ends
no_bad_words cupboard (Twin names) o p (inl unread, kept) = absurd unread
no_bad_words cupboard (Twin names) o p (inr (bytes, read, inl refused), kept) = absurd refused.0
no_bad_words cupboard (Twin names) o p (inr (bytes, read, inr (rows, compared, ends)), kept) = absurd ends
no_bad_words cupboard (RingTwin width names) o p (inl unread, kept) = absurd unread
no_bad_words cupboard (RingTwin width names) o p (inr (bytes, read, inl refused), kept) = absurd refused.0
no_bad_words cupboard (RingTwin width names) o p (inr (bytes, read, inr (rows, compared, ends)), kept) = absurd ends
no_bad_words cupboard (Pooled known names) o p (inl unread, kept) = absurd unread
no_bad_words cupboard (Pooled known names) o p (inr (bytes, read, inl refused), kept) = absurd refused.0
no_bad_words cupboard (Pooled known names) o p (inr (bytes, read, inr (rows, compared, ends)), kept) = absurd ends
no_bad_words cupboard (Make size plan readings) o p (ends, kept) = absurd ends
no_bad_words cupboard (Load size workers transcript) o p (inl refused, kept) = absurd refused.0
no_bad_words cupboard (Load size workers None) o p (inr (inl ends), kept) = absurd ends
no_bad_words cupboard (Load size workers (Some transcript)) o p (inr (inl (values, ends)), kept) = absurd ends
no_bad_words cupboard (Load size workers transcript) o p (inr (inr (texts, made, only, ends)), kept) = absurd ends
no_bad_words cupboard (Convert old transcript) o p (inl unread, kept) = absurd unread
no_bad_words cupboard (Convert old transcript) o p (inr (bytes, read, inl refused), kept) = absurd refused.0
no_bad_words cupboard (Convert old transcript) o p (inr (bytes, read, inr (t, has, text, ends)), kept) = absurd ends
no_bad_words cupboard (Public plan public) o p (inl unread, kept) = absurd unread
no_bad_words cupboard (Public plan public) o p (inr (bytes, read, inl refused), kept) = absurd refused.0
no_bad_words cupboard (Public plan public) o p (inr (bytes, read, inr (file, value, again, ends)), kept) = absurd ends
no_bad_words cupboard (Parts plan g prefix) o p (inl unread, kept) = absurd unread
no_bad_words cupboard (Parts plan g prefix) o p (inr (bytes, read, inl refused), kept) = absurd refused.0
no_bad_words cupboard (Parts plan g prefix) o p (inr (bytes, read, inr (file, value, inside, ends)), kept) = absurd ends
no_bad_words cupboard (Collect names) o p ends = absurd (collect_of_role names o.desk p.desk o.wire p.wire BadWords ends)
no_bad_words cupboard (Meter meter journal) o p ends = absurd (meter_of_role meter journal o.desk p.desk o.wire p.wire BadWords ends)
no_bad_words cupboard (Inspect names) o p (inl unread, kept) = absurd unread
no_bad_words cupboard (Inspect names) o p (inr (bytes, read, inl (inl public, after)), kept) = absurd public
no_bad_words cupboard (Inspect names) o p (inr (bytes, read, inl (inr (inl (plan, is, refused)), after)), kept) = absurd refused
no_bad_words cupboard (Inspect names) o p (inr (bytes, read, inl (inr (inr (t, rows, plan, texts, refused)), after)), kept) = absurd refused
no_bad_words cupboard (Inspect names) o p (inr (bytes, read, inr (found, of, ends)), kept) = absurd ends
no_bad_words cupboard (Bill names period) o p (inl unread, kept) = absurd unread
no_bad_words cupboard (Bill names period) o q (inr (p, r, p_read, r_read, inl refused), kept) = absurd refused.0
no_bad_words cupboard (Bill names period) o q (inr (p, r, p_read, r_read, inr (values, are, ends)), kept) = absurd ends
no_bad_words cupboard (Hide names period place) o p (inl unread, kept) = absurd unread
no_bad_words cupboard (Hide names period place) o p (inr (bytes, read, inl (inl metered, after)), kept) = absurd metered
no_bad_words cupboard (Hide names period place) o p (inr (bytes, read, inl (inr (inl (values, are, refused)), after)), kept) = absurd refused
no_bad_words cupboard (Hide names period place) o p (inr (bytes, read, inl (inr (inr (values, t, are, text, alone)), after)), kept) = absurd alone
no_bad_words cupboard (Hide names period place) o q (inr (bytes, read, inr (p, y, of, ends)), kept) = absurd ends
no_bad_words cupboard Help o p (ends, kept) = absurd ends
no_bad_words cupboard Version o p (ends, kept) = absurd ends

by_words : (outcome : Outcome) → status_of outcome ≡ 2 → outcome ≡ BadWords
by_words BadWords is = refl
by_words _ is = absurd (omega (arith, is))

pub bad_words_alone : (cupboard : List Meaning) (asked : Option Command) (o p : OutsideView) (outcome : Outcome) (status : ℕ) → Ends cupboard asked o p outcome → status ≡ status_of outcome
    → (status ≡ 2) ↔ (asked ≡ None)
bad_words_alone cupboard None o p outcome status (bad, kept) is = ((λ two. refl), (λ none. is ∙ ap status_of bad))
bad_words_alone cupboard (Some command) o p outcome status ends is = (
  (λ two. absurd (no_bad_words cupboard command o p (subst (λ outcome. Ends cupboard (Some command) o p outcome) (by_words outcome (sym is ∙ two)) ends))),
  (λ none. absurd cc),
)
