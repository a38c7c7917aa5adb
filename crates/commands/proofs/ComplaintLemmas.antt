-- Each outcome of a command has a complaint.
use Rattle.std.proofs.Common.{ℕ, List, inl, inr, subst, sym}
use Rattle.command_words.specs.declared.outcome.Outcome.{Outcome}
use Rattle.command_words.specs.declared.outcome.Outcome.TheVariants.{BadText}
use Rattle.command_words.specs.declared.text_fault.TextFault.TheVariants as of_text
use Rattle.command_words.specs.Outcomes.{HasComplaint}
use Rattle.std.specs.Prelude.{None, Some, Option}
use Rattle.link_lanes.specs.Lanes.{Meaning}
use Rattle.command_words.specs.Words.{Command, Run, Ring, RingTwin, Audit, Twin, Pooled, Make, Load, Convert, Public, Parts, Collect, Meter, Inspect, Help, Version, Bill, Hide, Registers, Resume}
use Rattle.commands.specs.Ends.{Ends}
use Rattle.commands.specs.Outside.{OutsideView}
use Rattle.commands.proofs.RoleEndings.{collect_of_role, meter_of_role}

-- an expected line has a text
of_line : (cupboard : List Meaning) (command : Command) (o p : OutsideView) (name : _) (line : ℕ) (expected : _) → Ends cupboard (Some command) o p (BadText name (of_text.OtherLine line expected))
    → HasComplaint (BadText name (of_text.OtherLine line expected))
of_line cupboard (Run names workers) o p name line expected (inl unread, kept) = absurd unread
of_line cupboard (Run names workers) o q name line expected (inr (p, r, p_read, r_read, inl refused), kept) = absurd refused.0
of_line cupboard (Run names workers) o q name line expected (inr (p, r, p_read, r_read, inr (inl (values, ends))), kept) = absurd ends
of_line cupboard (Run names workers) o q name line expected (inr (p, r, p_read, r_read, inr (inr (texts, made, only, ends))), kept) = absurd ends
of_line cupboard (Ring width names workers) o p name line expected (inl unread, kept) = absurd unread
of_line cupboard (Ring width names workers) o q name line expected (inr (p, r, p_read, r_read, inl refused), kept) = absurd refused.0
of_line cupboard (Ring width names workers) o q name line expected (inr (p, r, p_read, r_read, inr (inl (values, ends))), kept) = absurd ends
of_line cupboard (Ring width names workers) o q name line expected (inr (p, r, p_read, r_read, inr (inr (texts, made, only, ends))), kept) = absurd ends
of_line cupboard (Resume names workers) o p name line expected (inl unread, kept) = absurd unread
of_line cupboard (Resume names workers) o p name line expected (inr (bytes, read, inl refused), kept) = absurd refused.0
of_line cupboard (Resume names workers) o p name line expected (inr (bytes, read, inr (inl (values, ends))), kept) = absurd ends
of_line cupboard (Resume names workers) o p name line expected (inr (bytes, read, inr (inr (texts, make, only, ends))), kept) = absurd ends
of_line cupboard (Registers count names workers) o p name line expected (inl unread, kept) = absurd unread
of_line cupboard (Registers count names workers) o q name line expected (inr (p, r, p_read, r_read, inl refused), kept) = absurd refused.0
of_line cupboard (Registers count names workers) o q name line expected (inr (p, r, p_read, r_read, inr (inl (values, ends))), kept) = absurd ends
of_line cupboard (Registers count names workers) o q name line expected (inr (p, r, p_read, r_read, inr (inr (texts, make, ends))), kept) = absurd ends
of_line cupboard (Audit transcript report) o p name line expected (inl unread, kept) = absurd unread
of_line cupboard (Audit transcript report) o p name line expected (inr (tb, rb, t_read, r_read, inl refused), kept) = absurd refused.0
of_line cupboard (Audit transcript report) o p name line expected (inr (tb, rb, t_read, r_read, inr (counts, audited, ends)), kept) = absurd ends
of_line cupboard (Twin names) o p name line expected (inl unread, kept) = absurd unread
of_line cupboard (Twin names) o p name line expected (inr (bytes, read, inl ((named, (found, (values, are, (t, text_is, plan_is, (k, number, first))))), after)), kept) = first.writable
of_line cupboard (Twin names) o p name line expected (inr (bytes, read, inr (rows, compared, ends)), kept) = absurd ends
of_line cupboard (RingTwin width names) o p name line expected (inl unread, kept) = absurd unread
of_line cupboard (RingTwin width names) o p name line expected (inr (bytes, read, inl ((named, (found, (values, are, (t, text_is, plan_is, (k, number, first))))), after)), kept) = first.writable
of_line cupboard (RingTwin width names) o p name line expected (inr (bytes, read, inr (rows, compared, ends)), kept) = absurd ends
of_line cupboard (Pooled known names) o p name line expected (inl unread, kept) = absurd unread
of_line cupboard (Pooled known names) o p name line expected (inr (bytes, read, inl ((named, (found, (values, are, within, (t, text_is, plan_is, (k, number, first))))), after)), kept) = first.writable
of_line cupboard (Pooled known names) o p name line expected (inr (bytes, read, inr (rows, compared, ends)), kept) = absurd ends
of_line cupboard (Make size plan readings) o p name line expected (ends, kept) = absurd ends
of_line cupboard (Load size workers transcript) o p name line expected (inl refused, kept) = absurd refused.0
of_line cupboard (Load size workers None) o p name line expected (inr (inl ends), kept) = absurd ends
of_line cupboard (Load size workers (Some transcript)) o p name line expected (inr (inl (values, ends)), kept) = absurd ends
of_line cupboard (Load size workers transcript) o p name line expected (inr (inr (texts, made, only, ends)), kept) = absurd ends
of_line cupboard (Convert old transcript) o p name line expected (inl unread, kept) = absurd unread
of_line cupboard (Convert old transcript) o p name line expected (inr (bytes, read, inl refused), kept) = absurd refused.0
of_line cupboard (Convert old transcript) o p name line expected (inr (bytes, read, inr (t, has, text, ends)), kept) = absurd ends
of_line cupboard (Public plan public) o p name line expected (inl unread, kept) = absurd unread
of_line cupboard (Public plan public) o p name line expected (inr (bytes, read, inl refused), kept) = absurd refused.0
of_line cupboard (Public plan public) o p name line expected (inr (bytes, read, inr (file, value, again, ends)), kept) = absurd ends
of_line cupboard (Parts plan g prefix) o p name line expected (inl unread, kept) = absurd unread
of_line cupboard (Parts plan g prefix) o p name line expected (inr (bytes, read, inl refused), kept) = absurd refused.0
of_line cupboard (Parts plan g prefix) o p name line expected (inr (bytes, read, inr (file, value, inside, ends)), kept) = absurd ends
of_line cupboard (Collect names) o p name line expected ends = absurd (collect_of_role names o.desk p.desk o.wire p.wire (BadText name (of_text.OtherLine line expected)) ends)
of_line cupboard (Meter meter journal) o p name line expected ends = absurd (meter_of_role meter journal o.desk p.desk o.wire p.wire (BadText name (of_text.OtherLine line expected)) ends)
of_line cupboard (Inspect names) o p name line expected (inl unread, kept) = absurd unread
of_line cupboard (Inspect names) o p name line expected (inr (bytes, read, inl (inl public, after)), kept) = absurd public
of_line cupboard (Inspect names) o p name line expected (inr (bytes, read, inl (inr (inl (plan, is, refused)), after)), kept) = absurd refused
of_line cupboard (Inspect names) o p name line expected (inr (bytes, read, inl (inr (inr (t, rows, plan, texts, refused)), after)), kept) = absurd refused
of_line cupboard (Inspect names) o p name line expected (inr (bytes, read, inr (found, of, ends)), kept) = absurd ends
of_line cupboard (Bill names period) o p name line expected (inl unread, kept) = absurd unread
of_line cupboard (Bill names period) o q name line expected (inr (p, r, p_read, r_read, inl refused), kept) = absurd refused.0
of_line cupboard (Bill names period) o q name line expected (inr (p, r, p_read, r_read, inr (values, are, ends)), kept) = absurd ends
of_line cupboard (Hide names period place) o p name line expected (inl unread, kept) = absurd unread
of_line cupboard (Hide names period place) o p name line expected (inr (bytes, read, inl (inl metered, after)), kept) = absurd metered
of_line cupboard (Hide names period place) o p name line expected (inr (bytes, read, inl (inr (inl (values, are, refused)), after)), kept) = absurd refused
of_line cupboard (Hide names period place) o p name line expected (inr (bytes, read, inl (inr (inr (values, t, are, text, alone)), after)), kept) = absurd alone
of_line cupboard (Hide names period place) o q name line expected (inr (bytes, read, inr (p, y, of, ends)), kept) = absurd ends
of_line cupboard Help o p name line expected (ends, kept) = absurd ends
of_line cupboard Version o p name line expected (ends, kept) = absurd ends

by_command : (cupboard : List Meaning) (command : Command) (o p : OutsideView) (outcome : Outcome) → Ends cupboard (Some command) o p outcome → HasComplaint outcome
by_command cupboard command o p (BadText name (of_text.OtherLine line expected)) ends = of_line cupboard command o p name line expected ends
by_command cupboard command o p _ ends = tt

pub has_complaint : (cupboard : List Meaning) (asked : Option Command) (o p : OutsideView) (outcome : Outcome) → Ends cupboard asked o p outcome → HasComplaint outcome
has_complaint cupboard None o p outcome (is, after) = subst HasComplaint (sym is) tt
has_complaint cupboard (Some command) o p outcome ends = by_command cupboard command o p outcome ends
