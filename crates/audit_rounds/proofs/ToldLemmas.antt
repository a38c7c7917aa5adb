-- The lines of rounds, before and after a call on one group.
use Rattle.std.proofs.Common.{◌≡◌, ℕ, List, [], ◌∷◌, ◌++◌, sym, ap, ◌∙◌, subst, append-nil, append_assoc}
use Rattle.std.proofs.lemmas.Grind.{flat_map-append}
use Rattle.group_plan.specs.Tables.{PresenceView}
use Rattle.event_schedule.specs.declared.Line.{Line}
use Rattle.transcript_log.specs.Lines.{LinesView}
use Rattle.group_book.specs.Books.{BookView}
use Rattle.group_book.specs.Groups.{GroupView}
use Rattle.group_book.specs.Replay.{PagesEnd, book_at}
use Rattle.audit_rounds.specs.Told.{all_told}

-- the lines of one list more
pub told_more : (told : List (LinesView × Unit {0})) (last : LinesView) (u : Unit {0}) → all_told (told ++ (last, u) ∷ []) ≡ all_told told ++ last.items
told_more told last u =
    flat_map-append (λ (x : LinesView × Unit {0}). x.0.items) told ((last, u) ∷ []) ∙ ap (λ x. all_told told ++ x) (append-nil last.items)

module _ (p : PresenceView) (told : List Line) (call : BookView → BookView → Type 0) (before : LinesView) (g : ℕ) (v : GroupView) (after : LinesView) (end : PagesEnd p (told ++ before.items) call before g v after) where
  -- the lines that the call adds come last
  pub lines_now : told ++ after.items ≡ (told ++ before.items) ++ end.added
  lines_now = ap (λ x. told ++ x) end.lines ∙ sym (append_assoc told before.items end.added)

  -- the call on the group is that on the rounds
  pub came_to : call (book_at p (told ++ before.items) before.spare) (book_at p (told ++ after.items) after.spare)
  came_to = subst (λ x. call (book_at p (told ++ before.items) before.spare) (book_at p x after.spare)) (sym lines_now) end.ends
