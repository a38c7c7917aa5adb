use Rattle.std.proofs.Common.{◌++◌, ◌∷◌, [], ap, sym, refl, ◌∙◌, subst}
use Rattle.std.specs.Prelude.{Some, None, if◌then◌else◌}
use Rattle.event_schedule.specs.declared.Event.TheVariants.{Send}
use Rattle.event_schedule.specs.declared.Line.TheVariants.{Send as SendLine}
use Rattle.group_book.specs.Books.{BookView, IsFree}
use Rattle.group_book.specs.Groups.{GroupView, holds}
use Rattle.group_book.specs.Replay.{Replays, book_at}
use Rattle.group_book.proofs.GroupLemmas.{place-held, void_now, sent_now, ends_with, ends_refused}
use Rattle.group_book.proofs.CallLemmas.{adds_line, posted_is}
use Rattle.group_book.proofs.group_pages.GroupPages.send.Goals as goal

pub returns-then-not-allows : goal.returns-then-not-allows
returns-then-not-allows c = λ j now.
    let p = c.args.presence.now in
    let f = c.args.frame in
    let void = sym (c.allows.ensures j now) ∙ c.if-not-allows.true in
    let before : BookView = book_at p j c.args.lines.now.spare in
    let after : BookView = book_at p (j ++ SendLine f.tag None ∷ []) c.add_send.new.journal.spare in
    ends_with p j _ c.args.lines.now c.add_send.new.journal _ _ (SendLine f.tag None) (
      place-held p j c.args.self.now f.tag now c.requires.own ∙ sym c.holds.ensures ∙ c.if-not-holds.false,
      void,
      adds_line before before after (Send f.tag) (Some f) (SendLine f.tag None) refl refl refl c.add_send.ensures.spare (ap (λ b. SendLine f.tag (if b then Some f else None)) (sym void)),
    )
    (void_now p j c.args.self.now f.tag now void) refl c.requires.own c.add_send.ensures.lines

pub returns-in-Some : goal.returns-in-Some
returns-in-Some c = λ j now.
    let p = c.args.presence.now in
    let f = c.args.frame in
    let may = sym (c.allows.ensures j now) ∙ c.if-not-allows.false in
    let other = c.in-Some.ensures p j now may in
    ends_refused p j _ c.args.lines.now c.args.lines.now c.args.self.now
    (place-held p j c.args.self.now f.tag now c.requires.own ∙ sym c.holds.ensures ∙ c.if-not-holds.false, may, other.0, other.1, refl) now refl

pub returns-in-Some-other_frame : goal.returns-in-Some-other_frame
returns-in-Some-other_frame c = λ j now.
    let p = c.args.presence.now in
    let f = c.args.frame in
    let may = sym (c.allows.ensures j now) ∙ c.if-not-allows.false in
    let found = c.in-Some-other_frame.ensures in
    ends_refused p j _ c.args.lines.now c.args.lines.now c.args.self.now (
      place-held p j c.args.self.now f.tag now c.requires.own ∙ sym c.holds.ensures ∙ c.if-not-holds.false,
      may,
      c.in_default.ensures p j now may,
      posted_is (book_at p j 0) f.tag _ (c.posted.ensures p j now) ∙ found.0,
      found.1,
      refl,
    ) now refl

pub returns : goal.returns
returns c = λ j now.
    let p = c.args.presence.now in
    let f = c.args.frame in
    let rep = subst (Replays p j) (sym c.self.view_is) now in
    let own = c.requires.own ∙ ap (λ (v : GroupView). v.group) (sym c.self.view_is) in
    let held = ap (λ (v : GroupView). holds v f.tag) c.self.view_is ∙ sym c.holds.ensures ∙ c.if-not-holds.false in
    let may = sym (c.allows.ensures j now) ∙ c.if-not-allows.false in
    let set = c.in_default.ensures p j now may in
    let free = subst (λ x. IsFree x f) (sym (posted_is (book_at p j 0) f.tag _ (c.posted.ensures p j now))) c.in_default-other_frame.ensures in
    let before : BookView = book_at p j c.args.lines.now.spare in
    let after : BookView = book_at p (j ++ SendLine f.tag (Some f) ∷ []) c.add_send-2.new.journal.spare in
    ends_with p j _ c.args.lines.now c.add_send-2.new.journal _ _ (SendLine f.tag (Some f)) (
      place-held p j c.args.self.now f.tag now c.requires.own ∙ sym c.holds.ensures ∙ c.if-not-holds.false,
      may,
      set,
      free,
      adds_line before before after (Send f.tag) (Some f) (SendLine f.tag (Some f)) refl refl refl c.add_send-2.ensures.spare (ap (λ b. SendLine f.tag (if b then Some f else None)) (sym may)),
    )
    (subst (λ w. Replays p (j ++ SendLine f.tag (Some f) ∷ []) (record {
      group = c.self.inside.group;
      rounds = c.self.inside.rounds;
      meters = c.self.inside.meters;
      pages = c.self.inside.pages.items;
      words = w;
    })) (sym c.put.ensures)
    (sent_now p j _ f c.word_in-at.result rep own held c.word_in-at.ensures may set c.requires.frame free))
    (ap (λ (v : GroupView). v.group) c.self.view_is) c.requires.own c.add_send-2.ensures.lines
