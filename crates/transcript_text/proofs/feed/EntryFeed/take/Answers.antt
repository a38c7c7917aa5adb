use Rattle.std.proofs.Common.{◌∙◌, ◌++◌, List, ℕ, ap, sym, subst}
use Rattle.transcript_text.specs.Ahead.{entries_of}
use Rattle.transcript_text.specs.Feeds.{FeedView, IsFed}
use Rattle.transcript_text.proofs.Feeding.{fed}
use Rattle.transcript_text.proofs.feed.EntryFeed.take.Goals as goal

pub returns-clause-fed : goal.returns-clause-fed
returns-clause-fed g c =
    let bytes = c.args.bytes.now in
    let lists = c.in_ok-entries.entries.items in
    let f : FeedView = record { reader = c.self.inside.reader; rest = c.self.inside.rest.items } in
    let all = c.deref.ensures.value ∙ c.in_ok-extend_from_slice.ensures.items in
    let last = c.next_lists.new.reader in
    let end = c.in_ok-over.field-0 in
    let done = fed f bytes c.deref.result.now c.in_ok-reader.reader last end lists all c.in_ok-reader.ensures c.in_ok-entries.ensures.lists c.in_ok-over.ensures in
    let rest = c.in_ok-to_vec.ensures.items_if_clones_equal (λ x y same. same) ∙ c.text.ensures in
    subst (λ (v : FeedView). IsFed v bytes (entries_of lists) (record { reader = end; rest = c.in_ok-to_vec.field-0.items })) c.self.view_is
    (subst (λ (q : List ℕ). IsFed f bytes (entries_of lists) (record { reader = end; rest = q })) (sym rest) done)
