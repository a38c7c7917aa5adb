use Rattle.std.proofs.Common.{◌≡◌, ◌<◌, ◌++◌, ◌∷◌, [], List, ℕ, length, sym, ap, ap₂, ◌∙◌, map, subst, arith}
use Rattle.transcript_log.specs.Extras.{ExtrasView, extra_in, set_at, HaveSets}
use Rattle.transcript_log.proofs.KeptExtras.{still_have_sets, one_extra_more}
use Rattle.transcript_log.proofs.extras.Extras.push_reserved.Goals as goal

pub invariant_of-self : goal.invariant_of-self
invariant_of-self c =
    let room = ap (λ (v : ExtrasView). v.spare) c.self.view_is in
    subst (HaveSets c.add_set-set.new.sets.items) (sym c.push_reserved.ensures.items)
    (still_have_sets c.self.inside.sets.items c.add_set-set.new.sets.items c.self.inside.extras.items c.small_extra.result c.self.invariant
    (omega (arith, c.requires, room, c.self.inside.extras.ok.0)) c.add_set-set.ensures.sets (subst (λ (at : ℕ). at < length c.add_set-set.new.sets.items) (sym c.small_extra.ensures.place) c.add_set-set.ensures.place.0))

pub returns-clause-items : goal.returns-clause-items
returns-clause-items c =
    let is_extra : extra_in c.add_set-set.new.sets.items c.small_extra.result ≡ c.args.extra
    = ap₂ (λ (set : List ℕ) (word : ℕ). record { set = set; word = word })
    (ap (set_at c.add_set-set.new.sets.items) c.small_extra.ensures.place ∙ c.add_set-set.ensures.place.1) c.small_extra.ensures.word in
    ap (map (extra_in c.add_set-set.new.sets.items)) c.push_reserved.ensures.items
    ∙ one_extra_more c.self.inside.sets.items c.add_set-set.new.sets.items c.self.inside.extras.items c.small_extra.result c.args.extra c.self.invariant c.add_set-set.ensures.sets is_extra
    ∙ ap (λ (v : ExtrasView). v.items ++ c.args.extra ∷ []) c.self.view_is
