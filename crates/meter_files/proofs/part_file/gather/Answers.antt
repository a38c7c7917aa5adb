use Rattle.std.proofs.Common.{◌≡◌, ◌∙◌, List, None, Ok, ap, sym, arith, length}
use Rattle.std.proofs.lemmas.List.{length-replicate}
use Rattle.meter_files.specs.PartFiles.{Gathered, gather, gathered_by, nothing, owner_view, take_entry}
use Rattle.meter_files.specs.declared.part_row.PartEntry.{PartEntry}
use Rattle.meter_files.proofs.PartLemmas.{gather_end, gather_more, gather_refused}
use Rattle.meter_files.proofs.part_file.gather.Goals as goal

pub loop-entry-init : goal.loop-entry-init
loop-entry-init c =
    let owner = owner_view c.args.owner in
    let rest = c.into_iter-entry-iterator.result.rest.items in
    let gives = c.into_iter-entry-iterator.ensures.into_iter_gives in
    let long = ap length gives.0 in
    let none = c.in_ok-keys.ensures in
    let members = ap (λ (g : Gathered). g.members) none in
    record {
      number = omega arith;
      long = omega arith;
      few = omega arith;
      pairs = ap (λ (g : Gathered). length g.pairs) none ∙ length-replicate c.args.owner.meters None;
      so_far = ap (λ (entries : List PartEntry). gather owner c.args.fault 5 (nothing c.args.owner.meters) entries) (sym gives.0)
          ∙ ap (λ (g : Gathered). gather owner c.args.fault 5 g rest) (sym none);
    }

pub returns-in-Err-clause-refused : goal.returns-in-Err-clause-refused
returns-in-Err-clause-refused c =
    let owner = owner_view c.args.owner in
    let before = gathered_by c.loop-entry.keys in
    c.loop-entry.invariant.so_far
    ∙ gather_refused owner c.args.fault c.loop-entry.number before c.loop-entry.entry-iterator.rest.items c.next.new.self.rest.items c.in-Some.entry c.in-Err.cause c.in-Some.ensures.steps.0 c.in-Err.ensures.taken

pub loop-entry-preserved : goal.loop-entry-preserved
loop-entry-preserved c =
    let owner = owner_view c.args.owner in
    let before = gathered_by c.loop-entry.keys in
    let steps = c.in-Some.ensures.steps in
    let long = ap length steps.0 in
    let taken : take_entry owner c.args.fault before c.in-Some.entry ≡ Ok (gathered_by c.take.new.self) = c.in_default.ensures.taken in
    record {
      number = omega arith;
      long = omega arith;
      few = omega arith;
      pairs = c.in_default.ensures.long ∙ c.loop-entry.invariant.pairs;
      so_far = c.loop-entry.invariant.so_far
          ∙ gather_more owner c.args.fault c.loop-entry.number before (gathered_by c.take.new.self) c.loop-entry.entry-iterator.rest.items c.next.new.self.rest.items c.in-Some.entry steps.0 taken;
    }

pub returns-clause-whole : goal.returns-clause-whole
returns-clause-whole c =
    let steps = c.in-None.ensures.steps in
    c.loop-entry.invariant.so_far
    ∙ gather_end (owner_view c.args.owner) c.args.fault c.loop-entry.number (gathered_by c.loop-entry.keys) c.loop-entry.entry-iterator.rest.items (omega arith)
