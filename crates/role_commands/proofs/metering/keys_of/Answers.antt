use Rattle.std.proofs.Common.{Option, subst}
use Rattle.meter_apart.specs.declared.keys.MeterKeys.{MeterKeys}
use Rattle.meter_apart.specs.declared.part.Part.{Part}
use Rattle.meter_apart.specs.Keys.{MakesKeys}
use Rattle.meter_apart.specs.Parts.{MakesPart}
use Rattle.meter_files.specs.PartFiles.{view_of}
use Rattle.role_commands.proofs.KeyLemmas.{keys_made, part_made}
use Rattle.role_commands.proofs.metering.keys_of.Goals as goal

pub unreachable-requires : goal.unreachable-requires
unreachable-requires c =
    let file = view_of c.args.file in
    part_made file c.requires (subst (λ (o : Option Part). MakesPart file.home file.group file.meter o) c.in_default.is c.new.ensures)

pub unreachable-requires-in_default-new : goal.unreachable-requires-in_default-new
unreachable-requires-in_default-new c =
    let file = view_of c.args.file in
    keys_made file c.in-Some.part c.requires (subst (λ (o : Option Part). MakesPart file.home file.group file.meter o) c.in-Some.is c.new.ensures)
    (subst (λ (o : Option MeterKeys). MakesKeys c.in-Some.part file.own file.pairs o) c.in_default-new.is c.new-2.ensures)

pub returns : goal.returns
returns c =
    let file = view_of c.args.file in
    record {
      part = c.in-Some.part;
      part_is = subst (λ (o : Option Part). MakesPart file.home file.group file.meter o) c.in-Some.is c.new.ensures;
      keys_are = subst (λ (o : Option MeterKeys). MakesKeys c.in-Some.part file.own file.pairs o) c.in-Some-new.is c.new-2.ensures;
    }
