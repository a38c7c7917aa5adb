use Rattle.std.proofs.Common.{◌≤◌, ◌*◌, arith}
use Rattle.std.proofs.Math.Nat.{mul-le-mul}
use Rattle.load_maker.proofs.SizeLemmas.{limits_of}
use Rattle.run_commands.proofs.making.make.Goals as goal

pub overflow_mul-size : goal.overflow_mul-size
overflow_mul-size g c =
    let limits = limits_of _ _ _ c.requires in
    let p : c.args.words.size.groups * c.args.words.size.meters ≤ 256 * 256 = mul-le-mul limits.few_groups limits.few_meters in
    omega (arith, p)

pub overflow_mul-size-2 : goal.overflow_mul-size-2
overflow_mul-size-2 g c =
    let limits = limits_of _ _ _ c.requires in
    let p = limits.readings in
    omega (arith, p)
