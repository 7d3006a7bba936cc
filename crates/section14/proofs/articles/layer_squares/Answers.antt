use Rattle.std.proofs.Common.{refl, mul-le-mul, arith}
use Rattle.bearings.proofs.Refusing.{bearing_so}
use Rattle.section14.proofs.articles.layer_squares.Goals as goal

pub returns : goal.returns
returns c =
    let a = c.args.admitted.now in
    let so = (bearing_so a.item a.item_within).lamination_so in
    record { is = refl; high_bound = omega (arith, mul-le-mul so.layers.1 (mul-le-mul so.thickness.1 so.thickness.1)) }
