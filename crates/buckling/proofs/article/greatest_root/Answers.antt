use Rattle.std.proofs.Common.{◌<◌, div-lt_iff_lt-mul, le-div_iff_mul-le, arith}
use Rattle.buckling.proofs.Roots.{root_low, root_high}
use Rattle.buckling.proofs.article.greatest_root.Goals as goal

pub returns : goal.returns
returns c =
    let pos : 0 < c.args.greater = omega arith in
    let fits = (le-div_iff_mul-le pos).0 c.isqrt.ensures.square_le in
    let next = (div-lt_iff_lt-mul pos).0 c.isqrt.ensures.next_square_gt in
    record {
      fits = fits;
      next = next;
      low_bound = root_low c.args.lesser c.args.greater c.isqrt.result next;
      high_bound = root_high c.args.lesser c.args.greater c.isqrt.result pos c.requires.ordered fits;
    }
