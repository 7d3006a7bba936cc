use Rattle.std.proofs.Common.{◌∙◌, arith}
use Rattle.bearings.proofs.Refusing.{bearing_so}
use Rattle.buckling.proofs.Wholes.{first_most, second_most, first_is, second_is}
use Rattle.buckling.proofs.article.terms.Goals as goal

pub returns : goal.returns
returns c =
    let a = c.args.admitted.now in
    let q = c.parts_of-parts.result in
    let is = c.parts_of-parts.ensures.is in
    let small = c.parts_of-parts.ensures.small in
    let r = c.greatest_root-root.result in
    let root = c.greatest_root-root.ensures in
    let first = c.div_ceil.ensures ∙ first_is a.item a.case (bearing_so a.item a.item_within) q is small r root.fits root.next root.low_bound in
    let second = second_is a.item a.case (bearing_so a.item a.item_within) q is small r root.fits root.next root.low_bound in
    record {
      is = λ i. record { first = first i; second = second i };
      first_high = omega (arith, c.div_ceil.ensures, first_most q small r root.low_bound root.high_bound);
      second_high = second_most q small r root.low_bound root.high_bound;
    }
