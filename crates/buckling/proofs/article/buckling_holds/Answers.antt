use Rattle.std.proofs.Common.{ap}
use Rattle.bearings.proofs.Refusing.{form_kept}
use Rattle.buckling.proofs.Wholes.{compares}
use Rattle.buckling.proofs.article.buckling_holds.Goals as goal

pub returns : goal.returns
returns c =
    let a = c.args.admitted.now in
    simp (c.load.ensures, ap (λ t. t.first) c.terms-terms.ensures.is, ap (λ t. t.second) c.terms-terms.ensures.is)
    (compares a.item a.case a.form (form_kept a))
