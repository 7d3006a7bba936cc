-- The worked cases, computed.
use Rattle.std.proofs.Common.{[], ◌∷◌, refl}
use Rattle.bearings.specs.Quantities.{area, shape_factor}
use Rattle.buckling.specs.Article.{buckling}
use Rattle.buckling.specs.Greatest.{greatest}
use Rattle.buckling.specs.Terms.{lesser_side, greater_side, deck_factor, X₀, Y, root_fits, root, X_millionths, X', Y_millionths, Y'}
use Rattle.pads.specs.Articles as pads
use Rattle.pads.specs.Book.{pad_articles}
use Rattle.rulebook.specs.declared.verdict.Verdict.TheVariants.{Passes, Fails}
use Rattle.section14.specs.Articles.{compression, shear, uplift, rotation, steel}
use Rattle.section14.specs.Axes.{axes}
use Rattle.section14.specs.Book.{section14_articles}
use Rattle.section14.specs.Coefficients.{coefficients}
use Rattle.worked_cases.specs.declared.answers.WorkedAnswers.{WorkedAnswers}
use Rattle.worked_cases.specs.Statement.{ThirteenCases, AnswersOf}

pub thirteen_cases : ThirteenCases
unfolding area shape_factor buckling greatest lesser_side greater_side deck_factor X₀ Y root_fits root X_millionths X' Y_millionths Y'
    compression shear uplift rotation steel axes section14_articles coefficients pads.compression pads.shear pads.uplift pads.stability pad_articles
thirteen_cases = (refl, (refl, refl))

abbrev printed : WorkedAnswers
printed = record {
  verdicts =
      Passes ∷ Fails 1 ∷ Fails 2 ∷ Fails 3 ∷ Fails 4 ∷ Fails 6 ∷ Fails 5 ∷ Passes ∷ Passes ∷ Fails 3 ∷ Passes ∷ Fails 3 ∷ [];
  terms = record { first = 122207; second = 41076 };
}

pub answers_so : AnswersOf printed
unfolding area shape_factor buckling greatest lesser_side greater_side deck_factor X₀ Y root_fits root X_millionths X' Y_millionths Y'
    compression shear uplift rotation steel axes section14_articles coefficients pads.compression pads.shear pads.uplift pads.stability pad_articles
answers_so = (refl, refl)
