-- The Section 14 book: what it means.
use Rattle.std.specs.Prelude.{ℕ, Bool, List, [], ◌∷◌, map, codes}
use Rattle.rulebook.specs.Books.{Rules}
use Rattle.rulebook.specs.Cases.{loads_within, rest_within}
use Rattle.rulebook.specs.declared.case.Case.{Case}
use Rattle.bearings.specs.Fractions.{Comparison, all_hold}
use Rattle.bearings.specs.Limits.{bearing_outside}
use Rattle.bearings.specs.Sizes.{bearing_height, plan_number}
use Rattle.bearings.specs.declared.bearing.Bearing.{Bearing}
use Rattle.buckling.specs.Article.{buckling}
use Rattle.section14.specs.Articles.{compression, shear, uplift, rotation, steel}

-- the comparisons of the articles 1 to 6
abbrev pub section14_comparisons : Bearing → Case → List (List Comparison)
section14_comparisons b c =
    compression b c
    ∷ shear b c
    ∷ uplift b c
    ∷ rotation b c
    ∷ (buckling b c ∷ [])
    ∷ steel b c
    ∷ []

-- their names
abbrev pub section14_names : List (List ℕ)
section14_names =
    codes "compression"
    ∷ codes "shear"
    ∷ codes "uplift"
    ∷ codes "rotation"
    ∷ codes "buckling"
    ∷ codes "steel"
    ∷ []

-- whether each article holds
unfoldable pub section14_articles : Bearing → Case → List Bool
section14_articles b c = map all_hold (section14_comparisons b c)

abbrev pub section14_rules : Rules Bearing
section14_rules = record {
  count = 6;
  outside = bearing_outside;
  loads = loads_within;
  rest = rest_within;
  articles = section14_articles;
  height = bearing_height;
  plan_number = λ b. plan_number b.plan;
}
