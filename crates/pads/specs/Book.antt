-- The pad book: what it means. The deck's mark and the shear mark play no part in its articles.
use Rattle.std.specs.Prelude.{ℕ, Bool, List, [], ◌∷◌, map, codes}
use Rattle.rulebook.specs.Books.{Rules}
use Rattle.rulebook.specs.Cases.{loads_within, rest_within}
use Rattle.rulebook.specs.declared.case.Case.{Case}
use Rattle.bearings.specs.Fractions.{Comparison, all_hold}
use Rattle.bearings.specs.Limits.{pad_outside, pad_plan}
use Rattle.bearings.specs.Sizes.{pad_height, plan_number}
use Rattle.bearings.specs.declared.pad.Pad.{Pad}
use Rattle.pads.specs.Articles.{compression, shear, uplift, stability}

-- the comparisons of the articles 1 to 4
abbrev pub pad_comparisons : Pad → Case → List (List Comparison)
pad_comparisons p c = compression p c ∷ shear p c ∷ uplift p c ∷ stability p ∷ []

-- their names
abbrev pub pad_names : List (List ℕ)
pad_names = codes "compression" ∷ codes "shear" ∷ codes "uplift" ∷ codes "stability" ∷ []

-- whether each article holds
unfoldable pub pad_articles : Pad → Case → List Bool
pad_articles p c = map all_hold (pad_comparisons p c)

abbrev pub pad_rules : Rules Pad
pad_rules = record {
  count = 4;
  outside = pad_outside;
  loads = loads_within;
  rest = rest_within;
  articles = pad_articles;
  height = pad_height;
  plan_number = λ p. plan_number (pad_plan p);
}
