-- A book that refuses an item under a case lists no articles of it.
use Rattle.std.proofs.Common.{◌≡◌, Bool, List, Some, None, Option, refl}
use Rattle.std.specs.Result.{result_map_both}
use Rattle.rulebook.specs.Books.{answered}
use Rattle.rulebook.specs.declared.refusal.Refusal.{Refusal}
use Rattle.rulebook.specs.declared.verdict.Verdict.{Verdict}

pub listed : (refused : Option Refusal) (verdict : Verdict) (articles : List Bool) → answered refused articles ≡ result_map_both (λ _. articles) (λ why. why) (answered refused verdict)
listed None verdict articles = refl
listed (Some why) verdict articles = refl
