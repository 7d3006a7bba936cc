-- The book of blocks: what it means.
use Rattle.std.specs.Prelude.{ℕ, ◌*◌, Bool, List, [], ◌∷◌, Option, nat_le}
use Rattle.rulebook.specs.Books.{Rules}
use Rattle.rulebook.specs.Tests.{first_failing}
use Rattle.rulebook.specs.Cases.{load, loads_within, rest_within}
use Rattle.rulebook.specs.declared.case.Case.{Case}
use Rattle.shelf_examples.specs.declared.blocks.Block.{Block}

-- field 1 is the height, at most 100, and field 2 the tag, at most 200
abbrev pub block_outside : Block → Option ℕ
block_outside b = first_failing (nat_le b.height 100 ∷ nat_le b.tag 200 ∷ [])

-- article 1: it bears 1,000 pounds for each unit of its height; article 2: the movement is at most its height
abbrev pub block_articles : Block → Case → List Bool
block_articles b c = nat_le (load c) (1000 * b.height) ∷ nat_le c.movement b.height ∷ []

abbrev pub block_rules : Rules Block
block_rules = record {
  count = 2;
  outside = block_outside;
  loads = loads_within;
  rest = rest_within;
  articles = block_articles;
  height = λ b. b.height;
  plan_number = λ b. b.tag;
}
