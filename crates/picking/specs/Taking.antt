-- What a pick answers.
use Rattle.std.specs.Prelude.{Result}
use Rattle.rulebook.specs.declared.refusal.Refusal.{Refusal}
use Rattle.shelf.specs.Answers.{Answer, reply}
use Rattle.shelf.specs.declared.answer.Granted.TheVariants.{Picked}
use Rattle.picking.specs.declared.found.Taken.{Taken}

abbrev pub picked_at : {I : Type 0} → Result Taken Refusal → Answer I
picked_at = reply (λ taken. Picked taken.number taken.place)
