-- What the calls with a slip answer.
use Rattle.std.specs.Prelude.{◌≡◌, Ok, Err, Result}
use Rattle.rulebook.specs.declared.refusal.Refusal.{Refusal}
use Rattle.shelf.specs.Answers.{Answer}
use Rattle.shelf.specs.declared.answer.Granted.TheVariants.{Done, Picked}
use Rattle.slips.specs.declared.slip.HandedBack.{HandedBack}
use Rattle.slips.specs.declared.slip.Slip.{Slip}

-- a pick's answer: the slip's numbers
abbrev pub picked : {I : Type 0} → Result Slip Refusal → Answer I
picked (Ok slip) = Ok (Picked slip.number slip.place)
picked (Err why) = Err why

-- the answer to the end of a slip
abbrev pub ended : {I T : Type 0} → Result T HandedBack → Answer I
ended (Ok done) = Ok Done
ended (Err back) = Err back.why

-- a slip that is handed back is the one that was handed in
abbrev pub BackAs : {T : Type 0} → Slip → Result T HandedBack → Type 0
BackAs slip (Ok done) = Unit {0}
BackAs slip (Err back) = back.slip ≡ slip
