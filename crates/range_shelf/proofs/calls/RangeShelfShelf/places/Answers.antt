use Rattle.std.proofs.Common.{ℕ, Ok, sym, refl, ap, ◌∙◌}
use Rattle.std.proofs.lemmas.List.{length-map}
use Rattle.bearings.specs.declared.bearing.Bearing.{Bearing}
use Rattle.range_shelf.proofs.Indexed.{range_length}
use Rattle.range_shelf.proofs.calls.RangeShelfShelf.places.Goals as goal
use Rattle.range_shelf.specs.Range.{hand_at, gone_at, range_stock}
use Rattle.shelf.specs.declared.answer.Granted.TheVariants.{Counted}
use Rattle.shelf.specs.declared.answer.Place.{Place}

pub returns : goal.returns
returns c =
    let s = c.args.self.now in
    let long = range_length s.bearing (hand_at s.counts) (gone_at s.counts) in
    let items = length-map (range_stock s).places (λ (p : Place Bearing). p.item) in
    record { right = ap (λ (n : ℕ). Ok (Counted s.number n)) (sym (items ∙ long)); change = refl }
