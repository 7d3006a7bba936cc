use Rattle.list_shelf.proofs.list.ListShelfShelf.place.Goals as goal

pub returns : goal.returns
returns g c = c.place_in.ensures _
