use Rattle.std.proofs.lemmas.Result.{IfOk-weaker}
use Rattle.std.proofs.Common.{string_bytes}
use Rattle.shelf_days.proofs.Sayings.{list_says}
use Rattle.shelf_days.proofs.shelves.slots_text.Goals as goal

pub returns : goal.returns
returns g c =
    IfOk-weaker c.calls_text.result _ _
    (λ text says. list_says _ _ c.args.number c.args.slots.now _ c.args.calls.now (string_bytes text) c.in_default.ensures.ok c.open-shelf.ensures.is says)
    c.calls_text.ensures
