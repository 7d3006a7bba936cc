use Rattle.std.proofs.lemmas.Result.{IfOk-weaker}
use Rattle.std.proofs.Common.{string_bytes}
use Rattle.shelf_days.proofs.Sayings.{first_says, range_says}
use Rattle.shelf_days.proofs.shelves.range_text.Goals as goal

pub returns : goal.returns
returns c =
    let bearing = c.in-Some.bearing.now in
    IfOk-weaker c.calls_text.result _ _
    (λ text says. first_says c.args.number c.args.bearings.now bearing c.args.calls.now (string_bytes text) c.in-Some.ensures.value
    (range_says c.args.number bearing _ c.args.calls.now (string_bytes text) c.in_default-check.ensures.ok c.open-shelf.ensures.is says))
    c.calls_text.ensures
