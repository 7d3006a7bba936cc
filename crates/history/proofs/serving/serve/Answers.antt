use Rattle.std.proofs.Common.{◌+◌, [], ◌∷◌, ◌++◌, vec_items, ap, ◌∙◌, append_assoc, arith, length-append}
use Rattle.history.proofs.Runs.{goes_more, goes_all, guaranteed}
use Rattle.history.proofs.serving.serve.Goals as goal

pub loop-call-preserved : goal.loop-call-preserved
loop-call-preserved g c =
    let new = c.loop-call.invariant.1.0 in
    let items = vec_items c.reserve.new.self in (
      omega (arith, c.loop-call.invariant.0, c.push_reserved.ensures.len, c.push_reserved.ensures.capacity),
      (
        new ++ (c.answer.result ∷ []),
        c.push_reserved.ensures.items ∙ ap (λ xs. xs ++ (c.answer.result ∷ [])) c.loop-call.invariant.1.1 ∙ append_assoc items new (c.answer.result ∷ []),
        length-append new (c.answer.result ∷ []) ∙ ap (λ n. n + 1) c.loop-call.invariant.1.2,
        goes_more _ _ _ _ _ _ _ _ _ c.loop-call-test.true c.loop-call.invariant.1.2 c.loop-call.invariant.1.3 c.answer.ensures,
      ),
    )

pub returns-clause-guarantee : goal.returns-clause-guarantee
returns-clause-guarantee g c =
    let new = c.loop-call.invariant.1.0 in
    let goes = goes_all _ _ _ c.args.calls.now new _ c.loop-call-test.false c.loop-call.invariant.1.3 in (
      new,
      c.loop-call.invariant.1.1 ∙ ap (λ xs. xs ++ new) c.reserve.ensures.items,
      omega (arith, c.loop-call.invariant.1.2, c.loop-call-test.false, c.loop-call.auto.call-index-end),
      goes,
      guaranteed _ _ _ goes,
    )
