use Rattle.std.proofs.Common.{◌≡◌, ℕ, ◌≤◌, All, map, List, Ok, Err, Result, IfOk, IfErr, vec_items, ap, sym, subst, rules}
use Rattle.std.proofs.lemmas.Iterator.{YieldsList-from_map, items_from_collect}
use Rattle.std.proofs.lemmas.Iterator.Consumers.{YieldsList-at, YieldsList-from_first}
use Rattle.std.proofs.lemmas.List.Elements.{All-map}
use borrow.Author.Tests.{tests}
use Rattle.judge_lines.proofs.Bounded.{entry_few}
use Rattle.judge_lines.specs.Entries.{entry_of}
use Rattle.judge_lines.specs.Lines.{lines_of}
use Rattle.day_sections.specs.Collecting.{Line}
use Rattle.day_sections.proofs.entries.read_lines.Goals as goal

-- no line is read as far as the word 11
abbrev Few : Line → Type 0
Few line = IfErr line (λ fault. fault.word ≤ 10)

all_few : (lines : List (List ℕ)) → All (λ line. IfErr (entry_of line) (λ fault. fault.word ≤ 10)) lines
all_few lines = search (rules, entry_few)

few_of : {V E : Type 0} (items : V → List Line) (lines : List (List ℕ)) (r : Result V E) → IfOk r (λ v. items v ≡ map entry_of lines) → IfOk r (λ v. All Few (items v))
few_of items lines (Ok v) e = subst (All Few) (sym e) (All-map Few entry_of lines (all_few lines))
few_of items lines (Err why) e = e

pub returns : goal.returns
returns c =
    let all : c.new.result.rest.now ≡ c.args.input.now = search rules in
    let is = items_from_collect _ c.collect.ensures.ran
    (YieldsList-from_map _ entry_of (YieldsList-at c.map.ensures.source (YieldsList-from_first (λ x. x.now) (λ lines. lines_of lines.rest.now) _ (ap lines_of all)))
    c.map.ensures.closure (λ x r q k. search (rules, tests))) in
    record { is = is; few = few_of vec_items _ c.collect.result is }
