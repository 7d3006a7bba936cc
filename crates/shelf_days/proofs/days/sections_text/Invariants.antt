use Rattle.std.proofs.Common.{◌≡◌, ◌+◌, length, string_bytes}
use Rattle.std.specs.List.{sum_by}
use Rattle.day_sections.specs.Sections.{sections_of}
use Rattle.shelf_days.proofs.Sectioned.{Onward}
use Rattle.shelf_days.proofs.days.sections_text.Given as goal

abbrev pub invariant-loop-section : goal.invariant-loop-section
invariant-loop-section l = record {
  numbered : l.first + sum_by length (sections_of l.section-iterator.rest.now) ≡ 1 + length l.lines;
  onward : Onward l.first (sections_of l.section-iterator.rest.now) (sections_of l.lines) (string_bytes l.text);
}
