-- The text of a section that opens no shelf.
use Rattle.std.specs.Prelude.{ℕ, List, ◌++◌, codes, decimal}
use Rattle.judge_lines.specs.Texts.{line_fault_text}
use Rattle.day_sections.specs.declared.section.NoShelf.{NoShelf}
use Rattle.day_sections.specs.declared.section.SectionFault.{SectionFault}
use Rattle.day_sections.specs.declared.section.SectionFault.TheVariants.{Word, OutOfOrder}

abbrev pub section_fault_text : ℕ → SectionFault → List ℕ
section_fault_text line (Word fault) = codes "no shelf: line " ++ (decimal line ++ (codes ", " ++ line_fault_text fault))
section_fault_text line OutOfOrder = codes "no shelf: line " ++ (decimal line ++ codes " is out of order")

abbrev pub no_shelf_text : NoShelf → List ℕ
no_shelf_text fault = section_fault_text fault.line fault.what
