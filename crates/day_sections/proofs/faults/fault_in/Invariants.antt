use Rattle.std.proofs.Common.{◌≡◌, drop}
use Rattle.day_sections.proofs.faults.fault_in.Given as goal
use Rattle.day_sections.specs.Faults.{fault_from, fault_of}

abbrev pub invariant-loop-i : goal.invariant-loop-i
invariant-loop-i l = fault_from l.sort l.before l.i (drop l.i l.lines) ≡ fault_of l.sort l.lines
