-- What the lines of a section hold.
use Rattle.std.specs.Prelude.{Some, None, Ok, Err, Option, Result}
use Rattle.bearings.specs.declared.bearing.Bearing.{Bearing}
use Rattle.bearings.specs.declared.pad.Pad.{Pad}
use Rattle.shelf.specs.declared.request.Request.{Request}
use Rattle.judge_lines.specs.declared.entry.Entry.{Entry}
use Rattle.judge_lines.specs.declared.entry.Entry.TheVariants as entry
use Rattle.judge_lines.specs.declared.fault.LineFault.{LineFault}
use Rattle.judge_lines.specs.declared.judgement.Item.TheVariants as item

-- a line that was read
abbrev pub Line : Type 0
Line = Result Entry LineFault

abbrev pub bearing_in : Line → Option Bearing
bearing_in (Ok (entry.Item (item.Bearing b))) = Some b
bearing_in (Ok (entry.Item (item.Pad p))) = None
bearing_in (Ok (entry.Opening opening)) = None
bearing_in (Ok (entry.Call call)) = None
bearing_in (Err fault) = None

abbrev pub pad_in : Line → Option Pad
pad_in (Ok (entry.Item (item.Bearing b))) = None
pad_in (Ok (entry.Item (item.Pad p))) = Some p
pad_in (Ok (entry.Opening opening)) = None
pad_in (Ok (entry.Call call)) = None
pad_in (Err fault) = None

abbrev pub request_in : Line → Option Request
request_in (Ok (entry.Item i)) = None
request_in (Ok (entry.Opening opening)) = None
request_in (Ok (entry.Call call)) = Some call
request_in (Err fault) = None
