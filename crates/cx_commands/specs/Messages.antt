-- THE LINE that says why a command has no answer.
use Rattle.std.specs.Prelude.{ℕ, List, [], ◌∷◌, ◌++◌, codes, decimal}
use Rattle.cx_text.specs.declared.diagnostics.Diagnostic.{Diagnostic}
use Rattle.cx_text.specs.Rules.{text_of}
use Rattle.cx_data.specs.declared.faults.DataFault.{DataFault}
use Rattle.cx_data.specs.declared.faults.DataFault.TheVariants.{NotJson, Missing, BadFormat, WidthDiffers, BadShape, OutOfRange, Memory}
use Rattle.cx_meaning.specs.declared.sights.FaultKind.{FaultKind}
use Rattle.cx_meaning.specs.declared.sights.FaultKind.TheVariants as kinds
use Rattle.cx_vread.specs.declared.refusals.ReadRefusal.{ReadRefusal}
use Rattle.cx_vread.specs.declared.refusals.ReadRefusal.TheVariants as unread
use Rattle.cx_commands.specs.declared.refusals.Refusal.{Refusal}
use Rattle.cx_commands.specs.declared.refusals.Refusal.TheVariants as refusals
use Rattle.cx_commands.specs.declared.stops.Stop.{Stop}
use Rattle.cx_commands.specs.declared.stops.Stop.TheVariants as stops

-- a part behind a space; an empty one is left out with the space before it
abbrev pub part : List ℕ → List ℕ
part [] = []
part (b ∷ bytes) = 32 ∷ b ∷ bytes

abbrev pub number : ℕ → List ℕ
number n = part (decimal n)

-- of a break: refused LINE:COLUMN RULE NAME
abbrev pub break_line : Diagnostic → List ℕ
break_line told =
    codes "refused" ++ number told.place.line ++ codes ":" ++ decimal told.place.column
    ++ part (text_of told.rule) ++ part told.name

-- of a data file: data KIND NAME INDEX
abbrev pub data_line : DataFault → List ℕ
data_line NotJson = codes "data" ++ part (codes "not-json")
data_line (Missing name) = codes "data" ++ part (codes "missing") ++ part name
data_line (BadFormat name) = codes "data" ++ part (codes "bad-format") ++ part name
data_line (WidthDiffers name) = codes "data" ++ part (codes "width-differs") ++ part name
data_line (BadShape name) = codes "data" ++ part (codes "bad-shape") ++ part name
data_line (OutOfRange name index) = codes "data" ++ part (codes "out-of-range") ++ part name ++ number index
data_line Memory = codes "data"

-- of a Verilog text: verilog LINE:1 KIND
abbrev pub place_line : ℕ → List ℕ → List ℕ
place_line line kind = codes "verilog" ++ number line ++ codes ":1" ++ part kind

abbrev pub verilog_line : ReadRefusal → List ℕ
verilog_line (unread.Syntax line) = place_line line (codes "syntax")
verilog_line (unread.Name line) = place_line line (codes "name")
verilog_line (unread.Width line) = place_line line (codes "width")
verilog_line (unread.Limit line) = place_line line (codes "limit")
verilog_line unread.Memory = codes "verilog"

-- of a run: fault KIND PATH TURN
abbrev pub kind_text : FaultKind → List ℕ
kind_text kinds.Conflict = codes "conflict"
kind_text kinds.Undefined = codes "undefined"
kind_text kinds.Range = codes "range"

abbrev pub fault_line : FaultKind → List ℕ → ℕ → List ℕ
fault_line kind path turn = codes "fault" ++ part (kind_text kind) ++ part path ++ number turn

abbrev pub stop_line : Stop → List ℕ
stop_line (stops.Rule told) = break_line told
stop_line (stops.Verilog refused) = verilog_line refused
stop_line (stops.Json fault) = data_line fault
stop_line (stops.More budget) = codes "more" ++ number budget
stop_line (stops.Fault kind path turn) = fault_line kind path turn
stop_line (stops.Loop path) = codes "loop" ++ part path
stop_line stops.Memory = codes "memory"

-- without its line feed
abbrev pub text_line : Refusal → List ℕ
text_line (refusals.TooLong file seen) = codes "too-long" ++ part file.now ++ number seen
text_line (refusals.ReadFault file) = codes "read-fault" ++ part file.now
text_line (refusals.Stop stop) = stop_line stop

abbrev pub line_of : Refusal → List ℕ
line_of refusal = text_line refusal ++ 10 ∷ []
