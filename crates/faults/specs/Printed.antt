-- How a fault is printed: its number, its layer, its text and its place, apart by blanks.
use Rattle.std.specs.Prelude.{ℕ, List, ◌++◌, codes}
use Rattle.std.specs.Fmt.{decimal}
use Rattle.faults.specs.declared.fault.Fault.{Fault}
use Rattle.faults.specs.Numbers.{number_of, layer_of}

abbrev pub fault_text : Fault → List ℕ
fault_text f = decimal (number_of f.kind) ++ codes " " ++ decimal (layer_of f.kind) ++ codes " " ++ decimal f.text ++ codes " " ++ decimal f.place
