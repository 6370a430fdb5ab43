-- The number of each refusal of an edit.
use Rattle.std.specs.Prelude.{ℕ}
use Rattle.unscaled.specs.Faults.{number as source_number}
use Rattle.drawing.specs.declared.faults.EditFault.{EditFault}
use Rattle.drawing.specs.declared.faults.EditFault.TheVariants.{NoContour, NoPoint, NoPoints, TooManyPoints, OutOfRange, SecondContour, TooManyContours, Source}

abbrev pub number : EditFault → ℕ
number NoContour = 10
number NoPoint = 11
number NoPoints = 12
number TooManyPoints = 13
number OutOfRange = 14
number SecondContour = 15
number TooManyContours = 15
number (Source f) = source_number f.reason
