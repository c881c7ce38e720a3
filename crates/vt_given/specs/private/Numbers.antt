-- Numbers as values. Only the model of a note cites this.
use Rattle.vt_value.specs.declared.value.Value.{Value}
use Rattle.vt_value.specs.declared.value.Value.TheVariants.{Whole as WholeValue, Part as PartValue}
use Rattle.vt_given.specs.declared.notes.Number.{Number}
use Rattle.vt_given.specs.declared.notes.Number.TheVariants.{Whole, Part}

abbrev pub value_of : Number → Value
value_of (Whole n) = WholeValue n
value_of (Part f) = PartValue f
