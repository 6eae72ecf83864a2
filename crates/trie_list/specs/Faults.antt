-- What a refused path means for a word.
use Rattle.double_array.specs.declared.faults.PathFault.{PathFault}
use Rattle.double_array.specs.declared.faults.PathFault.TheVariants.{Path, Number, Blocked, NoPlace as NotPlaced}
use Rattle.lexicon.specs.declared.ListFault.{ListFault}
use Rattle.lexicon.specs.declared.ListFault.TheVariants.{WordLength as NotSized, NoRoom as Full}

-- what a refused path means for a word
abbrev pub list_fault_of : PathFault → ListFault
list_fault_of Path = NotSized
list_fault_of Number = Full
list_fault_of Blocked = Full
list_fault_of NotPlaced = Full
