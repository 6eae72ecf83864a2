-- What a refused path means for a triple.
use Rattle.double_array.specs.declared.faults.PathFault.{PathFault}
use Rattle.double_array.specs.declared.faults.PathFault.TheVariants.{Path, Number, Blocked, NoPlace as NotPlaced}
use Rattle.link_table.specs.declared.faults.LinkFault.{LinkFault}
use Rattle.link_table.specs.declared.faults.LinkFault.TheVariants.{TriplePresent as IsPresent, NoPlace as NoCell, NumbersHeld as AllHeld}

-- what a refused path means for a triple
abbrev pub link_fault_of : PathFault → LinkFault
link_fault_of Path = NoCell
link_fault_of Number = AllHeld
link_fault_of Blocked = IsPresent
link_fault_of NotPlaced = NoCell
