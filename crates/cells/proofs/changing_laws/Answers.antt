use Rattle.cells.proofs.Enters.{entering}
use Rattle.cells.proofs.Lowests.{lowest_holds}
use Rattle.cells.proofs.Moves.{relocating}
use Rattle.cells.proofs.TakesOut.{taking}
use Rattle.cells.proofs.Undoes.{moving, undoing, taking_back}
use Rattle.cells.proofs.changing_laws.Goals as goal

pub returns : goal.returns
returns c = record { searching = lowest_holds; relocating = relocating; entering = entering; moving = moving; undoing = undoing; taking_back = taking_back; taking = taking }
