use Rattle.cells.proofs.Climbs.{walks}
use Rattle.cells.proofs.Enters.{short}
use Rattle.cells.proofs.HeldPaths.{holding}
use Rattle.cells.proofs.InUse.{uses}
use Rattle.cells.proofs.Starts.{starting, unused, climbing, indexing}
use Rattle.cells.proofs.Tallies.{counting, beginning}
use Rattle.cells.proofs.reading_laws.Goals as goal

pub returns : goal.returns
returns c = record {
  starting = starting;
  unused = unused;
  walking = walks;
  climbing = climbing;
  indexing = indexing;
  holding = holding;
  counting = counting;
  beginning = beginning;
  using = uses;
  short = short;
}
