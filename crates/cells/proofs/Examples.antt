-- The examples, by computing.
use Rattle.std.proofs.Common.{refl}
use Rattle.cells.specs.Cells.{codes_below}
use Rattle.cells.specs.Placing.{moved_list}
use Rattle.cells.specs.Examples.{Examples}

pub examples : Examples
unfolding codes_below moved_list
examples = record {
  fits = refl;
  two_fit = refl;
  third_does_not = refl;
  six = refl;
  seven = refl;
  ten = refl;
  nine = refl;
  no_third = refl;
  out = refl;
  empty = refl;
  two = refl;
  held = refl;
  four = refl;
  five = refl;
  family = refl;
  emptied = refl;
  undone = refl;
  none = refl;
  root = refl;
  short = refl;
}
