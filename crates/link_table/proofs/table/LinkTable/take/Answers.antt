use Rattle.std.proofs.Common.{ℕ, List, Some, sym, refl, ap, ◌∙◌, subst, arith}
use Rattle.cells.specs.Walking.{number_at}
use Rattle.double_array.specs.Outcomes.{Taken, Removed}
use Rattle.double_array.specs.Views.{cells_of, index_of}
use Rattle.link_table.specs.Codes.{path_of_triple}
use Rattle.link_table.proofs.Tables.{same_table, take_held, take_fields, take_done}
use Rattle.link_table.proofs.table.LinkTable.take.Goals as goal
use Rattle.link_table.proofs.table.LinkTable.take.Goals.{In-Some}

-- the triple's path is taken out of the array
module _ (c : In-Some) where
  removed : Removed (cells_of c.args.self.now.array) (path_of_triple c.args.triple) (cells_of c.remove.new.self)
  removed = subst (λ (p : List ℕ). Removed (cells_of c.args.self.now.array) p (cells_of c.remove.new.self)) c.write_code-path.ensures.path c.in-Some.ensures.paths

  did : Taken (cells_of c.args.self.now.array) (index_of c.args.self.now.array) (path_of_triple c.args.triple) (Some c.in-Some.number) (cells_of c.remove.new.self) (index_of c.remove.new.self)
  did = subst (λ (p : List ℕ). Taken (cells_of c.args.self.now.array) (index_of c.args.self.now.array) p (Some c.in-Some.number) (cells_of c.remove.new.self) (index_of c.remove.new.self)) c.write_code-path.ensures.path c.in-Some.ensures.cells

pub overflow_sub-self : goal.overflow_sub-self
overflow_sub-self c =
    let at = (goal.at.overflow_sub-self c).In-Some in
    omega (arith, c.args.self.now.counted, take_held c.args.self.now c.args.triple c.in-Some.number (did at).0 c.remove.new.self c.in-Some.ensures.sizes.1 (removed at))

pub invariant_of-self-2 : goal.invariant_of-self-2
invariant_of-self-2 c =
    let at = (goal.at.invariant_of-self-2 c).In-Some in
    take_fields c.args.self.now c.args.triple c.in-Some.number (did at).0 c.remove.new.self c.in-Some.ensures.sizes.1 (removed at)

pub returns-in_default : goal.returns-in_default
returns-in_default c =
    let s = c.args.self.now in
    let m = c.in_default.ensures in
    (ap (number_at (cells_of s.array)) (sym c.write_code-path.ensures.path) ∙ m.cells.0, refl, same_table _ s m.same refl refl)

pub returns : goal.returns
returns c =
    let at = (goal.at.returns c).In-Some in
    take_done c.args.self.now c.args.triple c.in-Some.number (did at).0 _ c.in-Some.ensures.sizes.1 (removed at) (did at).1
