use Rattle.std.proofs.Common.{ℕ, ◌+◌, ◌<◌, length, get_or, sym, subst, arith, ◌∙◌}
use Rattle.cells.specs.Cells.{base_of, child_codes}
use Rattle.double_array.proofs.Codes.{codes_within}
use Rattle.double_array.proofs.nodes.Nodes.undo.Goals as goal

pub move_family-requires : goal.move_family-requires
move_family-requires c =
    let fs = c.free_up.new.self.cells.items in
    let s = c.args.grown.node in
    let b = c.args.grown.base in
    let got = c.as_slice.ensures.value ∙ c.child_codes-codes.ensures.codes in
    let room : (k : ℕ) → k < length (child_codes fs s) → b + get_or (child_codes fs s) k 0 < length c.args.self.now.cells.items =
    subst (λ xs. (k : ℕ) → k < length (child_codes xs s) → b + get_or (child_codes xs s) k 0 < length c.args.self.now.cells.items) (sym c.free_up.ensures.cells) c.requires.to in
    record {
      within = omega arith;
      base = c.requires.base;
      from = subst (λ l. (k : ℕ) → k < length l → base_of fs s + get_or l k 0 < length fs) (sym got) (codes_within fs s 258);
      to = subst (λ l. (k : ℕ) → k < length l → b + get_or l k 0 < length fs) (sym got) (λ k h. omega (arith, room k h));
    }
