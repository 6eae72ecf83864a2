use Rattle.std.proofs.Common.{◌≡◌, ◌+◌, ◌-◌, ◌<◌, ◌++◌, ◌∷◌, [], false, ◌&&◌, List, ℕ, length, get_or, take, set, Some, Option, sym, ap, ◌∙◌, subst, arith, w32, to_z, of_z, rules}
use Rattle.std.proofs.lemmas.List.{length-set}
use Rattle.std.proofs.lemmas.Int.{to_z_pos, to_z-of_z}
use Rattle.std.proofs.lemmas.Bool.{eqb-true}
use Rattle.cells.specs.declared.Cell.{Cell}
use Rattle.cells.specs.Cells.{base_of, is_free, child_codes, some_code}
use Rattle.cells.specs.Placing.{Spot, lowest, relocated, index_relocated}
use Rattle.double_array.proofs.Codes.{codes_within}
use Rattle.double_array.proofs.Giving.{popped, full_test, none_test, place_far, new_within, child_within, child_written}
use Rattle.double_array.proofs.nodes.Nodes.give_child.Goals as goal
use Rattle.double_array.proofs.nodes.Nodes.give_child.Goals.{After-as_slice-2, else-not-is_empty-via-then-not-is_empty+else-is_free, else-not-is_empty-via-else-not-is_empty}

-- the children's codes are again what they were before the new code was pushed
family : (c : goal.After-as_slice-2) → c.as_slice-2.result.now ≡ child_codes c.args.self.now.cells.items c.args.s
family c =
    c.as_slice-2.ensures.value ∙ c.pop.ensures.rest ∙ ap (λ l. take (length l - 1) l) c.push.ensures.items ∙ popped c.child_codes-codes.result.items c.args.code
    ∙ c.child_codes-codes.ensures.codes

-- the base that was found for them and the new code
found : (c : goal.After-as_slice-2) → Some c.in_ok-new.new ≡ lowest c.args.self.now.cells.items (child_codes c.args.self.now.cells.items c.args.s ++ c.args.code ∷ [])
found c =
    c.in_ok-new.ensures ∙ ap (lowest c.args.self.now.cells.items) (c.as_slice.ensures.value ∙ c.push.ensures.items ∙ ap (λ l. l ++ c.args.code ∷ []) c.child_codes-codes.ensures.codes)

inside : (c : goal.After-as_slice-2) → c.in_ok-new.new + c.args.code < length c.args.self.now.cells.items
inside c = child_within c.args.self.now.cells.items c.args.self.now.index.items c.args.s c.args.code c.in_ok-new.new (found c)

pub move_family-requires : goal.move_family-requires
move_family-requires c =
    let cs = c.args.self.now.cells.items in
    let within : (l : List ℕ) → c.as_slice-2.result.now ≡ l → (b : ℕ) → ((k : ℕ) → k < length l → b + get_or l k 0 < length cs)
    → (k : ℕ) → k < length c.as_slice-2.result.now → b + get_or c.as_slice-2.result.now k 0 < length cs =
    λ l e b h. subst (λ x. (k : ℕ) → k < length x → b + get_or x k 0 < length cs) (sym e) h in
    record {
      within = c.requires.within;
      base = omega (arith, inside (goal.at.move_family-requires c).After-as_slice-2);
      from = within _ (family (goal.at.move_family-requires c).After-as_slice-2) (base_of cs c.args.s) (codes_within cs c.args.s 258);
      to = within _ (family (goal.at.move_family-requires c).After-as_slice-2) c.in_ok-new.new (new_within cs c.args.self.now.index.items c.args.s c.args.code c.in_ok-new.new (found (goal.at.move_family-requires c).After-as_slice-2));
    }

pub overflow_add-moved : goal.overflow_add-moved
overflow_add-moved c = let h = inside (goal.at.overflow_add-moved c).After-as_slice-2 in search rules

pub index_mut-requires-2 : goal.index_mut-requires-2
index_mut-requires-2 c = omega (arith, inside (goal.at.index_mut-requires-2 c).After-as_slice-2)

pub returns-clause-within : goal.returns-clause-within
returns-clause-within c =
    omega (
      arith,
      inside (goal.at.returns-clause-within c).After-as_slice-2,
      length-set c.move_family.new.self.cells.items (c.in_ok-new.new + c.args.code) (record { base = to_z w32 (of_z w32 c.args.base); check = to_z w32 c.args.s }),
    )

pub returns-clause-place : goal.returns-clause-place
returns-clause-place c =
    let cs = c.args.self.now.cells.items in
    let is = c.args.self.now.index.items in
    let s = c.args.s in
    let a = c.args.code in
    let b = c.in_ok-new.new in
    let z = c.args.base in
    let kids = c.child_codes-codes.ensures.codes in
    let test : (some_code (child_codes cs s) && is_free cs (base_of cs s + a)) ≡ false =
    elim c.else-not-is_empty.branch [
      | else-not-is_empty-via-then-not-is_empty+else-is_free w ↦ full_test cs is s a (base_of cs s + a) (ap (λ b. is_free cs (b + a)) (sym c.base.ensures.base) ∙ sym w.if-is_free.ensures)
      | else-not-is_empty-via-else-not-is_empty w ↦ none_test cs is s a (base_of cs s + a) (omega (arith, eqb-true (length c.child_codes-codes.result.items) 0 (sym w.if-not-is_empty.ensures), ap length kids))
    ] in
    let spot : List Cell → List ℕ → Option Spot = λ xs js. Some (record { cells = set xs (b + a) (record { base = to_z w32 (of_z w32 z); check = to_z w32 s }); index = js; spot = b + a }) in
    place_far cs is s a b (found (goal.at.returns-clause-place c).After-as_slice-2) z test
    ∙ child_written _ _ s (b + a) z (to_z w32 (of_z w32 z)) (to_z w32 s) (to_z-of_z w32 z c.ranges.base) (to_z_pos w32 s (omega arith))
    ∙ ap (λ l. spot (relocated cs s l b) (index_relocated cs is s l b)) (sym (family (goal.at.returns-clause-place c).After-as_slice-2))
    ∙ ap (λ xs. spot xs (index_relocated cs is s c.as_slice-2.result.now b)) (sym c.move_family.ensures.cells)
    ∙ ap (spot c.move_family.new.self.cells.items) (sym c.move_family.ensures.leaves)
