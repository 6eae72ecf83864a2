use Rattle.std.proofs.Common.{◌≡◌, ◌≢◌, ℕ, ◌-◌, ◌<◌, true, List, length, take, drop, None, sym, refl, ap, ◌∙◌, subst, arith, length-drop}
use Rattle.std.proofs.lemmas.List.{take_rest}
use Rattle.std.proofs.lemmas.Bool.{and_parts, ltb-true}
use Rattle.cells.specs.declared.Cell.{Cell}
use Rattle.cells.specs.Cells.{nat, parent, all_codes}
use Rattle.double_array.specs.Entries.{follow, is_path, is_open}
use Rattle.double_array.proofs.Follows.{stop}
use Rattle.double_array.proofs.Refusals.{blocked, judged_by, codes_of, some_of, at_end, at_leaf, missing, entry_of, short_new, short_none}
use Rattle.double_array.proofs.nodes.Nodes.enter.Goals as goal
use Rattle.double_array.proofs.nodes.Nodes.enter.Goals.{After-follow-s, then-i-path-via-then-i-path, then-i-path-via-else-i-path+then-is_leaf}

-- where the path leaves the tree
module _ (c : goal.After-follow-s) where
  abbrev cs : List Cell
  cs = c.args.self.now.cells.items

  abbrev is : List ℕ
  is = c.args.self.now.index.items

  abbrev p : List ℕ
  p = c.args.path.now

  path : is_path p ≡ true
  path = sym c.if-not-is_path.ensures

  number : is_open is c.args.number ≡ true
  number = sym c.if-not-is_open.ensures

  abbrev rest : List ℕ
  rest = take (length p - c.follow-s.result.1) (drop c.follow-s.result.1 p)

  left : rest ≡ (follow cs 1 p).rest
  left = take_rest p c.follow-s.result.1 ∙ c.follow-s.ensures.rest

  some : c.follow-s.result.1 ≢ length p → 0 < length rest
  some more = omega (arith, ap length (take_rest p c.follow-s.result.1), length-drop c.follow-s.result.1 p, c.follow-s.ensures.short, more)

pub returns-then-len-lt2-clause-cells : goal.returns-then-len-lt2-clause-cells
returns-then-len-lt2-clause-cells c =
    let cs = c.args.self.now.cells.items in
    let is = c.args.self.now.index.items in
    let p = c.args.path.now in
    let u = c.args.number in
    let path = sym c.if-not-is_path.ensures in
    let number = sym c.if-not-is_open.ensures in
    (judged_by cs is p u path number (short_new cs is (omega arith) p (some_of cs is p u path number)) None (short_none cs is (omega arith) p (u - 1) (codes_of cs is p u path number)), refl, refl)

pub returns-then-i-path-clause-cells : goal.returns-then-i-path-clause-cells
returns-then-i-path-clause-cells c =
    let at = (goal.at.returns-then-i-path-clause-cells c).After-follow-s in
    let u = c.args.number in
    let i = c.follow-s.result.1 in
    let found = c.follow-s.ensures in
    elim c.then-i-path.branch [
      | then-i-path-via-then-i-path w ↦ (
        blocked (cs at) (is at) (p at) u (path at) (number at)
            (at_end (cs at) (is at) (p at) u (path at) (number at) c.follow-s.result.0 (drop i (p at)) found.node found.rest (omega (arith, length-drop i (p at), w.if-i-path.true))),
        refl,
        refl,
      )
      | then-i-path-via-else-i-path+then-is_leaf w ↦ (
        blocked (cs at) (is at) (p at) u (path at) (number at)
            (at_leaf (cs at) (is at) (p at) u (path at) (number at) c.follow-s.result.0 (drop i (p at)) found.node found.rest w.if-is_leaf.ensures),
        refl,
        refl,
      )
    ]

pub extend-requires : goal.extend-requires
extend-requires c =
    let at = (goal.at.extend-requires c).After-follow-s in
    let u = c.args.number in
    let node = c.follow-s.ensures.node in
    let more = some at (λ e. omega (arith, c.if-i-path.false)) in
    let inner = sym c.if-is_leaf.ensures in
    let root : parent (cs at) 1 ≡ 1 = ap nat (c.requires.rooted (omega arith)) in
    let bounds = (and_parts _ _ (number at)).0 in
    record {
      number = (ltb-true 0 u (and_parts _ _ bounds).0, ltb-true u 2147483648 (and_parts _ _ bounds).1);
      some = more;
      sound = c.requires;
      node = record {
        used = subst (λ t. 0 < parent (cs at) t) (sym node) ((stop (cs at) (p at) 1).used (omega arith) (omega arith)).1;
        inner = inner;
        path = subst (λ l. all_codes l ≡ true) (sym (left at)) ((stop (cs at) (p at) 1).codes (codes_of (cs at) (is at) (p at) u (path at) (number at)));
      };
      missing = missing (cs at) (is at) (p at) u (path at) (number at) c.follow-s.result.0 (rest at) node (left at) more inner;
      within = c.follow-s.ensures.within;
    }

pub returns-clause-cells : goal.returns-clause-cells
returns-clause-cells c =
    let at = (goal.at.returns-clause-cells c).After-follow-s in
    entry_of (cs at) (is at) (p at) c.args.number (path at) (number at) c.follow-s.result.0 (rest at) c.follow-s.ensures.node (left at) (some at (λ e. omega (arith, c.if-i-path.false)))
    (sym c.if-is_leaf.ensures) c.extend.result c.extend.new.self.cells.items c.extend.new.self.index.items c.extend.ensures.cells
