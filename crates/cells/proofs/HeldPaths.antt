-- Climbing from the leaves spells exactly the held paths.
use Rattle.std.proofs.Common.{◌≡◌, ℕ, zero, suc, ◌<◌, true, List, [], filter, pos, is_some, Some, ap, ◌∙◌, subst, arith}
use lib.Signed.{lt_z}
use Rattle.cells.specs.declared.Cell.{Cell}
use Rattle.cells.specs.Cells.{at, is_leaf, number, parent}
use Rattle.cells.specs.Walking.{onward, number_at, turned, path_to}
use Rattle.cells.specs.Counting.{used, held_paths}
use Rattle.members.specs.Lists.{In}
use Rattle.cells.specs.Invariant.{Sound}
use Rattle.cells.specs.Laws.{Holds}
use Rattle.cells.proofs.Basics.{some_is}
use Rattle.members.proofs.Members.{in_map, map_in}
use Rattle.members.proofs.Pigeons.{in_kept, from_kept}
use Rattle.cells.proofs.Paths.{reach_some}
use Rattle.cells.proofs.Counts.{within, in_used, used_in}
use Rattle.cells.proofs.Climbs.{turned_back, number_held, number_positive, path_is}
use Rattle.cells.proofs.Leaves.{leaf_used}
use Rattle.cells.proofs.Sounds.{tidy_of, leaf_is, used_path}

module _ (cs : List Cell) (is : List ℕ) (h : Sound cs is) where
  -- the path to a leaf is held
  leaf_held : (t : ℕ) → 0 < parent cs t → is_leaf cs t ≡ true → is_some (number_at cs (path_to cs t)) ≡ true
  leaf_held t some leaf =
      let n = leaf_is (at cs t).base leaf in
      ap is_some (ap (λ o. onward o (λ u. number (at cs u).base)) (used_path cs is h t some) ∙ ap number n.1)

  -- a held path is the path to its leaf
  held_by : (p : List ℕ) (u : ℕ) → number_at cs p ≡ Some u → In (held_paths cs) p
  held_by p zero e = absurd (number_positive cs p e)
  held_by p (suc n) e =
      let k = number_held cs p n e in
      let t = k.0 in
      let some : 0 < t = reach_some cs (turned p []) t k.1 in
      let taken : 0 < parent cs t = leaf_used cs h.blank t n k.2 in
      let tree = (tidy_of cs is h (omega (arith, within cs t taken))).tree in
      let there = in_kept (is_leaf cs) (used cs) t (ap (λ z. lt_z z (pos 0)) k.2) (in_used cs t some taken) in
      subst (In (held_paths cs)) (path_is cs tree (turned p []) t k.1 ∙ turned_back p) (in_map (path_to cs) (filter (is_leaf cs) (used cs)) t there)

  pub holding : Holds cs (held_paths cs)
  holding = record {
    sound = λ p i.
        let k = map_in (path_to cs) (filter (is_leaf cs) (used cs)) p i in
        let leaf = from_kept (is_leaf cs) (used cs) k.0 k.1 in
        ap (λ q. is_some (number_at cs q)) k.2 ∙ leaf_held k.0 (used_in cs k.0 leaf.1) leaf.0;
    whole = λ p e. let k = some_is (number_at cs p) e in held_by p k.0 k.1;
  }
