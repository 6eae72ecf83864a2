-- Sound cells can be climbed from each leaf in the index, and that spells the path of its number.
use Rattle.std.proofs.Common.{◌≡◌, ℕ, suc, ◌+◌, ◌-◌, ◌<◌, List, [], ◌∷◌, length, get_or, Some, sym, ap, ◌∙◌, subst, ⊎_elim, arith}
use Rattle.std.proofs.lemmas.Bool.{cases_eq, and_from, and_parts, ltb-true, lt-ltb}
use Rattle.cells.specs.declared.Cell.{Cell}
use Rattle.cells.specs.Cells.{base_of, parent}
use Rattle.cells.specs.Trees.{Edge, Reach}
use Rattle.cells.specs.Invariant.{Sound}
use Rattle.cells.proofs.Trees.{Tree}
use Rattle.cells.proofs.Paths.{edge_up, reach_some, reach_used}
use Rattle.cells.proofs.Counts.{within}
use Rattle.cells.proofs.Climbs.{number_positive}
use Rattle.cells.proofs.Leaves.{leaf_used}
use Rattle.cells.proofs.Sounds.{tidy_of, reach_of}
use Rattle.cells.proofs.Starts.{indexing}
use Rattle.double_array.specs.Outcomes.{Upward}
use Rattle.double_array.specs.Spellings.{Pointed, Named}

module _ (cs : List Cell) (is : List ℕ) (sound : Sound cs is) where
  above : (t : ℕ) (p : List ℕ) → Tree cs → Reach cs p t → (t ≡ 1 → ⊥) → (0 < parent cs (parent cs t)) × (base_of cs (parent cs t) < t) × (t < base_of cs (parent cs t) + 258)
  above t [] tree way ne = absurd (ne way)
  above t (a ∷ p) tree way ne =
      let s : ℕ = way.0 in
      let edge : Edge cs s a t = way.2 in
      let up : parent cs t ≡ s = edge_up cs s a t edge in
      let used : 0 < parent cs s = reach_used cs tree p s way.1 in
      (subst (λ x. 0 < parent cs x) (sym up) used, omega (arith, edge.place, edge.some, ap (base_of cs) up), omega (arith, edge.place, edge.code, ap (base_of cs) up))

  pub upward_of : Upward cs
  upward_of t used ne =
      let w = reach_of cs is sound t used in
      let two : 1 < length cs = omega (arith, within cs t used, reach_some cs w.0 t w.1, ne) in
      above t w.0 (tidy_of cs is sound two).tree w.1 ne

  pub pointed_of : Pointed cs is
  pointed_of n some = leaf_used cs sound.blank (get_or is n 0) n (sound.entered n some)

  pub named_of : (u : ℕ) → Named cs is u
  named_of u = record {
    held = λ known.
        let h = and_parts _ _ known in
        let some : 0 < u = ltb-true 0 u h.0 in
        let same : suc (u - 1) ≡ u = omega arith in
        (indexing cs is (u - 1) sound).leaf (ltb-true 0 (get_or is (u - 1) 0) h.1) ∙ ap Some same;
    only = λ p e le.
        let some : 0 < u = ⊎_elim (λ z. absurd (number_positive cs p (e ∙ ap Some z))) (λ nz. (let k : 0 < u = omega arith in k)) (cases_eq u 0) in
        let same : u ≡ suc (u - 1) = omega arith in
        let h = (indexing cs is (u - 1) sound).path p (e ∙ ap Some same) (omega arith) in
        (and_from _ _ (lt-ltb 0 u some) (lt-ltb 0 (get_or is (u - 1) 0) h.0), h.1);
  }
