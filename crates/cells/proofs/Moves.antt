-- When a family moves, nothing held changes.
use Rattle.std.proofs.Common.{◌≡◌, ℕ, ◌<◌, true, List, [], pos, sym, ap, ◌∙◌, subst, ⊎_elim, arith}
use Rattle.std.proofs.lemmas.Bool.{cases_eq}
use Rattle.cells.specs.declared.Cell.{Cell}
use Rattle.cells.specs.Cells.{at, nat, parent, child_codes, some_code}
use Rattle.cells.specs.Placing.{relocated, index_relocated}
use Rattle.cells.specs.Walking.{turned}
use Rattle.cells.specs.Trees.{Edge, Room}
use Rattle.cells.specs.Invariant.{Sound}
use Rattle.cells.specs.Laws.{Relocates}
use Rattle.cells.proofs.Trees.{Tree, Lone, NotLeaf, Whole, Family}
use Rattle.cells.proofs.Basics.{no_codes}
use Rattle.cells.proofs.Paths.{reach_some}
use Rattle.cells.proofs.Counts.{within}
use Rattle.cells.proofs.Walks.{listing}
use Rattle.cells.proofs.Relocations.{FamilyMoved, moves_all, moves_well}
use Rattle.cells.proofs.Returns.{edge_at, base_at, held_ahead, held_again, whole_at}
use Rattle.cells.proofs.Leaves.{index_moved}
use Rattle.cells.proofs.Families.{first_of, some_of, lone_codes}
use Rattle.cells.proofs.Sounds.{Tidy, tidy_of, sound_of, reach_of}
use Rattle.cells.proofs.Numbers.{numbers_same}

module _ (cs : List Cell) (is : List ℕ) (s e : ℕ) (h : Tidy cs is) (used : 0 < parent cs s) (kids : some_code (child_codes cs s) ≡ true) (low_e : 0 < e) (room : Room cs (child_codes cs s) e) where
  abbrev codes : List ℕ
  codes = child_codes cs s

  abbrev es : List Cell
  es = relocated cs s codes e

  fam : Family cs s codes
  fam = listing cs s (reach_some cs (h.tree.reach s used).0 s (h.tree.reach s used).1)

  kid : (a : ℕ) × (u : ℕ) × Edge cs s a u
  kid = first_of cs s codes fam kids

  leafless : NotLeaf cs s
  leafless n b = omega (arith, kid.2.inner, ap nat b)

  m : FamilyMoved cs s e es
  m = moves_all cs s codes e h.tree used low_e fam room

  tree_e : Tree es
  tree_e = (moves_well cs s codes e h.tree used low_e fam room).tree

  one_used : 0 < parent cs 1
  one_used = omega (arith, ap nat h.tree.root)

  -- an edge from the root
  root_edge : (a u : ℕ) → Edge cs 1 a u → Edge es 1 a (m.to u)
  root_edge a u k = subst (λ x. Edge es x a (m.to u)) m.ren.root (edge_at cs es s e h.tree used low_e m 1 a u one_used k)

  bare_e : child_codes es 1 ≡ [] → (at es 1).base ≡ pos 1
  bare_e none =
      let lone : Lone es 1 = λ a u k. no_codes (child_codes es 1) none (some_of es 1 (child_codes es 1) (listing es 1 (omega arith)) a u k) in
      ⊎_elim
      (λ root. absurd (lone kid.0 (m.to kid.1) (root_edge kid.0 kid.1 (subst (λ x. Edge cs x kid.0 kid.1) root kid.2))))
      (λ ne.
      ap (λ x. (at es x).base) (sym m.ren.root) ∙ base_at cs es s e h.tree used low_e m 1 one_used (λ q. ne (sym q))
      ∙ h.bare (lone_codes cs 1 (child_codes cs 1) (listing cs 1 (omega arith)) (λ a u k. lone a (m.to u) (root_edge a u k))))
      (cases_eq s 1)

  whole_e : Whole es
  whole_e t used_t ne =
      whole_at cs es s e h.tree used low_e m leafless 1 one_used (λ u hu nu no. h.whole u hu nu) t used_t ne (λ q. ne (q ∙ m.ren.root))

  pub tidy_moved : Tidy es (index_relocated cs is s codes e)
  tidy_moved = record {
    tree = tree_e;
    whole = whole_e;
    bare = bare_e;
    indexed = index_moved cs s codes e h.tree used low_e fam room is leafless h.indexed;
  }

  pub relocates : Relocates cs is s e
  relocates = record {
    sound = sound_of es (index_relocated cs is s codes e) tidy_moved;
    same = λ p. numbers_same cs es p
        (λ n. held_ahead cs es s e h.tree used low_e m leafless (turned p []) n)
        (λ n. held_again cs es s e h.tree used low_e m (turned p []) n);
  }

pub relocating : (cs : List Cell) (is : List ℕ) (s e : ℕ) → Sound cs is → 0 < parent cs s → some_code (child_codes cs s) ≡ true → 0 < e → Room cs (child_codes cs s) e → Relocates cs is s e
relocating cs is s e h used kids low_e room =
    let w = reach_of cs is h s used in
    relocates cs is s e (tidy_of cs is h (omega (arith, within cs s used, reach_some cs w.0 s w.1))) used kids low_e room
