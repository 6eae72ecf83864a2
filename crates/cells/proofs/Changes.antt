-- What a change of the cells does to the tree.
use Rattle.std.proofs.Common.{◌≡◌, ℕ, ◌+◌, ◌<◌, ◌⊎◌, List, length, ℤ, pos, negsuc}
use Rattle.cells.specs.declared.Cell.{Cell}
use Rattle.cells.specs.Cells.{free_cell, at, parent}
use Rattle.cells.specs.Trees.{Edge, Reach, Held}
use Rattle.cells.proofs.Trees.{Tree, WholeBut}

-- the used cells of cs stand in ds at the places f, each with its own base, and nothing else does
pub record Renames (cs ds : List Cell) (f : ℕ → ℕ) : Type 0 where
  pub long : length ds ≡ length cs
  pub root : f 1 ≡ 1
  pub some : (u : ℕ) → 0 < u → 0 < f u
  pub apart : (u v : ℕ) → 0 < parent cs u → 0 < parent cs v → f u ≡ f v → u ≡ v
  pub there : (u : ℕ) → 0 < parent cs u → at ds (f u) ≡ record { base = (at cs u).base; check = pos (f (parent cs u)) }
  pub back : (j : ℕ) → 0 < parent ds j → (u : ℕ) × (0 < parent cs u) × (f u ≡ j)
  pub blanks : (j : ℕ) → parent ds j ≡ 0 → at ds j ≡ free_cell

-- es is ds, but for the base of s, which is z
pub record Rebased (ds es : List Cell) (s : ℕ) (z : ℤ) : Type 0 where
  pub long : length es ≡ length ds
  pub here : at es s ≡ record { base = z; check = (at ds s).check }
  pub else : (j : ℕ) → (j ≡ s → ⊥) → at es j ≡ at ds j

-- f moves the children of s to the base b, and nothing else
pub record Shifts (cs : List Cell) (s b : ℕ) (f : ℕ → ℕ) : Type 0 where
  pub child : (a u : ℕ) → Edge cs s a u → f u ≡ b + a
  pub other : (u : ℕ) → 0 < parent cs u → (parent cs u ≡ s → u ≡ 1) → f u ≡ u

-- the family of s was moved to the base b: each path leads to the same cell as before, at its new place
pub record Moved (cs es : List Cell) (s b : ℕ) (f : ℕ → ℕ) : Type 0 where
  pub tree : Tree es
  pub ahead : (p : List ℕ) (t : ℕ) → Reach cs p t → Reach es p (f t)
  pub again : (p : List ℕ) (j : ℕ) → Reach es p j → (t : ℕ) × Reach cs p t × (f t ≡ j)
  pub bases : (t : ℕ) → 0 < parent cs t → (t ≡ s → ⊥) → (at es (f t)).base ≡ (at cs t).base

-- one path more, p, which leads to t
pub record Grown (cs es : List Cell) (p : List ℕ) (t : ℕ) : Type 0 where
  pub tree : Tree es
  pub new : Reach es p t
  pub ahead : (q : List ℕ) (u : ℕ) → Reach cs q u → Reach es q u
  pub again : (q : List ℕ) (u : ℕ) → Reach es q u → Reach cs q u ⊎ ((q ≡ p) × (u ≡ t))

-- no path leads to t any more
pub record Shrunk (cs es : List Cell) (t : ℕ) : Type 0 where
  pub tree : Tree es
  pub ahead : (q : List ℕ) (u : ℕ) → Reach cs q u → (u ≡ t → ⊥) → Reach es q u
  pub again : (q : List ℕ) (u : ℕ) → Reach es q u → Reach cs q u × (u ≡ t → ⊥)

-- the same paths
pub record Same (cs es : List Cell) : Type 0 where
  pub tree : Tree es
  pub ahead : (q : List ℕ) (u : ℕ) → Reach cs q u → Reach es q u
  pub again : (q : List ℕ) (u : ℕ) → Reach es q u → Reach cs q u

-- the node s has got one child more: the path p leads to it, it stands at t and has the base z; each other node u stands at f u
pub record Placed (cs xs : List Cell) (s : ℕ) (p : List ℕ) (t : ℕ) (z : ℤ) (f : ℕ → ℕ) : Type 0 where
  pub tree : Tree xs
  pub new : Reach xs p t
  pub base : (at xs t).base ≡ z
  pub ahead : (q : List ℕ) (u : ℕ) → Reach cs q u → Reach xs q (f u)
  pub again : (q : List ℕ) (j : ℕ) → Reach xs q j → ((u : ℕ) × Reach cs q u × (f u ≡ j)) ⊎ ((q ≡ p) × (j ≡ t))
  pub held : (q : List ℕ) (n : ℕ) → Held cs q n → Held xs q n
  pub held_again : (q : List ℕ) (n : ℕ) → Held xs q n → Held cs q n ⊎ ((q ≡ p) × (z ≡ negsuc n))
  -- where s alone was open, the new node alone is open
  pub whole : WholeBut cs s → WholeBut xs t

-- the node at t, to which the path p led, is free
pub record Freed (cs xs : List Cell) (p : List ℕ) (t : ℕ) : Type 0 where
  pub tree : Tree xs
  pub ahead : (q : List ℕ) (u : ℕ) → Reach cs q u → (q ≡ p → ⊥) → Reach xs q u
  pub again : (q : List ℕ) (u : ℕ) → Reach xs q u → Reach cs q u × (q ≡ p → ⊥)
  pub held : (q : List ℕ) (n : ℕ) → Held cs q n → (q ≡ p → ⊥) → Held xs q n
  pub held_again : (q : List ℕ) (n : ℕ) → Held xs q n → Held cs q n × (q ≡ p → ⊥)
  -- where it alone was open, its parent alone is open
  pub whole : WholeBut cs t → WholeBut xs (parent cs t)
