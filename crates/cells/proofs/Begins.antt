-- Beginnings of held paths.
use Rattle.std.proofs.Common.{◌≡◌, ℕ, List, [], ◌++◌}
use Rattle.cells.specs.declared.Cell.{Cell}
use Rattle.members.specs.Lists.{In, Apart}
use Rattle.cells.specs.Trees.{Held}

-- a held path begins with p; both have their last code first
abbrev pub HeldBelow : List Cell → List ℕ → Type 0
HeldBelow cs p = (q : List ℕ) × (n : ℕ) × Held cs (q ++ p) n

-- bs has each beginning of a held path once, and nothing else
pub record Beginnings (cs : List Cell) (bs : List (List ℕ)) : Type 0 where
  pub apart : Apart bs
  pub some : (p : List ℕ) → In bs p → p ≡ [] → ⊥
  pub sound : (p : List ℕ) → In bs p → HeldBelow cs p
  pub whole : (p : List ℕ) → (p ≡ [] → ⊥) → HeldBelow cs p → In bs p
