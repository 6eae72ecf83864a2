-- What two changes leave as it is, and nodes whose cells and index are as they were.
use Rattle.std.proofs.Common.{◌≡◌, ◌<◌, ◌≤◌, ◌^◌, length, vec_items, Vec, sym, ap, ◌∙◌}
use mathlib.Core.HLevel.{is_prop→PathP}
use native.Mathlib.Bridge.{le_prop}
use native.Mathlib.Nat.{ℕ_set}
use Rattle.std.specs.Vec.{SameBlock}
use Rattle.double_array.specs.declared.nodes.Nodes.{Nodes}
use Rattle.double_array.specs.Buffers.{SameBuffers}

same_block : {X Z : Type 0} (u v w : Vec X Z) → SameBlock u v → SameBlock v w → SameBlock u w
same_block u v w a b = (b.0 ∙ a.0, (b.1.0 ∙ a.1.0, b.1.1 ∙ a.1.1))

-- one change after another
pub kept_on : (a b c : Nodes) → SameBuffers a b → SameBuffers b c → SameBuffers a c
kept_on a b c f g = (same_block a.cells b.cells c.cells f.0 g.0, same_block a.index b.index c.index f.1 g.1, (g.2.0 ∙ f.2.0, g.2.1 ∙ f.2.1))

-- a Vec with the elements of another, at its place
same_vec : {X Z : Type 0} (v w : Vec X Z) → SameBlock v w → vec_items w ≡ vec_items v → w ≡ v
same_vec v w b e =
    let len : w.len ≡ v.len = w.ok.0 ∙ ap length e ∙ sym v.ok.0 in
    λ j. record {
      ptr = b.0 j;
      len = len j;
      cap = b.1.0 j;
      alloc = b.1.1 j;
      items = e j;
      ok = (is_prop→PathP (λ k. len k ≡ length (e k)) (λ k. ℕ_set _ _) w.ok.0 v.ok.0 j, is_prop→PathP (λ k. len k ≤ b.1.0 k) (λ k. le_prop) w.ok.1 v.ok.1 j);
      small = is_prop→PathP (λ k. b.1.0 k < 2 ^ 63) (λ k. le_prop) w.small v.small j;
    }

-- nodes whose cells and index are as they were, at their places
pub same_nodes : (a b : Nodes) → SameBuffers a b → vec_items b.cells ≡ vec_items a.cells → vec_items b.index ≡ vec_items a.index → b ≡ a
same_nodes a b k p q =
    let cells : b.cells ≡ a.cells = same_vec a.cells b.cells k.0 p in
    λ j. record {
      cells = cells j;
      index = same_vec a.index b.index k.1 q j;
      sized = is_prop→PathP (λ k. length (vec_items (cells k)) ≤ 1048576) (λ k. le_prop) b.sized a.sized j;
    }
