-- How much room one run of numbers after another leaves.
use Rattle.std.proofs.Common.{◌≡◌, ℕ, ◌+◌, ◌-◌, ◌<◌, leb, List, ◌++◌, length, Some, None, Option, sym, ap, ◌∙◌, arith, length-append}
use Rattle.std.proofs.lemmas.Bool.{cond-true, cond-false, cond_both, le-leb, lt-leb, leb-true, leb-false}
use Rattle.cells.specs.declared.Cell.{Cell}
use Rattle.cells.specs.Cells.{child}
use Rattle.cells.proofs.Basics.{no_some, some_same}
use Rattle.subtrie.specs.Below.{edge_numbers, room_after}
use Rattle.subtrie.proofs.Steps.{edge_some, edge_none}

-- ns leave k of n places
pub leaves : (n k : ℕ) (ns : List ℕ) → length ns + k ≡ n → Some k ≡ room_after n ns
leaves n k ns e =
    let same : k ≡ n - length ns = omega arith in
    ap Some same ∙ sym (cond-true (leb (length ns) n) (Some (n - length ns)) None (le-leb (length ns) n (omega arith)))

-- ns have no room in n places
pub too_many : (n : ℕ) (ns : List ℕ) → n < length ns → None ≡ room_after n ns
too_many n ns h = sym (cond-false (leb (length ns) n) (Some (n - length ns)) None (lt-leb (length ns) n h))

-- what it says where it answers
left_is : (n k : ℕ) (ns : List ℕ) → Some k ≡ room_after n ns → length ns + k ≡ n
left_is n k ns =
    cond_both (leb (length ns) n) (Some (n - length ns)) None (λ (o : Option ℕ). Some k ≡ o → length ns + k ≡ n)
    (λ e is. let few = leb-true (length ns) n e in let same : k ≡ n - length ns = some_same k (n - length ns) is in omega arith)
    (λ e is. absurd (no_some k (sym is)))

none_is : (n : ℕ) (ns : List ℕ) → None ≡ room_after n ns → n < length ns
none_is n ns =
    cond_both (leb (length ns) n) (Some (n - length ns)) None (λ (o : Option ℕ). None ≡ o → n < length ns)
    (λ e is. absurd (no_some (n - length ns) is))
    (λ e is. leb-false (length ns) n e)

-- one run after another
leaves_more : (n k : ℕ) (ns ms : List ℕ) → length ns + k ≡ n → room_after k ms ≡ room_after n (ns ++ ms)
leaves_more n k ns ms e =
    let long : length (ns ++ ms) ≡ length ns + length ms = length-append ns ms in
    cond_both (leb (length ms) k) (Some (k - length ms)) None (λ (o : Option ℕ). o ≡ room_after n (ns ++ ms))
    (λ b. let few = leb-true (length ms) k b in leaves n (k - length ms) (ns ++ ms) (omega arith))
    (λ b. let many = leb-false (length ms) k b in too_many n (ns ++ ms) (omega arith))

-- one edge after another
module _ (f : ℕ → List ℕ) (cs : List Cell) (s code : ℕ) (h : code < 258) (room : ℕ) where
  pub room_some : (t rest : ℕ) → Some t ≡ child cs s code → Some rest ≡ room_after room (f t) → room_after rest (edge_numbers f cs s (258 - (code + 1))) ≡ room_after room (edge_numbers f cs s (258 - code))
  room_some t rest e r =
      leaves_more room rest (f t) (edge_numbers f cs s (258 - (code + 1))) (left_is room rest (f t) r) ∙ ap (room_after room) (sym (edge_some f cs s code t h e))

  pub room_none : (rest : ℕ) → None ≡ child cs s code → rest ≡ room → room_after rest (edge_numbers f cs s (258 - (code + 1))) ≡ room_after room (edge_numbers f cs s (258 - code))
  room_none rest e r = ap (λ n. room_after n (edge_numbers f cs s (258 - (code + 1)))) r ∙ ap (room_after room) (sym (edge_none f cs s code h e))

  pub room_refused : (t : ℕ) → Some t ≡ child cs s code → None ≡ room_after room (f t) → None ≡ room_after room (edge_numbers f cs s (258 - code))
  room_refused t e r =
      let long = ap length (edge_some f cs s code t h e) ∙ length-append (f t) (edge_numbers f cs s (258 - (code + 1))) in
      too_many room (edge_numbers f cs s (258 - code)) (omega (arith, none_is room (f t) r, long))
