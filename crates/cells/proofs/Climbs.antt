-- Walking and climbing follow the paths of the tree.
use Rattle.std.proofs.Common.{◌≡◌, ℕ, zero, suc, ◌-◌, ◌<◌, ◌≤◌, true, eqb, List, [], ◌∷◌, ◌++◌, length, get_or, ℤ, pos, negsuc, Some, None, sym, refl, ap, ◌∙◌, subst, append-nil, arith}
use Rattle.std.proofs.lemmas.Bool.{cond-true, cond-false, cond_both, and_parts, and_from, lt-ltb, ltb-true, eq-eqb, ne_eqb}
use Rattle.cells.specs.declared.Cell.{Cell}
use Rattle.cells.specs.Cells.{at, base_of, parent, number, is_code, all_codes}
use Rattle.cells.specs.Walking.{onward, walk, cell_at, number_at, turned, climb, path_to}
use Rattle.cells.specs.Trees.{Edge, Reach, Held}
use Rattle.cells.specs.Laws.{Walks}
use Rattle.cells.proofs.Trees.{Tree}
use Rattle.cells.proofs.Basics.{no_some}
use Rattle.cells.proofs.Paths.{edge_up, root_apart}
use Rattle.cells.proofs.Counts.{depth}
use Rattle.cells.proofs.Walks.{Codes, onward_some, begun, walk_reach, reach_walk}

-- turning round
pub turned_turned : (p q r : List ℕ) → turned (turned p q) r ≡ turned q (p ++ r)
turned_turned [] q r = refl
turned_turned (a ∷ p) q r = turned_turned p (a ∷ q) r

pub turned_back : (p : List ℕ) → turned (turned p []) [] ≡ p
turned_back p = turned_turned p [] [] ∙ append-nil p

pub turned_same : (p q : List ℕ) → turned p [] ≡ turned q [] → p ≡ q
turned_same p q e = sym (turned_back p) ∙ ap (λ l. turned l []) e ∙ turned_back q

-- codes
pub codes_from : (p : List ℕ) → all_codes p ≡ true → Codes p
codes_from [] e = tt
codes_from (a ∷ p) e =
    let h = and_parts _ _ e in
    let k = and_parts _ _ h.0 in
    ((ltb-true 0 a k.0, ltb-true a 258 k.1), codes_from p h.1)

pub code_is : (a : ℕ) → 0 < a → a < 258 → is_code a ≡ true
code_is a lo hi = and_from _ _ (lt-ltb 0 a lo) (lt-ltb a 258 hi)

-- each code of a path is below 258
pub code_high : (p : List ℕ) (k : ℕ) → all_codes p ≡ true → k < length p → get_or p k 0 < 258
code_high [] k e h = absurd (omega arith)
code_high (a ∷ p) zero e h = (codes_from (a ∷ p) e).0.1
code_high (a ∷ p) (suc k) e h = code_high p k (and_parts _ _ e).1 (omega arith)

pub reach_codes : (cs : List Cell) (p q : List ℕ) (t : ℕ) → Reach cs (turned p q) t → all_codes p ≡ true
reach_codes cs [] q t r = refl
reach_codes cs (a ∷ p) q t r =
    let k = begun cs p (a ∷ q) t r in
    and_from _ _ (code_is a k.1.2.some k.1.2.code) (reach_codes cs p (a ∷ q) t r)

-- the cell of a path
pub cell_reach : (cs : List Cell) (p : List ℕ) (t : ℕ) → cell_at cs p ≡ Some t → Reach cs (turned p []) t
cell_reach cs p t =
    cond_both (all_codes p) (walk cs 1 p) None (λ o. o ≡ Some t → Reach cs (turned p []) t)
    (λ c e. walk_reach cs p [] 1 t (codes_from p c) refl e) (λ c e. absurd (no_some t e))

pub reach_cell : (cs : List Cell) (p : List ℕ) (t : ℕ) → Reach cs (turned p []) t → cell_at cs p ≡ Some t
reach_cell cs p t r = cond-true (all_codes p) (walk cs 1 p) None (reach_codes cs p [] t r) ∙ reach_walk cs p [] 1 t refl r

-- the number of a leaf
pub number_is : (z : ℤ) (n : ℕ) → number z ≡ Some (suc n) → z ≡ negsuc n
number_is (pos k) n e = absurd (no_some (suc n) e)
number_is (negsuc k) n e = let same : k ≡ n = cc in ap negsuc same

number_some : (z : ℤ) → number z ≡ Some 0 → ⊥
number_some (pos k) e = no_some 0 e
number_some (negsuc k) e = let z : suc k ≡ 0 = cc in omega arith

pub number_held : (cs : List Cell) (p : List ℕ) (n : ℕ) → number_at cs p ≡ Some (suc n) → Held cs (turned p []) n
number_held cs p n e =
    let k = onward_some (cell_at cs p) (λ t. number (at cs t).base) (suc n) e in
    (k.0, cell_reach cs p k.0 k.1, number_is (at cs k.0).base n k.2)

pub held_number : (cs : List Cell) (p : List ℕ) (n : ℕ) → Held cs (turned p []) n → number_at cs p ≡ Some (suc n)
held_number cs p n h = ap (λ o. onward o (λ t. number (at cs t).base)) (reach_cell cs p h.0 h.1) ∙ ap number h.2

pub number_positive : (cs : List Cell) (p : List ℕ) → number_at cs p ≡ Some 0 → ⊥
number_positive cs p e = let k = onward_some (cell_at cs p) (λ t. number (at cs t).base) 0 e in number_some (at cs k.0).base k.2

pub walks : (cs : List Cell) (p : List ℕ) → Walks cs p
walks cs p = record {
  cell = λ t. (cell_reach cs p t, reach_cell cs p t);
  leaf = λ n. (number_held cs p n, held_number cs p n);
  some = number_positive cs p;
}

-- climbing
pub climb_is : (n : ℕ) (cs : List Cell) (p q : List ℕ) (t : ℕ) → length p ≤ n → Reach cs p t → climb n cs t q ≡ turned p q
climb_is zero cs [] q t h r = refl
climb_is (suc n) cs [] q t h r = cond-true (eqb t 1) q _ (eq-eqb t 1 r)
climb_is zero cs (a ∷ p) q t h r = absurd (omega arith)
climb_is (suc n) cs (a ∷ p) q t h r =
    let s : ℕ = r.0 in
    let par : parent cs t ≡ s = edge_up cs s a t r.2 in
    let code : t - base_of cs s ≡ a = omega (arith, r.2.place) in
    let ne : t ≡ 1 → ⊥ = λ e. root_apart cs s a (subst (Edge cs s a) e r.2) in
    cond-false (eqb t 1) q _ (ne_eqb t 1 ne)
    ∙ ap (λ x. climb n cs x ((t - base_of cs x) ∷ q)) par
    ∙ ap (λ x. climb n cs s (x ∷ q)) code
    ∙ climb_is n cs p (a ∷ q) s (omega arith) r.1

pub path_is : (cs : List Cell) → Tree cs → (p : List ℕ) (t : ℕ) → Reach cs p t → path_to cs t ≡ turned p []
path_is cs tree p t r = climb_is (length cs) cs p [] t (omega (arith, depth cs tree p t r)) r
