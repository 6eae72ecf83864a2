-- A triple and its path.
use Rattle.std.proofs.Common.{◌≡◌, ℕ, zero, suc, ◌+◌, ◌-◌, ◌*◌, ◌/◌, ◌%◌, ◌<◌, ◌≤◌, true, ◌&&◌, eqb, leb, List, [], ◌∷◌, length, get_or, Some, None, Option, sym, refl, ap, ◌∙◌, subst, ⊎_elim, arith}
use Rattle.std.proofs.lemmas.Bool.{and_parts, and_from, leb-true, le-leb, eqb-true, cases_Bool, cond-false}
use Rattle.cells.specs.declared.Cell.{Cell}
use Rattle.cells.specs.Cells.{at, number, all_codes, label_of, path_of_labels}
use Rattle.cells.specs.Walking.{onward, walk, number_at}
use Rattle.cells.proofs.Basics.{no_some}
use Rattle.cells.proofs.Climbs.{code_high}
use Rattle.cells.proofs.Labels.{label_is, labels_codes}
use Rattle.link_table.specs.Codes.{code_of, path_of_triple, triple_of, all_labels, is_triple_path}
use Rattle.link_table.specs.declared.triple.Triple.{Triple}

label_low : (p : List ℕ) (k : ℕ) → all_labels p ≡ true → k < length p → 2 ≤ get_or p k 0
label_low [] k e h = absurd (omega arith)
label_low (a ∷ p) zero e h = leb-true 2 a (and_parts (leb 2 a) (all_labels p) e).0
label_low (a ∷ p) (suc k) e h = label_low p k (and_parts (leb 2 a) (all_labels p) e).1 (omega arith)

pub five_long : (p : List ℕ) → is_triple_path p ≡ true → length p ≡ 5
five_long p e = eqb-true (length p) 5 (and_parts (eqb (length p) 5) (all_labels p) e).0

-- each code of a triple's path is that of a label
pub code_bounds : (p : List ℕ) (k : ℕ) → is_triple_path p ≡ true → all_codes p ≡ true → k < 5 → (2 ≤ get_or p k 0) × (get_or p k 0 < 258)
code_bounds p k five codes h =
    let long = five_long p five in (
      label_low p k (and_parts (eqb (length p) 5) (all_labels p) five).1 (omega arith),
      code_high p k codes (omega arith),
    )

upper : (a b : ℕ) → 2 ≤ a → 2 ≤ b → b < 258 → ((a - 2) * 256 + (b - 2)) / 256 + 2 ≡ a
upper a b low some high = omega arith

lower : (a b : ℕ) → 2 ≤ a → 2 ≤ b → b < 258 → ((a - 2) * 256 + (b - 2)) % 256 + 2 ≡ b
lower a b low some high = omega arith

five_same : (a b r c d a' b' r' c' d' : ℕ) → a' ≡ a → b' ≡ b → r' ≡ r → c' ≡ c → d' ≡ d → ◌≡◌ {A = List ℕ} (a' ∷ b' ∷ r' ∷ c' ∷ d' ∷ []) (a ∷ b ∷ r ∷ c ∷ d ∷ [])
five_same a b r c d a' b' r' c' d' ea eb er ec ed = cc

-- a list of five by its elements
five_of : (p : List ℕ) → length p ≡ 5 → p ≡ get_or p 0 0 ∷ get_or p 1 0 ∷ get_or p 2 0 ∷ get_or p 3 0 ∷ get_or p 4 0 ∷ []
five_of [] long = absurd (omega arith)
five_of (a ∷ []) long = absurd (omega arith)
five_of (a ∷ b ∷ []) long = absurd (omega arith)
five_of (a ∷ b ∷ r ∷ []) long = absurd (omega arith)
five_of (a ∷ b ∷ r ∷ c ∷ []) long = absurd (omega arith)
five_of (a ∷ b ∷ r ∷ c ∷ d ∷ []) long = refl
five_of (a ∷ b ∷ r ∷ c ∷ d ∷ e ∷ p) long = absurd (omega arith)

-- the path of a triple's path's triple
pub path_back : (p : List ℕ) → is_triple_path p ≡ true → all_codes p ≡ true → path_of_triple (triple_of p) ≡ p
path_back p five codes =
    let ba = code_bounds p 0 five codes (omega arith) in
    let bb = code_bounds p 1 five codes (omega arith) in
    let br = code_bounds p 2 five codes (omega arith) in
    let bc = code_bounds p 3 five codes (omega arith) in
    let bd = code_bounds p 4 five codes (omega arith) in
    let er : get_or p 2 0 - 2 + 2 ≡ get_or p 2 0 = omega (arith, br.0) in
    five_same _ _ _ _ _ _ _ _ _ _ (upper _ _ ba.0 bb.0 bb.1) (lower _ _ ba.0 bb.0 bb.1) er (upper _ _ bc.0 bd.0 bd.1) (lower _ _ bc.0 bd.0 bd.1) ∙ sym (five_of p (five_long p five))

whole_number : (x : ℕ) → (x / 256 + 2 - 2) * 256 + (x % 256 + 2 - 2) ≡ x
whole_number x = omega arith

-- the triple of a triple's path
pub triple_back : (t : Triple) → triple_of (path_of_triple t) ≡ t
triple_back t =
    let er : t.relation + 2 - 2 ≡ t.relation = omega arith in
    λ j. record { x = whole_number t.x j; relation = er j; y = whole_number t.y j }

-- five labels within a byte
five_low : (a b r c d : ℕ) → a < 256 → b < 256 → r < 256 → c < 256 → d < 256 → (k : ℕ) → get_or (a ∷ b ∷ r ∷ c ∷ d ∷ []) k 0 < 256
five_low a b r c d ha hb hr hc hd zero = ha
five_low a b r c d ha hb hr hc hd (suc zero) = hb
five_low a b r c d ha hb hr hc hd (suc (suc zero)) = hr
five_low a b r c d ha hb hr hc hd (suc (suc (suc zero))) = hc
five_low a b r c d ha hb hr hc hd (suc (suc (suc (suc zero)))) = hd
five_low a b r c d ha hb hr hc hd (suc (suc (suc (suc (suc k))))) = omega arith

-- the path of a triple within its types is one of codes
pub triple_codes : (t : Triple) → t.x < 65536 → t.relation < 256 → t.y < 65536 → all_codes (path_of_triple t) ≡ true
triple_codes t hx hr hy = labels_codes (code_of t) (five_low _ _ _ _ _ (omega arith) (omega arith) hr (omega arith) (omega arith))

labels_low : (labels : List ℕ) → all_labels (path_of_labels labels) ≡ true
labels_low [] = refl
labels_low (b ∷ more) = and_from (leb 2 (b + 2)) (all_labels (path_of_labels more)) (le-leb 2 (b + 2) (omega arith)) (labels_low more)

pub triple_five : (t : Triple) → is_triple_path (path_of_triple t) ≡ true
triple_five t = labels_low (code_of t)

-- five codes of labels, and the triple of their path
pub record Reads (p : List ℕ) (t : Triple) : Type 0 where
  pub path : (is_triple_path p && all_codes p) ≡ true
  pub triple : triple_of p ≡ t

module _ (p : List ℕ) (long : length p ≡ 5) (a b r c d : ℕ)
    (ea : label_of (get_or p 0 0) ≡ Some a) (eb : label_of (get_or p 1 0) ≡ Some b) (er : label_of (get_or p 2 0) ≡ Some r)
    (ec : label_of (get_or p 3 0) ≡ Some c) (ed : label_of (get_or p 4 0) ≡ Some d) where
  abbrev five : List ℕ
  five = a ∷ b ∷ r ∷ c ∷ d ∷ []

  code_at : (k l : ℕ) → label_of (get_or p k 0) ≡ Some l → (get_or p k 0 ≡ l + 2) × (l < 256)
  code_at k l e = label_is (get_or p k 0) l e

  five_path : p ≡ path_of_labels five
  five_path =
      five_of p long
      ∙ five_same _ _ _ _ _ _ _ _ _ _ (code_at 0 a ea).0 (code_at 1 b eb).0 (code_at 2 r er).0 (code_at 3 c ec).0 (code_at 4 d ed).0

  pub reads : Reads p (record { x = a * 256 + b; relation = r; y = c * 256 + d })
  reads =
      let low = five_low a b r c d (code_at 0 a ea).1 (code_at 1 b eb).1 (code_at 2 r er).1 (code_at 3 c ec).1 (code_at 4 d ed).1 in
      let x : (a + 2 - 2) * 256 + (b + 2 - 2) ≡ a * 256 + b = omega arith in
      let k : r + 2 - 2 ≡ r = omega arith in
      let y : (c + 2 - 2) * 256 + (d + 2 - 2) ≡ c * 256 + d = omega arith in
      record {
        path = subst (λ q. (is_triple_path q && all_codes q) ≡ true) (sym five_path)
            (and_from (is_triple_path (path_of_labels five)) (all_codes (path_of_labels five)) (labels_low five) (labels_codes five low));
        triple = ap triple_of five_path ∙ (λ j. record { x = x j; relation = k j; y = y j });
      }

-- a path with a number is one of codes
pub number_codes : (cs : List Cell) (p : List ℕ) (u : ℕ) → number_at cs p ≡ Some u → all_codes p ≡ true
number_codes cs p u e =
    ⊎_elim
    (λ yes. yes)
    (λ none. absurd (no_some u (sym (ap (λ (o : Option ℕ). onward o (λ t. number (at cs t).base)) (cond-false (all_codes p) (walk cs 1 p) None none)) ∙ e)))
    (cases_Bool (all_codes p))
