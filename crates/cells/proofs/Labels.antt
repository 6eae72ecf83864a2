-- The codes of labels.
use Rattle.std.proofs.Common.{◌≡◌, ℕ, suc, ◌+◌, ◌-◌, ◌<◌, ◌≤◌, true, ◌&&◌, leb, ltb, List, [], ◌∷◌, get_or, Some, None, Option, refl, arith}
use Rattle.std.proofs.lemmas.Bool.{cond_both, cond-true, and_parts, and_from, leb-true, le-leb, ltb-true, lt-ltb}
use Rattle.cells.specs.Cells.{is_code, all_codes, label_of, path_of_labels}
use Rattle.cells.proofs.Basics.{no_some, some_same}
use Rattle.cells.proofs.Climbs.{code_is}

-- a code and its label
pub label_is : (a b : ℕ) → label_of a ≡ Some b → (a ≡ b + 2) × (b < 256)
label_is a b =
    cond_both (leb 2 a && ltb a 258) (Some (a - 2)) None (λ (o : Option ℕ). o ≡ Some b → (a ≡ b + 2) × (b < 256))
    (λ h e.
    let k = and_parts (leb 2 a) (ltb a 258) h in
    let low = leb-true 2 a k.0 in
    let high = ltb-true a 258 k.1 in
    let same : a - 2 ≡ b = some_same (a - 2) b e in
    (omega arith, omega arith))
    (λ h e. absurd (no_some b e))

-- the label of a code that is a label's
pub label_at : (a : ℕ) → 2 ≤ a → a < 258 → label_of a ≡ Some (a - 2)
label_at a low high = cond-true (leb 2 a && ltb a 258) (Some (a - 2)) None (and_from (leb 2 a) (ltb a 258) (le-leb 2 a low) (lt-ltb a 258 high))

-- the path of bytes is one of codes
pub labels_codes : (labels : List ℕ) → ((k : ℕ) → get_or labels k 0 < 256) → all_codes (path_of_labels labels) ≡ true
labels_codes [] bytes = refl
labels_codes (b ∷ more) bytes =
    let low = bytes 0 in
    and_from (is_code (b + 2)) (all_codes (path_of_labels more)) (code_is (b + 2) (omega arith) (omega arith)) (labels_codes more (λ k. bytes (suc k)))
