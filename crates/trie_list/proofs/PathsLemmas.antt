-- Laws of the paths of words.
use Rattle.std.specs.Prelude.{◌≡◌, ℕ, zero, suc, ◌+◌, ◌-◌, ◌<◌, ◌≤◌, true, false, ◌&&◌, List, [], ◌∷◌, ◌++◌, length, ◌≢◌, nat_le, nat_lt, slice_index, refl}
use Rattle.std.proofs.Common.{sym, ap, ◌∙◌, arith}
use Rattle.std.proofs.lemmas.Bool.{and_parts, and_from, leb-true, le-leb, lt-ltb, eqb-true, both_ways}
use Rattle.lexicon.specs.Rolls.{label_sized}
use Rattle.lexicon.proofs.Numbers.{label_bounds}
use Rattle.cells.specs.Cells.{is_code, all_codes}
use Rattle.trie_list.specs.Paths.{path_of_word, labels_on, ends_once, word_path}

-- a path that begins with a code and is not at its end
pub labels_step : (a : ℕ) (w : List ℕ) → labels_on (a ∷ path_of_word w) ≡ (a - 2) ∷ labels_on (path_of_word w)
labels_step a [] = refl
labels_step a (b ∷ w) = refl

pub labels_path : (w : List ℕ) → labels_on (path_of_word w) ≡ w
labels_path [] = refl
labels_path (b ∷ w) =
    labels_step (b + 2) w
    ∙ ap (λ (k : ℕ). k ∷ labels_on (path_of_word w)) (let z : b + 2 - 2 ≡ b = omega arith in z)
    ∙ ap (λ (v : List ℕ). b ∷ v) (labels_path w)

ends_step : (a : ℕ) (w : List ℕ) → ends_once (a ∷ path_of_word w) ≡ (nat_le 2 a && ends_once (path_of_word w))
ends_step a [] = refl
ends_step a (b ∷ w) = refl

pub ends_path : (w : List ℕ) → ends_once (path_of_word w) ≡ true
ends_path [] = refl
ends_path (b ∷ w) = ends_step (b + 2) w ∙ and_from (nat_le 2 (b + 2)) (ends_once (path_of_word w)) (le-leb 2 (b + 2) (omega arith)) (ends_path w)

-- a path that ends once is that of its labels
pub path_labels : (p : List ℕ) → ends_once p ≡ true → path_of_word (labels_on p) ≡ p
path_labels [] e = absurd (both_ways false refl e)
path_labels (a ∷ []) e = ap (λ (k : ℕ). k ∷ []) (sym (eqb-true a 1 e))
path_labels (a ∷ b ∷ p) e =
    let parts = and_parts (nat_le 2 a) (ends_once (b ∷ p)) e in
    let low = leb-true 2 a parts.0 in
    ap (λ (k : ℕ). k ∷ path_of_word (labels_on (b ∷ p))) (let z : a - 2 + 2 ≡ a = omega arith in z) ∙ ap (λ (q : List ℕ). a ∷ q) (path_labels (b ∷ p) parts.1)

pub length_path : (w : List ℕ) → length (path_of_word w) ≡ length w + 1
length_path [] = refl
length_path (b ∷ w) = ap suc (length_path w) ∙ (let z : suc (length w + 1) ≡ suc (length w) + 1 = omega arith in z)

-- a word of the right length has a word's path
pub word_path_of : (w : List ℕ) → label_sized w ≡ true → word_path (path_of_word w) ≡ true
word_path_of w sized = and_from (ends_once (path_of_word w)) (label_sized (labels_on (path_of_word w))) (ends_path w) (ap label_sized (labels_path w) ∙ sized)

pub word_path_parts : (p : List ℕ) → word_path p ≡ true → (path_of_word (labels_on p) ≡ p) × (label_sized (labels_on p) ≡ true)
word_path_parts p e =
    let parts = and_parts (ends_once p) (label_sized (labels_on p)) e in
    (path_labels p parts.0, parts.1)

-- a path that ends once, and goes on after another, does not let that one end once
pub ends_alone : (p : List ℕ) (a : ℕ) (q : List ℕ) → ends_once p ≡ true → ends_once (p ++ a ∷ q) ≢ true
ends_alone [] a q e f = both_ways false refl e
ends_alone (c ∷ []) a q e f =
    let one = eqb-true c 1 e in
    let two = leb-true 2 c (and_parts (nat_le 2 c) (ends_once (a ∷ q)) f).0 in
    omega arith
ends_alone (c ∷ d ∷ p) a q e f =
    ends_alone (d ∷ p) a q (and_parts (nat_le 2 c) (ends_once (d ∷ p)) e).1 (and_parts (nat_le 2 c) (ends_once ((d ∷ p) ++ a ∷ q)) f).1

-- each code but the last is a label's
pub label_low : (p : List ℕ) (k : ℕ) → ends_once p ≡ true → k + 1 < length p → 2 ≤ slice_index p k
label_low [] k e h = absurd (omega arith)
label_low (a ∷ []) k e h = absurd (omega arith)
label_low (a ∷ b ∷ p) zero e h = leb-true 2 a (and_parts (nat_le 2 a) (ends_once (b ∷ p)) e).0
label_low (a ∷ b ∷ p) (suc k) e h = label_low (b ∷ p) k (and_parts (nat_le 2 a) (ends_once (b ∷ p)) e).1 (omega arith)

-- and is 2 more than the label
pub label_read : (p : List ℕ) (k : ℕ) → k + 1 < length p → slice_index (labels_on p) k ≡ slice_index p k - 2
label_read [] k h = absurd (omega arith)
label_read (a ∷ []) k h = absurd (omega arith)
label_read (a ∷ b ∷ p) zero h = refl
label_read (a ∷ b ∷ p) (suc k) h = label_read (b ∷ p) k (omega arith)

-- a path has one code more than labels
pub length_labels : (p : List ℕ) → ends_once p ≡ true → length (labels_on p) + 1 ≡ length p
length_labels p e = sym (length_path (labels_on p)) ∙ ap length (path_labels p e)

-- the path of a word has 2 to 129 codes
pub word_path_size : (p : List ℕ) → word_path p ≡ true → (2 ≤ length p) × (length p ≤ 129)
word_path_size p e =
    let parts = and_parts (ends_once p) (label_sized (labels_on p)) e in
    let sizes = label_bounds (labels_on p) parts.1 in
    (omega (arith, length_labels p parts.0, sizes.0), omega (arith, length_labels p parts.0, sizes.1))

-- the path of a word of bytes is one of codes
pub path_codes : (w : List ℕ) → ((k : ℕ) → slice_index w k < 256) → all_codes (path_of_word w) ≡ true
path_codes [] bytes = refl
path_codes (b ∷ w) bytes =
    let low = bytes 0 in
    and_from (is_code (b + 2)) (all_codes (path_of_word w)) (and_from (nat_lt 0 (b + 2)) (nat_lt (b + 2) 258) (lt-ltb 0 (b + 2) (omega arith)) (lt-ltb (b + 2) 258 (omega arith))) (path_codes w (λ k. bytes (suc k)))
