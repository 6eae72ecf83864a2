-- The numbers below a cell are those of the words that begin so.
use Rattle.std.proofs.Common.{◌≡◌, ℕ, ◌+◌, ◌<◌, ◌≤◌, true, false, cond, List, [], ◌∷◌, ◌++◌, length, get_or, IfOk, Some, None, Ok, Err, Option, Result, sym, refl, ap, ◌∙◌, inl, inr, append_assoc, arith}
use Rattle.std.specs.Option.{ok_or}
use Rattle.std.proofs.lemmas.List.{map-append}
use Rattle.std.proofs.lemmas.Bool.{cond-true, cond-false, le-leb, lt-leb}
use Rattle.lexicon.specs.declared.ListFault.{ListFault}
use Rattle.lexicon.specs.declared.ListFault.TheVariants.{OutputTooShort}
use Rattle.lexicon.specs.Rolls.{numbered, word_of}
use Rattle.lexicon.proofs.Numbers.{numbered_bounds, number_word}
use Rattle.cells.specs.Cells.{label_code, path_of_labels}
use Rattle.members.specs.Lists.{In}
use Rattle.cells.specs.Walking.{number_at}
use Rattle.members.proofs.Members.{in_at}
use Rattle.double_array.specs.Views.{cells_of, index_of}
use Rattle.output.specs.Written.{fits, written, Filled}
use Rattle.subtrie.specs.Order.{Before}
use Rattle.subtrie.specs.Laws.{NumbersBelow, Ordered}
use Rattle.trie_list.specs.Paths.{path_of_word}
use Rattle.trie_list.specs.Below.{below_of, WordsBelow}
use Rattle.trie_list.specs.Trie.{roll_of}
use Rattle.trie_list.specs.declared.list.TrieList.{TrieList}
use Rattle.trie_list.proofs.Lists.{length_roll, roll_lawful, walked}

-- the path of a word that begins so
path_begins : (b q : List ℕ) → path_of_word (b ++ q) ≡ path_of_labels b ++ path_of_word q
path_begins b q = ap (λ (z : List ℕ). z ++ 1 ∷ []) (map-append label_code b q) ∙ append_assoc (path_of_labels b) (path_of_labels q) (1 ∷ [])

heads : (a b : ℕ) (p q : List ℕ) → a ∷ p ≡ b ∷ q → (a ≡ b) × (p ≡ q)
heads a b p q e = (cc, cc)

-- a word whose path begins so begins so
word_begins : (b r w : List ℕ) → path_of_labels b ++ r ≡ path_of_word w → (q : List ℕ) × (w ≡ b ++ q)
word_begins [] r w e = (w, refl)
word_begins (c ∷ b) r [] e = absurd (omega (arith, (heads (c + 2) 1 (path_of_labels b ++ r) [] e).0))
word_begins (c ∷ b) r (d ∷ w) e =
    let parts = heads (c + 2) (d + 2) (path_of_labels b ++ r) (path_of_word w) e in
    let rest = word_begins b r w parts.1 in
    let same : d ≡ c = omega (arith, parts.0) in
    (rest.0, ap (λ (k : ℕ). k ∷ w) same ∙ ap (λ (z : List ℕ). c ∷ z) rest.1)

-- the order of paths is that of words
before_words : (v w : List ℕ) → Before (path_of_word v) (path_of_word w) → Before v w
before_words [] [] (inl h) = omega arith
before_words [] [] (inr h) = h.1
before_words [] (b ∷ w) h = tt
before_words (a ∷ v) [] (inl h) = omega arith
before_words (a ∷ v) [] (inr h) = omega (arith, h.0)
before_words (a ∷ v) (b ∷ w) (inl h) = inl (omega arith)
before_words (a ∷ v) (b ∷ w) (inr h) = inr (let z : a ≡ b = omega (arith, h.0) in z, before_words v w h.1)

-- the numbers that are written, in words of the roll
module _ (s : TrieList) (b : List ℕ) (m : NumbersBelow (cells_of s.array) (path_of_labels b) (below_of s b)) (o : Ordered (cells_of s.array) (index_of s.array) (below_of s b)) where
  begins : (u : ℕ) → In (below_of s b) u → (numbered (roll_of s) u ≡ true) × ((q : List ℕ) × (word_of (roll_of s) u ≡ b ++ q))
  begins u i =
      let held = m.held u i in
      let found = (walked s).only (path_of_labels b ++ held.0) u held.1 in
      (found.0, word_begins b held.0 (word_of (roll_of s) u) found.1)

  -- the path of a number's word has the number
  word_number : (u : ℕ) → numbered (roll_of s) u ≡ true → number_at (cells_of s.array) (path_of_word (word_of (roll_of s) u)) ≡ Some u
  word_number u some =
      let bounds = numbered_bounds (roll_of s) u some in
      (walked s).words (word_of (roll_of s) u) ∙ number_word (roll_of s) u (roll_lawful s) bounds.0 bounds.1

  all : (u : ℕ) (q : List ℕ) → numbered (roll_of s) u ≡ true → word_of (roll_of s) u ≡ b ++ q → In (below_of s b) u
  all u q some e = m.all (path_of_word q) u (ap (number_at (cells_of s.array)) (sym (path_begins b q) ∙ ap path_of_word (sym e)) ∙ word_number u some)

  some_at : (i : ℕ) → i < length (below_of s b) → numbered (roll_of s) (get_or (below_of s b) i 0) ≡ true
  some_at i h = (begins (get_or (below_of s b) i 0) (in_at (below_of s b) i 0 h)).0

  low_at : (i : ℕ) → i < length (below_of s b) → get_or (below_of s b) i 0 ≤ length (index_of s.array)
  low_at i h = omega (arith, (numbered_bounds (roll_of s) (get_or (below_of s b) i 0) (some_at i h)).1, length_roll s, s.within)

  rising : (i j : ℕ) → (i < j) × (j < length (below_of s b)) → Before (word_of (roll_of s) (get_or (below_of s b) i 0)) (word_of (roll_of s) (get_or (below_of s b) j 0))
  rising i j h =
      let low : i < length (below_of s b) = omega (arith, h.0, h.1) in
      let u = get_or (below_of s b) i 0 in
      let v = get_or (below_of s b) j 0 in
      before_words (word_of (roll_of s) u) (word_of (roll_of s) v)
      (o.order i j (path_of_word (word_of (roll_of s) u)) (path_of_word (word_of (roll_of s) v)) h (low_at i low, low_at j h.1) (word_number u (some_at i low), word_number v (some_at j h.1)))

  pub words_below : WordsBelow (roll_of s) b (below_of s b)
  words_below = record {
    begins = begins;
    all = all;
    rising = rising;
    once = λ i j h. o.once i j h (low_at i (omega (arith, h.0, h.1)));
  }

-- what the output and the answer are, as functions
pub record BelowTold (ns out : List ℕ) (o : Option ℕ) (after : List ℕ) : Type 0 where
  pub answer : ok_or o OutputTooShort ≡ cond (fits out 0 ns) (Ok (length ns)) (Err OutputTooShort)
  pub output : after ≡ cond (fits out 0 ns) (written out 0 ns) out
  pub within : IfOk {E = ListFault} (ok_or o OutputTooShort) (λ n. n ≤ length out)

pub told : (ns out : List ℕ) (o : Option ℕ) (after : List ℕ) → Filled ns out o after → BelowTold ns out o after
told ns out None after (short, same) =
    let misfit : fits out 0 ns ≡ false = lt-leb (0 + length ns) (length out) (omega arith) in
    record {
      answer = sym (cond-false (fits out 0 ns) (Ok (length ns)) (Err OutputTooShort) misfit);
      output = same ∙ sym (cond-false (fits out 0 ns) (written out 0 ns) out misfit);
      within = tt;
    }
told ns out (Some n) after (room, count, wrote) =
    let fit : fits out 0 ns ≡ true = le-leb (0 + length ns) (length out) (omega arith) in
    record {
      answer = ap (λ (k : ℕ). Ok k) count ∙ sym (cond-true (fits out 0 ns) (Ok (length ns)) (Err OutputTooShort) fit);
      output = wrote ∙ sym (cond-true (fits out 0 ns) (written out 0 ns) out fit);
      within = omega arith;
    }

pub made_always : {T E : Type 0} (r : Result T E) (P : Type 0) → P → IfOk r (λ _. P)
made_always (Ok x) P p = p
made_always (Err e) P p = tt
