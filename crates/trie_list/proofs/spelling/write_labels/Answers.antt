use Rattle.std.proofs.Common.{◌≡◌, ℕ, ◌+◌, ◌-◌, ◌<◌, ◌≤◌, true, List, ◌∷◌, [], ◌++◌, length, get_or, set, take, drop, sym, refl, ap, ◌∙◌, arith, length-take-le}
use Rattle.std.proofs.lemmas.List.{take_all, take_more, take_more_set}
use Rattle.std.proofs.lemmas.Bool.{and_parts}
use Rattle.lexicon.specs.Rolls.{label_sized}
use Rattle.cells.proofs.Climbs.{code_high}
use Rattle.output.specs.Written.{written}
use Rattle.trie_list.specs.Paths.{ends_once, labels_on, word_path}
use Rattle.trie_list.proofs.PathsLemmas.{label_low, label_read, length_labels}
use Rattle.trie_list.proofs.spelling.write_labels.Goals as goal

-- a word's path ends once
ends : (p : List ℕ) → word_path p ≡ true → ends_once p ≡ true
ends p word = (and_parts (ends_once p) (label_sized (labels_on p)) word).0

-- one label more is written
one_more : (p places : List ℕ) (i : ℕ) → ends_once p ≡ true → i + 1 < length p → i < length places → take i places ≡ take i (labels_on p)
    → take (i + 1) (set places i (get_or p i 0 - 2)) ≡ take (i + 1) (labels_on p)
one_more p places i once low room same =
    take_more_set places i (get_or p i 0 - 2) room
    ∙ ap (λ z. z ++ (get_or p i 0 - 2) ∷ []) same
    ∙ ap (λ k. take i (labels_on p) ++ k ∷ []) (sym (label_read p i low))
    ∙ sym (take_more (labels_on p) i 0 (omega (arith, length_labels p once)))

-- the places with all labels, and what stands after them
all_written : (labels places out : List ℕ) (n i : ℕ) → n ≡ length labels → length places ≡ n → n ≤ i → take i places ≡ take i labels
    → places ++ drop (n - 0) out ≡ written out 0 labels
unfolding written
all_written labels places out n i long size done same =
    ap (λ z. z ++ drop (n - 0) out) (sym (take_all i places (omega arith)) ∙ same ∙ take_all i labels (omega arith))
    ∙ ap (λ k. labels ++ drop k out) (let z : n - 0 ≡ 0 + length labels = omega arith in z)

pub returns-then-out-size : goal.returns-then-out-size
returns-then-out-size c = (omega (arith, length_labels c.args.path.now (ends c.args.path.now c.requires.word), c.if-out-size.true), refl)

-- as many places are gone over as there are labels
places_long : (n : ℕ) (out : List ℕ) → n ≤ length out → length (take (n - 0) out) ≡ n
places_long n out room = ap (λ k. length (take k out)) (let z : n - 0 ≡ n = omega arith in z) ∙ length-take-le n out room

-- so each of them is that of a label
label_place : (p out : List ℕ) (i : ℕ) → length p - 1 ≤ length out → i < length (take (length p - 1 - 0) out) → i + 1 < length p
label_place p out i room within = omega (arith, within, places_long (length p - 1) out room)

pub overflow_sub-place : goal.overflow_sub-place
overflow_sub-place c =
    let p = c.args.path.now in
    label_low p c.loop-i.i (ends p c.requires.word) (label_place p c.args.out.now c.loop-i.i c.if-out-size.false c.loop-i-test.true)

pub overflow_cast-place : goal.overflow_cast-place
overflow_cast-place c =
    let p = c.args.path.now in
    omega (arith, code_high p c.loop-i.i c.requires.codes (omega (arith, label_place p c.args.out.now c.loop-i.i c.if-out-size.false c.loop-i-test.true)))

pub loop-i-preserved : goal.loop-i-preserved
loop-i-preserved c =
    let p = c.args.path.now in
    let i = c.loop-i.i in
    one_more p c.loop-i.place-items i (ends p c.requires.word) (label_place p c.args.out.now i c.if-out-size.false c.loop-i-test.true) (omega (arith, c.loop-i-test.true, c.loop-i.auto.place-items)) c.loop-i.invariant

pub returns : goal.returns
returns c =
    let p = c.args.path.now in
    let out = c.args.out.now in
    let n = length p - 1 in
    let long : n ≡ length (labels_on p) = omega (arith, length_labels p (ends p c.requires.word)) in
    let places = places_long n out c.if-out-size.false in (
      omega (arith, long, c.if-out-size.false),
      long,
      all_written (labels_on p) c.loop-i.place-items out n c.loop-i.i long (c.loop-i.auto.place-items ∙ places) (omega (arith, places, c.loop-i-test.false)) c.loop-i.invariant,
    )
