-- What the fields of a plain list say of its roll.
use Rattle.std.specs.Prelude.{◌≡◌, ℕ, ◌+◌, ◌-◌, ◌<◌, ◌≤◌, min, true, false, cond, not, ◌&&◌, List, [], ◌∷◌, ◌++◌, length, take, drop, is_some, Some, None, Ok, vec_items, vec_len, sum, Option, nat_le, nat_lt, slice_index, slice_index_or, slice_set, refl}
use Rattle.std.proofs.Common.{sym, ap, ◌∙◌, arith}
use Rattle.std.specs.Vec.{with_items}
use Rattle.std.proofs.lemmas.List.{length_push, take-take, length-take-le, get_or-take, take_more_set, with_items_is}
use Rattle.std.proofs.lemmas.List.Sums.{sum_by_push}
use Rattle.std.proofs.lemmas.Bool.{and_parts, not-true, ltb-true, leb-true, le-leb, cond-true}
use Rattle.output.specs.Written.{fits, written}
use Rattle.lexicon.specs.Rolls.{Lawful, label_sized, number_of}
use Rattle.lexicon.specs.Answers.{enter_answer, is_new, EnterLeaves}
use Rattle.lexicon.proofs.Numbers.{label_bounds}
use Rattle.lexicon.proofs.Entries.{new_answer, new_is, leaves_new}
use Rattle.plain_list.specs.Cuts.{cut}
use Rattle.plain_list.specs.Plain.{roll_of, bytes_in, room_of, Appended}
use Rattle.plain_list.specs.declared.list.PlainList.{PlainList}
use Rattle.plain_list.proofs.CutsLemmas.{length_cut, cut_at, bytes_cut, cut_write, next_inside}

-- the lengths of the words
abbrev pub counted_lengths : PlainList → List ℕ
counted_lengths s = take s.count (vec_items s.lengths)

pub length_counted : (s : PlainList) → length (counted_lengths s) ≡ s.count
length_counted s = length-take-le s.count (vec_items s.lengths) (omega (arith, s.within, s.lengths.ok.0))

pub length_roll : (s : PlainList) → length (roll_of s) ≡ s.count
length_roll s = length_cut (counted_lengths s) (vec_items s.bytes) ∙ length_counted s

pub words_inside : (s : PlainList) → sum (counted_lengths s) ≤ length (vec_items s.bytes)
words_inside s = omega (arith, s.ended, s.inside, s.bytes.ok.0)

pub bytes_roll : (s : PlainList) → bytes_in (roll_of s) ≡ s.used
bytes_roll s = bytes_cut (counted_lengths s) (vec_items s.bytes) (words_inside s) ∙ sym s.ended

pub roll_lawful : (s : PlainList) → Lawful (roll_of s)
roll_lawful s = record { few = omega (arith, s.few, length_roll s); sized = s.sized; apart = s.apart }

-- the lengths before an index are those of words
pub front_is : (s : PlainList) (i : ℕ) → i < s.count → take i (vec_items s.lengths) ≡ take i (counted_lengths s)
front_is s i h = sym (take-take i s.count (vec_items s.lengths) (omega arith))

-- the word at an index lies inside the bytes
pub word_inside : (s : PlainList) (i : ℕ) → i < s.count → sum (take i (counted_lengths s)) + slice_index (vec_items s.lengths) i ≤ length (vec_items s.bytes)
word_inside s i h =
    let within : i < length (counted_lengths s) = omega (arith, length_counted s) in
    omega (arith, next_inside (counted_lengths s) i within, words_inside s, get_or-take s.count (vec_items s.lengths) i 0 h)

-- and reads as the roll has it
pub word_reads : (s : PlainList) (i : ℕ) → i < s.count → slice_index_or (roll_of s) i [] ≡ take (slice_index (vec_items s.lengths) i) (drop (sum (take i (counted_lengths s))) (vec_items s.bytes))
word_reads s i h =
    cut_at (counted_lengths s) (vec_items s.bytes) i (omega (arith, length_counted s))
    ∙ ap (λ (n : ℕ). take n (drop (sum (take i (counted_lengths s))) (vec_items s.bytes))) (get_or-take s.count (vec_items s.lengths) i 0 h)

-- whether there is room, by how many words are counted and how many bytes are used
pub room_is : (s : PlainList) (w : List ℕ)
    → room_of s w ≡ (nat_lt s.count (min (vec_len s.lengths) 65535) && nat_le (length w) (min (vec_len s.bytes) 8388608 - s.used))
room_is s w =
    let words = min (vec_len s.lengths) 65535 in
    let bytes = min (vec_len s.bytes) 8388608 in
    ap (λ (n : ℕ). nat_lt n words && nat_le (length w) (bytes - bytes_in (roll_of s))) (length_roll s)
    ∙ ap (λ (u : ℕ). nat_lt s.count words && nat_le (length w) (bytes - u)) (bytes_roll s)

-- what is known of a new word
pub record New (s : PlainList) (w : List ℕ) : Type 0 where
  pub sized : label_sized w ≡ true
  pub absent : number_of (roll_of s) w ≡ None
  pub place : s.count < vec_len s.lengths
  pub few : s.count < 65535
  pub fits : s.used + length w ≤ vec_len s.bytes
  pub short : s.used + length w ≤ 8388608

none_from : (o : Option ℕ) → is_some o ≡ false → o ≡ None
none_from None e = refl
none_from (Some n) e = absurd (let z : ◌≡◌ {A = ℕ} 0 1 = cc in omega arith)

pub new_facts : (s : PlainList) (w : List ℕ) → is_new (roll_of s) (room_of s w) w ≡ true → New s w
new_facts s w e =
    let outer = and_parts (label_sized w) (not (is_some (number_of (roll_of s) w)) && room_of s w) e in
    let inner = and_parts (not (is_some (number_of (roll_of s) w))) (room_of s w) outer.1 in
    let words = min (vec_len s.lengths) 65535 in
    let bytes = min (vec_len s.bytes) 8388608 in
    let room = and_parts (nat_lt s.count words) (nat_le (length w) (bytes - s.used)) (sym (room_is s w) ∙ inner.1) in
    let left : s.count < words = ltb-true s.count words room.0 in
    let free : length w ≤ bytes - s.used = leb-true (length w) (bytes - s.used) room.1 in
    let some = label_bounds w outer.0 in
    record {
      sized = outer.0;
      absent = none_from (number_of (roll_of s) w) (not-true (is_some (number_of (roll_of s) w)) inner.0);
      place = omega arith;
      few = omega arith;
      fits = omega (arith, some.0);
      short = omega (arith, some.0);
    }

-- the arrays with a new word written: how the words and their sum follow
module _ (s : PlainList) (w : List ℕ) (new : New s w) where
  -- the array of lengths after the word
  pub more_counted : take (s.count + 1) (slice_set (vec_items s.lengths) s.count (length w)) ≡ counted_lengths s ++ length w ∷ []
  more_counted = take_more_set (vec_items s.lengths) s.count (length w) (omega (arith, new.place, s.lengths.ok.0))

  pub more_sum : s.used + length w ≡ sum (take (s.count + 1) (slice_set (vec_items s.lengths) s.count (length w)))
  more_sum = omega (arith, ap sum more_counted, sum_by_push (λ x. x) (counted_lengths s) (length w), s.ended)

  pub more_roll : cut (take (s.count + 1) (slice_set (vec_items s.lengths) s.count (length w))) (written (vec_items s.bytes) s.used w) ≡ roll_of s ++ w ∷ []
  more_roll =
      ap (λ (ns : List ℕ). cut ns (written (vec_items s.bytes) s.used w)) more_counted
      ∙ ap (λ (u : ℕ). cut (counted_lengths s ++ length w ∷ []) (written (vec_items s.bytes) u w)) s.ended
      ∙ cut_write (counted_lengths s) (vec_items s.bytes) w (omega (arith, s.ended, new.fits, s.bytes.ok.0))

  -- the bytes after the word is put into them, as the field holds them
  pub more_bytes : (last held : List ℕ) → length last ≡ s.bytes.len → held ≡ vec_items s.bytes → last ≡ cond (fits held s.used w) (written held s.used w) held
      → (with_items s.bytes last).items ≡ written (vec_items s.bytes) s.used w
  more_bytes last held long same put =
      let room : s.used + length w ≤ length held = omega (arith, new.fits, ap length same, s.bytes.ok.0) in
      let fit : fits held s.used w ≡ true = le-leb (s.used + length w) (length held) room in
      with_items_is s.bytes last long ∙ put ∙ cond-true (fits held s.used w) (written held s.used w) held fit ∙ ap (λ (z : List ℕ). written z s.used w) same

-- what entering a new word with room answers and leaves
pub entered : (s t : PlainList) (w : List ℕ) → label_sized w ≡ true → number_of (roll_of s) w ≡ None → room_of s w ≡ true
    → Appended s w t → roll_of t ≡ roll_of s ++ w ∷ []
    → (Ok t.count ≡ enter_answer (roll_of s) (room_of s w) w) × EnterLeaves roll_of Appended s w t (is_new (roll_of s) (room_of s w) w)
entered s t w sized absent free arrays grown =
    let count : t.count ≡ length (roll_of s) + 1 = sym (length_roll t) ∙ ap length grown ∙ length_push (roll_of s) w in (
      ap (λ n. Ok n) count ∙ sym (new_answer (roll_of s) (room_of s w) w sized absent free),
      leaves_new roll_of Appended s w t _ (new_is (roll_of s) (room_of s w) w sized absent free) arrays grown (roll_lawful t),
    )
