-- Steps of reading a number, and that what is written is read back.
use Rattle.std.proofs.Common.{◌≡◌, ℕ, zero, suc, ◌+◌, ◌-◌, ◌*◌, ◌^◌, ◌<◌, ◌≤◌, Bool, true, false, not, ◌&&◌, ◌||◌, eqb, leb, List, [], ◌∷◌, length, get_or, drop, Some, None, decimal, sym, refl, ap, ◌∙◌, ⊎_elim, arith, rules}
use Rattle.std.specs.Char.{is_ascii_digit}
use Rattle.std.specs.Str.{all_ascii_digits}
use Rattle.std.proofs.lemmas.List.{at_drop_more, at_drop_all}
use Rattle.std.proofs.lemmas.Bool.{eq-eqb, ne_eqb, cond-true, cond-false, le-leb, lt-leb, leb-true, and_from, and_left, and_right, and_parts, or_left, or_right, or_from, or_cases, not_from_true, not_from_false, not-true, eqb-false, cases_Bool}
use Rattle.std.proofs.lemmas.Str.Parse.{IsNumeralModel, numerals_by_fold}
use Rattle.std.proofs.lemmas.Fmt.{digits_decimal, digits_value-decimal, decimal-digits_value, decimal_nonempty, decimal_digit, first_decimal}
use Rattle.command.specs.Numbers.{read_on, plain, is_number, number_read, ReadsBack}

-- the digits and the number that they write, in the words of the library
pub own : IsNumeralModel (λ ds. all_ascii_digits ds ≡ true) (read_on 0)
unfolding read_on
own = numerals_by_fold _ (search rules) read_on (search rules)

-- reading on never makes the number less
read_ge : (n : ℕ) (s : List ℕ) → n ≤ read_on n s
unfolding read_on
read_ge n [] = omega arith
read_ge n (b ∷ bs) = let more : 10 * n + (b - 48) ≤ read_on (10 * n + (b - 48)) bs = read_ge (10 * n + (b - 48)) bs in omega arith

-- a text that is no number since it is not plain or too large
module _ (limit : ℕ) (s : List ℕ) where
  pub none_unplain : plain s ≡ false → number_read limit s ≡ None
  none_unplain e = cond-false (is_number limit s) _ _ (and_left _ _ e)

  pub none_over : limit < read_on 0 s → number_read limit s ≡ None
  none_over over = cond-false (is_number limit s) _ _ (and_right (plain s) _ (and_right (all_ascii_digits s) _ (lt-leb (read_on 0 s) limit over)))

  pub some_number : plain s ≡ true → all_ascii_digits s ≡ true → read_on 0 s ≤ limit → number_read limit s ≡ Some (read_on 0 s)
  some_number clear digits within = cond-true (is_number limit s) _ _ (and_from _ _ clear (and_from _ _ digits (le-leb (read_on 0 s) limit within)))

pub plain_long : (s : List ℕ) → 2 ≤ length s → get_or s 0 0 ≡ 48 → plain s ≡ false
plain_long s long zero_first =
    and_right (leb 1 (length s)) _ (or_from _ _ (lt-leb (length s) 1 (omega arith)) (not_from_true (eqb (get_or s 0 0) 48) (eq-eqb (get_or s 0 0) 48 zero_first)))

pub plain_one : (s : List ℕ) → length s ≡ 1 → plain s ≡ true
plain_one s one = and_from _ _ (le-leb 1 (length s) (omega arith)) (or_left (leb (length s) 1) _ (le-leb (length s) 1 (omega arith)))

pub plain_first : (s : List ℕ) → 1 ≤ length s → (get_or s 0 0 ≡ 48 → ⊥) → plain s ≡ true
plain_first s some first =
    and_from _ _ (le-leb 1 (length s) some) (or_right (leb (length s) 1) _ (not_from_false (eqb (get_or s 0 0) 48) (ne_eqb (get_or s 0 0) 48 first)))

-- how far the reading has come: so many bytes are digits that write n
pub record Reading (s : List ℕ) (i n : ℕ) : Type 0 where
  pub value : read_on 0 s ≡ read_on n (drop i s)
  pub digits : all_ascii_digits s ≡ all_ascii_digits (drop i s)

module _ (s : List ℕ) (i n : ℕ) (so_far : Reading s i n) (within : i < length s) where
  next_digits : all_ascii_digits s ≡ (is_ascii_digit (get_or s i 0) && all_ascii_digits (drop (i + 1) s))
  next_digits = so_far.digits ∙ at_drop_more all_ascii_digits s i 0 within

  pub reading_more : is_ascii_digit (get_or s i 0) ≡ true → Reading s (i + 1) (10 * n + (get_or s i 0 - 48))
  unfolding read_on
  reading_more digit = record {
    value = so_far.value ∙ at_drop_more (read_on n) s i 0 within;
    digits = next_digits ∙ ap (λ (t : Bool). t && all_ascii_digits (drop (i + 1) s)) digit;
  }

-- the number is at least what was read so far
pub reading_ge : (s : List ℕ) (i n : ℕ) → Reading s i n → n ≤ read_on 0 s
reading_ge s i n so_far = omega (arith, so_far.value, read_ge n (drop i s))

-- the whole was read
pub reading_all : (s : List ℕ) (i n : ℕ) → Reading s i n → length s ≤ i → (read_on 0 s ≡ n) × (all_ascii_digits s ≡ true)
unfolding read_on
reading_all s i n so_far whole = (so_far.value ∙ at_drop_all (read_on n) s i whole, so_far.digits ∙ at_drop_all all_ascii_digits s i whole)

-- what is written is read back
plain_decimal : (n : ℕ) → n < 2 ^ 64 → plain (decimal n) ≡ true
plain_decimal zero small = plain_one (decimal 0) (ap length (decimal_digit 0 (omega arith)))
plain_decimal (suc n) small =
    let first : 48 < get_or (decimal (suc n)) 0 0 = first_decimal (suc n) (omega arith) small in
    plain_first (decimal (suc n)) (decimal_nonempty (suc n) small) (λ e. omega arith)

-- a leading zero stands alone in a plain text
alone : (s : List ℕ) → plain s ≡ true → get_or s 0 0 ≡ 48 → length s ≡ 1
alone s clear first =
    let p = and_parts (leb 1 (length s)) (leb (length s) 1 || not (eqb (get_or s 0 0) 48)) clear in
    ⊎_elim
    (λ short. omega (arith, leb-true 1 (length s) p.0, leb-true (length s) 1 short))
    (λ other. absurd (eqb-false (get_or s 0 0) 48 (not-true _ other) first))
    (or_cases (leb (length s) 1) _ p.1)

only_decimal : (limit : ℕ) → limit < 2 ^ 64 → (s : List ℕ) (n : ℕ) → number_read limit s ≡ Some n → (s ≡ decimal n) × (n ≤ limit)
only_decimal limit small s n e =
    ⊎_elim
    (λ yes.
    let said : Some (read_on 0 s) ≡ Some n = sym (cond-true (is_number limit s) _ _ yes) ∙ e in
    let is : read_on 0 s ≡ n = cc in
    let p = and_parts _ _ yes in
    let q = and_parts (all_ascii_digits s) _ p.1 in
    let within : read_on 0 s ≤ limit = leb-true (read_on 0 s) limit q.1 in
    let some : 1 ≤ length s = leb-true 1 (length s) (and_parts _ _ p.0).0 in
    (sym (decimal-digits_value own s q.0 some (alone s p.0) (omega arith)) ∙ ap decimal is, omega arith))
    (λ no.
    let said : None ≡ Some n = sym (cond-false (is_number limit s) (Some (read_on 0 s)) None no) ∙ e in
    absurd (let z : ◌≡◌ {A = ℕ} 0 1 = cc in omega arith))
    (cases_Bool (is_number limit s))

pub reads_back : (limit : ℕ) → limit < 2 ^ 64 → ReadsBack limit
reads_back limit small = record {
  written = λ n within.
      let fits : n < 2 ^ 64 = omega arith in
      let value : read_on 0 (decimal n) ≡ n = digits_value-decimal own n fits in
      some_number limit (decimal n) (plain_decimal n fits) (digits_decimal own n fits) (omega arith) ∙ ap (λ (k : ℕ). Some k) value;
  over = λ n fits over. let value : read_on 0 (decimal n) ≡ n = digits_value-decimal own n fits in none_over limit (decimal n) (omega arith);
  only = only_decimal limit small;
  empty = refl;
  leading_zero = λ b bs. none_unplain limit (48 ∷ (b ∷ bs)) (plain_long (48 ∷ (b ∷ bs)) (omega arith) refl);
}
