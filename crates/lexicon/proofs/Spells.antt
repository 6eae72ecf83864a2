-- A list that spells a word by putting it at the start of the output.
use Rattle.std.proofs.Common.{◌≡◌, ℕ, ◌+◌, ◌≤◌, Bool, true, false, cond, List, length, IfOk, Some, None, Ok, Err, Option, Result, sym, refl, ap, ◌∙◌, subst, ⊎_elim, arith}
use Rattle.std.specs.Option.{ok_or}
use Rattle.std.proofs.lemmas.Bool.{cond-true, cond-false, cases_Bool, leb-true}
use Rattle.lexicon.specs.declared.ListFault.{ListFault}
use Rattle.lexicon.specs.declared.ListFault.TheVariants.{OutputTooShort, UnknownWord}
use Rattle.output.specs.Written.{fits, written}
use Rattle.lexicon.specs.Rolls.{numbered, word_of}
use Rattle.lexicon.specs.Answers.{word_answer, word_output}

-- where the word ends, as an answer
ended : (b : Bool) (n : ℕ) → ok_or (cond b (Some (0 + n)) None) OutputTooShort ≡ cond b (Ok n) (Err OutputTooShort)
ended true n = ap (λ k. Ok k) (let z : 0 + n ≡ n = omega arith in z)
ended false n = refl

pub write_at_answer : (roll : List (List ℕ)) (number : ℕ) (out word : List ℕ) → numbered roll number ≡ true → word ≡ word_of roll number
    → (o : Option ℕ) (r : Result ℕ ListFault) → o ≡ cond (fits out 0 word) (Some (0 + length word)) None → r ≡ ok_or o OutputTooShort
    → r ≡ word_answer roll number out
write_at_answer roll number out word some same o r end value =
    value ∙ ap (λ (z : Option ℕ). ok_or z OutputTooShort) end ∙ ended (fits out 0 word) (length word)
    ∙ ap (λ (w : List ℕ). cond (fits out 0 w) (Ok (length w)) (Err OutputTooShort)) same
    ∙ sym (cond-true (numbered roll number) (cond (fits out 0 (word_of roll number)) (Ok (length (word_of roll number))) (Err OutputTooShort)) (Err UnknownWord) some)

pub write_at_output : (roll : List (List ℕ)) (number : ℕ) (out word : List ℕ) → numbered roll number ≡ true → word ≡ word_of roll number
    → (after : List ℕ) → after ≡ cond (fits out 0 word) (written out 0 word) out → after ≡ word_output roll number out
write_at_output roll number out word some same after put =
    put ∙ ap (λ (w : List ℕ). cond (fits out 0 w) (written out 0 w) out) same
    ∙ sym (cond-true (numbered roll number) (cond (fits out 0 (word_of roll number)) (written out 0 (word_of roll number)) out) out some)

pub write_at_within : (out word : List ℕ) (o : Option ℕ) (r : Result ℕ ListFault) → o ≡ cond (fits out 0 word) (Some (0 + length word)) None → r ≡ ok_or o OutputTooShort → IfOk r (λ n. n ≤ length out)
write_at_within out word o r end value =
    let is : r ≡ cond (fits out 0 word) (Ok (length word)) (Err OutputTooShort) = value ∙ ap (λ (z : Option ℕ). ok_or z OutputTooShort) end ∙ ended (fits out 0 word) (length word) in
    ⊎_elim
    (λ yes'. subst (λ (z : Result ℕ ListFault). IfOk z (λ n. n ≤ length out)) (sym (is ∙ cond-true (fits out 0 word) (Ok (length word)) (Err OutputTooShort) yes')) (omega (arith, leb-true (0 + length word) (length out) yes')))
    (λ no'. subst (λ (z : Result ℕ ListFault). IfOk z (λ n. n ≤ length out)) (sym (is ∙ cond-false (fits out 0 word) (Ok (length word)) (Err OutputTooShort) no')) tt)
    (cases_Bool (fits out 0 word))
