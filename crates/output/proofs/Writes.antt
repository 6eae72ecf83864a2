-- Laws of `written`: nothing, one element, one run after another.
use Rattle.std.proofs.Common.{◌≡◌, ℕ, ◌+◌, ◌-◌, ◌≤◌, List, [], ◌++◌, length, take, drop, sym, refl, ap, ◌∙◌, append_assoc, add-zero, arith, length-append, length-drop, length-take}
use Rattle.std.proofs.lemmas.List.{take-append-drop, take_at, drop_at, drop-drop}
use borrow.Rule.Slice.PartMut.{put_mid}
use Rattle.output.specs.Written.{written}

-- what is written at the start reads back from there
pub written_start : {X : Type 0} (out xs : List X) (n : ℕ) → length xs ≡ n → take n (written out 0 xs) ≡ xs
unfolding written
written_start out xs n long = take_at xs (drop (0 + length xs) out) n long

module _ {X : Type 0} (out : List X) (at : ℕ) where
  pub written_none : written out at [] ≡ out
  unfolding written
  written_none = ap (λ n. take at out ++ drop n out) (add-zero at) ∙ take-append-drop at out

  pub length_written : (xs : List X) → at + length xs ≤ length out → length (written out at xs) ≡ length out
  unfolding written
  length_written xs h = simp (length-append, length-take, length-drop) (omega arith)

  -- a write to `out[at..at + n]`, as the checker shows it
  pub written_part : (xs ys : List X) → ys ≡ xs → put_mid at (at + length xs - at) out ys ≡ written out at xs
  unfolding written
  written_part xs ys e =
      let n : at + length xs - at ≡ length xs = omega arith in
      ap (λ z. take at out ++ (z ++ drop (at + length xs - at) (drop at out))) e
      ∙ ap (λ z. take at out ++ (xs ++ z)) (ap (λ k. drop k (drop at out)) n ∙ drop-drop (length xs) at out)

  module _ (xs ys : List X) (room : at + length xs ≤ length out) where
    front : length (take at out ++ xs) ≡ at + length xs
    front = simp (length-append, length-take) (omega arith)

    again : written (written out at xs) (at + length xs) ys ≡ (take at out ++ xs) ++ (ys ++ drop (at + length xs + length ys) out)
    unfolding written
    again =
        let whole = take at out ++ xs in
        let rest = drop (at + length xs) out in
        let e : written out at xs ≡ whole ++ rest = sym (append_assoc (take at out) xs rest) in
        let f : take (at + length xs) (whole ++ rest) ≡ whole = take_at whole rest _ front in
        let g : drop (at + length xs + length ys) (whole ++ rest) ≡ drop (at + length xs + length ys) out =
        sym (drop-drop (length ys) (at + length xs) (whole ++ rest)) ∙ ap (drop (length ys)) (drop_at whole rest _ front) ∙ drop-drop (length ys) (at + length xs) out in
        ap (λ l. take (at + length xs) l ++ (ys ++ drop (at + length xs + length ys) l)) e
        ∙ ap (λ l. l ++ (ys ++ drop (at + length xs + length ys) (whole ++ rest))) f
        ∙ ap (λ l. whole ++ (ys ++ l)) g

    -- one run after another is one run
    pub written_more : written (written out at xs) (at + length xs) ys ≡ written out at (xs ++ ys)
    unfolding written
    written_more =
        let n : at + length xs + length ys ≡ at + length (xs ++ ys) = simp length-append (omega arith) in
        again ∙ append_assoc (take at out) xs _
        ∙ ap (λ l. take at out ++ l) (sym (append_assoc xs ys _) ∙ ap (λ k. (xs ++ ys) ++ drop k out) n)

    -- what was written reads back
    pub written_reads : take (length xs) (drop at (written out at xs)) ≡ xs
    unfolding written
    written_reads =
        let long : length (take at out) ≡ at = simp length-take (omega arith) in
        ap (take (length xs)) (drop_at (take at out) (xs ++ drop (at + length xs) out) at long) ∙ take_at xs (drop (at + length xs) out) (length xs) refl

    -- what stands before the place stays
    pub take_written : take at (written out at xs) ≡ take at out
    unfolding written
    take_written = let long : length (take at out) ≡ at = simp length-take (omega arith) in take_at (take at out) (xs ++ drop (at + length xs) out) at long
