-- The codes of a cell's children, one more.
use Rattle.std.proofs.Common.{◌≡◌, ℕ, zero, suc, ◌+◌, ◌<◌, true, false, cond, ◌&&◌, ◌||◌, Bool, ltb, List, [], ◌∷◌, ◌++◌, length, get_or, filter, map, map-id, is_some, Some, None, All, Option, sym, refl, ap, ◌∙◌, append-nil, add-one, arith}
use Rattle.std.proofs.lemmas.List.Elements.{All-nil, All-cons, All-get_or, All-append}
use Rattle.std.specs.List.{range_with_len, list_any}
use Rattle.std.proofs.lemmas.List.FromFn.{filter_of_map_range_with_len_more}
use Rattle.std.proofs.lemmas.Bool.{cond-true, cond-false, cond_both, and_from, and_right, and_parts, both_ways, lt-ltb, ltb-true}
use Rattle.cells.specs.declared.Cell.{Cell}
use Rattle.cells.specs.Cells.{base_of, edge, child, codes_below, child_codes, some_code}

next : (cs : List Cell) (s n : ℕ) → codes_below cs s (n + 1) ≡ codes_below cs s n ++ cond (ltb 0 n && is_some (child cs s n)) (n ∷ []) []
unfolding codes_below
next cs s n = ap (codes_below cs s) (add-one n)

pub codes_none : (cs : List Cell) (s : ℕ) → codes_below cs s 1 ≡ []
unfolding codes_below
codes_none cs s = refl

module _ (cs : List Cell) (s n : ℕ) (codes : List ℕ) (low : 0 < n) (inv : codes ≡ codes_below cs s n) where
  pub codes_more : is_some (child cs s n) ≡ true → codes ++ n ∷ [] ≡ codes_below cs s (n + 1)
  codes_more is =
      ap (λ l. l ++ n ∷ []) inv
      ∙ ap (λ l. codes_below cs s n ++ l) (sym (cond-true _ (n ∷ []) [] (and_from _ _ (lt-ltb 0 n low) is))) ∙ sym (next cs s n)

  pub codes_same : is_some (child cs s n) ≡ false → codes ≡ codes_below cs s (n + 1)
  codes_same is =
      inv ∙ sym (append-nil (codes_below cs s n))
      ∙ ap (λ l. codes_below cs s n ++ l) (sym (cond-false _ (n ∷ []) [] (and_right _ _ is))) ∙ sym (next cs s n)

-- the child by each of the codes is a cell
child_in : (cs : List Cell) (s a : ℕ) → is_some (child cs s a) ≡ true → base_of cs s + a < length cs
child_in cs s a =
    cond_both (edge cs s (base_of cs s + a)) (Some (base_of cs s + a)) None (λ (o : Option ℕ). is_some o ≡ true → base_of cs s + a < length cs)
    (λ e is. ltb-true (base_of cs s + a) (length cs) (and_parts _ _ (and_parts _ _ e).0).1)
    (λ e is. absurd (both_ways false refl is))

one_in : (cs : List Cell) (s n : ℕ) → All (λ a. base_of cs s + a < length cs) (cond (ltb 0 n && is_some (child cs s n)) (n ∷ []) [])
one_in cs s n =
    cond_both (ltb 0 n && is_some (child cs s n)) (n ∷ []) [] (All (λ a. base_of cs s + a < length cs))
    (λ e. All-cons (λ a. base_of cs s + a < length cs) n [] (child_in cs s n (and_parts _ _ e).1) (All-nil (λ a. base_of cs s + a < length cs))) (λ e. All-nil (λ a. base_of cs s + a < length cs))

codes_in : (cs : List Cell) (s n : ℕ) → All (λ a. base_of cs s + a < length cs) (codes_below cs s n)
unfolding codes_below
codes_in cs s zero = All-nil (λ a. base_of cs s + a < length cs)
codes_in cs s (suc n) = All-append (λ a. base_of cs s + a < length cs) (codes_below cs s n) _ (codes_in cs s n) (one_in cs s n)

pub codes_within : (cs : List Cell) (s n k : ℕ) → k < length (codes_below cs s n) → base_of cs s + get_or (codes_below cs s n) k 0 < length cs
codes_within cs s n k h = All-get_or (λ a. base_of cs s + a < length cs) (codes_below cs s n) k 0 h (codes_in cs s n)

-- the child codes are those of the codes by which there is a child, so there is one if there is such a code
abbrev leads : List Cell → ℕ → ℕ → Bool
leads cs s a = is_some (child cs s a)

codes_filter : (cs : List Cell) (s n : ℕ) → codes_below cs s (suc n) ≡ filter (leads cs s) (map (λ a. a) (range_with_len 1 n))
unfolding codes_below
codes_filter cs s zero = refl
codes_filter cs s (suc n) =
    ap (λ b. codes_below cs s (suc n) ++ cond (b && leads cs s (suc n)) (suc n ∷ []) []) (lt-ltb 0 (suc n) (omega arith))
    ∙ ap (λ l. l ++ cond (leads cs s (suc n)) (suc n ∷ []) []) (codes_filter cs s n)
    ∙ sym (filter_of_map_range_with_len_more (leads cs s) (λ a. a) 1 n (suc n) (omega arith))
    ∙ ap (λ k. filter (leads cs s) (map (λ a. a) (range_with_len 1 k))) (add-one n)

some_of_filter : (p : ℕ → Bool) (l : List ℕ) → some_code (filter p l) ≡ list_any p l
some_of_filter p [] = refl
some_of_filter p (a ∷ l) =
    cond_both (p a) (a ∷ filter p l) (filter p l) (λ k. some_code k ≡ (p a || list_any p l))
    (λ e. ap (λ b. b || list_any p l) (sym e)) (λ e. some_of_filter p l ∙ ap (λ b. b || list_any p l) (sym e))

pub some_child : (cs : List Cell) (s : ℕ) → list_any (leads cs s) (range_with_len 1 257) ≡ some_code (child_codes cs s)
some_child cs s =
    let all : List ℕ = range_with_len 1 257 in
    ap (list_any (leads cs s)) (sym (map-id all)) ∙ sym (ap some_code (codes_filter cs s 257) ∙ some_of_filter (leads cs s) (map (λ a. a) all))
