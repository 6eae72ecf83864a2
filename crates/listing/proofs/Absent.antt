-- Where a beginning leads to no cell, no triple's path begins so.
use Rattle.std.proofs.Common.{◌≡◌, ℕ, zero, suc, ◌+◌, ◌*◌, ◌/◌, ◌%◌, ◌<◌, false, ltb, List, [], ◌∷◌, ◌++◌, length, is_some, Some, None, Option, sym, refl, ap, ◌∙◌, subst, ⊎_elim, arith}
use Rattle.std.proofs.lemmas.Bool.{and_cases, ltb-false}
use Rattle.cells.specs.declared.Cell.{Cell}
use Rattle.cells.specs.Cells.{path_of_labels}
use Rattle.members.specs.Lists.{In}
use Rattle.cells.specs.Walking.{cell_at, number_at}
use Rattle.double_array.specs.Views.{cells_of, index_of}
use Rattle.subtrie.specs.Below.{numbers_from}
use Rattle.subtrie.proofs.Absent.{numbers_none, numbers_few}
use Rattle.subtrie.proofs.Listings.{listed, members}
use Rattle.link_table.specs.Tables.{found}
use Rattle.link_table.specs.declared.table.LinkTable.{LinkTable}
use Rattle.link_table.proofs.Tables.{none_when}
use Rattle.listing.specs.Rows.{row, rows_below}
use Rattle.listing.specs.Parts.{rows_from, leads_on}

-- nothing is below such a beginning
none_below : (cs : List Cell) (p : List ℕ) → false ≡ leads_on cs p → numbers_from cs p ≡ []
none_below cs p e =
    ⊎_elim
    (λ few. numbers_few cs (omega (arith, ltb-false 1 (length cs) few)) p)
    (λ none. numbers_none cs p (none_when (cell_at cs p) none))
    (and_cases (ltb 1 (length cs)) (is_some (cell_at cs p)) (sym e))

module _ (t : LinkTable) where
  none_held : (p r : List ℕ) → false ≡ leads_on (cells_of t.array) p → (o : Option ℕ) → number_at (cells_of t.array) (p ++ r) ≡ o → o ≡ None
  none_held p r e None is = refl
  none_held p r e (Some u) is =
      let cs = cells_of t.array in
      let ns = numbers_from cs p in
      let there = (members cs p ns (listed cs (index_of t.array) t.array.sound p)).all r u is in
      absurd (subst (λ (l : List ℕ). In l u) (none_below cs p e) there)

  pub no_number : (p r : List ℕ) → false ≡ leads_on (cells_of t.array) p → number_at (cells_of t.array) (p ++ r) ≡ None
  no_number p r e = none_held p r e (number_at (cells_of t.array) (p ++ r)) refl

  module _ (x k : ℕ) where
    row_none : (o : Option ℕ) (b : ℕ) → o ≡ None → row o k b ≡ []
    row_none o b e = ap (λ o. row o k b) e

    from_absent : (b n : ℕ) → ((i : ℕ) → i < n → found t (record { x = x; relation = k; y = b + i }) ≡ None) → rows_from t x k b n ≡ []
    unfolding rows_from
    from_absent b zero none = refl
    from_absent b (suc n) none =
        ap (λ l. rows_from t x k b n ++ l) (row_none (found t (record { x = x; relation = k; y = b + n })) (b + n) (none n (omega arith)))
        ∙ ap (λ l. l ++ []) (from_absent b n (λ i h. none i (omega arith)))

    below_absent : (n : ℕ) → ((b : ℕ) → found t (record { x = x; relation = k; y = b }) ≡ None) → rows_below t x k n ≡ []
    unfolding rows_below
    below_absent zero none = refl
    below_absent (suc n) none =
        ap (λ l. rows_below t x k n ++ l) (row_none (found t (record { x = x; relation = k; y = n })) n (none n))
        ∙ ap (λ l. l ++ []) (below_absent n none)

    -- the three codes of x and the relation
    pub relation_absent : (codes : List ℕ) → codes ≡ path_of_labels ((x / 256) ∷ (x % 256) ∷ k ∷ []) → false ≡ leads_on (cells_of t.array) codes → (n : ℕ) → rows_below t x k n ≡ []
    relation_absent codes same e n =
        below_absent n
        (λ b. no_number (path_of_labels ((x / 256) ∷ (x % 256) ∷ k ∷ [])) (path_of_labels ((b / 256) ∷ (b % 256) ∷ [])) (e ∙ ap (leads_on (cells_of t.array)) same))

    -- and the upper byte of the second word's number
    pub block_absent : (h : ℕ) (codes : List ℕ) → codes ≡ path_of_labels ((x / 256) ∷ (x % 256) ∷ k ∷ h ∷ []) → false ≡ leads_on (cells_of t.array) codes → rows_from t x k (256 * h) 256 ≡ []
    block_absent h codes same e =
        from_absent (256 * h) 256
        (λ i low.
        let upper : (256 * h + i) / 256 ≡ h = omega arith in
        let lower : List ℕ = path_of_labels (((256 * h + i) % 256) ∷ []) in
        ap (λ u. number_at (cells_of t.array) (path_of_labels ((x / 256) ∷ (x % 256) ∷ k ∷ u ∷ ((256 * h + i) % 256) ∷ []))) upper
        ∙ no_number (path_of_labels ((x / 256) ∷ (x % 256) ∷ k ∷ h ∷ [])) lower (e ∙ ap (leads_on (cells_of t.array)) same))
