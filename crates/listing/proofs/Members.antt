-- Which rows are listed.
use Rattle.std.proofs.Common.{◌≡◌, ℕ, zero, suc, ◌<◌, ◌≤◌, Some, None, Option, sym, refl, ap, subst, inl, inr, ⊎_elim, arith}
use Rattle.std.proofs.lemmas.Bool.{cases_lt}
use Rattle.members.specs.Lists.{In}
use Rattle.double_array.specs.Views.{cells_of}
use Rattle.members.proofs.Members.{in_append, in_front, in_rest}
use Rattle.link_table.specs.Codes.{path_of_triple}
use Rattle.link_table.specs.Tables.{found}
use Rattle.link_table.specs.declared.triple.Triple.{Triple}
use Rattle.link_table.specs.declared.table.LinkTable.{LinkTable}
use Rattle.link_table.proofs.Labels.{code_bounds, triple_five, number_codes}
use Rattle.listing.specs.declared.row.LinkRow.{LinkRow}
use Rattle.listing.specs.Rows.{row, rows_below, rows_by, rows_to, rows_of, ListsExactly}

row_in : (o : Option ℕ) (k b : ℕ) (r : LinkRow) → In (row o k b) r → (u : ℕ) × (o ≡ Some u) × (r ≡ record { relation = k; y = b; link = u })
row_in None k b r i = absurd i
row_in (Some u) k b r (inl e) = (u, refl, e)
row_in (Some u) k b r (inr i) = absurd i

-- its relation and its second word
pub row_is : (o : Option ℕ) (k b : ℕ) (r : LinkRow) → In (row o k b) r → (r.relation ≡ k) × (r.y ≡ b)
row_is o k b r i = let h = row_in o k b r i in (ap (λ (s : LinkRow). s.relation) h.2, ap (λ (s : LinkRow). s.y) h.2)

in_row : (o : Option ℕ) (k b u : ℕ) → o ≡ Some u → In (row o k b) (record { relation = k; y = b; link = u })
in_row o k b u e = subst (λ (o : Option ℕ). In (row o k b) (record { relation = k; y = b; link = u })) (sym e) (inl refl)

-- a row of the relation k, with the second word's number below n, that the table has
pub record KnownRow (t : LinkTable) (x k n : ℕ) (r : LinkRow) : Type 0 where
  pub held : found t (record { x = x; relation = r.relation; y = r.y }) ≡ Some r.link
  pub by : r.relation ≡ k
  pub low : r.y < n

module _ (t : LinkTable) (x : ℕ) where
  -- a present triple's relation and second word are within their types
  pub bounds : (k b u : ℕ) → found t (record { x = x; relation = k; y = b }) ≡ Some u → (k < 256) × (b < 65536)
  bounds k b u e =
      let it : Triple = record { x = x; relation = k; y = b } in
      let codes = number_codes (cells_of t.array) (path_of_triple it) u e in (
        omega (arith, (code_bounds (path_of_triple it) 2 (triple_five it) codes (omega arith)).1),
        omega (arith, (code_bounds (path_of_triple it) 3 (triple_five it) codes (omega arith)).1),
      )

  one_known : (k n : ℕ) (r : LinkRow) → In (row (found t (record { x = x; relation = k; y = n })) k n) r → KnownRow t x k (suc n) r
  one_known k n r i =
      let h = row_in (found t (record { x = x; relation = k; y = n })) k n r i in
      subst (KnownRow t x k (suc n)) (sym h.2) (record { held = h.1; by = refl; low = omega arith })

  pub below_known : (k n : ℕ) (r : LinkRow) → In (rows_below t x k n) r → KnownRow t x k n r
  unfolding rows_below
  below_known k zero r i = absurd i
  below_known k (suc n) r i =
      ⊎_elim
      (λ j. let h = below_known k n r j in record { held = h.held; by = h.by; low = omega (arith, h.low) })
      (one_known k n r)
      (in_append (rows_below t x k n) (row (found t (record { x = x; relation = k; y = n })) k n) r i)

  pub below_in : (k b u n : ℕ) → b < n → found t (record { x = x; relation = k; y = b }) ≡ Some u → In (rows_below t x k n) (record { relation = k; y = b; link = u })
  unfolding rows_below
  below_in k b u zero h e = absurd (omega arith)
  below_in k b u (suc n) h e =
      let one = row (found t (record { x = x; relation = k; y = n })) k n in
      let it : LinkRow = record { relation = k; y = b; link = u } in
      ⊎_elim
      (λ lower. in_front (rows_below t x k n) one it (below_in k b u n lower e))
      (λ high.
      let same : b ≡ n = omega arith in
      in_rest (rows_below t x k n) one it (subst (λ (m : ℕ). In (row (found t (record { x = x; relation = k; y = m })) k m) it) same (in_row _ k b u e)))
      (cases_lt b n)

  pub to_known : (n : ℕ) (r : LinkRow) → In (rows_to t x n) r → (1 ≤ r.relation) × (r.relation ≤ n) × KnownRow t x r.relation 65536 r
  unfolding rows_to
  to_known zero r i = absurd i
  to_known (suc n) r i =
      ⊎_elim
      (λ j. let h = to_known n r j in (h.0, omega (arith, h.1), h.2))
      (λ j. let h = below_known (suc n) 65536 r j in (omega (arith, h.by), omega (arith, h.by), record { held = h.held; by = refl; low = h.low }))
      (in_append (rows_to t x n) (rows_by t x (suc n)) r i)

  pub to_in : (k b u n : ℕ) → 1 ≤ k → k ≤ n → found t (record { x = x; relation = k; y = b }) ≡ Some u → In (rows_to t x n) (record { relation = k; y = b; link = u })
  unfolding rows_to
  to_in k b u zero some few e = absurd (omega arith)
  to_in k b u (suc n) some few e =
      let it : LinkRow = record { relation = k; y = b; link = u } in
      ⊎_elim
      (λ lower. in_front (rows_to t x n) (rows_by t x (suc n)) it (to_in k b u n some (omega arith) e))
      (λ high.
      let same : k ≡ suc n = omega arith in
      in_rest (rows_to t x n) (rows_by t x (suc n)) it (subst (λ (m : ℕ). In (rows_by t x m) it) same (below_in k b u 65536 (bounds k b u e).1 e)))
      (cases_lt k (suc n))

  -- the rows are those of the present triples that are asked for
  pub members : (q : ℕ) → ListsExactly t x q (rows_of t x q)
  members zero = record {
    present = λ r i. let h = to_known 255 r i in (h.2.held, h.0);
    whole = λ k b u e some. to_in k b u 255 some (omega (arith, (bounds k b u e).0)) e;
  }
  members (suc q) = record {
    present = λ r i. let h = below_known (suc q) 65536 r i in (h.held, h.by);
    whole = λ k b u e same.
        subst (λ (m : ℕ). In (rows_by t x m) (record { relation = k; y = b; link = u })) same (below_in k b u 65536 (bounds k b u e).1 e);
  }
