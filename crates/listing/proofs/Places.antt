-- Setting one run of rows after another.
use Rattle.std.proofs.Common.{◌≡◌, ℕ, suc, ◌+◌, ◌≤◌, List, [], ◌∷◌, ◌++◌, length, take, drop, set, Some, sym, refl, ap, ◌∙◌, append_assoc, add-zero, arith, length-append}
use lib.Seq.{sets, sets-eq}
use Rattle.output.specs.Written.{written, Filled}
use Rattle.listing.specs.declared.row.LinkRow.{LinkRow}
use Rattle.listing.specs.Parts.{RowsWritten}

sets_more : (rows more out : List LinkRow) (at : ℕ) → sets (sets out at rows) (at + length rows) more ≡ sets out at (rows ++ more)
sets_more [] more out at = ap (λ n. sets out n more) (add-zero at)
sets_more (r ∷ rows) more out at =
    let n : at + suc (length rows) ≡ suc at + length rows = omega arith in
    ap (λ n. sets (sets (set out at r) (suc at) rows) n more) n ∙ sets_more rows more (set out at r) (suc at)

module _ (out : List LinkRow) (at : ℕ) where
  pub placed_none : (rows : List LinkRow) (end : ℕ) (after : List LinkRow) → rows ≡ [] → end ≡ at → after ≡ out → RowsWritten out at rows end after
  placed_none rows end after e n a = record { ends = omega (arith, ap length e, n); holds = a ∙ sym (ap (sets out at) e) }

  pub placed_one : (r : LinkRow) (after : List LinkRow) → after ≡ set out at r → RowsWritten out at (r ∷ []) (at + 1) after
  placed_one r after e = record { ends = refl; holds = e }

  -- the same rows, end and output under other names
  pub placed_as : (rows same : List LinkRow) (n end : ℕ) (last after : List LinkRow) → same ≡ rows → end ≡ n → after ≡ last → RowsWritten out at rows n last → RowsWritten out at same end after
  placed_as rows same n end last after e m a p = record {
    ends = omega (arith, ap length e, m, p.ends);
    holds = a ∙ p.holds ∙ sym (ap (sets out at) e);
  }

  -- one run after another is one run
  pub placed_more : (rows more both : List LinkRow) (mid end : ℕ) (between after : List LinkRow) → both ≡ rows ++ more → RowsWritten out at rows mid between → RowsWritten between mid more end after → RowsWritten out at both end after
  placed_more rows more both mid end between after e p q =
      placed_as (rows ++ more) both end end after after e refl refl
      (record {
        ends = omega (arith, p.ends, q.ends, length-append rows more);
        holds = q.holds ∙ ap (λ l. sets l mid more) p.holds ∙ ap (λ n. sets (sets out at rows) n more) p.ends ∙ sets_more rows more out at;
      })

-- what fits is written, and how many rows there are is answered
pub placed_filled : (rows out after : List LinkRow) (n : ℕ) → length rows ≤ length out → RowsWritten out 0 rows n after → Filled rows out (Some n) after
unfolding written
placed_filled rows out after n fits p =
    (fits, omega (arith, p.ends), p.holds ∙ sets-eq rows out 0 (omega arith) ∙ append_assoc (take 0 out) rows (drop (0 + length rows) out))
