-- Rows with their counts, one after another, and the text of a listing.
use Rattle.std.proofs.Common.{◌≡◌, ℕ, ◌≤◌, Bool, true, false, cond, not, ltb, leb, List, map, length, take, Some, None, Ok, codes, Option, Result, refl, ap, ◌∙◌, subst, arith}
use Rattle.std.proofs.lemmas.Bool.{cond-true, le-leb, ltb-false}
use Rattle.refusal.specs.declared.Side.TheVariants.{First}
use Rattle.refusal.specs.declared.Refusal.{Refusal}
use Rattle.refusal.specs.declared.Refusal.TheVariants.{WordLength, UnknownWord, OutputTooShort}
use Rattle.output.specs.Written.{written}
use Rattle.output.proofs.Writes.{written_start}
use Rattle.script.specs.Words.{word_sized}
use Rattle.record.specs.declared.Tally.{Tally}
use Rattle.listing.specs.declared.row.LinkRow.{LinkRow}
use Rattle.history.specs.declared.replies.Reply.TheVariants.{Listed}
use Rattle.history.specs.Refusals.{first, none, list_refusals}
use Rattle.history.specs.Calls.{Decided, replied}
use Rattle.line_text.specs.Texts.{rows_text}
use Rattle.lines.specs.Lines.{row_of, listing_line, listed_text}

-- no refusal of list applies, so the rows fit
rows_fit : {S : Type 0} (x : List S) (a : Option ℕ) (places rows : ℕ) → first (list_refusals x a places rows) ≡ None → rows ≤ places
rows_fit x a places rows e = go (not (word_sized x)) (none a) (ltb places rows) refl e
  where
    never : {X : Type 0} (r : X) → ◌≡◌ {A = Option X} (Some r) None → ⊥
    never r z = let zero_one : ◌≡◌ {A = ℕ} 0 1 = cc in omega arith

    go : (b c d : Bool) → ltb places rows ≡ d → cond b (Some (WordLength First)) (cond c (Some (UnknownWord First)) (cond d (Some OutputTooShort) None)) ≡ None → rows ≤ places
    go true c d z h = absurd (never (WordLength First) h)
    go false true d z h = absurd (never (UnknownWord First) h)
    go false false true z h = absurd (never OutputTooShort h)
    go false false false z h = ltb-false places rows z

-- what is printed of what list replies, by its rule
pub listing_said : {S : Type 0} (records : List Tally) (x : List S) (a : Option ℕ) (rows out out' : List LinkRow) (n : Result ℕ Refusal) → length out ≡ 100
    → Decided (first (list_refusals x a (length out) (length rows))) out n out' ((n ≡ Ok (length rows)) × (out' ≡ written out 0 rows))
    → listed_text records out' (replied Listed n) ≡ listing_line (first (list_refusals x a 100 (length rows))) (map (row_of records) rows)
listing_said records x a rows out out' n long does =
    go (first (list_refusals x a 100 (length rows))) refl (subst (λ (k : ℕ). Decided (first (list_refusals x a k (length rows))) out n out' ((n ≡ Ok (length rows)) × (out' ≡ written out 0 rows))) long does)
  where
    go : (o : Option Refusal) → first (list_refusals x a 100 (length rows)) ≡ o → Decided o out n out' ((n ≡ Ok (length rows)) × (out' ≡ written out 0 rows))
        → listed_text records out' (replied Listed n) ≡ listing_line o (map (row_of records) rows)
    go (Some f) e h = ap (λ (m : Result ℕ Refusal). listed_text records out' (replied Listed m)) h.0
    go None e h =
        ap (λ (m : Result ℕ Refusal). listed_text records out' (replied Listed m)) h.0
        ∙ cond-true (leb (length rows) 100) (rows_text (map (row_of records) (take (length rows) out'))) (codes "none\n") (le-leb (length rows) 100 (rows_fit x a 100 (length rows) e))
        ∙ ap (λ (l : List LinkRow). rows_text (map (row_of records) l)) (ap (take (length rows)) h.1 ∙ written_start out rows (length rows) refl)
