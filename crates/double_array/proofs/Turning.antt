-- The children of a node get another parent: a part of the cells that is rewritten in place.
use Rattle.std.proofs.Common.{◌≡◌, ℕ, ◌+◌, ◌-◌, ◌<◌, ◌≤◌, min, cond, ◌&&◌, List, ◌++◌, length, take, drop, pos, sym, ap, ◌∙◌, ◌⊎◌, inl, inr, ⊎_elim, arith, length-drop}
use borrow.Rule.Slice.PartMut.{put_mid}
use Rattle.std.proofs.lemmas.List.{get_or-take, get_or-drop, get_or-append-add, get_or_append_left, length-take-le}
use Rattle.std.proofs.lemmas.Bool.{cases_lt, cond-false, and_from, and_left, and_right, lt-ltb, le-ltb}
use Rattle.cells.specs.declared.Cell.{Cell}
use Rattle.cells.specs.Cells.{free_cell, at, same_int}
use Rattle.cells.specs.Placing.{repointed}

-- what a cell holds once the children of f have the parent t
abbrev pub reparented : ℕ → ℕ → Cell → Cell
reparented f t c = cond (same_int c.check (pos f)) (record { base = c.base; check = pos t }) c

module _ (cs : List Cell) (b f t a e : ℕ) (start : a ≡ min e (b + 1)) (end : e ≡ min (length cs) (b + 258)) (ys : List Cell) (j : ℕ) where
  abbrev part : List Cell
  part = take (e - a) (drop a cs)

  abbrev rest : List Cell
  rest = drop (e - a) (drop a cs)

  abbrev after : List Cell
  after = put_mid a (e - a) cs ys

  -- a cell outside the part stays, and is no child
  apart : (j ≤ b) ⊎ (b + 258 ≤ j) → at after j ≡ at cs j → at after j ≡ repointed cs b f t 258 j
  apart (inl low) same = same ∙ sym (cond-false _ _ _ (and_left _ _ (and_left _ _ (le-ltb b j low))))
  apart (inr high) same = same ∙ sym (cond-false _ _ _ (and_left _ _ (and_right _ _ (le-ltb j (b + 258) high))))

  front : length (take a cs) ≡ a
  front = length-take-le a cs (omega arith)

  -- past the front
  past : a ≤ j → at after j ≡ at (ys ++ rest) (j - a)
  past h =
      let same : j ≡ length (take a cs) + (j - a) = omega (arith, front) in
      ap (at after) same ∙ get_or-append-add (take a cs) (ys ++ rest) (j - a) free_cell

  pub turned_is : length ys ≡ length part → ((k : ℕ) → k < length ys → at ys k ≡ reparented f t (at part k)) → j < length cs → at after j ≡ repointed cs b f t 258 j
  turned_is long each h =
      let size : length part ≡ e - a = length-take-le (e - a) (drop a cs) (omega (arith, length-drop a cs)) in
      ⊎_elim
      (λ low. apart (inl (omega arith)) (get_or_append_left (take a cs) (ys ++ rest) free_cell j (omega (arith, front)) ∙ get_or-take a cs j free_cell low))
      (λ high.
      ⊎_elim
      (λ inside.
      let here : at part (j - a) ≡ at cs (a + (j - a)) = get_or-take (e - a) (drop a cs) (j - a) free_cell (omega arith) ∙ get_or-drop a cs (j - a) free_cell in
      let same : a + (j - a) ≡ j = omega arith in
      past high ∙ get_or_append_left ys rest free_cell (j - a) (omega (arith, long, size)) ∙ each (j - a) (omega (arith, long, size))
      ∙ ap (reparented f t) (here ∙ ap (at cs) same)
      ∙ ap (λ w. cond (w && same_int (at cs j).check (pos f)) (record { base = (at cs j).base; check = pos t }) (at cs j))
      (sym (and_from _ _ (lt-ltb b j (omega arith)) (lt-ltb j (b + 258) (omega arith)))))
      (λ beyond.
      let same : j - a ≡ length ys + (j - e) = omega (arith, long, size) in
      let back : a + (e - a + (j - e)) ≡ j = omega arith in
      apart (inr (omega arith))
      (past high ∙ ap (at (ys ++ rest)) same ∙ get_or-append-add ys rest (j - e) free_cell ∙ get_or-drop (e - a) (drop a cs) (j - e) free_cell
      ∙ get_or-drop a cs (e - a + (j - e)) free_cell ∙ ap (at cs) back))
      (cases_lt j e))
      (cases_lt j a)
