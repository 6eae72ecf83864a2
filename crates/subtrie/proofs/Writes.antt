-- Writing one run of numbers after another.
use Rattle.std.proofs.Common.{◌≡◌, ℕ, ◌+◌, ◌-◌, ◌<◌, ◌≤◌, List, [], ◌∷◌, ◌++◌, length, take, drop, set, Some, None, sym, ap, ◌∙◌, subst₂, add-one, arith, length-append}
use Rattle.std.proofs.lemmas.List.{set_split}
use Rattle.output.specs.Written.{written}
use Rattle.output.proofs.Writes.{written_none, written_more}
use Rattle.cells.specs.declared.Cell.{Cell}
use Rattle.cells.specs.Cells.{child}
use Rattle.subtrie.specs.Below.{edge_numbers}
use Rattle.subtrie.proofs.Steps.{edge_some, edge_none}

-- ns was written at the place `at`: it ends at `end`, and the output then holds `after`
pub record Wrote (out : List ℕ) (at : ℕ) (ns : List ℕ) (end : ℕ) (after : List ℕ) : Type 0 where
  pub ends : end ≡ at + length ns
  pub holds : after ≡ written out at ns

module _ (out : List ℕ) (at : ℕ) where
  pub wrote_none : (ns : List ℕ) → ns ≡ [] → Wrote out at ns at out
  wrote_none ns e = record {
    ends = let n = ap length e in omega (arith, n);
    holds = sym (ap (written out at) e ∙ written_none out at);
  }

  pub wrote_one : (ns : List ℕ) (n : ℕ) → ns ≡ n ∷ [] → at < length out → Wrote out at ns (at + 1) (set out at n)
  unfolding written
  wrote_one ns n e h = record {
    ends = let m = ap length e in omega (arith, m);
    holds = sym (ap (written out at) e ∙ ap (λ k. take at out ++ n ∷ drop k out) (add-one at) ∙ sym (set_split out at n h));
  }

  pub wrote_as : (ns ms : List ℕ) (end : ℕ) (after : List ℕ) → ns ≡ ms → Wrote out at ms end after → Wrote out at ns end after
  wrote_as ns ms end after e w = record {
    ends = let m = ap length e in omega (arith, m, w.ends);
    holds = w.holds ∙ sym (ap (written out at) e);
  }

  -- after the first run, the rest is left to write
  wrote_rest : (ns ms : List ℕ) (mid end : ℕ) (between after : List ℕ) → at + length ns ≤ length out → Wrote out at ns mid between → Wrote out at (ns ++ ms) end after → Wrote between mid ms end after
  wrote_rest ns ms mid end between after room v w = record {
    ends = omega (arith, v.ends, w.ends, length-append ns ms);
    holds = w.holds ∙ sym (written_more out at ns ms room) ∙ sym (ap (λ z. written between z ms) v.ends ∙ ap (λ z. written z (at + length ns) ms) v.holds);
  }

  -- nothing is left to write
  pub wrote_all : (ns : List ℕ) (end : ℕ) (after : List ℕ) → ns ≡ [] → Wrote out at ns end after → (at ≡ end) × (out ≡ after)
  wrote_all ns end after e w =
      let n = wrote_none ns e in
      (n.ends ∙ sym w.ends, n.holds ∙ sym w.holds)

-- one edge after another
module _ (f : ℕ → List ℕ) (cs : List Cell) (s code : ℕ) (h : code < 258) (out : List ℕ) (at end : ℕ) (after : List ℕ) where
  pub edge_room : (t : ℕ) → Some t ≡ child cs s code → end ≤ length out → Wrote out at (edge_numbers f cs s (258 - code)) end after → at + length (f t) ≤ length out
  edge_room t e room w =
      omega (arith, ap length (edge_some f cs s code t h e), length-append (f t) (edge_numbers f cs s (258 - (code + 1))), w.ends)

  pub wrote_some : (t mid : ℕ) (between : List ℕ) → Some t ≡ child cs s code → end ≤ length out → Wrote out at (f t) mid between → Wrote out at (edge_numbers f cs s (258 - code)) end after → Wrote between mid (edge_numbers f cs s (258 - (code + 1))) end after
  wrote_some t mid between e room v w =
      wrote_rest out at (f t) (edge_numbers f cs s (258 - (code + 1))) mid end between after (edge_room t e room w) v
      (wrote_as out at _ (edge_numbers f cs s (258 - code)) end after (sym (edge_some f cs s code t h e)) w)

  pub wrote_past : (mid : ℕ) (between : List ℕ) → None ≡ child cs s code → mid ≡ at → between ≡ out → Wrote out at (edge_numbers f cs s (258 - code)) end after → Wrote between mid (edge_numbers f cs s (258 - (code + 1))) end after
  wrote_past mid between e m b w =
      subst₂ (λ o n. Wrote o n (edge_numbers f cs s (258 - (code + 1))) end after) (sym b) (sym m)
      (wrote_as out at (edge_numbers f cs s (258 - (code + 1))) (edge_numbers f cs s (258 - code)) end after (sym (edge_none f cs s code h e)) w)
