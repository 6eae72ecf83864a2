-- What is known of the node where a path leaves the tree.
use Rattle.std.proofs.Common.{◌≡◌, ℕ, ◌+◌, ◌<◌, true, false, cond, List, [], ◌∷◌, length, get_or, ℤ, pos, negsuc, Some, None, Option, sym, refl, ap, ◌∙◌, subst, arith}
use lib.Signed.{lt_z}
use Rattle.cells.specs.declared.Cell.{Cell}
use Rattle.std.proofs.lemmas.Bool.{cond_both, cond-false, and_parts, both_ways, eqb-true, ltb-true}
use Rattle.cells.specs.Cells.{at, nat, parent, same_int, is_leaf, edge, child, all_codes}
use Rattle.cells.specs.Placing.{extend, found_or, enter_from}
use Rattle.cells.proofs.Basics.{no_some}
use Rattle.double_array.specs.Entries.{Followed, follow, or_stop, extended}

equal_nat : (z : ℤ) (s : ℕ) → same_int z (pos s) ≡ true → nat z ≡ s
equal_nat (pos n) s e = eqb-true n s e
equal_nat (negsuc n) s e = absurd (both_ways false refl e)

above_none : (z : ℤ) → lt_z (pos 0) z ≡ true → 0 < nat z
above_none (pos n) e = ltb-true 0 n e
above_none (negsuc n) e = absurd (both_ways false refl e)

child_up : (cs : List Cell) (s a t : ℕ) → child cs s a ≡ Some t → (0 < t) × (parent cs t ≡ s)
child_up cs s a t =
    let u : ℕ = nat (at cs s).base + a in
    cond_both (edge cs s u) (Some u) None (λ (o : Option ℕ). o ≡ Some t → (0 < t) × (parent cs t ≡ s))
    (λ e is.
    let same : u ≡ t = cc in
    let h = and_parts _ _ e in
    (omega (arith, above_none (at cs s).base (and_parts _ _ h.0).0), subst (λ x. parent cs x ≡ s) same (equal_nat (at cs u).check s h.1)))
    (λ e is. absurd (no_some t is))

-- what is known of the node where a path from s leaves the tree
pub record Stop (cs : List Cell) (p : List ℕ) (s : ℕ) (f : Followed) : Type 0 where
  pub used : 0 < s → 0 < parent cs s → (0 < f.node) × (0 < parent cs f.node)
  pub missing : 0 < length f.rest → child cs f.node (get_or f.rest 0 0) ≡ None
  pub codes : all_codes p ≡ true → all_codes f.rest ≡ true
  pub enters : (is : List ℕ) (n : ℕ) → is_leaf cs f.node ≡ false → 0 < length f.rest → enter_from cs is s p n ≡ extended f.rest cs is f.node n

stop_at : (cs : List Cell) (s a : ℕ) (more : List ℕ) → ((t : ℕ) → Stop cs more t (follow cs t more)) → (o : Option ℕ) → o ≡ child cs s a
    → Stop cs (a ∷ more) s (or_stop o (record { node = s; rest = a ∷ more }) (λ t. follow cs t more))
stop_at cs s a more on None e = record {
  used = λ some u. (some, u);
  missing = λ _. sym e;
  codes = λ h. h;
  enters = λ is n inner _.
      ap (λ o. found_or o (cond (is_leaf cs s) None (extend more cs is s a n)) (λ t. enter_from cs is t more n)) (sym e)
      ∙ cond-false (is_leaf cs s) None _ inner;
}
stop_at cs s a more on (Some t) e =
    let up = child_up cs s a t (sym e) in
    record {
      used = λ some u. (on t).used up.0 (omega (arith, up.1));
      missing = (on t).missing;
      codes = λ h. (on t).codes (and_parts _ _ h).1;
      enters = λ is n inner some.
          ap (λ o. found_or o (cond (is_leaf cs s) None (extend more cs is s a n)) (λ t. enter_from cs is t more n)) (sym e)
          ∙ (on t).enters is n inner some;
    }

pub stop : (cs : List Cell) (p : List ℕ) (s : ℕ) → Stop cs p s (follow cs s p)
stop cs [] s = record { used = λ some u. (some, u); missing = λ h. absurd (omega arith); codes = λ h. h; enters = λ is n inner h. absurd (omega arith) }
stop cs (a ∷ more) s = stop_at cs s a more (λ t. stop cs more t) (child cs s a) refl
