-- Fields and their text: one can be had from the other.
use Rattle.std.proofs.Common.{◌≡◌, ℕ, ◌^◌, ◌<◌, ◌≤◌, true, ◌&&◌, eqb, leb, List, [], ◌∷◌, ◌++◌, length, decimal, All, sym, refl, ap, ◌∙◌, append-nil, arith}
use Rattle.std.specs.Str.{all_ascii_digits}
use Rattle.std.proofs.lemmas.Bool.{cond-false, cond_both, ne_eqb, eqb-true, eqb-false, leb-true, and_parts}
use Rattle.std.proofs.lemmas.Fmt.{digits_decimal}
use Rattle.std.proofs.lemmas.List.Elements.{All-nil, All-cons, All-head, All-tail}
use Rattle.command.specs.Fields.{before_first, fields}
use Rattle.command.specs.Lines.{tabbed, Tabless}
use Rattle.command.proofs.Cuts.{fields_some}
use Rattle.command.proofs.Readings.{own}

-- the text of the fields is the line again
tabbed_before : (b : ℕ) (fs : List (List ℕ)) (s : List ℕ) → tabbed fs ≡ 9 ∷ s → 1 ≤ length fs → tabbed (before_first b fs) ≡ 9 ∷ (b ∷ s)
unfolding tabbed
tabbed_before b [] s e some = absurd (omega arith)
tabbed_before b (f ∷ fs) s e some = let same : f ++ tabbed fs ≡ s = cc in ap (λ (z : List ℕ). 9 ∷ (b ∷ z)) same

pub tabbed_fields : (s : List ℕ) → tabbed (fields s) ≡ 9 ∷ s
unfolding tabbed fields
tabbed_fields [] = refl
tabbed_fields (b ∷ bs) =
    cond_both (eqb b 9) ([] ∷ fields bs) (before_first b (fields bs)) (λ (fs : List (List ℕ)). tabbed fs ≡ 9 ∷ (b ∷ bs))
    (λ tab. ap (λ (z : List ℕ). 9 ∷ z) (tabbed_fields bs ∙ ap (λ (k : ℕ). k ∷ bs) (sym (eqb-true b 9 tab))))
    (λ other. tabbed_before b (fields bs) bs (tabbed_fields bs) (fields_some bs))

-- one byte more and one byte less
tabless_nil : Tabless []
tabless_nil = All-nil (λ (b : ℕ). b ≡ 9 → ⊥)

tabless_cons : (b : ℕ) (f : List ℕ) → (b ≡ 9 → ⊥) → Tabless f → Tabless (b ∷ f)
tabless_cons b f other clear = All-cons (λ (b : ℕ). b ≡ 9 → ⊥) b f other clear

tabless_head : (b : ℕ) (f : List ℕ) → Tabless (b ∷ f) → b ≡ 9 → ⊥
tabless_head b f clear = All-head (λ (b : ℕ). b ≡ 9 → ⊥) b f clear

tabless_tail : (b : ℕ) (f : List ℕ) → Tabless (b ∷ f) → Tabless f
tabless_tail b f clear = All-tail (λ (b : ℕ). b ≡ 9 → ⊥) b f clear

-- no field has a tab
tabless_before : (b : ℕ) (fs : List (List ℕ)) → (b ≡ 9 → ⊥) → All Tabless fs → All Tabless (before_first b fs)
tabless_before b [] other all = All-cons Tabless (b ∷ []) [] (tabless_cons b [] other tabless_nil) (All-nil Tabless)
tabless_before b (f ∷ fs) other all = All-cons Tabless (b ∷ f) fs (tabless_cons b f other (All-head Tabless f fs all)) (All-tail Tabless f fs all)

pub tabless_fields : (s : List ℕ) → All Tabless (fields s)
unfolding fields
tabless_fields [] = All-cons Tabless [] [] tabless_nil (All-nil Tabless)
tabless_fields (b ∷ bs) =
    cond_both (eqb b 9) ([] ∷ fields bs) (before_first b (fields bs)) (λ (fs : List (List ℕ)). All Tabless fs)
    (λ tab. All-cons Tabless [] (fields bs) tabless_nil (tabless_fields bs))
    (λ other. tabless_before b (fields bs) (eqb-false b 9 other) (tabless_fields bs))

-- the fields of a text of fields
fields_front : (f rest : List ℕ) → Tabless f → fields (f ++ 9 ∷ rest) ≡ f ∷ fields rest
unfolding fields
fields_front [] rest clear = refl
fields_front (b ∷ f) rest clear =
    cond-false (eqb b 9) _ _ (ne_eqb b 9 (tabless_head b f clear)) ∙ ap (before_first b) (fields_front f rest (tabless_tail b f clear))

fields_one : (f : List ℕ) → Tabless f → fields f ≡ f ∷ []
unfolding fields
fields_one [] clear = refl
fields_one (b ∷ f) clear =
    cond-false (eqb b 9) _ _ (ne_eqb b 9 (tabless_head b f clear)) ∙ ap (before_first b) (fields_one f (tabless_tail b f clear))

pub fields_tabbed : (f : List ℕ) (fs : List (List ℕ)) → All Tabless (f ∷ fs) → fields (f ++ tabbed fs) ≡ f ∷ fs
unfolding tabbed
fields_tabbed f [] clear = ap fields (append-nil f) ∙ fields_one f (All-head Tabless f [] clear)
fields_tabbed f (g ∷ gs) clear =
    fields_front f (g ++ tabbed gs) (All-head Tabless f (g ∷ gs) clear)
    ∙ ap (λ (z : List (List ℕ)). f ∷ z) (fields_tabbed g gs (All-tail Tabless f (g ∷ gs) clear))

-- digits are no tabs
tabless_digits : (s : List ℕ) → all_ascii_digits s ≡ true → Tabless s
tabless_digits [] digits = tabless_nil
tabless_digits (b ∷ bs) digits =
    let p = and_parts (leb 48 b && leb b 57) (all_ascii_digits bs) digits in
    let low = leb-true 48 b (and_parts (leb 48 b) (leb b 57) p.0).0 in
    tabless_cons b bs (λ tab. omega (arith, low)) (tabless_digits bs p.1)

pub tabless_decimal : (n : ℕ) → n < 2 ^ 64 → Tabless (decimal n)
tabless_decimal n fits = tabless_digits (decimal n) (digits_decimal own n fits)
