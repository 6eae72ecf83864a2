-- No new path of a kind is blocked, where all held paths are of that kind and none of the kind goes on after another: the path
-- of a new word, which alone ends with the end sign, and that of a new triple, which has five codes.
use Rattle.std.proofs.Common.{◌≡◌, ℕ, suc, ◌<◌, true, false, not, ◌&&◌, List, [], ◌∷◌, ◌++◌, length, Some, None, Option, sym, refl, ap, ◌∙◌, subst, ⊎_elim, append-nil, arith}
use Rattle.std.proofs.lemmas.Bool.{cases_Bool, cases_lt, and_from, both_ways, not_from_false}
use Rattle.cells.specs.declared.Cell.{Cell}
use Rattle.cells.specs.Cells.{at, is_leaf, child, some_code, all_codes}
use Rattle.cells.specs.Invariant.{Sound}
use Rattle.cells.specs.Trees.{Reach, Held}
use Rattle.cells.specs.Walking.{number_at, turned}
use Rattle.cells.proofs.Basics.{no_some}
use Rattle.cells.proofs.Climbs.{turned_turned, turned_back, codes_from, held_number}
use Rattle.cells.proofs.Counts.{extends}
use Rattle.cells.proofs.Paths.{reach_unique}
use Rattle.cells.proofs.Sounds.{leaf_is, tidy_of}
use Rattle.cells.proofs.Walks.{Codes, child_edge}
use Rattle.double_array.specs.Entries.{Followed, or_stop, follow, is_unblocked}
use Rattle.double_array.proofs.Refusals.{short_new}

turned_onto : (p q r : List ℕ) → turned p q ++ r ≡ turned p (q ++ r)
turned_onto [] q r = refl
turned_onto (a ∷ p) q r = turned_onto p (a ∷ q) r

-- a path turned round with more before it is the path with that after it
turned_more : (q p : List ℕ) → turned (q ++ turned p []) [] ≡ p ++ turned q []
turned_more q p =
    ap (λ (z : List ℕ). turned (z ++ turned p []) []) (sym (turned_back q))
    ∙ ap (λ (z : List ℕ). turned z []) (turned_onto (turned q []) [] (turned p []))
    ∙ turned_turned (turned q []) (turned p []) []
    ∙ turned_turned p [] (turned q [] ++ [])
    ∙ ap (λ (z : List ℕ). p ++ z) (append-nil (turned q []))

-- what is followed, and what is left
record Gone (cs : List Cell) (q r : List ℕ) (f : Followed) : Type 0 where
  front : List ℕ
  whole : r ≡ front ++ f.rest
  reach : Reach cs (turned front q) f.node

gone_by : (cs : List Cell) (q r : List ℕ) (s a : ℕ) (o : Option ℕ) → Reach cs q s → ((t : ℕ) → o ≡ Some t → Gone cs (a ∷ q) r (follow cs t r))
    → Gone cs q (a ∷ r) (or_stop o (record { node = s; rest = a ∷ r }) (λ t. follow cs t r))
gone_by cs q r s a None here on = record { front = []; whole = refl; reach = here }
gone_by cs q r s a (Some t) here on =
    let g = on t refl in
    record { front = a ∷ g.front; whole = ap (λ (z : List ℕ). a ∷ z) g.whole; reach = g.reach }

gone : (cs : List Cell) (q r : List ℕ) (s : ℕ) → Codes r → Reach cs q s → Gone cs q r (follow cs s r)
gone cs q [] s codes here = record { front = []; whole = refl; reach = here }
gone cs q (a ∷ r) s codes here =
    gone_by cs q r s a (child cs s a) here (λ t e. gone cs (a ∷ q) r t codes.1 (s, here, child_edge cs s a codes.0.0 codes.0.1 t e))

-- paths of a kind: the root's is not, none goes on after another, and every held path of the cells is
pub record Kind (cs : List Cell) (P : List ℕ → Type 0) : Type 0 where
  pub some : P [] → ⊥
  pub alone : (p : List ℕ) (a : ℕ) (q : List ℕ) → P p → P (p ++ a ∷ q) → ⊥
  pub held : (p : List ℕ) (n : ℕ) → Held cs (turned p []) n → P p

module _ (cs : List Cell) (is : List ℕ) (sound : Sound cs is) (P : List ℕ → Type 0) (kind : Kind cs P) where
  -- a path of the kind leads to no cell, unless it is held
  no_cell : 1 < length cs → (p : List ℕ) (t : ℕ) → P p → number_at cs p ≡ None → Reach cs (turned p []) t → ⊥
  no_cell long p t of none r =
      let tidy = tidy_of cs is sound long in
      let root : t ≡ 1 → ⊥ = λ e. kind.some (subst P (sym (turned_back p) ∙ ap (λ (z : List ℕ). turned z []) (reach_unique cs (turned p []) [] t r e)) of) in
      let on = extends cs tidy.tree tidy.whole (length cs) (turned p []) t (omega arith) r root in
      let there : Held cs (turned (turned (on.0 ++ turned p []) []) []) on.1 = subst (λ (z : List ℕ). Held cs z on.1) (sym (turned_back (on.0 ++ turned p []))) on.2 in
      further (turned on.0 []) on.1 (subst (λ (z : List ℕ). Held cs (turned z []) on.1) (turned_more on.0 p) there)
    where
      further : (q : List ℕ) (n : ℕ) → Held cs (turned (p ++ q) []) n → ⊥
      further [] n held = no_some (suc n) (sym none ∙ held_number cs p n (subst (λ (z : List ℕ). Held cs (turned z []) n) (append-nil p) held))
      further (a ∷ q) n held = kind.alone p a q of (kind.held (p ++ a ∷ q) n held)

  -- so the path leaves the tree before its end, at a node that is no leaf
  unblocked_long : 1 < length cs → (p : List ℕ) → all_codes p ≡ true → P p → number_at cs p ≡ None → is_unblocked cs p ≡ true
  unblocked_long long p codes of none =
      let g = gone cs [] p 1 (codes_from p codes) refl in
      left (follow cs 1 p) g
    where
      rest_some : (f : Followed) → Gone cs [] p f → (r : List ℕ) → f.rest ≡ r → some_code r ≡ true
      rest_some f g [] e =
          let all : p ≡ g.front = g.whole ∙ ap (λ (z : List ℕ). g.front ++ z) e ∙ append-nil g.front in
          absurd (no_cell long p f.node of none (subst (λ (z : List ℕ). Reach cs (turned z []) f.node) (sym all) g.reach))
      rest_some f g (a ∷ r) e = refl

      not_leaf_at : (f : Followed) → Gone cs [] p f → (r : List ℕ) → f.rest ≡ r → some_code r ≡ true → is_leaf cs f.node ≡ true → ⊥
      not_leaf_at f g [] e some leaf = both_ways false refl some
      not_leaf_at f g (a ∷ r) e some leaf =
          let b = leaf_is (at cs f.node).base leaf in
          let whole : p ≡ g.front ++ a ∷ r = g.whole ∙ ap (λ (z : List ℕ). g.front ++ z) e in
          kind.alone g.front a r (kind.held g.front b.0 (f.node, g.reach, b.1)) (subst P whole of)

      left : (f : Followed) → Gone cs [] p f → (some_code f.rest && not (is_leaf cs f.node)) ≡ true
      left f g =
          let some = rest_some f g f.rest refl in
          and_from (some_code f.rest) (not (is_leaf cs f.node)) some
          (⊎_elim (λ leaf. absurd (not_leaf_at f g f.rest refl some leaf)) (λ inner. not_from_false (is_leaf cs f.node) inner) (cases_Bool (is_leaf cs f.node)))

  -- the path, too, of an array without cells
  pub unblocked : (p : List ℕ) → all_codes p ≡ true → P p → number_at cs p ≡ None → is_unblocked cs p ≡ true
  unblocked [] codes of none = absurd (kind.some of)
  unblocked (a ∷ p) codes of none =
      ⊎_elim
      (λ long. unblocked_long long (a ∷ p) codes of none)
      (λ few. short_new cs is (omega arith) (a ∷ p) (omega arith))
      (cases_lt 1 (length cs))
