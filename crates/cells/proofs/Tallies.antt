-- The beginnings of paths, and that the cells in use are one more than those of the held paths.
use Rattle.std.proofs.Common.{◌≡◌, ℕ, zero, suc, ◌+◌, ◌<◌, ◌⊎◌, List, [], ◌∷◌, ◌++◌, map, length, is_some, Some, Decides, sym, refl, ap, ◌∙◌, subst, inl, inr, ⊎_elim, append_assoc, arith}
use Rattle.std.proofs.lemmas.List.{length-map}
use Rattle.std.proofs.lemmas.Bool.Decides.{Decides-or, not_from_Decides}
use Rattle.std.proofs.lemmas.Bool.{cond_both, false≢true}
use Rattle.cells.specs.declared.Cell.{Cell}
use Rattle.cells.specs.Walking.{number_at, turned}
use Rattle.members.specs.Lists.{In, Apart}
use Rattle.cells.specs.Trees.{Held}
use Rattle.cells.specs.Counting.{in_use, has, with_beginning, add_beginnings, beginnings}
use Rattle.cells.specs.Invariant.{Sound}
use Rattle.cells.specs.Laws.{Holds, BeginningsOf}
use Rattle.cells.proofs.Basics.{some_is}
use Rattle.members.proofs.Members.{in_map, map_in}
use Rattle.cells.proofs.Begins.{Beginnings}
use Rattle.cells.proofs.Counts.{counts}
use Rattle.cells.proofs.Climbs.{turned_back, number_held, held_number, number_positive}
use Rattle.cells.proofs.Numbers.{decides_same}
use Rattle.cells.proofs.Sounds.{tidy_of}

decides_has : (bs : List (List ℕ)) (p : List ℕ) → Decides (has bs p) (In bs p)
decides_has [] p = (λ e. absurd (false≢true e), λ i. absurd i)
decides_has (q ∷ qs) p = Decides-or _ _ (decides_same p q) (decides_has qs p)

-- one more
in_add : (p : List ℕ) (bs : List (List ℕ)) (x : List ℕ) → In (with_beginning p bs) x → (x ≡ p) ⊎ In bs x
in_add p bs x = cond_both (has bs p) bs (p ∷ bs) (λ l. In l x → (x ≡ p) ⊎ In bs x) (λ e i. inr i) (λ e i. i)

add_old : (p : List ℕ) (bs : List (List ℕ)) (x : List ℕ) → In bs x → In (with_beginning p bs) x
add_old p bs x i = cond_both (has bs p) bs (p ∷ bs) (λ l. In l x) (λ e. i) (λ e. inr i)

add_new : (p : List ℕ) (bs : List (List ℕ)) → In (with_beginning p bs) p
add_new p bs = cond_both (has bs p) bs (p ∷ bs) (λ l. In l p) (λ e. (decides_has bs p).0 e) (λ e. inl refl)

apart_add : (p : List ℕ) (bs : List (List ℕ)) → Apart bs → Apart (with_beginning p bs)
apart_add p bs a = cond_both (has bs p) bs (p ∷ bs) Apart (λ e. a) (λ e. (not_from_Decides (has bs p) (decides_has bs p) e, a))

-- the beginnings of one path more
apart_path : (q k : List ℕ) (bs : List (List ℕ)) → Apart bs → Apart (add_beginnings q k bs)
apart_path q [] bs a = a
apart_path q (c ∷ k) bs a = apart_add (q ++ c ∷ []) (add_beginnings (q ++ c ∷ []) k bs) (apart_path (q ++ c ∷ []) k bs a)

path_old : (q k : List ℕ) (bs : List (List ℕ)) (x : List ℕ) → In bs x → In (add_beginnings q k bs) x
path_old q [] bs x i = i
path_old q (c ∷ k) bs x i = add_old (q ++ c ∷ []) (add_beginnings (q ++ c ∷ []) k bs) x (path_old (q ++ c ∷ []) k bs x i)

path_new : (q : List ℕ) (c : ℕ) (x y : List ℕ) (bs : List (List ℕ)) → In (add_beginnings q (c ∷ (x ++ y)) bs) (q ++ c ∷ x)
path_new q c [] y bs = add_new (q ++ c ∷ []) (add_beginnings (q ++ c ∷ []) y bs)
path_new q c (d ∷ x) y bs =
    add_old (q ++ c ∷ []) (add_beginnings (q ++ c ∷ []) (d ∷ (x ++ y)) bs) (q ++ c ∷ d ∷ x)
    (subst (In (add_beginnings (q ++ c ∷ []) (d ∷ (x ++ y)) bs)) (append_assoc q (c ∷ []) (d ∷ x)) (path_new (q ++ c ∷ []) d x y bs))

-- x is q and some of what follows it
abbrev Front : List ℕ → List ℕ → List ℕ → Type 0
Front q k x = (c : ℕ) × (d : List ℕ) × (y : List ℕ) × (k ≡ c ∷ (d ++ y)) × (x ≡ q ++ c ∷ d)

in_path : (q k : List ℕ) (bs : List (List ℕ)) (x : List ℕ) → In (add_beginnings q k bs) x → Front q k x ⊎ In bs x
in_path q [] bs x i = inr i
in_path q (c ∷ k) bs x i =
    ⊎_elim {C = Front q (c ∷ k) x ⊎ In bs x}
    (λ e. inl (c, [], k, refl, e))
    (λ j. ⊎_elim {C = Front q (c ∷ k) x ⊎ In bs x}
    (λ h. inl (c, h.0 ∷ h.1, h.2, ap (λ l. c ∷ l) h.3, h.4 ∙ append_assoc q (c ∷ []) (h.0 ∷ h.1)))
    (λ h. inr h)
    (in_path (q ++ c ∷ []) k bs x j))
    (in_add (q ++ c ∷ []) (add_beginnings (q ++ c ∷ []) k bs) x i)

-- all of them
apart_all : (ks : List (List ℕ)) → Apart (beginnings ks)
apart_all [] = tt
apart_all (k ∷ ks) = apart_path [] k (beginnings ks) (apart_all ks)

in_all : (ks : List (List ℕ)) (x : List ℕ) → In (beginnings ks) x → (y : List ℕ) × In ks (x ++ y) × (x ≡ [] → ⊥)
in_all [] x i = absurd i
in_all (k ∷ ks) x i =
    ⊎_elim {C = (y : List ℕ) × In (k ∷ ks) (x ++ y) × (x ≡ [] → ⊥)}
    (λ h. (h.2, inl (ap (λ l. l ++ h.2) h.4 ∙ sym h.3), λ e. omega (arith, ap length (sym h.4 ∙ e))))
    (λ j. let h = in_all ks x j in (h.0, inr h.1, h.2))
    (in_path [] k (beginnings ks) x i)

all_in : (ks : List (List ℕ)) (x y : List ℕ) → In ks (x ++ y) → (x ≡ [] → ⊥) → In (beginnings ks) x
all_in [] x y i ne = absurd i
all_in (k ∷ ks) [] y i ne = absurd (ne refl)
all_in (k ∷ ks) (c ∷ x) y (inl e) ne = subst (λ l. In (add_beginnings [] l (beginnings ks)) (c ∷ x)) e (path_new [] c x y (beginnings ks))
all_in (k ∷ ks) (c ∷ x) y (inr i) ne = path_old [] k (beginnings ks) (c ∷ x) (all_in ks (c ∷ x) y i ne)

pub beginning : (ks : List (List ℕ)) → BeginningsOf ks (beginnings ks)
beginning ks = record {
  sound = λ p i. let k = in_all ks p i in (k.2, (k.0, k.1));
  whole = λ p rest ne i. all_in ks p rest i ne;
  once = apart_all ks;
}

-- turned round
abbrev round : List ℕ → List ℕ
round p = turned p []

from_map : (bs : List (List ℕ)) (p : List ℕ) → In (map round bs) p → In bs (round p)
from_map bs p i = let k = map_in round bs p i in subst (In bs) (sym (ap round k.2 ∙ turned_back k.0)) k.1

apart_map : (bs : List (List ℕ)) → Apart bs → Apart (map round bs)
apart_map [] a = tt
apart_map (b ∷ bs) a = (λ i. a.0 (subst (In bs) (turned_back b) (from_map bs (round b) i)), apart_map bs a.1)

turned_rest : (p q r : List ℕ) → turned p (q ++ r) ≡ turned p q ++ r
turned_rest [] q r = refl
turned_rest (a ∷ p) q r = turned_rest p (a ∷ q) r

turned_append : (x y q : List ℕ) → turned (x ++ y) q ≡ turned y (turned x q)
turned_append [] y q = refl
turned_append (a ∷ x) y q = turned_append x y (a ∷ q)

round_append : (x y : List ℕ) → round (x ++ y) ≡ round y ++ round x
round_append x y = turned_append x y [] ∙ turned_rest y [] (round x)

module _ (cs : List Cell) (ks : List (List ℕ)) (h : Holds cs ks) where
  held_by : (p : List ℕ) → In ks p → (n : ℕ) × Held cs (round p) n
  held_by p i = by (some_is (number_at cs p) (h.sound p i))
    where
      by : (u : ℕ) × (number_at cs p ≡ Some u) → (n : ℕ) × Held cs (round p) n
      by (zero, e) = absurd (number_positive cs p e)
      by (suc n, e) = (n, number_held cs p n e)

  held_in : (p : List ℕ) (n : ℕ) → Held cs p n → In ks (round p)
  held_in p n k = h.whole (round p) (ap is_some (held_number cs (round p) n (subst (λ l. Held cs l n) (sym (turned_back p)) k)))

  all_begin : Beginnings cs (map round (beginnings ks))
  all_begin = record {
    apart = apart_map (beginnings ks) (apart_all ks);
    some = λ p i e. (in_all ks (round p) (from_map (beginnings ks) p i)).2 (ap round e);
    sound = λ p i.
        let k = in_all ks (round p) (from_map (beginnings ks) p i) in
        let n = held_by (round p ++ k.0) k.1 in
        (round k.0, n.0, subst (λ l. Held cs l n.0) (round_append (round p) k.0 ∙ ap (λ l. round k.0 ++ l) (turned_back p)) n.1);
    whole = λ p ne b.
        let i : In ks (round (b.0 ++ p)) = held_in (b.0 ++ p) b.1 b.2 in
        let j : In (beginnings ks) (round p) = all_in ks (round p) (round b.0) (subst (In ks) (round_append b.0 p) i) (λ e. ne (sym (turned_back p) ∙ ap round e)) in
        subst (In (map round (beginnings ks))) (turned_back p) (in_map round (beginnings ks) (round p) j);
  }

pub counting : (cs : List Cell) (is : List ℕ) (ks : List (List ℕ)) → 1 < length cs → Sound cs is → Holds cs ks → in_use cs ≡ 1 + length (beginnings ks)
counting cs is ks long h k =
    let t = tidy_of cs is h long in
    counts cs (map round (beginnings ks)) t.tree t.whole (all_begin cs ks k) ∙ ap (λ n. 1 + n) (length-map (beginnings ks) round)
