-- One roll after another: the numbers of its words.
use Rattle.std.proofs.Common.{◌≡◌, ℕ, suc, ◌+◌, ◌<◌, ◌≤◌, Bool, true, false, cond, List, [], ◌∷◌, ◌++◌, length, Some, None, Ok, Err, Option, Result, sym, refl, ap, ◌∙◌, subst, ⊎_elim, arith, length-append, append_assoc}
use Rattle.std.specs.Str.{bytes_eq}
use Rattle.std.proofs.lemmas.Bool.{cond-true, cond-false, cases_Bool}
use Rattle.lexicon.specs.declared.ListFault.{ListFault}
use Rattle.lexicon.specs.declared.ListFault.TheVariants.{WordLength}
use Rattle.lexicon.specs.Rolls.{label_sized, number_from, number_of, Lawful}
use Rattle.lexicon.specs.Answers.{held_or_next, find_answer, enter_answer, is_new, EnterLeaves}
use Rattle.lexicon.proofs.Numbers.{number_some, none_parts, lawful_push}
use Rattle.lexicon.proofs.Entries.{new_is}

-- a word of the first roll keeps its number
front_from : (n : ℕ) (vs ws : List (List ℕ)) (w : List ℕ) (m : ℕ) → number_from n vs w ≡ Some m → number_from n (vs ++ ws) w ≡ Some m
front_from n [] ws w m e = absurd (let z : ◌≡◌ {A = ℕ} 0 1 = cc in omega arith)
front_from n (u ∷ vs) ws w m e =
    ⊎_elim
    (λ same. cond-true (bytes_eq u w) (Some n) (number_from (suc n) (vs ++ ws) w) same ∙ sym (cond-true (bytes_eq u w) (Some n) (number_from (suc n) vs w) same) ∙ e)
    (λ other.
    cond-false (bytes_eq u w) (Some n) (number_from (suc n) (vs ++ ws) w) other
    ∙ front_from (suc n) vs ws w m (sym (cond-false (bytes_eq u w) (Some n) (number_from (suc n) vs w) other) ∙ e))
    (cases_Bool (bytes_eq u w))

-- a word that the first roll lacks is sought in the second
back_from : (n : ℕ) (vs ws : List (List ℕ)) (w : List ℕ) → number_from n vs w ≡ None → number_from n (vs ++ ws) w ≡ number_from (n + length vs) ws w
back_from n [] ws w e = ap (λ (k : ℕ). number_from k ws w) (let z : n ≡ n + 0 = omega arith in z)
back_from n (u ∷ vs) ws w e =
    let parts = none_parts n u vs w e in
    cond-false (bytes_eq u w) (Some n) (number_from (suc n) (vs ++ ws) w) parts.0
    ∙ back_from (suc n) vs ws w parts.1
    ∙ ap (λ (k : ℕ). number_from k ws w) (let z : suc n + length vs ≡ n + suc (length vs) = omega arith in z)

-- numbers from a later one on
abbrev later : ℕ → Option ℕ → Option ℕ
later k None = None
later k (Some m) = Some (m + k)

later_cond : (b : Bool) (k n : ℕ) (o : Option ℕ) → later k (cond b (Some n) o) ≡ cond b (Some (n + k)) (later k o)
later_cond true k n o = refl
later_cond false k n o = refl

shifted : (k n : ℕ) (ws : List (List ℕ)) (w : List ℕ) → number_from (n + k) ws w ≡ later k (number_from n ws w)
shifted k n [] w = refl
shifted k n (u ∷ ws) w =
    ap (λ (o : Option ℕ). cond (bytes_eq u w) (Some (n + k)) o)
    (ap (λ (j : ℕ). number_from j ws w) (let z : suc (n + k) ≡ suc n + k = omega arith in z) ∙ shifted k (suc n) ws w)
    ∙ sym (later_cond (bytes_eq u w) k n (number_from (suc n) ws w))

module _ (a b : List (List ℕ)) (w : List ℕ) where
  pub number_front : (m : ℕ) → number_of a w ≡ Some m → number_of (a ++ b) w ≡ Some m
  number_front m e = front_from 1 a b w m e

  pub number_back : number_of a w ≡ None → number_of (a ++ b) w ≡ later (length a) (number_of b w)
  number_back e = back_from 1 a b w e ∙ shifted (length a) 1 b w

  none_later : (o : Option ℕ) (k : ℕ) → later k o ≡ None → o ≡ None
  none_later None k e = refl
  none_later (Some m) k e = absurd (let z : ◌≡◌ {A = ℕ} 0 1 = cc in omega arith)

  -- a word that both together lack, each lacks
  pub none_both : number_of (a ++ b) w ≡ None → (number_of a w ≡ None) × (number_of b w ≡ None)
  none_both e = by (number_of a w) refl
    where
      by : (o : Option ℕ) → number_of a w ≡ o → (number_of a w ≡ None) × (number_of b w ≡ None)
      by None f = (f, none_later (number_of b w) (length a) (sym (number_back f) ∙ e))
      by (Some m) f = absurd (let g : Some m ≡ None = sym (number_front m f) ∙ e in let z : ◌≡◌ {A = ℕ} 0 1 = cc in omega arith)

-- what a list that found or lacks a word says of it
pub found_parts : (r : List (List ℕ)) (w : List ℕ) (o : Option ℕ) → ◌≡◌ {A = Result (Option ℕ) ListFault} (Ok o) (find_answer r w) → (label_sized w ≡ true) × (number_of r w ≡ o)
found_parts r w o e =
    ⊎_elim
    (λ sized. let said : ◌≡◌ {A = Result (Option ℕ) ListFault} (Ok o) (Ok (number_of r w)) = e ∙ cond-true (label_sized w) (Ok (number_of r w)) (Err WordLength) sized in
    let same : number_of r w ≡ o = cc in (sized, same))
    (λ misfit. absurd (let said : ◌≡◌ {A = Result (Option ℕ) ListFault} (Ok o) (Err WordLength) = e ∙ cond-false (label_sized w) (Ok (number_of r w)) (Err WordLength) misfit in
    let z : ◌≡◌ {A = ℕ} 0 1 = cc in omega arith))
    (cases_Bool (label_sized w))

pub found_from : (r : List (List ℕ)) (w : List ℕ) (o : Option ℕ) → label_sized w ≡ true → number_of r w ≡ o → ◌≡◌ {A = Result (Option ℕ) ListFault} (Ok o) (find_answer r w)
found_from r w o sized e = ap (λ (z : Option ℕ). Ok z) (sym e) ∙ sym (cond-true (label_sized w) (Ok (number_of r w)) (Err WordLength) sized)

module _ (a b : List (List ℕ)) (w : List ℕ) where
  pub find_front : (m : ℕ) → ◌≡◌ {A = Result (Option ℕ) ListFault} (Ok (Some m)) (find_answer a w) → ◌≡◌ {A = Result (Option ℕ) ListFault} (Ok (Some m)) (find_answer (a ++ b) w)
  find_front m e = let k = found_parts a w (Some m) e in found_from (a ++ b) w (Some m) k.0 (number_front a b w m k.1)

  pub find_back : (m n : ℕ) → n ≡ length a → ◌≡◌ {A = Result (Option ℕ) ListFault} (Ok None) (find_answer a w) → ◌≡◌ {A = Result (Option ℕ) ListFault} (Ok (Some m)) (find_answer b w)
      → ◌≡◌ {A = Result (Option ℕ) ListFault} (Ok (Some (n + m))) (find_answer (a ++ b) w)
  find_back m n long e f =
      let k = found_parts a w None e in
      let h = found_parts b w (Some m) f in
      found_from (a ++ b) w (Some (n + m)) k.0 (number_back a b w k.1 ∙ ap (later (length a)) h.1 ∙ ap (λ (z : ℕ). Some z) (let z : m + length a ≡ n + m = omega arith in z))

  pub find_neither : ◌≡◌ {A = Result (Option ℕ) ListFault} (Ok None) (find_answer a w) → ◌≡◌ {A = Result (Option ℕ) ListFault} (Ok None) (find_answer b w) → ◌≡◌ {A = Result (Option ℕ) ListFault} (Ok None) (find_answer (a ++ b) w)
  find_neither e f =
      let k = found_parts a w None e in
      let h = found_parts b w None f in
      found_from (a ++ b) w None k.0 (number_back a b w k.1 ∙ ap (later (length a)) h.1)

  -- the number of a word of the second roll, after the first, is one of both together
  pub back_bound : (m n : ℕ) → n ≡ length a → length (a ++ b) ≤ 65535 → ◌≡◌ {A = Result (Option ℕ) ListFault} (Ok (Some m)) (find_answer b w) → n + m ≤ 65535
  back_bound m n long few f = let h = found_parts b w (Some m) f in omega (arith, (number_some b w m h.1).1, length-append a b)

-- an own list took a word that both lists lack
module _ {O : Type 0} (roll : O → List (List ℕ)) (room : O → List ℕ → Bool) (enters : O → List ℕ → O → Type 0) (a : List (List ℕ)) (s t : O) (w : List ℕ) (n : ℕ) where
  pub record EnteredAbove : Type 0 where
    pub sized : label_sized w ≡ true
    pub absent : number_of (a ++ roll s) w ≡ None
    pub next : n ≡ length (roll s) + 1
    pub free : room s w ≡ true
    pub arrays : enters s w t
    pub grown : a ++ roll t ≡ (a ++ roll s) ++ w ∷ []
    pub lawful : Lawful (a ++ roll t)

  pub entered : Lawful (a ++ roll s) → length a + length (roll s) < 65535 → ◌≡◌ {A = Result (Option ℕ) ListFault} (Ok None) (find_answer (a ++ roll s) w)
      → ◌≡◌ {A = Result ℕ ListFault} (Ok n) (enter_answer (roll s) (room s w) w) → EnterLeaves roll enters s w t (is_new (roll s) (room s w) w) → EnteredAbove
  entered lawful few lacks answer leaves =
      let k = found_parts (a ++ roll s) w None lacks in
      let none = (none_both a (roll s) w k.1).1 in
      let said : ◌≡◌ {A = Result ℕ ListFault} (Ok n) (held_or_next None (room s w) (length (roll s))) =
      answer ∙ cond-true (label_sized w) (held_or_next (number_of (roll s) w) (room s w) (length (roll s))) (Err WordLength) k.0
      ∙ ap (λ (o : Option ℕ). held_or_next o (room s w) (length (roll s))) none in
      by k.0 k.1 none (room s w) refl said
    where
      by : label_sized w ≡ true → number_of (a ++ roll s) w ≡ None → number_of (roll s) w ≡ None → (free : Bool) → room s w ≡ free
          → ◌≡◌ {A = Result ℕ ListFault} (Ok n) (held_or_next None free (length (roll s))) → EnteredAbove
      by sized absent none false e said = absurd (let z : ◌≡◌ {A = ℕ} 0 1 = cc in omega arith)
      by sized absent none true e said =
          let new = subst (EnterLeaves roll enters s w t) (new_is (roll s) (room s w) w sized none e) leaves in
          let next : n ≡ length (roll s) + 1 = cc in
          let grown : a ++ roll t ≡ (a ++ roll s) ++ w ∷ [] = ap (λ (r : List (List ℕ)). a ++ r) new.1 ∙ sym (append_assoc a (roll s) (w ∷ [])) in
          record {
            sized = sized;
            absent = absent;
            next = next;
            free = e;
            arrays = new.0;
            grown = grown;
            lawful = subst Lawful (sym grown) (lawful_push (a ++ roll s) w lawful (omega (arith, length-append a (roll s))) sized absent);
          }
