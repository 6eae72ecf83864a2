-- A line asks for a command just where it is the text of that command.
use Rattle.std.proofs.Common.{◌≡◌, ℕ, ◌≤◌, Bool, true, false, cond, ◌&&◌, eqb, leb, List, [], ◌∷◌, ◌++◌, length, get_or, drop, Some, None, decimal, All, Option, sym, refl, ap, ◌∙◌, subst, arith}
use Rattle.std.specs.Option.{option_map, option_zip}
use Rattle.std.proofs.lemmas.Bool.{cond-true, eqb-true, le-leb, leb-true, and_from, and_parts}
use Rattle.std.proofs.lemmas.List.Elements.{All-nil, All-cons}
use Rattle.command.specs.Fields.{fields}
use Rattle.command.specs.Numbers.{number_read}
use Rattle.command.specs.Commands.{Asked, add, tie, delete, find, share, list, letter, field, word_fields, pair_fields, count_fields, letter_asks, asked_by}
use Rattle.command.specs.Lines.{tabbed, line_of, Tabless, Writable, Writes, OneToOne}
use Rattle.command.proofs.Texts.{tabbed_fields, tabless_fields, fields_tabbed, tabless_decimal}
use Rattle.command.proofs.Readings.{reads_back}

-- what is written is read

relation_read : (q : ℕ) → q ≤ 255 → number_read 255 (decimal q) ≡ Some q
relation_read q within = (reads_back 255 (omega arith)).written q within

count_read : (c : ℕ) → c ≤ 4294967295 → number_read 4294967295 (decimal c) ≡ Some c
count_read c within = (reads_back 4294967295 (omega arith)).written c within

-- the fields of a sound command have no tab
numbered_clear : (x : List ℕ) (n : ℕ) → Tabless x → n ≤ 4294967295 → All Tabless (x ∷ (decimal n ∷ []))
numbered_clear x n clear within =
    All-cons Tabless x (decimal n ∷ []) clear (All-cons Tabless (decimal n) [] (tabless_decimal n (omega arith)) (All-nil Tabless))

pairs_clear : (x y : List ℕ) (q : ℕ) → Tabless x × Tabless y × (q ≤ 255) → All Tabless (x ∷ (y ∷ (decimal q ∷ [])))
pairs_clear x y q sound = All-cons Tabless x (y ∷ (decimal q ∷ [])) sound.0 (numbered_clear y q sound.1 (omega (arith, sound.2)))

counts_clear : (x y : List ℕ) (q c : ℕ) → Tabless x × Tabless y × (q ≤ 255) × (c ≤ 4294967295) → All Tabless (x ∷ (y ∷ (decimal q ∷ (decimal c ∷ []))))
counts_clear x y q c sound =
    All-cons Tabless x (y ∷ (decimal q ∷ (decimal c ∷ []))) sound.0
    (All-cons Tabless y (decimal q ∷ (decimal c ∷ [])) sound.1 (numbered_clear (decimal q) c (tabless_decimal q (omega (arith, sound.2))) sound.3))

line_reads : (l : ℕ) (f : List ℕ) (fs : List (List ℕ)) (line : List ℕ) → line ≡ l ∷ tabbed (f ∷ fs) → All Tabless (f ∷ fs) → length line ≤ 127
    → asked_by line ≡ letter_asks l (f ∷ fs)
unfolding tabbed
line_reads l f fs line text clear short =
    let whole = l ∷ (9 ∷ (f ++ tabbed fs)) in
    let size : length whole ≤ 127 = subst (λ (z : List ℕ). length z ≤ 127) text short in
    ap asked_by text
    ∙ cond-true (leb (length whole) 127 && eqb 9 9) (letter_asks l (fields (f ++ tabbed fs))) None (and_from _ _ (le-leb (length whole) 127 size) refl)
    ∙ ap (letter_asks l) (fields_tabbed f fs clear)

words_read : (x : List ℕ) (q : ℕ) → q ≤ 255 → word_fields (x ∷ (decimal q ∷ [])) ≡ Some (x, q)
words_read x q within = ap (option_map (λ (n : ℕ). (x, n))) (relation_read q within)

pairs_read : (x y : List ℕ) (q : ℕ) → q ≤ 255 → pair_fields (x ∷ (y ∷ (decimal q ∷ []))) ≡ Some (x, y, q)
pairs_read x y q within = ap (option_map (λ (n : ℕ). (x, y, n))) (relation_read q within)

counts_read : (x y : List ℕ) (q c : ℕ) → q ≤ 255 → c ≤ 4294967295 → count_fields (x ∷ (y ∷ (decimal q ∷ (decimal c ∷ [])))) ≡ Some (x, y, q, c)
counts_read x y q c small within =
    ap (λ (o : Option ℕ). option_map (λ (n : ℕ × ℕ). (x, y, n.0, n.1)) (option_zip o (number_read 4294967295 (decimal c)))) (relation_read q small)
    ∙ ap (λ (o : Option ℕ). option_map (λ (n : ℕ × ℕ). (x, y, n.0, n.1)) (option_zip (Some q) o)) (count_read c within)

reads : (line : List ℕ) (asked : Asked) → Writes line asked → asked_by line ≡ Some asked
reads line (add x y q c) w =
    line_reads (letter "A") x (y ∷ (decimal q ∷ (decimal c ∷ []))) line w.text (counts_clear x y q c w.sound) w.short
    ∙ ap (option_map (λ (p : List ℕ × List ℕ × ℕ × ℕ). add p.0 p.1 p.2 p.3)) (counts_read x y q c w.sound.2 w.sound.3)
reads line (tie x y q c) w =
    line_reads (letter "T") x (y ∷ (decimal q ∷ (decimal c ∷ []))) line w.text (counts_clear x y q c w.sound) w.short
    ∙ ap (option_map (λ (p : List ℕ × List ℕ × ℕ × ℕ). tie p.0 p.1 p.2 p.3)) (counts_read x y q c w.sound.2 w.sound.3)
reads line (delete x y q) w =
    line_reads (letter "D") x (y ∷ (decimal q ∷ [])) line w.text (pairs_clear x y q w.sound) w.short
    ∙ ap (option_map (λ (p : List ℕ × List ℕ × ℕ). delete p.0 p.1 p.2)) (pairs_read x y q w.sound.2)
reads line (find x y q) w =
    line_reads (letter "F") x (y ∷ (decimal q ∷ [])) line w.text (pairs_clear x y q w.sound) w.short
    ∙ ap (option_map (λ (p : List ℕ × List ℕ × ℕ). find p.0 p.1 p.2)) (pairs_read x y q w.sound.2)
reads line (share x y q) w =
    line_reads (letter "S") x (y ∷ (decimal q ∷ [])) line w.text (pairs_clear x y q w.sound) w.short
    ∙ ap (option_map (λ (p : List ℕ × List ℕ × ℕ). share p.0 p.1 p.2)) (pairs_read x y q w.sound.2)
reads line (list x q) w =
    line_reads (letter "L") x (decimal q ∷ []) line w.text (numbered_clear x q w.sound.0 (omega (arith, w.sound.1))) w.short
    ∙ ap (option_map (λ (p : List ℕ × ℕ). list p.0 p.1)) (words_read x q w.sound.1)

-- what is read was written so

-- a `cond` that is some value, by its two ways
some_cond : {A : Type 0} (t : Bool) (u v : Option A) (a : A) (P : Type 0) → cond t u v ≡ Some a → (t ≡ true → u ≡ Some a → P) → (t ≡ false → v ≡ Some a → P) → P
some_cond true u v a P e taken left = taken refl e
some_cond false u v a P e taken left = left refl e

not_some : {A : Type 0} (a : A) (P : Type 0) → None ≡ Some a → P
not_some a P e = absurd (let z : ◌≡◌ {A = ℕ} 0 1 = cc in omega arith)

from_mapped : {A B : Type 0} (f : A → B) (o : Option A) (b : B) → option_map f o ≡ Some b → (p : A) × (o ≡ Some p) × (f p ≡ b)
from_mapped f None b e = not_some b _ e
from_mapped f (Some p) b e = (p, refl, let same : f p ≡ b = cc in same)

from_zipped : {A B : Type 0} (o : Option A) (u : Option B) (p : A × B) → option_zip o u ≡ Some p → (o ≡ Some p.0) × (u ≡ Some p.1)
from_zipped None u p e = not_some p _ e
from_zipped (Some a) None p e = not_some p _ e
from_zipped {A} {B} (Some a) (Some b) p e =
    let same : (a, b) ≡ p = cc in
    (ap (λ (z : A × B). Some z.0) same, ap (λ (z : A × B). Some z.1) same)

two_fields : (fs : List (List ℕ)) → length fs ≡ 2 → fs ≡ field fs 0 ∷ (field fs 1 ∷ [])
two_fields [] e = absurd (omega arith)
two_fields (a ∷ []) e = absurd (omega arith)
two_fields (a ∷ (b ∷ [])) e = refl
two_fields (a ∷ (b ∷ (c ∷ fs))) e = absurd (omega arith)

three_fields : (fs : List (List ℕ)) → length fs ≡ 3 → fs ≡ field fs 0 ∷ (field fs 1 ∷ (field fs 2 ∷ []))
three_fields [] e = absurd (omega arith)
three_fields (a ∷ fs) e = ap (λ (z : List (List ℕ)). a ∷ z) (two_fields fs (omega arith))

four_fields : (fs : List (List ℕ)) → length fs ≡ 4 → fs ≡ field fs 0 ∷ (field fs 1 ∷ (field fs 2 ∷ (field fs 3 ∷ [])))
four_fields [] e = absurd (omega arith)
four_fields (a ∷ fs) e = ap (λ (z : List (List ℕ)). a ∷ z) (three_fields fs (omega arith))

relation_only : (s : List ℕ) (q : ℕ) → number_read 255 s ≡ Some q → (s ≡ decimal q) × (q ≤ 255)
relation_only s q e = (reads_back 255 (omega arith)).only s q e

count_only : (s : List ℕ) (c : ℕ) → number_read 4294967295 s ≡ Some c → (s ≡ decimal c) × (c ≤ 4294967295)
count_only s c e = (reads_back 4294967295 (omega arith)).only s c e

words_only : (fs : List (List ℕ)) (p : List ℕ × ℕ) → word_fields fs ≡ Some p → (fs ≡ p.0 ∷ (decimal p.1 ∷ [])) × (p.1 ≤ 255)
words_only fs p e =
    some_cond (eqb (length fs) 2) _ None p _ e
    (λ size found.
    let m = from_mapped (λ (q : ℕ). (field fs 0, q)) (number_read 255 (field fs 1)) p found in
    let q = relation_only (field fs 1) m.0 m.1 in
    subst (λ (z : List ℕ × ℕ). (fs ≡ z.0 ∷ (decimal z.1 ∷ [])) × (z.1 ≤ 255)) m.2
    (two_fields fs (eqb-true (length fs) 2 size) ∙ ap (λ (s : List ℕ). field fs 0 ∷ (s ∷ [])) q.0, q.1))
    (λ size nothing. not_some p _ nothing)

pairs_only : (fs : List (List ℕ)) (p : List ℕ × List ℕ × ℕ) → pair_fields fs ≡ Some p → (fs ≡ p.0 ∷ (p.1 ∷ (decimal p.2 ∷ []))) × (p.2 ≤ 255)
pairs_only fs p e =
    some_cond (eqb (length fs) 3) _ None p _ e
    (λ size found.
    let m = from_mapped (λ (q : ℕ). (field fs 0, field fs 1, q)) (number_read 255 (field fs 2)) p found in
    let q = relation_only (field fs 2) m.0 m.1 in
    subst (λ (z : List ℕ × List ℕ × ℕ). (fs ≡ z.0 ∷ (z.1 ∷ (decimal z.2 ∷ []))) × (z.2 ≤ 255)) m.2
    (three_fields fs (eqb-true (length fs) 3 size) ∙ ap (λ (s : List ℕ). field fs 0 ∷ (field fs 1 ∷ (s ∷ []))) q.0, q.1))
    (λ size nothing. not_some p _ nothing)

counts_only : (fs : List (List ℕ)) (p : List ℕ × List ℕ × ℕ × ℕ) → count_fields fs ≡ Some p
    → (fs ≡ p.0 ∷ (p.1 ∷ (decimal p.2 ∷ (decimal p.3 ∷ [])))) × (p.2 ≤ 255) × (p.3 ≤ 4294967295)
counts_only fs p e =
    some_cond (eqb (length fs) 4) _ None p _ e
    (λ size found.
    let both = option_zip (number_read 255 (field fs 2)) (number_read 4294967295 (field fs 3)) in
    let m = from_mapped (λ (n : ℕ × ℕ). (field fs 0, field fs 1, n.0, n.1)) both p found in
    let parts = from_zipped (number_read 255 (field fs 2)) (number_read 4294967295 (field fs 3)) m.0 m.1 in
    let q = relation_only (field fs 2) m.0.0 parts.0 in
    let c = count_only (field fs 3) m.0.1 parts.1 in
    subst (λ (z : List ℕ × List ℕ × ℕ × ℕ). (fs ≡ z.0 ∷ (z.1 ∷ (decimal z.2 ∷ (decimal z.3 ∷ [])))) × (z.2 ≤ 255) × (z.3 ≤ 4294967295)) m.2 (
      four_fields fs (eqb-true (length fs) 4 size)
          ∙ ap (λ (s : List ℕ). field fs 0 ∷ (field fs 1 ∷ (s ∷ (field fs 3 ∷ [])))) q.0
          ∙ ap (λ (s : List ℕ). field fs 0 ∷ (field fs 1 ∷ (decimal m.0.0 ∷ (s ∷ [])))) c.0,
      q.1,
      c.1,
    ))
    (λ size nothing. not_some p _ nothing)

-- a line of a letter and its fields, by the shape of the fields
module _ (line : List ℕ) (l : ℕ) (fs : List (List ℕ)) (text : line ≡ l ∷ tabbed fs) (clear : All Tabless fs) (short : length line ≤ 127) (a : Asked) where
  same_text : (n : ℕ) → eqb l n ≡ true → (gs : List (List ℕ)) → fs ≡ gs → line ≡ n ∷ tabbed gs
  same_text n is gs e = text ∙ ap (λ (k : ℕ). k ∷ tabbed fs) (eqb-true l n is) ∙ ap (λ (z : List (List ℕ)). n ∷ tabbed z) e

  by_count : (k : List ℕ → List ℕ → ℕ → ℕ → Asked) (n : ℕ)
      → ((x y : List ℕ) (q c : ℕ) → line_of (k x y q c) ≡ n ∷ tabbed (x ∷ (y ∷ (decimal q ∷ (decimal c ∷ [])))))
      → ((x y : List ℕ) (q c : ℕ) → Tabless x × Tabless y × (q ≤ 255) × (c ≤ 4294967295) → Writable (k x y q c))
      → eqb l n ≡ true → option_map (λ (p : List ℕ × List ℕ × ℕ × ℕ). k p.0 p.1 p.2 p.3) (count_fields fs) ≡ Some a → Writes line a
  by_count k n lines sounds is found =
      let m = from_mapped (λ (p : List ℕ × List ℕ × ℕ × ℕ). k p.0 p.1 p.2 p.3) (count_fields fs) a found in
      let p = m.0 in
      let o = counts_only fs p m.1 in
      let free = subst (All Tabless) o.0 clear in
      subst (Writes line) m.2 record {
        text = same_text n is _ o.0 ∙ sym (lines p.0 p.1 p.2 p.3);
        sound = sounds p.0 p.1 p.2 p.3 (free 0 [] (omega arith), free 1 [] (omega arith), o.1, o.2);
        short = short;
      }

  by_pair : (k : List ℕ → List ℕ → ℕ → Asked) (n : ℕ)
      → ((x y : List ℕ) (q : ℕ) → line_of (k x y q) ≡ n ∷ tabbed (x ∷ (y ∷ (decimal q ∷ []))))
      → ((x y : List ℕ) (q : ℕ) → Tabless x × Tabless y × (q ≤ 255) → Writable (k x y q))
      → eqb l n ≡ true → option_map (λ (p : List ℕ × List ℕ × ℕ). k p.0 p.1 p.2) (pair_fields fs) ≡ Some a → Writes line a
  by_pair k n lines sounds is found =
      let m = from_mapped (λ (p : List ℕ × List ℕ × ℕ). k p.0 p.1 p.2) (pair_fields fs) a found in
      let p = m.0 in
      let o = pairs_only fs p m.1 in
      let free = subst (All Tabless) o.0 clear in
      subst (Writes line) m.2 record {
        text = same_text n is _ o.0 ∙ sym (lines p.0 p.1 p.2);
        sound = sounds p.0 p.1 p.2 (free 0 [] (omega arith), free 1 [] (omega arith), o.1);
        short = short;
      }

  by_word : eqb l (letter "L") ≡ true → option_map (λ (p : List ℕ × ℕ). list p.0 p.1) (word_fields fs) ≡ Some a → Writes line a
  by_word is found =
      let m = from_mapped (λ (p : List ℕ × ℕ). list p.0 p.1) (word_fields fs) a found in
      let o = words_only fs m.0 m.1 in
      let free = subst (All Tabless) o.0 clear in
      subst (Writes line) m.2 record { text = same_text (letter "L") is _ o.0; sound = (free 0 [] (omega arith), o.1); short = short }

  by_letter : letter_asks l fs ≡ Some a → Writes line a
  by_letter e =
      some_cond (eqb l (letter "A")) _ _ a _ e (by_count add (letter "A") (λ x y q c. refl) (λ x y q c s. s)) (λ _ e.
      some_cond (eqb l (letter "T")) _ _ a _ e (by_count tie (letter "T") (λ x y q c. refl) (λ x y q c s. s)) (λ _ e.
      some_cond (eqb l (letter "D")) _ _ a _ e (by_pair delete (letter "D") (λ x y q. refl) (λ x y q s. s)) (λ _ e.
      some_cond (eqb l (letter "F")) _ _ a _ e (by_pair find (letter "F") (λ x y q. refl) (λ x y q s. s)) (λ _ e.
      some_cond (eqb l (letter "S")) _ _ a _ e (by_pair share (letter "S") (λ x y q. refl) (λ x y q s. s)) (λ _ e.
      some_cond (eqb l (letter "L")) _ _ a _ e by_word (λ _ nothing. not_some a _ nothing))))))

split : (line : List ℕ) → get_or line 1 0 ≡ 9 → line ≡ get_or line 0 0 ∷ (9 ∷ drop 2 line)
split [] tab = absurd (omega arith)
split (l ∷ []) tab = absurd (omega arith)
split (l ∷ (t ∷ rest)) tab = ap (λ (k : ℕ). l ∷ (k ∷ rest)) tab

only_written : (line : List ℕ) (asked : Asked) → asked_by line ≡ Some asked → Writes line asked
only_written line asked e =
    some_cond (leb (length line) 127 && eqb (get_or line 1 0) 9) _ None asked _ e
    (λ fits found.
    let p = and_parts (leb (length line) 127) (eqb (get_or line 1 0) 9) fits in
    by_letter line (get_or line 0 0) (fields (drop 2 line))
    (split line (eqb-true (get_or line 1 0) 9 p.1) ∙ ap (λ (z : List ℕ). get_or line 0 0 ∷ z) (sym (tabbed_fields (drop 2 line))))
    (tabless_fields (drop 2 line)) (leb-true (length line) 127 p.0) asked found)
    (λ _ nothing. not_some asked _ nothing)

pub one_to_one : OneToOne
one_to_one = record { read = reads; only = only_written }
