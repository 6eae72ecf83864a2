-- Laws of `cut`.
use Rattle.std.specs.Prelude.{◌≡◌, ℕ, zero, suc, ◌+◌, ◌<◌, ◌≤◌, cond, List, [], ◌∷◌, ◌++◌, length, get_or, take, drop, Some, sum, slice_index, slice_index_or, refl}
use Rattle.std.proofs.Common.{sym, ap, subst, ◌∙◌, arith, add-one}
use Rattle.std.specs.Str.{bytes_eq}
use Rattle.std.proofs.lemmas.List.Sums.{sum_by-cons, sum_by_more, sum_by-take-le}
use Rattle.std.proofs.lemmas.List.{drop-drop, drop_more, take-take, drop-take, length-take-le, length-drop}
use Rattle.lexicon.specs.Rolls.{number_from}
use Rattle.output.specs.Written.{written}
use Rattle.output.proofs.Writes.{written_reads, take_written}
use Rattle.plain_list.specs.Cuts.{cut}
use Rattle.plain_list.specs.Plain.{bytes_in}

pub length_cut : (ns bs : List ℕ) → length (cut ns bs) ≡ length ns
length_cut [] bs = refl
length_cut (n ∷ ns) bs = ap suc (length_cut ns (drop n bs))

-- the word at an index
pub cut_at : (ns bs : List ℕ) (i : ℕ) → i < length ns → slice_index_or (cut ns bs) i [] ≡ take (slice_index ns i) (drop (sum (take i ns)) bs)
cut_at [] bs i h = absurd (omega arith)
cut_at (n ∷ ns) bs zero h = refl
cut_at (n ∷ ns) bs (suc i) h =
    cut_at ns (drop n bs) i (omega arith) ∙ ap (take (slice_index ns i)) (drop-drop (sum (take i ns)) n bs ∙ ap (λ m. drop m bs) (sym (sum_by-cons (λ x. x) n (take i ns))))

-- one word more
pub cut_push : (ns bs : List ℕ) (n : ℕ) → cut (ns ++ n ∷ []) bs ≡ cut ns bs ++ take n (drop (sum ns) bs) ∷ []
cut_push [] bs n = refl
cut_push (m ∷ ns) bs n =
    ap (λ (z : List (List ℕ)). take m bs ∷ z)
    (cut_push ns (drop m bs) n ∙ ap (λ (z : List ℕ). cut ns (drop m bs) ++ take n z ∷ []) (drop-drop (sum ns) m bs ∙ ap (λ k. drop k bs) (sym (sum_by-cons (λ x. x) m ns))))

-- the words hang only on the bytes that they take up
pub cut_same : (ns bs cs : List ℕ) → take (sum ns) bs ≡ take (sum ns) cs → cut ns bs ≡ cut ns cs
cut_same [] bs cs e = refl
cut_same (n ∷ ns) bs cs e =
    let s = sum_by-cons (λ x. x) n ns in
    let e' : take (n + sum ns) bs ≡ take (n + sum ns) cs = subst (λ (k : ℕ). take k bs ≡ take k cs) s e in
    let front : take n bs ≡ take n cs = sym (take-take n (n + sum ns) bs (omega arith)) ∙ ap (take n) e' ∙ take-take n (n + sum ns) cs (omega arith) in
    let back : take (sum ns) (drop n bs) ≡ take (sum ns) (drop n cs) = sym (drop-take n (sum ns) bs) ∙ ap (drop n) e' ∙ drop-take n (sum ns) cs in
    ap (λ (z : List ℕ). z ∷ cut ns (drop n bs)) front ∙ ap (λ (z : List (List ℕ)). take n cs ∷ z) (cut_same ns (drop n bs) (drop n cs) back)

-- each word lies inside
pub next_inside : (ns : List ℕ) (i : ℕ) → i < length ns → sum (take i ns) + slice_index ns i ≤ sum ns
next_inside ns i h = omega (arith, sum_by_more (λ x. x) ns i 0 h, sum_by-take-le (λ x. x) ns (i + 1))

-- the length of a word, where the words lie inside the bytes
pub cut_long : (ns bs : List ℕ) (i : ℕ) → i < length ns → sum ns ≤ length bs → length (slice_index_or (cut ns bs) i []) ≡ slice_index ns i
cut_long ns bs i h fit =
    ap length (cut_at ns bs i h) ∙ length-take-le (slice_index ns i) (drop (sum (take i ns)) bs) (simp length-drop (omega (arith, next_inside ns i h)))

-- the words take as many bytes as their lengths say
pub bytes_cut : (ns bs : List ℕ) → sum ns ≤ length bs → bytes_in (cut ns bs) ≡ sum ns
bytes_cut [] bs fit = refl
bytes_cut (n ∷ ns) bs fit =
    let s = sum_by-cons (λ x. x) n ns in
    let more : sum ns ≤ length (drop n bs) = simp length-drop (omega arith) in
    sum_by-cons length (take n bs) (cut ns (drop n bs)) ∙ omega (arith, length-take-le n bs (omega arith), bytes_cut ns (drop n bs) more)

-- a word that is written after the others is the last
pub cut_write : (ns bs w : List ℕ) → sum ns + length w ≤ length bs → cut (ns ++ length w ∷ []) (written bs (sum ns) w) ≡ cut ns bs ++ w ∷ []
cut_write ns bs w fit =
    cut_push ns (written bs (sum ns) w) (length w)
    ∙ ap (λ (z : List (List ℕ)). z ++ take (length w) (drop (sum ns) (written bs (sum ns) w)) ∷ []) (cut_same ns (written bs (sum ns) w) bs (take_written bs (sum ns) w [] fit))
    ∙ ap (λ (z : List ℕ). cut ns bs ++ z ∷ []) (written_reads bs (sum ns) w [] fit)

-- one step of a search: the word at the index i, which starts at `at`, or a later one
pub search_step : (ns bs w : List ℕ) (i at : ℕ) → i < length ns
    → number_from (i + 1) (cut (drop i ns) (drop at bs)) w
    ≡ cond (bytes_eq (take (slice_index ns i) (drop at bs)) w) (Some (i + 1)) (number_from (i + 1 + 1) (cut (drop (i + 1) ns) (drop (at + slice_index ns i) bs)) w)
search_step ns bs w i at h =
    let n = get_or ns i 0 in
    ap (λ (z : List ℕ). number_from (i + 1) (cut z (drop at bs)) w) (drop_more ns i 0 h)
    ∙ ap (λ (z : List ℕ). cond (bytes_eq (take n (drop at bs)) w) (Some (i + 1)) (number_from (suc (i + 1)) (cut (drop (i + 1) ns) z) w)) (drop-drop n at bs)
    ∙ ap (λ (k : ℕ). cond (bytes_eq (take n (drop at bs)) w) (Some (i + 1)) (number_from k (cut (drop (i + 1) ns) (drop (at + n) bs)) w)) (sym (add-one (i + 1)))
