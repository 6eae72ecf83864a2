-- The share in terms of the triples that are present after a history.
use Rattle.std.specs.Prelude.{◌≡◌, ℕ, ◌≤◌, true, List, map, Ok, Result}
use Rattle.refusal.specs.declared.Refusal.{Refusal}
use Rattle.script.specs.declared.Script.{Ghosts as Scripts}
use Rattle.lexicon.specs.declared.ReadableList.{Ghosts as Lists}
use Rattle.record.specs.Soundness.{sound_tally}
use Rattle.record.specs.declared.Tally.{Tally}
use Rattle.members.specs.Lists.{In}
use Rattle.history.specs.Kits.{Kit, kit_of, State, number_in}
use Rattle.history.specs.Refusals.{first, sought_refusals}
use Rattle.history.specs.Runs.{History, PresentTriple, same_word, same_triple, present, Reached}
use Rattle.history.specs.Laws.{Unless, has_triple}
use Rattle.share.specs.Rounding.{share_of}
use Rattle.share.specs.Totals.{CountedTriple, total_of}

-- the meaning that a script and a list give to a store of tallies
abbrev pub tally_kit : {S A L : Type 0} → Scripts S A → Lists L → Kit S L Tally
tally_kit s l = kit_of s l (record { sound = sound_tally })

-- a present triple of a history, in words, with the count last written for it
abbrev pub with_count : {S : Type 0} → PresentTriple S Tally → CountedTriple (List S)
with_count e = record { x = e.x; relation = e.relation; count = e.kept.count }

module _ {S L : Type 0} (K : Kit S L Tally) where
  -- T: the sum of the counts of all the triples that are present after a history and have the word and the relation
  abbrev pub total_after : History S Tally → List S → ℕ → ℕ
  total_after h x q = total_of (same_word K) (map with_count (present K h)) x q

  -- what the share of (x, y, q) answers in a state s, of every history that led to it
  pub record ShareLaw (s : State L Tally) (x y : List S) (q : ℕ) (r : Result ℕ Refusal) : Type 0 where
    -- of a present triple it is the share of the count last written for it in T
    pub shared : (h : History S Tally) → Reached K h s → (e : PresentTriple S Tally) → In (present K h) e
        → same_triple K x y q e ≡ true
        → r ≡ Ok (share_of e.kept.count (total_after h x q))
    -- and T is at least 1, since the tally of every present triple is sound: the share of the total 0 never comes
    pub positive : (h : History S Tally) → Reached K h s → (e : PresentTriple S Tally) → In (present K h) e
        → same_triple K x y q e ≡ true
        → 1 ≤ total_after h x q
    -- it is refused by the first refusal that applies, judged by the roll and the present triples, and by no other
    pub refused : (h : History S Tally) → Reached K h s
        → Unless (first (sought_refusals x y q (number_in K s.list x) (number_in K s.list y)
        (has_triple K (present K h) x y q))) r
