use Rattle.std.proofs.Common.{◌≡◌, ℕ, ◌+◌, ◌<◌, List, length, Some, Result, OnErr, sym, refl, ap, ◌∙◌, subst, arith}
use Rattle.std.proofs.lemmas.Result.{err_from_is_err_and}
use Rattle.trie_list.specs.Faults.{list_fault_of}
use Rattle.cells.specs.Placing.{Arrays, enter}
use Rattle.double_array.specs.declared.faults.PathFault.{PathFault}
use Rattle.double_array.specs.Entries.{EntersPath, refusal}
use Rattle.double_array.specs.Views.{cells_of, index_of}
use Rattle.trie_list.specs.Paths.{path_of_word}
use Rattle.trie_list.proofs.RollsLemmas.{grown_listed, grown_words}
use Rattle.trie_list.proofs.Lists.{listed, length_roll, placed, append_refused, refused_place, room_yes, room_full, entered_as}
use Rattle.trie_list.proofs.PathFaults.{passed_ok, passed_err}
use Rattle.trie_list.proofs.list.TrieList.append.Goals as goal
use Rattle.trie_list.proofs.list.TrieList.append.Goals.{In_ok-map_err}

-- a number was left, and the word's path was entered
module _ (c : In_ok-map_err) where
  left : c.args.self.now.count < length (index_of c.args.self.now.array)
  left = omega (arith, ap length c.index.ensures, c.if-self-index.false)

  abbrev after : Arrays
  after = record { cells = cells_of c.enter.new.self; index = index_of c.enter.new.self }

  did : enter (cells_of c.args.self.now.array) (index_of c.args.self.now.array) (path_of_word c.args.word.now) c.args.self.now.count ≡ Some after
  did = entered_as c.args.self.now c.args.word.now c.requires.sized c.requires.absent (λ k. omega (arith, c.type_inv.word k)) left _ after (c.as_slice.ensures.value ∙ c.path_of_word-path.ensures) (subst (λ (m : Result (Unit {0}) PathFault). EntersPath (cells_of c.args.self.now.array) (index_of c.args.self.now.array) c.as_slice.result.now (c.args.self.now.count + 1) m (cells_of c.enter.new.self) (index_of c.enter.new.self)) (passed_ok c.enter.result c.map_err.result c.map_err.ensures.cases c.in_ok-map_err.was) c.enter.ensures.cells).1

pub returns-then-self-index : goal.returns-then-self-index
returns-then-self-index c =
    let s = c.args.self.now in
    (room_full s c.args.word.now (omega (arith, ap length c.index.ensures, c.if-self-index.true)), refl, refl)

pub returns-in_err-map_err : goal.returns-in_err-map_err
returns-in_err-map_err c =
    let s = c.args.self.now in
    let w = c.args.word.now in
    let m = passed_err c.enter.result c.map_err.result c.in_err-map_err.field-0.0 c.map_err.ensures.cases c.in_err-map_err.was in
    let e = m.0 in
    let cells = subst (λ (k : Result (Unit {0}) PathFault). EntersPath (cells_of s.array) (index_of s.array) c.as_slice.result.now (s.count + 1) k (cells_of c.enter.new.self) (index_of c.enter.new.self)) m.1 c.enter.ensures.cells in
    let same = subst (λ (k : Result (Unit {0}) PathFault). OnErr k (c.enter.new.self ≡ s.array)) m.1 c.enter.ensures.same in
    let slice = c.as_slice.ensures.value ∙ c.path_of_word-path.ensures in
    let long = ap length c.index.ensures in
    let left : s.count < length (index_of s.array) = omega (arith, long, c.if-self-index.false) in
    let said = refused_place s w c.requires.sized c.requires.absent (λ k. omega (arith, c.type_inv.word k)) left e
    (subst (λ (z : List ℕ). refusal (cells_of s.array) (index_of s.array) z (s.count + 1) ≡ Some e) slice cells.0) in
    let p = err_from_is_err_and c.from_residual.result c.from_residual.ensures.1 in
    append_refused s w c.from_residual.result _ p.0 p.1 (p.2 ∙ m.2 ∙ ap list_fault_of said.0) said.1 same refl

pub invariant_of-self-2 : goal.invariant_of-self-2
invariant_of-self-2 c =
    let s = c.args.self.now in
    let at = (goal.at.invariant_of-self-2 c).In_ok-map_err in
    let l = grown_listed (cells_of s.array) (index_of s.array) s.count (listed s) c.args.word.now (after at) c.requires.sized (left at) (omega (arith, left at, s.few)) (did at) in
    record { within = l.within; few = omega (arith, at.enter.ensures.sizes.1, s.few); numbered = l.numbered; unnumbered = l.unnumbered; counted = l.counted; worded = l.worded }

pub returns : goal.returns
returns c =
    let s = c.args.self.now in
    let w = c.args.word.now in
    let at = (goal.at.returns c).In_ok-map_err in (
      room_yes s w c.requires.sized c.requires.absent (λ k. omega (arith, c.type_inv.word k)) (left at) (after at) (did at),
      ap (λ (n : ℕ). n + 1) (sym (length_roll s)),
      placed s w _ (did at),
      grown_words (cells_of s.array) (index_of s.array) s.count (listed s) w (after at) c.requires.sized (left at) (omega (arith, left at, s.few)) (did at),
    )
