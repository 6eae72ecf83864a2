use Rattle.std.proofs.Common.{◌≡◌, ℕ, ◌≤◌, true, leb, List, length, IfOk, Result, sym, ◌∙◌, subst}
use Rattle.lexicon.specs.declared.ListFault.{ListFault}
use Rattle.std.proofs.lemmas.Bool.{cond-true, le-leb}
use Rattle.double_array.specs.Views.{cells_of, index_of}
use Rattle.output.specs.Written.{Filled}
use Rattle.subtrie.specs.Below.{numbers_from}
use Rattle.subtrie.specs.Laws.{NumbersBelow, Ordered}
use Rattle.trie_list.specs.Below.{below_of}
use Rattle.trie_list.proofs.Below.{words_below, told, made_always}
use Rattle.trie_list.proofs.list.TrieList.words_below.Goals as goal

pub returns : goal.returns
returns c =
    let s = c.args.self.now in
    let b = c.args.beginning.now in
    let out = c.args.out.now in
    let cs = cells_of s.array in
    let is = index_of s.array in
    let m = c.numbers_below.ensures in
    let slice = c.as_slice.ensures.value ∙ c.codes_of-codes.ensures in
    let fit : leb (length b) 128 ≡ true = le-leb (length b) 128 c.if-beginning-gt128.false in
    let all = told (below_of s b) out c.numbers_below.result c.numbers_below.new.out
    (subst (λ (z : List ℕ). Filled (numbers_from cs z) out c.numbers_below.result c.numbers_below.new.out) slice m.output) in
    let words = words_below s b (subst (λ (z : List ℕ). NumbersBelow cs z (numbers_from cs z)) slice m.members) (subst (λ (z : List ℕ). Ordered cs is (numbers_from cs z)) slice m.order) in
    record {
      answer = c.ok_or.ensures.value ∙ all.answer ∙ sym (cond-true (leb (length b) 128) _ _ fit);
      output = all.output ∙ sym (cond-true (leb (length b) 128) _ _ fit);
      within = subst (λ (z : Result ℕ ListFault). IfOk z (λ n. n ≤ length out)) (sym c.ok_or.ensures.value) all.within;
      words = made_always c.ok_or.result _ words;
    }
