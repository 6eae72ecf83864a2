use Rattle.std.proofs.Common.{◌≡◌, ℕ, ◌≤◌, true, false, length, IfOk, Result, sym, ◌∙◌, subst}
use Rattle.std.proofs.lemmas.Bool.{cond-true, cond-false}
use Rattle.lexicon.specs.declared.ListFault.{ListFault}
use Rattle.lexicon.specs.Rolls.{numbered, word_of}
use Rattle.lexicon.proofs.Numbers.{numbered_by}
use Rattle.trie_list.specs.Trie.{roll_of}
use Rattle.trie_list.proofs.Below.{told}
use Rattle.trie_list.proofs.Lists.{length_roll}
use Rattle.trie_list.proofs.calls.TrieListReadableList.spell.Goals as goal

pub write_word-requires : goal.write_word-requires
write_word-requires c = let s = c.args.self.now in sym (numbered_by (roll_of s) c.args.number s.count (length_roll s)) ∙ sym c.if-not-is_numbered.ensures

pub returns-then-not-is_numbered : goal.returns-then-not-is_numbered
returns-then-not-is_numbered c =
    let s = c.args.self.now in
    let none : numbered (roll_of s) c.args.number ≡ false = sym (numbered_by (roll_of s) c.args.number s.count (length_roll s)) ∙ sym c.if-not-is_numbered.ensures in
    record {
      answer = sym (cond-false _ _ _ none);
      output = sym (cond-false _ _ _ none);
      within = tt;
    }

pub returns : goal.returns
returns c =
    let s = c.args.self.now in
    let out = c.args.out.now in
    let some : numbered (roll_of s) c.args.number ≡ true = sym (numbered_by (roll_of s) c.args.number s.count (length_roll s)) ∙ sym c.if-not-is_numbered.ensures in
    let all = told (word_of (roll_of s) c.args.number) out c.write_word.result c.write_word.new.out c.write_word.ensures in
    record {
      answer = c.ok_or.ensures.value ∙ all.answer ∙ sym (cond-true (numbered (roll_of s) c.args.number) _ _ some);
      output = all.output ∙ sym (cond-true (numbered (roll_of s) c.args.number) _ _ some);
      within = subst (λ (z : Result ℕ ListFault). IfOk z (λ n. n ≤ length out)) (sym c.ok_or.ensures.value) all.within;
    }
