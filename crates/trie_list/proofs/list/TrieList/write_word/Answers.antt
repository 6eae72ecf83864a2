use Rattle.std.proofs.Common.{◌≡◌, ℕ, ◌-◌, List, ◌++◌, length, take, drop, sym, ap, ◌∙◌, subst, arith}
use Rattle.std.proofs.lemmas.List.{take_at}
use Rattle.cells.specs.Cells.{all_codes}
use Rattle.cells.proofs.Basics.{no_some}
use Rattle.double_array.specs.Views.{cells_of, index_of}
use Rattle.output.specs.Written.{Filled}
use Rattle.trie_list.specs.Paths.{labels_on, word_path}
use Rattle.trie_list.specs.Rolls.{path_at}
use Rattle.trie_list.proofs.Lists.{path_words, path_all_codes, path_known, word_labels}
use Rattle.trie_list.proofs.list.TrieList.write_word.Goals as goal

-- the slice that was written is the path
written_path : (size : ℕ) (path out after : List ℕ) → size ≡ length path → after ≡ path ++ drop size out → take (size - 0) after ≡ path
written_path size path out after long e = ap (take (size - 0)) e ∙ take_at path (drop size out) (size - 0) (let z : length path ≡ size - 0 = omega arith in z)

pub write_labels-requires : goal.write_labels-requires
write_labels-requires c =
    let s = c.args.self.now in
    let m = c.in-Ok.ensures.path in
    let same = written_path c.in-Ok.size (path_at (cells_of s.array) (index_of s.array) (c.args.number - 1)) _ c.path_of.new.out m.1 m.2 in
    record {
      word = ap word_path same ∙ path_words s c.args.number c.requires;
      codes = ap all_codes same ∙ path_all_codes s c.args.number c.requires;
    }

pub returns : goal.returns
returns c =
    let s = c.args.self.now in
    let m = c.in-Ok.ensures.path in
    let same = written_path c.in-Ok.size (path_at (cells_of s.array) (index_of s.array) (c.args.number - 1)) _ c.path_of.new.out m.1 m.2 in
    subst (λ (z : List ℕ). Filled z c.args.out.now c.write_labels.result c.write_labels.new.out) (ap labels_on same ∙ word_labels s c.args.number c.requires) c.write_labels.ensures

pub returns-in_default : goal.returns-in_default
returns-in_default c = absurd (no_some c.in_default.field-0 (sym (path_known c.args.self.now c.args.number c.requires) ∙ c.in_default.ensures.path.0))
