use Rattle.std.proofs.Common.{◌≡◌, List, ap, ◌∙◌}
use Rattle.record.specs.declared.Tally.{Tally}
use Rattle.history.specs.Calls.{find_of}
use Rattle.lines.specs.Lines.{trie_tally_kit, Store, found_text}
use Rattle.lines.proofs.Answers.{found_said}
use Rattle.lines.proofs.answering.found.Goals as goal

pub returns : goal.returns
returns c =
    let step = c.perform_growing-reply.ensures.step in
    let same : c.perform_growing-reply.new.records ≡ c.args.records.now = ap (λ (s : Store). s.records) step.1 in
    let m = find_of trie_tally_kit c.args.list.now c.args.table.now c.args.words.x.now c.args.words.y.now c.args.words.relation in (
      (c.perform_growing-reply.result, ((_, _, step), c.perform_growing-reply.ensures.law)),
      c.found_answer.ensures ∙ ap (λ (rs : List Tally). found_text rs c.perform_growing-reply.result) same ∙ ap (found_text c.args.records.now) step.0 ∙ found_said c.args.records.now m,
      step.1,
    )
