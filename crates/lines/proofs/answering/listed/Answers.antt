use Rattle.std.proofs.Common.{◌≡◌, List, replicate, refl, ap, ◌∙◌}
use Rattle.record.specs.declared.Tally.{Tally}
use Rattle.history.specs.Kits.{number_in}
use Rattle.history.specs.Calls.{rows_in}
use Rattle.lines.specs.Lines.{trie_tally_kit, Store, listed_text}
use Rattle.lines.proofs.Listings.{listing_said}
use Rattle.lines.proofs.answering.listed.Goals as goal

pub returns : goal.returns
returns c =
    let step = c.perform_growing-reply.ensures.step in
    let rows = replicate 100 c.default-rows.result in
    let rows' = c.perform_growing-reply.new.out in
    let same : c.perform_growing-reply.new.records ≡ c.args.records.now = ap (λ (s : Store). s.records) step.3 in (
      (c.perform_growing-reply.result, ((rows, rows', step), c.perform_growing-reply.ensures.law)),
      c.listed_answer.ensures
          ∙ ap (λ (rs : List Tally). listed_text rs rows' c.perform_growing-reply.result) same
          ∙ ap (listed_text c.args.records.now rows') step.1
          ∙ listing_said c.args.records.now c.args.x.now (number_in trie_tally_kit c.args.list.now c.args.x.now) (rows_in trie_tally_kit c.args.list.now c.args.table.now c.args.x.now c.args.relation) rows rows' step.0 refl step.2,
      step.3,
    )
