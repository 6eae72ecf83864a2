use Rattle.std.proofs.Common.{◌≡◌, Some, Ok, sym, ◌∙◌, Result, Option, rules}
use Rattle.refusal.specs.declared.Refusal.{Refusal}
use Rattle.history.specs.declared.replies.Link.{Link}
use Rattle.link_table.specs.Tables.{found}
use Rattle.history.specs.Calls.{link_by}
use Rattle.store.specs.Links.{word_kit}
use Rattle.store.proofs.Ties.{find_known}
use Rattle.store.proofs.table.RelationTable.find.Goals as goal

pub returns : goal.returns
returns g c =
    rw (← c.self.view_is)
    (let K = word_kit g.S.Script g.L.ReadableList in
    let m = c.in_ok-test_words.ensures in
    let mapped : ◌≡◌ {A = Result (Option Link) Refusal} (Ok c.map.result) (Ok (link_by K (Some c.in-Some.x) (Some c.in-Some-number_in.y) (found c.self.inside.links (record { x = c.in-Some.x; relation = c.args.words.relation; y = c.in-Some-number_in.y })))) = search rules in
    mapped ∙ sym (find_known K c.args.list.now c.self.inside.links c.args.words.x.now c.args.words.y.now c.args.words.relation m c.in-Some.x c.in-Some-number_in.y c.in-Some.ensures c.in-Some-number_in.ensures))
