use Rattle.std.proofs.Common.{rules}
use Rattle.store.specs.Links.{word_kit}
use Rattle.store.proofs.Ties.{link_known}
use Rattle.store.proofs.table.RelationTable.link_of.Goals as goal

pub returns-in_err-number : goal.returns-in_err-number
returns-in_err-number g c =
    rw (← c.self.view_is)
    (let K = word_kit g.S.Script g.L.ReadableList in
    let m = c.in_ok-test_words.ensures in
    let k = c.in_ok-triple.ensures in
    let is = link_known K c.args.list.now c.self.inside.links c.args.words.x.now c.args.words.y.now c.args.words.relation m c.in_ok-triple.triple k in
    rw is (search rules))

pub returns : goal.returns
returns g c =
    rw (← c.self.view_is)
    (let K = word_kit g.S.Script g.L.ReadableList in
    let m = c.in_ok-test_words.ensures in
    let k = c.in_ok-triple.ensures in
    let is = link_known K c.args.list.now c.self.inside.links c.args.words.x.now c.args.words.y.now c.args.words.relation m c.in_ok-triple.triple k in
    rw is (search rules))
