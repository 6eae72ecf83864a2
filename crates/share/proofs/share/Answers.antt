use Rattle.std.proofs.Common.{◌≡◌, eqb, Ok, ap, ◌∙◌, rules}
use Rattle.script.proofs.Apart.{words_apart}
use Rattle.link_table.specs.declared.table.LinkTable.{LinkTable}
use Rattle.history.specs.Kits.{state_of}
use Rattle.store.specs.Links.{word_kit}
use Rattle.share.specs.Shares.{present_in, share_in}
use Rattle.share.specs.Totals.{total_of}
use Rattle.share.specs.Laws.{tally_kit}
use Rattle.share.proofs.Answers.{share_is}
use Rattle.share.proofs.Laws.{share_law}
use Rattle.share.proofs.Rounds.{nearest}
use Rattle.share.proofs.share.Goals as goal

pub returns-in_err-link-clause-law : goal.returns-in_err-link-clause-law
returns-in_err-link-clause-law g c =
    let m = g.met.S.Script in
    share_law (tally_kit g.S.Script g.L.ReadableList) (words_apart g.S.Script.spelling g.S.Script.width m.narrow.0 m.even m.apart) (λ _ e. e)
    c.args.list.now c.args.table.now c.args.records.now c.args.words.x.now c.args.words.y.now c.args.words.relation c.from_residual.result (search rules)

pub returns-in_err-link-clause-nearest : goal.returns-in_err-link-clause-nearest
returns-in_err-link-clause-nearest g c = nearest

pub returns : goal.returns
returns g c =
    let l = c.args.list.now in
    let t = c.args.table.now in
    let rs = c.args.records.now in
    let x = c.args.words.x.now in
    let y = c.args.words.y.now in
    let q = c.args.words.relation in
    let m = g.met.S.Script in
    let K = word_kit g.S.Script g.L.ReadableList in
    let link = c.in_ok-link.link in
    let total = c.total-total.ensures.sum ∙ ap (λ (s : LinkTable). total_of eqb (present_in s rs) link.x q) c.links.ensures in
    let answer : Ok c.millionths.result ≡ share_in (tally_kit g.S.Script g.L.ReadableList) (state_of l t rs) x y q =
    share_is K l t rs x y q link c.in_ok-link.ensures c.millionths.result c.count_at-count.result c.total-total.result c.count_at-count.ensures total c.millionths.ensures.share in
    record {
      answer = answer;
      most = c.millionths.ensures.most;
      nearest = nearest;
      law = share_law (tally_kit g.S.Script g.L.ReadableList) (words_apart g.S.Script.spelling g.S.Script.width m.narrow.0 m.even m.apart) (λ _ e. e) l t rs x y q (Ok c.millionths.result) answer;
    }
