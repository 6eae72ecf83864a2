use Rattle.std.proofs.Common.{Ok, sym}
use Rattle.std.proofs.lemmas.Bool.{cond-true, lt-ltb}
use Rattle.entry.specs.declared.WordEntry.TheVariants.{New}
use Rattle.entry.proofs.Entries.{spelled_slice, told}
use Rattle.entry.proofs.enter_word.Goals as goal

pub returns-then-number-before : goal.returns-then-number-before
returns-then-number-before g c =
    let m = c.in_ok-spell_into.ensures in
    let fit = spelled_slice g.S.Script.spelling c.args.word.now _ _ c.as_slice.ensures.value m.answer m.sized in
    let all = told g.S.Script.spelling g.L.ReadableList.roll g.L.GrowingList.room g.L.GrowingList.enters c.args.list.now c.args.word.now c.enter.new.self
    m.apart _ fit c.count-before.result (Ok c.in_ok-number.number) c.count-before.ensures.count
    c.in_ok-number.ensures.answer c.in_ok-number.ensures.after
    (Ok (New c.in_ok-number.number)) (sym (cond-true _ _ _ (lt-ltb _ _ c.if-number-before.true))) in
    record { answer = all.answer; after = all.after; numbers = all.numbers }
