use Rattle.std.proofs.Common.{ℕ, Ok, Option, sym, ap, ◌∙◌, arith}
use Rattle.overlay.proofs.Appends.{find_front, find_back, find_neither, back_bound}
use Rattle.overlay.proofs.OverlayReadableList.find.Goals as goal

pub returns-in-Some : goal.returns-in-Some
returns-in-Some g c =
    rw (← c.self.view_is)
    (find_front (g.L.ReadableList.roll c.self.inside.lower) (g.U.ReadableList.roll c.self.inside.upper) c.args.word.now c.in-Some.number
    (ap (λ (o : Option ℕ). Ok o) (sym c.in-Some.is) ∙ c.in_ok-number.ensures))

pub overflow_add-result : goal.overflow_add-result
overflow_add-result g c =
    let most = back_bound (g.L.ReadableList.roll c.self.inside.lower) (g.U.ReadableList.roll c.self.inside.upper) c.args.word.now c.in-Some-2.number c.count.result c.count.ensures.count
    c.self.invariant.few (ap (λ (o : Option ℕ). Ok o) (sym c.in-Some-2.is) ∙ c.in_ok-number-2.ensures) in
    omega (arith, most)

pub returns-in-Some-2 : goal.returns-in-Some-2
returns-in-Some-2 g c =
    rw (← c.self.view_is)
    (find_back (g.L.ReadableList.roll c.self.inside.lower) (g.U.ReadableList.roll c.self.inside.upper) c.args.word.now c.in-Some-2.number c.count.result c.count.ensures.count
    (ap (λ (o : Option ℕ). Ok o) (sym c.in_default.is) ∙ c.in_ok-number.ensures)
    (ap (λ (o : Option ℕ). Ok o) (sym c.in-Some-2.is) ∙ c.in_ok-number-2.ensures))

pub returns : goal.returns
returns g c =
    rw (← c.self.view_is)
    (find_neither (g.L.ReadableList.roll c.self.inside.lower) (g.U.ReadableList.roll c.self.inside.upper) c.args.word.now
    (ap (λ (o : Option ℕ). Ok o) (sym c.in_default.is) ∙ c.in_ok-number.ensures)
    (ap (λ (o : Option ℕ). Ok o) (sym c.in_default-2.is) ∙ c.in_ok-number-2.ensures))
