use Rattle.std.proofs.Common.{◌≡◌, ℕ, ◌+◌, ◌<◌, ◌≤◌, false, List, length, get_or, is_some, Some, None, Ok, Err, sym, refl, ap, ◌∙◌, subst, arith}
use Rattle.std.proofs.lemmas.Bool.{ne_eqb}
use Rattle.std.proofs.lemmas.Result.{err_from_is_err_and}
use Rattle.cells.specs.Walking.{number_at}
use Rattle.double_array.specs.Entries.{Added, EntersPath}
use Rattle.double_array.specs.Views.{cells_of, index_of}
use Rattle.link_table.specs.declared.faults.LinkFault.{LinkFault}
use Rattle.link_table.specs.Tables.{limit, found, numbers, all_held}
use Rattle.link_table.proofs.Tables.{same_table, none_when, count_few, put_full, put_accepted, put_refused, refused_as, put_fields, put_done}
use Rattle.link_table.proofs.table.LinkTable.put.Goals as goal
use Rattle.link_table.proofs.table.LinkTable.put.Goals.{After-limit, After-enter}

-- the triple is new
absent : (c : After-limit) → found c.args.self.now c.args.triple ≡ None
absent c =
    let s = c.args.self.now in
    none_when (found s c.args.triple) (ap is_some (ap (number_at (cells_of s.array)) (sym c.write_code-path.ensures.path) ∙ sym c.number_at.ensures.number) ∙ sym c.is_some.ensures ∙ c.if-is_some.false)

-- a place of the index is vacant, and not every number is held
module _ (c : After-enter) where
  low : c.in-Some.place < limit c.args.self.now
  low = omega (arith, c.in-Some.ensures.0, ap length c.index.ensures)

  vacant : get_or (index_of c.args.self.now.array) c.in-Some.place 0 ≡ 0
  vacant = ap (λ (l : List ℕ). get_or l c.in-Some.place 0) (sym c.index.ensures) ∙ c.in-Some.ensures.1

  some : all_held c.args.self.now ≡ false
  some = ne_eqb (length (numbers c.args.self.now)) (limit c.args.self.now) (λ full. c.if-self-limit.false (c.args.self.now.counted ∙ full ∙ sym c.limit.ensures))

pub returns-in_default : goal.returns-in_default
returns-in_default c = (
  put_full c.args.self.now c.args.triple (absent (goal.at.returns-in_default c).After-limit) (subst (λ (l : List ℕ). (k : ℕ) → k < length l → 0 ≤ k → 0 < get_or l k 0) c.index.ensures c.in_default.ensures),
  refl,
)

pub overflow_add-self : goal.overflow_add-self
overflow_add-self c = omega (arith, count_few c.args.self.now)

pub invariant_of-self-2 : goal.invariant_of-self-2
invariant_of-self-2 c =
    let s = c.args.self.now in
    let at = (goal.at.invariant_of-self-2 c).After-enter in
    let place = c.in-Some.place in
    let m = c.in_ok-enter.ensures in
    let d = c.enter.new.self in
    let added = subst (λ (p : List ℕ). Added (cells_of s.array) p (place + 1) (cells_of d)) c.write_code-path.ensures.path m.paths in
    put_fields s c.args.triple place c.write_code-path.ensures.codes (absent (goal.at.invariant_of-self-2 c).After-limit) (low at) (vacant at) d m.sizes.1 added

pub returns-in_err-enter : goal.returns-in_err-enter
returns-in_err-enter c =
    let s = c.args.self.now in
    let at = (goal.at.returns-in_err-enter c).After-enter in
    let m = c.in_err-enter.ensures in
    let d = c.enter.new.self in
    let f = c.in_err-enter.field-0.0 in
    let did = subst (λ (p : List ℕ). EntersPath (cells_of s.array) (index_of s.array) p (c.in-Some.place + 1) (Err f) (cells_of d) (index_of d)) c.write_code-path.ensures.path m.cells in
    let said = err_from_is_err_and c.from_residual.result c.from_residual.ensures.1 in
    let new = absent (goal.at.returns-in_err-enter c).After-limit in
    let refused = put_refused s c.args.triple c.in-Some.place c.write_code-path.ensures.codes new (low at) (vacant at) (some at) f did.0 in
    refused_as s _ c.args.triple c.from_residual.result said.0 said.1 (refused ∙ ap (λ (g : LinkFault). Some g) (sym said.2)) (same_table _ s m.same refl refl)

pub returns : goal.returns
returns c =
    let s = c.args.self.now in
    let t = c.args.triple in
    let at = (goal.at.returns c).After-enter in
    let new = absent (goal.at.returns c).After-limit in
    let place = c.in-Some.place in
    let codes = c.write_code-path.ensures.codes in
    let m = c.in_ok-enter.ensures in
    let d = c.enter.new.self in
    let path = c.write_code-path.ensures.path in
    let added = subst (λ (p : List ℕ). Added (cells_of s.array) p (place + 1) (cells_of d)) path m.paths in
    let did = subst (λ (p : List ℕ). EntersPath (cells_of s.array) (index_of s.array) p (place + 1) (Ok tt) (cells_of d) (index_of d)) path m.cells in
    (put_accepted s t place codes new (low at) (vacant at) (some at) (record { cells = cells_of d; index = index_of d }) did.1, put_done s t place codes new (low at) (vacant at) _ m.sizes.1 added did.1)
