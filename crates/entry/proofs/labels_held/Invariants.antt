use Rattle.std.proofs.Common.{◌≡◌, ◌*◌, ◌≤◌, take}
use Rattle.entry.specs.Entries.{label_total}
use Rattle.entry.proofs.labels_held.Given as goal

abbrev pub invariant-loop-index : goal.invariant-loop-index
invariant-loop-index g l =
    (l.labels ≤ 128 * l.index) × (l.labels ≡ label_total (take l.index (g.L.ReadableList.roll l.list)))
