use Rattle.std.proofs.Common.{◌-◌, sym, arith}
use Rattle.std.proofs.lemmas.List.{set_past}
use Rattle.store.proofs.linking.write_record.Goals as goal

pub returns-else-place-records : goal.returns-else-place-records
returns-else-place-records g c = sym (set_past c.args.records.now (c.args.link - 1) c.args.record (omega arith))
