use Rattle.std.proofs.Common.{arith}
use Rattle.link_table.proofs.Labels.{triple_codes}
use Rattle.link_table.proofs.codes.write_code.Goals as goal

pub returns-clause-codes : goal.returns-clause-codes
returns-clause-codes c = triple_codes c.args.triple (omega arith) (omega arith) (omega arith)
