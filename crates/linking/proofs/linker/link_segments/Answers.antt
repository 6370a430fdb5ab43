use Rattle.std.proofs.Common.{rules}
use Rattle.linking.proofs.Finished.{linked_front, front_linking}
use Rattle.linking.proofs.linker.link_segments.Goals as goal

pub returns-clause-table : goal.returns-clause-table
returns-clause-table c = search (rules, linked_front)

pub returns-clause-linking : goal.returns-clause-linking
returns-clause-linking c = search (rules, front_linking)
