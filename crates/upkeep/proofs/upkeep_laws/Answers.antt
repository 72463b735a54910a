use Rattle.upkeep.proofs.Deletes.{delete_keeps, delete_never}
use Rattle.upkeep.proofs.Holds.{blank_holds, flush_keeps, holds_exactly, reads_keep}
use Rattle.upkeep.proofs.Rules.{by_rule}
use Rattle.upkeep.proofs.Stores.{store_keeps, store_never}
use Rattle.upkeep.proofs.upkeep_laws.Goals as goal

pub returns-clause-blank : goal.returns-clause-blank
returns-clause-blank c = blank_holds

pub returns-clause-exactly : goal.returns-clause-exactly
returns-clause-exactly c = holds_exactly

pub returns-clause-rule : goal.returns-clause-rule
returns-clause-rule c = (by_rule, by_rule)

pub returns-clause-reads : goal.returns-clause-reads
returns-clause-reads c = (reads_keep, reads_keep)

pub returns-clause-flush : goal.returns-clause-flush
returns-clause-flush c = flush_keeps

pub returns-clause-store : goal.returns-clause-store
returns-clause-store c = store_keeps

pub returns-clause-delete : goal.returns-clause-delete
returns-clause-delete c = delete_keeps

pub returns-clause-store_never : goal.returns-clause-store_never
returns-clause-store_never c = store_never

pub returns-clause-delete_never : goal.returns-clause-delete_never
returns-clause-delete_never c = delete_never
