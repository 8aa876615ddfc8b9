use Rattle.node_heap.proofs.AloneLemmas.{KeepsAlone-cons, KeepsAlone-own, alone-stays, shared-goes}
use Rattle.node_heap.proofs.laws.alone_rows_stay.Goals as goal

pub returns-clause-alone : goal.returns-clause-alone
returns-clause-alone g c = alone-stays

pub returns-clause-shared : goal.returns-clause-shared
returns-clause-shared g c = shared-goes

pub returns-clause-up : goal.returns-clause-up
returns-clause-up g c = KeepsAlone-cons

pub returns-clause-own : goal.returns-clause-own
returns-clause-own g c old mid x own rest path' graph same sole owners next keep = KeepsAlone-own old mid x own rest same sole owners graph next path' keep
