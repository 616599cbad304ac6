use Rattle.view_outside.specs.Taken.{RisesBelow, RisesAtMost}
use Rattle.body_loads.proofs.Steps.{at_size, one_change}
use Rattle.body_loads.proofs.loads.load_body.Goals as goal

pub returns-in-Err-File-clause-told : goal.returns-in-Err-File-clause-told
returns-in-Err-File-clause-told g c = rw c.in-Err-File.fault-is (one_change _ c.args.index.now c.args.patch c.in-Err-File.field-0 c.in-Err-File.fault c.requires.patch c.in-Err-File.field-0-is c.in-Err-File.ensures.exact)

pub returns-in-Err-File-clause-most : goal.returns-in-Err-File-clause-most
returns-in-Err-File-clause-most g c = at_size (RisesAtMost _ _) c.args.index.now c.args.patch c.requires.patch c.in-Err-File.ensures.most

pub returns-in-Err-ReadFault-clause-most : goal.returns-in-Err-ReadFault-clause-most
returns-in-Err-ReadFault-clause-most g c = at_size (RisesAtMost _ _) c.args.index.now c.args.patch c.requires.patch c.in-Err-ReadFault.ensures.most

pub returns-in-Err-ReadFault-clause-cut : goal.returns-in-Err-ReadFault-clause-cut
returns-in-Err-ReadFault-clause-cut g c = λ is. at_size (RisesBelow _ _) c.args.index.now c.args.patch c.requires.patch (c.in-Err-ReadFault.ensures.cut c.in-Err-ReadFault.field-0-is)

pub returns-in-Err-Memory-clause-most : goal.returns-in-Err-Memory-clause-most
returns-in-Err-Memory-clause-most g c = at_size (RisesAtMost _ _) c.args.index.now c.args.patch c.requires.patch c.in-Err-Memory.ensures.most
