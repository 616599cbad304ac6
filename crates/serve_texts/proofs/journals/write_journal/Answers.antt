use Rattle.serve_texts.specs.Written.{no_entries, one_entry, all_entries}
use Rattle.serve_texts.proofs.journals.write_journal.Goals as goal

pub loop-entry-init : goal.loop-entry-init
loop-entry-init c = no_entries c.add_head.new.out.items c.args.journal.now c.in_ok-add_head.ensures.ended

pub loop-entry-preserved : goal.loop-entry-preserved
loop-entry-preserved c =
    one_entry c.add_head.new.out.items c.loop-entry.out.items c.add_entry.new.out.items c.args.journal.now c.loop-entry.entry-index _ c.loop-entry-test.true c.loop-entry.invariant c.in_ok-add_entry.ensures.ok c.in_ok-add_entry.ensures.ended

pub returns-clause-ok : goal.returns-clause-ok
returns-clause-ok c =
    all_entries c.args.out.now.items c.add_head.new.out.items c.loop-entry.out.items c.args.tier c.args.journal.now c.loop-entry.entry-index c.loop-entry-test.false c.in_ok-add_head.ensures.ok c.loop-entry.invariant
