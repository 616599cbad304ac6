use Rattle.std.proofs.Common.{sym, subst}
use Rattle.file_model.specs.Lists.{FileLists}
use Rattle.file_model.specs.Spelling.{file_text}
use Rattle.file_model.specs.Rules.{IsPatchFile}
use Rattle.mesh_model.specs.Accepted.{IsAccepted}
use Rattle.strip_laws.specs.StripRules.{strip_is_file, strip_is_accepted}
use Rattle.mesh_maker.proofs.Grown.{whole_strip}
use Rattle.mesh_maker.proofs.strips.strip_as.Goals as goal
use Rattle.std.proofs.Common.{arith}

pub returns-clause-lists : goal.returns-clause-lists
returns-clause-lists c = whole_strip c.args.version c.args.columns c.with_version-parts.result c.add_nodes.new.parts c.add_squares.new.parts c.add_all_halves.new.parts c.add_all_opened.new.parts c.with_version-parts.ensures c.in_ok-add_nodes.ensures c.in_ok-add_squares.ensures c.in_ok-add_all_halves.ensures c.in_ok-add_all_opened.ensures

pub returns-clause-file : goal.returns-clause-file
returns-clause-file c = subst (λ (p : FileLists). IsPatchFile p (file_text p)) (sym (returns-clause-lists c)) (strip_is_file c.args.version c.args.columns c.requires.version c.requires.least c.requires.most)

pub returns-clause-accepted : goal.returns-clause-accepted
returns-clause-accepted c = subst (λ (p : FileLists). IsAccepted p 0) (sym (returns-clause-lists c)) (strip_is_accepted c.args.version c.args.columns (omega arith))
