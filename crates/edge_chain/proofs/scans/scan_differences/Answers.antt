use Rattle.std.proofs.Common.{◌≡◌, List, ℤ}
use Rattle.std.specs.Prelude.{Option, None}
use Rattle.std.specs.List.{fold}
use Rattle.edge_chain.specs.declared.edges.Edge.{Edge}
use Rattle.edge_chain.specs.declared.differences.Difference.{Difference}
use Rattle.edge_chain.specs.Differences.{Finds}
use Rattle.edge_chain.specs.Scans.{better}
use Rattle.edge_chain.proofs.FindLaws.{finds_scan}
use Rattle.edge_chain.proofs.scans.scan_differences.Goals as goal

scanned_both : (here there : List (Edge × ℤ)) (first last : Option Difference) → first ≡ fold (λ b e. better here there b e.0) None here → last ≡ fold (λ b e. better here there b e.0) first there → Finds here there last
scanned_both here there first last x y = rw (y, x) (finds_scan here there)

pub returns : goal.returns
returns c = scanned_both c.args.here.now c.args.there.now c.scan_edges-best.result c.scan_edges.result c.scan_edges-best.ensures c.scan_edges.ensures
