use Rattle.round_model.specs.Views.{rules_of}
use Rattle.round_laws.specs.Cuts.{round_is_cut, round_boundary}
use Rattle.view_planes.specs.Planes.{planes_rules}
use Rattle.view_planes.proofs.a_culled_frame_has_the_boundary.Goals as goal

pub returns-clause-cut : goal.returns-clause-cut
unfolding rules_of
returns-clause-cut c = λ seen mesh is epochs. round_is_cut (planes_rules seen mesh) is epochs

pub returns-clause-boundary : goal.returns-clause-boundary
unfolding rules_of
returns-clause-boundary c = λ seen mesh file epochs is accepted same. round_boundary (planes_rules seen mesh) file epochs is accepted same
