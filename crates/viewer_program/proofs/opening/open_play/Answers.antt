-- The file is found and checked, or tells why not.
use Rattle.std.proofs.Common.{ℕ, ap, ◌∙◌, arith}
use Rattle.file_model.specs.Reading.{file_size}
use Rattle.view_outside.specs.Taken.{taken_after}
use Rattle.viewer_program.specs.Outside.{store_seen}
use Rattle.viewer_program.proofs.TakenLemmas.{takes_none}
use Rattle.viewer_program.proofs.opening.open_play.Goals as goal

pub returns-in_default-clause-stops : goal.returns-in_default-clause-stops
returns-in_default-clause-stops g c = record { failed = c.in_default.ensures.cause.failed; less = takes_none _ _ _ c.find.ensures.taken }

pub returns-in-Ok-mesh_of-clause-given : goal.returns-in-Ok-mesh_of-clause-given
returns-in-Ok-mesh_of-clause-given g c =
    c.open_over.ensures.given (store_seen (g.S.Store.files c.args.store.now) (g.S.Store.faults c.args.store.now) (g.S.Store.taken c.args.store.now))
    (record {
      later = omega (arith, c.find.ensures.cause.later, c.mesh_of.ensures.store.later);
      taken = c.in-Ok-mesh_of.ensures.taken ∙ ap (λ (t : ℕ). taken_after t (file_size c.in-Ok-mesh_of.mesh.lists.index)) c.find.ensures.taken;
    })
