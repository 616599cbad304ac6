-- The board without the view fits the mesh as it did.
use Rattle.std.proofs.Common.{sym, subst}
use Rattle.wish_board.specs.Boards.{BoardSeen, Fits}
use Rattle.wish_board.specs.BoardLaws.{fits_without_view}
use Rattle.tier_levels.proofs.boards.BoardLock.take_off.Goals as goal

pub invariant_of-deref_mut : goal.invariant_of-deref_mut
invariant_of-deref_mut g c =
    let mesh = g.N.Naming.setup.mesh in
    let bell = c.deref_mut.result.now in
    record {
      fits = subst (λ (b : BoardSeen). Fits b mesh) (sym c.take_off-earlier.ensures.board) (fits_without_view bell.board mesh c.args.session bell.fits);
    }
