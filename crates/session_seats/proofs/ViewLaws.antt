-- A session's view is set and posted.
use Rattle.std.proofs.Common.{◌≡◌, ℕ, ◌<◌, ◌^◌, List, length, Some, sym, ap, subst}
use Rattle.mesh_model.specs.Meshes.{MeshLists}
use Rattle.round_model.specs.Views.{ViewSeen}
use Rattle.script_model.specs.declared.orders.Order.TheVariants as orders
use Rattle.session_model.specs.Sessions.{SessionState, with_view}
use Rattle.session_laws.specs.StateLaws.{viewed_locks}
use Rattle.token_words.specs.Sessions.{IsSession}
use Rattle.token_words.specs.declared.entries.Entry.{Entry}
use Rattle.token_words.specs.declared.session_sets.TheConstants.{SESSIONS}
use Rattle.wish_board.specs.Boards.{BoardSeen}
use Rattle.run_model.specs.Lines.{DidView}
use Rattle.session_seats.specs.Seats.{SeatsSeen, at_seat, with_seat, AreSeated}
use Rattle.session_seats.specs.Boards.{IsBoardFor, posted_on, posting_view}
use Rattle.session_seats.specs.Orders.{DoesPosting}
use Rattle.session_seats.specs.OrderLaws.{same_uses}
use Rattle.session_seats.specs.BoardLaws.{views, posted_for}
use Rattle.session_seats.proofs.SeenLaws.{viewed_uses}

module _ (seen : SeatsSeen) (many : length seen.sessions ≡ SESSIONS) (i : ℕ) (number : IsSession i) (s : SessionState) (at : at_seat seen.sessions i ≡ Some s) (view : ViewSeen) (new : SeatsSeen) (goes : new ≡ with_seat seen i (Some (with_view view s))) where
  pub view_mesh : new.mesh ≡ seen.mesh
  view_mesh = ap (λ (x : SeatsSeen). x.mesh) goes

  module _ (board : BoardSeen) (is_for : IsBoardFor seen.mesh board) (board_now : BoardSeen) (posted : board_now ≡ posted_on board i view seen.mesh) where
    pub view_board : IsBoardFor new.mesh board_now
    view_board =
        subst (λ (m : MeshLists). IsBoardFor m board_now) (sym view_mesh)
        (subst (IsBoardFor seen.mesh) (sym posted) (posted_for seen.mesh board i (Some (posting_view view seen.mesh)) is_for))

    pub view_does : board.version < 2 ^ 63 → (words : List Entry) → AreSeated seen.mesh words seen.sessions → DoesPosting (orders.View i view) (DidView i) words seen board.views board.version words new board_now.views board_now.version
    view_does few words are =
        views words seen many i number board is_for few s at view new
        (same_uses words seen.sessions are i s (with_view view s) at (viewed_uses seen many i number s at view (are.are i s at)) (viewed_locks seen.mesh s view (are.are i s at)) new.sessions (ap (λ (x : SeatsSeen). x.sessions) goes))
        board_now posted
