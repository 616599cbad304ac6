-- Rounds that are done.
use Rattle.std.proofs.Common.{◌≡◌, false, Some, None, List}
use Rattle.round_model.specs.declared.asks.Ask.TheVariants.{Done as NothingAsked}
use Rattle.round_model.specs.Refiners.{Refining, pending_ask}
use Rattle.session_model.specs.Sessions.{SessionState}
use Rattle.file_model.specs.declared.fields.Try.{Try}
use Rattle.round_model.specs.Order.{Rules}
use Rattle.round_model.specs.Rounds.{round_of, epochs_of, IsWhole}

-- the session's round is done, and wasn't printed yet; no refused try is in flight
pub record HasDone (s : SessionState) : Type 0 where
  pub round : Refining
  pub there : s.round ≡ Some round
  pub done : pending_ask round ≡ NothingAsked
  pub going : s.printed ≡ false
  pub no_flight : s.flight ≡ None

-- these are the tries of a whole round: it goes through all nodes by the epochs of the tries, and makes no other
pub record AreWhole (rules : Rules) (tries : List Try) : Type 0 where
  pub whole : IsWhole (round_of rules (epochs_of tries))
  pub tries_are : (round_of rules (epochs_of tries)).tries ≡ tries
