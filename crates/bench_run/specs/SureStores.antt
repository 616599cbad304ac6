-- Stores in memory that never fail.
use Rattle.std.specs.Prelude.{◌≡◌, []}
use Rattle.view_outside.specs.StoreState.{StoreState}

-- no call is planned to fail, and none has
pub record IsSure (store : StoreState) : Type 0 where
  pub reads : store.fail_reads ≡ []
  pub calls : store.fail_calls ≡ []
  pub none : store.faults ≡ 0
