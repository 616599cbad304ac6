use Rattle.std.proofs.Common.{◌≡◌, ℕ, get_or, arith, inl, inr}
use Rattle.std.proofs.Math.ListN.{replicate}
use Rattle.std.proofs.Math.Path.{fun_ext}
use Rattle.std.proofs.lemmas.Bool.{cases_lt}
use Rattle.std.proofs.lemmas.List.{get_or-replicate, get_or_past, length-replicate}
use Rattle.script_model.specs.declared.stages.SessionStage.TheVariants.{Closed}
use Rattle.view_script.proofs.sessions.Sessions.new.Goals as goal

-- a place of a list of closed stages, or past its end
closed : (n i : ℕ) → get_or (replicate n Closed) i Closed ≡ Closed
closed n i = elim (cases_lt i n) [ inl within ↦ get_or-replicate n i Closed Closed within | inr past ↦ get_or_past (replicate n Closed) i Closed (omega (arith, length-replicate n Closed)) ]

pub returns : goal.returns
returns c = fun_ext (closed 65)
