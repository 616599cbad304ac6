-- Runs stay in safe states.
use Rattle.std.proofs.Common.{List, sym, subst}
use Rattle.script_model.specs.declared.orders.Order.{Order}
use Rattle.run_model.specs.Worlds.{World, IsWorld, HoldsBase}
use Rattle.run_model.specs.States.{State}
use Rattle.run_model.specs.Safe.{IsSafe}
use Rattle.run_laws.specs.SafeLaws.{events_keep_safe}
use Rattle.run_laws.specs.OpeningLaws.{opening_safe}
use Rattle.run_model.specs.Lines.{Did, Does, Runs}
use Rattle.run_laws.specs.LineLaws.{does_reaches, runs_reach}
use Rattle.run_model.specs.RunTexts.{IsOpening}

pub does_keeps_safe : (w : World) (a b : State) (order : Order) (did : Did) → IsWorld w → IsSafe w a → Does w a order did b → IsSafe w b
does_keeps_safe w a b order did world safe does = events_keep_safe w a b world safe (does_reaches w a b order did does)

pub opened_is_safe : (w : World) (a : State) → IsWorld w → HoldsBase w → IsOpening w a → IsSafe w a
opened_is_safe w a world holds opens = subst (IsSafe w) (sym opens.is) (opening_safe w world holds opens.body opens.bodies)

pub runs_are_safe : (w : World) (a b : State) (orders : List Order) (dids : List Did) → IsWorld w → HoldsBase w → IsOpening w a → Runs w a orders dids b → IsSafe w b
runs_are_safe w a b orders dids world holds opens runs = events_keep_safe w a b world (opened_is_safe w a world holds opens) (runs_reach w a b orders dids runs)
