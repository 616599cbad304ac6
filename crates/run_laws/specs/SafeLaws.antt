-- Every event leads from a safe state to a safe state.
use Rattle.std.proofs.Common.{Some, None}
use Rattle.session_model.specs.Sessions.{with_view}
use Rattle.run_model.specs.Worlds.{World, IsWorld}
use Rattle.run_model.specs.States.{State, posted_by, seated}
use Rattle.run_model.specs.Events.{Happens, Steps, Turns, Frees, Opens, Views, TakesOff, Prints, Ends, Reaches, Stays, Then}
use Rattle.run_model.specs.Safe.{IsSafe}
use Rattle.run_laws.specs.Sound.{IsSound, sound_safe, safe_sound}
use Rattle.run_laws.specs.SeatLaws.{stepped_sound, freed_sound, viewed_sound, printed_sound, opened_sound, ended_sound, posting_sound}
use Rattle.run_laws.specs.TurnLaws.{turned_sound}

event_sound : (w : World) (a b : State) → IsWorld w → IsSound w a → Happens w a b → IsSound w b
event_sound w a b world sound (Steps i s view at viewed) = stepped_sound w a i s world sound at
event_sound w a b world sound (Turns k answer turn) = turned_sound w a b k answer sound turn
event_sound w a b world sound (Frees i s at) = freed_sound w a i s world sound at
event_sound w a b world sound (Opens i number closed) = opened_sound w a i sound number
event_sound w a b world sound (Views i s view at) = posting_sound w (seated a i (Some (with_view view s))) i (Some (posted_by w view)) (viewed_sound w a i s view sound at)
event_sound w a b world sound (TakesOff i view at) = posting_sound w a i None sound
event_sound w a b world sound (Prints i s at done) = printed_sound w a i s sound at
event_sound w a b world sound (Ends i s at unused off) = ended_sound w a i sound

pub event_keeps_safe : (w : World) (a b : State) → IsWorld w → IsSafe w a → Happens w a b → IsSafe w b
event_keeps_safe w a b world safe event = sound_safe w b world (event_sound w a b world (safe_sound w a safe) event)

pub events_keep_safe : (w : World) (a b : State) → IsWorld w → IsSafe w a → Reaches w a b → IsSafe w b
events_keep_safe w a b world safe Stays = safe
events_keep_safe w a c world safe (Then {b = b} event rest) = events_keep_safe w b c world (event_keeps_safe w a b world safe event) rest
