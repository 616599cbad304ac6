use Rattle.std.proofs.Common.{Bool, List, drop, sym, ap, ◌∙◌}
use Rattle.std.specs.List.{position}
use Rattle.session_locks.proofs.LockedLaws.{from_place, found_later, none_later}
use Rattle.session_locks.proofs.locked_patches.LockedPatches.least.Goals as goal

pub returns-in-Some : goal.returns-in-Some
returns-in-Some c =
    let i = c.self.inside in
    let rest = from_place i.start c.deref.result.now ∙ ap (drop i.start) c.deref.ensures.value in
    sym (found_later i.start i.are_locked.items c.self.invariant c.in-Some.further (sym (ap (λ (flags : List Bool). position (λ (is_locked : Bool). is_locked) flags) rest) ∙ sym c.first_locked.ensures ∙ c.in-Some.is))
    ∙ ap (λ (flags : List Bool). position (λ (is_locked : Bool). is_locked) flags) c.self.view_is

pub returns-in-None : goal.returns-in-None
returns-in-None c =
    let i = c.self.inside in
    let rest = from_place i.start c.deref.result.now ∙ ap (drop i.start) c.deref.ensures.value in
    sym (none_later i.start i.are_locked.items c.self.invariant (sym (ap (λ (flags : List Bool). position (λ (is_locked : Bool). is_locked) flags) rest) ∙ sym c.first_locked.ensures ∙ c.in-None.is))
    ∙ ap (λ (flags : List Bool). position (λ (is_locked : Bool). is_locked) flags) c.self.view_is
