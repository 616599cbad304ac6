use Rattle.std.proofs.Common.{◌≡◌, true, false, is_some, IfSome, sym, subst, ◌∙◌, rules}
use Rattle.std.specs.Arc.{arc_value}
use Rattle.view_outside.specs.Files.{file_bytes}
use Rattle.live_model.specs.Places.{is_fast}
use Rattle.view_machine.specs.FastBodies.{IsFastBody, fast_word, fast_in, fast_gives}
use Rattle.view_machine.specs.Machines.{MachineSeen, world_of, run_state}
use Rattle.view_machine.proofs.machines.Machine.fast_body.Goals as goal

pub top_body-requires : goal.top_body-requires
top_body-requires g c =
    let m = c.self.inside in
    let bytes = file_bytes (g.S.Store.files m.chain.store) m.chain.file in
    let held : c.is_fast.result ≡ true = search rules in
    let is = sym (fast_word m.chain.mesh.lists bytes m.chain.tiers m.words m.seats m.board c.self.invariant c.args.patch) ∙ sym c.is_fast.ensures ∙ held in
    (fast_in m.chain.mesh.lists bytes m.chain.tiers m.words m.seats m.board c.self.invariant c.args.patch is).0

pub returns-then-is_fast-clause-fast : goal.returns-then-is_fast-clause-fast
returns-then-is_fast-clause-fast g c =
    let m = c.self.inside in
    let bytes = file_bytes (g.S.Store.files m.chain.store) m.chain.file in
    let held : c.is_fast.result ≡ true = search rules in
    let is = sym (fast_word m.chain.mesh.lists bytes m.chain.tiers m.words m.seats m.board c.self.invariant c.args.patch) ∙ sym c.is_fast.ensures ∙ held in
    let gives = fast_gives m.chain.mesh.lists bytes m.chain.tiers m.words m.seats m.board c.self.invariant c.args.patch (λ body. arc_value body.now) c.top_body.result is c.top_body.ensures in
    subst (λ (seen : MachineSeen g.row.S.Denot). is_some c.top_body.result ≡ is_fast (world_of seen) (run_state seen) c.args.patch) c.self.view_is (gives.0 ∙ sym is)

pub returns-then-is_fast-clause-held : goal.returns-then-is_fast-clause-held
returns-then-is_fast-clause-held g c =
    let m = c.self.inside in
    let bytes = file_bytes (g.S.Store.files m.chain.store) m.chain.file in
    let held : c.is_fast.result ≡ true = search rules in
    let is = sym (fast_word m.chain.mesh.lists bytes m.chain.tiers m.words m.seats m.board c.self.invariant c.args.patch) ∙ sym c.is_fast.ensures ∙ held in
    let gives = fast_gives m.chain.mesh.lists bytes m.chain.tiers m.words m.seats m.board c.self.invariant c.args.patch (λ body. arc_value body.now) c.top_body.result is c.top_body.ensures in
    subst (λ (seen : MachineSeen g.row.S.Denot). IfSome c.top_body.result (λ body. IsFastBody (world_of seen) (run_state seen) c.args.patch (arc_value body.now))) c.self.view_is gives.1

pub returns-else-is_fast-clause-fast : goal.returns-else-is_fast-clause-fast
returns-else-is_fast-clause-fast g c =
    let m = c.self.inside in
    let bytes = file_bytes (g.S.Store.files m.chain.store) m.chain.file in
    let away : c.is_fast.result ≡ false = search rules in
    let is = sym away ∙ c.is_fast.ensures ∙ fast_word m.chain.mesh.lists bytes m.chain.tiers m.words m.seats m.board c.self.invariant c.args.patch in
    subst (λ (seen : MachineSeen g.row.S.Denot). false ≡ is_fast (world_of seen) (run_state seen) c.args.patch) c.self.view_is is
