-- The session that opened uses nothing, and the pass neither.
use Rattle.std.proofs.Common.{◌≡◌, ◌≤◌, length, sym, ap, subst, ◌∙◌, arith}
use Rattle.file_model.specs.Lists.{IndexLists}
use Rattle.token_words.specs.PlainTokens.{patch_count, is_user, is_locker, session_of}
use Rattle.token_words.specs.Sessions.{IsSession}
use Rattle.session_locks.specs.Sessions.{SessionSeen}
use Rattle.session_locks.proofs.TestLaws.{opened_pass, viewed, viewed_pass}
use Rattle.session_locks.proofs.tests.seated.Goals as goal

pub returns-clause-pass : goal.returns-clause-pass
returns-clause-pass c =
    let tokens = c.args.tokens.now in
    let session = session_of c.pass-pass.result in
    let one : session ≡ 1 = c.pass-pass.ensures.session in
    let numbered : IsSession session = (omega (arith, one), omega (arith, one)) in
    let fields : c.patch_count.result ≡ length c.args.mesh.now.lists.index.fields = c.patch_count.ensures.value ∙ ap (λ (index : IndexLists). length index.fields) c.index.ensures.value in
    let few : length c.args.mesh.now.lists.index.fields ≤ patch_count tokens = omega (arith, fields, c.if-patch_count-gt7.false, c.requires.patches) in
    let many = subst (λ (s : SessionSeen). length s.mesh.index.fields ≤ patch_count tokens) (sym c.in_ok-session.ensures) few in
    let pass = opened_pass tokens session (length c.args.mesh.now.lists.index.fields) c.in_ok-session.session (ap (λ (s : SessionSeen). s.state) c.in_ok-session.ensures) numbered many c.requires.unused in
    viewed_pass c.in_ok-session.session c.set_view.new.self c.args.view c.set_view.ensures.state (IsSession session) (patch_count tokens) (is_user tokens session) (is_locker tokens session) c.set_view.ensures.same pass

pub returns-clause-view : goal.returns-clause-view
returns-clause-view c = viewed c.in_ok-session.session c.set_view.new.self c.args.view c.set_view.ensures.state
